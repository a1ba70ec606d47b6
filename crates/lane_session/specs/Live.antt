-- What the histories of all lanes are after a session has added to them.
use Rattle.std.specs.Prelude.{◌≡◌, ℕ, suc, List, [], ◌∷◌, ◌++◌, ⊤, All}
use Rattle.ota_core.specs.declared.jobs.Job.{Job}
use Rattle.ota_core.specs.declared.entries.Entry.{Entry}
use Rattle.plan_reader.specs.declared.plans.Plan.{Plan}
use Rattle.counter_journal.specs.EntryRanges.{IsHistory}
use Rattle.lane_session.specs.Rows.{IsAddedFor}

-- the history of a lane is longer by what the session may add for the plan and the rows
pub record IsGrown (plan : Plan) (jobs : List Job) (lane lanes : ℕ) (before after : List Entry) : Type 0 where
  pub added : List Entry
  pub is : after ≡ before ++ added
  pub history : IsHistory lane lanes after
  pub rows : All (IsAddedFor plan jobs before) added

-- the same of the lanes from this number on
abbrev pub AreGrown : Plan → List Job → ℕ → ℕ → List (List Entry) → List (List Entry) → Type 0
AreGrown plan jobs lanes lane [] [] = ⊤
AreGrown plan jobs lanes lane (before ∷ befores) (after ∷ afters) = IsGrown plan jobs lane lanes before after × AreGrown plan jobs lanes (suc lane) befores afters
AreGrown plan jobs lanes lane _ _ = ⊥
