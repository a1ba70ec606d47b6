-- What the histories of all lanes are after entries were added of which each reservation is for a row.
use Rattle.std.specs.Prelude.{◌≡◌, ℕ, suc, List, [], ◌∷◌, ◌++◌, ⊤, All}
use Rattle.ota_core.specs.declared.jobs.Job.{Job}
use Rattle.ota_core.specs.declared.entries.Entry.{Entry}
use Rattle.ota_core.specs.declared.entries.Entry.TheVariants.{Reserve}
use Rattle.counter_journal.specs.EntryRanges.{IsHistory}
use Rattle.campaigns.specs.Rows.{Among}

-- a reservation is for a row: of its job, on its keyset
abbrev pub IsOfRow : List Job → Entry → Type 0
IsOfRow jobs (Reserve by moment keyset counter id tar name body) = (row : Job) × Among row jobs × (row.id ≡ id) × (row.keyset ≡ keyset)
IsOfRow jobs _ = Unit {0}

-- the history of a lane is longer by such entries
pub record IsGrown (jobs : List Job) (lane lanes : ℕ) (before after : List Entry) : Type 0 where
  pub added : List Entry
  pub is : after ≡ before ++ added
  pub history : IsHistory lane lanes after
  pub rows : All (IsOfRow jobs) added

-- the same of the lanes from this number on
abbrev pub AreGrown : List Job → ℕ → ℕ → List (List Entry) → List (List Entry) → Type 0
AreGrown jobs lanes lane [] [] = ⊤
AreGrown jobs lanes lane (before ∷ befores) (after ∷ afters) = IsGrown jobs lane lanes before after × AreGrown jobs lanes (suc lane) befores afters
AreGrown jobs lanes lane _ _ = ⊥
