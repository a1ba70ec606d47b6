-- A history that grew by what a session may add is a history of its lane.
use Rattle.std.proofs.Common.{◌≡◌, ℕ, ◌++◌, List, [], ◌∷◌, reverse, Option, Some, None, refl, sym, ap, subst, ◌∙◌, append_assoc}
use Rattle.std.specs.Option.{option_or}
use Rattle.std.proofs.lemmas.List.{reverse-append}
use Rattle.std.proofs.lemmas.List.Elements.{All-append}
use Rattle.ota_core.specs.History.{broken, broken_batch, IsLegalPast}
use Rattle.ota_core.specs.declared.entries.Entry.{Entry}
use Rattle.ota_core.specs.declared.entries.Illegal.{Illegal}
use Rattle.ota_core.specs.declared.jobs.Job.{Job}
use Rattle.plan_reader.specs.declared.plans.Plan.{Plan}
use Rattle.counter_journal.specs.EntryRanges.{IsEntryOf, IsHistory}
use Rattle.lane_session.specs.Live.{IsGrown}
use Rattle.lane_session.specs.Run.{AreAdded}

first_none : (first second : Option Illegal) → option_or first second ≡ None → (first ≡ None) × (second ≡ None)
first_none None second e = (refl, e)
first_none (Some rule) second e = absurd cc

-- a legal past, and legal entries behind it
legal_past : (past added : List Entry) → IsLegalPast past → broken_batch past added ≡ None → IsLegalPast (reverse added ++ past)
legal_past past [] legal none = legal
legal_past past (entry ∷ added) legal none =
    let both = first_none (broken past entry) (broken_batch (entry ∷ past) added) none in
    let same : reverse added ++ entry ∷ past ≡ reverse (entry ∷ added) ++ past =
    sym (ap (λ (l : List Entry). l ++ past) (reverse-append (entry ∷ []) added) ∙ append_assoc (reverse added) (entry ∷ []) past) in
    subst IsLegalPast same (legal_past (entry ∷ past) added (legal, both.0) both.1)

pub grown_of : (plan : Plan) (jobs : List Job) (lane lanes : ℕ) (before added : List Entry) → IsHistory lane lanes before → AreAdded plan jobs lane lanes before added → IsGrown plan jobs lane lanes before (before ++ added)
grown_of plan jobs lane lanes before added history adds = record {
  added = added;
  is = refl;
  history = record {
    legal = subst IsLegalPast (sym (reverse-append before added)) (legal_past (reverse before) added history.legal adds.legal);
    of_lane = All-append (IsEntryOf lane lanes) before added history.of_lane adds.of_lane;
  };
  rows = adds.rows;
}
