-- Laws of the making of a journal.
use Rattle.std.proofs.Common.{◌≡◌, ℕ, arith, List, [], length, Result, Ok, Err, refl, inl, inr, sym, subst}
use Rattle.std.specs.Prelude.{OnOk}
use Rattle.gate_log.specs.declared.log_errors.LogErr.{LogErr}
use Rattle.gate_log.specs.Log.{log_octets}
use Rattle.gate_log.specs.Laws.{IsLogOf-log_octets}
use Rattle.gate_log.specs.Spelled.{parts-spelled}
use Rattle.gate_log.specs.Formatting.{FormatAnswer}
use Rattle.counter_journal.specs.declared.versions.Version.TheVariants.{First}
use Rattle.counter_journal.specs.Journal.{journal_head}
use Rattle.counter_journal.specs.JournalReading.{Holds}
use Rattle.counter_journal.specs.JournalMaking.{IsJournalMade}

nine : (lane lanes : ℕ) → length (journal_head lane lanes) ≡ 9
nine lane lanes = refl

-- a log without batches is a journal without entries
holds_none : (lane lanes : ℕ) → Holds lane lanes [] (log_octets (journal_head lane lanes) [])
holds_none lane lanes = record {
  version = First;
  parts = [];
  written = (λ k d below. absurd (omega arith), refl);
  opens = parts-spelled (journal_head lane lanes) [] (log_octets (journal_head lane lanes) []) (nine lane lanes) tt (IsLogOf-log_octets (journal_head lane lanes) []);
}

pub made_journal : (lane lanes : ℕ) (old new : List ℕ) (result : Result (Unit {0}) LogErr) → FormatAnswer (journal_head lane lanes) old new result
    → OnOk result (IsJournalMade lane lanes old new)
made_journal lane lanes old new (Ok done) (inl made) = inl (made.0, subst (Holds lane lanes []) (sym made.1) (holds_none lane lanes))
made_journal lane lanes old new (Ok done) (inr stands) = inr stands
made_journal lane lanes old new (Err error) answer = tt
