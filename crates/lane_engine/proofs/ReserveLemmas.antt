-- What the book answers of a job.
use Rattle.std.proofs.Common.{◌≡◌, Option, Some, None, List, refl, ◌∙◌}
use Rattle.std.specs.Prelude.{find}
use Rattle.std.specs.List.{list_any}
use Rattle.ota_core.specs.Entry.{Reservation, is_refusal_of, is_settlement_of}
use Rattle.ota_core.specs.History.{IsLegalPast}
use Rattle.ota_core.specs.declared.entries.Entry.{Entry}
use Rattle.ota_core.specs.declared.entries.Entry.TheVariants.{Open, Reserve, Done, Refused, Close}
use Rattle.keyset_book.specs.Answers.{settled_in}
use Rattle.keyset_book.specs.Book.{standing_of}
use Rattle.keyset_book.specs.Rules.{is_refused}
use Rattle.keyset_book.proofs.RuleLemmas.{refused-is}
use Rattle.lane_engine.specs.Reserving.{is_refusal}

same_refusal : (settlement : Option Entry) → is_refusal (settled_in settlement) ≡ is_refused (Some (standing_of settlement))
same_refusal None = refl
same_refusal (Some (Open by moment keyset facts)) = refl
same_refusal (Some (Reserve by moment keyset counter job tar name body)) = refl
same_refusal (Some (Done by moment keyset counter answer)) = refl
same_refusal (Some (Refused by moment keyset counter status)) = refl
same_refusal (Some (Close by moment keyset)) = refl

-- in a legal past a counter is refused where its settlement is a refusal
pub refusal-is : (place : Reservation) (past : List Entry) → IsLegalPast past → is_refusal (settled_in (find (is_settlement_of place) past)) ≡ list_any (is_refusal_of place) past
refusal-is place past legal = same_refusal (find (is_settlement_of place) past) ∙ refused-is place past legal
