use Rattle.std.proofs.Common.{◌≡◌, ℕ, Option, Some, None, List, [], ◌++◌, refl, sym, find}
use Rattle.ota_core.specs.Entry.{Reservation, is_settlement_of}
use Rattle.ota_core.specs.Outcome.{settled_by, outcome_of_reservation}
use Rattle.ota_core.specs.declared.entries.Entry.{Entry}
use Rattle.ota_core.specs.declared.entries.Entry.TheVariants.{Open, Reserve, Done, Refused, Close}
use Rattle.reports.specs.Report.{outcome_text, unreserved}

-- the note is read only where there is no reservation
note_unread : (note : List ℕ) (place : Reservation) (settled : Option Entry)
    → outcome_text [] (settled_by place settled) ≡ outcome_text note (settled_by place settled)
note_unread note place None = refl
note_unread note place (Some (Open by moment keyset facts)) = refl
note_unread note place (Some (Reserve by moment keyset counter job tar name body)) = refl
note_unread note place (Some (Done by moment keyset counter answer)) = refl
note_unread note place (Some (Refused by moment keyset counter status)) = refl
note_unread note place (Some (Close by moment keyset)) = refl

pub outcome_text_reserved : (note : List ℕ) (past : List Entry) (place : Reservation) (last : Option Reservation) → Some place ≡ last
    → outcome_text note (outcome_of_reservation past last) ≡ outcome_text [] (settled_by place (find (is_settlement_of place) past))
outcome_text_reserved note past place last is = rw (← is) (sym (note_unread note place (find (is_settlement_of place) past)))

pub outcome_text_new : (note : List ℕ) (past : List Entry) (last : Option Reservation) → None ≡ last
    → outcome_text note (outcome_of_reservation past last) ≡ unreserved ++ note
outcome_text_new note past last is = rw (← is) refl
