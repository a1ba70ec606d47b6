use Rattle.std.specs.Prelude.{ℕ, List, codes}
use Rattle.reports.specs.declared.notes.Note.{Note}
use Rattle.reports.specs.declared.notes.Note.TheVariants.{New, Closed, Exhausted, Open}

-- what the report says of it
abbrev pub note_text : Note → List ℕ
note_text New = codes "new"
note_text Closed = codes "closed"
note_text Exhausted = codes "exhausted"
note_text Open = codes "-"
