-- What a call that changes a file, or reads it, made of a definition's result.
use Rattle.std.specs.Prelude.{◌≡◌, Result, Ok, Err}
use Rattle.apdu_codec.specs.declared.refusal.Refusal.{Refusal}

-- the call answers what the definition gives, seen by a view; a refusal is the definition's
abbrev pub Gives : {A B : Type 0} → (A → B) → Result A Refusal → Result B Refusal → Type 0
Gives view (Ok value) made = made ≡ Ok (view value)
Gives view (Err refusal) made = made ≡ Err refusal

-- the call leaves what the definition gives; where it is refused, all is as before
abbrev pub Makes : {S : Type 0} → S → S → Result (Unit {0}) Refusal → Result S Refusal → Type 0
Makes before after (Ok _) made = made ≡ Ok after
Makes before after (Err refusal) made = (made ≡ Err refusal) × (after ≡ before)

-- the same of a call that gives a value too
abbrev pub MakesAndGives : {S A B : Type 0} → (A → B) → S → S → Result A Refusal → Result (S × B) Refusal → Type 0
MakesAndGives view before after (Ok value) made = made ≡ Ok (after, view value)
MakesAndGives view before after (Err refusal) made = (made ≡ Err refusal) × (after ≡ before)
