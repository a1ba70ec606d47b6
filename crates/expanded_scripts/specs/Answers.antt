-- The run of an expanded command script on a card, and the response script. ETSI TS 102 226, 5.2.2; tags by
-- ETSI TS 101 220, 7.2.
use Rattle.std.specs.Prelude.{◌≡◌, ℕ, ◌==◌, min, ◌/◌, ◌%◌, if◌then◌else◌, List, [], ◌∷◌, ◌++◌, length, flat_map}
use Rattle.apdu_codec.specs.Reply.{Answer}
use Rattle.script_engine.specs.declared.card.CardState.{CardState}
use Rattle.script_engine.specs.declared.part.Part.{Part}
use Rattle.script_engine.specs.Step.{script_step}
use Rattle.expanded_scripts.specs.Written.{element}

-- what a command is answered as the only one of a compact script, on what stands selected
abbrev pub answer_alone : CardState → Part → List ℕ → Answer CardState
answer_alone card part command = (script_step card part command 0).0

-- the answers to the executed commands, in their order: each runs on what the one before left, up to the first
-- status word other than 9000
abbrev pub answers : CardState → Part → List (List ℕ) → List (Answer CardState)
answers card part [] = []
answers card part (command ∷ commands) =
    let made = answer_alone card part command in
    made ∷ (if made.sw == 0x9000 then answers made.after part commands else [])

-- the card behind the last of these answers
abbrev pub left_by : CardState → List (Answer CardState) → CardState
left_by card [] = card
left_by card (made ∷ others) = left_by made.after others

-- an executed command's entry: the tag 23, the length, the data and the status word, high octet first
abbrev pub entry_of : Answer CardState → List ℕ
entry_of made = element 0x23 (made.out ++ made.sw / 256 ∷ made.sw % 256 ∷ [])

-- the response script: the tag AB, the length; the tag 80 with the number of executed commands, at most 255; an
-- entry for each of them
abbrev pub response_of : List (Answer CardState) → List ℕ
response_of made = element 0xAB (0x80 ∷ 0x01 ∷ min (length made) 255 ∷ flat_map entry_of made)

-- some first commands were executed, and left the card so
pub record HasBegun (card : CardState) (part : Part) (commands : List (List ℕ)) (after : CardState) : Type 0 where
  pub first : List (Answer CardState)
  pub others : List (Answer CardState)
  pub in_order : answers card part commands ≡ first ++ others
  pub left : after ≡ left_by card first
