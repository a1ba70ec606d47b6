-- What a command does to a state of type S, and what it is answered.
use Rattle.std.specs.Prelude.{ℕ, List, [], Result, Ok, Err}
use Rattle.apdu_codec.specs.declared.refusal.Refusal.{Refusal}
use Rattle.apdu_codec.specs.declared.reply.Reply.{Reply}
use Rattle.apdu_codec.specs.Refusal.{status_word_of}

-- the state after a command, the status word and the data
pub record Answer (S : Type 0) : Type 0 where
  pub after : S
  pub sw : ℕ
  pub out : List ℕ

-- the answer of a command that ends in this way, begun at the state `before`: 9000 for one that was done
-- (ETSI TS 102 221, 10.2.1.1); one that is refused changes nothing and gives no data
abbrev pub answer : {S : Type 0} → S → Result (S × List ℕ) Refusal → Answer S
answer before (Ok run) = record { after = run.0; sw = 0x9000; out = run.1 }
answer before (Err refusal) = record { after = before; sw = status_word_of refusal; out = [] }

-- what a call answered that left the state `after`
abbrev pub answered : {S : Type 0} → S → Reply → Answer S
answered after reply = record { after = after; sw = reply.sw; out = reply.out.items }
