-- A reply tells how a command ended: 9000 where it was done. ETSI TS 102 221, 10.2.1.
use Rattle.std.specs.Prelude.{◌≡◌, ℕ, [], Result, Ok, Err}
use Rattle.arrayvec.specs.ArrayVec.{ArrayVec}
use Rattle.apdu_codec.specs.declared.refusal.Refusal.{Refusal}
use Rattle.apdu_codec.specs.declared.reply.Reply.{Reply}
use Rattle.apdu_codec.specs.Refusal.{status_word_of}

abbrev pub Replies : Result (ArrayVec ℕ) Refusal → Reply → Type 0
Replies (Ok out) reply = (reply.sw ≡ 0x9000) × (reply.out.items ≡ out.items)
Replies (Err refusal) reply = (reply.sw ≡ status_word_of refusal) × (reply.out.items ≡ [])
