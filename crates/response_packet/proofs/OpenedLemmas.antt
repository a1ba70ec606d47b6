-- Where the data of an opened packet stand.
use Rattle.std.proofs.Common.{◌≡◌, ℕ, ◌≤◌, Result, Ok, Err, List, length, take, drop, sym, ap, ◌∙◌, arith, length-drop}
use Rattle.std.proofs.lemmas.List.{drop-drop}
use Rattle.response_packet.specs.declared.answers.Answer.{Answer}
use Rattle.response_packet.specs.declared.answers.AnswerIn.{AnswerIn}
use Rattle.response_packet.specs.declared.answers.AnswerErr.{AnswerErr}
use Rattle.response_packet.specs.declared.answers.AnswerErr.TheVariants.{CcWrong, Form, Memory, Padding, Unsecured}
use Rattle.response_packet.specs.Opened.{AnswersBehind, AnswersIn}

-- what stands behind 8 octets stands there
pub in_place : (opened : Result Answer AnswerErr) (result : Result AnswerIn AnswerErr) (octets checked : List ℕ) → 8 ≤ length octets → drop 8 octets ≡ checked
    → AnswersBehind opened result checked → AnswersIn opened result octets
in_place opened (Ok answer) octets checked long is (says, from, fits) =
    let place : drop answer.from octets ≡ drop 13 checked = ap (λ n. drop n octets) from ∙ sym (drop-drop 13 8 octets) ∙ ap (drop 13) is in (
      says ∙ ap (λ rest. Ok (record { tar = answer.tar; counter = answer.counter; status = answer.status; octets = take answer.len rest })) (sym place),
      omega (arith, ap length is, length-drop 8 octets),
    )
in_place opened (Err Form) octets checked long is says = says
in_place opened (Err (Unsecured status)) octets checked long is says = says
in_place opened (Err CcWrong) octets checked long is says = says
in_place opened (Err Padding) octets checked long is says = says
in_place opened (Err Memory) octets checked long is says = absurd says
