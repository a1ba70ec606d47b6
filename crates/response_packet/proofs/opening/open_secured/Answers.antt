use Rattle.std.proofs.Common.{◌≡◌, ℕ, true, Result, List, drop, refl, sym, ◌∙◌, subst, arith, rules}
use Rattle.std.proofs.lemmas.List.{take_rest}
use Rattle.response_packet.specs.declared.answers.Answer.{Answer}
use Rattle.response_packet.specs.declared.answers.AnswerErr.{AnswerErr}
use Rattle.response_packet.specs.Opened.{AnswersBehind, AnswersIn, checked_of, is_authentic, opened_checked, opened_plain, plain_of}
use Rattle.response_packet.proofs.OpenedLemmas.{in_place}
use Rattle.response_packet.proofs.opening.open_secured.Goals as goal

pub returns : goal.returns
returns c =
    let keys = c.args.keys.now in
    let plain : List ℕ = plain_of c.args.ciphered keys.kic c.args.packet.now in
    let work : List ℕ = c.is_authentic.new.plain in
    let authentic : is_authentic keys.kid plain ≡ true = search rules in
    let checked : drop 8 work ≡ checked_of plain = search rules in
    let opened : opened_plain keys.kid plain ≡ opened_checked (checked_of plain) = rw authentic refl in
    let behind : AnswersBehind (opened_checked (checked_of plain)) c.answer_in.result (checked_of plain) =
    let P = λ (s : List ℕ). AnswersBehind (opened_checked s) c.answer_in.result s in subst P (take_rest work 8 ∙ checked) c.answer_in.ensures in
    let Q = λ (o : Result Answer AnswerErr). AnswersIn o c.answer_in.result work in
    subst Q (sym opened) (in_place (opened_checked (checked_of plain)) c.answer_in.result work (checked_of plain) (omega arith) checked behind)
