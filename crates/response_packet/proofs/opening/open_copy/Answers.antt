use Rattle.std.proofs.Common.{◌≡◌, Ok, length, take, drop, sym, ap, ◌∙◌, arith, rules}
use Rattle.std.proofs.lemmas.List.{take_at}
use Rattle.response_packet.specs.Opened.{opened_plain, plain_of}
use Rattle.response_packet.proofs.opening.open_copy.Goals as goal

pub returns-in-Ok : goal.returns-in-Ok
returns-in-Ok c =
    let answer = c.in-Ok.answer in
    let keys = c.args.keys.now in
    let read : c.deref_mut.result.now ≡ c.args.packet.now = search rules in
    let kept : length c.open_secured.new.packet ≡ c.in_ok-work.work.len = omega arith in
    let octets : c.in_ok-octets-in-Ok.octets ≡ take answer.len (drop answer.from c.open_secured.new.packet) =
    c.in_ok-octets-in-Ok.ensures ∙ ap (λ work. take answer.len (drop answer.from work)) (c.deref.ensures.value ∙ take_at c.open_secured.new.packet _ c.in_ok-work.work.len kept) in
    sym (ap (λ packet. opened_plain keys.kid (plain_of c.args.ciphered keys.kic packet)) read)
    ∙ c.in-Ok.ensures.0
    ∙ ap (λ octets. Ok (record { tar = answer.tar; counter = answer.counter; status = answer.status; octets = octets })) (sym octets)
