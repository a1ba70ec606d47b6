use Rattle.std.proofs.Common.{◌≡◌, ◌++◌, ◌∙◌, ap, replicate, arith}
use Rattle.std.proofs.lemmas.List.{take-replicate}
use Rattle.secured_packet.proofs.fields.put_padding.Goals as goal

pub returns-clause-octets : goal.returns-clause-octets
returns-clause-octets c =
    let is : c.from.result ≡ c.args.padding = c.from.ensures in
    c.put.ensures.octets ∙ ap (λ s. c.args.out.now.items ++ s) (take-replicate c.from.result 16 0 (omega arith) ∙ ap (λ n. replicate n 0) is)
