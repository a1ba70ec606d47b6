use Rattle.std.proofs.Common.{◌≡◌, ℕ, List, [], ◌∷◌, ◌++◌, length, get_or, sym, ap, ◌∙◌, rules}
use Rattle.secured_packet.specs.Secured.{five, two}
use Rattle.response_packet.specs.Opened.{opens}
use Rattle.response_packet.proofs.AnsweredLemmas.{plain-opens, three_octets}
use Rattle.response_packet.proofs.building.build_plain.Goals as goal

-- the unsecured form of the octets of its fields
abbrev framed : List ℕ → List ℕ → ℕ → List ℕ
framed tar counter status = two 11 ++ 0x0A ∷ tar ++ (counter ++ 0 ∷ status ∷ [])

three : (c : goal.After-to_be_bytes) → length c.tar.inside.0 ≡ 3
three c = search rules

pub returns-clause-packet : goal.returns-clause-packet
unfolding two five
returns-clause-packet c =
    let tar : get_or c.tar.inside.0 0 0 ∷ get_or c.tar.inside.0 1 0 ∷ get_or c.tar.inside.0 2 0 ∷ [] ≡ c.args.tar = three_octets c.tar.inside.0 (three c) ∙ c.tar.view_is in
    let number : get_or c.to_be_bytes.result 3 0 ∷ get_or c.to_be_bytes.result 4 0 ∷ get_or c.to_be_bytes.result 5 0 ∷ get_or c.to_be_bytes.result 6 0 ∷ get_or c.to_be_bytes.result 7 0 ∷ [] ≡ five c.args.counter =
    ap (λ r. get_or r 3 0 ∷ get_or r 4 0 ∷ get_or r 5 0 ∷ get_or r 6 0 ∷ get_or r 7 0 ∷ []) c.to_be_bytes.ensures ∙ ap five c.counter.view_is in
    λ i. framed (tar i) (number i) c.args.status

pub returns-clause-opens : goal.returns-clause-opens
returns-clause-opens c = λ keys ciphered.
    ap (opens keys ciphered) (returns-clause-packet c)
    ∙ plain-opens keys ciphered c.args.tar c.args.counter c.args.status (sym (ap length c.tar.view_is) ∙ three c)
