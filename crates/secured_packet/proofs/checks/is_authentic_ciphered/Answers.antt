use Rattle.std.proofs.Common.{◌≡◌, ℕ, ◌+◌, ◌-◌, List, ◌++◌, length, take, drop, subst, ap, sym, ◌∙◌, arith, rules}
use Rattle.std.specs.Str.{bytes_eq}
use Rattle.std.proofs.lemmas.List.{take_rest}
use Rattle.aes_modes.specs.Modes.{cbc_plain_of, plain_block}
use Rattle.aes_modes.specs.Streams.{state_after}
use Rattle.secured_packet.specs.Secured.{checksum_of, has_checksum}
use Rattle.secured_packet.proofs.CheckLemmas.{checksum-first, parted}
use Rattle.secured_packet.proofs.checks.is_authentic_ciphered.Goals as goal

pub returns-clause-authentic : goal.returns-clause-authentic
returns-clause-authentic c = λ before is.
    let kid : List ℕ = c.args.keys.now.kid in
    let kic : List ℕ = c.args.keys.now.kic in
    let octets : List ℕ = c.args.octets.now in
    let front : ℕ = c.args.front in
    let first : List ℕ = c.plain_block-first.result in
    let block : first ≡ plain_block kic octets 0 = c.plain_block-first.ensures ∙ ap (λ k. plain_block k octets 0) c.kic.ensures in
    let whole : length first ≡ 16 = search rules in
    let others : List ℕ = drop 16 (cbc_plain_of kic octets) in
    let plain : cbc_plain_of kic octets ≡ first ++ others =
    parted kic octets (ap length (sym block) ∙ whole) c.requires.some ∙ ap (λ s. s ++ others) (sym block) in
    let P = λ (k : List ℕ). (text : List ℕ) → c.args.mac ≡ state_after k text → c.take.new.self ≡ state_after k (text ++ take front first) in
    let one = subst P c.kid.ensures c.take.ensures before is in
    let rest : take (16 - (front + 8)) (drop (front + 8) first) ≡ drop (front + 8) first =
    ap (λ n. take (n - (front + 8)) (drop (front + 8) first)) (sym whole) ∙ take_rest first (front + 8) in
    let Q = λ (k : List ℕ). (text : List ℕ) → c.take.new.self ≡ state_after k text → c.take-2.new.self ≡ state_after k (text ++ take (16 - (front + 8)) (drop (front + 8) first)) in
    let two' = subst Q c.kid-2.ensures c.take-2.ensures (before ++ take front first) one ∙ ap (λ s. state_after kid ((before ++ take front first) ++ s)) rest in
    let three = c.take_later_blocks.ensures.taken ((before ++ take front first) ++ drop (front + 8) first) two' in
    let R = λ (k : List ℕ). (text : List ℕ) → c.take_later_blocks.new.mac ≡ state_after k text → c.code8.result ≡ checksum_of k text in
    let code = subst R c.kid-3.ensures c.code8.ensures (((before ++ take front first) ++ drop (front + 8) first) ++ others) three in
    let eight : front + 8 - front ≡ 8 = omega arith in
    let given : c.copy_from_slice.new.self ≡ take 8 (drop front first) = c.copy_from_slice.ensures.after ∙ ap (λ n. take n (drop front first)) eight in
    c.eq.ensures ∙ (λ i. bytes_eq (given i) (code i)) ∙ checksum-first first others front whole c.requires.front kid before
    ∙ ap (has_checksum kid before front) (sym plain)

pub returns-clause-len : goal.returns-clause-len
returns-clause-len c = omega (arith, c.take_later_blocks.ensures.len, c.requires.blocks)
