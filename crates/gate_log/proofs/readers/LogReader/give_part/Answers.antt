use Rattle.std.proofs.Common.{◌≡◌, ◌<◌, ◌-◌, ◌+◌, ◌^◌, List, ℕ, Some, None, take, drop, length, refl, sym, ◌∙◌, ap, arith}
use Rattle.std.specs.Vec.{vec_len}
use Rattle.std.proofs.lemmas.List.{take_rest}
use Rattle.std.specs.Prelude.{is_some}
use Rattle.gate_log.specs.Reading.{measured, parts_from}
use Rattle.gate_log.specs.Readers.{ReaderState}
use Rattle.gate_log.proofs.ReaderParts.{behind_is, part_is, is_going, next_kept, nothing_left}
use Rattle.gate_log.proofs.readers.LogReader.give_part.Goals as goal

pub overflow_add-self : goal.overflow_add-self
overflow_add-self c =
    let i = c.self.invariant in
    let fits : c.self.inside.given + 1 < 2 ^ 64 = omega (arith, i.counted, i.within.read, i.within.fits) in
    grind (arith, fits)

pub invariant_of-self : goal.invariant_of-self
invariant_of-self c =
    let items = c.self.inside.batch.items in
    let size = vec_len c.self.inside.batch in
    let front = c.len.result - c.self.inside.left in
    let long : length items ≡ size = sym (ap length c.deref.ensures.value) ∙ c.deref.ensures.len in
    let slice : take (length c.deref.result.now - front) (drop front c.deref.result.now) ≡ drop (size - c.self.inside.left) items =
    take_rest c.deref.result.now front ∙ ap (drop front) c.deref.ensures.value ∙ ap (λ (n : ℕ). drop (n - c.self.inside.left) items) c.len.ensures in
    let m : measured (drop (size - c.self.inside.left) items) ≡ Some (c.in-Some.part.now, c.in-Some.behind.now) = ap measured (sym slice) ∙ sym c.in-Some.ensures.found in
    next_kept items size c.self.inside.part c.self.inside.left c.self.inside.given c.self.inside.windows c.self.inside.standing c.self.invariant long c.in-Some.part.now c.in-Some.behind.now m

pub returns-in-None : goal.returns-in-None
returns-in-None c =
    let items = c.self.inside.batch.items in
    let size = vec_len c.self.inside.batch in
    let front = c.len.result - c.self.inside.left in
    let slice : take (length c.deref.result.now - front) (drop front c.deref.result.now) ≡ drop (size - c.self.inside.left) items =
    take_rest c.deref.result.now front ∙ ap (drop front) c.deref.ensures.value ∙ ap (λ (n : ℕ). drop (n - c.self.inside.left) items) c.len.ensures in
    let m : measured (drop (size - c.self.inside.left) items) ≡ None = ap measured (sym slice) ∙ sym c.in-None.ensures.found in
    (sym (ap (λ (s : ReaderState). s.batch) c.self.view_is) ∙ nothing_left (drop (size - c.self.inside.left) items) c.self.invariant.framed m, refl)

pub returns-in-Some : goal.returns-in-Some
returns-in-Some c =
    let items = c.self.inside.batch.items in
    let size = vec_len c.self.inside.batch in
    let front = c.len.result - c.self.inside.left in
    let part = c.in-Some.part.now in
    let behind = c.in-Some.behind.now in
    let long : length items ≡ size = sym (ap length c.deref.ensures.value) ∙ c.deref.ensures.len in
    let slice : take (length c.deref.result.now - front) (drop front c.deref.result.now) ≡ drop (size - c.self.inside.left) items =
    take_rest c.deref.result.now front ∙ ap (drop front) c.deref.ensures.value ∙ ap (λ (n : ℕ). drop (n - c.self.inside.left) items) c.len.ensures in
    let m : measured (drop (size - c.self.inside.left) items) ≡ Some (part, behind) = ap measured (sym slice) ∙ sym c.in-Some.ensures.found in
    let v = c.self.view_is in
    let batch : drop (size - c.self.inside.left) items ≡ c.args.self.now.batch = ap (λ (s : ReaderState). s.batch) v in
    let kept = c.self.invariant in
    let new_part = part_is items size c.self.inside.part c.self.inside.left c.self.inside.given c.self.inside.windows c.self.inside.standing kept long part behind m in
    let new_batch = behind_is items size c.self.inside.part c.self.inside.left c.self.inside.given c.self.inside.windows c.self.inside.standing kept long part behind m in
    let going = is_going items size c.self.inside.part c.self.inside.left c.self.inside.given c.self.inside.windows c.self.inside.standing kept long part behind m in (
      ap measured (sym batch) ∙ m ∙ ap (λ (p : List ℕ). Some (p, behind)) (sym new_part) ∙ ap (λ (b : List ℕ). Some (take (length part) (drop (size - length behind - length part) items), b)) (sym new_batch),
      ap (λ (l : List ℕ). is_some (parts_from 0 l)) (sym batch) ∙ kept.framed,
      sym (ap (λ (s : ReaderState). s.standing) v) ∙ going,
      ap (λ (s : ReaderState). s.given + 1) v,
      ap (λ (s : ReaderState). s.windows) v,
      ap (λ (s : ReaderState). s.standing) v,
    )
