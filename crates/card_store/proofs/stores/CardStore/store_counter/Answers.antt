use Rattle.std.proofs.Common.{◌≡◌, ◌⊎◌, ◌+◌, ◌<◌, ◌≤◌, ℕ, true, is_some, Some, List, length, Err, sym, ap, subst, ◌∙◌, arith}
use Rattle.std.proofs.lemmas.Result.{err_from_is_err_and}
use Rattle.std.proofs.lemmas.Bool.{leb-true}
use Rattle.disk_model.specs.Disk.{Tells, DiskRun}
use Rattle.gate_log.specs.Opening.{LIMIT}
use Rattle.card_store.specs.Content.{Content, keyset_of, stored, took}
use Rattle.card_store.specs.Laws.{after_counter}
use Rattle.card_store.specs.Parts.{counter_part}
use Rattle.card_store.specs.Replay.{Holds, after_part}
use Rattle.card_store.specs.Store.{Shown, Shows, StandsFor, Fits}
use Rattle.card_store.proofs.StoreLaws.{stands_unready, stands_next, run_none, may_of, named_kvn, fault_answer, room_begun}
use Rattle.card_store.proofs.stores.CardStore.store_counter.Goals as goal

pub invariant_of-self : goal.invariant_of-self
invariant_of-self g c =
    let inside = c.self.inside in (
      c.self.invariant.0,
      c.self.invariant.1,
      subst (λ (shown : Shown). StandsFor g.D.DiskCalls.told (record { disk = inside.disk; facts = inside.facts; shown = shown; length = inside.log; ready = inside.ready }) c.self.invariant.1)
          (sym c.in_err-store_counter.ensures.err) c.self.invariant.2,
    )

pub returns-in_err-store_counter-clause-moments : goal.returns-in_err-store_counter-clause-moments
returns-in_err-store_counter-clause-moments g c =
    let told = g.D.DiskCalls.told in
    let ready = ap (λ s. s.ready) c.self.view_is ∙ c.requires.ready in
    subst (λ s. Tells told s.disk → (content : Content) → StandsFor told s content
    → DiskRun told s.disk c.self.inside.disk (λ image. Holds s.facts content image ⊎ Holds s.facts (took s.facts content c.args.kvn c.args.counter c.args.tar c.args.body.now 0) image))
    c.self.view_is
    (λ tells content stands. run_none told c.self.inside.disk c.self.inside.facts c.self.inside.log content (took c.self.inside.facts content c.args.kvn c.args.counter c.args.tar c.args.body.now 0) (stands.kept ready tells))

-- the length of the log and what is needed are within the limit
abbrev within : (g : _) (c : goal.After-batch-2-1 g) → c.self.inside.log + c.counter_need-need.result ≤ LIMIT
within g c = subst (λ (n : ℕ). n + c.counter_need-need.result ≤ LIMIT) c.length-length.ensures (leb-true (c.length-length.result + c.counter_need-need.result) LIMIT (sym c.has_room.ensures ∙ c.if-not-has_room.false))

pub append_part-requires-clause-fits : goal.append_part-requires-clause-fits
append_part-requires-clause-fits g c =
    let need = c.counter_need-need.ensures.need in
    omega (arith, within g c, c.in_ok-batch.ensures.need, need.2)

-- the length of the log and what is needed are within the limit
abbrev within_err : (g : _) (c : goal.After-drop-batch-inside-in_err-append_part g) → c.self.inside.log + c.counter_need-need.result ≤ LIMIT
within_err g c = subst (λ (n : ℕ). n + c.counter_need-need.result ≤ LIMIT) c.length-length.ensures (leb-true (c.length-length.result + c.counter_need-need.result) LIMIT (sym c.has_room.ensures ∙ c.if-not-has_room.false))

-- the card with the counter is lent
abbrev lends_err : (g : _) (c : goal.After-drop-batch-inside-in_err-append_part g) (content : Content) → Shows content c.self.inside.kept
    → Shows (took c.self.inside.facts content c.args.kvn c.args.counter c.args.tar c.args.body.now 0) c.store_counter.new.self
lends_err g c content shows =
    subst (λ (kvn : ℕ). Shows (took c.self.inside.facts content kvn c.args.counter c.args.tar c.args.body.now 0) c.store_counter.new.self)
    (named_kvn c.self.inside.facts c.self.inside.kept.card c.args.kvn c.unwrap-keyset.result (sym c.named.ensures ∙ c.unwrap-keyset.ensures)) (c.in_ok-store_counter.ensures.stored content shows)

-- the part leads to that card
abbrev leads_err : (g : _) (c : goal.After-drop-batch-inside-in_err-append_part g) (content : Content) → Shows content c.self.inside.kept
    → after_part c.self.inside.facts content (counter_part c.args.kvn c.args.counter c.args.tar c.args.body.now) ≡ Some (took c.self.inside.facts content c.args.kvn c.args.counter c.args.tar c.args.body.now 0)
leads_err g c content shows =
    let facts = c.self.inside.facts in
    let known = subst (λ s. is_some (keyset_of s.facts s.shown.card c.args.kvn) ≡ true) (sym c.self.view_is) c.requires.known in
    let above = subst (λ s. (content : Content) → Shows content s.shown → stored s.facts content c.args.kvn < c.args.counter) (sym c.self.view_is) c.requires.above in
    after_counter facts content c.args.kvn c.args.counter c.args.tar c.args.body.now (may_of facts content c.self.inside.kept c.args.kvn c.args.counter shows known (above content shows))
    c.in_ok-batch.ensures.ranges.0 c.in_ok-batch.ensures.ranges.1

abbrev is_ready_err : (g : _) (c : goal.After-drop-batch-inside-in_err-append_part g) → c.self.inside.ready ≡ true
is_ready_err g c = ap (λ s. s.ready) c.self.view_is ∙ c.requires.ready

pub invariant_of-self-in_err-append_part : goal.invariant_of-self-in_err-append_part
invariant_of-self-in_err-append_part g c =
    let facts = c.self.inside.facts in
    let content = c.self.invariant.1 in
    let next = took facts content c.args.kvn c.args.counter c.args.tar c.args.body.now 0 in
    (c.self.invariant.0, next, stands_unready g.D.DiskCalls.told c.append_part.new.disk facts c.store_counter.new.self c.append_part.new.log next (lends_err g c content c.self.invariant.2.shows))

pub returns-in_err-append_part-clause-moments : goal.returns-in_err-append_part-clause-moments
returns-in_err-append_part-clause-moments g c =
    let told = g.D.DiskCalls.told in
    subst (λ s. Tells told s.disk → (content : Content) → StandsFor told s content
    → DiskRun told s.disk c.append_part.new.disk (λ image. Holds s.facts content image ⊎ Holds s.facts (took s.facts content c.args.kvn c.args.counter c.args.tar c.args.body.now 0) image))
    c.self.view_is
    (λ tells content stands.
    let facts = c.self.inside.facts in
    c.append_part.ensures.moments tells facts content (took facts content c.args.kvn c.args.counter c.args.tar c.args.body.now 0) (counter_part c.args.kvn c.args.counter c.args.tar c.args.body.now)
    c.in_ok-batch.ensures.part (stands.kept (is_ready_err g c) tells) (leads_err g c content stands.shows))

pub returns-in_err-append_part-clause-answer : goal.returns-in_err-append_part-clause-answer
returns-in_err-append_part-clause-answer g c =
    let p = err_from_is_err_and c.from_residual-in_err-append_part.result c.from_residual-in_err-append_part.ensures.1 in
    let fits : Fits c.args.self.now.length c.args.body.now =
    subst (λ s. Fits s.length c.args.body.now) c.self.view_is (c.counter_need-need.result, c.counter_need-need.ensures.need, within_err g c) in
    rw (p.1, p.2) (fault_answer c.args.self.now.length c.args.body.now c.in_err-append_part.field-0.0 fits c.in_err-append_part.ensures.err)

-- the length of the log and what is needed are within the limit
abbrev within_ok : (g : _) (c : goal.After-drop-batch-inside-2 g) → c.self.inside.log + c.counter_need-need.result ≤ LIMIT
within_ok g c = subst (λ (n : ℕ). n + c.counter_need-need.result ≤ LIMIT) c.length-length.ensures (leb-true (c.length-length.result + c.counter_need-need.result) LIMIT (sym c.has_room.ensures ∙ c.if-not-has_room.false))

-- the card with the counter is lent
abbrev lends_ok : (g : _) (c : goal.After-drop-batch-inside-2 g) (content : Content) → Shows content c.self.inside.kept
    → Shows (took c.self.inside.facts content c.args.kvn c.args.counter c.args.tar c.args.body.now 0) c.store_counter.new.self
lends_ok g c content shows =
    subst (λ (kvn : ℕ). Shows (took c.self.inside.facts content kvn c.args.counter c.args.tar c.args.body.now 0) c.store_counter.new.self)
    (named_kvn c.self.inside.facts c.self.inside.kept.card c.args.kvn c.unwrap-keyset.result (sym c.named.ensures ∙ c.unwrap-keyset.ensures)) (c.in_ok-store_counter.ensures.stored content shows)

-- the part leads to that card
abbrev leads_ok : (g : _) (c : goal.After-drop-batch-inside-2 g) (content : Content) → Shows content c.self.inside.kept
    → after_part c.self.inside.facts content (counter_part c.args.kvn c.args.counter c.args.tar c.args.body.now) ≡ Some (took c.self.inside.facts content c.args.kvn c.args.counter c.args.tar c.args.body.now 0)
leads_ok g c content shows =
    let facts = c.self.inside.facts in
    let known = subst (λ s. is_some (keyset_of s.facts s.shown.card c.args.kvn) ≡ true) (sym c.self.view_is) c.requires.known in
    let above = subst (λ s. (content : Content) → Shows content s.shown → stored s.facts content c.args.kvn < c.args.counter) (sym c.self.view_is) c.requires.above in
    after_counter facts content c.args.kvn c.args.counter c.args.tar c.args.body.now (may_of facts content c.self.inside.kept c.args.kvn c.args.counter shows known (above content shows))
    c.in_ok-batch.ensures.ranges.0 c.in_ok-batch.ensures.ranges.1

abbrev is_ready_ok : (g : _) (c : goal.After-drop-batch-inside-2 g) → c.self.inside.ready ≡ true
is_ready_ok g c = ap (λ s. s.ready) c.self.view_is ∙ c.requires.ready

pub invariant_of-self-2 : goal.invariant_of-self-2
invariant_of-self-2 g c =
    let told = g.D.DiskCalls.told in
    let inside = c.self.inside in
    let content = c.self.invariant.1 in
    let stands = c.self.invariant.2 in
    let next = took inside.facts content c.args.kvn c.args.counter c.args.tar c.args.body.now 0 in
    let added = c.in_ok-append_part.ensures in (
      c.self.invariant.0,
      next,
      stands_next told inside.disk c.append_part.new.disk inside.facts inside.kept c.store_counter.new.self inside.log c.append_part.new.log inside.ready content next (is_ready_ok g c) added.tells stands
          (lends_ok g c content stands.shows)
          (λ tells kept. added.kept tells inside.facts content next (counter_part c.args.kvn c.args.counter c.args.tar c.args.body.now) c.in_ok-batch.ensures.part kept (leads_ok g c content stands.shows)),
    )

pub returns-clause-stored : goal.returns-clause-stored
returns-clause-stored g c =
    let told = g.D.DiskCalls.told in
    let inside = c.self.inside in
    let added = c.in_ok-append_part.ensures in
    subst (λ s. (content : Content) → StandsFor told s content
    → StandsFor told (record { disk = c.append_part.new.disk; facts = inside.facts; shown = c.store_counter.new.self; length = c.append_part.new.log; ready = true })
    (took s.facts content c.args.kvn c.args.counter c.args.tar c.args.body.now 0))
    c.self.view_is
    (λ content stands.
    let next = took inside.facts content c.args.kvn c.args.counter c.args.tar c.args.body.now 0 in
    stands_next told inside.disk c.append_part.new.disk inside.facts inside.kept c.store_counter.new.self inside.log c.append_part.new.log inside.ready content next (is_ready_ok g c) added.tells stands
    (lends_ok g c content stands.shows)
    (λ tells kept. added.kept tells inside.facts content next (counter_part c.args.kvn c.args.counter c.args.tar c.args.body.now) c.in_ok-batch.ensures.part kept (leads_ok g c content stands.shows)))

pub returns-clause-moments : goal.returns-clause-moments
returns-clause-moments g c =
    let told = g.D.DiskCalls.told in
    subst (λ s. Tells told s.disk → (content : Content) → StandsFor told s content
    → DiskRun told s.disk c.append_part.new.disk (λ image. Holds s.facts content image ⊎ Holds s.facts (took s.facts content c.args.kvn c.args.counter c.args.tar c.args.body.now 0) image))
    c.self.view_is
    (λ tells content stands.
    let facts = c.self.inside.facts in
    c.append_part.ensures.moments tells facts content (took facts content c.args.kvn c.args.counter c.args.tar c.args.body.now 0) (counter_part c.args.kvn c.args.counter c.args.tar c.args.body.now)
    c.in_ok-batch.ensures.part (stands.kept (is_ready_ok g c) tells) (leads_ok g c content stands.shows))

pub returns-clause-answer : goal.returns-clause-answer
returns-clause-answer g c = subst (λ s. Fits s.length c.args.body.now) c.self.view_is (c.counter_need-need.result, c.counter_need-need.ensures.need, within_ok g c)

pub returns-clause-room : goal.returns-clause-room
returns-clause-room g c =
    let content = c.self.invariant.1 in
    let need = c.counter_need-need.ensures.need in
    room_begun c.self.inside.facts content c.args.kvn c.args.counter c.args.tar c.args.body.now c.append_part.new.log c.store_counter.new.self.script need.0 (lends_ok g c content c.self.invariant.2.shows).script need.1
    (omega (arith, within_ok g c, c.in_ok-append_part.ensures.length, c.in_ok-batch.ensures.need, need.2))

pub returns-clause-length : goal.returns-clause-length
returns-clause-length g c = omega (arith, c.in_ok-append_part.ensures.length, c.in_ok-batch.ensures.need, ap (λ s. s.length) c.self.view_is)
