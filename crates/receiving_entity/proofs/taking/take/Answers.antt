use Rattle.std.proofs.Common.{◌≡◌, ◌⊎◌, ℕ, ◌+◌, List, length, subst, sym, ap}
use Rattle.card_store.specs.Content.{took}
use Rattle.card_store.specs.Replay.{Holds}
use Rattle.card_store.specs.Store.{CounterAnswer, Fits, StandsFor, StoreValue}
use Rattle.disk_model.specs.Disk.{DiskRun, Tells}
use Rattle.std.specs.Prelude.{Err}
use Rattle.receiving_entity.specs.Answer.{octets_of}
use Rattle.receiving_entity.specs.Taking.{taken}
use Rattle.receiving_entity.proofs.TakeLemmas.{IsAround, answered_whole, called_first, called_later, cut_whole, unstored, way_first, whole_run}
use Rattle.receiving_entity.proofs.taking.take.Goals as goal

pub returns-in-Err-clause-reacts : goal.returns-in-Err-clause-reacts
returns-in-Err-clause-reacts g c = λ content stands.
    let told = g.D.DiskCalls.told in
    let old = c.args.store.now in
    let mid = c.store_counter.new.self in
    let keys = c.args.keys.now in
    let command = c.args.command.now in
    let body : c.as_slice.result.now ≡ command.body = c.as_slice.ensures in
    let e = c.in-Err.ensures in
    let run : Tells told old.disk → DiskRun told old.disk mid.disk (IsAround told old mid content keys command) =
    subst (λ (b : List ℕ). Tells told old.disk → DiskRun told old.disk mid.disk (λ image. Holds old.facts content image ⊎ Holds old.facts (took old.facts content command.kvn command.counter command.tar b 0) image)) body
    (λ t. e.moments t content stands) in
    unstored told old mid content keys command run c.in-Err.error c.stop_by.result c.stop_by.ensures
    (subst (λ (b : List ℕ). CounterAnswer old.length b (Err c.in-Err.error)) body e.answer) e.unchanged e.clock

pub returns-in-Err-clause-moments : goal.returns-in-Err-clause-moments
returns-in-Err-clause-moments g c = λ tells content stands.
    let told = g.D.DiskCalls.told in
    let old = c.args.store.now in
    let mid = c.store_counter.new.self in
    let keys = c.args.keys.now in
    let command = c.args.command.now in
    let body : c.as_slice.result.now ≡ command.body = c.as_slice.ensures in
    let e = c.in-Err.ensures in
    let run : Tells told old.disk → DiskRun told old.disk mid.disk (IsAround told old mid content keys command) =
    subst (λ (b : List ℕ). Tells told old.disk → DiskRun told old.disk mid.disk (λ image. Holds old.facts content image ⊎ Holds old.facts (took old.facts content command.kvn command.counter command.tar b 0) image)) body
    (λ t. e.moments t content stands) in
    way_first told old mid content keys command run tells

pub returns-in-Ok-finish-clause-reacts : goal.returns-in-Ok-finish-clause-reacts
returns-in-Ok-finish-clause-reacts g c = λ content stands.
    let told = g.D.DiskCalls.told in
    let old = c.args.store.now in
    let mid = c.store_counter.new.self in
    let keys = c.args.keys.now in
    let command = c.args.command.now in
    let body : c.as_slice.result.now ≡ command.body = c.as_slice.ensures in
    let e = c.in-Ok.ensures in
    let run : Tells told old.disk → DiskRun told old.disk mid.disk (IsAround told old mid content keys command) =
    subst (λ (b : List ℕ). Tells told old.disk → DiskRun told old.disk mid.disk (λ image. Holds old.facts content image ⊎ Holds old.facts (took old.facts content command.kvn command.counter command.tar b 0) image)) body
    (λ t. e.moments t content stands) in
    let new = c.finish.new.store in
    let facts : mid.facts ≡ old.facts = ap (λ (s : StoreValue g.row.D.Denot). s.facts) e.same in
    let fits : Fits old.length command.body = subst (Fits old.length) body e.answer in
    let size : mid.length ≡ old.length + 19 + length command.body = subst (λ (b : List ℕ). mid.length ≡ old.length + 19 + length b) body e.length in
    let begun : StandsFor told mid (taken mid.facts content command 0) =
    subst (λ f. StandsFor told mid (taken f content command 0)) (sym facts)
    (subst (λ (b : List ℕ). StandsFor told mid (took old.facts content command.kvn command.counter command.tar b 0)) body (e.stored content stands)) in
    let f = c.in-Ok-finish.ensures in
    answered_whole told old mid new content keys command facts fits size e.clock e.tells (octets_of c.in-Ok-finish.messages.items) (f.finished content begun)

pub returns-in-Ok-finish-clause-moments : goal.returns-in-Ok-finish-clause-moments
returns-in-Ok-finish-clause-moments g c = λ tells content stands.
    let told = g.D.DiskCalls.told in
    let old = c.args.store.now in
    let mid = c.store_counter.new.self in
    let keys = c.args.keys.now in
    let command = c.args.command.now in
    let body : c.as_slice.result.now ≡ command.body = c.as_slice.ensures in
    let e = c.in-Ok.ensures in
    let run : Tells told old.disk → DiskRun told old.disk mid.disk (IsAround told old mid content keys command) =
    subst (λ (b : List ℕ). Tells told old.disk → DiskRun told old.disk mid.disk (λ image. Holds old.facts content image ⊎ Holds old.facts (took old.facts content command.kvn command.counter command.tar b 0) image)) body
    (λ t. e.moments t content stands) in
    let new = c.finish.new.store in
    let facts : mid.facts ≡ old.facts = ap (λ (s : StoreValue g.row.D.Denot). s.facts) e.same in
    let fits : Fits old.length command.body = subst (Fits old.length) body e.answer in
    let size : mid.length ≡ old.length + 19 + length command.body = subst (λ (b : List ℕ). mid.length ≡ old.length + 19 + length b) body e.length in
    let begun : StandsFor told mid (taken mid.facts content command 0) =
    subst (λ f. StandsFor told mid (taken f content command 0)) (sym facts)
    (subst (λ (b : List ℕ). StandsFor told mid (took old.facts content command.kvn command.counter command.tar b 0)) body (e.stored content stands)) in
    let f = c.in-Ok-finish.ensures in
    whole_run told old mid new content keys command facts fits size e.clock e.tells run (λ t. f.moments t content begun) tells

pub returns-in-Err-finish-clause-reacts : goal.returns-in-Err-finish-clause-reacts
returns-in-Err-finish-clause-reacts g c = λ content stands.
    let told = g.D.DiskCalls.told in
    let old = c.args.store.now in
    let mid = c.store_counter.new.self in
    let keys = c.args.keys.now in
    let command = c.args.command.now in
    let body : c.as_slice.result.now ≡ command.body = c.as_slice.ensures in
    let e = c.in-Ok.ensures in
    let run : Tells told old.disk → DiskRun told old.disk mid.disk (IsAround told old mid content keys command) =
    subst (λ (b : List ℕ). Tells told old.disk → DiskRun told old.disk mid.disk (λ image. Holds old.facts content image ⊎ Holds old.facts (took old.facts content command.kvn command.counter command.tar b 0) image)) body
    (λ t. e.moments t content stands) in
    let new = c.finish.new.store in
    let facts : mid.facts ≡ old.facts = ap (λ (s : StoreValue g.row.D.Denot). s.facts) e.same in
    let fits : Fits old.length command.body = subst (Fits old.length) body e.answer in
    let size : mid.length ≡ old.length + 19 + length command.body = subst (λ (b : List ℕ). mid.length ≡ old.length + 19 + length b) body e.length in
    let begun : StandsFor told mid (taken mid.facts content command 0) =
    subst (λ f. StandsFor told mid (taken f content command 0)) (sym facts)
    (subst (λ (b : List ℕ). StandsFor told mid (took old.facts content command.kvn command.counter command.tar b 0)) body (e.stored content stands)) in
    let f = c.in-Err-finish.ensures in
    cut_whole told old mid new content keys command facts fits size e.clock e.tells c.in-Err-finish.error f.err (f.halted content begun)

pub returns-in-Err-finish-clause-moments : goal.returns-in-Err-finish-clause-moments
returns-in-Err-finish-clause-moments g c = λ tells content stands.
    let told = g.D.DiskCalls.told in
    let old = c.args.store.now in
    let mid = c.store_counter.new.self in
    let keys = c.args.keys.now in
    let command = c.args.command.now in
    let body : c.as_slice.result.now ≡ command.body = c.as_slice.ensures in
    let e = c.in-Ok.ensures in
    let run : Tells told old.disk → DiskRun told old.disk mid.disk (IsAround told old mid content keys command) =
    subst (λ (b : List ℕ). Tells told old.disk → DiskRun told old.disk mid.disk (λ image. Holds old.facts content image ⊎ Holds old.facts (took old.facts content command.kvn command.counter command.tar b 0) image)) body
    (λ t. e.moments t content stands) in
    let new = c.finish.new.store in
    let facts : mid.facts ≡ old.facts = ap (λ (s : StoreValue g.row.D.Denot). s.facts) e.same in
    let fits : Fits old.length command.body = subst (Fits old.length) body e.answer in
    let size : mid.length ≡ old.length + 19 + length command.body = subst (λ (b : List ℕ). mid.length ≡ old.length + 19 + length b) body e.length in
    let begun : StandsFor told mid (taken mid.facts content command 0) =
    subst (λ f. StandsFor told mid (taken f content command 0)) (sym facts)
    (subst (λ (b : List ℕ). StandsFor told mid (took old.facts content command.kvn command.counter command.tar b 0)) body (e.stored content stands)) in
    let f = c.in-Err-finish.ensures in
    whole_run told old mid new content keys command facts fits size e.clock e.tells run (λ t. f.moments t content begun) tells

pub returns-in-Err-clause-begun : goal.returns-in-Err-clause-begun
returns-in-Err-clause-begun g c = λ tells content stands off.
    let told = g.D.DiskCalls.told in
    let old = c.args.store.now in
    let mid = c.store_counter.new.self in
    let e = c.in-Err.ensures in
    called_first (told.clock old.disk) (told.clock mid.disk) (g.D.DiskCalls.counts old.disk) (g.D.DiskCalls.counts mid.disk) c.in-Err.error c.stop_by.result c.stop_by.ensures (e.clock tells) e.cause.answer off

pub returns-in-Err-finish-clause-begun : goal.returns-in-Err-finish-clause-begun
returns-in-Err-finish-clause-begun g c = λ tells content stands off.
    let told = g.D.DiskCalls.told in
    let old = c.args.store.now in
    let mid = c.store_counter.new.self in
    let command = c.args.command.now in
    let body : c.as_slice.result.now ≡ command.body = c.as_slice.ensures in
    let e = c.in-Ok.ensures in
    let new = c.finish.new.store in
    let facts : mid.facts ≡ old.facts = ap (λ (s : StoreValue g.row.D.Denot). s.facts) e.same in
    let begun : StandsFor told mid (taken mid.facts content command 0) =
    subst (λ f. StandsFor told mid (taken f content command 0)) (sym facts)
    (subst (λ (b : List ℕ). StandsFor told mid (took old.facts content command.kvn command.counter command.tar b 0)) body (e.stored content stands)) in
    let f = c.in-Err-finish.ensures in
    called_later told old mid new content command e.clock e.tells (g.D.DiskCalls.counts old.disk) (g.D.DiskCalls.counts new.disk) c.in-Err-finish.error f.err (f.halted content begun) tells
