use Rattle.std.proofs.Common.{◌≡◌, ℕ, ◌+◌, ◌≤◌, ◌++◌, List, length, reverse, None, All, ap, arith, subst, sym, ◌∙◌}
use Rattle.gate_log.specs.Opening.{AppendAnswer, IsOpenLog, need_of}
use Rattle.ota_core.specs.History.{broken_batch}
use Rattle.ota_core.specs.declared.entries.Entry.{Entry}
use Rattle.counter_journal.specs.EntryRanges.{IsEntry, IsOfLane, IsHistory}
use Rattle.keyset_book.specs.Book.{StandsFor, HasRoom}
use Rattle.keyset_book.specs.declared.books.Book.{Book}
use Rattle.counter_journal.specs.JournalReading.{parts_for, JournalValue}
use Rattle.counter_journal.proofs.AddLaws.{kept_added, added_run, ready_again}
use Rattle.counter_journal.proofs.journals.Journal.add.Goals as goal

pub returns-in_err-appended-clause-moments : goal.returns-in_err-appended-clause-moments
returns-in_err-appended-clause-moments g c = λ tells.
    let length-is : c.self.inside.log ≡ c.args.self.now.length = ap (λ (j : JournalValue). j.length) c.self.view_is ∙ c.make_room_for.ensures.same.length in
    let answer = subst (λ (n : ℕ). AppendAnswer n (need_of c.put_entries.new.batch.parts) c.append-appended.result) length-is c.append-appended.ensures.answer in
    let ready = c.requires.ready tells in
    added_run g.D.DiskCalls.told c.args.disk.now c.append-appended.new.disk c.args.self.now c.args.entries.items c.put_entries.new.batch.parts
    (c.put_entries.ensures.parts ∙ ap parts_for c.deref-2.ensures.value) c.append-appended.result c.requires.some ready answer c.append-appended.ensures.unchanged
    (c.append-appended.ensures.moments tells _ ready.parts ready.opens)

pub invariant_of-self-2 : goal.invariant_of-self-2
invariant_of-self-2 g c =
    let lane-is : c.args.self.now.lane ≡ c.self.inside.lane = sym (ap (λ (j : JournalValue). j.lane) c.self.view_is ∙ c.make_room_for.ensures.same.lane) in
    let lanes-are : c.args.self.now.lanes ≡ c.self.inside.lanes = sym (ap (λ (j : JournalValue). j.lanes) c.self.view_is ∙ c.make_room_for.ensures.same.lanes) in
    let entries-are : c.args.self.now.entries ≡ c.self.inside.history.entries = sym (ap (λ (j : JournalValue). j.entries) c.self.view_is ∙ c.make_room_for.ensures.same.entries) in
    let fit : All IsEntry c.args.entries.items = subst (All IsEntry) c.deref-2.ensures.value c.put_entries.ensures.fit in
    let of-lane : All (IsOfLane c.self.inside.lane c.self.inside.lanes) c.args.entries.items = rw (← lane-is, ← lanes-are) c.requires.of_lane in
    let so-far = c.self.inside.history.entries in
    let legal : broken_batch (reverse so-far) c.args.entries.items ≡ None = subst (λ (e : List Entry). broken_batch (reverse e) c.args.entries.items ≡ None) entries-are c.requires.legal in
    let entered : StandsFor c.put.new.self (so-far ++ c.args.entries.items) =
    subst (λ (e : List Entry). StandsFor c.put.new.self (so-far ++ e)) c.deref-3.ensures.value
    (c.put.ensures.put so-far c.self.invariant.stands (subst (λ (e : List Entry). broken_batch (reverse so-far) e ≡ None) (sym c.deref-3.ensures.value) legal)) in
    kept_added c.self.inside.lane c.self.inside.lanes c.self.inside.history c.add_all.new.history c.self.inside.book c.put.new.self c.args.entries.items c.self.inside.batch c.put_entries.new.batch c.clear.new.self
    c.self.inside.batch_room c.self.inside.room c.len-count.result c.self.invariant
    entered
    c.add_all.ensures.entries c.add_all.ensures.room fit of-lane
    legal
    (c.put_entries.ensures.parts ∙ ap parts_for c.deref-2.ensures.value)
    (subst (λ (l : List Entry). c.put_entries.new.batch.parts_room + length l ≡ c.self.inside.batch.parts_room) c.deref-2.ensures.value c.put_entries.ensures.parts_room)
    c.put_entries.ensures.octets_room c.clear.ensures (omega (arith, c.len-count.ensures))

pub returns-clause-moments : goal.returns-clause-moments
returns-clause-moments g c = λ tells.
    let length-is : c.self.inside.log ≡ c.args.self.now.length = ap (λ (j : JournalValue). j.length) c.self.view_is ∙ c.make_room_for.ensures.same.length in
    let answer = subst (λ (n : ℕ). AppendAnswer n (need_of c.put_entries.new.batch.parts) c.append-appended.result) length-is c.append-appended.ensures.answer in
    let ready = c.requires.ready tells in
    added_run g.D.DiskCalls.told c.args.disk.now c.append-appended.new.disk c.args.self.now c.args.entries.items c.put_entries.new.batch.parts
    (c.put_entries.ensures.parts ∙ ap parts_for c.deref-2.ensures.value) c.append-appended.result c.requires.some ready answer c.append-appended.ensures.unchanged
    (c.append-appended.ensures.moments tells _ ready.parts ready.opens)

pub returns-clause-ready : goal.returns-clause-ready
returns-clause-ready g c = λ tells.
    let length-is : c.self.inside.log ≡ c.args.self.now.length = ap (λ (j : JournalValue). j.length) c.self.view_is ∙ c.make_room_for.ensures.same.length in
    let entries-are : c.args.self.now.entries ≡ c.self.inside.history.entries = sym (ap (λ (j : JournalValue). j.entries) c.self.view_is ∙ c.make_room_for.ensures.same.entries) in
    let ready = c.requires.ready tells in
    ready_again g.D.DiskCalls.told c.args.disk.now c.append-appended.new.disk c.args.self.now c.args.entries.items c.put_entries.new.batch.parts
    (c.put_entries.ensures.parts ∙ ap parts_for c.deref-2.ensures.value) _ c.requires.some ready
    (subst (λ (n : ℕ). n + need_of c.put_entries.new.batch.parts ≤ 16777216) length-is c.in_ok-appended.ensures.answer)
    (ap (λ (j : JournalValue). j.lane) c.self.view_is ∙ c.make_room_for.ensures.same.lane)
    (ap (λ (j : JournalValue). j.lanes) c.self.view_is ∙ c.make_room_for.ensures.same.lanes)
    (c.add_all.ensures.entries ∙ ap (λ (e : List Entry). e ++ c.args.entries.items) (sym entries-are))
    (c.in_ok-appended.ensures.settled tells) (c.in_ok-appended.ensures.appended tells _ ready.parts ready.opens)

pub returns-clause-history : goal.returns-clause-history
returns-clause-history g c =
    let lane-is : c.self.inside.lane ≡ c.args.self.now.lane = ap (λ (j : JournalValue). j.lane) c.self.view_is ∙ c.make_room_for.ensures.same.lane in
    let lanes-are : c.self.inside.lanes ≡ c.args.self.now.lanes = ap (λ (j : JournalValue). j.lanes) c.self.view_is ∙ c.make_room_for.ensures.same.lanes in
    subst (λ (l : ℕ). IsHistory l c.args.self.now.lanes c.add_all.new.history.entries) lane-is
    (subst (λ (l : ℕ). IsHistory c.self.inside.lane l c.add_all.new.history.entries) lanes-are (invariant_of-self-2 g c).of_lane)

pub returns-in_err-appended-clause-places : goal.returns-in_err-appended-clause-places
returns-in_err-appended-clause-places g c = λ others room.
    subst (λ (b : Book). HasRoom b others) (sym (ap (λ (j : JournalValue). j.book) c.self.view_is)) (c.make_room_for.ensures.places others room)

pub returns-clause-places : goal.returns-clause-places
returns-clause-places g c = λ others room.
    c.put.ensures.kept others (subst (λ (b : Book). HasRoom b others) (sym (ap (λ (j : JournalValue). j.book) c.self.view_is)) (c.make_room_for.ensures.places others room))
