use Rattle.std.proofs.Common.{◌+◌, ◌≤◌, ℕ, Ok, List, ap, subst, sym, ◌∙◌, arith}
use Rattle.disk_model.specs.Disk.{Tells}
use Rattle.keyset_book.specs.Book.{StandsFor}
use Rattle.keyset_book.specs.declared.books.Book.{Book}
use Rattle.sms_segments.specs.declared.assembling.Push.TheVariants as push
use Rattle.gate_log.specs.Opening.{LIMIT}
use Rattle.lane_engine.specs.LaneValue.{LaneValue}
use Rattle.lane_engine.specs.Polling.{LONGEST_SETTLEMENT}
use Rattle.lane_engine.specs.Receipts.{settlement_of}
use Rattle.lane_engine.specs.Responses.{response_in_octets}
use Rattle.lane_engine.specs.Settling.{IsTaken, SettlingRun, settled_by}
use Rattle.lane_engine.specs.declared.answers.Poll.TheVariants as poll
use Rattle.lane_engine.proofs.AppendLemmas.{lane_of}
use Rattle.lane_engine.proofs.ResponseLemmas.{opens_none, opens_some}
use Rattle.lane_engine.proofs.TakenLemmas.{answer_opened, answer_unopened, answer_unsecured, added_fits, added_legal, added_of_lane, added_sized, added_small, due_settled, none_unopened, none_unsecured, none_unsettled, read_short, run_idle, run_settled, taken_idle, taken_residual, taken_settled}
use Rattle.lane_engine.proofs.lanes.Lane.read.Goals.{in-Settled+in_ok-settle, in_default-poll}
use Rattle.lane_engine.proofs.lanes.Lane.read.Goals as goal

pub returns-in-Some-clause-taken : goal.returns-in-Some-clause-taken
returns-in-Some-clause-taken g c =
    subst (λ (v : LaneValue g.row.T.Denot). IsTaken v (lane_of c.self.inside.site c.self.inside.journal c.self.inside.is_stale c.self.inside.assembler c.self.inside.moment c.self.inside.name.items c.self.inside.end c.self.inside.opened c.self.inside.lost.value.items) c.args.by c.args.card (push.Whole c.args.packet.now) (Ok (poll.Notice c.in-Some.status))) c.self.view_is
    (taken_idle (lane_of c.self.inside.site c.self.inside.journal c.self.inside.is_stale c.self.inside.assembler c.self.inside.moment c.self.inside.name.items c.self.inside.end c.self.inside.opened c.self.inside.lost.value.items) c.args.by c.args.card (push.Whole c.args.packet.now) (poll.Notice c.in-Some.status) (ap (λ (v : LaneValue g.row.T.Denot). v.is_stale) c.self.view_is ∙ c.requires.live) (answer_unsecured c.self.inside.journal.entries c.args.card c.args.packet.now c.in-Some.status (sym c.unsecured_status.ensures ∙ c.in-Some.is)) (none_unsecured c.self.inside.journal.entries c.args.card c.args.packet.now c.in-Some.status (sym c.unsecured_status.ensures ∙ c.in-Some.is)))

pub returns-in-Some-clause-run : goal.returns-in-Some-clause-run
returns-in-Some-clause-run g c =
    subst (λ (v : LaneValue g.row.T.Denot). Tells g.T.DiskCalls.told v.site → SettlingRun g.T.DiskCalls.told v (lane_of c.self.inside.site c.self.inside.journal c.self.inside.is_stale c.self.inside.assembler c.self.inside.moment c.self.inside.name.items c.self.inside.end c.self.inside.opened c.self.inside.lost.value.items) (settled_by c.args.by v c.args.card (push.Whole c.args.packet.now))) c.self.view_is
    (λ tells. run_idle g.T.DiskCalls.told (lane_of c.self.inside.site c.self.inside.journal c.self.inside.is_stale c.self.inside.assembler c.self.inside.moment c.self.inside.name.items c.self.inside.end c.self.inside.opened c.self.inside.lost.value.items) (settled_by c.args.by (lane_of c.self.inside.site c.self.inside.journal c.self.inside.is_stale c.self.inside.assembler c.self.inside.moment c.self.inside.name.items c.self.inside.end c.self.inside.opened c.self.inside.lost.value.items) c.args.card (push.Whole c.args.packet.now)) c.self.invariant (ap (λ (v : LaneValue g.row.T.Denot). v.is_stale) c.self.view_is ∙ c.requires.live) tells)

pub returns-in-None-clause-taken : goal.returns-in-None-clause-taken
returns-in-None-clause-taken g c =
    let nothing = sym (c.response_of.ensures.says c.self.inside.journal.entries (subst (λ (b : Book). StandsFor b c.self.inside.journal.entries) (sym c.book.ensures.book) c.book.ensures.stands)) ∙ opens_none c.response_of.result c.response_of.new.work c.in-None.is in
    subst (λ (v : LaneValue g.row.T.Denot). IsTaken v (lane_of c.self.inside.site c.self.inside.journal c.self.inside.is_stale c.self.inside.assembler c.self.inside.moment c.self.inside.name.items c.self.inside.end c.self.inside.opened c.self.inside.lost.value.items) c.args.by c.args.card (push.Whole c.args.packet.now) (Ok poll.NotOurs)) c.self.view_is
    (taken_idle (lane_of c.self.inside.site c.self.inside.journal c.self.inside.is_stale c.self.inside.assembler c.self.inside.moment c.self.inside.name.items c.self.inside.end c.self.inside.opened c.self.inside.lost.value.items) c.args.by c.args.card (push.Whole c.args.packet.now) poll.NotOurs (ap (λ (v : LaneValue g.row.T.Denot). v.is_stale) c.self.view_is ∙ c.requires.live) (answer_unopened c.self.inside.journal.entries c.args.card c.args.packet.now (sym c.unsecured_status.ensures ∙ c.in_default.is) nothing) (none_unopened c.self.inside.journal.entries c.args.card c.args.packet.now (sym c.unsecured_status.ensures ∙ c.in_default.is) nothing))

pub returns-in-None-clause-run : goal.returns-in-None-clause-run
returns-in-None-clause-run g c =
    subst (λ (v : LaneValue g.row.T.Denot). Tells g.T.DiskCalls.told v.site → SettlingRun g.T.DiskCalls.told v (lane_of c.self.inside.site c.self.inside.journal c.self.inside.is_stale c.self.inside.assembler c.self.inside.moment c.self.inside.name.items c.self.inside.end c.self.inside.opened c.self.inside.lost.value.items) (settled_by c.args.by v c.args.card (push.Whole c.args.packet.now))) c.self.view_is
    (λ tells. run_idle g.T.DiskCalls.told (lane_of c.self.inside.site c.self.inside.journal c.self.inside.is_stale c.self.inside.assembler c.self.inside.moment c.self.inside.name.items c.self.inside.end c.self.inside.opened c.self.inside.lost.value.items) (settled_by c.args.by (lane_of c.self.inside.site c.self.inside.journal c.self.inside.is_stale c.self.inside.assembler c.self.inside.moment c.self.inside.name.items c.self.inside.end c.self.inside.opened c.self.inside.lost.value.items) c.args.card (push.Whole c.args.packet.now)) c.self.invariant (ap (λ (v : LaneValue g.row.T.Denot). v.is_stale) c.self.view_is ∙ c.requires.live) tells)

pub settlement_of-entry-requires-clause-short : goal.settlement_of-entry-requires-clause-short
settlement_of-entry-requires-clause-short g c =
    let short = read_short (lane_of c.self.inside.site c.self.inside.journal c.self.inside.is_stale c.self.inside.assembler c.self.inside.moment c.self.inside.name.items c.self.inside.end c.self.inside.opened c.self.inside.lost.value.items) c.args.by c.args.card (push.Whole c.args.packet.now) c.in-Some-response_of.response c.response_of.new.work c.in-Some-response_of.ensures.within (due_settled c.self.inside.journal.entries c.args.card c.args.packet.now (response_in_octets c.in-Some-response_of.response c.response_of.new.work) c.answer_to-poll.result c.in-Settled.field-0 c.in-Settled.field-1 (sym c.unsecured_status.ensures ∙ c.in_default.is) (sym (c.response_of.ensures.says c.self.inside.journal.entries (subst (λ (b : Book). StandsFor b c.self.inside.journal.entries) (sym c.book.ensures.book) c.book.ensures.stands)) ∙ opens_some c.response_of.result c.in-Some-response_of.response c.response_of.new.work c.in-Some-response_of.is) (c.answer_to-poll.ensures c.self.inside.journal.entries (subst (λ (b : Book). StandsFor b c.self.inside.journal.entries) (sym c.book-2.ensures.book) c.book-2.ensures.stands) c.response_of.new.work c.in-Some-response_of.ensures.within) c.in-Settled.is) in
    let room = c.requires.answer_room in omega (arith, short, room)

pub settle-requires-clause-fits : goal.settle-requires-clause-fits
settle-requires-clause-fits g c = added_fits (lane_of c.self.inside.site c.self.inside.journal c.self.inside.is_stale c.self.inside.assembler c.self.inside.moment c.self.inside.name.items c.self.inside.end c.self.inside.opened c.self.inside.lost.value.items) c.args.by c.args.card (push.Whole c.args.packet.now) (response_in_octets c.in-Some-response_of.response c.response_of.new.work) (due_settled c.self.inside.journal.entries c.args.card c.args.packet.now (response_in_octets c.in-Some-response_of.response c.response_of.new.work) c.answer_to-poll.result c.in-Settled.field-0 c.in-Settled.field-1 (sym c.unsecured_status.ensures ∙ c.in_default.is) (sym (c.response_of.ensures.says c.self.inside.journal.entries (subst (λ (b : Book). StandsFor b c.self.inside.journal.entries) (sym c.book.ensures.book) c.book.ensures.stands)) ∙ opens_some c.response_of.result c.in-Some-response_of.response c.response_of.new.work c.in-Some-response_of.is) (c.answer_to-poll.ensures c.self.inside.journal.entries (subst (λ (b : Book). StandsFor b c.self.inside.journal.entries) (sym c.book-2.ensures.book) c.book-2.ensures.stands) c.response_of.new.work c.in-Some-response_of.ensures.within) c.in-Settled.is) c.settlement_of-entry.result (c.settlement_of-entry.ensures ∙ ap (λ (l : List ℕ). settlement_of c.args.by c.moment_for-moment.result (response_in_octets c.in-Some-response_of.response l)) c.deref.ensures ∙ ap (λ (n : ℕ). settlement_of c.args.by n (response_in_octets c.in-Some-response_of.response c.response_of.new.work)) c.moment_for-moment.ensures) (subst (λ (v : LaneValue g.row.T.Denot). v.journal.length + LONGEST_SETTLEMENT ≤ LIMIT) (sym c.self.view_is) c.requires.fits)

pub settle-requires-clause-small : goal.settle-requires-clause-small
settle-requires-clause-small g c = added_small (lane_of c.self.inside.site c.self.inside.journal c.self.inside.is_stale c.self.inside.assembler c.self.inside.moment c.self.inside.name.items c.self.inside.end c.self.inside.opened c.self.inside.lost.value.items) c.args.by c.args.card (push.Whole c.args.packet.now) (response_in_octets c.in-Some-response_of.response c.response_of.new.work) (due_settled c.self.inside.journal.entries c.args.card c.args.packet.now (response_in_octets c.in-Some-response_of.response c.response_of.new.work) c.answer_to-poll.result c.in-Settled.field-0 c.in-Settled.field-1 (sym c.unsecured_status.ensures ∙ c.in_default.is) (sym (c.response_of.ensures.says c.self.inside.journal.entries (subst (λ (b : Book). StandsFor b c.self.inside.journal.entries) (sym c.book.ensures.book) c.book.ensures.stands)) ∙ opens_some c.response_of.result c.in-Some-response_of.response c.response_of.new.work c.in-Some-response_of.is) (c.answer_to-poll.ensures c.self.inside.journal.entries (subst (λ (b : Book). StandsFor b c.self.inside.journal.entries) (sym c.book-2.ensures.book) c.book-2.ensures.stands) c.response_of.new.work c.in-Some-response_of.ensures.within) c.in-Settled.is) c.settlement_of-entry.result (c.settlement_of-entry.ensures ∙ ap (λ (l : List ℕ). settlement_of c.args.by c.moment_for-moment.result (response_in_octets c.in-Some-response_of.response l)) c.deref.ensures ∙ ap (λ (n : ℕ). settlement_of c.args.by n (response_in_octets c.in-Some-response_of.response c.response_of.new.work)) c.moment_for-moment.ensures)

pub settle-requires-clause-sized : goal.settle-requires-clause-sized
settle-requires-clause-sized g c = added_sized (lane_of c.self.inside.site c.self.inside.journal c.self.inside.is_stale c.self.inside.assembler c.self.inside.moment c.self.inside.name.items c.self.inside.end c.self.inside.opened c.self.inside.lost.value.items) c.args.by c.args.card (push.Whole c.args.packet.now) (response_in_octets c.in-Some-response_of.response c.response_of.new.work) (due_settled c.self.inside.journal.entries c.args.card c.args.packet.now (response_in_octets c.in-Some-response_of.response c.response_of.new.work) c.answer_to-poll.result c.in-Settled.field-0 c.in-Settled.field-1 (sym c.unsecured_status.ensures ∙ c.in_default.is) (sym (c.response_of.ensures.says c.self.inside.journal.entries (subst (λ (b : Book). StandsFor b c.self.inside.journal.entries) (sym c.book.ensures.book) c.book.ensures.stands)) ∙ opens_some c.response_of.result c.in-Some-response_of.response c.response_of.new.work c.in-Some-response_of.is) (c.answer_to-poll.ensures c.self.inside.journal.entries (subst (λ (b : Book). StandsFor b c.self.inside.journal.entries) (sym c.book-2.ensures.book) c.book-2.ensures.stands) c.response_of.new.work c.in-Some-response_of.ensures.within) c.in-Settled.is) c.settlement_of-entry.result (c.settlement_of-entry.ensures ∙ ap (λ (l : List ℕ). settlement_of c.args.by c.moment_for-moment.result (response_in_octets c.in-Some-response_of.response l)) c.deref.ensures ∙ ap (λ (n : ℕ). settlement_of c.args.by n (response_in_octets c.in-Some-response_of.response c.response_of.new.work)) c.moment_for-moment.ensures)

pub settle-requires-clause-of_lane : goal.settle-requires-clause-of_lane
settle-requires-clause-of_lane g c = added_of_lane (lane_of c.self.inside.site c.self.inside.journal c.self.inside.is_stale c.self.inside.assembler c.self.inside.moment c.self.inside.name.items c.self.inside.end c.self.inside.opened c.self.inside.lost.value.items) c.args.by c.args.card (push.Whole c.args.packet.now) (response_in_octets c.in-Some-response_of.response c.response_of.new.work) (due_settled c.self.inside.journal.entries c.args.card c.args.packet.now (response_in_octets c.in-Some-response_of.response c.response_of.new.work) c.answer_to-poll.result c.in-Settled.field-0 c.in-Settled.field-1 (sym c.unsecured_status.ensures ∙ c.in_default.is) (sym (c.response_of.ensures.says c.self.inside.journal.entries (subst (λ (b : Book). StandsFor b c.self.inside.journal.entries) (sym c.book.ensures.book) c.book.ensures.stands)) ∙ opens_some c.response_of.result c.in-Some-response_of.response c.response_of.new.work c.in-Some-response_of.is) (c.answer_to-poll.ensures c.self.inside.journal.entries (subst (λ (b : Book). StandsFor b c.self.inside.journal.entries) (sym c.book-2.ensures.book) c.book-2.ensures.stands) c.response_of.new.work c.in-Some-response_of.ensures.within) c.in-Settled.is) c.settlement_of-entry.result (c.settlement_of-entry.ensures ∙ ap (λ (l : List ℕ). settlement_of c.args.by c.moment_for-moment.result (response_in_octets c.in-Some-response_of.response l)) c.deref.ensures ∙ ap (λ (n : ℕ). settlement_of c.args.by n (response_in_octets c.in-Some-response_of.response c.response_of.new.work)) c.moment_for-moment.ensures) c.self.invariant.history

pub settle-requires-clause-legal : goal.settle-requires-clause-legal
settle-requires-clause-legal g c = added_legal (lane_of c.self.inside.site c.self.inside.journal c.self.inside.is_stale c.self.inside.assembler c.self.inside.moment c.self.inside.name.items c.self.inside.end c.self.inside.opened c.self.inside.lost.value.items) c.args.by c.args.card (push.Whole c.args.packet.now) (response_in_octets c.in-Some-response_of.response c.response_of.new.work) (due_settled c.self.inside.journal.entries c.args.card c.args.packet.now (response_in_octets c.in-Some-response_of.response c.response_of.new.work) c.answer_to-poll.result c.in-Settled.field-0 c.in-Settled.field-1 (sym c.unsecured_status.ensures ∙ c.in_default.is) (sym (c.response_of.ensures.says c.self.inside.journal.entries (subst (λ (b : Book). StandsFor b c.self.inside.journal.entries) (sym c.book.ensures.book) c.book.ensures.stands)) ∙ opens_some c.response_of.result c.in-Some-response_of.response c.response_of.new.work c.in-Some-response_of.is) (c.answer_to-poll.ensures c.self.inside.journal.entries (subst (λ (b : Book). StandsFor b c.self.inside.journal.entries) (sym c.book-2.ensures.book) c.book-2.ensures.stands) c.response_of.new.work c.in-Some-response_of.ensures.within) c.in-Settled.is) c.settlement_of-entry.result (c.settlement_of-entry.ensures ∙ ap (λ (l : List ℕ). settlement_of c.args.by c.moment_for-moment.result (response_in_octets c.in-Some-response_of.response l)) c.deref.ensures ∙ ap (λ (n : ℕ). settlement_of c.args.by n (response_in_octets c.in-Some-response_of.response c.response_of.new.work)) c.moment_for-moment.ensures)

pub returns-in_err-settle-clause-taken : goal.returns-in_err-settle-clause-taken
returns-in_err-settle-clause-taken g c =
    subst (λ (v : LaneValue g.row.T.Denot). IsTaken v c.settle.new.self c.args.by c.args.card (push.Whole c.args.packet.now) c.from_residual.result) c.self.view_is
    (taken_residual (lane_of c.self.inside.site c.self.inside.journal c.self.inside.is_stale c.self.inside.assembler c.self.inside.moment c.self.inside.name.items c.self.inside.end c.self.inside.opened c.self.inside.lost.value.items) c.settle.new.self c.args.by c.args.card (push.Whole c.args.packet.now) (response_in_octets c.in-Some-response_of.response c.response_of.new.work) (due_settled c.self.inside.journal.entries c.args.card c.args.packet.now (response_in_octets c.in-Some-response_of.response c.response_of.new.work) c.answer_to-poll.result c.in-Settled.field-0 c.in-Settled.field-1 (sym c.unsecured_status.ensures ∙ c.in_default.is) (sym (c.response_of.ensures.says c.self.inside.journal.entries (subst (λ (b : Book). StandsFor b c.self.inside.journal.entries) (sym c.book.ensures.book) c.book.ensures.stands)) ∙ opens_some c.response_of.result c.in-Some-response_of.response c.response_of.new.work c.in-Some-response_of.is) (c.answer_to-poll.ensures c.self.inside.journal.entries (subst (λ (b : Book). StandsFor b c.self.inside.journal.entries) (sym c.book-2.ensures.book) c.book-2.ensures.stands) c.response_of.new.work c.in-Some-response_of.ensures.within) c.in-Settled.is) c.settlement_of-entry.result (c.settlement_of-entry.ensures ∙ ap (λ (l : List ℕ). settlement_of c.args.by c.moment_for-moment.result (response_in_octets c.in-Some-response_of.response l)) c.deref.ensures ∙ ap (λ (n : ℕ). settlement_of c.args.by n (response_in_octets c.in-Some-response_of.response c.response_of.new.work)) c.moment_for-moment.ensures) c.settle.ensures.fits c.settle.ensures.rest c.in_err-settle.field-0.0 c.in_err-settle.ensures.settled c.from_residual.result c.from_residual.ensures.0 c.from_residual.ensures.1)

pub returns-in_err-settle-clause-run : goal.returns-in_err-settle-clause-run
returns-in_err-settle-clause-run g c =
    subst (λ (v : LaneValue g.row.T.Denot). Tells g.T.DiskCalls.told v.site → SettlingRun g.T.DiskCalls.told v c.settle.new.self (settled_by c.args.by v c.args.card (push.Whole c.args.packet.now))) c.self.view_is
    (λ tells. run_settled (lane_of c.self.inside.site c.self.inside.journal c.self.inside.is_stale c.self.inside.assembler c.self.inside.moment c.self.inside.name.items c.self.inside.end c.self.inside.opened c.self.inside.lost.value.items) c.args.by c.args.card (push.Whole c.args.packet.now) (response_in_octets c.in-Some-response_of.response c.response_of.new.work) (due_settled c.self.inside.journal.entries c.args.card c.args.packet.now (response_in_octets c.in-Some-response_of.response c.response_of.new.work) c.answer_to-poll.result c.in-Settled.field-0 c.in-Settled.field-1 (sym c.unsecured_status.ensures ∙ c.in_default.is) (sym (c.response_of.ensures.says c.self.inside.journal.entries (subst (λ (b : Book). StandsFor b c.self.inside.journal.entries) (sym c.book.ensures.book) c.book.ensures.stands)) ∙ opens_some c.response_of.result c.in-Some-response_of.response c.response_of.new.work c.in-Some-response_of.is) (c.answer_to-poll.ensures c.self.inside.journal.entries (subst (λ (b : Book). StandsFor b c.self.inside.journal.entries) (sym c.book-2.ensures.book) c.book-2.ensures.stands) c.response_of.new.work c.in-Some-response_of.ensures.within) c.in-Settled.is) c.settlement_of-entry.result (c.settlement_of-entry.ensures ∙ ap (λ (l : List ℕ). settlement_of c.args.by c.moment_for-moment.result (response_in_octets c.in-Some-response_of.response l)) c.deref.ensures ∙ ap (λ (n : ℕ). settlement_of c.args.by n (response_in_octets c.in-Some-response_of.response c.response_of.new.work)) c.moment_for-moment.ensures) g.T.DiskCalls.told c.settle.new.self (c.settle.ensures.run tells))

pub returns-clause-taken : goal.returns-clause-taken
returns-clause-taken g c = elim c.match-poll.branch [
  | in-Settled+in_ok-settle w ↦ subst (λ (v : LaneValue g.row.T.Denot). IsTaken v c.match-poll.self c.args.by c.args.card (push.Whole c.args.packet.now) (Ok c.answer_to-poll.result)) c.self.view_is
      (subst (λ (v : LaneValue g.row.T.Denot). IsTaken (lane_of c.self.inside.site c.self.inside.journal c.self.inside.is_stale c.self.inside.assembler c.self.inside.moment c.self.inside.name.items c.self.inside.end c.self.inside.opened c.self.inside.lost.value.items) v c.args.by c.args.card (push.Whole c.args.packet.now) (Ok c.answer_to-poll.result)) (sym w.self-is) (taken_settled (lane_of c.self.inside.site c.self.inside.journal c.self.inside.is_stale c.self.inside.assembler c.self.inside.moment c.self.inside.name.items c.self.inside.end c.self.inside.opened c.self.inside.lost.value.items) c.args.by c.args.card (push.Whole c.args.packet.now) (response_in_octets c.in-Some-response_of.response c.response_of.new.work) (due_settled c.self.inside.journal.entries c.args.card c.args.packet.now (response_in_octets c.in-Some-response_of.response c.response_of.new.work) c.answer_to-poll.result w.in-Settled.field-0 w.in-Settled.field-1 (sym c.unsecured_status.ensures ∙ c.in_default.is) (sym (c.response_of.ensures.says c.self.inside.journal.entries (subst (λ (b : Book). StandsFor b c.self.inside.journal.entries) (sym c.book.ensures.book) c.book.ensures.stands)) ∙ opens_some c.response_of.result c.in-Some-response_of.response c.response_of.new.work c.in-Some-response_of.is) (c.answer_to-poll.ensures c.self.inside.journal.entries (subst (λ (b : Book). StandsFor b c.self.inside.journal.entries) (sym c.book-2.ensures.book) c.book-2.ensures.stands) c.response_of.new.work c.in-Some-response_of.ensures.within) w.in-Settled.is) w.settlement_of-entry.result (w.settlement_of-entry.ensures ∙ ap (λ (l : List ℕ). settlement_of c.args.by w.moment_for-moment.result (response_in_octets c.in-Some-response_of.response l)) w.deref.ensures ∙ ap (λ (n : ℕ). settlement_of c.args.by n (response_in_octets c.in-Some-response_of.response c.response_of.new.work)) w.moment_for-moment.ensures) w.settle.new.self w.settle.ensures.fits w.settle.ensures.rest c.answer_to-poll.result (answer_opened c.self.inside.journal.entries c.args.card c.args.packet.now (response_in_octets c.in-Some-response_of.response c.response_of.new.work) c.answer_to-poll.result (sym c.unsecured_status.ensures ∙ c.in_default.is) (sym (c.response_of.ensures.says c.self.inside.journal.entries (subst (λ (b : Book). StandsFor b c.self.inside.journal.entries) (sym c.book.ensures.book) c.book.ensures.stands)) ∙ opens_some c.response_of.result c.in-Some-response_of.response c.response_of.new.work c.in-Some-response_of.is) (c.answer_to-poll.ensures c.self.inside.journal.entries (subst (λ (b : Book). StandsFor b c.self.inside.journal.entries) (sym c.book-2.ensures.book) c.book-2.ensures.stands) c.response_of.new.work c.in-Some-response_of.ensures.within)) w.in_ok-settle.ensures.settled.0 w.in_ok-settle.ensures.settled.1 w.in_ok-settle.ensures.settled.2))
  | in_default-poll w ↦ subst (λ (v : LaneValue g.row.T.Denot). IsTaken v c.match-poll.self c.args.by c.args.card (push.Whole c.args.packet.now) (Ok c.answer_to-poll.result)) c.self.view_is
      (subst (λ (v : LaneValue g.row.T.Denot). IsTaken (lane_of c.self.inside.site c.self.inside.journal c.self.inside.is_stale c.self.inside.assembler c.self.inside.moment c.self.inside.name.items c.self.inside.end c.self.inside.opened c.self.inside.lost.value.items) v c.args.by c.args.card (push.Whole c.args.packet.now) (Ok c.answer_to-poll.result)) (sym w.self-is) (taken_idle (lane_of c.self.inside.site c.self.inside.journal c.self.inside.is_stale c.self.inside.assembler c.self.inside.moment c.self.inside.name.items c.self.inside.end c.self.inside.opened c.self.inside.lost.value.items) c.args.by c.args.card (push.Whole c.args.packet.now) c.answer_to-poll.result (ap (λ (v : LaneValue g.row.T.Denot). v.is_stale) c.self.view_is ∙ c.requires.live) (answer_opened c.self.inside.journal.entries c.args.card c.args.packet.now (response_in_octets c.in-Some-response_of.response c.response_of.new.work) c.answer_to-poll.result (sym c.unsecured_status.ensures ∙ c.in_default.is) (sym (c.response_of.ensures.says c.self.inside.journal.entries (subst (λ (b : Book). StandsFor b c.self.inside.journal.entries) (sym c.book.ensures.book) c.book.ensures.stands)) ∙ opens_some c.response_of.result c.in-Some-response_of.response c.response_of.new.work c.in-Some-response_of.is) (c.answer_to-poll.ensures c.self.inside.journal.entries (subst (λ (b : Book). StandsFor b c.self.inside.journal.entries) (sym c.book-2.ensures.book) c.book-2.ensures.stands) c.response_of.new.work c.in-Some-response_of.ensures.within)) (none_unsettled c.self.inside.journal.entries c.args.card c.args.packet.now (response_in_octets c.in-Some-response_of.response c.response_of.new.work) c.answer_to-poll.result (sym c.unsecured_status.ensures ∙ c.in_default.is) (sym (c.response_of.ensures.says c.self.inside.journal.entries (subst (λ (b : Book). StandsFor b c.self.inside.journal.entries) (sym c.book.ensures.book) c.book.ensures.stands)) ∙ opens_some c.response_of.result c.in-Some-response_of.response c.response_of.new.work c.in-Some-response_of.is) (c.answer_to-poll.ensures c.self.inside.journal.entries (subst (λ (b : Book). StandsFor b c.self.inside.journal.entries) (sym c.book-2.ensures.book) c.book-2.ensures.stands) c.response_of.new.work c.in-Some-response_of.ensures.within) w.in_default-poll.not-Settled)))
]

pub returns-clause-run : goal.returns-clause-run
returns-clause-run g c = elim c.match-poll.branch [
  | in-Settled+in_ok-settle w ↦ subst (λ (v : LaneValue g.row.T.Denot). Tells g.T.DiskCalls.told v.site → SettlingRun g.T.DiskCalls.told v c.match-poll.self (settled_by c.args.by v c.args.card (push.Whole c.args.packet.now))) c.self.view_is
      (λ tells. subst (λ (v : LaneValue g.row.T.Denot). SettlingRun g.T.DiskCalls.told (lane_of c.self.inside.site c.self.inside.journal c.self.inside.is_stale c.self.inside.assembler c.self.inside.moment c.self.inside.name.items c.self.inside.end c.self.inside.opened c.self.inside.lost.value.items) v (settled_by c.args.by (lane_of c.self.inside.site c.self.inside.journal c.self.inside.is_stale c.self.inside.assembler c.self.inside.moment c.self.inside.name.items c.self.inside.end c.self.inside.opened c.self.inside.lost.value.items) c.args.card (push.Whole c.args.packet.now))) (sym w.self-is) (run_settled (lane_of c.self.inside.site c.self.inside.journal c.self.inside.is_stale c.self.inside.assembler c.self.inside.moment c.self.inside.name.items c.self.inside.end c.self.inside.opened c.self.inside.lost.value.items) c.args.by c.args.card (push.Whole c.args.packet.now) (response_in_octets c.in-Some-response_of.response c.response_of.new.work) (due_settled c.self.inside.journal.entries c.args.card c.args.packet.now (response_in_octets c.in-Some-response_of.response c.response_of.new.work) c.answer_to-poll.result w.in-Settled.field-0 w.in-Settled.field-1 (sym c.unsecured_status.ensures ∙ c.in_default.is) (sym (c.response_of.ensures.says c.self.inside.journal.entries (subst (λ (b : Book). StandsFor b c.self.inside.journal.entries) (sym c.book.ensures.book) c.book.ensures.stands)) ∙ opens_some c.response_of.result c.in-Some-response_of.response c.response_of.new.work c.in-Some-response_of.is) (c.answer_to-poll.ensures c.self.inside.journal.entries (subst (λ (b : Book). StandsFor b c.self.inside.journal.entries) (sym c.book-2.ensures.book) c.book-2.ensures.stands) c.response_of.new.work c.in-Some-response_of.ensures.within) w.in-Settled.is) w.settlement_of-entry.result (w.settlement_of-entry.ensures ∙ ap (λ (l : List ℕ). settlement_of c.args.by w.moment_for-moment.result (response_in_octets c.in-Some-response_of.response l)) w.deref.ensures ∙ ap (λ (n : ℕ). settlement_of c.args.by n (response_in_octets c.in-Some-response_of.response c.response_of.new.work)) w.moment_for-moment.ensures) g.T.DiskCalls.told w.settle.new.self (w.settle.ensures.run tells)))
  | in_default-poll w ↦ subst (λ (v : LaneValue g.row.T.Denot). Tells g.T.DiskCalls.told v.site → SettlingRun g.T.DiskCalls.told v c.match-poll.self (settled_by c.args.by v c.args.card (push.Whole c.args.packet.now))) c.self.view_is
      (λ tells. subst (λ (v : LaneValue g.row.T.Denot). SettlingRun g.T.DiskCalls.told (lane_of c.self.inside.site c.self.inside.journal c.self.inside.is_stale c.self.inside.assembler c.self.inside.moment c.self.inside.name.items c.self.inside.end c.self.inside.opened c.self.inside.lost.value.items) v (settled_by c.args.by (lane_of c.self.inside.site c.self.inside.journal c.self.inside.is_stale c.self.inside.assembler c.self.inside.moment c.self.inside.name.items c.self.inside.end c.self.inside.opened c.self.inside.lost.value.items) c.args.card (push.Whole c.args.packet.now))) (sym w.self-is) (run_idle g.T.DiskCalls.told (lane_of c.self.inside.site c.self.inside.journal c.self.inside.is_stale c.self.inside.assembler c.self.inside.moment c.self.inside.name.items c.self.inside.end c.self.inside.opened c.self.inside.lost.value.items) (settled_by c.args.by (lane_of c.self.inside.site c.self.inside.journal c.self.inside.is_stale c.self.inside.assembler c.self.inside.moment c.self.inside.name.items c.self.inside.end c.self.inside.opened c.self.inside.lost.value.items) c.args.card (push.Whole c.args.packet.now)) c.self.invariant (ap (λ (v : LaneValue g.row.T.Denot). v.is_stale) c.self.view_is ∙ c.requires.live) tells))
]
