use Rattle.std.proofs.Common.{◌≡◌, Some, None, false, true, reverse, sym, subst}
use Rattle.std.proofs.lemmas.Result.{err_from_is_err_and}
use Rattle.std.specs.List.{list_any}
use Rattle.ota_core.specs.Entry.{Reservation, is_reserve_of}
use Rattle.keyset_book.specs.Book.{StandsFor}
use Rattle.keyset_book.specs.declared.books.Book.{Book}
use Rattle.lane_engine.specs.LaneValue.{LaneValue, IsLane}
use Rattle.lane_engine.specs.Reserving.{resend_refusal}
use Rattle.lane_engine.proofs.CourseLemmas.{hearing_of, journal_of, lost_of, refused_gone_on}
use Rattle.lane_engine.specs.Departing.{pieces_at}
use Rattle.lane_engine.specs.declared.answers.LaneErr.TheVariants as lane_err
use Rattle.lane_engine.proofs.LeavingLemmas.{at_reserved}
use Rattle.lane_engine.proofs.LedLemmas.{none_resending_course, pieces_course, resending_course}
use Rattle.lane_engine.proofs.RefusalLemmas.{none_cause, none_resent, refused_resend, refuses_no_fault, resend_refused}
use Rattle.lane_engine.proofs.ResentLemmas.{resent_events, resent_sent}
use Rattle.lane_engine.proofs.SentLemmas.{sent_gone_on, sent_kept, sent_later}
use Rattle.lane_engine.proofs.UnderLemmas.{packet_found, place_found, resend_reserved}
use Rattle.lane_engine.proofs.lanes.Lane.resend.Goals as goal

pub returns-then-self-clause-went_on : goal.returns-then-self-clause-went_on
returns-then-self-clause-went_on g c = λ opening tells kept fair.
    refused_gone_on g.T.DiskCalls.told g.T.DiskCalls.counts g.T.SiteCalls.port g.T.SiteCalls.lines opening c.args.self.now kept tells (g.met.T.DiskCalls.seen_is_image c.args.self.now.site tells) fair

pub returns-in_err-may_resend-clause-answer : goal.returns-in_err-may_resend-clause-answer
returns-in_err-may_resend-clause-answer g c =
    let p = err_from_is_err_and c.from_residual.result c.from_residual.ensures.1 in
    let place : Reservation = record { keyset = c.args.keyset; counter = c.args.counter } in
    let refused : resend_refusal (reverse c.args.self.now.journal.entries) place ≡ Some c.in_err-may_resend.field-0.0 =
    subst (λ (v : LaneValue g.row.T.Denot). resend_refusal (reverse v.journal.entries) place ≡ Some c.in_err-may_resend.field-0.0) c.self.view_is (sym (c.in_err-may_resend.ensures c.self.inside.journal.entries (subst (λ (b : Book). StandsFor b c.self.inside.journal.entries) (sym c.book.ensures.book) c.book.ensures.stands))) in
    let is = resend_refused (reverse c.args.self.now.journal.entries) place c.in_err-may_resend.field-0.0 refused in
    rw (p.1, p.2) (refused_resend c.args.self.now (resend_refusal (reverse c.args.self.now.journal.entries) place) c.in_err-may_resend.field-0.0 is (subst (λ (v : LaneValue g.row.T.Denot). v.is_stale ≡ false) c.self.view_is c.if-self.false) refused)

pub returns-in_err-may_resend-clause-resent : goal.returns-in_err-may_resend-clause-resent
returns-in_err-may_resend-clause-resent g c =
    let p = err_from_is_err_and c.from_residual.result c.from_residual.ensures.1 in
    let place : Reservation = record { keyset = c.args.keyset; counter = c.args.counter } in
    let refused : resend_refusal (reverse c.args.self.now.journal.entries) place ≡ Some c.in_err-may_resend.field-0.0 =
    subst (λ (v : LaneValue g.row.T.Denot). resend_refusal (reverse v.journal.entries) place ≡ Some c.in_err-may_resend.field-0.0) c.self.view_is (sym (c.in_err-may_resend.ensures c.self.inside.journal.entries (subst (λ (b : Book). StandsFor b c.self.inside.journal.entries) (sym c.book.ensures.book) c.book.ensures.stands))) in
    let is = resend_refused (reverse c.args.self.now.journal.entries) place c.in_err-may_resend.field-0.0 refused in
    rw (p.1, p.2) (none_resent c.args.self.now c.in_err-may_resend.field-0.0 (refuses_no_fault c.in_err-may_resend.field-0.0 is))

pub returns-in_err-may_resend-clause-went_on : goal.returns-in_err-may_resend-clause-went_on
returns-in_err-may_resend-clause-went_on g c = λ opening tells kept fair.
    refused_gone_on g.T.DiskCalls.told g.T.DiskCalls.counts g.T.SiteCalls.port g.T.SiteCalls.lines opening c.args.self.now kept tells (g.met.T.DiskCalls.seen_is_image c.args.self.now.site tells) fair

pub returns-in_err-may_resend-clause-cause : goal.returns-in_err-may_resend-clause-cause
returns-in_err-may_resend-clause-cause g c =
    let p = err_from_is_err_and c.from_residual.result c.from_residual.ensures.1 in
    let place : Reservation = record { keyset = c.args.keyset; counter = c.args.counter } in
    let refused : resend_refusal (reverse c.args.self.now.journal.entries) place ≡ Some c.in_err-may_resend.field-0.0 =
    subst (λ (v : LaneValue g.row.T.Denot). resend_refusal (reverse v.journal.entries) place ≡ Some c.in_err-may_resend.field-0.0) c.self.view_is (sym (c.in_err-may_resend.ensures c.self.inside.journal.entries (subst (λ (b : Book). StandsFor b c.self.inside.journal.entries) (sym c.book.ensures.book) c.book.ensures.stands))) in
    let is = resend_refused (reverse c.args.self.now.journal.entries) place c.in_err-may_resend.field-0.0 refused in
    rw (p.1, p.2) (none_cause (g.T.DiskCalls.counts c.args.self.now.site) c.in_err-may_resend.field-0.0 (refuses_no_fault c.in_err-may_resend.field-0.0 is))

pub returns-clause-sent : goal.returns-clause-sent
returns-clause-sent g c = λ tells.
    let place : Reservation = record { keyset = c.args.keyset; counter = c.args.counter } in
    let any : list_any (is_reserve_of place) c.args.self.now.journal.entries ≡ true =
    resend_reserved c.args.self.now.journal.entries place (subst (λ (v : LaneValue g.row.T.Denot). None ≡ resend_refusal (reverse v.journal.entries) place) c.self.view_is (c.in_ok-may_resend.ensures c.self.inside.journal.entries (subst (λ (b : Book). StandsFor b c.self.inside.journal.entries) (sym c.book.ensures.book) c.book.ensures.stands))) in
    resent_sent g.T.DiskCalls.told g.T.SiteCalls.port g.T.SiteCalls.lines c.args.self.now c.send_at.new.self place c.position_of-position.result c.send_at.result c.send_at.ensures.answer c.send_at.ensures.resent c.send_at.ensures.hands
    (place_found c.args.self.now.journal.entries place any c.position_of-position.result c.position_of-position.ensures) (packet_found c.args.self.now.journal.entries place any c.position_of-position.result c.position_of-position.ensures) tells

pub returns-clause-events : goal.returns-clause-events
returns-clause-events g c = λ tells.
    let place : Reservation = record { keyset = c.args.keyset; counter = c.args.counter } in
    let any : list_any (is_reserve_of place) c.args.self.now.journal.entries ≡ true =
    resend_reserved c.args.self.now.journal.entries place (subst (λ (v : LaneValue g.row.T.Denot). None ≡ resend_refusal (reverse v.journal.entries) place) c.self.view_is (c.in_ok-may_resend.ensures c.self.inside.journal.entries (subst (λ (b : Book). StandsFor b c.self.inside.journal.entries) (sym c.book.ensures.book) c.book.ensures.stands))) in
    resent_events g.T.DiskCalls.told g.T.SiteCalls.port g.T.SiteCalls.lines c.args.self.now c.send_at.new.self place c.position_of-position.result c.send_at.result c.send_at.ensures.answer c.send_at.ensures.resent c.send_at.ensures.hands
    (place_found c.args.self.now.journal.entries place any c.position_of-position.result c.position_of-position.ensures) (packet_found c.args.self.now.journal.entries place any c.position_of-position.result c.position_of-position.ensures) tells

pub returns-clause-went_on : goal.returns-clause-went_on
returns-clause-went_on g c = λ opening tells kept fair.
    let place : Reservation = record { keyset = c.args.keyset; counter = c.args.counter } in
    let any : list_any (is_reserve_of place) c.args.self.now.journal.entries ≡ true =
    resend_reserved c.args.self.now.journal.entries place (subst (λ (v : LaneValue g.row.T.Denot). None ≡ resend_refusal (reverse v.journal.entries) place) c.self.view_is (c.in_ok-may_resend.ensures c.self.inside.journal.entries (subst (λ (b : Book). StandsFor b c.self.inside.journal.entries) (sym c.book.ensures.book) c.book.ensures.stands))) in
    sent_gone_on g.T.DiskCalls.told g.T.DiskCalls.counts g.T.SiteCalls.port g.T.SiteCalls.lines c.args.self.now c.send_at.new.self _ _ c.send_at.result
    (subst (λ (v : LaneValue g.row.T.Denot). IsLane g.T.DiskCalls.told v) c.self.view_is c.self.invariant) (subst (λ (v : LaneValue g.row.T.Denot). v.is_stale ≡ false) c.self.view_is c.if-self.false) (λ told_so. g.met.T.DiskCalls.seen_is_image c.args.self.now.site told_so)
    (journal_of c.args.self.now c.send_at.new.self c.send_at.result c.send_at.ensures.answer c.send_at.ensures.resent)
    (lost_of c.args.self.now c.send_at.new.self c.send_at.result c.send_at.ensures.answer c.send_at.ensures.resent)
    (hearing_of c.args.self.now c.send_at.new.self c.send_at.result c.send_at.ensures.answer c.send_at.ensures.resent)
    c.send_at.ensures.tells c.send_at.ensures.cause.faults c.send_at.ensures.cause.wants c.send_at.ensures.hands (at_reserved c.args.self.now.journal.entries c.position_of-position.result) opening kept tells fair

pub returns-clause-later : goal.returns-clause-later
returns-clause-later g c =
    let place : Reservation = record { keyset = c.args.keyset; counter = c.args.counter } in
    let any : list_any (is_reserve_of place) c.args.self.now.journal.entries ≡ true =
    resend_reserved c.args.self.now.journal.entries place (subst (λ (v : LaneValue g.row.T.Denot). None ≡ resend_refusal (reverse v.journal.entries) place) c.self.view_is (c.in_ok-may_resend.ensures c.self.inside.journal.entries (subst (λ (b : Book). StandsFor b c.self.inside.journal.entries) (sym c.book.ensures.book) c.book.ensures.stands))) in
    sent_later g.T.DiskCalls.told g.T.DiskCalls.counts g.T.SiteCalls.port g.T.SiteCalls.lines c.args.self.now c.send_at.new.self _ _ c.send_at.result
    (subst (λ (v : LaneValue g.row.T.Denot). IsLane g.T.DiskCalls.told v) c.self.view_is c.self.invariant) (subst (λ (v : LaneValue g.row.T.Denot). v.is_stale ≡ false) c.self.view_is c.if-self.false) (λ told_so. g.met.T.DiskCalls.seen_is_image c.args.self.now.site told_so)
    (journal_of c.args.self.now c.send_at.new.self c.send_at.result c.send_at.ensures.answer c.send_at.ensures.resent)
    (lost_of c.args.self.now c.send_at.new.self c.send_at.result c.send_at.ensures.answer c.send_at.ensures.resent)
    (hearing_of c.args.self.now c.send_at.new.self c.send_at.result c.send_at.ensures.answer c.send_at.ensures.resent)
    c.send_at.ensures.tells c.send_at.ensures.cause.faults c.send_at.ensures.cause.wants c.send_at.ensures.hands (at_reserved c.args.self.now.journal.entries c.position_of-position.result)

pub returns-clause-kept : goal.returns-clause-kept
returns-clause-kept g c = λ opening kept.
    let place : Reservation = record { keyset = c.args.keyset; counter = c.args.counter } in
    let any : list_any (is_reserve_of place) c.args.self.now.journal.entries ≡ true =
    resend_reserved c.args.self.now.journal.entries place (subst (λ (v : LaneValue g.row.T.Denot). None ≡ resend_refusal (reverse v.journal.entries) place) c.self.view_is (c.in_ok-may_resend.ensures c.self.inside.journal.entries (subst (λ (b : Book). StandsFor b c.self.inside.journal.entries) (sym c.book.ensures.book) c.book.ensures.stands))) in
    sent_kept g.T.DiskCalls.told g.T.DiskCalls.counts g.T.SiteCalls.port g.T.SiteCalls.lines c.args.self.now c.send_at.new.self _ _ c.send_at.result
    (subst (λ (v : LaneValue g.row.T.Denot). IsLane g.T.DiskCalls.told v) c.self.view_is c.self.invariant) (subst (λ (v : LaneValue g.row.T.Denot). v.is_stale ≡ false) c.self.view_is c.if-self.false) (λ told_so. g.met.T.DiskCalls.seen_is_image c.args.self.now.site told_so)
    (journal_of c.args.self.now c.send_at.new.self c.send_at.result c.send_at.ensures.answer c.send_at.ensures.resent)
    (lost_of c.args.self.now c.send_at.new.self c.send_at.result c.send_at.ensures.answer c.send_at.ensures.resent)
    (hearing_of c.args.self.now c.send_at.new.self c.send_at.result c.send_at.ensures.answer c.send_at.ensures.resent)
    c.send_at.ensures.tells c.send_at.ensures.cause.faults c.send_at.ensures.cause.wants c.send_at.ensures.hands (at_reserved c.args.self.now.journal.entries c.position_of-position.result) opening kept

pub returns-then-self-clause-course : goal.returns-then-self-clause-course
returns-then-self-clause-course g c = λ tells acts.
    none_resending_course g.T.DiskCalls.told g.T.SiteCalls.port g.T.SiteCalls.lines c.args.self.now (record { keyset = c.args.keyset; counter = c.args.counter }) lane_err.Stale tt

pub returns-in_err-may_resend-clause-course : goal.returns-in_err-may_resend-clause-course
returns-in_err-may_resend-clause-course g c = λ tells acts.
    let p = err_from_is_err_and c.from_residual.result c.from_residual.ensures.1 in
    let place : Reservation = record { keyset = c.args.keyset; counter = c.args.counter } in
    let refused : resend_refusal (reverse c.args.self.now.journal.entries) place ≡ Some c.in_err-may_resend.field-0.0 =
    subst (λ (v : LaneValue g.row.T.Denot). resend_refusal (reverse v.journal.entries) place ≡ Some c.in_err-may_resend.field-0.0) c.self.view_is (sym (c.in_err-may_resend.ensures c.self.inside.journal.entries (subst (λ (b : Book). StandsFor b c.self.inside.journal.entries) (sym c.book.ensures.book) c.book.ensures.stands))) in
    let is = resend_refused (reverse c.args.self.now.journal.entries) place c.in_err-may_resend.field-0.0 refused in
    rw (p.1, p.2) (none_resending_course g.T.DiskCalls.told g.T.SiteCalls.port g.T.SiteCalls.lines c.args.self.now place c.in_err-may_resend.field-0.0 (refuses_no_fault c.in_err-may_resend.field-0.0 is))

pub returns-clause-course : goal.returns-clause-course
returns-clause-course g c = λ tells acts.
    let place : Reservation = record { keyset = c.args.keyset; counter = c.args.counter } in
    let any : list_any (is_reserve_of place) c.args.self.now.journal.entries ≡ true =
    resend_reserved c.args.self.now.journal.entries place (subst (λ (v : LaneValue g.row.T.Denot). None ≡ resend_refusal (reverse v.journal.entries) place) c.self.view_is (c.in_ok-may_resend.ensures c.self.inside.journal.entries (subst (λ (b : Book). StandsFor b c.self.inside.journal.entries) (sym c.book.ensures.book) c.book.ensures.stands))) in
    resending_course g.T.DiskCalls.told g.T.SiteCalls.port g.T.SiteCalls.lines c.args.self.now c.send_at.new.self place c.position_of-position.result c.send_at.result c.send_at.ensures.answer
    (place_found c.args.self.now.journal.entries place any c.position_of-position.result c.position_of-position.ensures)
    (pieces_course g.T.DiskCalls.told g.T.SiteCalls.port g.T.SiteCalls.lines c.args.self.now c.send_at.new.self _ (pieces_at c.args.self.now.journal.entries c.position_of-position.result) c.send_at.result
    (subst (λ (v : LaneValue g.row.T.Denot). IsLane g.T.DiskCalls.told v) c.self.view_is c.self.invariant) (subst (λ (v : LaneValue g.row.T.Denot). v.is_stale ≡ false) c.self.view_is c.if-self.false) (λ told_so. g.met.T.DiskCalls.seen_is_image c.args.self.now.site told_so)
    (journal_of c.args.self.now c.send_at.new.self c.send_at.result c.send_at.ensures.answer c.send_at.ensures.resent)
    (lost_of c.args.self.now c.send_at.new.self c.send_at.result c.send_at.ensures.answer c.send_at.ensures.resent)
    c.send_at.ensures.hands (at_reserved c.args.self.now.journal.entries c.position_of-position.result) tells acts c.send_at.ensures.answer)
