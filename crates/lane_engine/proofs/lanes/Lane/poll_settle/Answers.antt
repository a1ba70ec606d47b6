use Rattle.std.proofs.lemmas.Result.{err_from_is_err_and}
use Rattle.std.proofs.Common.{◌≡◌, ◌+◌, ◌++◌, ◌∷◌, [], arith, IsTrue, IfNone, IfSome, Ok, ap, subst, sym, ◌∙◌}
use Rattle.disk_model.specs.Disk.{Tells}
use Rattle.site_model.specs.Cards.{port_now}
use Rattle.site_model.specs.Causes.{CountsEmpty, empty_polls}
use Rattle.lane_engine.specs.LaneValue.{LaneValue, IsLane}
use Rattle.lane_engine.specs.declared.answers.Poll.{Poll}
use Rattle.lane_engine.proofs.PollCallLemmas.{asked_stopped, events_call, events_none, kept_call, later_heard, loses_heard, loses_none, nothing_heard, polled_heard, told_heard, told_none, went_on_call, unpolled_same, went_on_unpolled}
use Rattle.lane_engine.proofs.PollLedLemmas.{fault_course, none_course, taken_course, unpolled_course}
use Rattle.lane_engine.proofs.PolledLemmas.{asked_from, kept_fault, kept_none, kept_unpolled, went_on_asked}
use Rattle.lane_engine.proofs.lanes.Lane.poll_settle.Goals as goal

-- src/polling.rt:59:13
pub returns-then-self-clause-went_on : goal.returns-then-self-clause-went_on
returns-then-self-clause-went_on g c = λ opening tells kept fair.
    went_on_unpolled g.T.DiskCalls.told g.T.DiskCalls.counts g.T.SiteCalls.port g.T.SiteCalls.lines opening c.args.self.now c.args.self.now (unpolled_same c.args.self.now) kept tells (g.met.T.DiskCalls.seen_is_image c.args.self.now.site tells) fair

-- src/polling.rt:61:20
pub returns-in_err-room-clause-went_on : goal.returns-in_err-room-clause-went_on
returns-in_err-room-clause-went_on g c = λ opening tells kept fair.
    went_on_unpolled g.T.DiskCalls.told g.T.DiskCalls.counts g.T.SiteCalls.port g.T.SiteCalls.lines opening c.args.self.now c.make_room.new.self c.make_room.ensures.same kept tells (g.met.T.DiskCalls.seen_is_image c.args.self.now.site tells) fair

pub returns-in_err-room-clause-kept : goal.returns-in_err-room-clause-kept
returns-in_err-room-clause-kept g c = λ opening kept.
    kept_unpolled g.T.DiskCalls.told g.T.DiskCalls.counts g.T.SiteCalls.port g.T.SiteCalls.lines opening c.args.self.now c.make_room.new.self c.make_room.ensures.same kept

-- src/polling.rt:62:9
pub returns-in_err-has_room-clause-went_on : goal.returns-in_err-has_room-clause-went_on
returns-in_err-has_room-clause-went_on g c = λ opening tells kept fair.
    went_on_unpolled g.T.DiskCalls.told g.T.DiskCalls.counts g.T.SiteCalls.port g.T.SiteCalls.lines opening c.args.self.now c.make_room.new.self c.make_room.ensures.same kept tells (g.met.T.DiskCalls.seen_is_image c.args.self.now.site tells) fair

pub returns-in_err-has_room-clause-kept : goal.returns-in_err-has_room-clause-kept
returns-in_err-has_room-clause-kept g c = λ opening kept.
    kept_unpolled g.T.DiskCalls.told g.T.DiskCalls.counts g.T.SiteCalls.port g.T.SiteCalls.lines opening c.args.self.now c.make_room.new.self c.make_room.ensures.same kept

-- src/polling.rt:63:15
pub returns-in_err-ask-clause-went_on : goal.returns-in_err-ask-clause-went_on
returns-in_err-ask-clause-went_on g c = λ opening tells kept fair.
    went_on_asked g.T.DiskCalls.told g.T.DiskCalls.counts g.T.SiteCalls.port g.T.SiteCalls.lines opening c.args.self.now c.ask.new.self (subst (λ (v : LaneValue g.row.T.Denot). IsLane g.T.DiskCalls.told v) c.self.view_is c.self.invariant) (sym (ap (λ (v : LaneValue g.row.T.Denot). v.is_stale) c.self.view_is) ∙ c.if-self.false) (λ d tells. g.met.T.DiskCalls.seen_is_image d tells) (asked_from g.T.DiskCalls.told g.T.DiskCalls.counts g.T.SiteCalls.port g.T.SiteCalls.lines c.args.self.now c.make_room.new.self c.ask.new.self c.make_room.ensures.same c.ask.ensures.asked c.ask.ensures.tells c.ask.ensures.cause.faults c.ask.ensures.cause.wants (λ tells. c.ask.ensures.run tells) (λ tells. c.ask.ensures.keeps tells)) kept tells fair

pub returns-in_err-ask-clause-kept : goal.returns-in_err-ask-clause-kept
returns-in_err-ask-clause-kept g c = λ opening kept. (
    let gone = asked_stopped Poll g.T.DiskCalls.counts c.make_room.new.self c.ask.new.self c.args.self.now.site c.in_err-ask.field-0.0 c.in_err-ask.ensures.answer c.in_err-ask.ensures.cause.answer c.make_room.ensures.same.site in
    kept_fault g.T.DiskCalls.told g.T.DiskCalls.counts g.T.SiteCalls.port g.T.SiteCalls.lines opening c.args.self.now c.ask.new.self (subst (λ (v : LaneValue g.row.T.Denot). IsLane g.T.DiskCalls.told v) c.self.view_is c.self.invariant) (sym (ap (λ (v : LaneValue g.row.T.Denot). v.is_stale) c.self.view_is) ∙ c.if-self.false) (λ d tells. g.met.T.DiskCalls.seen_is_image d tells) (asked_from g.T.DiskCalls.told g.T.DiskCalls.counts g.T.SiteCalls.port g.T.SiteCalls.lines c.args.self.now c.make_room.new.self c.ask.new.self c.make_room.ensures.same c.ask.ensures.asked c.ask.ensures.tells c.ask.ensures.cause.faults c.ask.ensures.cause.wants (λ tells. c.ask.ensures.run tells) (λ tells. c.ask.ensures.keeps tells)) kept gone.0 gone.1)

-- src/polling.rt:47:5
pub returns-in-None-clause-told : goal.returns-in-None-clause-told
returns-in-None-clause-told g c =
    told_none g.T.DiskCalls.told g.T.DiskCalls.counts g.T.SiteCalls.port g.T.SiteCalls.lines c.args.self.now c.make_room.new.self c.ask.new.self c.args.by (sym (ap (λ (v : LaneValue g.row.T.Denot). v.is_stale) c.self.view_is) ∙ c.if-self.false) (asked_from g.T.DiskCalls.told g.T.DiskCalls.counts g.T.SiteCalls.port g.T.SiteCalls.lines c.args.self.now c.make_room.new.self c.ask.new.self c.make_room.ensures.same c.ask.ensures.asked c.ask.ensures.tells c.ask.ensures.cause.faults c.ask.ensures.cause.wants (λ tells. c.ask.ensures.run tells) (λ tells. c.ask.ensures.keeps tells)) c.make_room.ensures.same.site
    (λ tells. subst (λ m. IfNone m ((port_now g.T.DiskCalls.told g.T.SiteCalls.port g.T.SiteCalls.lines c.ask.new.self.site).given ≡ (port_now g.T.DiskCalls.told g.T.SiteCalls.port g.T.SiteCalls.lines c.make_room.new.self.site).given)) c.in-None.is (c.in_ok-ask.ensures.none tells)) (λ tells. c.in_ok-ask.ensures.polls tells)

pub returns-in-None-clause-went_on : goal.returns-in-None-clause-went_on
returns-in-None-clause-went_on g c = λ opening tells kept fair.
    went_on_asked g.T.DiskCalls.told g.T.DiskCalls.counts g.T.SiteCalls.port g.T.SiteCalls.lines opening c.args.self.now c.ask.new.self (subst (λ (v : LaneValue g.row.T.Denot). IsLane g.T.DiskCalls.told v) c.self.view_is c.self.invariant) (sym (ap (λ (v : LaneValue g.row.T.Denot). v.is_stale) c.self.view_is) ∙ c.if-self.false) (λ d tells. g.met.T.DiskCalls.seen_is_image d tells) (asked_from g.T.DiskCalls.told g.T.DiskCalls.counts g.T.SiteCalls.port g.T.SiteCalls.lines c.args.self.now c.make_room.new.self c.ask.new.self c.make_room.ensures.same c.ask.ensures.asked c.ask.ensures.tells c.ask.ensures.cause.faults c.ask.ensures.cause.wants (λ tells. c.ask.ensures.run tells) (λ tells. c.ask.ensures.keeps tells)) kept tells fair

pub returns-in-None-clause-kept : goal.returns-in-None-clause-kept
returns-in-None-clause-kept g c = λ opening kept.
    kept_none g.T.DiskCalls.told g.T.DiskCalls.counts g.T.SiteCalls.port g.T.SiteCalls.lines opening c.args.self.now c.ask.new.self (subst (λ (v : LaneValue g.row.T.Denot). IsLane g.T.DiskCalls.told v) c.self.view_is c.self.invariant) (sym (ap (λ (v : LaneValue g.row.T.Denot). v.is_stale) c.self.view_is) ∙ c.if-self.false) (λ d tells. g.met.T.DiskCalls.seen_is_image d tells) (asked_from g.T.DiskCalls.told g.T.DiskCalls.counts g.T.SiteCalls.port g.T.SiteCalls.lines c.args.self.now c.make_room.new.self c.ask.new.self c.make_room.ensures.same c.ask.ensures.asked c.ask.ensures.tells c.ask.ensures.cause.faults c.ask.ensures.cause.wants (λ tells. c.ask.ensures.run tells) (λ tells. c.ask.ensures.keeps tells)) kept c.in_ok-ask.ensures.answer
    (subst (λ d. Tells g.T.DiskCalls.told d → (port_now g.T.DiskCalls.told g.T.SiteCalls.port g.T.SiteCalls.lines c.ask.new.self.site).given ≡ (port_now g.T.DiskCalls.told g.T.SiteCalls.port g.T.SiteCalls.lines d).given) c.make_room.ensures.same.site (λ tells. subst (λ m. IfNone m ((port_now g.T.DiskCalls.told g.T.SiteCalls.port g.T.SiteCalls.lines c.ask.new.self.site).given ≡ (port_now g.T.DiskCalls.told g.T.SiteCalls.port g.T.SiteCalls.lines c.make_room.new.self.site).given)) c.in-None.is (c.in_ok-ask.ensures.none tells)))

pub returns-in-Some-clause-polled : goal.returns-in-Some-clause-polled
returns-in-Some-clause-polled g c =
    polled_heard g.T.DiskCalls.told g.T.DiskCalls.counts g.T.SiteCalls.port g.T.SiteCalls.lines c.args.self.now c.ask.new.self (sym (ap (λ (v : LaneValue g.row.T.Denot). v.is_stale) c.self.view_is) ∙ c.if-self.false) (asked_from g.T.DiskCalls.told g.T.DiskCalls.counts g.T.SiteCalls.port g.T.SiteCalls.lines c.args.self.now c.make_room.new.self c.ask.new.self c.make_room.ensures.same c.ask.ensures.asked c.ask.ensures.tells c.ask.ensures.cause.faults c.ask.ensures.cause.wants (λ tells. c.ask.ensures.run tells) (λ tells. c.ask.ensures.keeps tells)) c.hear.new.self c.args.by (c.in-Some.card, c.as_slice.result.now) c.hear.result c.hear.ensures.heard

pub returns-in-Some-clause-told : goal.returns-in-Some-clause-told
returns-in-Some-clause-told g c = λ tells.
    told_heard g.T.DiskCalls.told g.T.DiskCalls.counts g.T.SiteCalls.port g.T.SiteCalls.lines c.args.self.now c.ask.new.self (sym (ap (λ (v : LaneValue g.row.T.Denot). v.is_stale) c.self.view_is) ∙ c.if-self.false) (asked_from g.T.DiskCalls.told g.T.DiskCalls.counts g.T.SiteCalls.port g.T.SiteCalls.lines c.args.self.now c.make_room.new.self c.ask.new.self c.make_room.ensures.same c.ask.ensures.asked c.ask.ensures.tells c.ask.ensures.cause.faults c.ask.ensures.cause.wants (λ tells. c.ask.ensures.run tells) (λ tells. c.ask.ensures.keeps tells)) c.hear.new.self c.args.by (c.in-Some.card, c.as_slice.result.now) c.hear.result c.hear.ensures.heard tells
    ((subst (λ d. Tells g.T.DiskCalls.told d → (port_now g.T.DiskCalls.told g.T.SiteCalls.port g.T.SiteCalls.lines c.ask.new.self.site).given ≡ (port_now g.T.DiskCalls.told g.T.SiteCalls.port g.T.SiteCalls.lines d).given ++ (c.in-Some.card, c.as_slice.result.now) ∷ []) c.make_room.ensures.same.site (λ tells. subst (λ l. (port_now g.T.DiskCalls.told g.T.SiteCalls.port g.T.SiteCalls.lines c.ask.new.self.site).given ≡ (port_now g.T.DiskCalls.told g.T.SiteCalls.port g.T.SiteCalls.lines c.make_room.new.self.site).given ++ (c.in-Some.card, l) ∷ []) (sym c.as_slice.ensures.value) (subst (λ o. IfSome o (λ m. (port_now g.T.DiskCalls.told g.T.SiteCalls.port g.T.SiteCalls.lines c.ask.new.self.site).given ≡ (port_now g.T.DiskCalls.told g.T.SiteCalls.port g.T.SiteCalls.lines c.make_room.new.self.site).given ++ (m.0, m.1.items) ∷ [])) c.in-Some.is (c.in_ok-ask.ensures.given tells)))) tells) ((subst (λ d. Tells g.T.DiskCalls.told d → (port_now g.T.DiskCalls.told g.T.SiteCalls.port g.T.SiteCalls.lines c.ask.new.self.site).polls ≡ (port_now g.T.DiskCalls.told g.T.SiteCalls.port g.T.SiteCalls.lines d).polls + 1) c.make_room.ensures.same.site (λ tells. c.in_ok-ask.ensures.polls tells)) tells)

pub returns-in-Some-clause-nothing : goal.returns-in-Some-clause-nothing
returns-in-Some-clause-nothing g c =
    nothing_heard g.T.DiskCalls.told g.T.DiskCalls.counts g.T.SiteCalls.port g.T.SiteCalls.lines c.args.self.now c.ask.new.self (sym (ap (λ (v : LaneValue g.row.T.Denot). v.is_stale) c.self.view_is) ∙ c.if-self.false) (asked_from g.T.DiskCalls.told g.T.DiskCalls.counts g.T.SiteCalls.port g.T.SiteCalls.lines c.args.self.now c.make_room.new.self c.ask.new.self c.make_room.ensures.same c.ask.ensures.asked c.ask.ensures.tells c.ask.ensures.cause.faults c.ask.ensures.cause.wants (λ tells. c.ask.ensures.run tells) (λ tells. c.ask.ensures.keeps tells)) c.hear.new.self c.args.by (c.in-Some.card, c.as_slice.result.now) c.hear.result c.hear.ensures.heard
    (subst (λ d. empty_polls (g.T.DiskCalls.counts c.ask.new.self.site) ≡ empty_polls (g.T.DiskCalls.counts d)) c.make_room.ensures.same.site (subst (λ o. CountsEmpty (g.T.DiskCalls.counts c.make_room.new.self.site) (g.T.DiskCalls.counts c.ask.new.self.site) (Ok o)) c.in-Some.is c.in_ok-ask.ensures.empty)) c.hear.ensures.empty_polls

pub returns-in-Some-clause-events : goal.returns-in-Some-clause-events
returns-in-Some-clause-events g c = λ opening tells kept fair.
    events_call g.T.DiskCalls.told g.T.DiskCalls.counts g.T.SiteCalls.port g.T.SiteCalls.lines opening c.args.self.now c.ask.new.self (subst (λ (v : LaneValue g.row.T.Denot). IsLane g.T.DiskCalls.told v) c.self.view_is c.self.invariant) (sym (ap (λ (v : LaneValue g.row.T.Denot). v.is_stale) c.self.view_is) ∙ c.if-self.false) (λ d tells. g.met.T.DiskCalls.seen_is_image d tells) (asked_from g.T.DiskCalls.told g.T.DiskCalls.counts g.T.SiteCalls.port g.T.SiteCalls.lines c.args.self.now c.make_room.new.self c.ask.new.self c.make_room.ensures.same c.ask.ensures.asked c.ask.ensures.tells c.ask.ensures.cause.faults c.ask.ensures.cause.wants (λ tells. c.ask.ensures.run tells) (λ tells. c.ask.ensures.keeps tells)) kept c.hear.new.self c.args.by (c.in-Some.card, c.as_slice.result.now) c.hear.result c.in_ok-ask.ensures.answer c.hear.ensures.heard (subst (λ d. Tells g.T.DiskCalls.told d → (port_now g.T.DiskCalls.told g.T.SiteCalls.port g.T.SiteCalls.lines c.ask.new.self.site).given ≡ (port_now g.T.DiskCalls.told g.T.SiteCalls.port g.T.SiteCalls.lines d).given ++ (c.in-Some.card, c.as_slice.result.now) ∷ []) c.make_room.ensures.same.site (λ tells. subst (λ l. (port_now g.T.DiskCalls.told g.T.SiteCalls.port g.T.SiteCalls.lines c.ask.new.self.site).given ≡ (port_now g.T.DiskCalls.told g.T.SiteCalls.port g.T.SiteCalls.lines c.make_room.new.self.site).given ++ (c.in-Some.card, l) ∷ []) (sym c.as_slice.ensures.value) (subst (λ o. IfSome o (λ m. (port_now g.T.DiskCalls.told g.T.SiteCalls.port g.T.SiteCalls.lines c.ask.new.self.site).given ≡ (port_now g.T.DiskCalls.told g.T.SiteCalls.port g.T.SiteCalls.lines c.make_room.new.self.site).given ++ (m.0, m.1.items) ∷ [])) c.in-Some.is (c.in_ok-ask.ensures.given tells)))) c.hear.ensures.tells c.hear.ensures.cause tells
    (g.met.T.SiteCalls.has_choice c.ask.new.self.site (subst (λ b. IsTrue b) (sym ((asked_from g.T.DiskCalls.told g.T.DiskCalls.counts g.T.SiteCalls.port g.T.SiteCalls.lines c.args.self.now c.make_room.new.self c.ask.new.self c.make_room.ensures.same c.ask.ensures.asked c.ask.ensures.tells c.ask.ensures.cause.faults c.ask.ensures.cause.wants (λ tells. c.ask.ensures.run tells) (λ tells. c.ask.ensures.keeps tells)).tells)) tells) (g.T.DiskCalls.told.clock c.ask.new.self.site) (omega arith)) fair

pub returns-in-Some-clause-went_on : goal.returns-in-Some-clause-went_on
returns-in-Some-clause-went_on g c = λ opening tells kept fair.
    went_on_call g.T.DiskCalls.told g.T.DiskCalls.counts g.T.SiteCalls.port g.T.SiteCalls.lines opening c.args.self.now c.ask.new.self (subst (λ (v : LaneValue g.row.T.Denot). IsLane g.T.DiskCalls.told v) c.self.view_is c.self.invariant) (sym (ap (λ (v : LaneValue g.row.T.Denot). v.is_stale) c.self.view_is) ∙ c.if-self.false) (λ d tells. g.met.T.DiskCalls.seen_is_image d tells) (asked_from g.T.DiskCalls.told g.T.DiskCalls.counts g.T.SiteCalls.port g.T.SiteCalls.lines c.args.self.now c.make_room.new.self c.ask.new.self c.make_room.ensures.same c.ask.ensures.asked c.ask.ensures.tells c.ask.ensures.cause.faults c.ask.ensures.cause.wants (λ tells. c.ask.ensures.run tells) (λ tells. c.ask.ensures.keeps tells)) kept c.hear.new.self c.args.by (c.in-Some.card, c.as_slice.result.now) c.hear.result c.in_ok-ask.ensures.answer c.hear.ensures.heard (subst (λ d. Tells g.T.DiskCalls.told d → (port_now g.T.DiskCalls.told g.T.SiteCalls.port g.T.SiteCalls.lines c.ask.new.self.site).given ≡ (port_now g.T.DiskCalls.told g.T.SiteCalls.port g.T.SiteCalls.lines d).given ++ (c.in-Some.card, c.as_slice.result.now) ∷ []) c.make_room.ensures.same.site (λ tells. subst (λ l. (port_now g.T.DiskCalls.told g.T.SiteCalls.port g.T.SiteCalls.lines c.ask.new.self.site).given ≡ (port_now g.T.DiskCalls.told g.T.SiteCalls.port g.T.SiteCalls.lines c.make_room.new.self.site).given ++ (c.in-Some.card, l) ∷ []) (sym c.as_slice.ensures.value) (subst (λ o. IfSome o (λ m. (port_now g.T.DiskCalls.told g.T.SiteCalls.port g.T.SiteCalls.lines c.ask.new.self.site).given ≡ (port_now g.T.DiskCalls.told g.T.SiteCalls.port g.T.SiteCalls.lines c.make_room.new.self.site).given ++ (m.0, m.1.items) ∷ [])) c.in-Some.is (c.in_ok-ask.ensures.given tells)))) c.hear.ensures.tells c.hear.ensures.cause tells fair

pub returns-in-Some-clause-later : goal.returns-in-Some-clause-later
returns-in-Some-clause-later g c =
    later_heard g.T.DiskCalls.told g.T.DiskCalls.counts g.T.SiteCalls.port g.T.SiteCalls.lines c.args.self.now c.ask.new.self (sym (ap (λ (v : LaneValue g.row.T.Denot). v.is_stale) c.self.view_is) ∙ c.if-self.false) (asked_from g.T.DiskCalls.told g.T.DiskCalls.counts g.T.SiteCalls.port g.T.SiteCalls.lines c.args.self.now c.make_room.new.self c.ask.new.self c.make_room.ensures.same c.ask.ensures.asked c.ask.ensures.tells c.ask.ensures.cause.faults c.ask.ensures.cause.wants (λ tells. c.ask.ensures.run tells) (λ tells. c.ask.ensures.keeps tells)) c.hear.new.self c.args.by (c.in-Some.card, c.as_slice.result.now) c.hear.result c.hear.ensures.heard c.hear.ensures.tells c.hear.ensures.cause.faults c.hear.ensures.cause.wants

pub returns-in-Some-clause-kept : goal.returns-in-Some-clause-kept
returns-in-Some-clause-kept g c = λ opening kept.
    kept_call g.T.DiskCalls.told g.T.DiskCalls.counts g.T.SiteCalls.port g.T.SiteCalls.lines opening c.args.self.now c.ask.new.self (subst (λ (v : LaneValue g.row.T.Denot). IsLane g.T.DiskCalls.told v) c.self.view_is c.self.invariant) (sym (ap (λ (v : LaneValue g.row.T.Denot). v.is_stale) c.self.view_is) ∙ c.if-self.false) (λ d tells. g.met.T.DiskCalls.seen_is_image d tells) (asked_from g.T.DiskCalls.told g.T.DiskCalls.counts g.T.SiteCalls.port g.T.SiteCalls.lines c.args.self.now c.make_room.new.self c.ask.new.self c.make_room.ensures.same c.ask.ensures.asked c.ask.ensures.tells c.ask.ensures.cause.faults c.ask.ensures.cause.wants (λ tells. c.ask.ensures.run tells) (λ tells. c.ask.ensures.keeps tells)) kept c.hear.new.self c.args.by (c.in-Some.card, c.as_slice.result.now) c.hear.result c.in_ok-ask.ensures.answer c.hear.ensures.heard (subst (λ d. Tells g.T.DiskCalls.told d → (port_now g.T.DiskCalls.told g.T.SiteCalls.port g.T.SiteCalls.lines c.ask.new.self.site).given ≡ (port_now g.T.DiskCalls.told g.T.SiteCalls.port g.T.SiteCalls.lines d).given ++ (c.in-Some.card, c.as_slice.result.now) ∷ []) c.make_room.ensures.same.site (λ tells. subst (λ l. (port_now g.T.DiskCalls.told g.T.SiteCalls.port g.T.SiteCalls.lines c.ask.new.self.site).given ≡ (port_now g.T.DiskCalls.told g.T.SiteCalls.port g.T.SiteCalls.lines c.make_room.new.self.site).given ++ (c.in-Some.card, l) ∷ []) (sym c.as_slice.ensures.value) (subst (λ o. IfSome o (λ m. (port_now g.T.DiskCalls.told g.T.SiteCalls.port g.T.SiteCalls.lines c.ask.new.self.site).given ≡ (port_now g.T.DiskCalls.told g.T.SiteCalls.port g.T.SiteCalls.lines c.make_room.new.self.site).given ++ (m.0, m.1.items) ∷ [])) c.in-Some.is (c.in_ok-ask.ensures.given tells)))) c.hear.ensures.tells c.hear.ensures.cause

pub returns-in_err-room-clause-lost : goal.returns-in_err-room-clause-lost
returns-in_err-room-clause-lost g c = λ tells.
    loses_none c.args.self.now c.make_room.new.self c.args.by (port_now g.T.DiskCalls.told g.T.SiteCalls.port g.T.SiteCalls.lines c.args.self.now.site) (port_now g.T.DiskCalls.told g.T.SiteCalls.port g.T.SiteCalls.lines c.make_room.new.self.site) c.from_residual.result
    (c.make_room.ensures.same.lost ∙ (subst (λ (v : LaneValue g.row.T.Denot). IsLane g.T.DiskCalls.told v) c.self.view_is c.self.invariant).whole (sym (ap (λ (v : LaneValue g.row.T.Denot). v.is_stale) c.self.view_is) ∙ c.if-self.false))

pub returns-in_err-has_room-clause-lost : goal.returns-in_err-has_room-clause-lost
returns-in_err-has_room-clause-lost g c = λ tells.
    loses_none c.args.self.now c.make_room.new.self c.args.by (port_now g.T.DiskCalls.told g.T.SiteCalls.port g.T.SiteCalls.lines c.args.self.now.site) (port_now g.T.DiskCalls.told g.T.SiteCalls.port g.T.SiteCalls.lines c.make_room.new.self.site) c.from_residual-in_err-has_room.result
    (c.make_room.ensures.same.lost ∙ (subst (λ (v : LaneValue g.row.T.Denot). IsLane g.T.DiskCalls.told v) c.self.view_is c.self.invariant).whole (sym (ap (λ (v : LaneValue g.row.T.Denot). v.is_stale) c.self.view_is) ∙ c.if-self.false))

pub returns-in_err-ask-clause-lost : goal.returns-in_err-ask-clause-lost
returns-in_err-ask-clause-lost g c = λ tells.
    loses_none c.args.self.now c.ask.new.self c.args.by (port_now g.T.DiskCalls.told g.T.SiteCalls.port g.T.SiteCalls.lines c.args.self.now.site) (port_now g.T.DiskCalls.told g.T.SiteCalls.port g.T.SiteCalls.lines c.ask.new.self.site) c.from_residual-in_err-ask.result
    (c.ask.ensures.asked.lost ∙ c.make_room.ensures.same.lost ∙ (subst (λ (v : LaneValue g.row.T.Denot). IsLane g.T.DiskCalls.told v) c.self.view_is c.self.invariant).whole (sym (ap (λ (v : LaneValue g.row.T.Denot). v.is_stale) c.self.view_is) ∙ c.if-self.false))

pub returns-in_err-ask-clause-events : goal.returns-in_err-ask-clause-events
returns-in_err-ask-clause-events g c = λ opening tells kept fair.
    let p = err_from_is_err_and c.from_residual-in_err-ask.result c.from_residual-in_err-ask.ensures.1 in
    rw (p.1, p.2)
    (events_none g.T.DiskCalls.told g.T.SiteCalls.port g.T.SiteCalls.lines c.args.self.now c.ask.new.self c.args.by c.in_err-ask.field-0.0
    (ap (λ j. j.entries) c.ask.ensures.asked.journal ∙ c.make_room.ensures.same.entries) (c.ask.ensures.asked.lost ∙ c.make_room.ensures.same.lost ∙ (subst (λ (v : LaneValue g.row.T.Denot). IsLane g.T.DiskCalls.told v) c.self.view_is c.self.invariant).whole (sym (ap (λ (v : LaneValue g.row.T.Denot). v.is_stale) c.self.view_is) ∙ c.if-self.false)))

pub returns-in-Some-clause-lost : goal.returns-in-Some-clause-lost
returns-in-Some-clause-lost g c = λ tells.
    loses_heard g.T.DiskCalls.told g.T.DiskCalls.counts g.T.SiteCalls.port g.T.SiteCalls.lines c.args.self.now c.ask.new.self (sym (ap (λ (v : LaneValue g.row.T.Denot). v.is_stale) c.self.view_is) ∙ c.if-self.false) (asked_from g.T.DiskCalls.told g.T.DiskCalls.counts g.T.SiteCalls.port g.T.SiteCalls.lines c.args.self.now c.make_room.new.self c.ask.new.self c.make_room.ensures.same c.ask.ensures.asked c.ask.ensures.tells c.ask.ensures.cause.faults c.ask.ensures.cause.wants (λ tells. c.ask.ensures.run tells) (λ tells. c.ask.ensures.keeps tells)) c.hear.new.self c.args.by (c.in-Some.card, c.as_slice.result.now) c.hear.result c.hear.ensures.heard tells
    ((subst (λ d. Tells g.T.DiskCalls.told d → (port_now g.T.DiskCalls.told g.T.SiteCalls.port g.T.SiteCalls.lines c.ask.new.self.site).given ≡ (port_now g.T.DiskCalls.told g.T.SiteCalls.port g.T.SiteCalls.lines d).given ++ (c.in-Some.card, c.as_slice.result.now) ∷ []) c.make_room.ensures.same.site (λ tells. subst (λ l. (port_now g.T.DiskCalls.told g.T.SiteCalls.port g.T.SiteCalls.lines c.ask.new.self.site).given ≡ (port_now g.T.DiskCalls.told g.T.SiteCalls.port g.T.SiteCalls.lines c.make_room.new.self.site).given ++ (c.in-Some.card, l) ∷ []) (sym c.as_slice.ensures.value) (subst (λ o. IfSome o (λ m. (port_now g.T.DiskCalls.told g.T.SiteCalls.port g.T.SiteCalls.lines c.ask.new.self.site).given ≡ (port_now g.T.DiskCalls.told g.T.SiteCalls.port g.T.SiteCalls.lines c.make_room.new.self.site).given ++ (m.0, m.1.items) ∷ [])) c.in-Some.is (c.in_ok-ask.ensures.given tells)))) tells)

pub returns-then-self-clause-course : goal.returns-then-self-clause-course
returns-then-self-clause-course g c = λ opening tells kept fair acts past keeps.
    unpolled_course g.T.DiskCalls.told g.T.SiteCalls.port g.T.SiteCalls.lines c.args.self.now c.args.self.now (unpolled_same c.args.self.now)

pub returns-in_err-room-clause-course : goal.returns-in_err-room-clause-course
returns-in_err-room-clause-course g c = λ opening tells kept fair acts past keeps.
    let p = err_from_is_err_and c.from_residual.result c.from_residual.ensures.1 in
    rw (p.1, p.2) (unpolled_course g.T.DiskCalls.told g.T.SiteCalls.port g.T.SiteCalls.lines c.args.self.now c.make_room.new.self c.make_room.ensures.same)

pub returns-in_err-has_room-clause-course : goal.returns-in_err-has_room-clause-course
returns-in_err-has_room-clause-course g c = λ opening tells kept fair acts past keeps.
    let p = err_from_is_err_and c.from_residual-in_err-has_room.result c.from_residual-in_err-has_room.ensures.1 in
    rw (p.1, p.2, c.in_err-has_room.ensures.0) (unpolled_course g.T.DiskCalls.told g.T.SiteCalls.port g.T.SiteCalls.lines c.args.self.now c.make_room.new.self c.make_room.ensures.same)

pub returns-in_err-ask-clause-course : goal.returns-in_err-ask-clause-course
returns-in_err-ask-clause-course g c = λ opening tells kept fair acts past keeps.
    let p = err_from_is_err_and c.from_residual-in_err-ask.result c.from_residual-in_err-ask.ensures.1 in
    rw (p.1, p.2)
    (fault_course g.T.DiskCalls.told g.T.DiskCalls.counts g.T.SiteCalls.port g.T.SiteCalls.lines c.args.self.now c.ask.new.self (subst (λ (v : LaneValue g.row.T.Denot). IsLane g.T.DiskCalls.told v) c.self.view_is c.self.invariant) (sym (ap (λ (v : LaneValue g.row.T.Denot). v.is_stale) c.self.view_is) ∙ c.if-self.false) (λ d tells. g.met.T.DiskCalls.seen_is_image d tells)
    (asked_from g.T.DiskCalls.told g.T.DiskCalls.counts g.T.SiteCalls.port g.T.SiteCalls.lines c.args.self.now c.make_room.new.self c.ask.new.self c.make_room.ensures.same c.ask.ensures.asked c.ask.ensures.tells c.ask.ensures.cause.faults c.ask.ensures.cause.wants (λ tells. c.ask.ensures.run tells) (λ tells. c.ask.ensures.keeps tells)) tells acts Poll opening kept fair c.args.by c.in_err-ask.field-0.0 c.in_err-ask.ensures.answer past keeps)

pub returns-in-None-clause-course : goal.returns-in-None-clause-course
returns-in-None-clause-course g c = λ opening tells kept fair acts past keeps.
    none_course g.T.DiskCalls.told g.T.DiskCalls.counts g.T.SiteCalls.port g.T.SiteCalls.lines c.args.self.now c.ask.new.self (subst (λ (v : LaneValue g.row.T.Denot). IsLane g.T.DiskCalls.told v) c.self.view_is c.self.invariant) (sym (ap (λ (v : LaneValue g.row.T.Denot). v.is_stale) c.self.view_is) ∙ c.if-self.false) (λ d tells. g.met.T.DiskCalls.seen_is_image d tells)
    (asked_from g.T.DiskCalls.told g.T.DiskCalls.counts g.T.SiteCalls.port g.T.SiteCalls.lines c.args.self.now c.make_room.new.self c.ask.new.self c.make_room.ensures.same c.ask.ensures.asked c.ask.ensures.tells c.ask.ensures.cause.faults c.ask.ensures.cause.wants (λ tells. c.ask.ensures.run tells) (λ tells. c.ask.ensures.keeps tells)) tells acts c.args.by past
    ((subst (λ d. Tells g.T.DiskCalls.told d → (port_now g.T.DiskCalls.told g.T.SiteCalls.port g.T.SiteCalls.lines c.ask.new.self.site).given ≡ (port_now g.T.DiskCalls.told g.T.SiteCalls.port g.T.SiteCalls.lines d).given) c.make_room.ensures.same.site (λ tells. subst (λ m. IfNone m ((port_now g.T.DiskCalls.told g.T.SiteCalls.port g.T.SiteCalls.lines c.ask.new.self.site).given ≡ (port_now g.T.DiskCalls.told g.T.SiteCalls.port g.T.SiteCalls.lines c.make_room.new.self.site).given)) c.in-None.is (c.in_ok-ask.ensures.none tells))) tells)

pub returns-in-Some-clause-course : goal.returns-in-Some-clause-course
returns-in-Some-clause-course g c = λ opening tells kept fair acts past keeps.
    taken_course g.T.DiskCalls.told g.T.DiskCalls.counts g.T.SiteCalls.port g.T.SiteCalls.lines opening c.args.self.now c.ask.new.self (subst (λ (v : LaneValue g.row.T.Denot). IsLane g.T.DiskCalls.told v) c.self.view_is c.self.invariant) (sym (ap (λ (v : LaneValue g.row.T.Denot). v.is_stale) c.self.view_is) ∙ c.if-self.false) (λ d tells. g.met.T.DiskCalls.seen_is_image d tells)
    (asked_from g.T.DiskCalls.told g.T.DiskCalls.counts g.T.SiteCalls.port g.T.SiteCalls.lines c.args.self.now c.make_room.new.self c.ask.new.self c.make_room.ensures.same c.ask.ensures.asked c.ask.ensures.tells c.ask.ensures.cause.faults c.ask.ensures.cause.wants (λ tells. c.ask.ensures.run tells) (λ tells. c.ask.ensures.keeps tells)) kept c.hear.new.self c.args.by (c.in-Some.card, c.as_slice.result.now) c.hear.result c.in_ok-ask.ensures.answer c.hear.ensures.heard
    (subst (λ d. Tells g.T.DiskCalls.told d → (port_now g.T.DiskCalls.told g.T.SiteCalls.port g.T.SiteCalls.lines c.ask.new.self.site).given ≡ (port_now g.T.DiskCalls.told g.T.SiteCalls.port g.T.SiteCalls.lines d).given ++ (c.in-Some.card, c.as_slice.result.now) ∷ []) c.make_room.ensures.same.site (λ tells. subst (λ l. (port_now g.T.DiskCalls.told g.T.SiteCalls.port g.T.SiteCalls.lines c.ask.new.self.site).given ≡ (port_now g.T.DiskCalls.told g.T.SiteCalls.port g.T.SiteCalls.lines c.make_room.new.self.site).given ++ (c.in-Some.card, l) ∷ []) (sym c.as_slice.ensures.value) (subst (λ o. IfSome o (λ m. (port_now g.T.DiskCalls.told g.T.SiteCalls.port g.T.SiteCalls.lines c.ask.new.self.site).given ≡ (port_now g.T.DiskCalls.told g.T.SiteCalls.port g.T.SiteCalls.lines c.make_room.new.self.site).given ++ (m.0, m.1.items) ∷ [])) c.in-Some.is (c.in_ok-ask.ensures.given tells))))
    c.hear.ensures.tells c.hear.ensures.cause tells
    (g.met.T.SiteCalls.has_choice c.ask.new.self.site (subst (λ b. IsTrue b) (sym ((asked_from g.T.DiskCalls.told g.T.DiskCalls.counts g.T.SiteCalls.port g.T.SiteCalls.lines c.args.self.now c.make_room.new.self c.ask.new.self c.make_room.ensures.same c.ask.ensures.asked c.ask.ensures.tells c.ask.ensures.cause.faults c.ask.ensures.cause.wants (λ tells. c.ask.ensures.run tells) (λ tells. c.ask.ensures.keeps tells)).tells)) tells) (g.T.DiskCalls.told.clock c.ask.new.self.site) (omega arith)) fair acts past keeps
