use Rattle.std.proofs.Common.{subst}
use Rattle.world_core.specs.WorldState.{WorldState, written}
use Rattle.ota_core.specs.History.{IsLegal}
use Rattle.ota_core.specs.Rules.{MomentsNeverFall}
use Rattle.ota_core.proofs.RuleLaws.{moments_never_fall}
use Rattle.world_core.proofs.SoundLemmas.{legal_history}
use Rattle.world_core.specs.Headline.{SentIsReserved, LogsAreSound, AnswersAreTrue, AnswersAreOwn, AtMostOnce, GivenWasMade, LinesAreReserved, OneCounter}
use Rattle.world_core.proofs.HeadlineLemmas.{at_most_once, one_counter}
use Rattle.world_core.proofs.StepLemmas.{continues_after, later_run}
use Rattle.world_core.proofs.worlds.World.run.Goals as goal

pub returns-clause-one_counter : goal.returns-clause-one_counter
returns-clause-one_counter c = subst (λ (w : WorldState). OneCounter w) c.self.view_is (one_counter c.self.inside.parts c.self.invariant)

pub returns-clause-at_most_once : goal.returns-clause-at_most_once
returns-clause-at_most_once c = subst (λ (w : WorldState). AtMostOnce w) c.self.view_is (at_most_once c.self.inside.parts c.self.invariant)

pub returns-clause-lines_reserved : goal.returns-clause-lines_reserved
returns-clause-lines_reserved c = subst (λ (w : WorldState). LinesAreReserved w) c.self.view_is (c.self.invariant.reserved)

pub returns-clause-answers_true : goal.returns-clause-answers_true
returns-clause-answers_true c = subst (λ (w : WorldState). AnswersAreTrue w) c.self.view_is (c.self.invariant.answers)

pub returns-clause-given_made : goal.returns-clause-given_made
returns-clause-given_made c = subst (λ (w : WorldState). GivenWasMade w) c.self.view_is (c.self.invariant.given)

pub returns-clause-legal : goal.returns-clause-legal
returns-clause-legal c = subst (λ (w : WorldState). IsLegal w.history) c.self.view_is (legal_history c.self.inside.parts c.self.invariant)

pub returns-clause-sent_reserved : goal.returns-clause-sent_reserved
returns-clause-sent_reserved c = subst (λ (w : WorldState). SentIsReserved w) c.self.view_is (c.self.invariant.sent)

pub returns-clause-logs_sound : goal.returns-clause-logs_sound
returns-clause-logs_sound c = subst (λ (w : WorldState). LogsAreSound w) c.self.view_is (c.self.invariant.cards)

pub returns-clause-answers_own : goal.returns-clause-answers_own
returns-clause-answers_own c = subst (λ (w : WorldState). AnswersAreOwn w) c.self.view_is (c.self.invariant.own)

pub returns-clause-continues : goal.returns-clause-continues
returns-clause-continues c =
    continues_after c.args.self.now c.run_all-outcome.new.self c.args.events.now c.run_all-outcome.result c.run_all-outcome.ensures.ran

pub returns-clause-later : goal.returns-clause-later
returns-clause-later c =
    later_run c.args.self.now c.run_all-outcome.new.self c.args.events.now c.run_all-outcome.result c.run_all-outcome.ensures.ran c.run_all-outcome.ensures.stopped

pub returns-clause-moments : goal.returns-clause-moments
returns-clause-moments c = subst (λ (w : WorldState). MomentsNeverFall (written w)) c.self.view_is
    (moments_never_fall (written c.self.inside.parts) c.self.invariant.legal)
