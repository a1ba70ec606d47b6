use Rattle.std.proofs.Common.{[], ◌∷◌, length, length-append, ap, refl, sym, subst, ◌∙◌, arith}
use Rattle.senders.specs.Trials.{AreWatched, id_for}
use Rattle.senders.proofs.TrialLemmas.{watched_more}
use Rattle.senders.proofs.tests.watch_part.Goals as goal

pub loop-number-preserved : goal.loop-number-preserved
loop-number-preserved c =
    let inv = c.loop-number.invariant in
    let lt = c.loop-number-test.true in
    let was = inv.count in
    let long = ap length c.in_ok-push.ensures.items in
    let more = length-append c.loop-number.watch.items ((c.args.lane, c.id.result) ∷ []) in
    record {
      watched = subst (AreWatched c.args.lanes 1) (sym c.in_ok-push.ensures.items)
          (watched_more c.args.lanes 1 c.loop-number.watch.items (c.args.lane, c.id.result) inv.watched c.requires.there (c.id.ensures ∙ ap id_for (omega (arith, was))));
      count = omega (arith, was, long, more);
      within = omega (arith, lt);
      stop = refl;
    }
