use Rattle.std.proofs.lemmas.Nat.{mod_below}
use Rattle.campaigns.proofs.PlacingLemmas.{placed_more}
use Rattle.campaigns.proofs.batches.in_pieces.Goals as goal

pub loop-job-preserved : goal.loop-job-preserved
loop-job-preserved c =
    rw (c.in_ok-put.ensures.works, c.put.ensures.ends, c.loop-job.invariant.each)
    (placed_more c.args.lanes c.args.size c.requires.size c.loop-job.yielded c.in-Some.job c.loop-job.works.items c.loop-job.ends.items
    (mod_below c.in-Some.job.keyset.card.0 c.args.lanes c.requires.lanes) c.loop-job.invariant)
