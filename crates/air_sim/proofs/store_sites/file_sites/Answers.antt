use Rattle.std.proofs.Common.{◌≡◌, ◌∷◌, ◌++◌, [], ◌+◌, arith, length, length-append, rules, subst, sym}
use Rattle.air_sim.specs.Files.{AreFileSites, HasRefusal, IsFileSite}
use Rattle.air_sim.proofs.FileLemmas.{sites_more}
use Rattle.air_sim.proofs.SendLemmas.{handed_on}
use Rattle.air_sim.proofs.store_sites.file_sites.Goals as goal

pub returns-in_err-site-clause-refused : goal.returns-in_err-site-clause-refused
returns-in_err-site-clause-refused g c =
    let cards = c.args.plan.now.cards in
    subst (λ result. HasRefusal cards result) (sym (handed_on c.from_residual.result c.in_err-site.field-0.0 c.from_residual.ensures.1))
    (subst (λ result. HasRefusal cards result) c.in_err-site.was (subst (λ list. HasRefusal list c.file_site.result) c.as_slice.ensures c.file_site.ensures.refused))

pub loop-lane-preserved : goal.loop-lane-preserved
loop-lane-preserved g c =
    let cards = c.args.plan.now.cards in
    let sites = c.loop-lane.sites.items in
    let more : c.push.new.self.items ≡ sites ++ c.in_ok-site.site ∷ [] = search (rules, c.in-Ok.ensures.items) in
    let one = subst (λ list. IsFileSite list c.args.lanes c.loop-lane.lane c.in_ok-site.site) c.as_slice.ensures c.in_ok-site.ensures.site in
    subst (λ all. (length all ≡ c.loop-lane.lane + 1) × AreFileSites cards c.args.lanes 0 all) (sym more) (
      omega (arith, c.loop-lane.invariant.0, length-append sites (c.in_ok-site.site ∷ [])),
      sites_more cards c.args.lanes 0 sites c.in_ok-site.site c.loop-lane.invariant.1 (subst (λ lane. IsFileSite cards c.args.lanes lane c.in_ok-site.site) (omega (arith, c.loop-lane.invariant.0)) one),
    )
