use Rattle.std.proofs.Common.{◌≡◌, ◌∙◌, ap, get_or, set}
use Rattle.air_sim.proofs.site_cards.SiteCards.meet.Goals as goal

pub returns : goal.returns
returns g c =
    let one = c.index_mut.result.now in
    let after = c.meet.new.card in
    let items = ap (λ cards. cards.items) c.self.view_is in
    record {
      card = one;
      after = after;
      is = c.index_mut.ensures.value ∙ ap (λ cards. get_or cards c.args.place one) items;
      stands = ap (λ cards. set cards c.args.place after) items;
      meets = c.meet.ensures.meets;
      facts = c.meet.ensures.facts;
      tells = c.meet.ensures.tells;
      grows = c.meet.ensures.grows;
      logged = c.meet.ensures.logged;
    }
