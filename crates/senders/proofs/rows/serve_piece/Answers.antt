use Rattle.std.proofs.Common.{ap, ◌∙◌}
use Rattle.std.specs.Option.{option_or}
use Rattle.senders.proofs.HeldLemmas.{desk_held}
use Rattle.senders.proofs.rows.serve_piece.Goals as goal

pub returns-clause-desk : goal.returns-clause-desk
returns-clause-desk g c = λ numbers had desk.
    desk_held g.P.Terms.works numbers had c.args.locks.now c.args.desk.now.row.items c.hold_at-refused.new.row.items c.args.piece.now c.args.desk.now.refused c.hold_at-refused.result c.or-desk.result
    c.requires.piece desk (λ undone rows. c.hold_at-refused.ensures.held numbers had undone rows) (c.or-desk.ensures ∙ ap (λ o. option_or o c.hold_at-refused.result) c.take.ensures.value)
