use Rattle.std.proofs.Common.{List, ◌+◌, ap, subst, sym, ◌∙◌}
use Rattle.std.specs.Option.{option_or}
use Rattle.crossbeam_queue.specs.Passes.{view}
use Rattle.senders.specs.Desks.{IsDesk}
use Rattle.senders.specs.declared.pieces.Work.{Work}
use Rattle.senders.proofs.HeldLemmas.{desk_joined, seated_joined}
use Rattle.senders.proofs.sharing.join.Goals as goal

pub returns-clause-seated : goal.returns-clause-seated
returns-clause-seated g c = seated_joined c.args.locks.now c.args.all.now.row.items c.args.desk.row.items c.join_rows.new.all.items c.requires.seated.0 c.join_rows.ensures.joined

pub returns-clause-joined : goal.returns-clause-joined
returns-clause-joined g c = λ numbers others mine yours.
    subst (λ (l : List Work). IsDesk g.P.Terms.works (λ n. numbers n + others n) l c.args.locks.now c.join_rows.new.all.items c.or-all.result) (sym (ap (λ h. h.taken) c.unite.ensures.1))
    (desk_joined g.P.Terms.works numbers others (view c.args.all.now.pass).taken (view c.args.desk.pass).taken c.args.locks.now c.args.all.now.row.items c.args.desk.row.items c.join_rows.new.all.items
    c.args.all.now.refused c.args.desk.refused c.or-all.result mine yours c.join_rows.ensures.joined (c.or-all.ensures ∙ ap (λ o. option_or o c.args.desk.refused) c.take.ensures.value))
