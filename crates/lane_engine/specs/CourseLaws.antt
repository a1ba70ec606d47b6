-- Laws of sites whose cards act by events of the pure machine.
use Rattle.std.proofs.Common.{◌≡◌, ℕ, suc, ◌≤◌, List, ◌++◌, arith, subst, sym, ap}
use Rattle.disk_model.specs.Disk.{Meaning, PastStands}
use Rattle.site_model.specs.Port.{PortState}
use Rattle.site_model.specs.Cards.{port_at}
use Rattle.world_core.specs.declared.lines.Line.{Line}
use Rattle.lane_engine.specs.Course.{CardsAct, CardsActSince}
use Rattle.lane_engine.specs.World.{AreSent}

module _ {D B C : Type 0} (told : Meaning D B C) (port : B → PortState) (lines : C → ℕ → List Line) (lane lanes : ℕ) where
  -- so they act since each later moment
  pub acts_from : (from later : ℕ) (site : D) → from ≤ later → CardsActSince told port lines lane lanes from site → CardsActSince told port lines lane lanes later site
  acts_from from later site low acts moment above = acts moment (omega (arith, low, above))

  -- and on the site before some calls
  pub acts_before : (from : ℕ) (old new : D) → PastStands told old new → CardsActSince told port lines lane lanes from new → CardsActSince told port lines lane lanes from old
  acts_before from old new past acts moment low below image history at stands sent more are then reserved after chosen =
      let on = past.later in
      let here : port_at told port lines new moment ≡ port_at told port lines old moment = ap port (past.beside moment (omega (arith, below))) in
      let next : port_at told port lines new (suc moment) ≡ port_at told port lines old (suc moment) = ap port (past.beside (suc moment) (omega (arith, below))) in
      let act = acts moment low (omega (arith, below, on)) image history (past.no_fewer (suc moment) image (omega (arith, below)) at) stands sent more
      (subst (λ (p : PortState). AreSent history p.sent sent) (sym here) are) (subst (λ (p : PortState). AreSent history p.sent (sent ++ more)) (sym next) then) reserved after
      (past.no_fewer_choices (suc moment) after (omega (arith, below)) chosen) in (
        act.0,
        past.no_more_choices moment act.0 (omega (arith, below)) act.1,
        subst (λ (p : PortState). CardsAct history p (port_at told port lines old (suc moment)) (lines act.0) (lines after) sent more) here
            (subst (λ (p : PortState). CardsAct history (port_at told port lines new moment) p (lines act.0) (lines after) sent more) next act.2),
      )
