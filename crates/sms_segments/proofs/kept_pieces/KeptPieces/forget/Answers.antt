use Rattle.std.proofs.Common.{◌+◌, ◌&&◌, ◌∙◌, ap, cond, eqb, None, rules}
use Rattle.std.specs.HashMap.{Updates}
use Rattle.sms_segments.specs.declared.kept_pieces.Place.{Place}
use Rattle.sms_segments.specs.contracts.kept_pieces.PlacePartialEq.TheImpl as place_eq
use Rattle.sms_segments.specs.Assembled.{is_same}
use Rattle.sms_segments.specs.Kept.{kept_in}
use Rattle.sms_segments.proofs.KeptLemmas.{kept-drop, drop-more}
use Rattle.sms_segments.proofs.kept_pieces.KeptPieces.forget.Goals as goal

pub loop-before-preserved : goal.loop-before-preserved
loop-before-preserved c = λ other place.
    let at : Place = record { of = c.args.of.now; place = c.loop-before.before + 1 } in
    let updates : Updates place_eq.ghosts.eq c.loop-before.self-inside.pieces c.remove.new.self at None = search rules in
    kept-drop c.loop-before.self-inside.pieces c.remove.new.self at updates.0 other place
    ∙ ap (λ o. cond (is_same c.args.of.now other && eqb place (c.loop-before.before + 1)) None o) (c.loop-before.invariant other place)
    ∙ drop-more (is_same c.args.of.now other) place c.loop-before.before (kept_in c.self.inside.pieces.entries other place)
