-- The commands are simple, and none of their options has a rule on another.
use Rattle.std.proofs.Common.{◌≡◌, ◌&&◌, Bool, true, false, Some, None, List, [], ◌∷◌, refl}
use Rattle.std.specs.Prelude.{if◌then◌else◌}
use Rattle.clap.specs.Words.{Row, Kinds, IsAmong, is_simple_and_free}
use Rattle.clap.specs.declared.error.kind.ErrorKind.{ErrorKind}
use Rattle.command_words.specs.Options.{app_for, drill_app, has_no_fault}
use Rattle.command_words.specs.declared.kinds.Kind.{Kind}
use Rattle.command_words.specs.declared.kinds.Kind.TheVariants.{Format, Reserve, Send, Report, Close, Cards, Packet}

pub app_is_simple : (kind : Kind) → is_simple_and_free (app_for kind) ≡ true
app_is_simple Format = refl
app_is_simple Reserve = refl
app_is_simple Send = refl
app_is_simple Report = refl
app_is_simple Close = refl
app_is_simple Cards = refl
app_is_simple Packet = refl

pub drill_is_simple : is_simple_and_free drill_app ≡ true
drill_is_simple = refl

pub first_true : (a b : Bool) → (a && b) ≡ true → a ≡ true
first_true true b both = refl
first_true false b both = cc

-- with a fault there are no rows
pub no_rows : (fault : ErrorKind) (faults : Kinds) (rows : List Row) → IsAmong fault faults → None ≡ (if has_no_fault faults then Some rows else None)
no_rows fault [] rows among = absurd among
no_rows fault (first ∷ faults) rows among = refl
