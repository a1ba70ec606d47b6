-- The lines of a card, as they are kept.
use Rattle.std.proofs.Common.{◌≡◌, ◌≢◌, ℕ, zero, suc, ◌+◌, ◌-◌, ◌<◌, ◌≤◌, Bool, true, false, cond, find, is_none, option_map, unwrap_or, Option, Some, None, List, [], ◌∷◌, ◌++◌, map, reverse, length, get_or, refl, sym, ap, ◌∙◌, subst, arith}
use Rattle.std.specs.Option.{option_or}
use Rattle.std.proofs.Math.ListN.{set}
use Rattle.std.proofs.lemmas.List.{reverse-append, map-append}
use Rattle.ota_core.specs.Keyset.{Keyset, is_same_keyset}
use Rattle.ota_core.specs.History.{first_some}
use Rattle.world_core.specs.Card.{counter_of, base_of}
use Rattle.ota_core.specs.declared.cards.CardFacts.{CardFacts}
use Rattle.world_core.specs.declared.lines.Line.{Line}
use Rattle.card_store.specs.Content.{Content, keyset_named, stored, with_last}
use Rattle.card_store.specs.Kept.{IsLastWithin, is_line_of, one_more}
use Rattle.card_store.specs.Store.{card_line}
use Rattle.card_store.specs.declared.card_lines.CardLine.{CardLine}

-- ---- the last line

-- there is a last line
pub last_there : (most : ℕ) (lines : List CardLine) → IsLastWithin most lines → 0 < length lines
last_there most [] last = absurd last
last_there most (line ∷ []) last = omega arith
last_there most (line ∷ other ∷ lines) last = omega arith

pub last_within : (most k : ℕ) (lines : List CardLine) (default : CardLine) → k + 1 ≡ length lines → IsLastWithin most lines → (get_or lines k default).executed ≤ most
last_within most k [] default at last = absurd last
last_within most zero (line ∷ []) default at last = last
last_within most (suc k) (line ∷ []) default at last = absurd (omega (arith, at))
last_within most zero (line ∷ other ∷ lines) default at last = absurd (omega (arith, at))
last_within most (suc k) (line ∷ other ∷ lines) default at last = last_within most k (other ∷ lines) default (omega (arith, at)) last

pub last_less : (most more : ℕ) (lines : List CardLine) → most ≤ more → IsLastWithin most lines → IsLastWithin more lines
last_less most more [] le last = absurd last
last_less most more (line ∷ []) le last = omega (arith, last, le)
last_less most more (line ∷ other ∷ lines) le last = last_less most more (other ∷ lines) le last

-- the last of these is set
pub set_last : {X : Type 0} (f : X → X) (k : ℕ) (xs : List X) (default : X) → k + 1 ≡ length xs → set xs k (f (get_or xs k default)) ≡ with_last f xs
set_last f k [] default at = absurd (omega (arith, at))
set_last f zero (x ∷ []) default at = refl
set_last f (suc k) (x ∷ []) default at = absurd (omega (arith, at))
set_last f zero (x ∷ y ∷ ys) default at = absurd (omega (arith, at))
set_last f (suc k) (x ∷ y ∷ ys) default at = ap (λ l. x ∷ l) (set_last f k (y ∷ ys) default (omega (arith, at)))

-- ---- counters

pub map-reverse : {X Y : Type 0} (f : X → Y) (xs : List X) → map f (reverse xs) ≡ reverse (map f xs)
map-reverse f [] = refl
map-reverse f (x ∷ xs) =
    ap (map f) (reverse-append (x ∷ []) xs) ∙ map-append f (reverse xs) (x ∷ []) ∙ ap (λ l. l ++ f x ∷ []) (map-reverse f xs) ∙ sym (reverse-append (f x ∷ []) (map f xs))

-- the counter that is stored is that of the last line
pub found_counter : (keyset : Keyset) (lines : List Line) → first_some (counter_of keyset) lines ≡ option_map (λ (line : CardLine). line.counter) (find (is_line_of keyset) (map card_line lines))
found_counter keyset [] = refl
found_counter keyset (line ∷ lines) =
    elim (is_same_keyset line.keyset keyset) as (λ b. option_or (cond b (Some line.counter) None) (first_some (counter_of keyset) lines)
    ≡ option_map (λ (l : CardLine). l.counter) (cond b (Some (card_line line)) (find (is_line_of keyset) (map card_line lines)))) [
      | true ↦ refl
      | false ↦ found_counter keyset lines
    ]

pub stored_found : (facts : CardFacts) (content : Content) (kvn : ℕ) (lines : List CardLine) → lines ≡ map card_line content.log
    → stored facts content kvn ≡ unwrap_or (option_map (λ (line : CardLine). line.counter) (find (is_line_of (keyset_named facts kvn)) (reverse lines))) (base_of facts (keyset_named facts kvn))
stored_found facts content kvn lines are =
    let keyset = keyset_named facts kvn in
    let counter_in : List CardLine → Option ℕ = λ l. option_map (λ (line : CardLine). line.counter) (find (is_line_of keyset) l) in
    ap (λ (o : Option ℕ). unwrap_or o (base_of facts keyset)) (found_counter keyset (reverse content.log) ∙ ap counter_in (map-reverse card_line content.log ∙ ap reverse (sym are)))

-- ---- one command more

pub map-with_last : {X Y : Type 0} (h : X → Y) (f : X → X) (g : Y → Y) (xs : List X) → ((x : X) → h (f x) ≡ g (h x)) → map h (with_last f xs) ≡ with_last g (map h xs)
map-with_last h f g [] same = refl
map-with_last h f g (x ∷ []) same = ap (λ y. y ∷ []) (same x)
map-with_last h f g (x ∷ y ∷ ys) same = ap (λ l. h x ∷ l) (map-with_last h f g (y ∷ ys) same)

pub last_more : (most : ℕ) (ended : Bool) (lines : List CardLine) → IsLastWithin most lines → IsLastWithin (most + 1) (with_last (one_more ended) lines)
last_more most ended [] last = absurd last
last_more most ended (line ∷ []) last = omega (arith, last)
last_more most ended (line ∷ other ∷ []) last = omega (arith, last)
last_more most ended (line ∷ other ∷ more ∷ lines) last = last_more most ended (other ∷ more ∷ lines) last

pub last_added : (line : CardLine) (lines : List CardLine) → IsLastWithin line.executed (lines ++ line ∷ [])
last_added line [] = omega arith
last_added line (one ∷ []) = omega arith
last_added line (one ∷ other ∷ lines) = last_added line (other ∷ lines)
