-- A new lock keeps the rule.
use Rattle.std.proofs.Common.{◌≡◌, ℕ, zero, suc, List, [], ◌∷◌, map, Option, Some, refl, sym, ap, subst, ◌∙◌, inl, arith}
use Rattle.std.proofs.Math.Seq.{drop-length}
use mathlib.Core.Option.{some, some-injective, some-ne-none}
use lib.ListN.{get_elem?}
use Rattle.atomic_table.specs.Table.{opening}
use Rattle.lane_lock.specs.declared.views.Key.{Key}
use Rattle.lane_lock.specs.declared.views.Stage.TheVariants.{Resting}
use Rattle.lane_lock.specs.declared.views.View.{View}
use Rattle.lane_lock.specs.Numbers.{Each}
use Rattle.lane_lock.specs.Meaning.{Meaning, shown, own}
use Rattle.lane_lock.specs.Views.{dealer}
use Rattle.lane_lock.specs.Grown.{IsNumber}
use Rattle.lane_lock.specs.Rule.{Fits, Stands, inside, IsRuled}
use Rattle.lane_lock.proofs.Counting.{within_none}
use Rattle.lane_lock.proofs.Sights.{begins_self, no_earlier_self}
use Rattle.lane_lock.proofs.Still.{rests}

module _ {A : Type 0} where
  pub only_one : (a b : A) (j : ℕ) → get_elem? (a ∷ []) j ≡ some b → a ≡ b
  only_one a b zero e = some-injective a b e
  only_one a b (suc j) e = absurd (some-ne-none b (sym e))

module _ {L O E X : Type 0} (m : Meaning L O E X) (key : Key L) where
  fits_dealer : (turn : ℕ) → Fits m key turn (shown m key.put.value) (dealer m key)
  fits_dealer turn = record {
    named = λ k e. cc;
    seen = no_earlier_self (shown m key.put.value);
    also = tt;
    parts = tt;
    ends = tt;
    spare = λ n h. ap (own m n) (drop-length (m.entries key.put.value));
    holds = λ t e. absurd (rests Resting t refl e);
    seated = λ t h. absurd (omega arith);
  }

  stands_first : Stands m key (shown m key.put.value)
  stands_first = record {
    front = begins_self (m.entries key.put.value);
    seats = subst (λ (l : List E). Each (λ e. IsNumber key (m.number_of e)) l) (sym (drop-length (m.entries key.put.value))) tt;
    kept = λ x e. e;
  }

  pub opens_ruled : ((a : L) → m.later a a) → (lane : L) (ws : List ℕ) (xs : List (Option L)) → key.put.value ≡ lane → ws ≡ 0 ∷ 0 ∷ [] → xs ≡ Some lane ∷ [] → m.at_home key.pace lane
      → IsRuled m key (opening ws xs (dealer m key))
  opens_ruled itself lane ws xs put words slots home = record {
    next = 0;
    turn = 0;
    now = shown m key.put.value;
    words = words;
    fits = omega arith;
    order = omega arith;
    tickets = λ t. let no = within_none 0 0 t (omega arith) in omega arith;
    numbers = λ n. omega arith;
    each = λ j v g. subst (λ (z : View L E X). Fits m key 0 (shown m key.put.value) z) (only_one (dealer m key) v j g) (fits_dealer 0);
    stands = stands_first;
    set = λ x e. inl e;
    slot = inside lane (ap (map some) slots)
        (record { shows = ap (shown m) (sym put); later = subst (λ (z : L). m.later z lane) (sym put) (itself lane); at_home = home })
        (λ j t v g e. rests Resting t refl (ap (λ (z : View L E X). z.stage) (only_one (dealer m key) v j g) ∙ e));
  }
