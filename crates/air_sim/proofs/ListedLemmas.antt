-- The acts of a list, one after the other.
use Rattle.std.specs.Prelude.{◌≡◌, ◌⊎◌, ◌≤◌, ◌<◌, ℕ, zero, suc, ◌+◌, Option, Some, None, List, [], ◌∷◌, ◌++◌, IfSome, length, map, drop, slice_get, Result, Ok, Err, refl}
use Rattle.std.proofs.Common.{inl, inr, ⊎_elim, arith, sym, ◌∙◌, ap, subst, length-append, append_assoc}
use Rattle.std.proofs.lemmas.List.{append-nil, map-append}
use Rattle.std.proofs.lemmas.Bool.{cases_lt}
use Rattle.disk_model.specs.Counts.{Counts}
use Rattle.disk_model.specs.Disk.{Meaning}
use Rattle.ota_core.specs.declared.wants.Memory.{Memory as Want}
use Rattle.air_sim.specs.declared.parts.Parts.{Parts}
use Rattle.air_sim.specs.declared.schedules.Act.{Act}
use Rattle.air_sim.specs.declared.schedules.Act.TheVariants.{Deliver, Give, Pass}
use Rattle.air_sim.specs.declared.schedules.Cut.{Cut}
use Rattle.air_sim.specs.declared.schedules.Schedule.{Schedule}
use Rattle.air_sim.specs.declared.sim_site.SimSite.{SimSite}
use Rattle.air_sim.specs.Acts.{acts_of}
use Rattle.air_sim.specs.Handing.{Handing, HandsOver, HandsOverAll, HandsPiece, IsReplyOf}
use Rattle.air_sim.specs.Messages.{IsNextOf, Message, MessagesValue}
use Rattle.air_sim.specs.Polls.{AreSilent, EndsInWant, HandsInOrder, HaveReplies, InOrderFrom, IsListed, IsMadeAt, IsOrderly, ListedGives, OrderlyGives, Progress, act_of, progress_of, with_next}
use Rattle.air_sim.specs.Working.{Works, handed, progressed}
use Rattle.air_sim.proofs.HandingLemmas.{hands_more, have_more, have_silent, never_fewer, order_more, silent_if, silent_last, silent_more, silent_throughout, want_last}
use Rattle.air_sim.proofs.WorkingLemmas.{works_still, works_then}

-- ---- the loop over the acts

drop_step : {X : Type 0} (xs : List X) (i : ℕ) (x : X) → slice_get xs i ≡ Some x → drop i xs ≡ x ∷ drop (i + 1) xs
drop_step {X = X} [] i x is = absurd cc
drop_step {X = X} (y ∷ xs) zero x is = ap (λ (z : X). z ∷ xs) (head y x is)
  where
    head : (a b : X) → Some a ≡ Some b → a ≡ b
    head a b e = cc
drop_step {X = X} (y ∷ xs) (suc i) x is = drop_step xs i x is ∙ ap (λ (n : ℕ). x ∷ drop n (y ∷ xs)) (one_on i)
  where
    one_on : (k : ℕ) → suc (k + 1) ≡ suc k + 1
    one_on k = omega arith

drop_past : {X : Type 0} (xs : List X) (i : ℕ) → length xs ≤ i → drop i xs ≡ []
drop_past [] zero le = refl
drop_past [] (suc i) le = refl
drop_past (x ∷ xs) zero le = absurd (omega (arith, le))
drop_past (x ∷ xs) (suc i) le = drop_past xs i (omega (arith, le))

-- the acts up to this one were pieces, which were handed over
pub record ListedSoFar {D B C : Type 0} (told : Meaning D B C) (counts : D → Counts) (old now : SimSite D B C) (index : ℕ) : Type 0 where
  pub works : Works told old now
  pub same : now ≡ progressed old now
  pub at : now.next_act ≡ index
  pub handings : List Handing
  pub hands : HandsOverAll told counts old.parts handings now.parts
  pub replies : HaveReplies handings
  pub act : now.next_act ≡ old.next_act + length handings
  pub carried_out : drop old.next_act (acts_of old.schedule) ≡ map act_of handings ++ drop index (acts_of old.schedule)

module _ {D B C : Type 0} (told : Meaning D B C) (counts : D → Counts) where
  pub listed_begins : (site : SimSite D B C) → ListedSoFar told counts site site site.next_act
  listed_begins site = record {
    works = works_still told site site refl refl refl refl;
    same = refl;
    at = refl;
    handings = [];
    hands = refl;
    replies = tt;
    act = omega arith;
    carried_out = refl;
  }

  module _ (old now : SimSite D B C) (index : ℕ) (so_far : ListedSoFar told counts old now index) where
    abbrev acts : List Act
    acts = acts_of old.schedule

    pub schedule_is : now.schedule ≡ old.schedule
    schedule_is = ap (λ (s : SimSite D B C). s.schedule) so_far.same

    -- none is left
    pub listed_ends : length acts ≤ index → IsListed told counts (progress_of old) (progress_of now) acts (Ok None)
    listed_ends all = record {
      handings = so_far.handings;
      hands = so_far.hands;
      rest = [];
      carried_out = so_far.carried_out ∙ ap (λ (l : List Act). map act_of so_far.handings ++ l) (drop_past acts index all);
      gives = (so_far.replies, so_far.act);
    }

    abbrev stepped : SimSite D B C
    stepped = record now { next_act = index + 1 }

    pub listed_stepped_works : Works told old stepped
    listed_stepped_works = works_then told old now stepped so_far.works (works_still told now stepped refl refl refl refl)

    pub listed_stepped_same : stepped ≡ progressed old stepped
    listed_stepped_same = ap (λ (s : SimSite D B C). record s { next_act = index + 1 }) so_far.same

    module _ (act : Act) (is : slice_get acts index ≡ Some act) where
      carried : drop old.next_act acts ≡ map act_of so_far.handings ++ act ∷ drop (index + 1) acts
      carried = so_far.carried_out ∙ ap (λ (l : List Act). map act_of so_far.handings ++ l) (drop_step acts index act is)

    -- a message is given
    pub listed_gives : (made : ℕ) (next : Option ℕ) → slice_get acts index ≡ Some (Give made) → IsMadeAt (length now.parts.messages.items) made next → IsListed told counts (progress_of old) (progress_of stepped) acts (Ok next)
    listed_gives made next is made_at = record {
      handings = so_far.handings;
      hands = so_far.hands;
      rest = Give made ∷ drop (index + 1) acts;
      carried_out = carried (Give made) is;
      gives = (so_far.replies, made_at, omega (arith, so_far.act, so_far.at));
    }

    -- none is
    pub listed_passes : slice_get acts index ≡ Some Pass → IsListed told counts (progress_of old) (progress_of stepped) acts (Ok None)
    listed_passes is = record {
      handings = so_far.handings;
      hands = so_far.hands;
      rest = Pass ∷ drop (index + 1) acts;
      carried_out = carried Pass is;
      gives = (so_far.replies, omega (arith, so_far.act, so_far.at));
    }

    -- a piece is handed over
    module _ (new : SimSite D B C) (result : Result (Unit {0}) Want) (sent : ℕ) (cut : Option Cut) (is : slice_get acts index ≡ Some (Deliver sent cut)) (works : Works told stepped new)
        (hands : HandsPiece told counts now.parts new.parts sent cut result) (same : new ≡ handed stepped new) where
      abbrev handing : Handing
      handing = record { position = sent; cut = cut; reply = hands.reply }

      abbrev all : List Handing
      all = so_far.handings ++ handing ∷ []

      pub listed_works : Works told old new
      listed_works = works_then told old stepped new listed_stepped_works works

      act_is : new.next_act ≡ index + 1
      act_is = ap (λ (s : SimSite D B C). s.next_act) same

      piece_is : new.next_piece ≡ now.next_piece
      piece_is = ap (λ (s : SimSite D B C). s.next_piece) same

      abbrev with_progress : ℕ → ℕ → SimSite D B C
      with_progress act piece = record (handed old new) { next_act = act; next_piece = piece }

      pub listed_same : new ≡ progressed old new
      listed_same =
          same
          ∙ ap (λ (s : SimSite D B C). handed (record s { next_act = index + 1 }) new) so_far.same
          ∙ ap (λ (p : ℕ). with_progress (index + 1) p) (sym piece_is)
          ∙ ap (λ (a : ℕ). with_progress a new.next_piece) (sym act_is)

      hands_all : HandsOverAll told counts old.parts all new.parts
      hands_all = hands_more told counts old.parts so_far.handings now.parts new.parts handing so_far.hands hands.hands

      acts_all : drop old.next_act acts ≡ map act_of all ++ drop (index + 1) acts
      acts_all =
          carried (Deliver sent cut) is
          ∙ sym (append_assoc (map act_of so_far.handings) (Deliver sent cut ∷ []) (drop (index + 1) acts))
          ∙ ap (λ (l : List Act). l ++ drop (index + 1) acts) (sym (map-append act_of so_far.handings (handing ∷ [])))

      act_all : new.next_act ≡ old.next_act + length all
      act_all = omega (arith, act_is, so_far.act, so_far.at, length-append so_far.handings (handing ∷ []))

      pub listed_wants : (want : Want) → result ≡ Err want → IsListed told counts (progress_of old) (progress_of new) acts (Err want)
      listed_wants want error = record {
        handings = all;
        hands = hands_all;
        rest = drop (index + 1) acts;
        carried_out = acts_all;
        gives = by_rest (drop (index + 1) acts);
      }
        where
          wanting : (res : Result (Unit {0}) Want) → IsReplyOf res hands.reply → res ≡ Err want → hands.reply ≡ None
          wanting (Ok done) reply e = absurd cc
          wanting (Err other) reply e = reply

          ends : EndsInWant all × (new.next_act ≡ old.next_act + length all)
          ends = (want_last so_far.handings handing (wanting result hands.is error), act_all)

          by_rest : (rest : List Act) → ListedGives told counts (progress_of old) (progress_of new) all rest (Err want)
          by_rest [] = ends
          by_rest (Give made ∷ rest) = ends
          by_rest (Pass ∷ rest) = ends
          by_rest (Deliver position armed ∷ rest) = ends

      pub listed_goes_on : result ≡ Ok tt → ListedSoFar told counts old new (index + 1)
      listed_goes_on done = record {
        works = listed_works;
        same = listed_same;
        at = act_is;
        handings = all;
        hands = hands_all;
        replies = have_more so_far.handings handing so_far.replies (subst (λ (r : Result (Unit {0}) Want). IsReplyOf r hands.reply) done hands.is);
        act = act_all;
        carried_out = acts_all;
      }
