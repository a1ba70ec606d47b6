-- How far a schedule comes in a poll.
use Rattle.std.specs.Prelude.{◌≡◌, ◌⊎◌, ◌≤◌, ◌<◌, ℕ, zero, suc, ◌+◌, Option, Some, None, List, [], ◌∷◌, ◌++◌, IfSome, length, map, drop, slice_get, Result, Ok, Err, refl}
use Rattle.std.proofs.Common.{inl, inr, ⊎_elim, arith, sym, ◌∙◌, ap, subst, length-append, append_assoc}
use Rattle.std.proofs.lemmas.List.{append-nil, map-append}
use Rattle.std.proofs.lemmas.Bool.{cases_lt}
use Rattle.disk_model.specs.Counts.{Counts}
use Rattle.disk_model.specs.Disk.{Meaning}
use Rattle.ota_core.specs.declared.wants.Memory.{Memory as Want}
use Rattle.air_sim.specs.declared.parts.Parts.{Parts}
use Rattle.air_sim.specs.declared.schedules.Act.{Act}
use Rattle.air_sim.specs.declared.schedules.Act.TheVariants.{Deliver, Give, Pass}
use Rattle.air_sim.specs.declared.schedules.Cut.{Cut}
use Rattle.air_sim.specs.declared.schedules.Schedule.{Schedule}
use Rattle.air_sim.specs.declared.sim_site.SimSite.{SimSite}
use Rattle.air_sim.specs.Acts.{acts_of}
use Rattle.air_sim.specs.Handing.{Handing, HandsOver, HandsOverAll, HandsPiece, IsReplyOf}
use Rattle.air_sim.specs.Messages.{IsNextOf, Message, MessagesValue}
use Rattle.air_sim.specs.Polls.{AreSilent, EndsInWant, HandsInOrder, HaveReplies, InOrderFrom, IsListed, IsMadeAt, IsOrderly, ListedGives, OrderlyGives, Progress, act_of, progress_of, with_next}
use Rattle.air_sim.specs.Working.{Works, handed, progressed}
use Rattle.air_sim.proofs.HandingLemmas.{hands_more, have_more, have_silent, never_fewer, order_more, silent_if, silent_last, silent_more, silent_throughout, want_last}
use Rattle.air_sim.proofs.WorkingLemmas.{works_still, works_then}

-- ---- the parts before the next message was given

module _ {D B C : Type 0} where
  next_same : (parts : Parts D B C) (next : ℕ) → parts.messages.next ≡ next → with_next next parts ≡ parts
  next_same parts next is = ap (λ (n : ℕ). with_next n parts) (sym is)

  next_back : (parts : Parts D B C) (next : ℕ) (messages : MessagesValue) → messages.items ≡ parts.messages.items → parts.messages.next ≡ next → with_next next (record parts { messages = messages }) ≡ parts
  next_back parts next messages items is =
      ap (λ (l : List Message). record parts { messages = record { items = l; next = next } }) items ∙ next_same parts next is

taken_items : (old new : MessagesValue) (taken : Option ℕ) → IsNextOf old new taken → new.items ≡ old.items
taken_items old new (Some position) takes = ap (λ (m : MessagesValue). m.items) takes.2
taken_items old new None takes = ap (λ (m : MessagesValue). m.items) takes.1

-- ---- in order

module _ {D B C : Type 0} (told : Meaning D B C) (counts : D → Counts) (old : Progress D B C) where
  -- a message waits to be given
  pub orderly_waits : (messages : MessagesValue) (taken : Option ℕ) → IsNextOf old.parts.messages messages taken → old.parts.messages.next < length old.parts.messages.items
      → IsOrderly told counts old (record old { parts = record old.parts { messages = messages } }) (Ok taken)
  orderly_waits messages (Some position) takes waits = record {
    handings = [];
    hands = next_back old.parts old.parts.messages.next messages (taken_items old.parts.messages messages (Some position) takes) refl;
    in_order = tt;
    piece = omega arith;
    waits = λ _. refl;
    silent = tt;
    gives = (
      takes.0,
      omega (arith, takes.0, waits, ap (λ (l : List Message). length l) (taken_items old.parts.messages messages (Some position) takes)),
      tt,
      ap (λ (m : MessagesValue). m.next) takes.2,
    );
  }
  orderly_waits messages None takes waits = absurd (omega (arith, takes.0, waits))

  -- memory was wanting
  pub orderly_wants : (new : Progress D B C) (want : Want) → HandsInOrder told counts old new (Err want) → new.parts.messages.next ≡ old.parts.messages.next → length old.parts.messages.items ≤ old.parts.messages.next
      → IsOrderly told counts old new (Err want)
  orderly_wants new want hands next none = record {
    handings = hands.handings;
    hands = subst (λ (p : Parts D B C). HandsOverAll told counts old.parts hands.handings p) (sym (next_same new.parts old.parts.messages.next next)) hands.hands;
    in_order = hands.in_order;
    piece = hands.piece;
    waits = λ waits. absurd (omega (arith, waits, none));
    silent = hands.silent;
    gives = (hands.ends, next);
  }

  -- the pieces were handed over
  pub orderly_then : (mid : Progress D B C) (messages : MessagesValue) (taken : Option ℕ) → HandsInOrder told counts old mid (Ok tt) → mid.parts.messages.next ≡ old.parts.messages.next
      → length old.parts.messages.items ≤ old.parts.messages.next → old.parts.messages.next ≤ length old.parts.messages.items → IsNextOf mid.parts.messages messages taken
      → IsOrderly told counts old (record mid { parts = record mid.parts { messages = messages } }) (Ok taken)
  orderly_then mid messages taken hands next none within takes = record {
    handings = hands.handings;
    hands =
        subst (λ (p : Parts D B C). HandsOverAll told counts old.parts hands.handings p) (sym (next_back mid.parts old.parts.messages.next messages (taken_items mid.parts.messages messages taken takes) next)) hands.hands;
    in_order = hands.in_order;
    piece = hands.piece;
    waits = λ waits. absurd (omega (arith, waits, none));
    silent = hands.silent;
    gives = by_taken taken takes;
  }
    where
      by_taken : (it : Option ℕ) → IsNextOf mid.parts.messages messages it → OrderlyGives told counts old (record mid { parts = record mid.parts { messages = messages } }) hands.handings (Ok it)
      by_taken (Some position) it = (
        it.0 ∙ next,
        omega (arith, it.0, it.1, ap (λ (l : List Message). length l) (taken_items mid.parts.messages messages (Some position) it)),
        hands.ends.0,
        ap (λ (m : MessagesValue). m.next) it.2 ∙ ap (λ (n : ℕ). n + 1) next,
      )
      by_taken None it =
          let count : length messages.items ≡ length mid.parts.messages.items = ap (λ (l : List Message). length l) (taken_items mid.parts.messages messages None it) in
          ⊎_elim
          (λ (more : length old.parts.messages.items < length mid.parts.messages.items). absurd (omega (arith, more, it.0, next, within)))
          (λ (ended : (length mid.parts.messages.items ≡ length old.parts.messages.items) × AreSilent hands.handings × (length old.parts.sent.items ≤ mid.next_piece)). (
            omega (arith, count, it.0, next),
            ended.1,
            ended.2,
            ap (λ (m : MessagesValue). m.next) it.1 ∙ next,
          ))
          hands.ends.1

-- ---- the loop over the pieces

-- the pieces up to this position were handed over, and none was answered
pub record InOrderSoFar {D B C : Type 0} (told : Meaning D B C) (counts : D → Counts) (old now : SimSite D B C) (position : ℕ) : Type 0 where
  pub works : Works told old now
  pub same : now ≡ progressed old now
  pub next : now.parts.messages.next ≡ old.parts.messages.next
  pub at : now.next_piece ≡ position
  pub handings : List Handing
  pub hands : HandsOverAll told counts old.parts handings now.parts
  pub in_order : InOrderFrom old.next_piece handings
  pub piece : now.next_piece ≡ old.next_piece + length handings
  pub silent : AreSilent handings
  pub count : length now.parts.messages.items ≡ length old.parts.messages.items

module _ {D B C : Type 0} (told : Meaning D B C) (counts : D → Counts) where
  -- before the first piece
  pub in_order_begins : (site : SimSite D B C) → InOrderSoFar told counts site site site.next_piece
  in_order_begins site = record {
    works = works_still told site site refl refl refl refl;
    same = refl;
    next = refl;
    at = refl;
    handings = [];
    hands = refl;
    in_order = tt;
    piece = omega arith;
    silent = tt;
    count = refl;
  }

  module _ (old now : SimSite D B C) (position : ℕ) (so_far : InOrderSoFar told counts old now position) where
    -- all were handed over
    pub in_order_ends : length old.parts.sent.items ≤ position → HandsInOrder told counts (progress_of old) (progress_of now) (Ok tt)
    in_order_ends all = record {
      handings = so_far.handings;
      hands = so_far.hands;
      in_order = so_far.in_order;
      piece = so_far.piece;
      silent = silent_throughout so_far.handings so_far.silent;
      ends = (have_silent so_far.handings so_far.silent, inr (so_far.count, so_far.silent, omega (arith, all, so_far.at)));
    }

    -- one more
    module _ (new : SimSite D B C) (result : Result (Unit {0}) Want) (works : Works told (record now { next_piece = position + 1 }) new) (hands : HandsPiece told counts now.parts new.parts position None result)
        (same : new ≡ handed (record now { next_piece = position + 1 }) new) (next : new.parts.messages.next ≡ now.parts.messages.next) where
      abbrev stepped : SimSite D B C
      stepped = record now { next_piece = position + 1 }

      abbrev handing : Handing
      handing = record { position = position; cut = None; reply = hands.reply }

      abbrev all : List Handing
      all = so_far.handings ++ handing ∷ []

      pub in_order_works : Works told old new
      in_order_works = works_then told old stepped new (works_then told old now stepped so_far.works (works_still told now stepped refl refl refl refl)) works

      pub in_order_next : new.parts.messages.next ≡ old.parts.messages.next
      in_order_next = next ∙ so_far.next

      piece_is : new.next_piece ≡ position + 1
      piece_is = ap (λ (s : SimSite D B C). s.next_piece) same

      act_is : new.next_act ≡ now.next_act
      act_is = ap (λ (s : SimSite D B C). s.next_act) same

      abbrev with_progress : ℕ → ℕ → SimSite D B C
      with_progress act piece = record (handed old new) { next_act = act; next_piece = piece }

      pub in_order_same : new ≡ progressed old new
      in_order_same =
          same
          ∙ ap (λ (s : SimSite D B C). handed (record s { next_piece = position + 1 }) new) so_far.same
          ∙ ap (λ (a : ℕ). with_progress a (position + 1)) (sym act_is)
          ∙ ap (λ (p : ℕ). with_progress new.next_act p) (sym piece_is)

      hands_all : HandsOverAll told counts old.parts all new.parts
      hands_all = hands_more told counts old.parts so_far.handings now.parts new.parts handing so_far.hands hands.hands

      ordered : InOrderFrom old.next_piece all
      ordered = order_more old.next_piece so_far.handings handing so_far.in_order (omega (arith, so_far.at, so_far.piece)) refl

      pieces : new.next_piece ≡ old.next_piece + length all
      pieces = omega (arith, piece_is, so_far.at, so_far.piece, length-append so_far.handings (handing ∷ []))

      never_less : length now.parts.messages.items ≤ length new.parts.messages.items
      never_less = never_fewer told counts now.parts new.parts handing hands.hands

      -- memory was wanting for it
      pub in_order_wants : (want : Want) → result ≡ Err want → HandsInOrder told counts (progress_of old) (progress_of new) (Err want)
      in_order_wants want is = record {
        handings = all;
        hands = hands_all;
        in_order = ordered;
        piece = pieces;
        silent = silent_last so_far.handings handing so_far.silent;
        ends = want_last so_far.handings handing (wanting result hands.is is);
      }
        where
          wanting : (res : Result (Unit {0}) Want) → IsReplyOf res hands.reply → res ≡ Err want → hands.reply ≡ None
          wanting (Ok done) reply e = absurd cc
          wanting (Err error) reply e = reply

      replied : result ≡ Ok tt → (messages : List (List ℕ)) × (hands.reply ≡ Some messages)
      replied is = subst (λ (r : Result (Unit {0}) Want). IsReplyOf r hands.reply) is hands.is

      -- it was answered
      pub in_order_answered : result ≡ Ok tt → length old.parts.messages.items < length new.parts.messages.items → HandsInOrder told counts (progress_of old) (progress_of new) (Ok tt)
      in_order_answered is more = record {
        handings = all;
        hands = hands_all;
        in_order = ordered;
        piece = pieces;
        silent = silent_last so_far.handings handing so_far.silent;
        ends = (have_more so_far.handings handing (have_silent so_far.handings so_far.silent) (replied is), inl more);
      }

      -- it wasn't
      pub in_order_goes_on : result ≡ Ok tt → length new.parts.messages.items ≤ length old.parts.messages.items → InOrderSoFar told counts old new (position + 1)
      in_order_goes_on is few = record {
        works = in_order_works;
        same = in_order_same;
        next = in_order_next;
        at = piece_is;
        handings = all;
        hands = hands_all;
        in_order = ordered;
        piece = pieces;
        silent = silent_more so_far.handings handing so_far.silent (silent_if told counts now.parts new.parts handing hands.hands (replied is).0 (replied is).1 (omega (arith, few, so_far.count)));
        count = omega (arith, few, so_far.count, never_less);
      }

-- ---- the calls around the loops

module _ {D B C : Type 0} (old new : SimSite D B C) (same : new ≡ record old { parts = record old.parts { messages = new.parts.messages } }) where
  pub taken_same : new ≡ progressed old new
  taken_same = subst (λ (s : SimSite D B C). s ≡ progressed old s) (sym same) refl

pub taken_there : (old new : MessagesValue) (taken : Option ℕ) → IsNextOf old new taken → IfSome taken (λ position. position < length new.items)
taken_there old new (Some position) takes = omega (arith, takes.0, takes.1, ap (λ (l : List Message). length l) (taken_items old new (Some position) takes))
taken_there old new None takes = tt

module _ {D B C : Type 0} (told : Meaning D B C) (counts : D → Counts) (old mid new : SimSite D B C) (taken : Option ℕ) (same : new ≡ record mid { parts = record mid.parts { messages = new.parts.messages } })
    (takes : IsNextOf mid.parts.messages new.parts.messages taken) where
  pub next_waits : mid ≡ old → old.parts.messages.next < length old.parts.messages.items → IsOrderly told counts (progress_of old) (progress_of new) (Ok taken)
  next_waits is waits =
      subst (λ (s : SimSite D B C). IsOrderly told counts (progress_of old) (progress_of s) (Ok taken))
      (sym (same ∙ ap (λ (s : SimSite D B C). record s { parts = record s.parts { messages = new.parts.messages } }) is))
      (orderly_waits told counts (progress_of old) new.parts.messages taken (subst (λ (s : SimSite D B C). IsNextOf s.parts.messages new.parts.messages taken) is takes) waits)

  pub next_handed : HandsInOrder told counts (progress_of old) (progress_of mid) (Ok tt) → mid.parts.messages.next ≡ old.parts.messages.next → length old.parts.messages.items ≤ old.parts.messages.next → old.parts.messages.next ≤ length old.parts.messages.items
      → IsOrderly told counts (progress_of old) (progress_of new) (Ok taken)
  next_handed hands next none within =
      subst (λ (s : SimSite D B C). IsOrderly told counts (progress_of old) (progress_of s) (Ok taken)) (sym same)
      (orderly_then told counts (progress_of old) (progress_of mid) new.parts.messages taken hands next none within takes)

  pub next_same_on : mid ≡ progressed old mid → new ≡ progressed old new
  next_same_on is =
      subst (λ (s : SimSite D B C). s ≡ progressed old s) (sym same)
      (ap (λ (s : SimSite D B C). record s { parts = record s.parts { messages = new.parts.messages } }) is)
