-- Laws of opening the journals of all lanes, one after the other.
use Rattle.std.proofs.Common.{◌≡◌, ◌≢◌, ℕ, ◌+◌, ◌≤◌, ◌<◌, Bool, true, false, eqb, List, [], ◌∷◌, ◌++◌, length, get_or, set, refl, inl, inr, sym, ap, subst, ◌∙◌, arith, below_more}
use Rattle.std.proofs.lemmas.Bool.{eqb-true, eqb-false, cases_lt}
use Rattle.std.proofs.lemmas.List.{get_or-set_same, get_or-set_other, get_or_default, get_or_append_left, get_or_push, length-set, length-append}
use Rattle.disk_model.specs.Counts.{Counts}
use Rattle.disk_model.specs.Disk.{Meaning, Tells}
use Rattle.disk_model.specs.Runs.{at_once}
use Rattle.gate_log.specs.declared.log_errors.LogErr.{LogErr}
use Rattle.gate_log.specs.Reading.{parts_of}
use Rattle.gate_log.specs.Answers.{ErrCause, IsNotFull}
use Rattle.counter_journal.specs.Journal.{journal_head}
use Rattle.counter_journal.specs.JournalReading.{JournalRefuses}
use Rattle.lane_session.specs.Run.{IsLaneReady}
use Rattle.lane_session.specs.Lanes.{AreReady}
use Rattle.lane_session.specs.Opening.{IsLooked, IsOpenedSite, AreOpenedBelow, IsRefusedAt, IsWanting}
use Rattle.lane_session.specs.declared.lanes.Lane.{Lane}
use Rattle.lane_session.proofs.LaneLaws.{first_of}

module _ {D B C : Type 0} (told : Meaning D B C) (counts : D → Counts) where
  -- a site that no call was made on
  looked_same : (k n : ℕ) (site : D) → IsLooked told counts k n site site
  looked_same k n site = record {
    tells = refl;
    moments = λ tells. at_once told site (λ image. _) (λ image at. inl at);
  }

  module _ (olds news : List D) (lanes : List Lane) (number : ℕ) (opened : AreOpenedBelow told counts olds news lanes number) where
    pub all_opened : 0 < length olds → length olds ≤ number → number ≤ length olds → AreReady told counts news lanes
    all_opened some all within = record {
      some = omega (arith, some, all, opened.count);
      each_site = opened.same_sites ∙ sym lanes-are;
      each = λ k site lane below. subst (λ (n : ℕ). IsLaneReady told counts k n (get_or news k site) (get_or lanes k lane)) (sym lanes-are) (opened.each k site site lane (omega (arith, below, opened.count))).ready;
    }
      where
        lanes-are : length lanes ≡ length olds
        lanes-are = omega (arith, all, within, opened.count)

    module _ (within : number < length olds) (new : D) where
      same_length : length (set news number new) ≡ length olds
      same_length = length-set news number new ∙ opened.same_sites

      below_differs : (k : ℕ) → k < number → k ≢ number
      below_differs k below is = absurd (omega (arith, below, is))

      above_differs : (k : ℕ) → number < k → k ≢ number
      above_differs k above is = absurd (omega (arith, above, is))

      site_here : (site : D) → get_or (set news number new) number site ≡ new
      site_here site = get_or-set_same news number new site (omega (arith, within, opened.same_sites))

      site_was : (site : D) (s : D) → get_or news number s ≡ get_or olds number site
      site_was site s = opened.untouched number s (omega arith) ∙ get_or_default olds number s site within

      site_below : (k : ℕ) (old site : D) (lane : Lane) → k < number
          → IsOpenedSite told counts k (length olds) (get_or olds k old) (get_or (set news number new) k site) (get_or lanes k lane)
      site_below k old site lane below =
          subst (λ (d : D). IsOpenedSite told counts k (length olds) (get_or olds k old) d (get_or lanes k lane)) (sym (get_or-set_other news number k new site (below_differs k below)))
          (opened.each k old site lane below)

      lane_below : (k : ℕ) → k < number → Lane
      lane_below k below = first_of lanes (omega (arith, below, opened.count))

      site_above : (k : ℕ) (site : D) → number < k → get_or (set news number new) k site ≡ get_or olds k site
      site_above k site above = get_or-set_other news number k new site (above_differs k above) ∙ opened.untouched k site (omega (arith, above))

      -- the site of this number was opened
      module _ (s : D) (after : Lane) (now : IsOpenedSite told counts number (length olds) (get_or news number s) new after) where
        -- the lane of this number is opened
        abbrev IsOpenedAt : ℕ → Type 0
        IsOpenedAt k = (old site : D) (lane : Lane) → IsOpenedSite told counts k (length olds) (get_or olds k old) (get_or (set news number new) k site) (get_or (lanes ++ after ∷ []) k lane)

        here : IsOpenedAt number
        here old site lane =
            subst (λ (d : D). IsOpenedSite told counts number (length olds) (get_or olds number old) d (get_or (lanes ++ after ∷ []) number lane)) (sym (site_here site))
            (subst (IsOpenedSite told counts number (length olds) (get_or olds number old) new) (sym (get_or_push lanes after lane number opened.count))
            (subst (λ (d : D). IsOpenedSite told counts number (length olds) d new after) (site_was old s) now))

        under : (k : ℕ) → k < number → IsOpenedAt k
        under k less old site lane =
            subst (IsOpenedSite told counts k (length olds) (get_or olds k old) (get_or (set news number new) k site)) (sym (get_or_append_left lanes (after ∷ []) lane k (omega (arith, less, opened.count))))
            (site_below k old site lane less)

        pub one_more : AreOpenedBelow told counts olds (set news number new) (lanes ++ after ∷ []) (number + 1)
        one_more = record {
          count = length-append lanes (after ∷ []) ∙ ap (λ (m : ℕ). m + 1) opened.count;
          same_sites = same_length;
          each = λ k old site lane below. below_more IsOpenedAt number under here k below old site lane;
          untouched = λ k site above. site_above k site (omega (arith, above));
        }

      -- the site of this number was looked at
      module _ (s : D) (looked : IsLooked told counts number (length olds) (get_or news number s) new) where
        looked_here : (old site : D) → IsLooked told counts number (length olds) (get_or olds number old) (get_or (set news number new) number site)
        looked_here old site =
            subst (IsLooked told counts number (length olds) (get_or olds number old)) (sym (site_here site))
            (subst (λ (d : D). IsLooked told counts number (length olds) d new) (site_was old s) looked)

        pub refused_here : (error : LogErr)
            → (Tells told (get_or news number s) → JournalRefuses number (length olds) (parts_of (journal_head number (length olds)) (told.seen (get_or news number s))) error)
            → ErrCause (counts (get_or news number s)) (counts new) error → IsNotFull error → IsRefusedAt told counts olds (set news number new) number error
        refused_here error refuses cause not_full = record {
          within = within;
          same_sites = same_length;
          below = λ k old site below. (get_or lanes k (lane_below k below), site_below k old site (lane_below k below) below);
          looked = looked_here;
          refuses = λ old. subst (λ (d : D). Tells told d → JournalRefuses number (length olds) (parts_of (journal_head number (length olds)) (told.seen d)) error) (site_was old s) refuses;
          cause = λ old site. subst (λ (d : D). ErrCause (counts (get_or olds number old)) (counts d) error) (sym (site_here site)) (subst (λ (d : D). ErrCause (counts d) (counts new) error) (site_was old s) cause);
          not_full = not_full;
          untouched = site_above;
        }

        pub wanting_here : counts new ≡ counts (get_or news number s) → IsWanting told counts olds (set news number new)
        wanting_here counted = record {
          same_sites = same_length;
          looked = λ k old site below. looked_at k old site below (eqb k number) refl;
          counted = λ k old site below. counted_at k old site below (eqb k number) refl;
        }
          where
            above : (k : ℕ) → number ≤ k → k ≢ number → number < k
            above k late differs = elim (cases_lt number k) [
              | inl over ↦ over
              | inr under ↦ absurd (differs (omega (arith, late, under)))
            ]

            looked_at : (k : ℕ) (old site : D) → k < length olds → (same : Bool) → eqb k number ≡ same → IsLooked told counts k (length olds) (get_or olds k old) (get_or (set news number new) k site)
            looked_at k old site below true same =
                subst (λ (m : ℕ). IsLooked told counts m (length olds) (get_or olds m old) (get_or (set news number new) m site)) (sym (eqb-true k number same)) (looked_here old site)
            looked_at k old site below false same = elim (cases_lt k number) [
              | inl early ↦ (site_below k old site (lane_below k early) early).looked
              | inr late ↦ subst (IsLooked told counts k (length olds) (get_or olds k old)) (sym (site_above k site (above k late (eqb-false k number same)) ∙ get_or_default olds k site old below)) (looked_same k (length olds) (get_or olds k old))
            ]

            counted_at : (k : ℕ) (old site : D) → k < length olds → (same : Bool) → eqb k number ≡ same → counts (get_or (set news number new) k site) ≡ counts (get_or olds k old)
            counted_at k old site below true same =
                subst (λ (m : ℕ). counts (get_or (set news number new) m site) ≡ counts (get_or olds m old)) (sym (eqb-true k number same)) (ap counts (site_here site) ∙ counted ∙ ap counts (site_was old s))
            counted_at k old site below false same = elim (cases_lt k number) [
              | inl early ↦ (site_below k old site (lane_below k early) early).counted
              | inr late ↦ ap counts (site_above k site (above k late (eqb-false k number same)) ∙ get_or_default olds k site old below)
            ]
