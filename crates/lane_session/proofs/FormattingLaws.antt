-- Laws of making the journals of all lanes, one after the other.
use Rattle.std.proofs.Common.{◌≡◌, ℕ, ◌+◌, ◌<◌, List, length, get_or, set, Err, sym, ap, subst, ◌∙◌, arith, below_more}
use Rattle.std.proofs.lemmas.List.{get_or-set_same, get_or-set_other, get_or_default, length-set}
use Rattle.disk_model.specs.Counts.{Counts}
use Rattle.disk_model.specs.Disk.{Meaning, Tells, DiskRun}
use Rattle.gate_log.specs.declared.log_errors.LogErr.{LogErr}
use Rattle.gate_log.specs.Answers.{ErrCause}
use Rattle.gate_log.specs.Formatting.{FormatAnswer, IsFormatErr}
use Rattle.counter_journal.specs.Journal.{journal_head}
use Rattle.counter_journal.specs.JournalMaking.{IsBeforeOrNewJournal}
use Rattle.lane_session.specs.Formatting.{IsFormattedSite, AreFormattedBelow, IsFormatRefusedAt}

module _ {D B C : Type 0} (told : Meaning D B C) (counts : D → Counts) (olds news : List D) (number : ℕ) (formatted : AreFormattedBelow told counts olds news number) (within : number < length olds) (new s : D) where
  same_length : length (set news number new) ≡ length olds
  same_length = length-set news number new ∙ formatted.same_sites

  site_here : (site : D) → get_or (set news number new) number site ≡ new
  site_here site = get_or-set_same news number new site (omega (arith, within, formatted.same_sites))

  site_was : (site : D) → get_or news number s ≡ get_or olds number site
  site_was site = formatted.untouched number s (omega arith) ∙ get_or_default olds number s site within

  -- the journal of the lane of this number stands now
  abbrev IsFormattedAt : ℕ → Type 0
  IsFormattedAt k = (old site : D) → IsFormattedSite told counts k (length olds) (get_or olds k old) (get_or (set news number new) k site)

  site_below : (k : ℕ) → k < number → IsFormattedAt k
  site_below k below old site =
      subst (IsFormattedSite told counts k (length olds) (get_or olds k old)) (sym (get_or-set_other news number k new site (λ is. absurd (omega (arith, below, is)))))
      (formatted.each k old site below)

  site_above : (k : ℕ) (site : D) → number < k → get_or (set news number new) k site ≡ get_or olds k site
  site_above k site above = get_or-set_other news number k new site (λ is. absurd (omega (arith, above, is))) ∙ formatted.untouched k site (omega (arith, above))

  -- the site of this number took its journal
  module _ (now : IsFormattedSite told counts number (length olds) (get_or news number s) new) where
    formatted_here : IsFormattedAt number
    formatted_here old site =
        subst (IsFormattedSite told counts number (length olds) (get_or olds number old)) (sym (site_here site))
        (subst (λ (d : D). IsFormattedSite told counts number (length olds) d new) (site_was old) now)

    pub formatted_more : AreFormattedBelow told counts olds (set news number new) (number + 1)
    formatted_more = record {
      same_sites = same_length;
      each = λ k old site below. below_more IsFormattedAt number site_below formatted_here k below old site;
      untouched = λ k site above. site_above k site (omega (arith, above));
    }

  -- the site of this number refused it
  pub format_refused : (error : LogErr) → told.tells new ≡ told.tells (get_or news number s)
      → (Tells told (get_or news number s) → DiskRun told (get_or news number s) new (IsBeforeOrNewJournal told (get_or news number s) number (length olds)))
      → (Tells told (get_or news number s) → FormatAnswer (journal_head number (length olds)) (told.seen (get_or news number s)) (told.seen new) (Err error))
      → IsFormatErr error → ErrCause (counts (get_or news number s)) (counts new) error → IsFormatRefusedAt told counts olds (set news number new) number error
  format_refused error tells moments answer err cause = record {
    within = within;
    same_sites = same_length;
    below = λ k old site below. site_below k below old site;
    tells = λ old site. ap (λ (d : D). told.tells d) (site_here site) ∙ tells ∙ ap (λ (d : D). told.tells d) (site_was old);
    moments = λ old site.
        subst (λ (d : D). Tells told (get_or olds number old) → DiskRun told (get_or olds number old) d (IsBeforeOrNewJournal told (get_or olds number old) number (length olds))) (sym (site_here site))
        (subst (λ (d : D). Tells told d → DiskRun told d new (IsBeforeOrNewJournal told d number (length olds))) (site_was old) moments);
    answer = λ old site.
        subst (λ (d : D). Tells told (get_or olds number old) → FormatAnswer (journal_head number (length olds)) (told.seen (get_or olds number old)) (told.seen d) (Err error)) (sym (site_here site))
        (subst (λ (d : D). Tells told d → FormatAnswer (journal_head number (length olds)) (told.seen d) (told.seen new) (Err error)) (site_was old) answer);
    err = err;
    cause = λ old site.
        subst (λ (d : D). ErrCause (counts (get_or olds number old)) (counts d) error) (sym (site_here site))
        (subst (λ (d : D). ErrCause (counts d) (counts new) error) (site_was old) cause);
    untouched = site_above;
  }
