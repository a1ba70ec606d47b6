-- Sites that are sound kept so where the journals of all lanes are made or opened, and in a session.
use Rattle.std.specs.Prelude.{◌≡◌, ◌⊎◌, ℕ, ◌<◌, ◌≤◌, ◌++◌, IsTrue, List, [], length, map, get_or, refl}
use Rattle.std.proofs.Common.{inl, inr, sym, ◌∙◌, subst, arith}
use Rattle.std.proofs.lemmas.Bool.{cases_lt}
use Rattle.std.proofs.lemmas.List.{get_or-map, get_or_default, length-map}
use Rattle.disk_model.specs.Counts.{Counts}
use Rattle.disk_model.specs.Disk.{Meaning, Tells, DiskRun, image_now}
use Rattle.disk_model.specs.Runs.{at_once, weaker}
use Rattle.ota_core.specs.History.{EachJobLiveOnce}
use Rattle.ota_core.specs.declared.entries.Entry.{Entry}
use Rattle.ota_core.specs.declared.jobs.Job.{Job}
use Rattle.plan_reader.specs.Jobs.{are_distinct}
use Rattle.plan_reader.specs.declared.plans.Plan.{Plan}
use Rattle.counter_journal.specs.EntryRanges.{IsHistory}
use Rattle.counter_journal.specs.JournalLaws.{one_history, fit_of}
use Rattle.counter_journal.specs.JournalMaking.{IsBeforeOrNewJournal}
use Rattle.counter_journal.specs.JournalOpening.{IsBeforeOrOpened}
use Rattle.counter_journal.specs.JournalReading.{Holds}
use Rattle.lane_session.specs.Differences.{histories_of}
use Rattle.lane_session.specs.Formatting.{IsFormattedSite, AreFormattedBelow, IsFormattingErr}
use Rattle.lane_session.specs.Grown.{grown_of}
use Rattle.lane_session.specs.Lanes.{ArePassed}
use Rattle.lane_session.specs.Live.{IsGrown}
use Rattle.lane_session.specs.OneLive.{are_grown, one_live}
use Rattle.lane_session.specs.Opening.{IsLooked, AreOpenedBelow, IsOpeningErr}
use Rattle.lane_session.specs.Rows.{NoneDiffers}
use Rattle.lane_session.specs.Run.{HoldsGrown, IsRun, IsPassed}
use Rattle.counter_journal.specs.Standing.{StandsFor, IsKept}
use Rattle.counter_journal.specs.StandingLaws.{not_unmade, kept_same, kept_opened, kept_made}
use Rattle.lane_session.specs.Sound.{IsLiveOnce, clock_of, AreSound, StaySound}
use Rattle.lane_session.specs.SoundSteps.{element_of, clock_at, IsKeptSite, AreKept, clocks_rise, kept_at, stood_sound, live_once, sound_now, kept_sound}
use Rattle.lane_session.specs.declared.lanes.Lane.{Lane}
use Rattle.lane_session.specs.declared.opening.OpeningErr.{OpeningErr}
use Rattle.lane_session.specs.declared.opening.OpeningErr.TheVariants as opening_err

-- ---- sites on which no entry was added

module _ {D B C : Type 0} (told : Meaning D B C) where
  -- a site that no call was made on
  still_kept : (lane lanes : ℕ) (site : D) → IsKeptSite told lane lanes site site
  still_kept lane lanes site = record { tells = refl; moments = λ tells. at_once told site (IsKept told lane lanes site) (kept_same told lane lanes site) }

  -- the same by their places in the lists
  same_kept : (olds news : List D) (k : ℕ) (old new : D) → k < length olds → get_or news k new ≡ get_or olds k new → IsKeptSite told k (length olds) (get_or olds k old) (get_or news k new)
  same_kept olds news k old new below same =
      subst (IsKeptSite told k (length olds) (get_or olds k old)) (get_or_default olds k old new below ∙ sym same) (still_kept k (length olds) (get_or olds k old))

  -- the sites below this number are kept, it is itself, and those above it are as they were
  kept_around : (olds news : List D) (number k : ℕ) (old new : D) → k < length olds
      → (k < number → IsKeptSite told k (length olds) (get_or olds k old) (get_or news k new))
      → IsKeptSite told number (length olds) (get_or olds number old) (get_or news number new)
      → (number < k → get_or news k new ≡ get_or olds k new) → IsKeptSite told k (length olds) (get_or olds k old) (get_or news k new)
  kept_around olds news number k old new within below here above = elim (cases_lt k number) [
    | inl early ↦ below early
    | inr late ↦ elim (cases_lt number k) [
      | inl later ↦ same_kept olds news k old new within (above later)
      | inr others ↦ subst (λ (n : ℕ). IsKeptSite told n (length olds) (get_or olds n old) (get_or news n new)) (omega (arith, late, others)) here
    ]
  ]

module _ {D B C : Type 0} (told : Meaning D B C) (counts : D → Counts) where
  -- a site that no call was made on
  pub still_sound : (sites : List D) → AreSound told sites → StaySound told sites sites
  still_sound sites sound =
      kept_sound told sites sites (record { same_sites = refl; each = λ k old new below. same_kept told sites sites k old new below refl }) sound

module _ {D B C : Type 0} (told : Meaning D B C) (counts : D → Counts) (seen_is_image : (disk : D) → Tells told disk → image_now told disk (told.seen disk)) where
  -- a site whose journal was opened or refused
  looked_kept : (lane lanes : ℕ) (old new : D) → IsLooked told counts lane lanes old new → IsKeptSite told lane lanes old new
  looked_kept lane lanes old new looked = record {
    tells = looked.tells;
    moments = λ tells. weaker told old new (IsBeforeOrOpened told old lane lanes) (IsKept told lane lanes old)
        (looked.moments tells) (λ image. kept_opened told lane lanes old image (seen_is_image old tells));
  }

  -- a site on which the journal of its lane was to be made
  made_kept : (lane lanes : ℕ) (old new : D) → told.tells new ≡ told.tells old → (Tells told old → DiskRun told old new (IsBeforeOrNewJournal told old lane lanes)) → IsKeptSite told lane lanes old new
  made_kept lane lanes old new same moments = record {
    tells = same;
    moments = λ tells. weaker told old new (IsBeforeOrNewJournal told old lane lanes) (IsKept told lane lanes old)
        (moments tells) (λ image. kept_made told lane lanes old image (seen_is_image old tells));
  }

  formatted_kept : (lane lanes : ℕ) (old new : D) → IsFormattedSite told counts lane lanes old new → IsKeptSite told lane lanes old new
  formatted_kept lane lanes old new site = made_kept lane lanes old new site.tells site.moments

  -- the openings were refused, or memory was wanting for the lanes
  pub opening_sound : (olds news : List D) (error : OpeningErr) → IsOpeningErr told counts olds news error → AreSound told olds → StaySound told olds news
  opening_sound olds news opening_err.Memory wanting =
      kept_sound told olds news (record {
        same_sites = wanting.same_sites;
        each = λ k old new below. looked_kept k (length olds) (get_or olds k old) (get_or news k new) (wanting.looked k old new below);
      })
  opening_sound olds news (opening_err.Refused number error) refused =
      kept_sound told olds news (record {
        same_sites = refused.same_sites;
        each = λ k old new within. kept_around told olds news number k old new within
            (λ below. looked_kept k (length olds) (get_or olds k old) (get_or news k new) (refused.below k old new below).1.looked)
            (looked_kept number (length olds) (get_or olds number old) (get_or news number new) (refused.looked old new))
            (refused.untouched k new);
      })

  -- the sites of lanes that were opened
  opened_kept : (olds news : List D) (lanes : List Lane) → AreOpenedBelow told counts olds news lanes (length olds) → AreKept told olds news
  opened_kept olds news lanes opened = record {
    same_sites = opened.same_sites;
    each = λ k old new below. looked_kept k (length olds) (get_or olds k old) (get_or news k new)
        (opened.each k old new (element_of lanes (omega (arith, below, opened.count))) below).looked;
  }

  -- all were opened, and nothing was added
  pub opened_sound : (olds news : List D) (lanes : List Lane) → AreOpenedBelow told counts olds news lanes (length olds) → AreSound told olds → StaySound told olds news
  opened_sound olds news lanes opened = kept_sound told olds news (opened_kept olds news lanes opened)

  -- the journals of all lanes stand
  pub formatted_sound : (olds news : List D) → AreFormattedBelow told counts olds news (length olds) → AreSound told olds → StaySound told olds news
  formatted_sound olds news formatted =
      kept_sound told olds news (record {
        same_sites = formatted.same_sites;
        each = λ k old new below. formatted_kept k (length olds) (get_or olds k old) (get_or news k new) (formatted.each k old new below);
      })

  -- a lane refused
  pub formatting_sound : (olds news : List D) (error : OpeningErr) → IsFormattingErr told counts olds news error → AreSound told olds → StaySound told olds news
  formatting_sound olds news opening_err.Memory refused = absurd refused
  formatting_sound olds news (opening_err.Refused number error) refused =
      kept_sound told olds news (record {
        same_sites = refused.same_sites;
        each = λ k old new within. kept_around told olds news number k old new within
            (λ below. formatted_kept k (length olds) (get_or olds k old) (get_or news k new) (refused.below k old new below))
            (made_kept number (length olds) (get_or olds number old) (get_or news number new) (refused.tells old new) (refused.moments old new))
            (refused.untouched k new);
      })

  -- ---- a session

  module _ (plan : Plan) (jobs : List Job) (olds opens news : List D) (befores lanes : List Lane)
      (opened : AreOpenedBelow told counts olds opens befores (length olds)) (passed : ArePassed told counts plan jobs opens befores news lanes)
      (distinct : IsTrue (are_distinct jobs)) (like : NoneDiffers jobs (histories_of befores)) (sound : AreSound told olds) where
    kept : AreKept told olds opens
    kept = opened_kept olds opens befores opened

    same_sites : length news ≡ length olds
    same_sites = passed.same_sites ∙ opened.same_sites

    -- the history of a lane when it was opened
    abbrev history : ℕ → List Entry
    history k = get_or (histories_of befores) k []

    history_is : (k : ℕ) (before : Lane) → k < length olds → (get_or befores k before).journal.entries ≡ history k
    history_is k before below = sym (get_or-map (λ (lane : Lane). lane.journal.entries) befores k before [] (omega (arith, below, opened.count)))

    length-histories : length (histories_of befores) ≡ length olds
    length-histories = length-map befores (λ (lane : Lane). lane.journal.entries) ∙ opened.count

    -- it is what the octets of the lane held
    held : (k : ℕ) (old : D) → k < length olds → IsHistory k (length olds) (history k) × Holds k (length olds) (history k) (told.seen (get_or olds k old))
    held k old below =
        let before = element_of befores (omega (arith, below, opened.count)) in
        let is = (opened.each k old old before below).holds (sound.tells k old below) in
        subst (λ (entries : List Entry). IsHistory k (length olds) entries × Holds k (length olds) entries (told.seen (get_or olds k old))) (history_is k before below) (is.history, is.holds)

    -- and so each job is live at most once over these histories
    live_before : EachJobLiveOnce (histories_of befores)
    live_before =
        sound.live_once (histories_of befores) length-histories
        (λ k site below. record {
          moment = told.clock (get_or olds k site);
          when = sym (clock_at told olds k site below);
          image = told.seen (get_or olds k site);
          at = seen_is_image (get_or olds k site) (sound.tells k site below);
          stands = inr (held k site below);
        })

    -- what became of a lane since its opening: each went on then
    lane_run : (k : ℕ) (start site : D) (lane : Lane) → k < length olds
        → IsRun told counts plan jobs k (length olds) (get_or opens k start) (history k) (get_or news k site) (get_or lanes k lane)
    lane_run k start site lane below =
        subst (λ (entries : List Entry). IsRun told counts plan jobs k (length olds) (get_or opens k start) entries (get_or news k site) (get_or lanes k lane)) (history_is k lane below)
        (subst (λ (n : ℕ). IsRun told counts plan jobs k n (get_or opens k start) (get_or befores k lane).journal.entries (get_or news k site) (get_or lanes k lane)) opened.count
        (by_end (passed.each k start site lane lane (omega (arith, below, opened.count)))))
      where
        by_end : IsPassed told counts plan jobs k (length befores) (get_or opens k start) (get_or befores k lane) (get_or news k site) (get_or lanes k lane)
            → IsRun told counts plan jobs k (length befores) (get_or opens k start) (get_or befores k lane).journal.entries (get_or news k site) (get_or lanes k lane)
        by_end (inl (ended, same_site, same)) = absurd (ended (opened.each k start start lane below).goes_on)
        by_end (inr (goes_on, run)) = run

    tells_at : (k : ℕ) (start : D) → k < length olds → Tells told (get_or opens k start)
    tells_at k start below = (sound_now told olds opens kept sound).tells k start (omega (arith, below, opened.same_sites))

    tells_now : (k : ℕ) (site : D) → k < length olds → Tells told (get_or news k site)
    tells_now k site below = (lane_run k site site (element_of befores (omega (arith, below, opened.count))) below).tells ∙ tells_at k site below

    -- from the opening on an image holds the history, longer by what the session may add
    run_of : (k : ℕ) (start site : D) → k < length olds → DiskRun told (get_or opens k start) (get_or news k site) (HoldsGrown plan jobs k (length olds) (history k))
    run_of k start site below = (lane_run k start site (element_of befores (omega (arith, below, opened.count))) below).moments (tells_at k start below)

    -- an image up to the end of the opening was one there
    at_opening : (k moment : ℕ) (start site : D) (image : List ℕ) → k < length news → moment ≤ clock_of told opens k
        → told.image_at (get_or news k site) moment image → told.image_at (get_or opens k start) moment image
    at_opening k moment start site image below early at =
        (run_of k start site (omega (arith, below, same_sites))).past.no_more moment image (omega (arith, early, clock_at told opens k start (omega (arith, below, passed.same_sites)))) at

    -- an image from then on
    grown_at : (k moment : ℕ) (site : D) (image : List ℕ) → k < length news → clock_of told opens k ≤ moment → moment ≤ clock_of told news k
        → told.image_at (get_or news k site) moment image → HoldsGrown plan jobs k (length olds) (history k) image
    grown_at k moment site image below low high at =
        (run_of k site site (omega (arith, below, same_sites))).each moment image
        (omega (arith, low, clock_at told opens k site (omega (arith, below, passed.same_sites)))) (omega (arith, high, clock_at told news k site below)) at

    -- the history that it holds
    grown_of_lane : (k : ℕ) (old : D) (image : List ℕ) → k < length olds → (grown : HoldsGrown plan jobs k (length olds) (history k) image)
        → IsGrown plan jobs k (length olds) (history k) (history k ++ grown.added)
    grown_of_lane k old image below grown = grown_of plan jobs k (length olds) (history k) grown.added (held k old below).0 grown.adds

    -- and it stands for no other
    one_grown : (k : ℕ) (old : D) (image : List ℕ) (entries : List Entry) → k < length olds → HoldsGrown plan jobs k (length olds) (history k) image
        → StandsFor k (length olds) entries image → IsGrown plan jobs k (length olds) (history k) entries
    one_grown k old image entries below grown (inl (unmade, none)) = absurd (not_unmade k (length olds) grown.holds.parts image grown.holds.opens unmade)
    one_grown k old image entries below grown (inr (is, holds)) =
        let more = grown_of_lane k old image below grown in
        let fit = fit_of k (length olds) entries is.of_lane in
        let more_fit = fit_of k (length olds) (history k ++ grown.added) more.history.of_lane in
        subst (IsGrown plan jobs k (length olds) (history k)) (sym (one_history k (length olds) entries (history k ++ grown.added) image fit more_fit holds grown.holds)) more

    -- up to the ends of the openings each job is live at most once
    live_opening : IsLiveOnce told news (λ k moment. (clock_of told olds k ≤ moment) × (moment ≤ clock_of told opens k))
    live_opening histories long leaves =
        live_once told olds opens kept sound (λ k moment. (clock_of told olds k ≤ moment) × (moment ≤ clock_of told opens k)) (λ k moment below times. times) histories (long ∙ passed.same_sites)
        (λ k site under. (
        let below : k < length news = omega (arith, under, passed.same_sites) in
        let left = leaves k site below in
        record {
          moment = left.moment;
          when = left.when;
          image = left.image;
          at = at_opening k left.moment site site left.image below left.when.1 left.at;
          stands = subst (λ (n : ℕ). StandsFor k n (get_or histories k []) left.image) passed.same_sites left.stands;
        }))

    -- and from these ends on
    live_grown : (When : ℕ → ℕ → Type 0) → ((k moment : ℕ) → k < length news → When k moment → (clock_of told opens k ≤ moment) × (moment ≤ clock_of told news k)) → IsLiveOnce told news When
    live_grown When within histories long leaves =
        one_live plan jobs (histories_of befores) histories distinct like
        (are_grown plan jobs (histories_of befores) histories (long ∙ same_sites ∙ sym length-histories) (λ k under. grown_site k (omega (arith, under, length-histories)))) live_before
      where
        grown_site : (k : ℕ) → k < length olds → IsGrown plan jobs k (length (histories_of befores)) (get_or (histories_of befores) k []) (get_or histories k [])
        grown_site k under =
            let site = element_of olds (omega (arith, under)) in
            let below : k < length news = omega (arith, under, same_sites) in
            let left = leaves k site below in
            let times = within k left.moment below left.when in
            subst (λ (n : ℕ). IsGrown plan jobs k n (history k) (get_or histories k [])) (sym length-histories)
            (one_grown k site left.image (get_or histories k []) under (grown_at k left.moment site left.image below times.0 times.1 left.at)
            (subst (λ (n : ℕ). StandsFor k n (get_or histories k []) left.image) same_sites left.stands))

    -- at each moment an image stands for a history
    each_stands : (k moment : ℕ) (site : D) (image : List ℕ) → k < length news → clock_of told olds k ≤ moment → moment ≤ clock_of told news k
        → told.image_at (get_or news k site) moment image → (entries : List Entry) × StandsFor k (length news) entries image
    each_stands k moment site image below low high at = elim (cases_lt moment (clock_of told opens k)) [
      | inl early ↦ (
          let opening : k < length opens = omega (arith, below, passed.same_sites) in
          let stood = stood_sound told olds opens kept sound k moment site image opening low (omega (arith, early)) (at_opening k moment site site image below (omega (arith, early)) at) in
          (stood.0, subst (λ (n : ℕ). StandsFor k n stood.0 image) (sym passed.same_sites) stood.1))
      | inr late ↦ (
          let grown = grown_at k moment site image below late high at in
          let under : k < length olds = omega (arith, below, same_sites) in
          (history k ++ grown.added, subst (λ (n : ℕ). StandsFor k n (history k ++ grown.added) image) (sym same_sites) (inr ((grown_of_lane k site image under grown).history, grown.holds))))
    ]

    clocks_go_on : (k : ℕ) → k < length news → clock_of told opens k ≤ clock_of told news k
    clocks_go_on k below =
        let site = element_of news (omega (arith, below)) in
        omega (arith, (run_of k site site (omega (arith, below, same_sites))).past.later, clock_at told opens k site (omega (arith, below, passed.same_sites)), clock_at told news k site below)

    -- all were opened, and what may be added for the rows was added
    pub session_sound : StaySound told olds news
    session_sound = record {
      same_sites = same_sites;
      each = each_stands;
      openings = map told.clock opens;
      from = λ k below. clocks_rise told olds opens kept sound k (omega (arith, below, passed.same_sites));
      until = clocks_go_on;
      kept = λ k moment old new image entries below low early at stands. (
          let opening : k < length opens = omega (arith, below, passed.same_sites) in
          let same = kept_at told olds opens kept sound k moment old new image opening low early (at_opening k moment new new image below early at) in
          (same.before, same.at, subst (λ (n : ℕ). StandsFor k n entries same.before) (sym passed.same_sites) (same.stood entries (subst (λ (n : ℕ). StandsFor k n entries image) passed.same_sites stands))));
      before = live_opening;
      after = live_grown (λ k moment. (clock_of told opens k ≤ moment) × (moment ≤ clock_of told news k)) (λ k moment below times. times);
      now = record {
        tells = λ k site below. tells_now k site (omega (arith, below, same_sites));
        each = λ k site image below at. (
            let clock = clock_at told news k site below in
            let rise = clocks_rise told olds opens kept sound k (omega (arith, below, passed.same_sites)) in
            each_stands k (told.clock (get_or news k site)) site image below (omega (arith, rise, clocks_go_on k below, clock)) (omega (arith, clock)) at);
        live_once = live_grown (λ k moment. moment ≡ clock_of told news k) (λ k moment below is. (omega (arith, clocks_go_on k below, is), omega (arith, is)));
      };
    }
