-- Laws of calls that add no entry to the journals of the lanes: sites that are sound stay so.
use Rattle.std.specs.Prelude.{◌≡◌, ℕ, ◌<◌, ◌≤◌, List, [], ◌∷◌, length, map, get_or}
use Rattle.std.proofs.Common.{sym, ◌∙◌, subst, arith}
use Rattle.std.proofs.lemmas.List.{get_or-map}
use Rattle.disk_model.specs.Disk.{Meaning, Tells, DiskRun, image_now}
use Rattle.ota_core.specs.declared.entries.Entry.{Entry}
use Rattle.counter_journal.specs.Standing.{StandsFor, IsKept}
use Rattle.lane_session.specs.Sound.{MayLeave, IsLiveOnce, clock_of, AreSound, StaySound}

-- an element of a list that has some
pub element_of : {A : Type 0} (xs : List A) → 0 < length xs → A
element_of [] none = absurd (omega arith)
element_of (x ∷ xs) some = x

-- the clock of a site of the list
pub clock_at : {D B C : Type 0} (told : Meaning D B C) (sites : List D) (k : ℕ) (site : D) → k < length sites → clock_of told sites k ≡ told.clock (get_or sites k site)
clock_at told sites k site within = get_or-map told.clock sites k site 0 within

module _ {D B C : Type 0} (told : Meaning D B C) where
  -- At each moment of a call each image stands for the same as one at its start.
  pub record IsKeptSite (lane lanes : ℕ) (old new : D) : Type 0 where
    pub tells : told.tells new ≡ told.tells old
    pub moments : Tells told old → DiskRun told old new (IsKept told lane lanes old)

  -- the same of the site of each lane
  pub record AreKept (olds news : List D) : Type 0 where
    pub same_sites : length news ≡ length olds
    pub each : (k : ℕ) (old new : D) → k < length olds → IsKeptSite k (length olds) (get_or olds k old) (get_or news k new)

module _ {D B C : Type 0} (told : Meaning D B C) (olds news : List D) (kept : AreKept told olds news) (sound : AreSound told olds) where
  run_of : (k : ℕ) (old new : D) → k < length olds → DiskRun told (get_or olds k old) (get_or news k new) (IsKept told k (length olds) (get_or olds k old))
  run_of k old new below = (kept.each k old new below).moments (sound.tells k old below)

  pub clocks_rise : (k : ℕ) → k < length news → clock_of told olds k ≤ clock_of told news k
  clocks_rise k below =
      let under : k < length olds = omega (arith, below, kept.same_sites) in
      let site = element_of olds (omega (arith, under)) in
      omega (arith, (run_of k site site under).past.later, clock_at told olds k site under, clock_at told news k site below)

  -- an image of the call stands for the same as one at its start
  pub kept_at : (k moment : ℕ) (old new : D) (image : List ℕ) → k < length news → clock_of told olds k ≤ moment → moment ≤ clock_of told news k
      → told.image_at (get_or news k new) moment image → IsKept told k (length news) (get_or olds k old) image
  kept_at k moment old new image below low high at =
      let under : k < length olds = omega (arith, below, kept.same_sites) in
      subst (λ (n : ℕ). IsKept told k n (get_or olds k old) image) (sym kept.same_sites)
      ((run_of k old new under).each moment image (omega (arith, low, clock_at told olds k old under)) (omega (arith, high, clock_at told news k new below)) at)

  -- so it stands for a history
  pub stood_sound : (k moment : ℕ) (site : D) (image : List ℕ) → k < length news → clock_of told olds k ≤ moment → moment ≤ clock_of told news k
      → told.image_at (get_or news k site) moment image → (entries : List Entry) × StandsFor k (length news) entries image
  stood_sound k moment site image below low high at =
      let same = kept_at k moment site site image below low high at in
      let under : k < length olds = omega (arith, below, kept.same_sites) in
      let stood = sound.each k site same.before under same.at in
      (stood.0, same.stands stood.0 (subst (λ (n : ℕ). StandsFor k n stood.0 same.before) (sym kept.same_sites) stood.1))

  -- what a stop of the call leaves, a stop before it might have left
  left_before : (k : ℕ) (site : D) (When : ℕ → Type 0) (entries : List Entry) → k < length news
      → ((moment : ℕ) → When moment → (clock_of told olds k ≤ moment) × (moment ≤ clock_of told news k))
      → MayLeave told (get_or news k site) k (length news) When entries → MayLeave told (get_or olds k site) k (length olds) (λ moment. moment ≡ clock_of told olds k) entries
  left_before k site When entries below within left =
      let times = within left.moment left.when in
      let same = kept_at k left.moment site site left.image below times.0 times.1 left.at in
      let under : k < length olds = omega (arith, below, kept.same_sites) in
      record {
        moment = told.clock (get_or olds k site);
        when = sym (clock_at told olds k site under);
        image = same.before;
        at = same.at;
        stands = subst (λ (n : ℕ). StandsFor k n entries same.before) kept.same_sites (same.stood entries left.stands);
      }

  pub live_once : (When : ℕ → ℕ → Type 0) → ((k moment : ℕ) → k < length news → When k moment → (clock_of told olds k ≤ moment) × (moment ≤ clock_of told news k)) → IsLiveOnce told news When
  live_once When within histories long leaves =
      sound.live_once histories (long ∙ kept.same_sites)
      (λ k site under. (
      let below : k < length news = omega (arith, under, kept.same_sites) in
      left_before k site (When k) (get_or histories k []) below (λ moment. within k moment below) (leaves k site below)))

  pub sound_now : AreSound told news
  sound_now = record {
    tells = λ k site below. (let under : k < length olds = omega (arith, below, kept.same_sites) in (kept.each k site site under).tells ∙ sound.tells k site under);
    each = λ k site image below at. (
        let clock = clock_at told news k site below in
        stood_sound k (told.clock (get_or news k site)) site image below (omega (arith, clocks_rise k below, clock)) (omega (arith, clock)) at);
    live_once = live_once (λ k moment. moment ≡ clock_of told news k) (λ k moment below is. (omega (arith, clocks_rise k below, is), omega (arith, is)));
  }

  -- no entry was added: the sites stay sound
  pub kept_sound : StaySound told olds news
  kept_sound = record {
    same_sites = kept.same_sites;
    each = stood_sound;
    openings = map told.clock news;
    from = clocks_rise;
    until = λ k below. omega arith;
    kept = λ k moment old new image entries below low high at stands. (
        let same = kept_at k moment old new image below low high at in
        (same.before, same.at, same.stood entries stands));
    before = live_once (λ k moment. (clock_of told olds k ≤ moment) × (moment ≤ clock_of told news k)) (λ k moment below times. times);
    after = live_once (λ k moment. (clock_of told news k ≤ moment) × (moment ≤ clock_of told news k)) (λ k moment below times. (omega (arith, clocks_rise k below, times.0), times.1));
    now = sound_now;
  }
