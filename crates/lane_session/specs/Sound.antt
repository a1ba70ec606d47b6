-- When the journals of all lanes are sound: whatever a stop leaves of each is a history of its lane, or none is made yet;
-- and over all lanes together each job is live at most once.
use Rattle.std.specs.Prelude.{◌≡◌, ◌⊎◌, ℕ, ◌<◌, ◌≤◌, List, [], length, map, slice_index_or}
use Rattle.disk_model.specs.Disk.{Meaning, Tells, image_now}
use Rattle.ota_core.specs.History.{EachJobLiveOnce}
use Rattle.ota_core.specs.declared.entries.Entry.{Entry}
use Rattle.counter_journal.specs.Standing.{StandsFor}

module _ {D B C : Type 0} (told : Meaning D B C) where
  -- a stop of the site at such a moment may leave this history
  pub record MayLeave (site : D) (lane lanes : ℕ) (When : ℕ → Type 0) (entries : List Entry) : Type 0 where
    pub moment : ℕ
    pub when : When moment
    pub image : List ℕ
    pub at : told.image_at site moment image
    pub stands : StandsFor lane lanes entries image

  -- whichever histories stops of the sites leave at such moments, one of each, each job is live at most once
  abbrev pub IsLiveOnce : List D → (ℕ → ℕ → Type 0) → Type 0
  IsLiveOnce sites When = (histories : List (List Entry)) → length histories ≡ length sites
      → ((k : ℕ) (site : D) → k < length sites → MayLeave (slice_index_or sites k site) k (length sites) (When k) (slice_index_or histories k []))
      → EachJobLiveOnce histories

  -- the moment at the clock of the site of this number
  abbrev pub clock_of : List D → ℕ → ℕ
  clock_of sites k = slice_index_or (map told.clock sites) k 0

  -- the sites are sound now, and tell so
  pub record AreSound (sites : List D) : Type 0 where
    pub tells : (k : ℕ) (site : D) → k < length sites → Tells told (slice_index_or sites k site)
    pub each : (k : ℕ) (site : D) (image : List ℕ) → k < length sites → image_now told (slice_index_or sites k site) image
        → (entries : List Entry) × StandsFor k (length sites) entries image
    pub live_once : IsLiveOnce sites (λ k moment. moment ≡ clock_of sites k)

  -- The sites stayed sound at each moment of a call that opens all of them before it adds anything: a stop leaves a choice
  -- of moments up to the ends of the openings, or one of moments from these ends on.
  pub record StaySound (olds news : List D) : Type 0 where
    pub same_sites : length news ≡ length olds
    pub each : (k moment : ℕ) (site : D) (image : List ℕ) → k < length news → clock_of olds k ≤ moment → moment ≤ clock_of news k
        → told.image_at (slice_index_or news k site) moment image → (entries : List Entry) × StandsFor k (length news) entries image
    -- the end of each site's opening
    pub openings : List ℕ
    pub from : (k : ℕ) → k < length news → clock_of olds k ≤ slice_index_or openings k 0
    pub until : (k : ℕ) → k < length news → slice_index_or openings k 0 ≤ clock_of news k
    -- up to it a stop leaves only what a stop might have left before the call
    pub kept : (k moment : ℕ) (old new : D) (image : List ℕ) (entries : List Entry) → k < length news → clock_of olds k ≤ moment → moment ≤ slice_index_or openings k 0
        → told.image_at (slice_index_or news k new) moment image → StandsFor k (length news) entries image
        → (before : List ℕ) × image_now told (slice_index_or olds k old) before × StandsFor k (length news) entries before
    pub before : IsLiveOnce news (λ k moment. (clock_of olds k ≤ moment) × (moment ≤ slice_index_or openings k 0))
    pub after : IsLiveOnce news (λ k moment. (slice_index_or openings k 0 ≤ moment) × (moment ≤ clock_of news k))
    -- and they are sound at its end
    pub now : AreSound news
