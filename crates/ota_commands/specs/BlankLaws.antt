-- Where a caller begins: sites on which no entry was ever added are sound.
use Rattle.std.specs.Prelude.{◌≡◌, ◌⊎◌, ℕ, ◌+◌, ◌<◌, List, [], ◌∷◌, length, slice_index_or, get_or, refl}
use Rattle.std.specs.List.{flat_map}
use Rattle.std.proofs.Common.{inl, inr, ◌∙◌, subst, arith}
use native.Mathlib.Numerals.{unary_clauses}
use Rattle.disk_model.specs.Disk.{Meaning, Tells, image_now}
use Rattle.gate_log.specs.Making.{short_unformatted}
use Rattle.ota_core.specs.History.{live_reservations}
use Rattle.ota_core.specs.declared.jobs.JobId.{JobId}
use Rattle.ota_core.specs.declared.entries.Entry.{Entry}
use Rattle.counter_journal.specs.Journal.{journal_head}
use Rattle.counter_journal.specs.JournalMaking.{IsUnmade}
use Rattle.counter_journal.specs.JournalReading.{Holds}
use Rattle.counter_journal.specs.Standing.{StandsFor}
use Rattle.counter_journal.specs.StandingLaws.{unmade_none, new_none, none_stands}
use Rattle.lane_session.specs.Sound.{MayLeave, clock_of, AreSound}
use Rattle.lane_session.specs.SoundSteps.{element_of, clock_at}

-- no journal of the lane is made on the octets yet, or one without entries stands there
abbrev pub IsBlank : ℕ → ℕ → List ℕ → Type 0
IsBlank lane lanes octets = IsUnmade lane lanes octets ⊎ Holds lane lanes [] octets

-- an empty disk has no journal, nor has any with fewer octets than a journal has
pub short_is_blank : (lane lanes : ℕ) (octets : List ℕ) → length octets < 11 → IsBlank lane lanes octets
short_is_blank lane lanes octets short = inl (short_unformatted (journal_head lane lanes) octets short)

-- blank octets stand for the empty history
blank_stands : (lane lanes : ℕ) (octets : List ℕ) → IsBlank lane lanes octets → StandsFor lane lanes [] octets
blank_stands lane lanes octets (inl unmade) = inl (unmade, refl)
blank_stands lane lanes octets (inr new) = none_stands lane lanes [] octets new refl

-- and for no other
blank_none : (lane lanes : ℕ) (entries : List Entry) (octets : List ℕ) → IsBlank lane lanes octets → StandsFor lane lanes entries octets → entries ≡ []
blank_none lane lanes entries octets (inl unmade) stands = unmade_none lane lanes entries octets unmade stands
blank_none lane lanes entries octets (inr new) stands = new_none lane lanes entries octets new stands

-- no job is live in histories without entries
none_live : (job : JobId) (histories : List (List Entry)) → ((k : ℕ) → k < length histories → get_or histories k [] ≡ []) → flat_map (live_reservations job) histories ≡ []
none_live job [] each = refl
none_live job (history ∷ histories) each =
    let first : history ≡ [] = each 0 (omega arith) in
    rw (first, none_live job histories (λ k below. simp unary_clauses at (each (k + 1) (omega (arith, below))))) refl

module _ {D B C : Type 0} (told : Meaning D B C) where
  -- the sites tell, and whatever a stop leaves of each is blank
  pub record AreBlank (sites : List D) : Type 0 where
    pub tells : (k : ℕ) (site : D) → k < length sites → Tells told (slice_index_or sites k site)
    pub blank : (k : ℕ) (site : D) (image : List ℕ) → k < length sites → image_now told (slice_index_or sites k site) image → IsBlank k (length sites) image

  -- they are sound
  pub blank_sound : (sites : List D) → AreBlank sites → AreSound told sites
  blank_sound sites blank = record {
    tells = blank.tells;
    each = λ k site image below at. ([], blank_stands k (length sites) image (blank.blank k site image below at));
    live_once = λ histories long leaves job.
        (let none : flat_map (live_reservations job) histories ≡ [] =
        none_live job histories (λ k below. (
        let within : k < length sites = omega (arith, below, long) in
        let site = element_of sites (omega (arith, within)) in
        let left : MayLeave told (get_or sites k site) k (length sites) (λ moment. moment ≡ clock_of told sites k) (get_or histories k []) = leaves k site within in
        let now : image_now told (get_or sites k site) left.image = subst (λ (m : ℕ). told.image_at (get_or sites k site) m left.image) (left.when ∙ clock_at told sites k site within) left.at in
        blank_none k (length sites) (get_or histories k []) left.image (blank.blank k site left.image within now) left.stands)) in
        rw none (omega arith));
  }
