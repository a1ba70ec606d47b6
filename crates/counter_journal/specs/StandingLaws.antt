-- Laws of what the octets of a lane's journal stand for.
use Rattle.std.specs.Prelude.{◌≡◌, ◌⊎◌, ℕ, List, [], ◌∷◌, ◌++◌}
use Rattle.std.proofs.Common.{inl, inr, sym, ◌∙◌, ap, subst, arith}
use Rattle.disk_model.specs.Disk.{Meaning, image_now}
use Rattle.gate_log.specs.Reading.{parts_of, OpensTo}
use Rattle.gate_log.specs.Reading.Reading.{Opened, Unformatted}
use Rattle.gate_log.specs.Opening.{OpensAlike, IsOpenLog}
use Rattle.ota_core.specs.declared.entries.Entry.{Entry}
use Rattle.counter_journal.specs.declared.versions.Version.{Version}
use Rattle.counter_journal.specs.declared.versions.Version.TheVariants.{First, Second}
use Rattle.counter_journal.specs.EntryOctets.{MARK}
use Rattle.counter_journal.specs.EntryRanges.{IsHistory}
use Rattle.counter_journal.specs.Journal.{journal_head}
use Rattle.counter_journal.specs.JournalLaws.{same_parts, one_written, one_history, fit_of, written_mark}
use Rattle.counter_journal.specs.JournalMaking.{IsUnmade, IsBeforeOrNewJournal}
use Rattle.counter_journal.specs.JournalOpening.{IsTakenOver, IsBeforeOrOpened}
use Rattle.counter_journal.specs.JournalReading.{AreWritten, Holds, JournalValue, GoesOn, IsReady, IsSameJournal}
use Rattle.counter_journal.specs.Standing.{StandsFor, IsKept}

-- octets that open to parts are a journal that is made
pub not_unmade : (lane lanes : ℕ) (parts : List (List ℕ)) (octets : List ℕ) → OpensTo (journal_head lane lanes) parts octets → IsUnmade lane lanes octets → ⊥
not_unmade lane lanes parts octets opens unmade = differ opens.0 (sym opens.1 ∙ unmade)
  where
    differ : (behind : List ℕ) → Opened parts behind ≡ Unformatted → ⊥
    differ behind e = cc

-- the parts that octets hold are those to which they open
held_parts : (lane lanes : ℕ) (entries : List Entry) (parts : List (List ℕ)) (octets : List ℕ) (holds : Holds lane lanes entries octets) → OpensTo (journal_head lane lanes) parts octets
    → AreWritten holds.version entries parts
held_parts lane lanes entries parts octets holds opens =
    subst (λ (p : List (List ℕ)). AreWritten holds.version entries p) (same_parts holds.parts parts holds.opens.0 opens.0 (sym holds.opens.1 ∙ opens.1)) holds.written

-- of octets that open alike, both stand for what one stands for
pub stands_alike : (lane lanes : ℕ) (parts : List (List ℕ)) (one other : List ℕ) → OpensTo (journal_head lane lanes) parts one → OpensTo (journal_head lane lanes) parts other
    → (entries : List Entry) → StandsFor lane lanes entries one → StandsFor lane lanes entries other
stands_alike lane lanes parts one other opens alike entries (inl (unmade, none)) = absurd (not_unmade lane lanes parts one opens unmade)
stands_alike lane lanes parts one other opens alike entries (inr (history, holds)) =
    inr (history, record { version = holds.version; parts = parts; written = held_parts lane lanes entries parts one holds opens; opens = alike })

-- a history that octets hold, which are parts of these entries, is these
same_entries : (lane lanes : ℕ) (version : Version) (entries held : List Entry) (parts : List (List ℕ)) (octets : List ℕ) → IsHistory lane lanes entries → IsHistory lane lanes held
    → AreWritten version held parts → OpensTo (journal_head lane lanes) parts octets → Holds lane lanes entries octets → held ≡ entries
same_entries lane lanes version entries held parts octets history is written opens holds =
    one_written version holds.version held entries parts (fit_of lane lanes held is.of_lane) (fit_of lane lanes entries history.of_lane) written
    (held_parts lane lanes entries parts octets holds opens)

-- the mark of version 2 changes nothing of what octets stand for
pub stands_taken : (lane lanes : ℕ) (octets image : List ℕ) → IsTakenOver lane lanes octets image → (entries : List Entry) → StandsFor lane lanes entries octets → StandsFor lane lanes entries image
stands_taken lane lanes octets image taken entries (inl (unmade, none)) = absurd (not_unmade lane lanes taken.parts octets taken.was unmade)
stands_taken lane lanes octets image taken entries (inr (history, holds)) =
    let same : taken.entries ≡ entries = same_entries lane lanes First entries taken.entries taken.parts octets history taken.history taken.written taken.was holds in
    let marked = written_mark taken.entries taken.parts taken.written in
    inr (history, record { version = Second; parts = taken.parts ++ MARK ∷ []; written = subst (λ (e : List Entry). AreWritten Second e (taken.parts ++ MARK ∷ [])) same marked; opens = taken.is })

pub stood_taken : (lane lanes : ℕ) (octets image : List ℕ) → IsTakenOver lane lanes octets image → (entries : List Entry) → StandsFor lane lanes entries image → StandsFor lane lanes entries octets
stood_taken lane lanes octets image taken entries (inl (unmade, none)) = absurd (not_unmade lane lanes (taken.parts ++ MARK ∷ []) image taken.is unmade)
stood_taken lane lanes octets image taken entries (inr (history, holds)) =
    let marked = written_mark taken.entries taken.parts taken.written in
    let same : taken.entries ≡ entries = same_entries lane lanes Second entries taken.entries (taken.parts ++ MARK ∷ []) image history taken.history marked taken.is holds in
    inr (history, record { version = First; parts = taken.parts; written = subst (λ (e : List Entry). AreWritten First e taken.parts) same taken.written; opens = taken.was })

-- octets in which no journal is made stand for the history without entries alone
pub unmade_none : (lane lanes : ℕ) (entries : List Entry) (octets : List ℕ) → IsUnmade lane lanes octets → StandsFor lane lanes entries octets → entries ≡ []
unmade_none lane lanes entries octets unmade (inl (is, none)) = none
unmade_none lane lanes entries octets unmade (inr (history, holds)) = absurd (not_unmade lane lanes holds.parts octets holds.opens unmade)

-- it is a history of each lane
pub no_entries : (lane lanes : ℕ) → IsHistory lane lanes []
no_entries lane lanes = record { legal = tt; of_lane = λ k d below. absurd (omega arith) }

-- a journal without entries stands for it, and for no other
pub new_none : (lane lanes : ℕ) (entries : List Entry) (octets : List ℕ) → Holds lane lanes [] octets → StandsFor lane lanes entries octets → entries ≡ []
new_none lane lanes entries octets new (inl (unmade, none)) = none
new_none lane lanes entries octets new (inr (history, holds)) = one_history lane lanes entries [] octets (fit_of lane lanes entries history.of_lane) (fit_of lane lanes [] (no_entries lane lanes).of_lane) holds new

pub none_stands : (lane lanes : ℕ) (entries : List Entry) (octets : List ℕ) → Holds lane lanes [] octets → entries ≡ [] → StandsFor lane lanes entries octets
none_stands lane lanes entries octets new none = subst (λ (e : List Entry). StandsFor lane lanes e octets) (sym none) (inr (no_entries lane lanes, new))

-- ---- what a stop leaves

module _ {D B C : Type 0} (told : Meaning D B C) where
  -- an image at the start itself
  pub kept_same : (lane lanes : ℕ) (start : D) (image : List ℕ) → image_now told start image → IsKept told lane lanes start image
  kept_same lane lanes start image at = record { before = image; at = at; stood = λ entries is. is; stands = λ entries is. is }

  -- one that opens as what is seen at the start
  pub kept_alike : (lane lanes : ℕ) (start : D) (image : List ℕ) → image_now told start (told.seen start) → OpensAlike (journal_head lane lanes) (told.seen start) image → IsKept told lane lanes start image
  kept_alike lane lanes start image at (parts, was, is) = record {
    before = told.seen start;
    at = at;
    stood = stands_alike lane lanes parts image (told.seen start) is was;
    stands = stands_alike lane lanes parts (told.seen start) image was is;
  }

  -- one that an opening leaves
  pub kept_opened : (lane lanes : ℕ) (start : D) (image : List ℕ) → image_now told start (told.seen start) → IsBeforeOrOpened told start lane lanes image → IsKept told lane lanes start image
  kept_opened lane lanes start image at (inl now) = kept_same lane lanes start image now
  kept_opened lane lanes start image at (inr (inl alike)) = kept_alike lane lanes start image at alike
  kept_opened lane lanes start image at (inr (inr taken)) = record {
    before = told.seen start;
    at = at;
    stood = stood_taken lane lanes (told.seen start) image taken;
    stands = stands_taken lane lanes (told.seen start) image taken;
  }

  -- one that the making of a journal leaves
  pub kept_made : (lane lanes : ℕ) (start : D) (image : List ℕ) → image_now told start (told.seen start) → IsBeforeOrNewJournal told start lane lanes image → IsKept told lane lanes start image
  kept_made lane lanes start image at (inl now) = kept_same lane lanes start image now
  kept_made lane lanes start image at (inr (was, inl is)) = record {
    before = told.seen start;
    at = at;
    stood = λ entries stands. inl (was, unmade_none lane lanes entries image is stands);
    stands = λ entries stood. inl (is, unmade_none lane lanes entries (told.seen start) was stood);
  }
  kept_made lane lanes start image at (inr (was, inr new)) = record {
    before = told.seen start;
    at = at;
    stood = λ entries stands. inl (was, new_none lane lanes entries image new stands);
    stands = λ entries stood. none_stands lane lanes entries image new (unmade_none lane lanes entries (told.seen start) was stood);
  }

  -- ---- a journal that is ready

  -- a stop leaves what holds its history
  pub ready_holds : (disk : D) (journal : JournalValue) → IsReady told disk journal → (image : List ℕ) → image_now told disk image → Holds journal.lane journal.lanes journal.entries image
  ready_holds disk journal ready image now = record {
    version = ready.version;
    parts = ready.parts;
    written = ready.written;
    opens = ([], ap (parts_of (journal_head journal.lane journal.lanes)) (ready.open_log.only image now) ∙ ready.opens);
  }

  -- room alone makes no difference
  pub ready_same : (disk : D) (old new : JournalValue) → IsSameJournal old new → IsReady told disk old → IsReady told disk new
  ready_same disk old new same ready = record {
    open_log = subst (λ (l : ℕ). IsOpenLog told disk l) (sym same.length) ready.open_log;
    version = ready.version;
    parts = ready.parts;
    written = subst (λ (e : List Entry). AreWritten ready.version e ready.parts) (sym same.entries) ready.written;
    opens =
        subst (λ (l : ℕ). parts_of (journal_head l new.lanes) (told.seen disk) ≡ Opened ready.parts []) (sym same.lane)
        (subst (λ (l : ℕ). parts_of (journal_head old.lane l) (told.seen disk) ≡ Opened ready.parts []) (sym same.lanes) ready.opens);
    goes_on = subst (GoesOn ready.version) (sym same.length) ready.goes_on;
  }
