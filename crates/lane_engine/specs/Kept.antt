-- What a lane keeps since its opening.
use Rattle.std.specs.Prelude.{◌≡◌, ◌⊎◌, ℕ, ◌<◌, ◌≤◌, Bool, true, false, Some, List, [], ◌∷◌, ◌++◌, length, drop}
use Rattle.disk_model.specs.Counts.{Counts, HasRisen}
use Rattle.disk_model.specs.Disk.{Meaning, Tells, PastStands, image_now}
use Rattle.ota_core.specs.declared.cards.CardId.{CardId}
use Rattle.ota_core.specs.declared.entries.Entry.{Entry}
use Rattle.counter_journal.specs.JournalReading.{Holds}
use Rattle.counter_journal.specs.Standing.{StandsFor}
use Rattle.site_model.specs.Port.{PortState}
use Rattle.site_model.specs.Cards.{port_at, port_now}
use Rattle.sms_segments.specs.Assembled.{answer_to}
use Rattle.sms_segments.specs.Kept.{Keeps, Pile}
use Rattle.sms_segments.specs.declared.assembling.Push.TheVariants.{Whole}
use Rattle.world_core.specs.Members.{In}
use Rattle.world_core.specs.declared.lines.Line.{Line}
use Rattle.lane_engine.specs.Adding.{is_settlement}
use Rattle.lane_engine.specs.LaneValue.{LaneValue}
use Rattle.lane_engine.specs.Opening.{Opening}
use Rattle.lane_engine.specs.Receipts.{RESPONSE, Response, due_in, is_receipt, message_of, past_of, response_at, settlement_of}
use Rattle.lane_engine.specs.Sound.{SoundAt, SoundSince}
use Rattle.lane_engine.specs.Unforged.{UnforgedSince}

-- one of the two counts of faults has risen
abbrev pub AreRisen : Counts → Counts → Type 0
AreRisen before now = HasRisen before.faults now.faults ⊎ HasRisen before.wants now.wants

-- the history settles the receipt
abbrev pub IsSettled : List Entry → Response → Type 0
IsSettled entries response = (by : ℕ) × (moment : ℕ) × In (settlement_of by moment response) entries

module _ {D B C : Type 0} (told : Meaning D B C) (counts : D → Counts) (port : B → PortState) (lines : C → ℕ → List Line) where
  -- A lane after some calls: no count fell, its site tells as it did, and tells of each earlier moment what it told.
  pub record IsLater (old new : LaneValue D) : Type 0 where
    pub lane : new.journal.lane ≡ old.journal.lane
    pub lanes : new.journal.lanes ≡ old.journal.lanes
    pub entries : (added : List Entry) × (new.journal.entries ≡ old.journal.entries ++ added)
    pub faults : (counts old.site).faults ≤ (counts new.site).faults
    pub wants : (counts old.site).wants ≤ (counts new.site).wants
    pub tells : told.tells new.site ≡ told.tells old.site
    pub past : Tells told old.site → PastStands told old.site new.site
    pub polls : Tells told old.site → (port_now told port lines old.site).polls ≤ (port_now told port lines new.site).polls
    -- a lane that is stale stays so
    pub stale : old.is_stale ≡ true → new.is_stale ≡ true

  module _ (opening : Opening) where
    -- the messages that the port gave from the opening to a moment
    abbrev pub AreGiven : D → ℕ → List (CardId × List ℕ) → Type 0
    AreGiven site moment messages = (port_at told port lines site moment).given ≡ (port_at told port lines site opening.clock).given ++ messages

    -- the site was sound for the lane at the opening, and has been unforged since
    pub record IsFair (site : D) : Type 0 where
      pub sound : SoundAt told port lines opening.lane opening.lanes site opening.clock
      pub unforged : UnforgedSince told port lines opening.lane opening.lanes opening.clock site

    -- A receipt was given since the opening, and was due by the history when its last message was given: its counter was
    -- reserved and unsettled, and its keyset open.
    pub record WasDue (site : D) (response : Response) : Type 0 where
      pub before : List (CardId × List ℕ)
      pub message : CardId × List ℕ
      -- when the message was given: by this moment, and by none before it
      pub moment : ℕ
      pub from : opening.clock ≤ moment
      pub until : moment ≤ told.clock site
      pub given : AreGiven site moment (before ++ message ∷ [])
      pub first : (earlier : ℕ) → opening.clock ≤ earlier → earlier < moment → AreGiven site earlier (before ++ message ∷ []) → ⊥
      pub image : List ℕ
      pub history : List Entry
      pub at : told.image_at site moment image
      pub stands : StandsFor opening.lane opening.lanes history image
      pub due : due_in history (past_of before) (message_of message) ≡ Some response

    -- it is settled; excepted is the last message given, and only where a count of the site has risen
    abbrev pub IsSettledUnlessLast : (site : D) → List Entry → (response : Response) → WasDue site response → Type 0
    IsSettledUnlessLast site entries response was =
        IsSettled entries response ⊎ (AreGiven site (told.clock site) (was.before ++ was.message ∷ []) × AreRisen opening.counts (counts site))

    -- a receipt that was given since the opening: its last message made whole a packet that opens under a keyset of the
    -- history
    pub record WasGiven (site : D) (entries : List Entry) (response : Response) : Type 0 where
      pub before : List (CardId × List ℕ)
      pub message : CardId × List ℕ
      pub after : List (CardId × List ℕ)
      pub given : AreGiven site (told.clock site) (before ++ message ∷ after)
      pub packet : List ℕ
      pub whole : answer_to RESPONSE (past_of before) (message_of message) ≡ Whole packet
      pub opens : response_at entries message.0 packet response.keyset.kvn ≡ Some response
      pub receipt : is_receipt response ≡ true

    -- the entries behind those of the opening
    abbrev pub added_since : List Entry → List Entry
    added_since entries = drop (length opening.entries) entries

    -- the entry is no settlement, or that of a receipt given since the opening
    abbrev pub IsByReceipt : D → List Entry → Entry → Type 0
    IsByReceipt site entries entry = is_settlement entry ≡ true
        → (response : Response) × WasGiven site entries response × ((by : ℕ) × (moment : ℕ) × (entry ≡ settlement_of by moment response))

    -- what is kept where the site is fair
    pub record KeptFair (site : D) (entries : List Entry) : Type 0 where
      pub sound : SoundSince told port lines opening.lane opening.lanes opening.clock site
      pub settled : (response : Response) (was : WasDue site response) → IsSettledUnlessLast site entries response was
      pub settlements : (entry : Entry) → In entry (added_since entries) → IsByReceipt site entries entry

    -- the history is that of the opening with the first of these entries behind it, and none of the others
    abbrev pub IsWithFirst : (history added : List Entry) → Type 0
    IsWithFirst history added = (more : List Entry) × (behind : List Entry) × (history ≡ opening.entries ++ more) × (more ++ behind ≡ added)

    -- what is kept where the site tells, of a lane with this history that lost this batch and keeps these pieces
    pub record KeptTold (site : D) (entries lost : List Entry) (is_stale : Bool) (pieces : Pile) : Type 0 where
      pub later : opening.clock ≤ told.clock site
      -- the pieces that are kept are those of the messages given
      pub heard : is_stale ≡ false
          → (messages : List (CardId × List ℕ)) × AreGiven site (told.clock site) messages × Keeps RESPONSE (past_of messages) pieces
      -- what was lost is one batch, of at most 16 entries
      pub few : length lost ≤ 16
      -- what a stop leaves of a stale lane holds its history, or that and the batch that was lost
      pub stale : is_stale ≡ true → (image : List ℕ) → image_now told site image
          → Holds opening.lane opening.lanes entries image ⊎ Holds opening.lane opening.lanes (entries ++ lost) image
      -- whatever a stop left since the opening's end holds the opening's history and the first of what was added and lost
      pub left : (moment : ℕ) (image : List ℕ) (history : List Entry) → opening.ready ≤ moment → moment ≤ told.clock site → told.image_at site moment image
          → StandsFor opening.lane opening.lanes history image → IsWithFirst history (added_since entries ++ lost)
      pub fair : IsFair site → KeptFair site entries
      -- before a fault all receipts that were due are settled
      pub all : is_stale ≡ false → IsFair site → (response : Response) → WasDue site response → IsSettled entries response

    -- What a lane keeps since its opening: it is the lane that was opened, its history begins with that of the opening, no
    -- count fell, and what its site tells.
    pub record KeptSince (lane : LaneValue D) : Type 0 where
      pub lane_is : lane.journal.lane ≡ opening.lane
      pub lanes_are : lane.journal.lanes ≡ opening.lanes
      pub entries : opening.entries ++ added_since lane.journal.entries ≡ lane.journal.entries
      pub faults : opening.counts.faults ≤ (counts lane.site).faults
      pub wants : opening.counts.wants ≤ (counts lane.site).wants
      pub where_told : Tells told lane.site → KeptTold lane.site lane.journal.entries lane.lost lane.is_stale lane.heard.pieces
