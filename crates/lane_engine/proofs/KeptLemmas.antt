-- What a lane keeps through a call that adds a batch.
use Rattle.std.proofs.Common.{◌≡◌, inl, inr, ℕ, ◌≤◌, Bool, false, true, Some, List, [], ◌∷◌, ◌++◌, length, drop, refl, sym, ◌∙◌, ap, subst, arith, ⊎_elim}
use Rattle.std.specs.List.{list_any}
use Rattle.std.proofs.lemmas.Bool.{cases_lt}
use Rattle.std.proofs.lemmas.List.{drop-append-le}
use Rattle.disk_model.specs.Counts.{Counts}
use Rattle.disk_model.specs.Disk.{Meaning, Tells, DiskRun, PastStands}
use Rattle.ota_core.specs.Entry.{facts_in}
use Rattle.ota_core.specs.Questions.{opened_facts}
use Rattle.ota_core.specs.declared.cards.CardId.{CardId}
use Rattle.ota_core.specs.declared.entries.Entry.{Entry}
use Rattle.sms_segments.specs.Kept.{Pile}
use Rattle.site_model.specs.Port.{PortState}
use Rattle.site_model.specs.Cards.{port_at, port_now}
use Rattle.world_core.specs.Members.{In}
use Rattle.world_core.specs.MemberLaws.{In-left, In-cases, list_any-from_In, first_some-left, and_then-some}
use Rattle.world_core.specs.declared.lines.Line.{Line}
use Rattle.lane_engine.specs.Adding.{is_settlement}
use Rattle.lane_engine.specs.Kept.{KeptSince, KeptTold, KeptFair, IsFair, WasDue, WasGiven, AreGiven, AreRisen, IsSettled, added_since}
use Rattle.lane_engine.specs.Opening.{Opening}
use Rattle.lane_engine.specs.LaneValue.{LaneValue, IsSameLane}
use Rattle.lane_engine.specs.Receipts.{Response, response_at, response_under, settlement_of}
use Rattle.lane_engine.specs.Sound.{IsSoundState, SoundAt, SoundSince}
use Rattle.lane_engine.specs.Unforged.{IsBrought, made_as}
use Rattle.lane_engine.proofs.Moments.{port_still}

-- what a lane keeps depends on its site, its history, what it lost, whether it is stale, and the pieces that it keeps
pub kept_same : {D B C : Type 0} (told : Meaning D B C) (counts : D → Counts) (port : B → PortState) (lines : C → ℕ → List Line) (opening : Opening) (old new : LaneValue D)
    → IsSameLane old new → KeptSince told counts port lines opening old → KeptSince told counts port lines opening new
kept_same {D = D} told counts port lines opening old new same kept =
    let entries = same.entries in
    record {
      lane_is = same.rest.lane ∙ kept.lane_is;
      lanes_are = same.rest.lanes ∙ kept.lanes_are;
      entries = subst (λ (l : List Entry). opening.entries ++ added_since told counts port lines opening l ≡ l) (sym entries) kept.entries;
      faults = subst (λ (d : D). opening.counts.faults ≤ (counts d).faults) (sym same.site) kept.faults;
      wants = subst (λ (d : D). opening.counts.wants ≤ (counts d).wants) (sym same.site) kept.wants;
      where_told = λ tells.
          subst (λ (d : D). KeptTold told counts port lines opening d new.journal.entries new.lost new.is_stale new.heard.pieces) (sym same.site)
          (subst (λ (l : List Entry). KeptTold told counts port lines opening old.site l new.lost new.is_stale new.heard.pieces) (sym entries)
          (subst (λ (l : List Entry). KeptTold told counts port lines opening old.site old.journal.entries l new.is_stale new.heard.pieces) (sym same.lost)
          (subst (λ (b : Bool). KeptTold told counts port lines opening old.site old.journal.entries old.lost b new.heard.pieces) (sym same.is_stale)
          (subst (λ (p : Pile). KeptTold told counts port lines opening old.site old.journal.entries old.lost old.is_stale p) (sym same.rest.pieces)
          (kept.where_told (subst (λ (d : D). Tells told d) same.site tells))))));
    }

-- an entry of the history opens the same keysets in a longer one
pub response_more : (entries batch : List Entry) (card : CardId) (packet : List ℕ) (kvn : ℕ) (response : Response) → response_at entries card packet kvn ≡ Some response
    → response_at (entries ++ batch) card packet kvn ≡ Some response
response_more entries batch card packet kvn response h =
    let found = and_then-some (response_under (record { card = card; kvn = kvn }) packet) (opened_facts (record { card = card; kvn = kvn }) entries) response h in
    let opened : opened_facts (record { card = card; kvn = kvn }) (entries ++ batch) ≡ Some found.0 = first_some-left (facts_in (record { card = card; kvn = kvn })) entries batch found.0 found.1 in
    rw opened found.2

-- ---- calls of a site

module _ {D B C : Type 0} (told : Meaning D B C) (counts : D → Counts) (port : B → PortState) (lines : C → ℕ → List Line) (opening : Opening)
    (old new : D) (past : PastStands told old new) (later : opening.clock ≤ told.clock old) where
  early_port : (k : ℕ) → k ≤ told.clock old → port_at told port lines new k ≡ port_at told port lines old k
  early_port k low = ap port (past.beside k low)

  -- what was given by a moment before the calls
  pub given_before : (k : ℕ) (messages : List (CardId × List ℕ)) → k ≤ told.clock old → AreGiven told counts port lines opening new k messages → AreGiven told counts port lines opening old k messages
  given_before k messages low given =
      sym (ap (λ (p : PortState). p.given) (early_port k low)) ∙ given
      ∙ ap (λ (p : PortState). p.given ++ messages) (early_port opening.clock later)

  pub given_after : (k : ℕ) (messages : List (CardId × List ℕ)) → k ≤ told.clock old → AreGiven told counts port lines opening old k messages → AreGiven told counts port lines opening new k messages
  given_after k messages low given =
      ap (λ (p : PortState). p.given) (early_port k low) ∙ given
      ∙ sym (ap (λ (p : PortState). p.given ++ messages) (early_port opening.clock later))

  -- the premise of a longer time is that of a shorter one
  pub fair_before : IsFair told counts port lines opening new → IsFair told counts port lines opening old
  fair_before fair = record {
    sound = λ image choice at chosen.
        subst (λ (p : PortState). IsSoundState opening.lane opening.lanes image p (lines choice)) (early_port opening.clock later)
        (fair.sound image choice (past.no_fewer opening.clock image later at) (past.no_fewer_choices opening.clock choice later chosen));
    unforged = record {
      brought = λ first moment from low until image history at stands choice card line chosen is_card is_line.
          let new_brought = fair.unforged.brought first moment from low (omega (arith, until, past.later)) image history (past.no_fewer moment image until at) stands choice card line
          (past.no_fewer_choices moment choice until chosen) (subst (λ (p : PortState). In card p.facts) (sym (early_port moment until)) is_card) is_line in
          ⊎_elim
          (λ stood. inl (stood.0, past.no_more_choices first stood.0 (omega arith) stood.1, stood.2))
          (λ is. inr (subst (λ (p : PortState). IsBrought history p.sent line) (early_port moment until) is)) new_brought;
      answered = λ moment from until image history at stands messages given packet kvn response is_packet says.
          subst (λ (p : PortState). In (made_as packet.card response) p.made) (early_port moment until)
          (fair.unforged.answered moment from (omega (arith, until, past.later)) image history (past.no_fewer moment image until at) stands messages
          (given_after moment messages until given) packet kvn response is_packet says);
    };
  }

  -- the site is sound at each moment of the calls
  abbrev pub SoundIn : Type 0
  SoundIn = (k : ℕ) → told.clock old ≤ k → k ≤ told.clock new → SoundAt told port lines opening.lane opening.lanes new k

  pub sound_on : SoundSince told port lines opening.lane opening.lanes opening.clock old → SoundIn → SoundSince told port lines opening.lane opening.lanes opening.clock new
  sound_on sound during k from until image choice at chosen = ⊎_elim
      (λ after. during k (omega arith) until image choice at chosen)
      (λ low.
      subst (λ (p : PortState). IsSoundState opening.lane opening.lanes image p (lines choice)) (sym (early_port k low))
      (sound k from low image choice (past.no_more k image low at) (past.no_more_choices k choice low chosen)))
      (cases_lt (told.clock old) k)

  pub risen_on : (counts old).faults ≤ (counts new).faults → (counts old).wants ≤ (counts new).wants → AreRisen opening.counts (counts old) → AreRisen opening.counts (counts new)
  risen_on faults wants (inl up) = inl (record { never_falls = omega (arith, faults, up.never_falls); rises = omega (arith, faults, up.rises) })
  risen_on faults wants (inr up) = inr (record { never_falls = omega (arith, wants, up.never_falls); rises = omega (arith, wants, up.rises) })

-- ---- calls in which nothing is given

module _ {D B C : Type 0} (told : Meaning D B C) (counts : D → Counts) (port : B → PortState) (lines : C → ℕ → List Line) (opening : Opening)
    (old new : D) (past : PastStands told old new) (later : opening.clock ≤ told.clock old)
    (still : (k : ℕ) → told.clock old ≤ k → k ≤ told.clock new → (port_at told port lines new k).given ≡ (port_now told port lines old).given) where
  pub given_still : (k : ℕ) (messages : List (CardId × List ℕ)) → told.clock old ≤ k → k ≤ told.clock new
      → AreGiven told counts port lines opening new k messages → AreGiven told counts port lines opening new (told.clock old) messages
  given_still k messages low high given =
      still (told.clock old) (omega arith) past.later ∙ sym (still k low high) ∙ given

  pub given_on : (messages : List (CardId × List ℕ)) → AreGiven told counts port lines opening old (told.clock old) messages → AreGiven told counts port lines opening new (told.clock new) messages
  given_on messages given =
      still (told.clock new) past.later (omega arith) ∙ given
      ∙ sym (ap (λ (p : PortState). p.given ++ messages) (early_port told counts port lines opening old new past later opening.clock later))

  pub given_back : (messages : List (CardId × List ℕ)) → AreGiven told counts port lines opening new (told.clock new) messages → AreGiven told counts port lines opening old (told.clock old) messages
  given_back messages given =
      given_before told counts port lines opening old new past later (told.clock old) messages (omega arith) (given_still (told.clock new) messages past.later (omega arith) given)

  -- a receipt that was due is one that was due before the calls
  pub due_before : (response : Response) (was : WasDue told counts port lines opening new response)
      → (before : WasDue told counts port lines opening old response) × (before.before ≡ was.before) × (before.message ≡ was.message)
  due_before response was = ⊎_elim
      (λ after. absurd (was.first (told.clock old) later after (given_still was.moment (was.before ++ was.message ∷ []) (omega arith) was.until was.given)))
      (λ low. (
        record {
          before = was.before;
          message = was.message;
          moment = was.moment;
          from = was.from;
          until = low;
          given = given_before told counts port lines opening old new past later was.moment (was.before ++ was.message ∷ []) low was.given;
          first = λ earlier from until given.
              was.first earlier from until (given_after told counts port lines opening old new past later earlier (was.before ++ was.message ∷ []) (omega arith) given);
          image = was.image;
          history = was.history;
          at = past.no_more was.moment was.image low was.at;
          stands = was.stands;
          due = was.due;
        },
        refl,
        refl,
      ))
      (cases_lt (told.clock old) was.moment)

  pub given_more : (entries added : List Entry) (response : Response) → WasGiven told counts port lines opening old entries response
      → WasGiven told counts port lines opening new (entries ++ added) response
  given_more entries added response was = record {
    before = was.before;
    message = was.message;
    after = was.after;
    given = given_on (was.before ++ was.message ∷ was.after) was.given;
    packet = was.packet;
    whole = was.whole;
    opens = response_more entries added was.message.0 was.packet response.keyset.kvn response was.opens;
    receipt = was.receipt;
  }

  -- where all receipts that were due are settled, they are so behind more entries
  pub all_on : (entries added : List Entry) → ((response : Response) → WasDue told counts port lines opening old response → IsSettled entries response)
      → (response : Response) → WasDue told counts port lines opening new response → IsSettled (entries ++ added) response
  all_on entries added all response was =
      let is = all response (due_before response was).0 in (is.0, is.1, In-left (settlement_of is.0 is.1 response) entries added is.2)

  -- what is kept through the calls, where they add no settlement
  pub fair_on : (entries added : List Entry) → list_any is_settlement added ≡ false → length opening.entries ≤ length entries
      → (counts old).faults ≤ (counts new).faults → (counts old).wants ≤ (counts new).wants
      → KeptFair told counts port lines opening old entries → SoundIn told counts port lines opening old new past later → KeptFair told counts port lines opening new (entries ++ added)
  fair_on entries added none long faults wants kept during = record {
    sound = sound_on told counts port lines opening old new past later kept.sound during;
    settled = λ response was. (
        let before = due_before response was in
        ⊎_elim
        (λ is. inl (is.0, is.1, In-left (settlement_of is.0 is.1 response) entries added is.2))
        (λ last. inr (
          given_on (was.before ++ was.message ∷ [])
              (subst (λ (l : List (CardId × List ℕ)). AreGiven told counts port lines opening old (told.clock old) (l ++ was.message ∷ [])) before.1
              (subst (λ (m : CardId × List ℕ). AreGiven told counts port lines opening old (told.clock old) (before.0.before ++ m ∷ [])) before.2 last.0)),
          risen_on told counts port lines opening old new past later faults wants last.1,
        ))
        (kept.settled response before.0));
    settlements = λ entry is settles. ⊎_elim
        (λ old_one. (
        let by = kept.settlements entry old_one settles in
        (by.0, given_more entries added by.0 by.1, by.2)))
        (λ new_one. absurd (differ (list_any is_settlement added) (list_any-from_In is_settlement added entry new_one settles) none))
        (In-cases entry (drop (length opening.entries) entries) added (subst (In entry) (drop-append-le (length opening.entries) entries added long) is));
  }
    where
      differ : (b : Bool) → b ≡ true → b ≡ false → ⊥
      differ true is isnt = cc
      differ false is isnt = cc

-- ---- a call of the journal's disk

module _ {D B C : Type 0} (told : Meaning D B C) (counts : D → Counts) (port : B → PortState) (lines : C → ℕ → List Line) (opening : Opening)
    (old new : D) (P : List ℕ → Type 0) (run : DiskRun told old new P) (later : opening.clock ≤ told.clock old) where
  pub given_stands : (k : ℕ) → told.clock old ≤ k → k ≤ told.clock new → (port_at told port lines new k).given ≡ (port_now told port lines old).given
  given_stands k low high = ap (λ (p : PortState). p.given) (port_still told port lines old new P run k low high)

  -- the state of each moment of the call, where it is sound at its start
  abbrev pub AreSoundIn : Type 0
  AreSoundIn = (image : List ℕ) (choice : C) → P image → told.choice_at old (told.clock old) choice
      → IsSoundState opening.lane opening.lanes image (port_now told port lines old) (lines choice)

  pub sound_in : AreSoundIn → SoundIn told counts port lines opening old new run.past later
  sound_in during k low high image choice at chosen =
      subst (λ (p : PortState). IsSoundState opening.lane opening.lanes image p (lines choice)) (sym (port_still told port lines old new P run k low high))
      (during image choice (run.each k image low high at) (run.choices_stand k choice low high chosen))
