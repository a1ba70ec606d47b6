-- What a lane keeps when its port was asked, and which receipt may then be due.
use Rattle.std.proofs.Common.{◌≡◌, ◌⊎◌, inl, inr, ℕ, ◌+◌, ◌≤◌, ◌<◌, Some, List, [], ◌∷◌, ◌++◌, length, sym, ◌∙◌, ap, subst, arith, append-nil, append_assoc, length-append, ⊎_elim}
use Rattle.std.proofs.lemmas.Bool.{cases_lt}
use Rattle.std.proofs.lemmas.List.{nil_from_length}
use Rattle.disk_model.specs.Counts.{Counts}
use Rattle.disk_model.specs.Disk.{Meaning, image_now}
use Rattle.ota_core.specs.declared.cards.CardId.{CardId}
use Rattle.ota_core.specs.declared.entries.Entry.{Entry}
use Rattle.counter_journal.specs.EntryRanges.{IsHistory}
use Rattle.counter_journal.specs.JournalReading.{Holds}
use Rattle.site_model.specs.Cards.{port_at, port_now}
use Rattle.site_model.specs.Cards.{Keeps as CardsKeep}
use Rattle.site_model.specs.Port.{PortState, IsPolling}
use Rattle.site_model.specs.Runs.{PortRun}
use Rattle.world_core.specs.Members.{In, Begins}
use Rattle.world_core.specs.declared.lines.Line.{Line}
use Rattle.lane_engine.specs.Kept.{KeptFair, IsFair, WasDue, WasGiven, IsByReceipt, AreGiven, IsSettled, added_since}
use Rattle.lane_engine.specs.Opening.{Opening}
use Rattle.lane_engine.specs.Receipts.{Response, due_in, message_of, past_of}
use Rattle.lane_engine.specs.Sound.{SoundSince}
use Rattle.lane_engine.proofs.AddingLemmas.{stands_as}
use Rattle.lane_engine.proofs.KeptLemmas.{given_before, given_after, sound_on}
use Rattle.lane_engine.proofs.PortLemmas.{SendsReserved, port_sound}

module _ {D B C : Type 0} (told : Meaning D B C) (counts : D → Counts) (port : B → PortState) (lines : C → ℕ → List Line) (opening : Opening) where
  -- What is kept at the end of a poll, of a site with this history: each receipt that was due is settled, but that which the
  -- last message made.
  pub record KeptAsked (site : D) (entries : List Entry) : Type 0 where
    pub sound : SoundSince told port lines opening.lane opening.lanes opening.clock site
    pub settled : (response : Response) (was : WasDue told counts port lines opening site response)
        → IsSettled entries response ⊎ (AreGiven told counts port lines opening site (told.clock site) (was.before ++ was.message ∷ []) × (due_in entries (past_of was.before) (message_of was.message) ≡ Some response))
    pub settlements : (entry : Entry) → In entry (added_since told counts port lines opening entries) → IsByReceipt told counts port lines opening site entries entry

module _ {D B C : Type 0} (told : Meaning D B C) (counts : D → Counts) (port : B → PortState) (lines : C → ℕ → List Line) (opening : Opening) (old new : D)
    (run : PortRun told old new (λ beside. IsPolling (port_now told port lines old) (port beside))) (keeps : CardsKeep told port lines old new) (later : opening.clock ≤ told.clock old)
    (entries : List Entry) (held : (image : List ℕ) → image_now told old image → Holds opening.lane opening.lanes entries image) (is : IsHistory opening.lane opening.lanes entries)
    (seen : image_now told old (told.seen old)) where
  early : port_at told port lines new (told.clock old) ≡ port_now told port lines old
  early = ap port (run.past.beside (told.clock old) (omega arith))

  early_opening : port_at told port lines new opening.clock ≡ port_at told port lines old opening.clock
  early_opening = ap port (run.past.beside opening.clock later)

  -- nothing is sent
  pub sends : (k : ℕ) → told.clock old ≤ k → k ≤ told.clock new → SendsReserved entries (port_now told port lines old).sent (port_at told port lines new k).sent
  sends k low high = ([], (run.each k low high).sent ∙ sym (append-nil (port_now told port lines old).sent), ([], tt, λ piece i. absurd i))

  -- what was given at the end begins with what was given at a moment of the poll
  after_moment : (k : ℕ) → told.clock old ≤ k → k ≤ told.clock new → Begins (port_at told port lines new k).given (port_now told port lines new).given
  after_moment k low high = keeps.given k (told.clock new) low high (omega arith)

  -- and is longer by one message at most
  one_more : length (port_now told port lines new).given ≤ length (port_now told port lines old).given + 1
  one_more = by_case (run.each (told.clock new) run.past.later (omega arith)).given
    where
      by_case : ((port_now told port lines new).given ≡ (port_now told port lines old).given) ⊎ ((message : CardId × List ℕ) × ((port_now told port lines new).given ≡ (port_now told port lines old).given ++ message ∷ []))
          → length (port_now told port lines new).given ≤ length (port_now told port lines old).given + 1
      by_case (inl same) = (let counted = ap (λ (l : List (CardId × List ℕ)). length l) same in omega (arith, counted))
      by_case (inr more) = (let counted = ap (λ (l : List (CardId × List ℕ)). length l) more.1 ∙ length-append (port_now told port lines old).given (more.0 ∷ []) in omega (arith, counted))

  -- where a message was given by a moment of the poll, none is given behind it
  then_all : (k : ℕ) (low : told.clock old ≤ k) (high : k ≤ told.clock new) (message : CardId × List ℕ) → (port_at told port lines new k).given ≡ (port_now told port lines old).given ++ message ∷ []
      → (port_now told port lines new).given ≡ (port_at told port lines new k).given
  then_all k low high message grown =
      let more = after_moment k low high in
      let first = ap (λ (l : List (CardId × List ℕ)). length l) grown ∙ length-append (port_now told port lines old).given (message ∷ []) in
      let whole = ap (λ (l : List (CardId × List ℕ)). length l) more.1 ∙ length-append (port_at told port lines new k).given more.0 in
      let none : more.0 ≡ [] = nil_from_length more.0 (let at_most = one_more in omega (arith, first, whole, at_most)) in
      more.1 ∙ ap (λ (l : List (CardId × List ℕ)). (port_at told port lines new k).given ++ l) none ∙ append-nil (port_at told port lines new k).given

  -- a receipt that was due is one that was due before, or that of the message given
  due_asked : (response : Response) (was : WasDue told counts port lines opening new response)
      → WasDue told counts port lines opening old response
      ⊎ ((told.clock old < was.moment) × AreGiven told counts port lines opening new (told.clock new) (was.before ++ was.message ∷ []) × (due_in entries (past_of was.before) (message_of was.message) ≡ Some response))
  due_asked response was = ⊎_elim
      (λ after. inr (after, last after, due_now after))
      (λ low. inl (record {
        before = was.before;
        message = was.message;
        moment = was.moment;
        from = was.from;
        until = low;
        given = given_before told counts port lines opening old new run.past later was.moment (was.before ++ was.message ∷ []) low was.given;
        first = λ earlier from until given. was.first earlier from until (given_after told counts port lines opening old new run.past later earlier (was.before ++ was.message ∷ []) (omega arith) given);
        image = was.image;
        history = was.history;
        at = run.past.no_more was.moment was.image low was.at;
        stands = was.stands;
        due = was.due;
      }))
      (cases_lt (told.clock old) was.moment)
    where
      -- it wasn't given at the start of the poll
      not_before : told.clock old < was.moment → (port_at told port lines new was.moment).given ≡ (port_now told port lines old).given → ⊥
      not_before after same = was.first (told.clock old) later after (ap (λ (p : PortState). p.given) early ∙ sym same ∙ was.given)

      last : told.clock old < was.moment → AreGiven told counts port lines opening new (told.clock new) (was.before ++ was.message ∷ [])
      last after = by_case (run.each was.moment (omega arith) was.until).given
        where
          by_case : ((port_at told port lines new was.moment).given ≡ (port_now told port lines old).given)
              ⊎ ((message : CardId × List ℕ) × ((port_at told port lines new was.moment).given ≡ (port_now told port lines old).given ++ message ∷ []))
              → AreGiven told counts port lines opening new (told.clock new) (was.before ++ was.message ∷ [])
          by_case (inl same) = absurd (not_before after same)
          by_case (inr more) = then_all was.moment (omega arith) was.until more.0 more.1 ∙ was.given

      due_now : told.clock old < was.moment → due_in entries (past_of was.before) (message_of was.message) ≡ Some response
      due_now after =
          let at : image_now told old was.image = run.images_stand was.moment was.image (omega arith) was.until was.at in
          let same : was.history ≡ entries = stands_as opening.lane opening.lanes was.history entries was.image was.stands is (held was.image at) in
          subst (λ (h : List Entry). due_in h (past_of was.before) (message_of was.message) ≡ Some response) same was.due

  -- a receipt that was given stays one
  given_asked : (response : Response) → WasGiven told counts port lines opening old entries response → WasGiven told counts port lines opening new entries response
  given_asked response was =
      let more = after_moment (told.clock old) (omega arith) run.past.later in
      record {
        before = was.before;
        message = was.message;
        after = was.after ++ more.0;
        given = more.1 ∙ ap (λ (p : PortState). p.given ++ more.0) early ∙ ap (λ (l : List (CardId × List ℕ)). l ++ more.0) was.given
            ∙ append_assoc (port_at told port lines old opening.clock).given (was.before ++ was.message ∷ was.after) more.0
            ∙ ap (λ (l : List (CardId × List ℕ)). (port_at told port lines old opening.clock).given ++ l) (append_assoc was.before (was.message ∷ was.after) more.0)
            ∙ sym (ap (λ (p : PortState). p.given ++ (was.before ++ was.message ∷ (was.after ++ more.0))) early_opening);
        packet = was.packet;
        whole = was.whole;
        opens = was.opens;
        receipt = was.receipt;
      }

  sound_asked : IsFair told counts port lines opening new → SoundSince told port lines opening.lane opening.lanes opening.clock old → SoundSince told port lines opening.lane opening.lanes opening.clock new
  sound_asked fair sound = sound_on told counts port lines opening old new run.past later sound
      (port_sound told port lines opening.lane opening.lanes opening.clock entries old new (λ beside. IsPolling (port_now told port lines old) (port beside)) run keeps later sends held is seen fair.unforged (sound (told.clock old) later (omega arith)))

  pub kept_asked : IsFair told counts port lines opening new → KeptFair told counts port lines opening old entries
      → ((response : Response) → WasDue told counts port lines opening old response → IsSettled entries response) → KeptAsked told counts port lines opening new entries
  kept_asked fair kept all = record {
    sound = sound_asked fair kept.sound;
    settled = λ response was. ⊎_elim (λ before. inl (all response before)) (λ last. inr (last.1, last.2)) (due_asked response was);
    settlements = λ entry i settles. (let by = kept.settlements entry i settles in (by.0, given_asked by.0 by.1, by.2));
  }

  -- where no message was given, all that was due is settled
  pub all_asked : (port_now told port lines new).given ≡ (port_now told port lines old).given
      → ((response : Response) → WasDue told counts port lines opening old response → IsSettled entries response)
      → (response : Response) → WasDue told counts port lines opening new response → IsSettled entries response
  all_asked none all response was = ⊎_elim (λ before. all response before)
      (λ last. absurd (was.first (told.clock old) later last.0 (ap (λ (p : PortState). p.given) early ∙ sym none ∙ last.1))) (due_asked response was)
