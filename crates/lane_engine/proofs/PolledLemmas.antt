-- What a lane keeps through a poll.
use Rattle.std.proofs.Common.{◌≡◌, ◌⊎◌, inl, inr, ℕ, ◌≤◌, max, IsTrue, Bool, false, true, Option, Some, None, Result, List, [], ◌∷◌, ◌++◌, length, drop, map, reverse, All, refl, sym, ◌∙◌, ap, subst, arith, append-nil, append_assoc, ⊎_elim}
use Rattle.std.proofs.lemmas.List.{append_cancel_left, drop-append-le}
use Rattle.std.proofs.Math.Nat.{le-max_right}
use Rattle.disk_model.specs.Counts.{Counts, HasRisen}
use Rattle.disk_model.specs.Disk.{Meaning, Tells, DiskRun, image_now}
use Rattle.ota_core.specs.Questions.{last_moment}
use Rattle.ota_core.specs.declared.cards.CardId.{CardId}
use Rattle.ota_core.specs.declared.entries.Entry.{Entry}
use Rattle.counter_journal.specs.EntryRanges.{IsEntry, IsHistory}
use Rattle.counter_journal.specs.JournalReading.{Holds}
use Rattle.counter_journal.specs.StandingLaws.{ready_holds}
use Rattle.site_model.specs.Cards.{HasChoice, port_at, port_now}
use Rattle.site_model.specs.Cards.{Keeps as CardsKeep}
use Rattle.site_model.specs.Port.{PortState, IsPolling}
use Rattle.site_model.specs.Runs.{PortRun}
use Rattle.sms_segments.specs.Assembled.{OfCard, answer_to}
use Rattle.sms_segments.specs.Kept.{Keeps, Pile, kept_in}
use Rattle.sms_segments.specs.declared.assembling.Push.{Push}
use Rattle.sms_segments.specs.declared.concatenations.Concatenation.{Concatenation}
use Rattle.world_core.specs.Members.{In}
use Rattle.world_core.specs.Run.{Runs}
use Rattle.world_core.specs.Sound.{IsSound, CardsWentOn}
use Rattle.world_core.specs.declared.events.Event.TheVariants.{Begin}
use Rattle.world_core.specs.declared.lines.Line.{Line}
use Rattle.world_core.specs.declared.segments.Sent.{Sent}
use Rattle.lane_engine.specs.Departing.{HaveCardsGoneOn}
use Rattle.lane_engine.specs.Sound.{IsSoundState}
use Rattle.lane_engine.specs.Unforged.{made_as}
use Rattle.lane_engine.specs.World.{world_of, cards_of}
use Rattle.lane_engine.proofs.AddingLemmas.{stands_as}
use Rattle.lane_engine.proofs.PortLemmas.{port_gone_on}
use Rattle.lane_engine.proofs.PollRunLemmas.{GivesAndSettles, gives_and_settles, said_by, went_on_more}
use Rattle.lane_engine.specs.Adding.{moment_for}
use Rattle.lane_engine.specs.Kept.{KeptSince, KeptTold, KeptFair, IsFair, WasDue, AreGiven, AreRisen, IsSettled, IsWithFirst, added_since}
use Rattle.lane_engine.specs.Opening.{Opening}
use Rattle.lane_engine.specs.LaneValue.{LaneValue, IsLane}
use Rattle.lane_engine.specs.Polling.{IsPollingRun, IsStoppedRun, IsSameBut, IsUnpolled, KeepsSame, giving, settlements, settling_events}
use Rattle.lane_engine.specs.Receipts.{RESPONSE, Response, answer_to_push, due_by, due_in, message_of, past_of, response_by, response_in}
use Rattle.lane_engine.specs.Settling.{IsAskedOnce, IsHeard, settled_by}
use Rattle.lane_engine.specs.declared.answers.LaneErr.{LaneErr}
use Rattle.lane_engine.specs.declared.answers.Poll.{Poll}
use Rattle.lane_engine.proofs.AppendLemmas.{IsWithBatch, no_shorter}
use Rattle.lane_engine.proofs.AskedLemmas.{KeptAsked, kept_asked, all_asked, sends}
use Rattle.lane_engine.proofs.DueLemmas.{settled_history}
use Rattle.lane_engine.proofs.HeardLemmas.{past_of-push, made_given, batch, all_heard, fair_heard, fair_stopped, sound_heard}
use Rattle.lane_engine.proofs.KeptLemmas.{fair_before, given_on, given_stands, AreSoundIn}
use Rattle.lane_engine.proofs.LeftLemmas.{AreLeft, held_first, held_more, left_on, left_still}

-- the pieces that are kept may stand in another order
pub keeps_as : (past : List OfCard) (old new : Pile) → ((of : Concatenation) → kept_in new of ≡ kept_in old of) → Keeps RESPONSE past old → Keeps RESPONSE past new
keeps_as past old new same keeps of = same of ∙ keeps of

-- two lists with one more element each that are equal
same_last : {X : Type 0} (xs : List X) (x y : X) → xs ++ x ∷ [] ≡ xs ++ y ∷ [] → x ≡ y
same_last xs x y same = head (append_cancel_left xs (x ∷ []) (y ∷ []) same)
  where
    head : x ∷ [] ≡ y ∷ [] → x ≡ y
    head e = cc

-- where only room is another, what is kept stands
pub kept_unpolled : {D B C : Type 0} (told : Meaning D B C) (counts : D → Counts) (port : B → PortState) (lines : C → ℕ → List Line) (opening : Opening) (old new : LaneValue D)
    → IsUnpolled old new → KeptSince told counts port lines opening old → KeptSince told counts port lines opening new
kept_unpolled {D = D} told counts port lines opening old new same kept = record {
  lane_is = same.rest.lane ∙ kept.lane_is;
  lanes_are = same.rest.lanes ∙ kept.lanes_are;
  entries = subst (λ (l : List Entry). opening.entries ++ added_since told counts port lines opening l ≡ l) (sym same.entries) kept.entries;
  faults = subst (λ (d : D). opening.counts.faults ≤ (counts d).faults) (sym same.site) kept.faults;
  wants = subst (λ (d : D). opening.counts.wants ≤ (counts d).wants) (sym same.site) kept.wants;
  where_told = λ tells. (
      let was : KeptTold told counts port lines opening old.site old.journal.entries old.lost old.is_stale old.heard.pieces = kept.where_told (subst (λ (d : D). Tells told d) same.site tells) in
      let again : KeptTold told counts port lines opening old.site old.journal.entries old.lost old.is_stale new.heard.pieces = record {
        later = was.later;
        heard = λ live. (let heard = was.heard live in (heard.0, heard.1, keeps_as (past_of heard.0) old.heard.pieces new.heard.pieces same.kept heard.2));
        few = was.few;
        stale = was.stale;
        left = was.left;
        fair = was.fair;
        all = was.all;
      } in
      subst (λ (d : D). KeptTold told counts port lines opening d new.journal.entries new.lost new.is_stale new.heard.pieces) (sym same.site)
      (subst (λ (l : List Entry). KeptTold told counts port lines opening old.site l new.lost new.is_stale new.heard.pieces) (sym same.entries)
      (subst (λ (l : List Entry). KeptTold told counts port lines opening old.site old.journal.entries l new.is_stale new.heard.pieces) (sym same.lost)
      (subst (λ (b : Bool). KeptTold told counts port lines opening old.site old.journal.entries old.lost b new.heard.pieces) (sym same.is_stale) again))));
}

-- ---- a lane whose port was asked

module _ {D B C : Type 0} (told : Meaning D B C) (counts : D → Counts) (port : B → PortState) (lines : C → ℕ → List Line) where
  -- its history and what it keeps are as they were, and its site was asked once
  pub record AskedFrom (old mid : LaneValue D) : Type 0 where
    pub entries : mid.journal.entries ≡ old.journal.entries
    pub lost : mid.lost ≡ old.lost
    pub kept : KeepsSame old mid
    pub rest : IsSameBut old mid
    pub tells : told.tells mid.site ≡ told.tells old.site
    pub faults : (counts old.site).faults ≤ (counts mid.site).faults
    pub wants : (counts old.site).wants ≤ (counts mid.site).wants
    pub run : Tells told old.site → PortRun told old.site mid.site (λ beside. IsPolling (port_now told port lines old.site) (port beside))
    pub keeps : Tells told old.site → CardsKeep told port lines old.site mid.site

  pub asked_from : (old roomy mid : LaneValue D) → IsUnpolled old roomy → IsAskedOnce roomy mid → told.tells mid.site ≡ told.tells roomy.site
      → (counts roomy.site).faults ≤ (counts mid.site).faults → (counts roomy.site).wants ≤ (counts mid.site).wants
      → (Tells told roomy.site → PortRun told roomy.site mid.site (λ beside. IsPolling (port_now told port lines roomy.site) (port beside)))
      → (Tells told roomy.site → CardsKeep told port lines roomy.site mid.site) → AskedFrom old mid
  asked_from old roomy mid same asked tells faults wants run keeps = record {
    entries = ap (λ j. j.entries) asked.journal ∙ same.entries;
    lost = asked.lost ∙ same.lost;
    kept = λ of. ap (λ k. kept_in k.pieces of) asked.heard ∙ same.kept of;
    rest = record {
      element = ap (λ k. k.element) asked.heard ∙ same.rest.element;
      lane = ap (λ j. j.lane) asked.journal ∙ same.rest.lane;
      lanes = ap (λ j. j.lanes) asked.journal ∙ same.rest.lanes;
      settings = record {
        moment = asked.settings.moment ∙ same.rest.settings.moment;
        name = asked.settings.name ∙ same.rest.settings.name;
        end = asked.settings.end ∙ same.rest.settings.end;
        opened = asked.settings.opened ∙ same.rest.settings.opened;
      };
    };
    tells = subst (λ (d : D). told.tells mid.site ≡ told.tells d) same.site tells;
    faults = subst (λ (d : D). (counts d).faults ≤ (counts mid.site).faults) same.site faults;
    wants = subst (λ (d : D). (counts d).wants ≤ (counts mid.site).wants) same.site wants;
    run = subst (λ (d : D). Tells told d → PortRun told d mid.site (λ beside. IsPolling (port_now told port lines d) (port beside))) same.site run;
    keeps = subst (λ (d : D). Tells told d → CardsKeep told port lines d mid.site) same.site keeps;
  }

-- what is settled depends on the history and the moment
pub settled_as : {D : Type 0} (by : ℕ) (old mid : LaneValue D) (card : CardId) (push : Push) → mid.journal.entries ≡ old.journal.entries → mid.moment ≡ old.moment
    → settled_by by mid card push ≡ settled_by by old card push
settled_as by old mid card push entries moment =
    ap (λ (l : List Entry). settlements by (max mid.moment (last_moment (reverse l))) (due_by (answer_to_push l card push) (response_by l card push))) entries
    ∙ ap (λ (n : ℕ). settlements by (max n (last_moment (reverse old.journal.entries))) (due_by (answer_to_push old.journal.entries card push) (response_by old.journal.entries card push))) moment

-- the same run of the disk, by equal histories
run_as : {D B C : Type 0} (told : Meaning D B C) (old new : D) (lane lanes lane' lanes' : ℕ) (entries entries' more more' : List Entry) → lane ≡ lane' → lanes ≡ lanes' → entries ≡ entries' → more ≡ more'
    → DiskRun told old new (IsWithBatch lane lanes entries more) → DiskRun told old new (IsWithBatch lane' lanes' entries' more')
run_as told old new lane lanes lane' lanes' entries entries' more more' a b c d run =
    subst (λ (n : ℕ). DiskRun told old new (IsWithBatch n lanes' entries' more')) a
    (subst (λ (n : ℕ). DiskRun told old new (IsWithBatch lane n entries' more')) b
    (subst (λ (l : List Entry). DiskRun told old new (IsWithBatch lane lanes l more')) c
    (subst (λ (l : List Entry). DiskRun told old new (IsWithBatch lane lanes entries l)) d run)))

-- ---- a poll, through its ends

module _ {D B C : Type 0} (told : Meaning D B C) (counts : D → Counts) (port : B → PortState) (lines : C → ℕ → List Line) (opening : Opening)
    (old mid : LaneValue D) (of : IsLane told old) (live : old.is_stale ≡ false) (seen : (d : D) → Tells told d → image_now told d (told.seen d))
    (asked : AskedFrom told counts port lines old mid) (kept : KeptSince told counts port lines opening old) where
  abbrev entries : List Entry
  entries = old.journal.entries

  pub is_history : IsHistory opening.lane opening.lanes entries
  is_history = subst (λ (n : ℕ). IsHistory opening.lane n entries) kept.lanes_are (subst (λ (n : ℕ). IsHistory n old.journal.lanes entries) kept.lane_is of.history)

  at_opening : (image : List ℕ) → Holds old.journal.lane old.journal.lanes entries image → Holds opening.lane opening.lanes entries image
  at_opening image holds = subst (λ (n : ℕ). Holds opening.lane n entries image) kept.lanes_are (subst (λ (n : ℕ). Holds n old.journal.lanes entries image) kept.lane_is holds)

  held_old : Tells told old.site → (image : List ℕ) → image_now told old.site image → Holds opening.lane opening.lanes entries image
  held_old tells image at = at_opening image (ready_holds told old.site old.journal (of.ready live tells) image at)

  pub held_mid : Tells told old.site → (image : List ℕ) → image_now told mid.site image → Holds opening.lane opening.lanes entries image
  held_mid tells image at = held_old tells image ((asked.run tells).images_stand (told.clock mid.site) image (asked.run tells).past.later (omega arith) at)

  pub later_mid : Tells told old.site → opening.clock ≤ told.clock mid.site
  later_mid tells = (let early = (kept.where_told tells).later in let on = (asked.run tells).past.later in omega (arith, early, on))

  asked_mid : (tells : Tells told old.site) → IsFair told counts port lines opening mid.site → KeptAsked told counts port lines opening mid.site entries
  asked_mid tells fair =
      let was = kept.where_told tells in
      let fair_old = fair_before told counts port lines opening old.site mid.site (asked.run tells).past was.later fair in
      kept_asked told counts port lines opening old.site mid.site (asked.run tells) (asked.keeps tells) was.later entries (held_old tells) is_history (seen old.site tells) fair (was.fair fair_old) (was.all live fair_old)

  -- the images stay while the port works
  left_mid : (tells : Tells told old.site) (after : List Entry) → added_since told counts port lines opening entries ++ old.lost ≡ after → AreLeft told counts port lines opening mid.site after
  left_mid tells after is =
      left_still told counts port lines opening old.site mid.site entries old.lost after (asked.run tells).past is kept.entries is_history
      (λ moment image low high at. held_old tells image ((asked.run tells).images_stand moment image low high at)) (kept.where_told tells).left

  since_mid : added_since told counts port lines opening entries ++ old.lost ≡ added_since told counts port lines opening mid.journal.entries ++ mid.lost
  since_mid = ap (λ (l : List Entry). drop (length opening.entries) entries ++ l) (sym asked.lost) ∙ ap (λ (l : List Entry). drop (length opening.entries) l ++ mid.lost) (sym asked.entries)

  -- the cards went on while the port worked
  gone_mid : (tells : Tells told old.site) → IsFair told counts port lines opening mid.site → (after : C) → told.choice_at mid.site (told.clock mid.site) after
      → (start : C) × told.choice_at old.site (told.clock old.site) start
      × ((sent : List Sent) (given : List ℕ) → CardsWentOn (world_of entries (port_now told port lines old.site) (lines start) sent given) sent (cards_of (port_now told port lines mid.site).facts (lines after)) (port_now told port lines mid.site).made)
  gone_mid tells fair after chosen =
      let was = kept.where_told tells in
      let fair_old = was.fair (fair_before told counts port lines opening old.site mid.site (asked.run tells).past was.later fair) in
      port_gone_on told port lines opening.lane opening.lanes opening.clock entries old.site mid.site (λ beside. IsPolling (port_now told port lines old.site) (port beside)) (asked.run tells) (asked.keeps tells) was.later
      (sends told counts port lines opening old.site mid.site (asked.run tells) (asked.keeps tells) was.later entries (held_old tells) is_history (seen old.site tells))
      (held_old tells) is_history (seen old.site tells) fair.unforged (fair_old.sound (told.clock old.site) was.later (omega arith)) after chosen

  pub went_on_asked : Tells told old.site → IsFair told counts port lines opening mid.site → HaveCardsGoneOn told port lines old mid
  went_on_asked tells fair after chosen =
      let gone = gone_mid tells fair after chosen in (
        gone.0,
        gone.1,
        λ sent given.
            subst (λ (l : List Entry). CardsWentOn (world_of l (port_now told port lines old.site) (lines gone.0) sent given) sent (cards_of (port_now told port lines mid.site).facts (lines after)) (port_now told port lines mid.site).made)
            (sym asked.entries) (gone.2 sent given),
      )

  -- after a fault of the port
  pub kept_fault : mid.is_stale ≡ true → HasRisen (counts old.site).faults (counts mid.site).faults ⊎ HasRisen (counts old.site).wants (counts mid.site).wants → KeptSince told counts port lines opening mid
  kept_fault gone risen = record {
    lane_is = asked.rest.lane ∙ kept.lane_is;
    lanes_are = asked.rest.lanes ∙ kept.lanes_are;
    entries = subst (λ (l : List Entry). opening.entries ++ added_since told counts port lines opening l ≡ l) (sym asked.entries) kept.entries;
    faults = (let a = kept.faults in let b = asked.faults in omega (arith, a, b));
    wants = (let a = kept.wants in let b = asked.wants in omega (arith, a, b));
    where_told = λ tells. (
        let told_old : Tells told old.site = subst IsTrue asked.tells tells in
        record {
          later = later_mid told_old;
          heard = λ fresh. absurd (differ mid.is_stale gone fresh);
          few = subst (λ (l : List Entry). length l ≤ 16) (sym asked.lost) (kept.where_told told_old).few;
          stale = λ stale image at. inl (subst (λ (l : List Entry). Holds opening.lane opening.lanes l image) (sym asked.entries) (held_mid told_old image at));
          left = left_mid told_old (added_since told counts port lines opening mid.journal.entries ++ mid.lost) since_mid;
          fair = λ fair. subst (λ (l : List Entry). KeptFair told counts port lines opening mid.site l) (sym asked.entries) (fair_fault (asked_mid told_old fair));
          all = λ fresh fair response due. absurd (differ mid.is_stale gone fresh);
        });
  }
    where
      differ : (b : Bool) → b ≡ true → b ≡ false → ⊥
      differ true is isnt = cc
      differ false is isnt = cc

      since : HasRisen (counts old.site).faults (counts mid.site).faults ⊎ HasRisen (counts old.site).wants (counts mid.site).wants → AreRisen opening.counts (counts mid.site)
      since (inl up) = (let a = kept.faults in inl (record { never_falls = omega (arith, a, up.never_falls); rises = omega (arith, a, up.rises) }))
      since (inr up) = (let a = kept.wants in inr (record { never_falls = omega (arith, a, up.never_falls); rises = omega (arith, a, up.rises) }))

      fair_fault : KeptAsked told counts port lines opening mid.site entries → KeptFair told counts port lines opening mid.site entries
      fair_fault fair = record {
        sound = fair.sound;
        settled = λ response was. ⊎_elim (λ is. inl is) (λ last. inr (last.0, since risen)) (fair.settled response was);
        settlements = fair.settlements;
      }

  -- where the port gave nothing
  pub kept_none : mid.is_stale ≡ false → (Tells told old.site → (port_now told port lines mid.site).given ≡ (port_now told port lines old.site).given) → KeptSince told counts port lines opening mid
  kept_none fresh none = record {
    lane_is = asked.rest.lane ∙ kept.lane_is;
    lanes_are = asked.rest.lanes ∙ kept.lanes_are;
    entries = subst (λ (l : List Entry). opening.entries ++ added_since told counts port lines opening l ≡ l) (sym asked.entries) kept.entries;
    faults = (let a = kept.faults in let b = asked.faults in omega (arith, a, b));
    wants = (let a = kept.wants in let b = asked.wants in omega (arith, a, b));
    where_told = λ tells. (
        let told_old : Tells told old.site = subst IsTrue asked.tells tells in
        let was = kept.where_told told_old in
        let through = asked.run told_old in
        let start : port_at told port lines mid.site opening.clock ≡ port_at told port lines old.site opening.clock = ap port (through.past.beside opening.clock was.later) in
        let all_now : IsFair told counts port lines opening mid.site → (response : Response) → WasDue told counts port lines opening mid.site response → IsSettled entries response =
        λ fair. all_asked told counts port lines opening old.site mid.site through (asked.keeps told_old) was.later entries (held_old told_old) is_history (seen old.site told_old) (none told_old)
        (was.all live (fair_before told counts port lines opening old.site mid.site through.past was.later fair)) in
        record {
          later = later_mid told_old;
          heard = λ is. (
              let heard = was.heard live in (
                heard.0,
                none told_old ∙ heard.1 ∙ sym (ap (λ (p : PortState). p.given ++ heard.0) start),
                keeps_as (past_of heard.0) old.heard.pieces mid.heard.pieces asked.kept heard.2,
              ));
          few = subst (λ (l : List Entry). length l ≤ 16) (sym asked.lost) was.few;
          stale = λ gone. absurd (differ mid.is_stale gone fresh);
          left = left_mid told_old (added_since told counts port lines opening mid.journal.entries ++ mid.lost) since_mid;
          fair = λ fair. subst (λ (l : List Entry). KeptFair told counts port lines opening mid.site l) (sym asked.entries) (fair_none (asked_mid told_old fair) (all_now fair));
          all = λ is fair response due. subst (λ (l : List Entry). IsSettled l response) (sym asked.entries) (all_now fair response due);
        });
  }
    where
      differ : (b : Bool) → b ≡ true → b ≡ false → ⊥
      differ true is isnt = cc
      differ false is isnt = cc

      fair_none : KeptAsked told counts port lines opening mid.site entries → ((response : Response) → WasDue told counts port lines opening mid.site response → IsSettled entries response)
          → KeptFair told counts port lines opening mid.site entries
      fair_none fair all = record { sound = fair.sound; settled = λ response was. inl (all response was); settlements = fair.settlements }

  -- where it gave a message, which was taken
  module _ (new : LaneValue D) (by : ℕ) (message : CardId × List ℕ) (result : Result Poll LaneErr) (fresh : mid.is_stale ≡ false) (heard : IsHeard told mid new by message result)
      (given : Tells told old.site → (port_now told port lines mid.site).given ≡ (port_now told port lines old.site).given ++ message ∷ []) (tells_new : told.tells new.site ≡ told.tells mid.site)
      (faults : (counts mid.site).faults ≤ (counts new.site).faults) (wants : (counts mid.site).wants ≤ (counts new.site).wants) where
    told_mid : Tells told old.site → Tells told mid.site
    told_mid tells = subst IsTrue (sym asked.tells) tells

    abbrev settles : List Entry
    settles = settled_by by old message.0 heard.push

    settles_same : settled_by by mid message.0 heard.push ≡ settles
    settles_same = settled_as by old mid message.0 heard.push asked.entries asked.rest.settings.moment

    module _ (tells : Tells told old.site) where
      abbrev messages : List (CardId × List ℕ)
      messages = ((kept.where_told tells).heard live).0

      keeps_mid : Keeps RESPONSE (past_of messages) mid.heard.pieces
      keeps_mid = keeps_as (past_of messages) old.heard.pieces mid.heard.pieces asked.kept ((kept.where_told tells).heard live).2

      given_mid : AreGiven told counts port lines opening mid.site (told.clock mid.site) (messages ++ message ∷ [])
      given_mid =
          let was = kept.where_told tells in
          let start : port_at told port lines mid.site opening.clock ≡ port_at told port lines old.site opening.clock = ap port ((asked.run tells).past.beside opening.clock was.later) in
          given tells ∙ ap (λ (l : List (CardId × List ℕ)). l ++ message ∷ []) (was.heard live).1
          ∙ append_assoc (port_at told port lines old.site opening.clock).given messages (message ∷ [])
          ∙ sym (ap (λ (p : PortState). p.given ++ (messages ++ message ∷ [])) start)

      -- what is settled is what is due
      is_batch : settles ≡ batch told counts port lines opening mid.site new.site entries by (moment_for old) messages message
      is_batch = ap (λ (p : Push). settled_by by old message.0 p) (heard.makes (past_of messages) keeps_mid)

      run_new : DiskRun told mid.site new.site (IsWithBatch opening.lane opening.lanes entries (batch told counts port lines opening mid.site new.site entries by (moment_for old) messages message))
      run_new = run_as told mid.site new.site mid.journal.lane mid.journal.lanes opening.lane opening.lanes mid.journal.entries entries (settled_by by mid message.0 heard.push)
          (batch told counts port lines opening mid.site new.site entries by (moment_for old) messages message)
          (asked.rest.lane ∙ kept.lane_is) (asked.rest.lanes ∙ kept.lanes_are) asked.entries (settles_same ∙ is_batch) (heard.run (told_mid tells))

      run_later : opening.clock ≤ told.clock new.site
      run_later = (let early = later_mid tells in let on = run_new.past.later in omega (arith, early, on))

      not_earlier : last_moment (reverse entries) ≤ moment_for old
      not_earlier = le-max_right old.moment (last_moment (reverse entries))

      more_history : IsHistory opening.lane opening.lanes (entries ++ batch told counts port lines opening mid.site new.site entries by (moment_for old) messages message)
      more_history = settled_history opening.lane opening.lanes entries message.0 (answer_to RESPONSE (past_of messages) (message_of message)) by (moment_for old) is_history not_earlier
          (due_in entries (past_of messages) (message_of message)) refl (subst (λ (l : List Entry). All IsEntry l) (settles_same ∙ is_batch) heard.fits)

      during_new : (fair : IsFair told counts port lines opening mid.site)
          → AreSoundIn told counts port lines opening mid.site new.site (IsWithBatch opening.lane opening.lanes entries (batch told counts port lines opening mid.site new.site entries by (moment_for old) messages message)) run_new (later_mid tells)
      during_new fair = sound_heard told counts port lines opening mid.site new.site entries by (moment_for old) messages message run_new (later_mid tells) given_mid (asked_mid tells fair) is_history (held_mid tells) (seen mid.site (told_mid tells))
          more_history not_earlier fair

      fair_mid : IsFair told counts port lines opening new.site → IsFair told counts port lines opening mid.site
      fair_mid fair = fair_before told counts port lines opening mid.site new.site run_new.past (later_mid tells) fair

      given_new : AreGiven told counts port lines opening new.site (told.clock new.site) (messages ++ message ∷ [])
      given_new = given_on told counts port lines opening mid.site new.site run_new.past (later_mid tells)
          (given_stands told counts port lines opening mid.site new.site (IsWithBatch opening.lane opening.lanes entries (batch told counts port lines opening mid.site new.site entries by (moment_for old) messages message)) run_new (later_mid tells))
          (messages ++ message ∷ []) given_mid

      keeps_new : Keeps RESPONSE (past_of (messages ++ message ∷ [])) new.heard.pieces
      keeps_new = subst (λ (past : List OfCard). Keeps RESPONSE past new.heard.pieces) (sym (past_of-push messages message)) (heard.keeps (past_of messages) keeps_mid)

      -- a stop leaves the history as it was, or with what is settled
      left_new : (after : List Entry) → added_since told counts port lines opening entries ++ settles ≡ after → AreLeft told counts port lines opening new.site after
      left_new after is =
          let since = added_since told counts port lines opening entries in
          let due = batch told counts port lines opening mid.site new.site entries by (moment_for old) messages message in
          left_on told counts port lines opening mid.site new.site (since ++ old.lost) settles after run_new.past
          (ap (λ (l : List Entry). (since ++ l) ++ settles) (of.whole live) ∙ ap (λ (l : List Entry). l ++ settles) (append-nil since) ∙ is) (left_mid tells (since ++ old.lost) refl)
          (λ moment image history low high at stands.
          subst (λ (l : List Entry). IsWithFirst told counts port lines opening history l) (ap (λ (l : List Entry). since ++ l) (sym is_batch) ∙ is)
          (⊎_elim
          (λ held. held_first told counts port lines opening entries due image history kept.entries is_history held stands)
          (λ held. held_more told counts port lines opening entries due image history kept.entries more_history held stands)
          (run_new.each moment image low high at)))

      -- with the settlement
      told_heard : new.journal.entries ≡ entries ++ settles → new.lost ≡ mid.lost → new.is_stale ≡ false
          → KeptTold told counts port lines opening new.site new.journal.entries new.lost new.is_stale new.heard.pieces
      told_heard is lost live_new =
          let same : new.journal.entries ≡ entries ++ batch told counts port lines opening mid.site new.site entries by (moment_for old) messages message = is ∙ ap (λ (l : List Entry). entries ++ l) is_batch in
          record {
            later = run_later;
            heard = λ still. (messages ++ message ∷ [], given_new, keeps_new);
            few = subst (λ (l : List Entry). length l ≤ 16) (sym (lost ∙ asked.lost)) (kept.where_told tells).few;
            stale = λ gone. absurd (differ new.is_stale gone live_new);
            left = left_new (added_since told counts port lines opening new.journal.entries ++ new.lost)
                (sym (drop-append-le (length opening.entries) entries settles (no_shorter told counts port lines opening entries kept.entries))
                ∙ sym (append-nil (drop (length opening.entries) (entries ++ settles)))
                ∙ ap (λ (l : List Entry). drop (length opening.entries) (entries ++ settles) ++ l) (sym (lost ∙ asked.lost ∙ of.whole live))
                ∙ ap (λ (l : List Entry). drop (length opening.entries) l ++ new.lost) (sym is));
            fair = λ fair. subst (λ (l : List Entry). KeptFair told counts port lines opening new.site l) (sym same)
                (fair_heard told counts port lines opening mid.site new.site entries by (moment_for old) messages message run_new (later_mid tells) given_mid (asked_mid tells (fair_mid fair))
                (no_shorter told counts port lines opening entries kept.entries) (during_new (fair_mid fair)));
            all = λ still fair response due. subst (λ (l : List Entry). IsSettled l response) (sym same)
                (all_heard told counts port lines opening mid.site new.site entries by (moment_for old) messages message run_new (later_mid tells) given_mid (asked_mid tells (fair_mid fair)) response due);
          }
        where
          differ : (b : Bool) → b ≡ true → b ≡ false → ⊥
          differ true is isnt = cc
          differ false is isnt = cc

      -- after a fault of the journal
      told_stopped : new.journal.entries ≡ entries → new.lost ≡ settled_by by mid message.0 heard.push → new.is_stale ≡ true → AreRisen opening.counts (counts new.site)
          → KeptTold told counts port lines opening new.site new.journal.entries new.lost new.is_stale new.heard.pieces
      told_stopped is lost gone risen = record {
        later = run_later;
        heard = λ still. absurd (differ new.is_stale gone still);
        few = subst (λ (l : List Entry). length l ≤ 16) (sym lost) (few (moment_for mid) (due_by (answer_to_push mid.journal.entries message.0 heard.push) (response_by mid.journal.entries message.0 heard.push)));
        stale = λ is_gone image at. ⊎_elim
            (λ holds. inl (subst (λ (l : List Entry). Holds opening.lane opening.lanes l image) (sym is) holds))
            (λ holds. inr (
            subst (λ (l : List Entry). Holds opening.lane opening.lanes (l ++ new.lost) image) (sym is)
            (subst (λ (l : List Entry). Holds opening.lane opening.lanes (entries ++ l) image) (sym (lost ∙ settles_same ∙ is_batch)) holds)))
            (run_new.each (told.clock new.site) image run_new.past.later (omega arith) at);
        left = left_new (added_since told counts port lines opening new.journal.entries ++ new.lost)
            (ap (λ (l : List Entry). drop (length opening.entries) entries ++ l) (sym (lost ∙ settles_same)) ∙ ap (λ (l : List Entry). drop (length opening.entries) l ++ new.lost) (sym is));
        fair = λ fair. subst (λ (l : List Entry). KeptFair told counts port lines opening new.site l) (sym is)
            (fair_stopped told counts port lines opening mid.site new.site entries by (moment_for old) messages message run_new (later_mid tells) given_mid (asked_mid tells (fair_mid fair)) risen (during_new (fair_mid fair)));
        all = λ still. absurd (differ new.is_stale gone still);
      }
        where
          differ : (b : Bool) → b ≡ true → b ≡ false → ⊥
          differ true is isnt = cc
          differ false is isnt = cc

          few : (moment : ℕ) (o : Option Response) → length (settlements by moment o) ≤ 16
          few moment None = omega arith
          few moment (Some response) = omega arith

    entries_since : (more : List Entry) → new.journal.entries ≡ entries ++ more → opening.entries ++ added_since told counts port lines opening new.journal.entries ≡ new.journal.entries
    entries_since more is =
        subst (λ (l : List Entry). opening.entries ++ added_since told counts port lines opening l ≡ l) (sym is)
        (ap (λ (l : List Entry). opening.entries ++ l) (drop-append-le (length opening.entries) entries more (no_shorter told counts port lines opening entries kept.entries))
        ∙ sym (append_assoc opening.entries (drop (length opening.entries) entries) more)
        ∙ ap (λ (l : List Entry). l ++ more) kept.entries)

    faults_since : opening.counts.faults ≤ (counts new.site).faults
    faults_since = (let a = kept.faults in let b = asked.faults in omega (arith, a, b, faults))

    wants_since : opening.counts.wants ≤ (counts new.site).wants
    wants_since = (let a = kept.wants in let b = asked.wants in omega (arith, a, b, wants))

    told_before : Tells told new.site → Tells told old.site
    told_before tells = subst IsTrue (tells_new ∙ asked.tells) tells

    pub kept_heard : new.journal.entries ≡ entries ++ settles → new.lost ≡ mid.lost → new.is_stale ≡ false → KeptSince told counts port lines opening new
    kept_heard is lost live_new = record {
      lane_is = heard.rest.lane ∙ asked.rest.lane ∙ kept.lane_is;
      lanes_are = heard.rest.lanes ∙ asked.rest.lanes ∙ kept.lanes_are;
      entries = entries_since settles is;
      faults = faults_since;
      wants = wants_since;
      where_told = λ tells. told_heard (told_before tells) is lost live_new;
    }

    pub kept_stopped : new.journal.entries ≡ entries → new.lost ≡ settled_by by mid message.0 heard.push → new.is_stale ≡ true → HasRisen (counts mid.site).faults (counts new.site).faults ⊎ HasRisen (counts mid.site).wants (counts new.site).wants → KeptSince told counts port lines opening new
    kept_stopped is lost gone risen = record {
      lane_is = heard.rest.lane ∙ asked.rest.lane ∙ kept.lane_is;
      lanes_are = heard.rest.lanes ∙ asked.rest.lanes ∙ kept.lanes_are;
      entries = entries_since [] (is ∙ sym (append-nil entries));
      faults = faults_since;
      wants = wants_since;
      where_told = λ tells. told_stopped (told_before tells) is lost gone (since risen);
    }
      where
        since : HasRisen (counts mid.site).faults (counts new.site).faults ⊎ HasRisen (counts mid.site).wants (counts new.site).wants → AreRisen opening.counts (counts new.site)
        since (inl up) = (let a = kept.faults in let b = asked.faults in inl (record { never_falls = omega (arith, a, b, up.never_falls); rises = omega (arith, a, b, up.rises) }))
        since (inr up) = (let a = kept.wants in let b = asked.wants in inr (record { never_falls = omega (arith, a, b, up.never_falls); rises = omega (arith, a, b, up.rises) }))

    -- the events of it
    pub went_on_heard : (tells : Tells told old.site) → IsFair told counts port lines opening new.site → (added : List Entry) → new.journal.entries ≡ entries ++ added → HaveCardsGoneOn told port lines old new
    went_on_heard tells fair added is after chosen =
        let run = run_new tells in
        let gone = gone_mid tells (fair_mid tells fair) after (run.choices_stand (told.clock new.site) after run.past.later (omega arith) chosen) in (
          gone.0,
          gone.1,
          λ sent given.
              subst (λ (l : List Entry). CardsWentOn (world_of l (port_now told port lines old.site) (lines gone.0) sent given) sent (cards_of (port_now told port lines new.site).facts (lines after)) (port_now told port lines new.site).made) (sym is)
              (subst (λ (p : PortState). CardsWentOn (world_of (entries ++ added) (port_now told port lines old.site) (lines gone.0) sent given) sent (cards_of p.facts (lines after)) p.made)
              (sym (ap port (run.stands (told.clock new.site) run.past.later (omega arith))))
              (went_on_more entries added (port_now told port lines old.site) (lines gone.0) sent given (cards_of (port_now told port lines mid.site).facts (lines after)) (port_now told port lines mid.site).made (gone.2 sent given))),
        )

    module _ (tells : Tells told old.site) (choice : HasChoice told port lines mid.site (told.clock mid.site)) (fair : IsFair told counts port lines opening new.site) where
      was_made : (response : Response) → response_by entries message.0 heard.push ≡ Some response → In (made_as message.0 response) (port_now told port lines mid.site).made
      was_made response says =
          let said = said_by entries message.0 heard.push response says in
          made_given told counts port lines opening mid.site entries (later_mid tells) is_history (held_mid tells) (seen mid.site (told_mid tells)) (messages tells) message (given_mid tells) (fair_mid tells fair) said.0
          (sym (heard.makes (past_of (messages tells)) (keeps_mid tells)) ∙ said.1) said.2.0 response said.2.1

      state_mid : IsSoundState opening.lane opening.lanes (told.seen mid.site) (port_now told port lines mid.site) (lines choice.0)
      state_mid = (asked_mid tells (fair_mid tells fair)).sound (told.clock mid.site) (later_mid tells) (omega arith) (told.seen mid.site) choice.0 (seen mid.site (told_mid tells)) choice.1

      world_mid : IsSound (world_of entries (port_now told port lines mid.site) (lines choice.0) state_mid.sent [])
      world_mid = subst (λ (l : List Entry). IsSound (world_of l (port_now told port lines mid.site) (lines choice.0) state_mid.sent []))
          (stands_as opening.lane opening.lanes state_mid.history entries (told.seen mid.site) state_mid.stands is_history (held_mid tells (told.seen mid.site) (seen mid.site (told_mid tells)))) state_mid.world

      gives : GivesAndSettles entries (port_now told port lines mid.site) message.0 (response_by entries message.0 heard.push) (due_by (answer_to_push entries message.0 heard.push) (response_by entries message.0 heard.push)) by (moment_for old)
      gives = gives_and_settles entries (port_now told port lines mid.site) message.0 heard.push by (moment_for old) (not_earlier tells) was_made (lines choice.0) state_mid.sent world_mid

      gives_new : (past : List OfCard) → Keeps RESPONSE past old.heard.pieces
          → GivesAndSettles entries (port_now told port lines new.site) message.0 (response_in entries past (message_of message)) (due_in entries past (message_of message)) by (moment_for old)
      gives_new past keeps =
          let run = run_new tells in
          subst (λ (p : PortState). GivesAndSettles entries p message.0 (response_in entries past (message_of message)) (due_in entries past (message_of message)) by (moment_for old))
          (sym (ap port (run.stands (told.clock new.site) run.past.later (omega arith))))
          (subst (λ (p : Push). GivesAndSettles entries (port_now told port lines mid.site) message.0 (response_by entries message.0 p) (due_by (answer_to_push entries message.0 p) (response_by entries message.0 p)) by (moment_for old))
          (heard.makes past (keeps_as past old.heard.pieces mid.heard.pieces asked.kept keeps)) gives)

      run_heard : new.journal.entries ≡ entries ++ settles → (past : List OfCard) → Keeps RESPONSE past old.heard.pieces → IsPollingRun told port lines old new by past message
      run_heard is past keeps =
          let found = gives_new past keeps in
          record {
            positions = found.positions;
            given = found.given;
            runs = λ chosen sent before.
                subst (λ (l : List Entry). Runs (world_of entries (port_now told port lines new.site) chosen sent before) (map giving found.positions ++ settling_events (settlements by (moment_for old) (due_in entries past (message_of message))))
                (world_of l (port_now told port lines new.site) chosen sent (before ++ found.positions)))
                (ap (λ (p : Push). entries ++ settled_by by old message.0 p) (sym (heard.makes past (keeps_as past old.heard.pieces mid.heard.pieces asked.kept keeps))) ∙ sym is)
                (found.runs chosen sent before);
          }

      -- the message is the one that the port gave
      pub events_heard : new.journal.entries ≡ entries ++ settles → (past : List OfCard) → Keeps RESPONSE past old.heard.pieces → (other : CardId × List ℕ)
          → (port_now told port lines new.site).given ≡ (port_now told port lines old.site).given ++ other ∷ [] → IsPollingRun told port lines old new by past other
      events_heard is past keeps other also =
          let run = run_new tells in
          let same : (port_now told port lines new.site).given ≡ (port_now told port lines mid.site).given = ap (λ b. (port b).given) (run.stands (told.clock new.site) run.past.later (omega arith)) in
          subst (λ (m : CardId × List ℕ). IsPollingRun told port lines old new by past m) (same_last (port_now told port lines old.site).given message other (sym (given tells) ∙ sym same ∙ also)) (run_heard is past keeps)

      run_stopped : new.lost ≡ settled_by by mid message.0 heard.push → 1 ≤ length (settled_by by mid message.0 heard.push) → (past : List OfCard) → Keeps RESPONSE past old.heard.pieces
          → IsStoppedRun told port lines old new by past message
      run_stopped lost some past keeps =
          let found = gives_new past keeps in
          let due : settled_by by mid message.0 heard.push ≡ settlements by (moment_for old) (due_in entries past (message_of message)) =
          settles_same ∙ ap (λ (p : Push). settled_by by old message.0 p) (heard.makes past (keeps_as past old.heard.pieces mid.heard.pieces asked.kept keeps)) in
          record {
            positions = found.positions;
            given = found.given;
            runs = λ chosen sent before.
                subst (λ (l : List Entry). Runs (world_of entries (port_now told port lines new.site) chosen sent before) (map giving found.positions ++ Begin l ∷ [])
                (record (world_of entries (port_now told port lines new.site) chosen sent (before ++ found.positions)) { batch = Some l })) (sym (lost ∙ due))
                (found.begins (subst (λ (l : List Entry). 1 ≤ length l) due some) chosen sent before);
          }

      pub events_stopped : new.lost ≡ settled_by by mid message.0 heard.push → 1 ≤ length (settled_by by mid message.0 heard.push) → (past : List OfCard) → Keeps RESPONSE past old.heard.pieces
          → (other : CardId × List ℕ) → (port_now told port lines new.site).given ≡ (port_now told port lines old.site).given ++ other ∷ [] → IsStoppedRun told port lines old new by past other
      events_stopped lost some past keeps other also =
          let run = run_new tells in
          let same : (port_now told port lines new.site).given ≡ (port_now told port lines mid.site).given = ap (λ b. (port b).given) (run.stands (told.clock new.site) run.past.later (omega arith)) in
          subst (λ (m : CardId × List ℕ). IsStoppedRun told port lines old new by past m) (same_last (port_now told port lines old.site).given message other (sym (given tells) ∙ sym same ∙ also)) (run_stopped lost some past keeps)
