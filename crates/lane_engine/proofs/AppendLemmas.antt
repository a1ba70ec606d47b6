-- What a lane keeps through a call of its journal.
use Rattle.std.proofs.Common.{◌≡◌, ◌⊎◌, inl, inr, ℕ, ◌+◌, ◌≤◌, IsTrue, Bool, false, true, Option, None, Ok, List, [], ◌∷◌, ◌++◌, length, drop, reverse, All, refl, sym, ◌∙◌, ap, subst, arith, append-nil, append_assoc, length-append, ⊎_elim, ◌<◌}
use Rattle.std.specs.List.{list_any, list_all}
use Rattle.std.proofs.lemmas.List.{drop-append-le}
use Rattle.disk_model.specs.Counts.{Counts}
use Rattle.disk_model.specs.Disk.{Meaning, Tells, DiskRun, PastStands, image_now}
use Rattle.ota_core.specs.History.{broken_batch}
use Rattle.ota_core.specs.declared.entries.Entry.{Entry}
use Rattle.counter_journal.specs.EntryRanges.{IsEntry, IsHistory, IsOfLane}
use Rattle.counter_journal.specs.JournalReading.{Holds, JournalValue, IsSameJournal, parts_for}
use Rattle.counter_journal.specs.StandingLaws.{ready_holds}
use Rattle.sms_segments.specs.Kept.{Keeps, Kept, Pile}
use Rattle.site_model.specs.Port.{PortState}
use Rattle.site_model.specs.Cards.{port_at, port_now}
use Rattle.world_core.specs.declared.lines.Line.{Line}
use Rattle.gate_log.specs.Opening.{LIMIT, need_of}
use Rattle.world_core.specs.Condition.{is_answered}
use Rattle.world_core.specs.Run.{Runs}
use Rattle.world_core.specs.declared.events.Event.TheVariants.{Begin, Seal}
use Rattle.world_core.specs.declared.segments.Sent.{Sent}
use Rattle.lane_engine.specs.World.{world_of}
use Rattle.lane_engine.specs.Adding.{Fits, IsFull, IsAddingRun, adding_events, is_settlement}
use Rattle.lane_engine.specs.Kept.{KeptSince, KeptFair, IsFair, IsSettled, IsWithFirst, added_since}
use Rattle.lane_engine.specs.Opening.{Opening}
use Rattle.lane_engine.specs.LaneValue.{LaneValue, IsLane, IsSameHearing}
use Rattle.lane_engine.specs.Receipts.{RESPONSE, past_of}
use Rattle.lane_engine.specs.Sound.{IsSoundState}
use Rattle.lane_engine.specs.declared.answers.LaneErr.{LaneErr}
use Rattle.lane_engine.proofs.KeptLemmas.{given_on, fair_before, fair_on, given_stands, sound_in, AreSoundIn, all_on, SoundIn}
use Rattle.lane_engine.proofs.AddingLemmas.{batch_runs, history_more, state_held, state_added}
use Rattle.lane_engine.proofs.LeftLemmas.{AreLeft, held_first, held_more, left_on}

-- a history that begins with another is no shorter
pub no_shorter : {D B C : Type 0} (told : Meaning D B C) (counts : D → Counts) (port : B → PortState) (lines : C → ℕ → List Line) (opening : Opening) (entries : List Entry)
    → opening.entries ++ added_since told counts port lines opening entries ≡ entries → length opening.entries ≤ length entries
no_shorter told counts port lines opening entries is =
    let counted = sym (ap (λ (l : List Entry). length l) is) ∙ length-append opening.entries (drop (length opening.entries) entries) in omega (arith, counted)

-- a lane that adds no settlement, in calls in which nothing is given
module _ {D B C : Type 0} (told : Meaning D B C) (counts : D → Counts) (port : B → PortState) (lines : C → ℕ → List Line) (opening : Opening)
    (old new : LaneValue D) (kept : KeptSince told counts port lines opening old) (live : old.is_stale ≡ false)
    (added : List Entry) (is : new.journal.entries ≡ old.journal.entries ++ added) (none : list_any is_settlement added ≡ false) (rest : IsSameHearing old new)
    (same : told.tells new.site ≡ told.tells old.site) (faults : (counts old.site).faults ≤ (counts new.site).faults) (wants : (counts old.site).wants ≤ (counts new.site).wants)
    (past : Tells told old.site → PastStands told old.site new.site)
    (still : Tells told old.site → (k : ℕ) → told.clock old.site ≤ k → k ≤ told.clock new.site → (port_at told port lines new.site k).given ≡ (port_now told port lines old.site).given)
    (during : (tells : Tells told old.site) → IsFair told counts port lines opening new.site → KeptFair told counts port lines opening old.site old.journal.entries
    → SoundIn told counts port lines opening old.site new.site (past tells) (kept.where_told tells).later)
    (stale : Tells told old.site → new.is_stale ≡ true → (image : List ℕ) → image_now told new.site image → Holds opening.lane opening.lanes new.journal.entries image ⊎ Holds opening.lane opening.lanes (new.journal.entries ++ new.lost) image)
    (most : Tells told old.site → length new.lost ≤ 16)
    (left : Tells told old.site → AreLeft told counts port lines opening new.site (added_since told counts port lines opening new.journal.entries ++ new.lost)) where
  pub kept_calls : KeptSince told counts port lines opening new
  kept_calls =
      let long = no_shorter told counts port lines opening old.journal.entries kept.entries in
      record {
        lane_is = rest.lane ∙ kept.lane_is;
        lanes_are = rest.lanes ∙ kept.lanes_are;
        entries = subst (λ (l : List Entry). opening.entries ++ added_since told counts port lines opening l ≡ l) (sym is)
            (ap (λ (l : List Entry). opening.entries ++ l) (drop-append-le (length opening.entries) old.journal.entries added long)
            ∙ sym (append_assoc opening.entries (drop (length opening.entries) old.journal.entries) added)
            ∙ ap (λ (l : List Entry). l ++ added) kept.entries);
        faults = (let before = kept.faults in omega (arith, before, faults));
        wants = (let before = kept.wants in omega (arith, before, wants));
        where_told = λ tells. (
            let before : Tells told old.site = subst IsTrue same tells in
            let was = kept.where_told before in
            let through = past before in
            record {
              later = (let early = was.later in let on = through.later in omega (arith, early, on));
              heard = λ fresh. (
                  let heard = was.heard live in (
                    heard.0,
                    given_on told counts port lines opening old.site new.site through was.later (still before) heard.0 heard.1,
                    subst (λ (p : Pile). Keeps RESPONSE (past_of heard.0) p) (sym rest.pieces) heard.2,
                  ));
              few = most before;
              stale = stale before;
              left = left before;
              fair = λ fair. (
                  let fair_then = was.fair (fair_before told counts port lines opening old.site new.site through was.later fair) in
                  subst (λ (l : List Entry). KeptFair told counts port lines opening new.site l) (sym is)
                  (fair_on told counts port lines opening old.site new.site through was.later (still before) old.journal.entries added none long faults wants fair_then (during before fair fair_then)));
              all = λ fresh fair response due.
                  subst (λ (l : List Entry). IsSettled l response) (sym is)
                  (all_on told counts port lines opening old.site new.site through was.later (still before) old.journal.entries added
                  (was.all live (fair_before told counts port lines opening old.site new.site through was.later fair)) response due);
            });
      }

module _ {D B C : Type 0} (told : Meaning D B C) (counts : D → Counts) (port : B → PortState) (lines : C → ℕ → List Line) (opening : Opening)
    (old new : LaneValue D) (P : List ℕ → Type 0) (kept : KeptSince told counts port lines opening old) (live : old.is_stale ≡ false)
    (added : List Entry) (is : new.journal.entries ≡ old.journal.entries ++ added) (none : list_any is_settlement added ≡ false) (rest : IsSameHearing old new)
    (same : told.tells new.site ≡ told.tells old.site) (faults : (counts old.site).faults ≤ (counts new.site).faults) (wants : (counts old.site).wants ≤ (counts new.site).wants)
    (run : Tells told old.site → DiskRun told old.site new.site P)
    (during : (tells : Tells told old.site) → KeptFair told counts port lines opening old.site old.journal.entries
    → AreSoundIn told counts port lines opening old.site new.site P (run tells) (kept.where_told tells).later)
    (stale : Tells told old.site → new.is_stale ≡ true → (image : List ℕ) → P image → Holds opening.lane opening.lanes new.journal.entries image ⊎ Holds opening.lane opening.lanes (new.journal.entries ++ new.lost) image)
    (most : Tells told old.site → length new.lost ≤ 16)
    (left : Tells told old.site → AreLeft told counts port lines opening new.site (added_since told counts port lines opening new.journal.entries ++ new.lost)) where
  pub kept_disk : KeptSince told counts port lines opening new
  kept_disk =
      kept_calls told counts port lines opening old new kept live added is none rest same faults wants (λ tells. (run tells).past)
      (λ tells. given_stands told counts port lines opening old.site new.site P (run tells) (kept.where_told tells).later)
      (λ tells fair fair_then. sound_in told counts port lines opening old.site new.site P (run tells) (kept.where_told tells).later (during tells fair_then))
      (λ tells gone image at. stale tells gone image ((run tells).each (told.clock new.site) image (run tells).past.later (omega arith) at)) most left

-- the images of an addition
abbrev pub IsWithBatch : (lane lanes : ℕ) → List Entry → List Entry → List ℕ → Type 0
IsWithBatch lane lanes entries batch image = Holds lane lanes entries image ⊎ Holds lane lanes (entries ++ batch) image

module _ {D B C : Type 0} (told : Meaning D B C) (counts : D → Counts) (port : B → PortState) (lines : C → ℕ → List Line) (opening : Opening)
    (old new : LaneValue D) (batch : List Entry) (kept : KeptSince told counts port lines opening old) (of : IsLane told old) (live : old.is_stale ≡ false)
    (seen : Tells told old.site → image_now told old.site (told.seen old.site)) (few : length batch ≤ 16)
    (legal : broken_batch (reverse old.journal.entries) batch ≡ None) (fit : All IsEntry batch) (of_lane : All (IsOfLane old.journal.lane old.journal.lanes) batch)
    (none : list_any is_settlement batch ≡ false)
    (same : told.tells new.site ≡ told.tells old.site) (faults : (counts old.site).faults ≤ (counts new.site).faults) (wants : (counts old.site).wants ≤ (counts new.site).wants)
    (run : Tells told old.site → DiskRun told old.site new.site (IsWithBatch old.journal.lane old.journal.lanes old.journal.entries batch)) where
  at_opening : (lane lanes : ℕ) (entries : List Entry) (image : List ℕ) → lane ≡ opening.lane → lanes ≡ opening.lanes → Holds lane lanes entries image → Holds opening.lane opening.lanes entries image
  at_opening lane lanes entries image a b holds = subst (λ (n : ℕ). Holds opening.lane n entries image) b (subst (λ (n : ℕ). Holds n lanes entries image) a holds)

  is_history : IsHistory opening.lane opening.lanes old.journal.entries
  is_history = subst (λ (n : ℕ). IsHistory opening.lane n old.journal.entries) kept.lanes_are (subst (λ (n : ℕ). IsHistory n old.journal.lanes old.journal.entries) kept.lane_is of.history)

  is_more : IsHistory opening.lane opening.lanes (old.journal.entries ++ batch)
  is_more = subst (λ (n : ℕ). IsHistory opening.lane n (old.journal.entries ++ batch)) kept.lanes_are
      (subst (λ (n : ℕ). IsHistory n old.journal.lanes (old.journal.entries ++ batch)) kept.lane_is
      (history_more old.journal.lane old.journal.lanes old.journal.entries batch of.history legal fit of_lane))

  during_add : (tells : Tells told old.site) → KeptFair told counts port lines opening old.site old.journal.entries
      → AreSoundIn told counts port lines opening old.site new.site (IsWithBatch old.journal.lane old.journal.lanes old.journal.entries batch) (run tells) (kept.where_told tells).later
  during_add tells fair image choice p chosen =
      let holds : Holds opening.lane opening.lanes old.journal.entries (told.seen old.site) =
      at_opening old.journal.lane old.journal.lanes old.journal.entries (told.seen old.site) kept.lane_is kept.lanes_are
      (ready_holds told old.site old.journal (of.ready live tells) (told.seen old.site) (seen tells)) in
      let sound : IsSoundState opening.lane opening.lanes (told.seen old.site) (port_now told port lines old.site) (lines choice) =
      fair.sound (told.clock old.site) (kept.where_told tells).later (omega arith) (told.seen old.site) choice (seen tells) chosen in
      ⊎_elim
      (λ held. state_held opening.lane opening.lanes old.journal.entries (told.seen old.site) image (port_now told port lines old.site) (lines choice) is_history holds sound
      (at_opening old.journal.lane old.journal.lanes old.journal.entries image kept.lane_is kept.lanes_are held))
      (λ held. state_added opening.lane opening.lanes old.journal.entries batch (told.seen old.site) image (port_now told port lines old.site) (lines choice) is_history holds legal is_more none sound
      (at_opening old.journal.lane old.journal.lanes (old.journal.entries ++ batch) image kept.lane_is kept.lanes_are held)) p

  -- a stop leaves the history as it was, or with the batch
  left_add : (after : List Entry) → added_since told counts port lines opening old.journal.entries ++ batch ≡ after → Tells told old.site → AreLeft told counts port lines opening new.site after
  left_add after is tells =
      let since = added_since told counts port lines opening old.journal.entries in
      left_on told counts port lines opening old.site new.site (since ++ old.lost) batch after (run tells).past
      (ap (λ (l : List Entry). (since ++ l) ++ batch) (of.whole live) ∙ ap (λ (l : List Entry). l ++ batch) (append-nil since) ∙ is) (kept.where_told tells).left
      (λ moment image history low high at stands.
      subst (λ (l : List Entry). IsWithFirst told counts port lines opening history l) is
      (⊎_elim
      (λ held. held_first told counts port lines opening old.journal.entries batch image history kept.entries is_history
      (at_opening old.journal.lane old.journal.lanes old.journal.entries image kept.lane_is kept.lanes_are held) stands)
      (λ held. held_more told counts port lines opening old.journal.entries batch image history kept.entries is_more
      (at_opening old.journal.lane old.journal.lanes (old.journal.entries ++ batch) image kept.lane_is kept.lanes_are held) stands)
      ((run tells).each moment image low high at)))

  pub kept_added : new.journal.entries ≡ old.journal.entries ++ batch → new.lost ≡ old.lost → IsSameHearing old new → new.is_stale ≡ false → KeptSince told counts port lines opening new
  kept_added is lost rest fresh =
      kept_disk told counts port lines opening old new (IsWithBatch old.journal.lane old.journal.lanes old.journal.entries batch) kept live batch is none rest same faults wants run during_add
      (λ tells gone. absurd (differ new.is_stale gone fresh)) (λ tells. subst (λ (l : List Entry). length l ≤ 16) (sym (lost ∙ of.whole live)) (omega arith))
      (left_add (added_since told counts port lines opening new.journal.entries ++ new.lost)
      (sym (drop-append-le (length opening.entries) old.journal.entries batch (no_shorter told counts port lines opening old.journal.entries kept.entries))
      ∙ sym (append-nil (drop (length opening.entries) (old.journal.entries ++ batch)))
      ∙ ap (λ (l : List Entry). drop (length opening.entries) (old.journal.entries ++ batch) ++ l) (sym (lost ∙ of.whole live))
      ∙ ap (λ (l : List Entry). drop (length opening.entries) l ++ new.lost) (sym is)))
    where
      differ : (b : Bool) → b ≡ true → b ≡ false → ⊥
      differ true is isnt = cc
      differ false is isnt = cc

  pub kept_stopped : new.journal.entries ≡ old.journal.entries → new.lost ≡ batch → IsSameHearing old new → KeptSince told counts port lines opening new
  kept_stopped is lost rest =
      kept_disk told counts port lines opening old new (IsWithBatch old.journal.lane old.journal.lanes old.journal.entries batch) kept live [] (is ∙ sym (append-nil old.journal.entries)) refl rest same faults wants run during_add
      (λ tells gone image p. ⊎_elim
      (λ held. inl (subst (λ (l : List Entry). Holds opening.lane opening.lanes l image) (sym is) (at_opening old.journal.lane old.journal.lanes old.journal.entries image kept.lane_is kept.lanes_are held)))
      (λ held. inr (
      subst (λ (l : List Entry). Holds opening.lane opening.lanes (l ++ new.lost) image) (sym is)
      (subst (λ (l : List Entry). Holds opening.lane opening.lanes (old.journal.entries ++ l) image) (sym lost)
      (at_opening old.journal.lane old.journal.lanes (old.journal.entries ++ batch) image kept.lane_is kept.lanes_are held)))) p)
      (λ tells. subst (λ (l : List Entry). length l ≤ 16) (sym lost) few)
      (left_add (added_since told counts port lines opening new.journal.entries ++ new.lost)
      (ap (λ (l : List Entry). drop (length opening.entries) old.journal.entries ++ l) (sym lost) ∙ ap (λ (l : List Entry). drop (length opening.entries) l ++ new.lost) (sym is)))

-- ---- by the fields of a lane, as a call of its journal leaves them

abbrev pub lane_of : {D : Type 0} → D → JournalValue → Bool → Kept → ℕ → List ℕ → Option LaneErr → Opening → List Entry → LaneValue D
lane_of site journal is_stale heard moment name end opened lost =
    record { site = site; journal = journal; is_stale = is_stale; heard = heard; moment = moment; name = name; end = end; opened = opened; lost = lost }

module _ {D B C : Type 0} (told : Meaning D B C) (counts : D → Counts) (port : B → PortState) (lines : C → ℕ → List Line)
    (site later : D) (journal grown : JournalValue) (is_stale : Bool) (heard : Kept) (moment : ℕ) (name : List ℕ) (end : Option LaneErr) (opened : Opening) (lost : List Entry) (value : LaneValue D) (batch : List Entry)
    (view_is : lane_of site journal is_stale heard moment name end opened lost ≡ value) (of : IsLane told (lane_of site journal is_stale heard moment name end opened lost)) (live : value.is_stale ≡ false)
    (seen : Tells told site → image_now told site (told.seen site)) (few : length batch ≤ 16)
    (legal : broken_batch (reverse value.journal.entries) batch ≡ None) (fit : All IsEntry batch) (of_lane : All (IsOfLane value.journal.lane value.journal.lanes) batch)
    (same : told.tells later ≡ told.tells site) (faults : (counts site).faults ≤ (counts later).faults) (wants : (counts site).wants ≤ (counts later).wants)
    (run : Tells told site → DiskRun told site later (IsWithBatch journal.lane journal.lanes journal.entries batch))
    (lane : (grown.lane ≡ journal.lane) × (grown.lanes ≡ journal.lanes)) (none : list_any is_settlement batch ≡ false) (opening : Opening) where
  rest : (stale : Bool) (gone : List Entry) → IsSameHearing (lane_of site journal is_stale heard moment name end opened lost) (lane_of later grown stale heard moment name end opened gone)
  rest stale gone = record { element = refl; pieces = refl; lane = lane.0; lanes = lane.1; settings = record { moment = refl; name = refl; end = refl; opened = refl } }

  was_live : is_stale ≡ false
  was_live = ap (λ (l : LaneValue D). l.is_stale) view_is ∙ live

  pub append_ok : grown.entries ≡ journal.entries ++ batch → KeptSince told counts port lines opening value → KeptSince told counts port lines opening (lane_of later grown is_stale heard moment name end opened lost)
  append_ok added kept =
      kept_added told counts port lines opening (lane_of site journal is_stale heard moment name end opened lost) (lane_of later grown is_stale heard moment name end opened lost) batch (subst (λ (l : LaneValue D). KeptSince told counts port lines opening l) (sym view_is) kept) of was_live seen few
      (ap (λ (l : LaneValue D). broken_batch (reverse l.journal.entries) batch) view_is ∙ legal) fit
      (subst (λ (l : LaneValue D). All (IsOfLane l.journal.lane l.journal.lanes) batch) (sym view_is) of_lane) none same faults wants run added refl (rest is_stale lost) was_live

  pub append_err : (gone : List Entry) → gone ≡ batch → IsSameJournal journal grown → KeptSince told counts port lines opening value → KeptSince told counts port lines opening (lane_of later grown true heard moment name end opened gone)
  append_err gone is stays kept =
      kept_stopped told counts port lines opening (lane_of site journal is_stale heard moment name end opened lost) (lane_of later grown true heard moment name end opened gone) batch (subst (λ (l : LaneValue D). KeptSince told counts port lines opening l) (sym view_is) kept) of was_live seen few
      (ap (λ (l : LaneValue D). broken_batch (reverse l.journal.entries) batch) view_is ∙ legal) fit
      (subst (λ (l : LaneValue D). All (IsOfLane l.journal.lane l.journal.lanes) batch) (sym view_is) of_lane) none same faults wants run stays.entries is (rest true gone)

-- the journal had room for the batch
pub fits_of : (journal : JournalValue) (entries : List Entry) → journal.length + need_of (parts_for entries) ≤ LIMIT → Fits journal entries
fits_of journal [] fits = tt
fits_of journal (entry ∷ entries) fits = fits

-- it had none
pub full_of : (journal : JournalValue) (entries : List Entry) (len need : ℕ) → (LIMIT < journal.length + need_of (parts_for entries)) × (len ≡ journal.length) × (need ≡ need_of (parts_for entries))
    → 1 ≤ length entries → All IsEntry entries → IsFull journal entries len need
full_of journal entries len need answer some fit =
    (answer.1, answer.2, subst (λ (n : ℕ). LIMIT < n) (ap (λ (n : ℕ). n + need_of (parts_for entries)) (sym answer.1) ∙ ap (λ (n : ℕ). len + n) (sym answer.2)) answer.0, some, fit)

-- a batch that was added begins and is sealed
pub append_run : {D B C : Type 0} (told : Meaning D B C) (port : B → PortState) (lines : C → ℕ → List Line) (site later : D) (journal grown : JournalValue) (is_stale : Bool) (heard : Kept) (moment : ℕ) (name : List ℕ) (end : Option LaneErr) (opened : Opening) (lost : List Entry)
    (value : LaneValue D) (batch : List Entry) → lane_of site journal is_stale heard moment name end opened lost ≡ value → DiskRun told site later (IsWithBatch journal.lane journal.lanes journal.entries batch)
    → broken_batch (reverse value.journal.entries) batch ≡ None → grown.entries ≡ journal.entries ++ batch → 1 ≤ length batch
    → IsAddingRun told port lines value (lane_of later grown is_stale heard moment name end opened lost) batch (Ok tt)
append_run {D = D} told port lines site later journal grown is_stale heard moment name end opened lost value batch view_is run legal added some =
    subst (λ (v : LaneValue D). IsAddingRun told port lines v (lane_of later grown is_stale heard moment name end opened lost) batch (Ok tt)) view_is
    (record {
      port_stands = stands;
      runs = by_batch batch some added (ap (λ (l : LaneValue D). broken_batch (reverse l.journal.entries) batch) view_is ∙ legal);
      moments = λ live. run;
    })
  where
    stands : port_now told port lines later ≡ port_now told port lines site
    stands = ap port (run.stands (told.clock later) run.past.later (omega arith))

    by_batch : (more : List Entry) → 1 ≤ length more → grown.entries ≡ journal.entries ++ more → broken_batch (reverse journal.entries) more ≡ None
        → (chosen : ℕ → List Line) (sent : List Sent) (given : List ℕ) → list_all (is_answered (port_now told port lines site).made given) more ≡ true
        → Runs (world_of journal.entries (port_now told port lines site) chosen sent given) (adding_events more (Ok tt)) (world_of grown.entries (port_now told port lines later) chosen sent given)
    by_batch [] some is legal_more chosen sent given answered = absurd (omega (arith, some))
    by_batch (entry ∷ more) some is legal_more chosen sent given answered =
        subst (λ (l : List Entry). Runs (world_of journal.entries (port_now told port lines site) chosen sent given) (Begin (entry ∷ more) ∷ Seal ∷ []) (world_of l (port_now told port lines later) chosen sent given)) (sym is)
        (subst (λ (p : PortState). Runs (world_of journal.entries (port_now told port lines site) chosen sent given) (Begin (entry ∷ more) ∷ Seal ∷ []) (world_of (journal.entries ++ entry ∷ more) p chosen sent given)) (sym stands)
        (batch_runs journal.entries (entry ∷ more) (port_now told port lines site) chosen sent given legal_more answered))
