-- The calls of a lane as lists of events.
use Rattle.std.proofs.Common.{◌≡◌, ◌⊎◌, inl, inr, ℕ, ◌+◌, ◌-◌, ◌≤◌, false, None, Some, Result, Ok, Err, OnOk, List, [], ◌∷◌, ◌++◌, length, reverse, take, refl, sym, ◌∙◌, ap, subst, arith, append-nil, append_assoc, length-append}
use Rattle.std.proofs.Math.Seq.{take-append_seam}
use Rattle.std.specs.List.{list_any}
use Rattle.disk_model.specs.Disk.{Meaning, Tells, DiskRun, image_now}
use Rattle.ota_core.specs.Entry.{Reservation}
use Rattle.ota_core.specs.History.{broken_batch}
use Rattle.ota_core.specs.declared.entries.Entry.{Entry}
use Rattle.counter_journal.specs.JournalReading.{Holds, JournalValue}
use Rattle.counter_journal.specs.Standing.{StandsFor}
use Rattle.counter_journal.specs.StandingLaws.{ready_holds}
use Rattle.site_model.specs.Port.{PortState}
use Rattle.site_model.specs.Cards.{port_now}
use Rattle.site_model.specs.declared.departures.Departure.{Departure}
use Rattle.site_model.specs.declared.site_faults.SiteFault.{SiteFault}
use Rattle.world_core.specs.MemberLaws.{In-left}
use Rattle.world_core.specs.Members.{In}
use Rattle.world_core.specs.Packet.{place_at}
use Rattle.world_core.specs.Run.{Runs}
use Rattle.world_core.specs.WorldState.{WorldState}
use Rattle.world_core.specs.declared.events.Event.{Event}
use Rattle.world_core.specs.declared.events.Event.TheVariants.{Begin, Seal}
use Rattle.world_core.specs.declared.lines.Line.{Line}
use Rattle.world_core.specs.declared.segments.Sent.{Sent}
use Rattle.lane_engine.specs.Adding.{IsAdded, IsAddition, IsAddingRun, IsNoFault, adding_events, is_settlement}
use Rattle.lane_engine.specs.Course.{AddingCourse, BeginsThen, CardsActSince, IsCourse, IsIdle, LeavingCourse, OnlyLeave, PiecesCourse, ResendingCourse, SendingCourse, batch_lost, whole_world}
use Rattle.lane_engine.specs.CourseLaws.{acts_from}
use Rattle.lane_engine.specs.Departing.{AreReserved, pieces_at, pieces_from}
use Rattle.lane_engine.specs.LaneValue.{LaneValue, IsLane, IsSameLane}
use Rattle.lane_engine.specs.Sending.{AreAllHanded, AreHanded, HandsOverBuilt, IsOkOrFault}
use Rattle.lane_engine.specs.World.{world_of, AreSent}
use Rattle.lane_engine.specs.declared.answers.LaneErr.{LaneErr}
use Rattle.lane_engine.specs.declared.answers.LaneErr.TheVariants as lane_err
use Rattle.lane_engine.proofs.ActsLemmas.{HandedBy, port_led}
use Rattle.lane_engine.proofs.AddingLemmas.{may_begin, none_settles, sent_more}
use Rattle.lane_engine.proofs.CourseLemmas.{ok_or_fault}
use Rattle.lane_engine.proofs.LeavingLemmas.{sent_split}
use Rattle.lane_engine.proofs.PortLemmas.{sent_append}
use Rattle.lane_engine.proofs.RefusalLemmas.{no_events, no_fault}

abbrev Done : Type 0
Done = Result (Unit {0}) LaneErr

module _ {D B C : Type 0} (told : Meaning D B C) (port : B → PortState) (lines : C → ℕ → List Line) where
  -- ---- a call that does nothing

  abbrev pub World : D → (entries lost : List Entry) → (ℕ → List Line) → List Sent → List ℕ → WorldState
  World site entries lost chosen sent given = record (world_of entries (port_now told port lines site) chosen sent given) { batch = batch_lost lost }

  same_world : (site now : D) (entries after lost gone : List Entry) (chosen : ℕ → List Line) (sent : List Sent) (given : List ℕ) → now ≡ site → after ≡ entries → gone ≡ lost
      → World now after gone chosen (sent ++ []) (given ++ []) ≡ World site entries lost chosen sent given
  same_world site now entries after lost gone chosen sent given is_site is_entries is_lost =
      ap (λ (d : D). World d after gone chosen (sent ++ []) (given ++ [])) is_site
      ∙ ap (λ (l : List Entry). World site l gone chosen (sent ++ []) (given ++ [])) is_entries
      ∙ ap (λ (l : List Entry). World site entries l chosen (sent ++ []) (given ++ [])) is_lost
      ∙ ap (λ (l : List Sent). World site entries lost chosen l (given ++ [])) (append-nil sent)
      ∙ ap (λ (l : List ℕ). World site entries lost chosen sent l) (append-nil given)

  pub idle_with : (Are : List Event → Type 0) → Are [] → (old new : LaneValue D) → new.site ≡ old.site → new.journal.entries ≡ old.journal.entries → new.lost ≡ old.lost → IsCourse told port lines old new [] [] Are
  idle_with Are none old new site entries lost = record {
    departs = λ sent are.
        subst (λ (l : List Entry). AreSent l (port_now told port lines new.site).sent (sent ++ [])) (sym entries)
        (subst (λ (d : D). AreSent old.journal.entries (port_now told port lines d).sent (sent ++ [])) (sym site)
        (subst (λ (l : List Sent). AreSent old.journal.entries (port_now told port lines old.site).sent l) (sym (append-nil sent)) are));
    leads = λ after chosen sent are given. record {
      before = after;
      might = subst (λ (d : D). told.choice_at d (told.clock d) after) site chosen;
      events = [];
      are = none;
      runs = same_world old.site new.site old.journal.entries new.journal.entries old.lost new.lost (lines after) sent given site entries lost;
    };
  }

  pub idle_course : (lane : LaneValue D) → IsIdle told port lines lane lane
  idle_course lane = idle_with (λ events. events ≡ []) refl lane lane refl refl refl

  -- a call that is no event
  pub refused_course : (lane : LaneValue D) (batch : List Entry) (result : Done) → adding_events batch result ≡ [] → AddingCourse told port lines lane lane batch result
  refused_course lane batch result none = idle_with (λ events. events ≡ adding_events batch result) (sym none) lane lane refl refl refl

  pub none_course : (lane : LaneValue D) (batch : List Entry) (error : LaneErr) → IsNoFault error → AddingCourse told port lines lane lane batch (Err error)
  none_course lane batch error is = refused_course lane batch (Err error) (no_events batch error is).0

  pub none_sending_course : (lane : LaneValue D) (batch : List Entry) (error : LaneErr) → IsNoFault error → SendingCourse told port lines lane lane batch (Err error)
  none_sending_course lane batch error is =
      (let idle = idle_course lane in no_fault (λ e. SendingCourse told port lines lane lane batch (Err e)) idle idle (λ long need. idle) idle idle idle (λ counter. idle) idle error is)

  pub none_resending_course : (lane : LaneValue D) (place : Reservation) (error : LaneErr) → IsNoFault error → ResendingCourse told port lines lane lane place (Err error)
  none_resending_course lane place error is =
      (let idle = idle_course lane in no_fault (λ e. ResendingCourse told port lines lane lane place (Err e)) idle idle (λ long need. idle) idle idle idle (λ counter. idle) idle error is)

  pub same_course : (old new : LaneValue D) → IsSameLane old new → IsIdle told port lines old new
  same_course old new same = idle_with (λ events. events ≡ []) refl old new same.site same.entries same.lost

  -- ---- a batch that is added

  module _ (old new : LaneValue D) (entry : Entry) (rest : List Entry) (whole : old.lost ≡ []) (none : list_any is_settlement (entry ∷ rest) ≡ false) (choices : (choice : C) → told.choice_at new.site (told.clock new.site) choice → told.choice_at old.site (told.clock old.site) choice) where
    abbrev entries_added : List Entry
    entries_added = entry ∷ rest

    -- the port stands still
    adding_departs : (result : Done) → IsAddingRun told port lines old new entries_added result → (more : List Entry) → new.journal.entries ≡ old.journal.entries ++ more → (sent : List Sent)
        → AreSent old.journal.entries (port_now told port lines old.site).sent sent → AreSent new.journal.entries (port_now told port lines new.site).sent (sent ++ [])
    adding_departs result run more is sent are =
        subst (λ (l : List Sent). AreSent new.journal.entries (port_now told port lines new.site).sent l) (sym (append-nil sent))
        (subst (λ (p : PortState). AreSent new.journal.entries p.sent sent) (sym run.port_stands)
        (subst (λ (l : List Entry). AreSent l (port_now told port lines old.site).sent sent) (sym is) (sent_more old.journal.entries more (port_now told port lines old.site).sent sent are)))

    adding_leads : (result : Done) (run : IsAddingRun told port lines old new entries_added result) (more : List Entry) → new.journal.entries ≡ old.journal.entries ++ more → (events : List Event) → events ≡ adding_events entries_added result
        → ((chosen : ℕ → List Line) (sent : List Sent) (given : List ℕ) → Runs (World old.site old.journal.entries [] chosen sent given) events (World new.site new.journal.entries new.lost chosen sent given))
        → AddingCourse told port lines old new entries_added result
    adding_leads result run more is events are runs = record {
      departs = adding_departs result run more is;
      leads = λ after chosen sent sent_are given. record {
        before = after;
        might = choices after chosen;
        events = events;
        are = are;
        runs =
            subst (λ (l : List Entry). Runs (World old.site old.journal.entries l (lines after) sent given) events (World new.site new.journal.entries new.lost (lines after) (sent ++ []) (given ++ []))) (sym whole)
            (subst (λ (l : List Sent). Runs (World old.site old.journal.entries [] (lines after) sent given) events (World new.site new.journal.entries new.lost (lines after) l (given ++ []))) (sym (append-nil sent))
            (subst (λ (l : List ℕ). Runs (World old.site old.journal.entries [] (lines after) sent given) events (World new.site new.journal.entries new.lost (lines after) sent l)) (sym (append-nil given))
            (runs (lines after) sent given)));
      };
    }

    pub adding_course : (result : Done) → IsAddition old new entries_added result → IsAddingRun told port lines old new entries_added result → AddingCourse told port lines old new entries_added result
    adding_course (Ok done) added run = adding_leads (Ok done) run entries_added added.entries (Begin entries_added ∷ Seal ∷ []) refl
        (λ chosen sent given.
        subst (λ (l : List Entry). Runs (World old.site old.journal.entries [] chosen sent given) (Begin entries_added ∷ Seal ∷ []) (World new.site new.journal.entries l chosen sent given)) (sym (added.lost ∙ whole))
        (run.runs chosen sent given (none_settles (port_now told port lines old.site).made given entries_added none)))
    adding_course (Err (lane_err.SiteFault fault)) stop run = adding_leads (Err (lane_err.SiteFault fault)) run [] (stop.entries ∙ sym (append-nil old.journal.entries)) (Begin entries_added ∷ []) refl
        (λ chosen sent given.
        subst (λ (l : List Entry). Runs (World old.site old.journal.entries [] chosen sent given) (Begin entries_added ∷ []) (World new.site new.journal.entries l chosen sent given)) (sym stop.lost)
        (run.runs chosen sent given (none_settles (port_now told port lines old.site).made given entries_added none)))
    adding_course (Err lane_err.Memory) same run = same_course old new same
    adding_course (Err lane_err.Stale) same run = same_course old new same
    adding_course (Err (lane_err.Full long need)) same run = same_course old new same
    adding_course (Err lane_err.Closed) same run = same_course old new same
    adding_course (Err lane_err.Exhausted) same run = same_course old new same
    adding_course (Err lane_err.UnknownKeyset) same run = same_course old new same
    adding_course (Err (lane_err.AlreadyReserved counter)) same run = same_course old new same
    adding_course (Err lane_err.NotReserved) same run = same_course old new same

pub some_entries : (entries : List Entry) → (entries ≡ [] → ⊥) → 1 ≤ length entries
some_entries [] some = absurd (some refl)
some_entries (entry ∷ entries) some = omega arith

-- a call that adds a batch to a lane that isn't stale
pub added_course : {D B C : Type 0} (told : Meaning D B C) (port : B → PortState) (lines : C → ℕ → List Line) (old new : LaneValue D) (batch : List Entry) (result : Done) → 1 ≤ length batch → IsLane told old → old.is_stale ≡ false
    → list_any is_settlement batch ≡ false → IsAddition old new batch result → IsAddingRun told port lines old new batch result → AddingCourse told port lines old new batch result
added_course told port lines old new [] result some of live none added run = absurd (omega (arith, some))
added_course told port lines old new (entry ∷ rest) result some of live none added run =
    let moments = run.moments live in
    adding_course told port lines old new entry rest (of.whole live) none (λ choice chosen. moments.choices_stand (told.clock new.site) choice moments.past.later (omega arith) chosen) result added run

-- ---- pieces that are handed over

module _ {D B C : Type 0} (told : Meaning D B C) (port : B → PortState) (lines : C → ℕ → List Line) (old new : LaneValue D)
    (departures : List Departure) (pieces : List Sent) (result : Done)
    (of : IsLane told old) (live : old.is_stale ≡ false) (seen : Tells told old.site → image_now told old.site (told.seen old.site))
    (journal : new.journal ≡ old.journal) (lost : new.lost ≡ old.lost)
    (hands : Tells told old.site → HandsOverBuilt told port lines old.journal.entries old.site new.site departures pieces result)
    (reserved : AreReserved old.journal.entries pieces) (tells : Tells told old.site)
    (acts : CardsActSince told port lines old.journal.lane old.journal.lanes (told.clock old.site) new.site) where
  abbrev entries : List Entry
  entries = old.journal.entries

  built : HandsOverBuilt told port lines entries old.site new.site departures pieces result
  built = hands tells

  abbrev Handed : B → Type 0
  Handed beside = AreHanded built.built (port_now told port lines old.site) (port beside)

  stands : StandsFor old.journal.lane old.journal.lanes entries (told.seen old.site)
  stands = inr (of.history, ready_holds told old.site old.journal (of.ready live tells) (told.seen old.site) (seen tells))

  left_reserved : AreReserved entries built.left
  left_reserved piece i = reserved piece (subst (λ (l : List Sent). In piece l) (sym built.pieces_are) (In-left piece built.left built.later i))

  handed_by : (k : ℕ) → told.clock old.site ≤ k → k ≤ told.clock new.site
      → HandedBy told port lines old.journal.lane old.journal.lanes entries old.site new.site Handed built.run.moments built.run.keeps (told.seen old.site) (seen tells) stands acts built.left left_reserved k
  handed_by k low high =
      let then = built.run.moments.each k low high in
      let split = sent_split entries then.gone then.still built.left (subst (λ (l : List Departure). AreSent entries l built.left) then.are built.of_history) in
      record { gone = then.gone; sent = then.sent; first = split.0; rest = split.1; are = split.2; of_gone = split.3 }

  same_entries : new.journal.entries ≡ entries
  same_entries = ap (λ (j : JournalValue). j.entries) journal

  -- these pieces left
  leaving_course : (first rest : List Sent) → built.left ≡ first ++ rest
      → ((sent : List Sent) → AreSent entries (port_now told port lines old.site).sent sent → AreSent entries (port_now told port lines new.site).sent (sent ++ first)) → LeavingCourse told port lines old new first
  leaving_course first rest part departs = record {
    departs = λ sent are. subst (λ (l : List Entry). AreSent l (port_now told port lines new.site).sent (sent ++ first)) (sym same_entries) (departs sent are);
    leads = λ after chosen sent are given. (
        let led = port_led told port lines old.journal.lane old.journal.lanes entries old.site new.site Handed built.run.moments built.run.keeps (told.seen old.site) (seen tells) stands acts built.left left_reserved
        handed_by sent are first rest part (departs sent are) after chosen in
        record {
          before = led.before;
          might = led.might;
          events = led.events;
          are = led.others;
          runs =
              subst (λ (l : List Entry). Runs (World told port lines old.site entries l (lines led.before) sent given) led.events (World told port lines new.site new.journal.entries new.lost (lines after) (sent ++ first) (given ++ []))) (sym (of.whole live))
              (subst (λ (l : List Entry). Runs (World told port lines old.site entries [] (lines led.before) sent given) led.events (World told port lines new.site new.journal.entries l (lines after) (sent ++ first) (given ++ []))) (sym (lost ∙ of.whole live))
              (subst (λ (l : List Entry). Runs (World told port lines old.site entries [] (lines led.before) sent given) led.events (World told port lines new.site l [] (lines after) (sent ++ first) (given ++ []))) (sym same_entries)
              (subst (λ (l : List ℕ). Runs (World told port lines old.site entries [] (lines led.before) sent given) led.events (World told port lines new.site entries [] (lines after) (sent ++ first) l)) (sym (append-nil given)) (led.runs given))));
        });
  }

  all_course : built.rest ≡ [] → built.later ≡ [] → (port_now told port lines new.site).sent ≡ (port_now told port lines old.site).sent ++ built.built → LeavingCourse told port lines old new pieces
  all_course none no_later all =
      subst (λ (l : List Sent). LeavingCourse told port lines old new l) (sym (built.pieces_are ∙ ap (λ (l : List Sent). built.left ++ l) no_later ∙ append-nil built.left))
      (leaving_course built.left [] (sym (append-nil built.left))
      (λ sent are. subst (λ (l : List Departure). AreSent entries l (sent ++ built.left)) (sym all) (sent_append entries (port_now told port lines old.site).sent built.built sent built.left are built.of_history)))

  first_course : (count : ℕ) × LeavingCourse told port lines old new (take count pieces)
  first_course =
      let then = built.run.moments.each (told.clock new.site) built.run.moments.past.later (omega arith) in
      let split = sent_split entries then.gone then.still built.left (subst (λ (l : List Departure). AreSent entries l built.left) then.are built.of_history) in
      let all : pieces ≡ split.0 ++ (split.1 ++ built.later) = built.pieces_are ∙ ap (λ (l : List Sent). l ++ built.later) split.2 ∙ append_assoc split.0 split.1 built.later in
      let first : take (length split.0) pieces ≡ split.0 = ap (take (length split.0)) all ∙ take-append_seam split.0 (split.1 ++ built.later) in (
        length split.0,
        subst (λ (l : List Sent). LeavingCourse told port lines old new l) (sym first)
            (leaving_course split.0 split.1 split.2
            (λ sent are. subst (λ (l : List Departure). AreSent entries l (sent ++ split.0)) (sym then.sent) (sent_append entries (port_now told port lines old.site).sent then.gone sent split.0 are split.3))),
      )

  pub pieces_course : IsOkOrFault result → PiecesCourse told port lines old new pieces result
  pieces_course answer = ok_or_fault
      (λ r. OnOk r ((built.rest ≡ []) × (built.later ≡ []) × AreAllHanded told port lines old.site new.site built.built) → PiecesCourse told port lines old new pieces r)
      (λ all. all_course all.0 all.1 all.2) (λ named all. first_course) result answer built.all

-- ---- a batch that is added, and then handed over

module _ {D B C : Type 0} (told : Meaning D B C) (port : B → PortState) (lines : C → ℕ → List Line) (old mid new : LaneValue D) (batch : List Entry) (result : Done)
    (legal : broken_batch (reverse old.journal.entries) batch ≡ None) (none : list_any is_settlement batch ≡ false) (live : old.is_stale ≡ false) (whole : old.lost ≡ [])
    (added : IsAdded old mid batch) (run : IsAddingRun told port lines old mid batch (Ok tt)) (journal : new.journal ≡ mid.journal) where
  abbrev through : DiskRun told old.site mid.site (λ image. Holds old.journal.lane old.journal.lanes old.journal.entries image ⊎ Holds old.journal.lane old.journal.lanes (old.journal.entries ++ batch) image)
  through = run.moments live

  acts_mid : CardsActSince told port lines old.journal.lane old.journal.lanes (told.clock old.site) new.site → CardsActSince told port lines mid.journal.lane mid.journal.lanes (told.clock mid.site) new.site
  acts_mid acts =
      subst (λ (n : ℕ). CardsActSince told port lines mid.journal.lane n (told.clock mid.site) new.site) (sym added.rest.lanes)
      (subst (λ (n : ℕ). CardsActSince told port lines n old.journal.lanes (told.clock mid.site) new.site) (sym added.rest.lane)
      (acts_from told port lines old.journal.lane old.journal.lanes (told.clock old.site) (told.clock mid.site) new.site through.past.later acts))

  -- the batch begins and is sealed before its pieces leave
  begins_course : (pieces : List Sent) → LeavingCourse told port lines mid new pieces → IsCourse told port lines old new pieces [] (BeginsThen batch (OnlyLeave pieces))
  begins_course pieces course = record {
    departs = λ sent are. course.departs sent (sent_mid sent are);
    leads = λ after chosen sent are given. (
        let led = course.leads after chosen sent (sent_mid sent are) given in
        record {
          before = led.before;
          might = through.choices_stand (told.clock mid.site) led.before through.past.later (omega arith) led.might;
          events = Begin batch ∷ Seal ∷ led.events;
          are = (led.events, refl, led.are);
          runs = subst (λ (l : List Entry). Runs (World told port lines old.site old.journal.entries l (lines led.before) sent given) (Begin batch ∷ Seal ∷ led.events) (whole_world told port lines new (lines after) (sent ++ pieces) (given ++ []))) (sym whole) (
            may_begin old.journal.entries batch (port_now told port lines old.site) (lines led.before) sent given legal (none_settles (port_now told port lines old.site).made given batch none),
            (
              refl,
              subst (λ (p : PortState). Runs (world_of (old.journal.entries ++ batch) p (lines led.before) sent given) led.events (whole_world told port lines new (lines after) (sent ++ pieces) (given ++ []))) run.port_stands
                  (subst (λ (l : List Entry). Runs (world_of l (port_now told port lines mid.site) (lines led.before) sent given) led.events (whole_world told port lines new (lines after) (sent ++ pieces) (given ++ []))) added.entries
                  (subst (λ (l : List Entry). Runs (World told port lines mid.site mid.journal.entries l (lines led.before) sent given) led.events (whole_world told port lines new (lines after) (sent ++ pieces) (given ++ []))) (added.lost ∙ whole) led.runs)),
            ),
          );
        });
  }
    where
      sent_mid : (sent : List Sent) → AreSent old.journal.entries (port_now told port lines old.site).sent sent → AreSent mid.journal.entries (port_now told port lines mid.site).sent sent
      sent_mid sent are =
          subst (λ (p : PortState). AreSent mid.journal.entries p.sent sent) (sym run.port_stands)
          (subst (λ (l : List Entry). AreSent l (port_now told port lines old.site).sent sent) (sym added.entries) (sent_more old.journal.entries batch (port_now told port lines old.site).sent sent are))

  abbrev pieces_all : List Sent
  pieces_all = pieces_from new.journal.entries (length old.journal.entries) (length batch)

  pieces_are : pieces_from mid.journal.entries (length old.journal.entries) (length mid.journal.entries - length old.journal.entries) ≡ pieces_all
  pieces_are =
      let long : length mid.journal.entries ≡ length old.journal.entries + length batch = ap (λ (l : List Entry). length l) added.entries ∙ length-append old.journal.entries batch in
      let count : length mid.journal.entries - length old.journal.entries ≡ length batch = omega (arith, long) in
      ap (λ (n : ℕ). pieces_from mid.journal.entries (length old.journal.entries) n) count
      ∙ ap (λ (j : JournalValue). pieces_from j.entries (length old.journal.entries) (length batch)) (sym journal)

  pub sending_course : IsOkOrFault result
      → (CardsActSince told port lines mid.journal.lane mid.journal.lanes (told.clock mid.site) new.site
      → PiecesCourse told port lines mid new (pieces_from mid.journal.entries (length old.journal.entries) (length mid.journal.entries - length old.journal.entries)) result)
      → CardsActSince told port lines old.journal.lane old.journal.lanes (told.clock old.site) new.site → SendingCourse told port lines old new batch result
  sending_course answer then acts = ok_or_fault
      (λ r. PiecesCourse told port lines mid new pieces_all r → SendingCourse told port lines old new batch r)
      (λ course. begins_course pieces_all course) (λ named course. inr (course.0, begins_course (take course.0 pieces_all) course.1))
      result answer (subst (λ (l : List Sent). PiecesCourse told port lines mid new l result) pieces_are (then (acts_mid acts)))

-- ---- a batch that wasn't added

pub failed_course : {D B C : Type 0} (told : Meaning D B C) (port : B → PortState) (lines : C → ℕ → List Line) (old new : LaneValue D) (batch : List Entry) (error : LaneErr)
    → IsAddition old new batch (Err error) → AddingCourse told port lines old new batch (Err error) → SendingCourse told port lines old new batch (Err error)
failed_course told port lines old new batch (lane_err.SiteFault fault) stop course = inl course
failed_course told port lines old new batch lane_err.Memory same course = same_course told port lines old new same
failed_course told port lines old new batch lane_err.Stale same course = same_course told port lines old new same
failed_course told port lines old new batch (lane_err.Full long need) same course = same_course told port lines old new same
failed_course told port lines old new batch lane_err.Closed same course = same_course told port lines old new same
failed_course told port lines old new batch lane_err.Exhausted same course = same_course told port lines old new same
failed_course told port lines old new batch lane_err.UnknownKeyset same course = same_course told port lines old new same
failed_course told port lines old new batch (lane_err.AlreadyReserved counter) same course = same_course told port lines old new same
failed_course told port lines old new batch lane_err.NotReserved same course = same_course told port lines old new same

-- ---- a reservation that is sent again

pub resending_course : {D B C : Type 0} (told : Meaning D B C) (port : B → PortState) (lines : C → ℕ → List Line) (old new : LaneValue D) (place : Reservation) (found : ℕ) (result : Done)
    → IsOkOrFault result → place_at old.journal.entries found ≡ Some place → PiecesCourse told port lines old new (pieces_at old.journal.entries found) result → ResendingCourse told port lines old new place result
resending_course told port lines old new place found result answer at course = ok_or_fault
    (λ r. PiecesCourse told port lines old new (pieces_at old.journal.entries found) r → ResendingCourse told port lines old new place r)
    (λ left. (found, at, left)) (λ named left. (found, at, left)) result answer course
