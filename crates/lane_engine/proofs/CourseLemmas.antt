-- A batch that is added, and then handed over.
use Rattle.std.proofs.Common.{◌≡◌, inl, inr, ℕ, ◌+◌, ◌-◌, ◌≤◌, IsTrue, false, Option, None, Result, Ok, Err, List, ◌∷◌, ◌++◌, length, drop, map, take, reverse, refl, sym, ◌∙◌, ap, subst, arith, length-append}
use Rattle.std.proofs.Math.Seq.{drop-append_seam}
use Rattle.std.specs.List.{list_any}
use Rattle.disk_model.specs.Counts.{Counts, HasRisen}
use Rattle.disk_model.specs.Disk.{Meaning, Tells, image_now}
use Rattle.disk_model.specs.Runs.{at_once}
use Rattle.ota_core.specs.History.{broken_batch}
use Rattle.ota_core.specs.declared.entries.Entry.{Entry}
use Rattle.counter_journal.specs.JournalReading.{JournalValue}
use Rattle.counter_journal.specs.StandingLaws.{ready_holds}
use Rattle.site_model.specs.Runs.{joined_site, of_disk, of_port}
use Rattle.site_model.specs.Port.{PortState}
use Rattle.site_model.specs.Cards.{port_now}
use Rattle.site_model.specs.declared.departures.Departure.{Departure}
use Rattle.site_model.specs.declared.site_faults.SiteFault.{SiteFault}
use Rattle.site_model.specs.declared.site_faults.SiteFault.TheVariants as fault
use Rattle.world_core.specs.Run.{Runs}
use Rattle.world_core.specs.Sound.{CardsWentOn}
use Rattle.world_core.specs.declared.events.Event.{Event}
use Rattle.world_core.specs.declared.events.Event.TheVariants.{Begin, Seal}
use Rattle.world_core.specs.declared.lines.Line.{Line}
use Rattle.world_core.specs.declared.segments.Sent.{Sent}
use Rattle.lane_engine.specs.Adding.{AddingAnswer, AnswerCause, IsAdded, IsAddition, IsAddingRun, LaneCause, is_settlement}
use Rattle.lane_engine.specs.Departing.{AreFirst, AreHandedOver, AreReserved, HaveCardsGoneOn, IsResent, IsSending, IsSendingRun, IsUnasked, SendingEvents, SendsOnlyAdded, leaving, pieces_from, LeavesWhole}
use Rattle.lane_engine.specs.Kept.{KeptSince, IsFair}
use Rattle.lane_engine.specs.Opening.{Opening}
use Rattle.lane_engine.specs.LaneValue.{LaneValue, IsLane, IsSameHearing}
use Rattle.lane_engine.specs.Packets.{departures_for}
use Rattle.lane_engine.specs.Sending.{AreHanded, HandsOverBuilt, IsOkOrFault}
use Rattle.lane_engine.specs.Sound.{IsSoundState}
use Rattle.lane_engine.specs.World.{world_of, cards_of}
use Rattle.lane_engine.specs.declared.answers.LaneErr.{LaneErr}
use Rattle.lane_engine.specs.declared.answers.LaneErr.TheVariants as lane_err
use Rattle.lane_engine.proofs.AppendLemmas.{IsWithBatch}
use Rattle.lane_engine.proofs.AddingLemmas.{may_begin, none_settles}
use Rattle.lane_engine.proofs.KeptLemmas.{fair_before}
use Rattle.lane_engine.proofs.LeavingLemmas.{from_reserved}
use Rattle.lane_engine.proofs.SentLemmas.{hands_all, hands_first, hands_run, hands_run_all, hands_unasked}

-- ---- one call behind another

pub same_then : {D : Type 0} (old mid new : LaneValue D) → IsSameHearing old mid → IsSameHearing mid new → IsSameHearing old new
same_then old mid new first second = record {
  element = second.element ∙ first.element;
  pieces = second.pieces ∙ first.pieces;
  lane = second.lane ∙ first.lane;
  lanes = second.lanes ∙ first.lanes;
  settings = record {
    moment = second.settings.moment ∙ first.settings.moment;
    name = second.settings.name ∙ first.settings.name;
    end = second.settings.end ∙ first.settings.end;
    opened = second.settings.opened ∙ first.settings.opened;
  };
}

abbrev Done : Type 0
Done = Result (Unit {0}) LaneErr

-- Ok, or a fault of the site
pub ok_or_fault : (P : Done → Type 0) → P (Ok tt) → ((named : SiteFault) → P (Err (lane_err.SiteFault named))) → (result : Done) → IsOkOrFault result → P result
ok_or_fault P done stopped (Ok value) is = done
ok_or_fault P done stopped (Err (lane_err.SiteFault named)) is = stopped named
ok_or_fault P done stopped (Err lane_err.Memory) is = absurd is
ok_or_fault P done stopped (Err lane_err.Stale) is = absurd is
ok_or_fault P done stopped (Err (lane_err.Full long need)) is = absurd is
ok_or_fault P done stopped (Err lane_err.Closed) is = absurd is
ok_or_fault P done stopped (Err lane_err.Exhausted) is = absurd is
ok_or_fault P done stopped (Err lane_err.UnknownKeyset) is = absurd is
ok_or_fault P done stopped (Err (lane_err.AlreadyReserved counter)) is = absurd is
ok_or_fault P done stopped (Err lane_err.NotReserved) is = absurd is

pub journal_of : {D : Type 0} (old new : LaneValue D) (result : Done) → IsOkOrFault result → IsResent old new result → new.journal ≡ old.journal
journal_of old new result is resent = ok_or_fault (λ r. IsResent old new r → new.journal ≡ old.journal) (λ r. r.0) (λ named r. r.0) result is resent

pub lost_of : {D : Type 0} (old new : LaneValue D) (result : Done) → IsOkOrFault result → IsResent old new result → new.lost ≡ old.lost
lost_of old new result is resent = ok_or_fault (λ r. IsResent old new r → new.lost ≡ old.lost) (λ r. r.3) (λ named r. r.3) result is resent

pub hearing_of : {D : Type 0} (old new : LaneValue D) (result : Done) → IsOkOrFault result → IsResent old new result → IsSameHearing old new
hearing_of old new result is resent = ok_or_fault (λ r. IsResent old new r → IsSameHearing old new) (λ r. r.2) (λ named r. r.2) result is resent

-- a fault behind calls that answered Ok
pub cause_then : (first second third : Counts) (result : Done) → IsOkOrFault result → LaneCause {T = Unit {0}} first second (Ok tt) → LaneCause second third result → LaneCause first third result
cause_then first second third result is before after = record {
  faults = (let one = before.faults in let two = after.faults in omega (arith, one, two));
  wants = (let one = before.wants in let two = after.wants in omega (arith, one, two));
  answer = ok_or_fault (λ r. AnswerCause second third r → AnswerCause first third r)
      (λ same. (same.0 ∙ before.answer.0, same.1 ∙ before.answer.1)) by_fault result is after.answer;
}
  where
    by_fault : (named : SiteFault) → AnswerCause {T = Unit {0}} second third (Err (lane_err.SiteFault named)) → AnswerCause {T = Unit {0}} first third (Err (lane_err.SiteFault named))
    by_fault fault.Failed risen = subst (λ (n : ℕ). HasRisen n third.faults) before.answer.0 risen
    by_fault fault.Memory risen = subst (λ (n : ℕ). HasRisen n third.wants) before.answer.1 risen

-- ---- calls in which no card acts

module _ {D B C : Type 0} (told : Meaning D B C) (port : B → PortState) (lines : C → ℕ → List Line) (lane lanes : ℕ) (old new : LaneValue D) (image : List ℕ)
    (still : port_now told port lines new.site ≡ port_now told port lines old.site)
    (choices : (choice : C) → told.choice_at new.site (told.clock new.site) choice → told.choice_at old.site (told.clock old.site) choice)
    (sound : (choice : C) → told.choice_at old.site (told.clock old.site) choice → IsSoundState lane lanes image (port_now told port lines old.site) (lines choice)) where
  pub still_gone_on : HaveCardsGoneOn told port lines old new
  still_gone_on after chosen =
      let then = choices after chosen in (
        after,
        then,
        λ sent given.
            subst (λ (p : PortState). CardsWentOn (world_of new.journal.entries (port_now told port lines old.site) (lines after) sent given) sent (cards_of p.facts (lines after)) p.made) (sym still)
            (record {
              leaves = λ piece i. inl i;
              facts = refl;
              states = (sound after then).world.cards;
              kept = λ card line i finished. i;
              lines = λ line i. inl i;
              answers = λ answer i. inl i;
              longer = omega arith;
            }),
      )

module _ {D B C : Type 0} (told : Meaning D B C) (counts : D → Counts) (port : B → PortState) (lines : C → ℕ → List Line) (opening : Opening) (old : LaneValue D)
    (kept : KeptSince told counts port lines opening old) (tells : Tells told old.site) (seen : image_now told old.site (told.seen old.site)) where
  sound_now : IsFair told counts port lines opening old.site → (choice : C) → told.choice_at old.site (told.clock old.site) choice
      → IsSoundState opening.lane opening.lanes (told.seen old.site) (port_now told port lines old.site) (lines choice)
  sound_now fair choice chosen = (let was = kept.where_told tells in (was.fair fair).sound (told.clock old.site) was.later (omega arith) (told.seen old.site) choice seen chosen)

  -- in a call that does nothing
  pub refused_gone_on : IsFair told counts port lines opening old.site → HaveCardsGoneOn told port lines old old
  refused_gone_on fair = still_gone_on told port lines opening.lane opening.lanes old old (told.seen old.site) refl (λ choice chosen. chosen) (sound_now fair)

  -- and in one of the journal
  pub adding_gone_on : (new : LaneValue D) (batch : List Entry) (result : Done) → IsAddingRun told port lines old new batch result → old.is_stale ≡ false → IsFair told counts port lines opening new.site
      → HaveCardsGoneOn told port lines old new
  adding_gone_on new batch result run live fair =
      let moments = run.moments live in
      let before = fair_before told counts port lines opening old.site new.site moments.past (kept.where_told tells).later fair in
      still_gone_on told port lines opening.lane opening.lanes old new (told.seen old.site) run.port_stands
      (λ choice chosen. moments.choices_stand (told.clock new.site) choice moments.past.later (omega arith) chosen) (sound_now before)

-- ---- a batch that is added, and then handed over

module _ {D B C : Type 0} (told : Meaning D B C) (counts : D → Counts) (port : B → PortState) (lines : C → ℕ → List Line) (old mid new : LaneValue D) (batch : List Entry) (result : Done)
    (some : 1 ≤ length batch) (legal : broken_batch (reverse old.journal.entries) batch ≡ None) (none : list_any is_settlement batch ≡ false)
    (live : old.is_stale ≡ false) (added : IsAdded old mid batch) (first : Tells told old.site → IsAddingRun told port lines old mid batch (Ok tt)) (tells_mid : told.tells mid.site ≡ told.tells old.site)
    (answer : IsOkOrFault result) (resent : IsResent mid new result)
    (hands : Tells told mid.site → HandsOverBuilt told port lines mid.journal.entries mid.site new.site (departures_for mid.journal.entries (drop (length old.journal.entries) mid.journal.entries))
    (pieces_from mid.journal.entries (length old.journal.entries) (length mid.journal.entries - length old.journal.entries)) result) where
  sent_journal : new.journal ≡ mid.journal
  sent_journal = journal_of mid new result answer resent

  entries_new : new.journal.entries ≡ old.journal.entries ++ batch
  entries_new = ap (λ (j : JournalValue). j.entries) sent_journal ∙ added.entries

  then_tells : Tells told old.site → Tells told mid.site
  then_tells tells = subst IsTrue (sym tells_mid) tells

  abbrev all : List Departure
  all = departures_for (old.journal.entries ++ batch) batch

  departs : departures_for mid.journal.entries (drop (length old.journal.entries) mid.journal.entries) ≡ all
  departs =
      ap (λ (l : List Entry). departures_for l (drop (length old.journal.entries) l)) added.entries
      ∙ ap (departures_for (old.journal.entries ++ batch)) (drop-append_seam old.journal.entries batch)

  abbrev pieces_all : List Sent
  pieces_all = pieces_from new.journal.entries (length old.journal.entries) (length batch)

  pieces_are : pieces_from mid.journal.entries (length old.journal.entries) (length mid.journal.entries - length old.journal.entries) ≡ pieces_all
  pieces_are =
      let long : length mid.journal.entries ≡ length old.journal.entries + length batch = ap (λ (l : List Entry). length l) added.entries ∙ length-append old.journal.entries batch in
      let count : length mid.journal.entries - length old.journal.entries ≡ length batch = omega (arith, long) in
      ap (λ (n : ℕ). pieces_from mid.journal.entries (length old.journal.entries) n) count
      ∙ ap (λ (j : JournalValue). pieces_from j.entries (length old.journal.entries) (length batch)) (sym sent_journal)

  -- what was handed over, by the history after
  handed : Tells told old.site → HandsOverBuilt told port lines mid.journal.entries mid.site new.site all pieces_all result
  handed tells =
      subst (λ (l : List Departure). HandsOverBuilt told port lines mid.journal.entries mid.site new.site l pieces_all result) departs
      (subst (λ (l : List Sent). HandsOverBuilt told port lines mid.journal.entries mid.site new.site (departures_for mid.journal.entries (drop (length old.journal.entries) mid.journal.entries)) l result) pieces_are (hands (then_tells tells)))

  course_reserved : AreReserved mid.journal.entries pieces_all
  course_reserved =
      subst (λ (j : JournalValue). AreReserved j.entries pieces_all) sent_journal
      (from_reserved new.journal.entries (length old.journal.entries) (length batch))

  stands : Tells told old.site → port_now told port lines mid.site ≡ port_now told port lines old.site
  stands tells = (first tells).port_stands

  pub course_answer : (refusal : Option LaneErr) → refusal ≡ None → AddingAnswer old None batch (Ok tt) → AddingAnswer old refusal batch result
  course_answer refusal is fits = ok_or_fault (λ r. AddingAnswer old refusal batch r) (fits.0, is, fits.2) (λ named. (fits.0, is, fits.2)) result answer

  pub course_added : IsSending old new batch result
  course_added = ok_or_fault (λ r. IsResent mid new r → IsSending old new batch r)
      (λ r. record { entries = entries_new; is_stale = r.1; lost = r.3 ∙ added.lost; rest = same_then old mid new added.rest r.2 })
      (λ named r. (r.1, same_then old mid new added.rest r.2, inr (entries_new, r.3 ∙ added.lost))) result answer resent

  pub course_sent : Tells told old.site → AreHandedOver all (port_now told port lines old.site) (port_now told port lines new.site) result
  course_sent tells = ok_or_fault
      (λ r. HandsOverBuilt told port lines mid.journal.entries mid.site new.site all pieces_all r → AreHandedOver all (port_now told port lines old.site) (port_now told port lines new.site) r)
      (λ h. (
      let whole = hands_all told port lines mid.journal.entries mid.site new.site all pieces_all (Ok tt) h course_reserved h.all.0 h.all.1 h.all.2 in
      whole.0 ∙ ap (λ (p : PortState). p.sent ++ all) (stands tells)))
      (λ named h.
      subst (λ (p : PortState). AreFirst all p (port_now told port lines new.site)) (stands tells)
      (hands_first told port lines mid.journal.entries mid.site new.site all pieces_all (Err (lane_err.SiteFault named)) h course_reserved))
      result answer (handed tells)

  pub course_whole : Tells told old.site → LeavesWhole told port lines old new batch
  course_whole tells =
      let run = (first tells).moments live in
      let built = handed tells in
      joined_site told old.site mid.site new.site (λ image beside choice. IsWithBatch old.journal.lane old.journal.lanes old.journal.entries batch image)
      (of_disk told old.site mid.site (IsWithBatch old.journal.lane old.journal.lanes old.journal.entries batch) (λ image beside choice. IsWithBatch old.journal.lane old.journal.lanes old.journal.entries batch image) run
      (λ image choice left chosen. left))
      (of_port told mid.site new.site (λ beside. AreHanded built.built (port_now told port lines mid.site) (port beside))
      (λ image beside choice. IsWithBatch old.journal.lane old.journal.lanes old.journal.entries batch image) built.run.moments
      (λ k image choice low high now beside chosen. run.each (told.clock mid.site) image run.past.later (omega arith) now))

  pub course_only_added : SendsOnlyAdded told port lines old new
  course_only_added same =
      let counted : length old.journal.entries ≡ length old.journal.entries + length batch = ap (λ (l : List Entry). length l) (sym same ∙ entries_new) ∙ length-append old.journal.entries batch in
      absurd (omega (arith, counted, some))

  pub course_unasked : Tells told old.site → IsUnasked (port_now told port lines old.site) (port_now told port lines new.site)
  course_unasked tells =
      subst (λ (p : PortState). IsUnasked p (port_now told port lines new.site)) (stands tells)
      (hands_unasked told port lines mid.journal.entries mid.site new.site all pieces_all result (handed tells) course_reserved)

  -- the batch begins and is sealed before its pieces leave
  begins_then : (tells : Tells told old.site) (events : List Event) (pieces : List Sent) → IsSendingRun told port lines mid new events pieces
      → IsSendingRun told port lines old new (Begin batch ∷ Seal ∷ events) pieces
  begins_then tells events pieces run = record {
    departures = λ rest more. run.departures rest (more ∙ ap (λ (p : PortState). p.sent ++ rest) (sym (stands tells)));
    runs = λ chosen sent given. (
      may_begin old.journal.entries batch (port_now told port lines old.site) chosen sent given legal (none_settles (port_now told port lines old.site).made given batch none),
      (
        refl,
        subst (λ (p : PortState). Runs (world_of (old.journal.entries ++ batch) p chosen sent given) events (world_of new.journal.entries p chosen (sent ++ pieces) given)) (stands tells)
            (subst (λ (h : List Entry). Runs (world_of h (port_now told port lines mid.site) chosen sent given) events (world_of new.journal.entries (port_now told port lines mid.site) chosen (sent ++ pieces) given)) added.entries
            (run.runs chosen sent given)),
      ),
    );
  }

  pub course_events : Tells told old.site → SendingEvents told port lines old new batch result
  course_events tells = ok_or_fault
      (λ r. HandsOverBuilt told port lines mid.journal.entries mid.site new.site all pieces_all r → SendingEvents told port lines old new batch r)
      (λ h.
      begins_then tells (map leaving pieces_all) pieces_all
      (hands_run_all told port lines mid.journal.entries mid.site new.site all pieces_all (Ok tt) h course_reserved h.all.0 h.all.1 h.all.2 mid new refl refl (ap (λ (j : JournalValue). j.entries) sent_journal) refl))
      (λ named h. (
      let run = hands_run told port lines mid.journal.entries mid.site new.site all pieces_all (Err (lane_err.SiteFault named)) h course_reserved mid new refl refl (ap (λ (j : JournalValue). j.entries) sent_journal) refl in
      inr (run.0, begins_then tells (map leaving (take run.0 pieces_all)) (take run.0 pieces_all) run.1)))
      result answer (handed tells)

  pub course_gone_on : Tells told old.site → HaveCardsGoneOn told port lines mid new → HaveCardsGoneOn told port lines old new
  course_gone_on tells gone after chosen =
      let then = gone after chosen in
      let run = (first tells).moments live in (
        then.0,
        run.choices_stand (told.clock mid.site) then.0 run.past.later (omega arith) then.1,
        subst (λ (p : PortState). (sent : List Sent) (given : List ℕ)
            → CardsWentOn (world_of new.journal.entries p (lines then.0) sent given) sent (cards_of (port_now told port lines new.site).facts (lines after)) (port_now told port lines new.site).made)
            (stands tells) then.2,
      )

-- ---- a batch alone

module _ {D B C : Type 0} (told : Meaning D B C) (port : B → PortState) (lines : C → ℕ → List Line) where
  pub added_whole : (old new : LaneValue D) (batch : List Entry) (result : Done) → IsAddingRun told port lines old new batch result → old.is_stale ≡ false → LeavesWhole told port lines old new batch
  added_whole old new batch result run live =
      of_disk told old.site new.site (IsWithBatch old.journal.lane old.journal.lanes old.journal.entries batch) (λ image beside choice. IsWithBatch old.journal.lane old.journal.lanes old.journal.entries batch image)
      (run.moments live) (λ image choice left chosen. left)

  -- nothing was done
  pub idle_whole : (lane : LaneValue D) (batch : List Entry) → IsLane told lane → lane.is_stale ≡ false → Tells told lane.site → LeavesWhole told port lines lane lane batch
  idle_whole lane batch of live tells =
      of_disk told lane.site lane.site (IsWithBatch lane.journal.lane lane.journal.lanes lane.journal.entries batch) (λ image beside choice. IsWithBatch lane.journal.lane lane.journal.lanes lane.journal.entries batch image)
      (at_once told lane.site (IsWithBatch lane.journal.lane lane.journal.lanes lane.journal.entries batch) (λ image at. inl (ready_holds told lane.site lane.journal (of.ready live tells) image at)))
      (λ image choice left chosen. left)

-- ---- a batch that wasn't added

module _ {D B C : Type 0} (told : Meaning D B C) (counts : D → Counts) (port : B → PortState) (lines : C → ℕ → List Line) (old new : LaneValue D) (batch : List Entry) (error : LaneErr)
    (added : IsAddition old new batch (Err error)) where
  pub failed_sending : IsSending old new batch (Err error)
  failed_sending = by_case error added
    where
      by_case : (e : LaneErr) → IsAddition old new batch (Err e) → IsSending old new batch (Err e)
      by_case (lane_err.SiteFault named) stop = (stop.is_stale, stop.rest, inl (stop.entries, stop.lost))
      by_case lane_err.Memory same = same
      by_case lane_err.Stale same = same
      by_case (lane_err.Full long need) same = same
      by_case lane_err.Closed same = same
      by_case lane_err.Exhausted same = same
      by_case lane_err.UnknownKeyset same = same
      by_case (lane_err.AlreadyReserved counter) same = same
      by_case lane_err.NotReserved same = same

  pub failed_events : IsAddingRun told port lines old new batch (Err error) → SendingEvents told port lines old new batch (Err error)
  failed_events run = by_case error added run
    where
      by_case : (e : LaneErr) → IsAddition old new batch (Err e) → IsAddingRun told port lines old new batch (Err e) → SendingEvents told port lines old new batch (Err e)
      by_case (lane_err.SiteFault named) stop begun = inl begun
      by_case lane_err.Memory same begun = same
      by_case lane_err.Stale same begun = same
      by_case (lane_err.Full long need) same begun = same
      by_case lane_err.Closed same begun = same
      by_case lane_err.Exhausted same begun = same
      by_case lane_err.UnknownKeyset same begun = same
      by_case (lane_err.AlreadyReserved counter) same begun = same
      by_case lane_err.NotReserved same begun = same
