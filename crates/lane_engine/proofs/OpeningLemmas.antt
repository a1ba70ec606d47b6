-- What a lane keeps at its opening.
use Rattle.std.proofs.Common.{◌≡◌, ℕ, ◌≤◌, IsTrue, Bool, false, true, List, [], ◌++◌, length, refl, sym, ◌∙◌, ap, subst, arith, append-nil}
use Rattle.std.proofs.lemmas.List.{drop_all}
use Rattle.disk_model.specs.Counts.{Counts}
use Rattle.disk_model.specs.Disk.{Meaning, Tells, DiskRun, image_now}
use Rattle.ota_core.specs.declared.entries.Entry.{Entry}
use Rattle.counter_journal.specs.JournalOpening.{IsBeforeOrOpened}
use Rattle.counter_journal.specs.Standing.{StandsFor, IsKept}
use Rattle.counter_journal.specs.EntryRanges.{IsHistory}
use Rattle.counter_journal.specs.JournalReading.{Holds, IsReady}
use Rattle.counter_journal.specs.StandingLaws.{kept_opened, ready_holds}
use Rattle.site_model.specs.Port.{PortState}
use Rattle.site_model.specs.Cards.{port_at, port_now}
use Rattle.world_core.specs.Members.{In}
use Rattle.world_core.specs.declared.lines.Line.{Line}
use Rattle.lane_engine.specs.Kept.{KeptSince, KeptTold, IsFair, WasDue, AreGiven, IsWithFirst, added_since}
use Rattle.lane_engine.specs.Opening.{Opening}
use Rattle.lane_engine.specs.Receipts.{Response}
use Rattle.lane_engine.specs.LaneValue.{LaneValue}
use Rattle.lane_engine.specs.Opened.{IsNew, opening_of}
use Rattle.lane_engine.specs.Sound.{IsSoundState, SoundSince}
use Rattle.lane_engine.proofs.LeftLemmas.{held_first}
use Rattle.lane_engine.proofs.Moments.{state_again, not_longer, port_still}

module _ {D B C : Type 0} (told : Meaning D B C) (counts : D → Counts) (port : B → PortState) (lines : C → ℕ → List Line)
    (lane lanes : ℕ) (old : D) (opened : LaneValue D) (new : IsNew lane lanes opened)
    (run : DiskRun told old opened.site (IsBeforeOrOpened told old lane lanes)) (seen : image_now told old (told.seen old))
    (history : IsHistory lane lanes opened.journal.entries) (ready : IsReady told opened.site opened.journal) where
  abbrev start : Opening
  start = opening_of opened (told.clock old) (told.clock opened.site) (counts old)

  start_stands : port_at told port lines opened.site (told.clock old) ≡ port_now told port lines old
  start_stands = port_still told port lines old opened.site (IsBeforeOrOpened told old lane lanes) run (told.clock old) (omega arith) run.past.later

  stands : (k : ℕ) → told.clock old ≤ k → k ≤ told.clock opened.site → port_at told port lines opened.site k ≡ port_at told port lines opened.site (told.clock old)
  stands k low high = port_still told port lines old opened.site (IsBeforeOrOpened told old lane lanes) run k low high ∙ sym start_stands

  -- nothing was given
  none_given : (k : ℕ) → told.clock old ≤ k → k ≤ told.clock opened.site → AreGiven told counts port lines start opened.site k []
  none_given k low high = ap (λ (p : PortState). p.given) (stands k low high) ∙ sym (append-nil (port_at told port lines opened.site (told.clock old)).given)

  sound_opened : IsFair told counts port lines start opened.site → SoundSince told port lines start.lane start.lanes start.clock opened.site
  sound_opened fair k low high image choice at chosen =
      let kept : IsKept told lane lanes old image = kept_opened told lane lanes old image seen (run.each k image low high at) in
      let same : IsSoundState start.lane start.lanes kept.before (port_at told port lines opened.site (told.clock old)) (lines choice) =
      fair.sound kept.before choice (run.past.no_fewer (told.clock old) kept.before (omega arith) kept.at)
      (run.past.no_fewer_choices (told.clock old) choice (omega arith) (run.choices_stand k choice low high chosen)) in
      subst (λ (p : PortState). IsSoundState start.lane start.lanes image p (lines choice)) (sym (stands k low high))
      (state_again start.lane start.lanes kept.before image (port_at told port lines opened.site (told.clock old)) (lines choice) same
      (λ entries is. subst (λ (n : ℕ). StandsFor n start.lanes entries image) (sym new.lane_is)
      (subst (λ (n : ℕ). StandsFor lane n entries image) (sym new.lanes_are)
      (kept.stands entries (subst (λ (n : ℕ). StandsFor lane n entries kept.before) new.lanes_are (subst (λ (n : ℕ). StandsFor n start.lanes entries kept.before) new.lane_is is))))))

  none_due : (response : Response) → WasDue told counts port lines start opened.site response → ⊥
  none_due response was = not_longer (port_at told port lines opened.site (told.clock old)).given was.before was.message
      (sym (ap (λ (p : PortState). p.given) (stands was.moment was.from was.until)) ∙ was.given)

  none_added : added_since told counts port lines start opened.journal.entries ≡ []
  none_added = drop_all (length opened.journal.entries) opened.journal.entries (omega arith)

  since_start : opened.journal.entries ++ added_since told counts port lines start opened.journal.entries ≡ opened.journal.entries
  since_start = ap (λ (l : List Entry). opened.journal.entries ++ l) none_added ∙ append-nil opened.journal.entries

  is_history : IsHistory opened.journal.lane opened.journal.lanes opened.journal.entries
  is_history = subst (λ (n : ℕ). IsHistory n opened.journal.lanes opened.journal.entries) (sym new.lane_is)
      (subst (λ (n : ℕ). IsHistory lane n opened.journal.entries) (sym new.lanes_are) history)

  -- at the opening's end
  holds : (moment : ℕ) (image : List ℕ) → told.clock opened.site ≤ moment → moment ≤ told.clock opened.site → told.image_at opened.site moment image
      → Holds opened.journal.lane opened.journal.lanes opened.journal.entries image
  holds moment image from until at =
      let now : moment ≡ told.clock opened.site = omega (arith, from, until) in
      ready_holds told opened.site opened.journal ready image (subst (λ (n : ℕ). told.image_at opened.site n image) now at)

  pub opened_told : KeptTold told counts port lines start opened.site opened.journal.entries opened.lost opened.is_stale opened.heard.pieces
  opened_told = record {
    later = run.past.later;
    heard = λ live. ([], none_given (told.clock opened.site) run.past.later (omega arith), new.silent);
    few = subst (λ (l : List Entry). length l ≤ 16) (sym new.lost) (omega arith);
    stale = λ is. absurd (differ opened.is_stale is new.not_stale);
    left = λ moment image past from until at stands.
        subst (λ (l : List Entry). IsWithFirst told counts port lines start past (added_since told counts port lines start opened.journal.entries ++ l)) (sym new.lost)
        (held_first told counts port lines start opened.journal.entries [] image past since_start is_history (holds moment image from until at) stands);
    fair = λ fair. record {
      sound = sound_opened fair;
      settled = λ response was. absurd (none_due response was);
      settlements = λ entry i. absurd (subst (λ (l : List Entry). In entry l) none_added i);
    };
    all = λ fresh fair response due. absurd (none_due response due);
  }
    where
      differ : (b : Bool) → b ≡ true → b ≡ false → ⊥
      differ true is isnt = cc
      differ false is isnt = cc

module _ {D B C : Type 0} (told : Meaning D B C) (counts : D → Counts) (port : B → PortState) (lines : C → ℕ → List Line)
    (lane lanes : ℕ) (old : D) (opened : LaneValue D) (new : IsNew lane lanes opened) (same : told.tells opened.site ≡ told.tells old)
    (run : Tells told old → DiskRun told old opened.site (IsBeforeOrOpened told old lane lanes)) (seen : Tells told old → image_now told old (told.seen old))
    (history : IsHistory lane lanes opened.journal.entries) (ready : Tells told old → IsReady told opened.site opened.journal) where
  pub opened_kept : (counts old).faults ≤ (counts opened.site).faults → (counts old).wants ≤ (counts opened.site).wants
      → KeptSince told counts port lines (opening_of opened (told.clock old) (told.clock opened.site) (counts old)) opened
  opened_kept faults wants = record {
    lane_is = refl;
    lanes_are = refl;
    entries =
        ap (λ (l : List Entry). opened.journal.entries ++ l) (drop_all (length opened.journal.entries) opened.journal.entries (omega arith)) ∙ append-nil opened.journal.entries;
    faults = faults;
    wants = wants;
    where_told = λ tells. (
        let before : Tells told old = subst IsTrue same tells in
        opened_told told counts port lines lane lanes old opened new (run before) (seen before) history (ready before));
  }
