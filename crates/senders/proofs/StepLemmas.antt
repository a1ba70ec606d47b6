-- What one call does with a lane that a sender has by itself, and what a round of such calls did.
use Rattle.std.proofs.Common.{◌≡◌, ◌⊎◌, inl, inr, ℕ, zero, suc, ◌+◌, ◌*◌, ◌<◌, ◌≤◌, ◌==◌, if◌then◌else◌, IsTrue, Bool, true, false, Option, Some, None, Result, Ok, Err, OnOk, IfErr, List, [], ◌∷◌, ◌++◌, length, reverse, take, slice_index_or, refl, sym, ◌∙◌, ap, subst, add-one, arith, append-nil, append_assoc, length-append, ⊎_elim}
use Rattle.std.proofs.Math.Seq.{take-suc}
use Rattle.std.specs.List.{cons_option, filter_map, flat_map}
use Rattle.disk_model.specs.Counts.{Counts}
use Rattle.disk_model.specs.Disk.{Meaning, Tells}
use Rattle.ota_core.specs.Entry.{Reservation, by_of}
use Rattle.ota_core.specs.declared.entries.Entry.{Entry}
use Rattle.ota_core.specs.declared.jobs.JobId.{JobId}
use Rattle.site_model.specs.Cards.{port_now}
use Rattle.site_model.specs.Port.{PortState}
use Rattle.site_model.specs.declared.departures.Departure.{Departure}
use Rattle.site_model.specs.declared.site_faults.SiteFault.TheVariants as fault
use Rattle.world_core.specs.declared.lines.Line.{Line}
use Rattle.lane_lock.specs.Numbers.{Each, IsIn}
use Rattle.lane_lock.proofs.Counting.{Each_map}
use Rattle.lane_engine.specs.Adding.{LaneCause, is_settlement}
use Rattle.lane_engine.specs.Departing.{AreFirst, AreHandedOver, IsResent, IsUnasked, ResendAnswer, departures_under}
use Rattle.lane_engine.specs.Ends.{IsFounded}
use Rattle.lane_engine.specs.Keeping.{IsLaterLane}
use Rattle.lane_engine.specs.KeepingLaws.{later_set, later_chain}
use Rattle.lane_engine.specs.Kept.{KeptSince, IsLater}
use Rattle.lane_engine.specs.LaneValue.{LaneValue, IsSameSettings}
use Rattle.lane_engine.specs.Opening.{Opening}
use Rattle.lane_engine.specs.Polling.{LONGEST_SETTLEMENT, IsPolled, PollingAnswer, PortPolled}
use Rattle.lane_engine.specs.Reserving.{resend_refusal}
use Rattle.lane_engine.specs.Unsettled.{if_unsettled, unless_refused, unsettled_in}
use Rattle.lane_engine.specs.declared.answers.LaneErr.{LaneErr}
use Rattle.lane_engine.specs.declared.answers.LaneErr.TheVariants as lane_err
use Rattle.lane_engine.specs.declared.answers.Poll.{Poll}
use Rattle.senders.specs.Alone.{HasPolled, HasSent, IsAlone, IsWorkedAlone, MayBeAlone, StopsAlone, sender_of}
use Rattle.senders.specs.Rounds.{AllRounds, AreRounds, IsRound, IsSettling, departures_due, due_in, due_of}
use Rattle.senders.specs.Served.{with_lost}
use Rattle.senders.specs.declared.settings.Settings.{Settings}
use Rattle.senders.proofs.AloneLemmas.{alone_none, alone_chain, founded_set}
use Rattle.senders.proofs.RoundLemmas.{due_before, settling_none}
use Rattle.senders.proofs.ServingLemmas.{HasPolledOnce, IsQuiet, entries_polled, lost_own, lost_polled, lost_settle, quiet_grew, risen_before, sent_polled, settings_polled}

not_both : false ≡ true → ⊥
not_both e = cc

each_both : {A : Type 0} (P Q : A → Type 0) (xs : List A) → Each P xs → Each Q xs → Each (λ x. P x × Q x) xs
each_both P Q [] ps qs = tt
each_both P Q (x ∷ xs) ps qs = ((ps.0, qs.0), each_both P Q xs ps.1 qs.1)

-- ---- lists of what is due

module _ (place : ℕ) (entries : List Entry) where
  -- those of two lists of watched jobs
  pub due_and : (xs ys : List (ℕ × JobId)) → due_in place (xs ++ ys) entries ≡ due_in place xs entries ++ due_in place ys entries
  due_and [] ys = refl
  due_and (first ∷ xs) ys = by_due (due_of place entries first) (due_and xs ys)
    where
      by_due : (o : Option Reservation) → due_in place (xs ++ ys) entries ≡ due_in place xs entries ++ due_in place ys entries
          → cons_option o (due_in place (xs ++ ys) entries) ≡ cons_option o (due_in place xs entries) ++ due_in place ys entries
      by_due None rest = rest
      by_due (Some reservation) rest = ap (λ (l : List Reservation). reservation ∷ l) rest

  pub departures_and : (xs ys : List Reservation) → departures_due entries (xs ++ ys) ≡ departures_due entries xs ++ departures_due entries ys
  departures_and [] ys = refl
  departures_and (x ∷ xs) ys = ap (λ (l : List Departure). departures_under entries x ++ l) (departures_and xs ys) ∙ sym (append_assoc (departures_under entries x) (departures_due entries xs) (departures_due entries ys))

  -- where none of them is due there is none
  pub none_due : (watch : List (ℕ × JobId)) → ((k : ℕ) (d : ℕ × JobId) → k < length watch → due_of place entries (slice_index_or watch k d) ≡ None) → due_in place watch entries ≡ []
  none_due [] none = refl
  none_due (watched ∷ watch) none =
      ap (λ (o : Option Reservation). cons_option o (due_in place watch entries)) (none 0 watched (omega arith)) ∙ none_due watch (λ k d lt. none (suc k) d (omega arith))

  -- what is due of a watched job is one of those due
  pub due_there : (watch : List (ℕ × JobId)) (watched : ℕ × JobId) (reservation : Reservation) → IsIn watched watch → due_of place entries watched ≡ Some reservation → IsIn reservation (due_in place watch entries)
  due_there [] watched reservation there is = absurd there
  due_there (first ∷ watch) watched reservation (inl e) is =
      subst (λ (o : Option Reservation). IsIn reservation (cons_option o (due_in place watch entries))) (sym (ap (due_of place entries) e ∙ is)) (inl refl)
  due_there (first ∷ watch) watched reservation (inr there) is = by_due (due_of place entries first) (due_there watch watched reservation there is)
    where
      by_due : (o : Option Reservation) → IsIn reservation (due_in place watch entries) → IsIn reservation (cons_option o (due_in place watch entries))
      by_due None rest = rest
      by_due (Some other) rest = inr rest

-- what is due of one watched job is due of all
pub due_among : (place : ℕ) (entries : List Entry) (watch : List (ℕ × JobId)) (watched : ℕ × JobId) (reservation : Reservation) → IsIn watched watch
    → IsIn reservation (due_in place (watched ∷ []) entries) → IsIn reservation (due_in place watch entries)
due_among place entries watch watched reservation among there = by_due (due_of place entries watched) refl there
  where
    by_due : (o : Option Reservation) → due_of place entries watched ≡ o → IsIn reservation (cons_option o []) → IsIn reservation (due_in place watch entries)
    by_due None is here = absurd here
    by_due (Some found) is (inl e) = due_there place entries watch watched reservation among (is ∙ ap Some e)
    by_due (Some found) is (inr nowhere) = absurd nowhere

pub in_at : {A : Type 0} (xs : List A) (k : ℕ) (d : A) → k < length xs → IsIn (slice_index_or xs k d) xs
in_at [] k d lt = absurd (omega (arith, lt))
in_at (x ∷ xs) zero d lt = inl refl
in_at (x ∷ xs) (suc k) d lt = inr (in_at xs k d (omega (arith, lt)))

pub take_whole : {A : Type 0} (n : ℕ) (xs : List A) → length xs ≤ n → take n xs ≡ xs
take_whole zero [] le = refl
take_whole zero (x ∷ xs) le = absurd (omega (arith, le))
take_whole (suc n) [] le = refl
take_whole (suc n) (x ∷ xs) le = ap (λ l. x ∷ l) (take_whole n xs (omega (arith, le)))

pub lt_or : (k n : ℕ) → (k < n) ⊎ (n ≤ k)
lt_or k zero = inr (omega arith)
lt_or zero (suc n) = inl (omega arith)
lt_or (suc k) (suc n) = ⊎_elim (λ lt. inl (omega (arith, lt))) (λ le. inr (omega (arith, le))) (lt_or k n)

pub on_ok : {T E : Type 0} (P Q : Type 0) (result : Result T E) → (P → Q) → OnOk result P → OnOk result Q
on_ok P Q (Ok x) f h = f h
on_ok P Q (Err e) f h = tt

-- how many of the first are due, and of one more
pub count_more : (place : ℕ) (entries : List Entry) (watch : List (ℕ × JobId)) (index : ℕ) (d : ℕ × JobId) → index < length watch
    → length (due_in place (take (index + 1) watch) entries) ≡ length (due_in place (take index watch) entries) + length (cons_option (due_of place entries (slice_index_or watch index d)) [])
count_more place entries watch index d lt =
    ap (λ (l : List (ℕ × JobId)). length (due_in place l entries)) (ap (λ (n : ℕ). take n watch) (add-one index) ∙ take-suc watch index d lt)
    ∙ (ap (λ (l : List Reservation). length l) (due_and place entries (take index watch) (slice_index_or watch index d ∷ []))
    ∙ length-append (due_in place (take index watch) entries) (due_in place (slice_index_or watch index d ∷ []) entries))

pub count_step : (place : ℕ) (entries : List Entry) (watch : List (ℕ × JobId)) (index : ℕ) (d : ℕ × JobId) (count more : ℕ) → index < length watch → count ≡ length (due_in place (take index watch) entries)
    → more ≡ length (due_in place (slice_index_or watch index d ∷ []) entries) → count + more ≡ length (due_in place (take (index + 1) watch) entries)
count_step place entries watch index d count more lt so one = let all = count_more place entries watch index d lt in omega (arith, so, one, all)

-- what is due may be sent again
pub due_unrefused : (place : ℕ) (entries : List Entry) (watched : ℕ × JobId) (reservation : Reservation) → due_of place entries watched ≡ Some reservation
    → resend_refusal (reverse entries) reservation ≡ None
due_unrefused place entries watched reservation is = by_test (watched.0 == place) is
  where
    by_refusal : (o : Option LaneErr) (other : Reservation) → unless_refused o other ≡ Some reservation → (o ≡ None) × (other ≡ reservation)
    by_refusal None other h = (refl, cc)
    by_refusal (Some e) other h = absurd (clash h)
      where
        clash : None ≡ Some reservation → ⊥
        clash h' = cc

    by_last : (o : Option Reservation) → Rattle.std.specs.Option.option_and_then (if_unsettled (reverse entries)) o ≡ Some reservation → resend_refusal (reverse entries) reservation ≡ None
    by_last None h = absurd (clash h)
      where
        clash : None ≡ Some reservation → ⊥
        clash h' = cc
    by_last (Some other) h =
        let b = by_refusal (resend_refusal (reverse entries) other) other h in subst (λ (r : Reservation). resend_refusal (reverse entries) r ≡ None) b.1 b.0

    by_test : (b : Bool) → (if b then unsettled_in (reverse entries) watched.1 else None) ≡ Some reservation → resend_refusal (reverse entries) reservation ≡ None
    by_test true h = by_last (Rattle.ota_core.specs.History.last_reservation watched.1 (reverse entries)) h
    by_test false h = absurd (clash h)
      where
        clash : None ≡ Some reservation → ⊥
        clash h' = cc

module _ {D B C : Type 0} (told : Meaning D B C) (counts : D → Counts) (port : B → PortState) (lines : C → ℕ → List Line) (by place : ℕ) (watch : List (ℕ × JobId)) where
  abbrev Alone : LaneValue D → LaneValue D → Type 0
  Alone = IsAlone told counts port lines by place watch

  abbrev Port : LaneValue D → PortState
  Port lane = port_now told port lines lane.site

  abbrev Stops : LaneValue D → LaneErr → Type 0
  Stops = StopsAlone told counts port lines

  whole_of : (lane : LaneValue D) → lane.lost ≡ [] → with_lost lane ≡ lane.journal.entries
  whole_of lane none = ap (λ (l : List Entry). lane.journal.entries ++ l) none ∙ append-nil lane.journal.entries

  later_by : (old new : LaneValue D) → IsSameSettings old new → IsLater told counts port lines old new
      → ((opening : Opening) → KeptSince told counts port lines opening old → KeptSince told counts port lines opening new) → IsLaterLane told counts port lines old new
  later_by old new settings later kept = record { opened = settings.opened; name = settings.name; later = later; kept = kept }

  -- it may still be had, after more calls
  pub may_after : (old new : LaneValue D) → MayBeAlone counts old → Alone old new → new.is_stale ≡ false → MayBeAlone counts new
  may_after old new may alone live = record {
    faults = let a = ap (λ (o : Opening). o.counts.faults) alone.later.opened in let b = alone.later.later.faults in let c = may.faults in omega (arith, a, b, c);
    wants = let a = ap (λ (o : Opening). o.counts.wants) alone.later.opened in let b = alone.later.later.wants in let c = may.wants in omega (arith, a, b, c);
    live = λ none. live;
  }

  -- ---- the moment is set

  pub alone_at : (lane : LaneValue D) (moment : ℕ) → Alone lane (record lane { moment = moment })
  alone_at lane moment = record {
    later = later_set told counts port lines lane moment lane.end;
    settling = settling_none by lane.journal.entries;
    all = settling_none by (with_lost lane);
    end = refl;
    handed = λ tells. ([], sym (append-nil (Port lane).sent), tt);
  }

  -- ---- a poll

  module _ (old new : LaneValue D) (no_lost : old.lost ≡ []) (later : IsLater told counts port lines old new)
      (kept : (opening : Opening) → KeptSince told counts port lines opening old → KeptSince told counts port lines opening new) where
    settling_quiet : (quiet : IsQuiet by old.journal.entries new.journal.entries) → IsSettling by old.journal.entries new.journal.entries
    settling_quiet quiet = record {
      added = quiet.more;
      entries = quiet.longer;
      settle = each_both (λ entry. is_settlement entry ≡ true) (λ entry. by_of entry ≡ by) quiet.more quiet.settle quiet.own;
    }

    pub alone_polled : (answer : Poll) → IsPolled old new by (Ok answer) → (Tells told old.site → PortPolled old new by (Port old) (Port new) (Ok answer)) → Alone old new
    alone_polled answer polled ports =
        let settling = settling_quiet (quiet_grew by old.journal.entries new.journal.entries answer polled.0) in
        record {
          later = later_by old new polled.2.settings later kept;
          settling = settling;
          all = record {
            added = settling.added;
            entries = whole_of new (polled.3 ∙ no_lost) ∙ (settling.entries ∙ ap (λ (l : List Entry). l ++ settling.added) (sym (whole_of old no_lost)));
            settle = settling.settle;
          };
          end = polled.2.settings.end;
          handed = λ tells. ([], (ports tells).0 ∙ sym (append-nil (Port old).sent), tt);
        }

    pub alone_not_polled : (error : LaneErr) → IsPolled old new by (Err error) → (Tells told old.site → PortPolled old new by (Port old) (Port new) (Err error)) → Alone old new
    alone_not_polled error polled ports =
        let same = entries_polled by old new error polled in
        let gone = lost_polled by old new error no_lost polled in
        record {
          later = later_by old new (settings_polled by old new error polled) later kept;
          settling = record { added = []; entries = same ∙ sym (append-nil old.journal.entries); settle = tt };
          all = record {
            added = new.lost;
            entries = ap (λ (l : List Entry). l ++ new.lost) (same ∙ sym (whole_of old no_lost));
            settle = each_both (λ entry. is_settlement entry ≡ true) (λ entry. by_of entry ≡ by) new.lost (lost_settle by new.lost gone) (lost_own by new.lost gone);
          };
          end = (settings_polled by old new error polled).end;
          handed = λ tells. ([], sent_polled by old new (Port old) (Port new) error (ports tells) ∙ sym (append-nil (Port old).sent), tt);
        }

    pub stops_polled : (error : LaneErr) → MayBeAlone counts old → old.is_stale ≡ false → PollingAnswer old (Err error) → IsPolled old new by (Err error)
        → LaneCause {T = Poll} (counts old.site) (counts new.site) (Err error) → Stops new error
    stops_polled lane_err.Memory may live answer polled cause = record { founded = tt; need = λ len need e. absurd (clash e) }
      where
        clash : {len need : ℕ} → lane_err.Memory ≡ lane_err.Full len need → ⊥
        clash e = cc
    stops_polled lane_err.Stale may live answer polled cause = absurd (not_both (sym live ∙ answer))
    stops_polled (lane_err.SiteFault fault.Failed) may live answer polled cause = record {
      founded = let a = ap (λ (o : Opening). o.counts.faults) polled.2.settings.opened in let b = may.faults in
          risen_before new.opened.counts.faults (counts old.site).faults (counts new.site).faults (omega (arith, a, b)) cause.answer;
      need = λ len need e. absurd (clash e);
    }
      where
        clash : {len need : ℕ} → lane_err.SiteFault fault.Failed ≡ lane_err.Full len need → ⊥
        clash e = cc
    stops_polled (lane_err.SiteFault fault.Memory) may live answer polled cause = record {
      founded = let a = ap (λ (o : Opening). o.counts.wants) polled.2.settings.opened in let b = may.wants in
          risen_before new.opened.counts.wants (counts old.site).wants (counts new.site).wants (omega (arith, a, b)) cause.answer;
      need = λ len need e. absurd (clash e);
    }
      where
        clash : {len need : ℕ} → lane_err.SiteFault fault.Memory ≡ lane_err.Full len need → ⊥
        clash e = cc
    stops_polled (lane_err.Full len need) may live answer polled cause = record {
      founded = (answer.1 ∙ sym polled.length, polled.is_stale ∙ answer.0, answer.3, inl answer.2);
      need = λ len' need' e. sym (same_need e) ∙ answer.2;
    }
      where
        need_in : LaneErr → ℕ
        need_in (lane_err.Full l n) = n
        need_in _ = 0

        same_need : {len' need' : ℕ} → lane_err.Full len need ≡ lane_err.Full len' need' → need ≡ need'
        same_need e = cc
    stops_polled lane_err.Closed may live answer polled cause = absurd answer
    stops_polled lane_err.Exhausted may live answer polled cause = absurd answer
    stops_polled lane_err.UnknownKeyset may live answer polled cause = absurd answer
    stops_polled (lane_err.AlreadyReserved counter) may live answer polled cause = absurd answer
    stops_polled lane_err.NotReserved may live answer polled cause = absurd answer

  -- ---- a packet that is sent again

  module _ (old new : LaneValue D) (reservation : Reservation) (due : IsIn reservation (due_in place watch old.journal.entries)) (later : IsLater told counts port lines old new)
      (kept : (opening : Opening) → KeptSince told counts port lines opening old → KeptSince told counts port lines opening new) where
    -- whatever was handed over of it
    alone_resent : new.journal ≡ old.journal → IsSameSettings old new → new.lost ≡ old.lost
        → (Tells told old.site → AreFirst (departures_under old.journal.entries reservation) (Port old) (Port new)) → Alone old new
    alone_resent same settings lost first = record {
      later = later_by old new settings later kept;
      settling = record { added = []; entries = entries ∙ sym (append-nil old.journal.entries); settle = tt };
      all = record {
        added = [];
        entries = ap (λ (l : List Entry). l ++ new.lost) entries ∙ (ap (λ (l : List Entry). old.journal.entries ++ l) lost ∙ sym (append-nil (with_lost old)));
        settle = tt;
      };
      end = settings.end;
      handed = λ tells.
          let f = first tells in
          let pieces = departures_under old.journal.entries reservation in (
            take f.0 pieces,
            f.2,
            all_taken Sends pieces f.0 (λ departure there. (reservation, due, subst (λ (l : List Entry). IsIn departure (departures_under l reservation)) (sym entries) there)),
          );
    }
      where
        entries : new.journal.entries ≡ old.journal.entries
        entries = ap (λ (j : Rattle.counter_journal.specs.JournalReading.JournalValue). j.entries) same

        Sends : Departure → Type 0
        Sends departure = (other : Reservation) × IsIn other (due_in place watch old.journal.entries) × IsIn departure (departures_under new.journal.entries other)

        all_taken : (P : Departure → Type 0) (pieces : List Departure) (count : ℕ) → ((departure : Departure) → IsIn departure pieces → P departure) → Each P (take count pieces)
        all_taken P [] zero all = tt
        all_taken P [] (suc count) all = tt
        all_taken P (piece ∷ pieces) zero all = tt
        all_taken P (piece ∷ pieces) (suc count) all = (all piece (inl refl), all_taken P pieces count (λ departure there. all departure (inr there)))

    pub alone_sent : IsResent old new (Ok tt) → (Tells told old.site → AreHandedOver (departures_under old.journal.entries reservation) (Port old) (Port new) (Ok tt)) → Alone old new
    alone_sent resent handed = alone_resent resent.0 resent.2.settings resent.3 (λ tells.
        let pieces = departures_under old.journal.entries reservation in
        (length pieces, omega arith, handed tells ∙ ap (λ (l : List Departure). (Port old).sent ++ l) (sym (Rattle.std.proofs.Math.Seq.take-length pieces))))

    pub has_sent : IsResent old new (Ok tt) → (Tells told old.site → AreHandedOver (departures_under old.journal.entries reservation) (Port old) (Port new) (Ok tt))
        → (Tells told old.site → IsUnasked (Port old) (Port new)) → Tells told old.site → HasSent told counts port lines (departures_due old.journal.entries (reservation ∷ [])) old new
    has_sent resent handed unasked tells = record {
      sent = handed tells ∙ ap (λ (l : List Departure). (Port old).sent ++ l) (sym (append-nil (departures_under old.journal.entries reservation)));
      polls = (unasked tells).polls;
    }

    -- a refusal: nothing refuses it but a fault of the site
    pub stops_sent : (error : LaneErr) → MayBeAlone counts old → old.is_stale ≡ false → resend_refusal (reverse old.journal.entries) reservation ≡ None
        → ResendAnswer old (resend_refusal (reverse old.journal.entries) reservation) (Err error) → IsResent old new (Err error)
        → (Tells told old.site → AreHandedOver (departures_under old.journal.entries reservation) (Port old) (Port new) (Err error))
        → LaneCause {T = Unit {0}} (counts old.site) (counts new.site) (Err error) → Alone old new × Stops new error × (new.journal.entries ≡ old.journal.entries)
    stops_sent error may live free answer resent handed cause = by_error error answer resent handed cause
      where
        clash : {e : LaneErr} → resend_refusal (reverse old.journal.entries) reservation ≡ Some e → ⊥
        clash is = no (sym free ∙ is)
          where
            no : {e : LaneErr} → None ≡ Some e → ⊥
            no h = cc

        not_full : (f : Rattle.site_model.specs.declared.site_faults.SiteFault.SiteFault) (len need : ℕ) → lane_err.SiteFault f ≡ lane_err.Full len need → need ≡ LONGEST_SETTLEMENT
        not_full f len need e = cc

        alone_fault : (f : Rattle.site_model.specs.declared.site_faults.SiteFault.SiteFault) → IsResent old new (Err (lane_err.SiteFault f))
            → (Tells told old.site → AreHandedOver (departures_under old.journal.entries reservation) (Port old) (Port new) (Err (lane_err.SiteFault f))) → Alone old new
        alone_fault f resent handed = alone_resent resent.0 resent.2.settings resent.3 handed

        same_entries : new.journal ≡ old.journal → new.journal.entries ≡ old.journal.entries
        same_entries same = ap (λ (j : Rattle.counter_journal.specs.JournalReading.JournalValue). j.entries) same

        by_error : (error : LaneErr) → ResendAnswer old (resend_refusal (reverse old.journal.entries) reservation) (Err error) → IsResent old new (Err error)
            → (Tells told old.site → AreHandedOver (departures_under old.journal.entries reservation) (Port old) (Port new) (Err error))
            → LaneCause {T = Unit {0}} (counts old.site) (counts new.site) (Err error) → Alone old new × Stops new error × (new.journal.entries ≡ old.journal.entries)
        by_error lane_err.Memory answer resent handed cause = absurd (clash answer.1)
        by_error lane_err.Stale answer resent handed cause = absurd (not_both (sym live ∙ answer))
        by_error (lane_err.SiteFault fault.Failed) answer resent handed cause = (
          alone_fault fault.Failed resent handed,
          record {
            founded = let a = ap (λ (o : Opening). o.counts.faults) resent.2.settings.opened in let b = may.faults in
                risen_before new.opened.counts.faults (counts old.site).faults (counts new.site).faults (omega (arith, a, b)) cause.answer;
            need = not_full fault.Failed;
          },
          same_entries resent.0,
        )
        by_error (lane_err.SiteFault fault.Memory) answer resent handed cause = (
          alone_fault fault.Memory resent handed,
          record {
            founded = let a = ap (λ (o : Opening). o.counts.wants) resent.2.settings.opened in let b = may.wants in
                risen_before new.opened.counts.wants (counts old.site).wants (counts new.site).wants (omega (arith, a, b)) cause.answer;
            need = not_full fault.Memory;
          },
          same_entries resent.0,
        )
        by_error (lane_err.Full len need) answer resent handed cause = absurd (clash answer.1)
        by_error lane_err.Closed answer resent handed cause = absurd (clash answer.1)
        by_error lane_err.Exhausted answer resent handed cause = absurd (clash answer.1)
        by_error lane_err.UnknownKeyset answer resent handed cause = absurd (clash answer.1)
        by_error (lane_err.AlreadyReserved counter) answer resent handed cause = absurd (clash answer.1)
        by_error lane_err.NotReserved answer resent handed cause = absurd (clash answer.1)

  -- what is had by one watched job is had by all
  pub alone_among : (watched : ℕ × JobId) (old new : LaneValue D) → IsIn watched watch → IsAlone told counts port lines by place (watched ∷ []) old new → Alone old new
  alone_among watched old new among alone = record {
    later = alone.later;
    settling = alone.settling;
    all = alone.all;
    end = alone.end;
    handed = λ tells.
        let h = alone.handed tells in (
          h.0,
          h.1,
          Each_map (λ departure. (other : Reservation) × IsIn other (due_in place (watched ∷ []) old.journal.entries) × IsIn departure (departures_under new.journal.entries other))
              (λ departure. (other : Reservation) × IsIn other (due_in place watch old.journal.entries) × IsIn departure (departures_under new.journal.entries other)) h.0
              (λ departure r. (r.0, due_among place old.journal.entries watch watched r.0 among r.1, r.2)) h.2,
        );
  }

  -- ---- what calls handed over, one after another

  pub sent_none : (lane : LaneValue D) → HasSent told counts port lines [] lane lane
  sent_none lane = record { sent = sym (append-nil (Port lane).sent); polls = refl }

  pub sent_chain : (first second : List Departure) (old mid new : LaneValue D) → HasSent told counts port lines first old mid → HasSent told counts port lines second mid new
      → HasSent told counts port lines (first ++ second) old new
  sent_chain first second old mid new one two = record {
    sent = two.sent ∙ (ap (λ (l : List Departure). l ++ second) one.sent ∙ append_assoc (Port old).sent first second);
    polls = two.polls ∙ one.polls;
  }

  -- the first watched jobs were sent again, and one more
  pub sent_more : (index : ℕ) (d : ℕ × JobId) (old mid new : LaneValue D) → index < length watch → mid.journal.entries ≡ old.journal.entries
      → HasSent told counts port lines (departures_due old.journal.entries (due_in place (take index watch) old.journal.entries)) old mid
      → HasSent told counts port lines (departures_due mid.journal.entries (due_in place (slice_index_or watch index d ∷ []) mid.journal.entries)) mid new
      → HasSent told counts port lines (departures_due old.journal.entries (due_in place (take (index + 1) watch) old.journal.entries)) old new
  sent_more index d old mid new lt same first second =
      let e = old.journal.entries in
      let one' : List (ℕ × JobId) = slice_index_or watch index d ∷ [] in
      subst (λ (l : List Departure). HasSent told counts port lines l old new)
      (sym (departures_and place e (due_in place (take index watch) e) (due_in place one' e))
      ∙ (ap (departures_due e) (sym (due_and place e (take index watch) one'))
      ∙ ap (λ (l : List (ℕ × JobId)). departures_due e (due_in place l e)) (sym (ap (λ (n : ℕ). take n watch) (add-one index) ∙ take-suc watch index d lt))))
      (sent_chain (departures_due e (due_in place (take index watch) e)) (departures_due e (due_in place one' e)) old mid new first
      (subst (λ (l : List Entry). HasSent told counts port lines (departures_due l (due_in place one' l)) mid new) same second))

  -- ---- a round

  pub round_of : (resends : Bool) (polls : ℕ) (old mid new : LaneValue D) → IsSettling by old.journal.entries new.journal.entries
      → HasSent told counts port lines (if resends then departures_due old.journal.entries (due_in place watch old.journal.entries) else []) old mid
      → HasPolled told counts port lines place watch (polls * length (due_in place watch old.journal.entries)) mid new → IsRound told port lines place by watch polls resends old new
  round_of resends polls old mid new settling sent polled = record {
    settling = settling;
    sent = polled.sent ∙ sent.sent;
    polled = (polled.count, polled.asked ∙ ap (λ (n : ℕ). n + polled.count) sent.polls, polled.enough);
  }

  pub rounds_more : (polls count : ℕ) (old mid new : LaneValue D) → AreRounds told port lines place by watch polls count old mid → IsRound told port lines place by watch polls true mid new
      → AreRounds told port lines place by watch polls (suc count) old new
  rounds_more polls zero old mid new same round = (new, subst (λ (l : LaneValue D). IsRound told port lines place by watch polls true l new) same round, refl)
  rounds_more polls (suc count) old mid new (first, one, rest) round = (first, one, rounds_more polls count first mid new rest round)

  -- ---- polls, one after another

  -- what is not due stays so
  pub none_after : (next : ℕ) (old new : LaneValue D) → IsSettling by old.journal.entries new.journal.entries
      → ((k : ℕ) (d : ℕ × JobId) → k < next → due_of place old.journal.entries (slice_index_or watch k d) ≡ None)
      → (k : ℕ) (d : ℕ × JobId) → k < next → due_of place new.journal.entries (slice_index_or watch k d) ≡ None
  none_after next old new settling none k d lt = by_due (due_of place new.journal.entries (slice_index_or watch k d)) refl
    where
      by_due : (o : Option Reservation) → due_of place new.journal.entries (slice_index_or watch k d) ≡ o → o ≡ None
      by_due None is = refl
      by_due (Some found) is = absurd (clash (sym (none k d lt) ∙ due_before by place (slice_index_or watch k d) old.journal.entries new.journal.entries settling found is))
        where
          clash : None ≡ Some found → ⊥
          clash h = cc

  -- ---- a poll at a moment

  -- what it left at Ok
  pub record IsPolledAt (old lane last : LaneValue D) : Type 0 where
    pub alone : Alone old last
    pub live : last.is_stale ≡ false
    pub whole : last.lost ≡ []
    pub settling : IsSettling by lane.journal.entries last.journal.entries
    pub ports : Tells told old.site → ((Port last).sent ≡ (Port lane).sent) × ((Port last).polls ≡ (Port lane).polls + 1)

  pub polled_at : (old lane set last : LaneValue D) (moment : ℕ) (answer : Poll) → Alone old lane → lane.lost ≡ [] → set ≡ record lane { moment = moment }
      → HasPolledOnce told counts port lines by set last (Ok answer) → IsPolledAt old lane last
  polled_at old lane set last moment answer before whole is facts =
      let f = subst (λ (l : LaneValue D). HasPolledOnce told counts port lines by l last (Ok answer)) is facts in
      let asked : LaneValue D = record lane { moment = moment } in
      let step = alone_polled asked last whole f.later f.kept answer f.polled f.ports in
      record {
        alone = alone_chain told counts port lines by place watch old asked last (alone_chain told counts port lines by place watch old lane asked before (alone_at lane moment)) step;
        live = f.polled.1;
        whole = f.polled.3 ∙ whole;
        settling = step.settling;
        ports = λ tells. let p = f.ports (subst IsTrue (sym before.later.later.tells) tells) in (p.0, p.1);
      }

  pub stopped_at : (old lane set last : LaneValue D) (moment : ℕ) (error : LaneErr) → Alone old lane → lane.lost ≡ [] → MayBeAlone counts old → lane.is_stale ≡ false → set ≡ record lane { moment = moment }
      → HasPolledOnce told counts port lines by set last (Err error) → Alone old last × Stops last error
  stopped_at old lane set last moment error before whole may live is facts =
      let f = subst (λ (l : LaneValue D). HasPolledOnce told counts port lines by l last (Err error)) is facts in
      let asked : LaneValue D = record lane { moment = moment } in
      let may_now = may_after old lane may before live in
      let may_asked : MayBeAlone counts asked = record { faults = may_now.faults; wants = may_now.wants; live = may_now.live } in (
        alone_chain told counts port lines by place watch old asked last (alone_chain told counts port lines by place watch old lane asked before (alone_at lane moment))
            (alone_not_polled asked last whole f.later f.kept error f.polled f.ports),
        stops_polled asked last whole f.later f.kept error may_asked live f.answer f.polled f.cause,
      )

-- ---- a watched job is sent again, where it is due

module _ {D B C : Type 0} (told : Meaning D B C) (counts : D → Counts) (port : B → PortState) (lines : C → ℕ → List Line) (by place : ℕ) (watched : ℕ × JobId) where
  abbrev one : List (ℕ × JobId)
  one = watched ∷ []

  -- what came of it
  pub record IsSentOnce (old new : LaneValue D) (result : Result (Unit {0}) LaneErr) : Type 0 where
    pub alone : IsAlone told counts port lines by place one old new
    pub entries : new.journal.entries ≡ old.journal.entries
    pub sent : OnOk result ((new.is_stale ≡ false) × (new.lost ≡ [])
        × (Tells told old.site → HasSent told counts port lines (departures_due old.journal.entries (due_in place one old.journal.entries)) old new))
    pub stops : IfErr result (StopsAlone told counts port lines new)

  -- none is due
  pub once_none : (lane : LaneValue D) → lane.is_stale ≡ false → lane.lost ≡ [] → due_of place lane.journal.entries watched ≡ None → IsSentOnce lane lane (Ok tt)
  once_none lane live whole none = record {
    alone = alone_none told counts port lines by place one lane;
    entries = refl;
    sent = (
      live,
      whole,
      λ tells. subst (λ (o : Option Reservation). HasSent told counts port lines (departures_due lane.journal.entries (cons_option o [])) lane lane) (sym none) (sent_none told counts port lines by place one lane),
    );
    stops = tt;
  }

  pub once_sent : (old new : LaneValue D) (reservation : Reservation) (result : Result (Unit {0}) LaneErr) → due_of place old.journal.entries watched ≡ Some reservation
      → MayBeAlone counts old → old.is_stale ≡ false → old.lost ≡ [] → IsLater told counts port lines old new
      → ((opening : Opening) → KeptSince told counts port lines opening old → KeptSince told counts port lines opening new)
      → ResendAnswer old (resend_refusal (reverse old.journal.entries) reservation) result → IsResent old new result
      → (Tells told old.site → AreHandedOver (departures_under old.journal.entries reservation) (port_now told port lines old.site) (port_now told port lines new.site) result)
      → (Tells told old.site → IsUnasked (port_now told port lines old.site) (port_now told port lines new.site)) → LaneCause {T = Unit {0}} (counts old.site) (counts new.site) result
      → IsSentOnce old new result
  once_sent old new reservation (Ok done) is may live whole later kept answer resent handed unasked cause = record {
    alone = alone_sent told counts port lines by place one old new reservation there later kept resent handed;
    entries = ap (λ (j : Rattle.counter_journal.specs.JournalReading.JournalValue). j.entries) resent.0;
    sent = (
      resent.1,
      resent.3 ∙ whole,
      λ tells.
          subst (λ (l : List Reservation). HasSent told counts port lines (departures_due old.journal.entries l) old new) (sym alike)
          (has_sent told counts port lines by place one old new reservation there later kept resent handed unasked tells),
    );
    stops = tt;
  }
    where
      alike : due_in place one old.journal.entries ≡ reservation ∷ []
      alike = ap (λ (o : Option Reservation). cons_option o []) is

      there : IsIn reservation (due_in place one old.journal.entries)
      there = subst (IsIn reservation) (sym alike) (inl refl)
  once_sent old new reservation (Err error) is may live whole later kept answer resent handed unasked cause = record {
    alone = stopped.0;
    entries = stopped.2;
    sent = tt;
    stops = stopped.1;
  }
    where
      there : IsIn reservation (due_in place one old.journal.entries)
      there = subst (IsIn reservation) (sym (ap (λ (o : Option Reservation). cons_option o []) is)) (inl refl)

      stopped : IsAlone told counts port lines by place one old new × StopsAlone told counts port lines new error × (new.journal.entries ≡ old.journal.entries)
      stopped = stops_sent told counts port lines by place one old new reservation there later kept error may live (due_unrefused place old.journal.entries watched reservation is) answer resent handed cause

-- ---- a lane on which its sender worked

module _ {D B C : Type 0} (told : Meaning D B C) (counts : D → Counts) (port : B → PortState) (lines : C → ℕ → List Line) (settings : Settings) (place : ℕ) (watch : List (ℕ × JobId)) where
  abbrev Worked : LaneValue D → LaneValue D → Type 0
  Worked = IsWorkedAlone told counts port lines settings place watch

  not_some : {A : Type 0} {x : A} → None ≡ Some x → ⊥
  not_some h = cc

  -- it had an end
  pub worked_ended : (lane : LaneValue D) (end : LaneErr) → lane.end ≡ Some end → Worked lane lane
  worked_ended lane end is = record {
    later = alone.later;
    settling = alone.settling;
    all = alone.all;
    ended = λ other q. refl;
    founded = λ other none q. absurd (not_some (sym none ∙ is));
    need = λ len need none q. absurd (not_some (sym none ∙ is));
    live = λ none. absurd (not_some (sym none ∙ is));
    whole = λ none. absurd (not_some (sym none ∙ is));
    handed = alone.handed;
    rounds = λ tells none. absurd (not_some (sym none ∙ is));
  }
    where
      alone : IsAlone told counts port lines (sender_of settings.senders place) place watch lane lane
      alone = alone_none told counts port lines (sender_of settings.senders place) place watch lane

  -- all rounds were made
  pub worked_all : (old new : LaneValue D) → old.end ≡ None → IsAlone told counts port lines (sender_of settings.senders place) place watch old new → new.is_stale ≡ false → new.lost ≡ []
      → (Tells told old.site → AllRounds told port lines place (sender_of settings.senders place) watch settings.polls settings.resends old new) → Worked old new
  worked_all old new no_end alone live whole rounds = record {
    later = alone.later;
    settling = alone.settling;
    all = alone.all;
    ended = λ end is. absurd (not_some (sym no_end ∙ is));
    founded = λ end none is. absurd (not_some (sym no_end ∙ (sym alone.end ∙ is)));
    need = λ len need none is. absurd (not_some (sym no_end ∙ (sym alone.end ∙ is)));
    live = λ none. live;
    whole = λ none. whole;
    handed = alone.handed;
    rounds = λ tells none. rounds tells;
  }

  -- a refusal became its end
  pub worked_stopped : (old mid : LaneValue D) (error : LaneErr) → old.end ≡ None → IsAlone told counts port lines (sender_of settings.senders place) place watch old mid
      → StopsAlone told counts port lines mid error → Worked old (record mid { end = Some error })
  worked_stopped old mid error no_end alone stops = record {
    later = later_chain told counts port lines old mid (record mid { end = Some error }) alone.later (later_set told counts port lines mid mid.moment (Some error));
    settling = alone.settling;
    all = alone.all;
    ended = λ end is. absurd (not_some (sym no_end ∙ is));
    founded = λ end none is.
        subst (λ (e : LaneErr). IsFounded counts mid.opened.counts (record mid { end = Some error }) e) (same_some is) (founded_set counts mid.opened.counts mid (Some error) error stops.founded);
    need = λ len need none is. stops.need len need (same_some is);
    live = λ none. absurd (not_some (sym none));
    whole = λ none. absurd (not_some (sym none));
    handed = alone.handed;
    rounds = λ tells none. absurd (not_some (sym none));
  }
    where
      same_some : {x y : LaneErr} → Some x ≡ Some y → x ≡ y
      same_some h = cc
