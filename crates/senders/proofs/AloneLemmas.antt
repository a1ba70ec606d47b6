-- Calls of a lane that one sender has, one after another.
use Rattle.std.proofs.Common.{◌≡◌, inl, inr, ℕ, IsTrue, Option, Some, None, List, [], ◌∷◌, ◌++◌, refl, sym, ◌∙◌, ap, subst, append-nil, append_assoc}
use Rattle.std.specs.List.{cons_option}
use Rattle.disk_model.specs.Counts.{Counts}
use Rattle.disk_model.specs.Disk.{Meaning, Tells}
use Rattle.ota_core.specs.Entry.{Reservation}
use Rattle.ota_core.specs.declared.entries.Entry.{Entry}
use Rattle.ota_core.specs.declared.jobs.JobId.{JobId}
use Rattle.site_model.specs.Cards.{port_now}
use Rattle.site_model.specs.Port.{PortState}
use Rattle.site_model.specs.declared.departures.Departure.{Departure}
use Rattle.site_model.specs.declared.site_faults.SiteFault.TheVariants as fault
use Rattle.world_core.specs.declared.lines.Line.{Line}
use Rattle.lane_lock.specs.Numbers.{IsIn}
use Rattle.lane_lock.proofs.Counting.{Each_append, Each_map}
use Rattle.lane_engine.specs.Departing.{departures_under}
use Rattle.lane_engine.specs.Ends.{IsFounded}
use Rattle.lane_engine.specs.KeepingLaws.{later_itself, later_chain}
use Rattle.lane_engine.specs.LaneValue.{LaneValue}
use Rattle.lane_engine.specs.declared.answers.LaneErr.{LaneErr}
use Rattle.lane_engine.specs.declared.answers.LaneErr.TheVariants as lane_err
use Rattle.senders.specs.Alone.{HasResent, IsAlone}
use Rattle.senders.specs.Rounds.{IsSettling, due_in, due_of}
use Rattle.senders.specs.Served.{with_lost}
use Rattle.senders.proofs.RoundLemmas.{departures_before, due_before, settling_chain, settling_none}

-- a reservation that is due later was due before
pub due_in_before : (by place : ℕ) (watch : List (ℕ × JobId)) (old new : List Entry) (reservation : Reservation) → IsSettling by old new
    → IsIn reservation (due_in place watch new) → IsIn reservation (due_in place watch old)
due_in_before by place [] old new reservation settling there = absurd there
due_in_before by place (watched ∷ watch) old new reservation settling there =
    by_due (due_of place new watched) (due_of place old watched) (due_before by place watched old new settling) there (λ here. due_in_before by place watch old new reservation settling here)
  where
    clash : (r : Reservation) → None ≡ Some r → ⊥
    clash r e = cc

    same_some : (r s : Reservation) → Some r ≡ Some s → r ≡ s
    same_some r s e = cc

    by_due : (n o : Option Reservation) → ((found : Reservation) → n ≡ Some found → o ≡ Some found) → IsIn reservation (cons_option n (due_in place watch new))
        → (IsIn reservation (due_in place watch new) → IsIn reservation (due_in place watch old)) → IsIn reservation (cons_option o (due_in place watch old))
    by_due None None before here others = others here
    by_due None (Some s) before here others = inr (others here)
    by_due (Some r) None before here others = absurd (clash r (before r refl))
    by_due (Some r) (Some s) before (inl e) others = inl (same_some s r (before r refl) ∙ e)
    by_due (Some r) (Some s) before (inr here) others = inr (others here)

-- an end is founded of a lane that gets it
pub founded_set : {D : Type 0} (counts : D → Counts) (before : Counts) (lane : LaneValue D) (end : Option LaneErr) (error : LaneErr) → IsFounded counts before lane error
    → IsFounded counts before (record lane { end = end }) error
founded_set counts before lane end lane_err.Memory founded = tt
founded_set counts before lane end lane_err.Stale founded = founded
founded_set counts before lane end (lane_err.SiteFault fault.Failed) founded = founded
founded_set counts before lane end (lane_err.SiteFault fault.Memory) founded = founded
founded_set counts before lane end (lane_err.Full length need) founded = founded
founded_set counts before lane end lane_err.Closed founded = founded
founded_set counts before lane end lane_err.Exhausted founded = founded
founded_set counts before lane end lane_err.UnknownKeyset founded = founded
founded_set counts before lane end (lane_err.AlreadyReserved counter) founded = founded
founded_set counts before lane end lane_err.NotReserved founded = founded

module _ {D B C : Type 0} (told : Meaning D B C) (counts : D → Counts) (port : B → PortState) (lines : C → ℕ → List Line) (by place : ℕ) (watch : List (ℕ × JobId)) where
  pub alone_none : (lane : LaneValue D) → IsAlone told counts port lines by place watch lane lane
  alone_none lane = record {
    later = later_itself told counts port lines lane;
    settling = settling_none by lane.journal.entries;
    all = settling_none by (with_lost lane);
    end = refl;
    handed = λ tells. ([], sym (append-nil (port_now told port lines lane.site).sent), tt);
  }

  pub alone_chain : (old mid new : LaneValue D) → IsAlone told counts port lines by place watch old mid → IsAlone told counts port lines by place watch mid new
      → IsAlone told counts port lines by place watch old new
  alone_chain old mid new first second = record {
    later = later_chain told counts port lines old mid new first.later second.later;
    settling = settling_chain by old.journal.entries mid.journal.entries new.journal.entries first.settling second.settling;
    all = settling_chain by (with_lost old) (with_lost mid) (with_lost new) first.all second.all;
    end = second.end ∙ first.end;
    handed = λ tells. handed tells (first.handed tells) (second.handed (subst IsTrue (sym first.later.later.tells) tells));
  }
    where
      handed : Tells told old.site → HasResent told counts port lines place watch old mid → HasResent told counts port lines place watch mid new → HasResent told counts port lines place watch old new
      handed tells (early, sent_early, each_early) (late, sent_late, each_late) = (
        early ++ late,
        sent_late ∙ ap (λ (l : List Departure). l ++ late) sent_early ∙ append_assoc (port_now told port lines old.site).sent early late,
        Each_append (λ departure. (reservation : Reservation) × IsIn reservation (due_in place watch old.journal.entries) × IsIn departure (departures_under new.journal.entries reservation)) early late
            (Each_map (λ departure. (reservation : Reservation) × IsIn reservation (due_in place watch old.journal.entries) × IsIn departure (departures_under mid.journal.entries reservation))
            (λ departure. (reservation : Reservation) × IsIn reservation (due_in place watch old.journal.entries) × IsIn departure (departures_under new.journal.entries reservation)) early
            (λ departure r. (r.0, r.1, subst (IsIn departure) (sym (departures_before by mid.journal.entries new.journal.entries second.settling r.0)) r.2)) each_early)
            (Each_map (λ departure. (reservation : Reservation) × IsIn reservation (due_in place watch mid.journal.entries) × IsIn departure (departures_under new.journal.entries reservation))
            (λ departure. (reservation : Reservation) × IsIn reservation (due_in place watch old.journal.entries) × IsIn departure (departures_under new.journal.entries reservation)) late
            (λ departure r. (r.0, due_in_before by place watch old.journal.entries mid.journal.entries r.0 first.settling r.1, r.2)) each_late),
      )
