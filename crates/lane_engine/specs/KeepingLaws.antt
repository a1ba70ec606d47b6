-- A lane is later than itself, and what is later than a later lane is later.
use Rattle.std.proofs.Common.{ℕ, IsTrue, Option, List, [], ◌++◌, refl, sym, ◌∙◌, ap, subst, arith, append-nil, append_assoc}
use Rattle.disk_model.specs.Counts.{Counts}
use Rattle.disk_model.specs.Disk.{Meaning}
use Rattle.disk_model.specs.Runs.{past_at_once, past_joined}
use Rattle.ota_core.specs.declared.entries.Entry.{Entry}
use Rattle.site_model.specs.Port.{PortState}
use Rattle.world_core.specs.declared.lines.Line.{Line}
use Rattle.lane_engine.specs.Keeping.{IsLaterLane}
use Rattle.lane_engine.specs.Kept.{IsLater}
use Rattle.lane_engine.specs.LaneValue.{LaneValue}
use Rattle.lane_engine.specs.declared.answers.LaneErr.{LaneErr}

module _ {D B C : Type 0} (told : Meaning D B C) (counts : D → Counts) (port : B → PortState) (lines : C → ℕ → List Line) where
  -- a lane is after no calls what it is
  pub is_later_itself : (lane : LaneValue D) → IsLater told counts port lines lane lane
  is_later_itself lane = record {
    lane = refl;
    lanes = refl;
    entries = ([], sym (append-nil lane.journal.entries));
    faults = omega arith;
    wants = omega arith;
    tells = refl;
    past = λ tells. past_at_once told lane.site;
    polls = λ tells. omega arith;
    stale = λ is. is;
  }

  -- some calls, and then some others
  pub is_later_chain : (old mid new : LaneValue D) → IsLater told counts port lines old mid → IsLater told counts port lines mid new → IsLater told counts port lines old new
  is_later_chain old mid new first second = record {
    lane = second.lane ∙ first.lane;
    lanes = second.lanes ∙ first.lanes;
    entries = (
      first.entries.0 ++ second.entries.0,
      second.entries.1 ∙ ap (λ (l : List Entry). l ++ second.entries.0) first.entries.1 ∙ append_assoc old.journal.entries first.entries.0 second.entries.0,
    );
    faults = omega (arith, first.faults, second.faults);
    wants = omega (arith, first.wants, second.wants);
    tells = second.tells ∙ first.tells;
    past = λ tells. past_joined told old.site mid.site new.site (first.past tells) (second.past (subst IsTrue (sym first.tells) tells));
    polls = λ tells.
        let one = first.polls tells in
        let two = second.polls (subst IsTrue (sym first.tells) tells) in
        omega (arith, one, two);
    stale = λ is. second.stale (first.stale is);
  }

  pub later_itself : (lane : LaneValue D) → IsLaterLane told counts port lines lane lane
  later_itself lane = record { opened = refl; name = refl; later = is_later_itself lane; kept = λ opening kept. kept }

  pub later_chain : (old mid new : LaneValue D) → IsLaterLane told counts port lines old mid → IsLaterLane told counts port lines mid new → IsLaterLane told counts port lines old new
  later_chain old mid new first second = record {
    opened = second.opened ∙ first.opened;
    name = second.name ∙ first.name;
    later = is_later_chain old mid new first.later second.later;
    kept = λ opening kept. second.kept opening (first.kept opening kept);
  }

  -- only the moment and the end are others
  pub later_set : (lane : LaneValue D) (moment : ℕ) (end : Option LaneErr) → IsLaterLane told counts port lines lane (record lane { moment = moment; end = end })
  later_set lane moment end = record {
    opened = refl;
    name = refl;
    later = record {
      lane = refl;
      lanes = refl;
      entries = ([], sym (append-nil lane.journal.entries));
      faults = omega arith;
      wants = omega arith;
      tells = refl;
      past = λ tells. past_at_once told lane.site;
      polls = λ tells. omega arith;
      stale = λ is. is;
    };
    kept = λ opening kept. record {
      lane_is = kept.lane_is;
      lanes_are = kept.lanes_are;
      entries = kept.entries;
      faults = kept.faults;
      wants = kept.wants;
      where_told = kept.where_told;
    };
  }
