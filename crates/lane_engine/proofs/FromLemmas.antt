-- Packets that are built and handed over from a position of the history on.
use Rattle.std.proofs.Common.{◌≡◌, inl, inr, ℕ, ◌+◌, ◌-◌, ◌≤◌, ◌<◌, suc, IsTrue, Some, Option, Ok, Err, List, [], ◌++◌, length, drop, get_or, refl, sym, ◌∙◌, ap, subst, arith, append-nil, append_assoc}
use Rattle.std.proofs.Math.Seq.{drop-cons}
use Rattle.std.proofs.lemmas.List.{drop_all}
use Rattle.std.proofs.lemmas.Option.{slice_get_cases}
use Rattle.std.specs.List.{slice_get}
use Rattle.std.specs.Option.{option_and_then}
use Rattle.disk_model.specs.Counts.{Counts}
use Rattle.disk_model.specs.Disk.{Meaning, Tells}
use Rattle.ota_core.specs.declared.entries.Entry.{Entry}
use Rattle.site_model.specs.Port.{PortState}
use Rattle.site_model.specs.declared.departures.Departure.{Departure}
use Rattle.world_core.specs.Packet.{packet_at, packet_of}
use Rattle.world_core.specs.declared.lines.Line.{Line}
use Rattle.world_core.specs.declared.segments.Sent.{Sent}
use Rattle.lane_engine.specs.Departing.{pieces_at, pieces_from}
use Rattle.lane_engine.specs.Packets.{departures_for, departures_if}
use Rattle.lane_engine.specs.Sending.{AreAllHanded, HandsOver, HandsOverBuilt}
use Rattle.lane_engine.specs.World.{AreSent}
use Rattle.lane_engine.specs.declared.answers.LaneErr.{LaneErr}
use Rattle.lane_engine.proofs.PortLemmas.{sent_append}
use Rattle.lane_engine.proofs.SendLemmas.{all_then, hands_none, hands_then}

-- the departures and the pieces from a position of the history on
abbrev pub departures_since : List Entry → ℕ → List Departure
departures_since entries position = departures_for entries (drop position entries)

abbrev pub pieces_since : List Entry → ℕ → List Sent
pieces_since entries position = pieces_from entries position (length entries - position)

departures_of_entry : (entries : List Entry) (position : ℕ) (entry : Entry) → position < length entries → slice_get entries position ≡ Some entry → get_or entries position entry ≡ entry
    → departures_since entries position ≡ departures_if (packet_at entries position) ++ departures_since entries (suc position)
departures_of_entry entries position entry below found is =
    ap (departures_for entries) (drop-cons entries position entry below)
    ∙ ap (λ (e : Entry). departures_if (packet_of entries e) ++ departures_since entries (suc position)) is
    ∙ ap (λ (e : Option Entry). departures_if (option_and_then (packet_of entries) e) ++ departures_since entries (suc position)) (sym found)

-- those of one position, and behind them the rest
pub departures_step : (entries : List Entry) (position : ℕ) → position < length entries
    → departures_since entries position ≡ departures_if (packet_at entries position) ++ departures_since entries (position + 1)
departures_step entries position below =
    let step : suc position ≡ position + 1 = omega arith in
    elim (slice_get_cases entries position).1 [
      | inl found ↦
          departures_of_entry entries position found.0 found.1 found.2 found.3
          ∙ ap (λ (n : ℕ). departures_if (packet_at entries position) ++ departures_since entries n) step
      | inr past ↦ (let high = past.0 in absurd (omega (arith, below, high)))
    ]

pub pieces_step : (entries : List Entry) (position : ℕ) → position < length entries
    → pieces_since entries position ≡ pieces_at entries position ++ pieces_since entries (position + 1)
pieces_step entries position below =
    let count : length entries - position ≡ suc (length entries - (position + 1)) = omega (arith, below) in
    ap (λ (n : ℕ). pieces_from entries position n) count

module _ {D B C : Type 0} (told : Meaning D B C) (counts : D → Counts) (port : B → PortState) (lines : C → ℕ → List Line) (entries : List Entry) (old : D) (first : ℕ) where
  -- the packets from the first position up to this one were built and handed over
  pub record BuiltUpTo (now : D) (position : ℕ) : Type 0 where
    pub gone : List Departure
    pub left : List Sent
    pub departures : departures_since entries first ≡ gone ++ departures_since entries position
    pub pieces : pieces_since entries first ≡ left ++ pieces_since entries position
    pub of_history : AreSent entries gone left
    pub hands : HandsOver told port lines old now gone
    pub all : AreAllHanded told port lines old now gone

  pub record HasBuilt (now : D) (position : ℕ) : Type 0 where
    pub tells : told.tells now ≡ told.tells old
    pub faults : (counts now).faults ≡ (counts old).faults
    pub wants : (counts now).wants ≡ (counts old).wants
    pub built : Tells told old → BuiltUpTo now position

  pub built_none : HasBuilt old first
  built_none = record {
    tells = refl;
    faults = refl;
    wants = refl;
    built = λ tells. record {
      gone = [];
      left = [];
      departures = refl;
      pieces = refl;
      of_history = tt;
      hands = hands_none told port lines old [];
      all = sym (append-nil _);
    };
  }

  module _ (mid new : D) (position : ℕ) (before : HasBuilt mid position) (below : position < length entries) where
    then_tells : Tells told old → Tells told mid
    then_tells tells = subst IsTrue (sym before.tells) tells

    -- one position more
    pub built_more : told.tells new ≡ told.tells mid → (counts new).faults ≡ (counts mid).faults → (counts new).wants ≡ (counts mid).wants
        → (Tells told mid → HandsOverBuilt told port lines entries mid new (departures_if (packet_at entries position)) (pieces_at entries position) (Ok tt))
        → HasBuilt new (position + 1)
    built_more same faults wants hands = record {
      tells = same ∙ before.tells;
      faults = faults ∙ before.faults;
      wants = wants ∙ before.wants;
      built = λ tells. (
          let was = before.built tells in
          let now = hands (then_tells tells) in
          let departs : departures_if (packet_at entries position) ≡ now.built = now.are ∙ ap (λ (l : List Departure). now.built ++ l) now.all.0 ∙ append-nil now.built in
          let are : pieces_at entries position ≡ now.left = now.pieces_are ∙ ap (λ (l : List Sent). now.left ++ l) now.all.1 ∙ append-nil now.left in
          record {
            gone = was.gone ++ now.built;
            left = was.left ++ now.left;
            departures =
                was.departures
                ∙ ap (λ (l : List Departure). was.gone ++ l) (departures_step entries position below ∙ ap (λ (l : List Departure). l ++ departures_since entries (position + 1)) departs)
                ∙ sym (append_assoc was.gone now.built (departures_since entries (position + 1)));
            pieces =
                was.pieces
                ∙ ap (λ (l : List Sent). was.left ++ l) (pieces_step entries position below ∙ ap (λ (l : List Sent). l ++ pieces_since entries (position + 1)) are)
                ∙ sym (append_assoc was.left now.left (pieces_since entries (position + 1)));
            of_history = sent_append entries was.gone now.built was.left now.left was.of_history now.of_history;
            hands = hands_then told port lines old mid new was.gone now.built (was.gone ++ now.built) refl was.hands was.all now.run;
            all = all_then told port lines old mid new was.gone now.built (was.gone ++ now.built) refl was.all now.all.2;
          });
    }

    -- or up to a fault
    pub built_stopped : (error : LaneErr) → (Tells told mid → HandsOverBuilt told port lines entries mid new (departures_if (packet_at entries position)) (pieces_at entries position) (Err error))
        → Tells told old → HandsOverBuilt told port lines entries old new (departures_since entries first) (pieces_since entries first) (Err error)
    built_stopped error hands tells =
        let was = before.built tells in
        let now = hands (then_tells tells) in
        record {
          built = was.gone ++ now.built;
          rest = now.rest ++ departures_since entries (position + 1);
          are =
              was.departures
              ∙ ap (λ (l : List Departure). was.gone ++ l)
              (departures_step entries position below ∙ ap (λ (l : List Departure). l ++ departures_since entries (position + 1)) now.are ∙ append_assoc now.built now.rest (departures_since entries (position + 1)))
              ∙ sym (append_assoc was.gone now.built (now.rest ++ departures_since entries (position + 1)));
          left = was.left ++ now.left;
          later = now.later ++ pieces_since entries (position + 1);
          pieces_are =
              was.pieces
              ∙ ap (λ (l : List Sent). was.left ++ l)
              (pieces_step entries position below ∙ ap (λ (l : List Sent). l ++ pieces_since entries (position + 1)) now.pieces_are ∙ append_assoc now.left now.later (pieces_since entries (position + 1)))
              ∙ sym (append_assoc was.left now.left (now.later ++ pieces_since entries (position + 1)));
          of_history = sent_append entries was.gone now.built was.left now.left was.of_history now.of_history;
          run = hands_then told port lines old mid new was.gone now.built (was.gone ++ now.built) refl was.hands was.all now.run;
          all = tt;
        }

  -- at the end all were
  pub built_all : (now : D) (position : ℕ) → HasBuilt now position → length entries ≤ position → Tells told old
      → HandsOverBuilt told port lines entries old now (departures_since entries first) (pieces_since entries first) (Ok tt)
  built_all now position before past tells =
      let was = before.built tells in
      let none : drop position entries ≡ [] = drop_all position entries past in
      let count : length entries - position ≡ 0 = omega (arith, past) in
      record {
        built = was.gone;
        rest = [];
        are = was.departures ∙ ap (λ (l : List Entry). was.gone ++ departures_for entries l) none;
        left = was.left;
        later = [];
        pieces_are = was.pieces ∙ ap (λ (n : ℕ). was.left ++ pieces_from entries position n) count;
        of_history = was.of_history;
        run = was.hands;
        all = (refl, refl, was.all);
      }
