-- What stays of a lane that senders share.
use Rattle.std.proofs.Common.{◌≡◌, ℕ, ◌+◌, ◌*◌, ◌≤◌, true, false, Option, None, List, [], ◌∷◌, ◌++◌, length, take, drop, refl, sym, ◌∙◌, ap, arith, append_assoc, length-append}
use Rattle.std.proofs.Math.Seq.{drop-append_seam, take-append-add, take-length}
use Rattle.std.proofs.lemmas.Grind.{flat_map-append}
use Rattle.std.proofs.lemmas.List.Elements.{filter-append}
use Rattle.std.specs.Option.{option_or, option_map}
use Rattle.disk_model.specs.Counts.{Counts}
use Rattle.disk_model.specs.Disk.{Meaning, PastStands}
use Rattle.ota_core.specs.Entry.{facts_in}
use Rattle.ota_core.specs.History.{first_some}
use Rattle.ota_core.specs.Keyset.{Keyset}
use Rattle.ota_core.specs.declared.entries.Entry.{Entry}
use Rattle.ota_core.specs.declared.entries.Entry.TheVariants.{Open, Reserve, Done, Refused, Close}
use Rattle.ota_core.specs.declared.jobs.Job.{Job}
use Rattle.ota_core.specs.declared.keysets.KeysetFacts.{KeysetFacts}
use Rattle.site_model.specs.Port.{PortState}
use Rattle.site_model.specs.Cards.{port_at, port_now}
use Rattle.site_model.specs.declared.departures.Departure.{Departure}
use Rattle.world_core.specs.Packet.{Packet, packet_of}
use Rattle.world_core.specs.declared.lines.Line.{Line}
use Rattle.lane_engine.specs.Adding.{is_settlement}
use Rattle.lane_engine.specs.Keeping.{HasSentAll, HasSentFirst, added_to, departures_since, is_reserve, port_then, reserves_in}
use Rattle.lane_engine.specs.LaneValue.{LaneValue}
use Rattle.lane_engine.specs.Opening.{Opening}
use Rattle.lane_engine.specs.Packets.{departures_for, departures_if}
use Rattle.lane_engine.specs.Reserving.{reserve_of, reserves_of}

-- ---- entries that open no keyset

abbrev pub OpensNone : List Entry → Type 0
OpensNone entries = (keyset : Keyset) → first_some (facts_in keyset) entries ≡ None

pub found_first : {X Y : Type 0} (f : X → Option Y) (xs ys : List X) → first_some f ys ≡ None → first_some f (xs ++ ys) ≡ first_some f xs
found_first f [] ys none = none
found_first f (x ∷ xs) ys none = ap (option_or (f x)) (found_first f xs ys none)

pub opens_none_more : (xs ys : List Entry) → OpensNone xs → OpensNone ys → OpensNone (xs ++ ys)
opens_none_more xs ys first second keyset = found_first (facts_in keyset) xs ys (second keyset) ∙ first keyset

-- a packet is the same behind a history that opens no further keyset
pub packet_stays : (history more : List Entry) (entry : Entry) → OpensNone more → packet_of (history ++ more) entry ≡ packet_of history entry
packet_stays history more (Open by moment keyset facts) none = refl
packet_stays history more (Reserve by moment keyset counter job tar name body) none =
    ap (option_map (λ (facts : KeysetFacts). record { keyset = keyset; counter = counter; tar = tar; body = body; opened = facts })) (found_first (facts_in keyset) history more (none keyset))
packet_stays history more (Done by moment keyset counter answer) none = refl
packet_stays history more (Refused by moment keyset counter status) none = refl
packet_stays history more (Close by moment keyset) none = refl

-- so are all pieces of some entries
pub departures_stay : (history more entries : List Entry) → OpensNone more → departures_for (history ++ more) entries ≡ departures_for history entries
departures_stay history more [] none = refl
departures_stay history more (entry ∷ entries) none =
    ap (λ (p : Option Packet). departures_if p ++ departures_for (history ++ more) entries) (packet_stays history more entry none)
    ∙ ap (λ (l : List Departure). departures_if (packet_of history entry) ++ l) (departures_stay history more entries none)

pub departures_more : (history xs ys : List Entry) → departures_for history (xs ++ ys) ≡ departures_for history xs ++ departures_for history ys
departures_more history xs ys = flat_map-append (λ entry. departures_if (packet_of history entry)) xs ys

pub reserves_more : (xs ys : List Entry) → reserves_in (xs ++ ys) ≡ reserves_in xs + reserves_in ys
reserves_more xs ys = ap length (filter-append is_reserve xs ys) ∙ length-append _ _

-- reservations open none
pub reserves_open_none : (by moment : ℕ) (name : List ℕ) (past : List Entry) (jobs : List Job) → OpensNone (reserves_of by moment name past jobs)
reserves_open_none by moment name past [] keyset = refl
reserves_open_none by moment name past (job ∷ jobs) keyset = reserves_open_none by moment name (reserve_of by moment name past job ∷ past) jobs keyset

pub reserves_count : (by moment : ℕ) (name : List ℕ) (past : List Entry) (jobs : List Job) → reserves_in (reserves_of by moment name past jobs) ≡ length jobs
reserves_count by moment name past [] = refl
reserves_count by moment name past (job ∷ jobs) = let rest = reserves_count by moment name (reserve_of by moment name past job ∷ past) jobs in omega (arith, rest)

-- so does a settlement, of which nothing leaves
pub settlement_opens_none : (entry : Entry) → is_settlement entry ≡ true → OpensNone (entry ∷ [])
settlement_opens_none (Open by moment keyset facts) is keyset' = cc
settlement_opens_none (Reserve by moment keyset counter job tar name body) is keyset' = refl
settlement_opens_none (Done by moment keyset counter answer) is keyset' = refl
settlement_opens_none (Refused by moment keyset counter status) is keyset' = refl
settlement_opens_none (Close by moment keyset) is keyset' = refl

pub settlement_leaves_none : (history : List Entry) (entry : Entry) → is_settlement entry ≡ true → departures_for history (entry ∷ []) ≡ []
settlement_leaves_none history (Open by moment keyset facts) is = refl
settlement_leaves_none history (Reserve by moment keyset counter job tar name body) is = absurd (no is)
  where
    no : false ≡ true → ⊥
    no e = cc
settlement_leaves_none history (Done by moment keyset counter answer) is = refl
settlement_leaves_none history (Refused by moment keyset counter status) is = refl
settlement_leaves_none history (Close by moment keyset) is = refl

pub settlement_counts_none : (entry : Entry) → is_settlement entry ≡ true → reserves_in (entry ∷ []) ≡ 0
settlement_counts_none (Open by moment keyset facts) is = refl
settlement_counts_none (Reserve by moment keyset counter job tar name body) is = absurd (no is)
  where
    no : false ≡ true → ⊥
    no e = cc
settlement_counts_none (Done by moment keyset counter answer) is = refl
settlement_counts_none (Refused by moment keyset counter status) is = refl
settlement_counts_none (Close by moment keyset) is = refl

-- what was added since the opening
pub added_more : {D : Type 0} (old new : LaneValue D) (more : List Entry) → old.journal.entries ≡ old.opened.entries ++ added_to old → new.opened ≡ old.opened
    → new.journal.entries ≡ old.journal.entries ++ more → added_to new ≡ added_to old ++ more
added_more old new more begins same longer =
    ap (λ (o : Opening). drop (length o.entries) new.journal.entries) same
    ∙ ap (drop (length old.opened.entries)) (longer ∙ ap (λ (l : List Entry). l ++ more) begins ∙ append_assoc old.opened.entries (added_to old) more)
    ∙ drop-append_seam old.opened.entries (added_to old ++ more)

module _ {D B C : Type 0} (told : Meaning D B C) (counts : D → Counts) (port : B → PortState) (lines : C → ℕ → List Line) where
  -- ---- what was sent since the opening

  -- all packets that were reserved left, each once, and the port was asked for all but so many of them
  pub record HasSentOwing (pace owed : ℕ) (lane : LaneValue D) : Type 0 where
    pub later : lane.opened.clock ≤ told.clock lane.site
    pub entries : lane.journal.entries ≡ lane.opened.entries ++ added_to lane
    pub sent : (port_now told port lines lane.site).sent ≡ (port_then told counts port lines lane).sent ++ departures_since told counts port lines lane
    pub polls : (port_then told counts port lines lane).polls * pace + reserves_in (added_to lane) ≤ (port_now told port lines lane.site).polls * pace + owed
    pub asked : (port_then told counts port lines lane).polls ≤ (port_now told port lines lane.site).polls

  pub owing_none : (pace : ℕ) (lane : LaneValue D) → HasSentFirst told counts port lines lane → HasSentAll told counts port lines pace lane → HasSentOwing pace 0 lane
  owing_none pace lane first all = record { later = first.later; entries = first.entries; sent = all.sent; polls = omega (arith, all.polls); asked = first.polls }

  pub owing_all : (pace : ℕ) (lane : LaneValue D) → HasSentOwing pace 0 lane → HasSentAll told counts port lines pace lane
  owing_all pace lane owing = record { sent = owing.sent; polls = omega (arith, owing.polls) }

  module _ (old new : LaneValue D) (more : List Entry) (same : new.opened ≡ old.opened) (past : PastStands told old.site new.site)
      (longer : new.journal.entries ≡ old.journal.entries ++ more) (none : OpensNone more) (begins : old.journal.entries ≡ old.opened.entries ++ added_to old)
      (before : old.opened.clock ≤ told.clock old.site) where
    then_stays : port_then told counts port lines new ≡ port_then told counts port lines old
    then_stays = ap (λ (o : Opening). port_at told port lines new.site o.clock) same ∙ ap port (past.beside old.opened.clock before)

    added : added_to new ≡ added_to old ++ more
    added = added_more old new more begins same longer

    begins_new : new.journal.entries ≡ new.opened.entries ++ added_to new
    begins_new =
        longer ∙ ap (λ (l : List Entry). l ++ more) begins ∙ append_assoc old.opened.entries (added_to old) more
        ∙ ap (λ (l : List Entry). old.opened.entries ++ l) (sym added) ∙ ap (λ (o : Opening). o.entries ++ added_to new) (sym same)

    departures_new : departures_since told counts port lines new ≡ departures_since told counts port lines old ++ departures_for (old.journal.entries ++ more) more
    departures_new =
        ap (λ (l : List Entry). departures_for l (added_to new)) longer
        ∙ ap (departures_for (old.journal.entries ++ more)) added
        ∙ departures_more (old.journal.entries ++ more) (added_to old) more
        ∙ ap (λ (l : List Departure). l ++ departures_for (old.journal.entries ++ more) more) (departures_stay old.journal.entries more (added_to old) none)

    later_new : new.opened.clock ≤ told.clock new.site
    later_new = let a = past.later in let b = ap (λ (o : Opening). o.clock) same in omega (arith, a, b, before)

    -- more packets left, and the port was asked
    pub owing_more : (pace owed owed' asks : ℕ) → HasSentOwing pace owed old
        → (port_now told port lines new.site).sent ≡ (port_now told port lines old.site).sent ++ departures_for (old.journal.entries ++ more) more
        → (port_now told port lines new.site).polls ≡ (port_now told port lines old.site).polls + asks
        → owed + reserves_in more ≤ asks * pace + owed' → HasSentOwing pace owed' new
    owing_more pace owed owed' asks owing sent polls fits = record {
      later = later_new;
      entries = begins_new;
      sent =
          sent ∙ ap (λ (l : List Departure). l ++ departures_for (old.journal.entries ++ more) more) owing.sent
          ∙ append_assoc (port_then told counts port lines old).sent (departures_since told counts port lines old) (departures_for (old.journal.entries ++ more) more)
          ∙ ap (λ (l : List Departure). (port_then told counts port lines old).sent ++ l) (sym departures_new)
          ∙ ap (λ (p : PortState). p.sent ++ departures_since told counts port lines new) (sym then_stays);
      polls =
          let a = ap (λ (p : PortState). p.polls * pace) then_stays in
          let b = ap reserves_in added ∙ reserves_more (added_to old) more in
          let c = ap (λ (n : ℕ). n * pace) polls in
          let d = spread (port_now told port lines old.site).polls asks pace in
          let e = owing.polls in
          omega (arith, a, b, c, d, e, fits);
      asked = let a = ap (λ (p : PortState). p.polls) then_stays in let b = owing.asked in omega (arith, a, b, polls);
    }
      where
        spread : (x y z : ℕ) → (x + y) * z ≡ x * z + y * z
        spread x y z = grind arith

    -- some of the pieces left
    pub first_more : (pace owed count : ℕ) → HasSentOwing pace owed old
        → (port_now told port lines new.site).sent ≡ (port_now told port lines old.site).sent ++ take count (departures_for (old.journal.entries ++ more) more)
        → (port_now told port lines old.site).polls ≤ (port_now told port lines new.site).polls → HasSentFirst told counts port lines new
    first_more pace owed count owing sent polls =
        let all = departures_since told counts port lines old in
        let rest = departures_for (old.journal.entries ++ more) more in
        record {
          later = later_new;
          entries = begins_new;
          count = length all + count;
          sent =
              sent ∙ ap (λ (l : List Departure). l ++ take count rest) owing.sent
              ∙ append_assoc (port_then told counts port lines old).sent all (take count rest)
              ∙ ap (λ (l : List Departure). (port_then told counts port lines old).sent ++ l) (sym (take-append-add all rest count) ∙ ap (take (length all + count)) (sym departures_new))
              ∙ ap (λ (p : PortState). p.sent ++ take (length all + count) (departures_since told counts port lines new)) (sym then_stays);
          polls = let a = ap (λ (p : PortState). p.polls) then_stays in let b = owing.asked in omega (arith, a, b, polls);
        }

  pub owing_first : (pace owed : ℕ) (lane : LaneValue D) → HasSentOwing pace owed lane → HasSentFirst told counts port lines lane
  owing_first pace owed lane owing = record {
    later = owing.later;
    entries = owing.entries;
    count = length (departures_since told counts port lines lane);
    sent = owing.sent ∙ ap (λ (l : List Departure). (port_then told counts port lines lane).sent ++ l) (sym (take-length (departures_since told counts port lines lane)));
    polls = owing.asked;
  }
