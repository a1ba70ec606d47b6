-- A book in which a legal entry is entered says what the past with the entry says.
use Rattle.std.proofs.Common.{◌≡◌, ℕ, ◌+◌, min, Bool, true, false, not, ◌&&◌, ◌||◌, if◌then◌else◌, List, ◌∷◌, Option, None, Some, unwrap_or, is_some, find, refl, sym, ap, ◌∙◌}
use Rattle.std.specs.Option.{option_or, option_flatten}
use Rattle.std.specs.BTreeMap.{get}
use Rattle.std.specs.List.{list_any}
use Rattle.ota_core.specs.Keyset.{Keyset, is_same_keyset}
use Rattle.ota_core.specs.Job.{is_same_job}
use Rattle.ota_core.specs.Entry.{Reservation, moment_of, facts_in, counter_in, is_open_of, is_close_of, is_reserve_of, is_settlement_of}
use Rattle.ota_core.specs.History.{first_some, unless, broken, IsLegalPast}
use Rattle.ota_core.specs.HistoryLaws.{both_hold, unless-holds, is_in_use, in_use-opened, reserves_next, is_same_keyset-true}
use Rattle.ota_core.specs.declared.jobs.JobId.{JobId}
use Rattle.ota_core.specs.declared.keysets.KeysetFacts.{KeysetFacts}
use Rattle.ota_core.specs.declared.entries.Entry.{Entry}
use Rattle.ota_core.specs.declared.entries.Entry.TheVariants.{Open, Reserve, Done, Refused, Close}
use Rattle.ota_core.specs.declared.entries.Illegal.{Illegal}
use Rattle.keyset_book.specs.Tables.{known_in, has_keyset_place, has_job_place, is_same_counter, has_counter_place, standing_at, row_cmp, row_of, column_of}
use Rattle.keyset_book.specs.Book.{known_from, standing_of, IsBookOf, has_room_for}
use Rattle.keyset_book.specs.Entering.{Opens, Reserves, Settles, Closes, Enters}
use Rattle.keyset_book.specs.declared.counter_table.Row.{Row}
use Rattle.keyset_book.specs.declared.counter_table.Standing.{Standing}
use Rattle.keyset_book.specs.declared.counter_table.Standing.TheVariants as standing
use Rattle.keyset_book.specs.declared.books.Book.{Book}
use Rattle.keyset_book.proofs.PastLemmas.{by_cases, opens_first, opened-facts, unopened_unclosed, next_unreserved, unreserved_unsettled, unfound, same_place, settles_reserved, done_settles, refused_settles}
use Rattle.keyset_book.proofs.PositionLemmas.{knows-more, knows-reserved}

-- both tests hold
pub both_true : (first second : Bool) → (first && second) ≡ true → (first ≡ true) × (second ≡ true)
both_true true second h = (refl, h)
both_true false second h = cc

-- where something is found there is a place
pub placed : {V : Type 0} (place : Option (Option V)) (value : V) → option_flatten place ≡ Some value → is_some place ≡ true
placed None value is = cc
placed (Some place) value is = refl

placed-row : (row : Option Row) (column : ℕ) (value : Standing) → standing_at row column ≡ Some value → is_some row ≡ true
placed-row None column value is = cc
placed-row (Some row) column value is = refl

-- what is known of a keyset behind an Open
pub known-open : (facts : KeysetFacts) (same : Bool) (found : Option KeysetFacts) (last : Option ℕ) (closed : Bool) → (same ≡ true → closed ≡ false)
    → (if same then Some (record { facts = facts; last = facts.base; closed = false }) else known_from found last closed)
    ≡ known_from (option_or (if same then Some facts else None) found) (option_or (if same then Some facts.base else None) last) closed
known-open facts true found last closed unclosed = rw (unclosed refl) refl
known-open facts false found last closed unclosed = refl

-- what is known of a keyset behind a reservation
pub known-reserved : (facts : KeysetFacts) (counter : ℕ) (was : Bool) (same : Bool) (found : Option KeysetFacts) (last : Option ℕ) (closed : Bool)
    → (same ≡ true → (found ≡ Some facts) × (closed ≡ was))
    → (if same then Some (record { facts = facts; last = counter; closed = was }) else known_from found last closed)
    ≡ known_from found (option_or (if same then Some counter else None) last) closed
known-reserved facts counter was true found last closed is = rw ((is refl).0, (is refl).1) refl
known-reserved facts counter was false found last closed is = refl

-- what is known of a keyset behind a Close
pub known-closed : (facts : KeysetFacts) (was : Option ℕ) (same : Bool) (found : Option KeysetFacts) (last : Option ℕ) (closed : Bool)
    → (same ≡ true → (found ≡ Some facts) × (last ≡ was))
    → (if same then Some (record { facts = facts; last = unwrap_or was 0; closed = true }) else known_from found last closed)
    ≡ known_from found last (same || closed)
known-closed facts was true found last closed is = rw ((is refl).0, (is refl).1) refl
known-closed facts was false found last closed is = refl

-- a past says the same of keysets that pass the test
pub same_found : (past : List Entry) (keyset other : Keyset) (facts : KeysetFacts) → first_some (facts_in keyset) past ≡ Some facts → is_same_keyset keyset other ≡ true
    → (first_some (facts_in other) past ≡ Some facts) × (list_any (is_close_of other) past ≡ list_any (is_close_of keyset) past)
    × (first_some (counter_in other) past ≡ first_some (counter_in keyset) past)
same_found past keyset other facts found same =
    let one = is_same_keyset-true keyset other same in
    (rw one at found, rw one refl, rw one refl)

module _ (past : List Entry) (old new : Book) (legal : IsLegalPast past) (says : IsBookOf past old) where
  -- the facts of a keyset that is opened
  pub opened_with : (keyset : Keyset) → list_any (is_open_of keyset) past ≡ true → (facts : KeysetFacts) × (first_some (facts_in keyset) past ≡ Some facts)
  opened_with keyset opened = by_facts (first_some (facts_in keyset) past) (sym (opened-facts keyset past) ∙ opened)
    where
      by_facts : (found : Option KeysetFacts) → is_some found ≡ true → (facts : KeysetFacts) × (found ≡ Some facts)
      by_facts None some = cc
      by_facts (Some facts) some = (facts, refl)

  pub enters_open : (by moment : ℕ) (keyset : Keyset) (facts : KeysetFacts) → broken past (Open by moment keyset facts) ≡ None
      → has_keyset_place old.keysets keyset ≡ true → Opens old keyset facts new → new.moment ≡ moment → new.entries ≡ min (old.entries + 1) 0xFFFF_FFFF_FFFF_FFFF → IsBookOf (Open by moment keyset facts ∷ past) new
  enters_open by moment keyset facts may room opens late count = record {
    keysets = λ other. opens.keysets room other
        ∙ ap (λ known. if is_same_keyset keyset other then Some (record { facts = facts; last = facts.base; closed = false }) else known) (says.keysets other)
        ∙ known-open facts (is_same_keyset keyset other) (first_some (facts_in other) past) (first_some (counter_in other) past) (list_any (is_close_of other) past)
        (λ same. unopened_unclosed other past legal (rw (is_same_keyset-true keyset other same) at (opens_first by moment keyset facts past (legal, may))));
    jobs = λ job. rw (opens.jobs) (says.jobs job);
    counters = λ counter. rw (opens.counters) (says.counters counter);
    moment = late;
    positions = knows-more past old new says.positions count (Open by moment keyset facts) (λ counter. refl) (λ counter. rw (opens.counters) refl);
  }

  pub enters_reservation : (by moment : ℕ) (keyset : Keyset) (counter : ℕ) (job : JobId) (tar name body : List ℕ)
      → broken past (Reserve by moment keyset counter job tar name body) ≡ None
      → has_job_place old.jobs job ≡ true → has_counter_place old.counters (record { keyset = keyset; counter = counter }) ≡ true
      → Reserves old (record { keyset = keyset; counter = counter }) job new → new.moment ≡ moment → new.entries ≡ min (old.entries + 1) 0xFFFF_FFFF_FFFF_FFFF
      → IsBookOf (Reserve by moment keyset counter job tar name body ∷ past) new
  enters_reservation by moment keyset counter job tar name body may job_room counter_room reserves late count =
      let opened = in_use-opened keyset past (is_in_use past (Reserve by moment keyset counter job tar name body) may refl) in
      let facts = opened_with keyset opened in
      let known : known_in old.keysets keyset ≡ known_from (Some facts.0) (first_some (counter_in keyset) past) (list_any (is_close_of keyset) past) =
      says.keysets keyset ∙ ap (λ found. known_from found (first_some (counter_in keyset) past) (list_any (is_close_of keyset) past)) facts.1 in
      let next = (reserves_next past by moment keyset counter job tar name body may).0 in
      let free = unreserved_unsettled (record { keyset = keyset; counter = counter }) past legal (next_unreserved (record { keyset = keyset; counter = counter }) past legal next) in
      record {
        keysets = λ other. reserves.keysets (record { facts = facts.0; last = unwrap_or (first_some (counter_in keyset) past) 0; closed = list_any (is_close_of keyset) past }) known other
            ∙ ap (λ known. if is_same_keyset keyset other then Some (record { facts = facts.0; last = counter; closed = list_any (is_close_of keyset) past }) else known) (says.keysets other)
            ∙ known-reserved facts.0 counter (list_any (is_close_of keyset) past) (is_same_keyset keyset other) (first_some (facts_in other) past) (first_some (counter_in other) past) (list_any (is_close_of other) past)
            (λ same. let is = same_found past keyset other facts.0 facts.1 same in (is.0, is.1));
        jobs = λ other. reserves.jobs job_room other ∙ by_cases (is_same_job job other)
            (λ same. rw same refl)
            (λ apart. rw apart (says.jobs other));
        counters = λ other. reserves.counters counter_room other ∙ by_cases (is_same_counter (record { keyset = keyset; counter = counter }) other)
            (λ same. rw (same, unfound (is_settlement_of other) past (rw (same_place keyset counter other same) at free)) refl)
            (λ apart. rw apart (says.counters other));
        moment = late;
        positions = knows-reserved past old new says.positions count by moment keyset counter job tar name body
            (next_unreserved (record { keyset = keyset; counter = counter }) past legal next) (reserves.positions counter_room);
      }

  -- a reserved counter has a place
  pub reserved_placed : (counter : Reservation) → list_any (is_reserve_of counter) past ≡ true → has_counter_place old.counters counter ≡ true
  reserved_placed counter reserved =
      placed-row (get row_cmp old.counters.rows (row_of counter)) (column_of counter) (standing_of (find (is_settlement_of counter) past)) (says.counters counter ∙ rw reserved refl)

  pub enters_done : (by moment : ℕ) (keyset : Keyset) (counter : ℕ) (answer : List ℕ) → broken past (Done by moment keyset counter answer) ≡ None
      → Settles old (record { keyset = keyset; counter = counter }) standing.Done new → new.moment ≡ moment → new.entries ≡ min (old.entries + 1) 0xFFFF_FFFF_FFFF_FFFF → IsBookOf (Done by moment keyset counter answer ∷ past) new
  enters_done by moment keyset counter answer may settles late count =
      let rule = done_settles by moment keyset counter answer past (legal, may) in
      let reserved = unless-holds (list_any (is_reserve_of (record { keyset = keyset; counter = counter })) past) Illegal.NotReserved
      (both_hold (unless (list_any (is_reserve_of (record { keyset = keyset; counter = counter })) past) Illegal.NotReserved)
      (unless (not (list_any (is_settlement_of (record { keyset = keyset; counter = counter })) past)) Illegal.AlreadySettled) rule).0 in
      record {
        keysets = λ other. rw (settles.keysets) (says.keysets other);
        jobs = λ other. rw (settles.jobs) (says.jobs other);
        counters = λ other. settles.counters (reserved_placed (record { keyset = keyset; counter = counter }) reserved) other
            ∙ by_cases (is_same_counter (record { keyset = keyset; counter = counter }) other)
            (λ same. rw (same, settles_reserved keyset counter other past rule same) refl)
            (λ apart. rw apart (says.counters other));
        moment = late;
        positions = knows-more past old new says.positions count (Done by moment keyset counter answer) (λ other. refl) settles.positions;
      }

  pub enters_refused : (by moment : ℕ) (keyset : Keyset) (counter status : ℕ) → broken past (Refused by moment keyset counter status) ≡ None
      → Settles old (record { keyset = keyset; counter = counter }) (standing.Refused status) new → new.moment ≡ moment → new.entries ≡ min (old.entries + 1) 0xFFFF_FFFF_FFFF_FFFF → IsBookOf (Refused by moment keyset counter status ∷ past) new
  enters_refused by moment keyset counter status may settles late count =
      let rule = refused_settles by moment keyset counter status past (legal, may) in
      let reserved = unless-holds (list_any (is_reserve_of (record { keyset = keyset; counter = counter })) past) Illegal.NotReserved
      (both_hold (unless (list_any (is_reserve_of (record { keyset = keyset; counter = counter })) past) Illegal.NotReserved)
      (unless (not (list_any (is_settlement_of (record { keyset = keyset; counter = counter })) past)) Illegal.AlreadySettled) rule).0 in
      record {
        keysets = λ other. rw (settles.keysets) (says.keysets other);
        jobs = λ other. rw (settles.jobs) (says.jobs other);
        counters = λ other. settles.counters (reserved_placed (record { keyset = keyset; counter = counter }) reserved) other
            ∙ by_cases (is_same_counter (record { keyset = keyset; counter = counter }) other)
            (λ same. rw (same, settles_reserved keyset counter other past rule same) refl)
            (λ apart. rw apart (says.counters other));
        moment = late;
        positions = knows-more past old new says.positions count (Refused by moment keyset counter status) (λ other. refl) settles.positions;
      }

  pub enters_close : (by moment : ℕ) (keyset : Keyset) → broken past (Close by moment keyset) ≡ None
      → Closes old keyset new → new.moment ≡ moment → new.entries ≡ min (old.entries + 1) 0xFFFF_FFFF_FFFF_FFFF → IsBookOf (Close by moment keyset ∷ past) new
  enters_close by moment keyset may closes late count =
      let opened = in_use-opened keyset past (is_in_use past (Close by moment keyset) may refl) in
      let facts = opened_with keyset opened in
      let known : known_in old.keysets keyset ≡ known_from (Some facts.0) (first_some (counter_in keyset) past) (list_any (is_close_of keyset) past) =
      says.keysets keyset ∙ ap (λ found. known_from found (first_some (counter_in keyset) past) (list_any (is_close_of keyset) past)) facts.1 in
      record {
        keysets = λ other. closes.keysets (record { facts = facts.0; last = unwrap_or (first_some (counter_in keyset) past) 0; closed = list_any (is_close_of keyset) past }) known other
            ∙ ap (λ known. if is_same_keyset keyset other then Some (record { facts = facts.0; last = unwrap_or (first_some (counter_in keyset) past) 0; closed = true }) else known) (says.keysets other)
            ∙ known-closed facts.0 (first_some (counter_in keyset) past) (is_same_keyset keyset other) (first_some (facts_in other) past) (first_some (counter_in other) past) (list_any (is_close_of other) past)
            (λ same. let is = same_found past keyset other facts.0 facts.1 same in (is.0, is.2));
        jobs = λ other. rw (closes.jobs) (says.jobs other);
        counters = λ other. rw (closes.counters) (says.counters other);
        moment = late;
        positions = knows-more past old new says.positions count (Close by moment keyset) (λ counter. refl) (λ counter. rw (closes.counters) refl);
      }

-- the book with a legal entry, for which there was room
pub enters-says : (past : List Entry) (entry : Entry) (old new : Book) → IsLegalPast past → IsBookOf past old → broken past entry ≡ None
    → has_room_for old entry ≡ true → Enters old entry new → new.moment ≡ moment_of entry → new.entries ≡ min (old.entries + 1) 0xFFFF_FFFF_FFFF_FFFF → IsBookOf (entry ∷ past) new
enters-says past (Open by moment keyset facts) old new legal says may room enters late count =
    enters_open past old new legal says by moment keyset facts may room enters late count
enters-says past (Reserve by moment keyset counter job tar name body) old new legal says may room enters late count =
    let rooms = both_true (has_job_place old.jobs job) (has_counter_place old.counters (record { keyset = keyset; counter = counter })) room in
    enters_reservation past old new legal says by moment keyset counter job tar name body may rooms.0 rooms.1 enters late count
enters-says past (Done by moment keyset counter answer) old new legal says may room enters late count =
    enters_done past old new legal says by moment keyset counter answer may enters late count
enters-says past (Refused by moment keyset counter status) old new legal says may room enters late count =
    enters_refused past old new legal says by moment keyset counter status may enters late count
enters-says past (Close by moment keyset) old new legal says may room enters late count =
    enters_close past old new legal says by moment keyset may enters late count
