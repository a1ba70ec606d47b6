-- A batch entered entry by entry.
use Rattle.std.proofs.Common.{◌≡◌, Result, Ok, Err, OnErr, ℕ, min, ◌+◌, ◌<◌, ◌≤◌, suc, true, List, [], ◌∷◌, ◌++◌, None, length, get_or, take, drop, reverse, refl, sym, ap, ◌∙◌, append_assoc, add-one, take-suc, drop-cons}
use Rattle.std.specs.List.{list_all}
use Rattle.std.proofs.lemmas.List.{reverse-append, take_all, append-nil}
use Rattle.std.proofs.lemmas.List.Folds.{list_all_at, list_all_more}
use Rattle.ota_core.specs.Entry.{moment_of}
use Rattle.ota_core.specs.History.{broken, broken_batch, IsLegalPast, IsLegal}
use Rattle.ota_core.specs.HistoryLaws.{both_hold}
use Rattle.ota_core.specs.declared.entries.Entry.{Entry}
use Rattle.ota_core.specs.declared.entries.Entry.TheVariants.{Open, Reserve, Done, Refused, Close}
use Rattle.keyset_book.specs.Tables.{has_job_place, has_counter_place}
use Rattle.keyset_book.specs.Book.{StandsFor, has_room_for, HasRoom, needs_no_room}
use Rattle.keyset_book.specs.Entering.{Enters, KeepsPlaces, SaysSame}
use Rattle.keyset_book.specs.declared.books.Book.{Book}
use Rattle.keyset_book.proofs.PastLemmas.{by_cases, apart}
use Rattle.keyset_book.proofs.EnteringLemmas.{both_true, enters-says}

-- what holds anyway holds at each answer
pub on-err : {A E P : Type 0} (answer : Result A E) → P → OnErr answer P
on-err (Ok value) holds = tt
on-err (Err error) holds = holds

-- a book that says the same stands for the same histories
pub stands-same : (old new : Book) → SaysSame old new → (history : List Entry) → StandsFor old history → StandsFor new history
stands-same old new same history stands = record {
  legal = stands.legal;
  says = record {
    keysets = λ keyset. same.keysets keyset ∙ stands.says.keysets keyset;
    jobs = λ job. same.jobs job ∙ stands.says.jobs job;
    counters = λ counter. same.counters counter ∙ stands.says.counters counter;
    moment = same.moment ∙ stands.says.moment;
    positions = λ short. record {
      count = same.count ∙ (stands.says.positions short).count;
      positions = λ counter place found. same.positions counter ∙ (stands.says.positions short).positions counter place found;
    };
  };
}

pub same-then : (first second third : Book) → SaysSame first second → SaysSame second third → SaysSame first third
same-then first second third one two = record {
  keysets = λ keyset. two.keysets keyset ∙ one.keysets keyset;
  jobs = λ job. two.jobs job ∙ one.jobs job;
  counters = λ counter. two.counters counter ∙ one.counters counter;
  positions = λ counter. two.positions counter ∙ one.positions counter;
  moment = two.moment ∙ one.moment;
  count = two.count ∙ one.count;
}

pub kept-then : (first second third : Book) → KeepsPlaces first second → KeepsPlaces second third → KeepsPlaces first third
kept-then first second third one two = record {
  keysets = λ keyset there. two.keysets keyset (one.keysets keyset there);
  jobs = λ job there. two.jobs job (one.jobs job there);
  counters = λ counter there. two.counters counter (one.counters counter there);
}

-- room for an entry stays
pub room_for-kept : (old new : Book) → KeepsPlaces old new → (entry : Entry) → has_room_for old entry ≡ true → has_room_for new entry ≡ true
room_for-kept old new kept (Open by moment keyset facts) room = kept.keysets keyset room
room_for-kept old new kept (Reserve by moment keyset counter job tar name body) room =
    let rooms = both_true (has_job_place old.jobs job) (has_counter_place old.counters (record { keyset = keyset; counter = counter })) room in
    rw (kept.jobs job rooms.0, kept.counters (record { keyset = keyset; counter = counter }) rooms.1) refl
room_for-kept old new kept (Done by moment keyset counter answer) room = refl
room_for-kept old new kept (Refused by moment keyset counter status) room = refl
room_for-kept old new kept (Close by moment keyset) room = refl

pub room-kept : (old new : Book) → KeepsPlaces old new → (entries : List Entry) → HasRoom old entries → HasRoom new entries
room-kept old new kept [] room = refl
room-kept old new kept (entry ∷ entries) room =
    let rooms = both_true (has_room_for old entry) (list_all (has_room_for old) entries) room in
    rw (room_for-kept old new kept entry rooms.0, room-kept old new kept entries rooms.1) refl

-- settlements and Closes need no room
pub room_for-none : (book : Book) (entry : Entry) → needs_no_room entry ≡ true → has_room_for book entry ≡ true
room_for-none book (Open by moment keyset facts) none = cc
room_for-none book (Reserve by moment keyset counter job tar name body) none = cc
room_for-none book (Done by moment keyset counter answer) none = refl
room_for-none book (Refused by moment keyset counter status) none = refl
room_for-none book (Close by moment keyset) none = refl

pub room-none : (book : Book) (entries : List Entry) → list_all needs_no_room entries ≡ true → HasRoom book entries
room-none book [] none = refl
room-none book (entry ∷ entries) none =
    let nones = both_true (needs_no_room entry) (list_all needs_no_room entries) none in
    rw (room_for-none book entry nones.0, room-none book entries nones.1) refl

-- the book with a legal entry stands for the history with it
pub stands-entered : (history : List Entry) (entry : Entry) (old new : Book) → StandsFor old history → broken (reverse history) entry ≡ None
    → has_room_for old entry ≡ true → Enters old entry new → new.moment ≡ moment_of entry → new.entries ≡ min (old.entries + 1) 0xFFFF_FFFF_FFFF_FFFF → StandsFor new (history ++ entry ∷ [])
stands-entered history entry old new stands may room enters late count = record {
  legal = rw (reverse-append history (entry ∷ [])) (stands.legal, may);
  says = rw (reverse-append history (entry ∷ [])) (enters-says (reverse history) entry old new stands.legal stands.says may room enters late count);
}

-- so many entries of a batch are entered behind a history, and the others are legal behind them
pub record IsPut (history entries : List Entry) (n : ℕ) (book : Book) : Type 0 where
  pub stands : StandsFor book (history ++ take n entries)
  pub rest : broken_batch (reverse (history ++ take n entries)) (drop n entries) ≡ None

pub put-none : (history entries : List Entry) (book : Book) → StandsFor book history → broken_batch (reverse history) entries ≡ None → IsPut history entries 0 book
put-none history entries book stands whole = record {
  stands = rw (append-nil history) stands;
  rest = rw (append-nil history) whole;
}

pub put-more : (history entries : List Entry) (n : ℕ) (entry : Entry) (old new : Book) → n < length entries → entry ≡ get_or entries n entry
    → IsPut history entries n old → has_room_for old entry ≡ true → Enters old entry new → new.moment ≡ moment_of entry
    → new.entries ≡ min (old.entries + 1) 0xFFFF_FFFF_FFFF_FFFF → IsPut history entries (n + 1) new
put-more history entries n entry old new within is put room enters late count =
    let rest : broken_batch (reverse (history ++ take n entries)) (entry ∷ drop (suc n) entries) ≡ None =
    ap (broken_batch (reverse (history ++ take n entries))) (ap (λ e. e ∷ drop (suc n) entries) is ∙ sym (drop-cons entries n entry within)) ∙ put.rest in
    let parts : (broken (reverse (history ++ take n entries)) entry ≡ None) × (broken_batch (entry ∷ reverse (history ++ take n entries)) (drop (suc n) entries) ≡ None) =
    both_hold (broken (reverse (history ++ take n entries)) entry) (broken_batch (entry ∷ reverse (history ++ take n entries)) (drop (suc n) entries)) rest in
    let longer : history ++ take (n + 1) entries ≡ (history ++ take n entries) ++ entry ∷ [] =
    ap (λ k. history ++ take k entries) (add-one n) ∙ ap (λ es. history ++ es) (take-suc entries n entry within ∙ ap (λ e. take n entries ++ e ∷ []) (sym is))
    ∙ sym (append_assoc history (take n entries) (entry ∷ [])) in
    record {
      stands = rw longer (stands-entered (history ++ take n entries) entry old new put.stands parts.0 room enters late count);
      rest = rw (longer, reverse-append (history ++ take n entries) (entry ∷ []), add-one n) (parts.1);
    }

pub put-all : (history entries : List Entry) (n : ℕ) (book : Book) → length entries ≤ n → IsPut history entries n book → StandsFor book (history ++ entries)
put-all history entries n book all put = rw (take_all n entries all) at put.stands

-- the entries of a legal history are legal one after the other
pub legal-batch : (past batch : List Entry) → IsLegalPast (reverse batch ++ past) → broken_batch past batch ≡ None
legal-batch past [] legal = refl
legal-batch past (entry ∷ batch) legal =
    let next : IsLegalPast (reverse batch ++ (entry ∷ past)) = rw (reverse-append (entry ∷ []) batch, append_assoc) at legal in
    rw (first (reverse batch) entry past next, legal-batch (entry ∷ past) batch next) refl
  where
    first : (newer : List Entry) (entry : Entry) (past : List Entry) → IsLegalPast (newer ++ (entry ∷ past)) → broken past entry ≡ None
    first [] entry past legal = legal.1
    first (other ∷ newer) entry past legal = first newer entry past legal.0

pub legal-whole : (history : List Entry) → IsLegal history → broken_batch [] history ≡ None
legal-whole history legal = legal-batch [] history (rw (append-nil (reverse history)) legal)

-- there is room for each entry of a batch that has room
pub room-at : (book : Book) (entries : List Entry) (n : ℕ) (entry : Entry) → n < length entries → entry ≡ get_or entries n entry
    → HasRoom book entries → has_room_for book entry ≡ true
room-at book entries n entry within is room =
    by_cases (has_room_for book (get_or entries n entry))
    (λ there. ap (has_room_for book) is ∙ there)
    (λ none. absurd (apart room (list_all_at (has_room_for book) entries n entry within none)))

-- one more entry that has room
pub room-more : (old new : Book) (entries : List Entry) (n : ℕ) (entry : Entry) → n < length entries → entry ≡ get_or entries n entry → KeepsPlaces old new
    → HasRoom old (take n entries) → has_room_for new entry ≡ true → HasRoom new (take (n + 1) entries)
room-more old new entries n entry within is kept before here =
    list_all_more (has_room_for new) entries n entry within
    ∙ rw (room-kept old new kept (take n entries) before) (sym (ap (has_room_for new) is) ∙ here)
