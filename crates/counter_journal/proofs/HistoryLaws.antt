-- Laws of the reading of a history.
use Rattle.std.proofs.Common.{◌≡◌, ◌⊎◌, ℕ, ◌+◌, ◌%◌, ◌<◌, All, Bool, true, false, eqb, List, [], ◌∷◌, ◌++◌, length, reverse, take, drop, get_or, Option, Some, None, Result, Ok, Err, refl, sym, ap, subst, ◌∙◌, inl, inr, arith, append_assoc}
use Rattle.std.specs.Prelude.{is_none, ◌==◌, IfOk}
use Rattle.std.proofs.lemmas.Bool.{eq-eqb, eqb-true, and_from}
use Rattle.std.proofs.lemmas.Option.{none-some}
use Rattle.std.proofs.lemmas.List.{reverse-append, take_more, take-append-drop, drop_more, length-map, length-append}
use Rattle.std.proofs.lemmas.List.Elements.{All-push}
use Rattle.ota_core.specs.Entry.{keyset_of}
use Rattle.ota_core.specs.History.{broken, IsLegal, IsLegalPast}
use Rattle.ota_core.specs.declared.entries.Entry.{Entry}
use Rattle.ota_core.specs.declared.entries.Illegal.{Illegal}
use Rattle.keyset_book.specs.Book.{StandsFor}
use Rattle.counter_journal.specs.declared.versions.Version.{Version}
use Rattle.counter_journal.specs.declared.versions.Version.TheVariants.{First, Second}
use Rattle.counter_journal.specs.declared.histories_read.Past.{Past}
use Rattle.counter_journal.specs.EntryOctets.{entry_octets, MARK, IsOfVersion}
use Rattle.counter_journal.specs.EntryRanges.{IsEntryOf, IsHistory}
use Rattle.counter_journal.specs.EntryReading.{entry_in}
use Rattle.counter_journal.specs.JournalLaws.{no_mark, written_entry, written_mark}
use Rattle.counter_journal.specs.JournalReading.{parts_in, AreWritten, IsFirstMark, IsBad, StopsAt}
use Rattle.counter_journal.specs.HistoryReading.{IsRead, IsNext, belongs, is_first, is_mark, IsTaken, IsMarkTaken, IsPast, IsKeptPast}
use Rattle.counter_journal.proofs.FieldLaws.{IsBytes, both_true}
use Rattle.counter_journal.specs.EntriesAgain.{entry_again, one_entry}
use Rattle.counter_journal.proofs.EntryLaws.{entry_takes}

-- what the reading of a part says
pub is_read : (version : Version) (part : List ℕ) (found : Option Entry) → IsBytes part → found ≡ entry_in version part → IsRead version part found
is_read version part (Some entry) fits is = entry_takes version part entry fits (sym is)
is_read version part None fits is = λ entry in_range of same. none-some entry (is ∙ ap (entry_in version) (sym same) ∙ entry_again version entry in_range of)

pub is_read_ok : {E : Type 0} (version : Version) (part : List ℕ) (result : Result (Option Entry) E) → IsBytes part → IfOk result (λ found. found ≡ entry_in version part) → IfOk result (IsRead version part)
is_read_ok version part (Ok found) fits is = is_read version part found fits is
is_read_ok version part (Err error) fits is = tt

-- an entry that does not belong may not follow
pub bad_entry : (lane lanes : ℕ) (entries : List Entry) (version : Version) (part : List ℕ) (found : Entry) → IsRead version part (Some found) → belongs lane lanes entries found ≡ false
    → IsNext lane lanes entries version part None
bad_entry lane lanes entries version part found read differs = λ entry is of spelled follows.
    let one : entry ≡ found = one_entry version entry found is.fits read.1 of read.2 (spelled ∙ sym read.0) in
    let fits : belongs lane lanes entries entry ≡ true =
    and_from ((keyset_of entry).card.0 % lanes == lane) (is_none (broken (reverse entries) entry)) (eq-eqb _ _ is.of_lane) (ap is_none follows) in
    absurd (both_ways (sym fits ∙ ap (belongs lane lanes entries) one ∙ differs))
  where
    both_ways : true ≡ false → ⊥
    both_ways e = cc

none_is : (found : Option Illegal) → is_none found ≡ true → found ≡ None
none_is None none = refl
none_is (Some rule) none = absurd cc

-- one that belongs may follow
pub good_entry : (lane lanes : ℕ) (entries : List Entry) (version : Version) (part : List ℕ) (found : Entry) → IsRead version part (Some found) → belongs lane lanes entries found ≡ true
    → IsNext lane lanes entries version part (Some found)
good_entry lane lanes entries version part found read is =
    let both = both_true (eqb ((keyset_of found).card.0 % lanes) lane) (is_none (broken (reverse entries) found)) is in
    (read.0, record { fits = read.1; of_lane = eqb-true ((keyset_of found).card.0 % lanes) lane both.0 }, read.2, none_is (broken (reverse entries) found) both.1)

-- a legal history with a legal entry behind it
pub IsLegal-push : (entries : List Entry) (entry : Entry) → IsLegal entries → broken (reverse entries) entry ≡ None → IsLegal (entries ++ entry ∷ [])
IsLegal-push entries entry legal follows = subst IsLegalPast (sym (reverse-append entries (entry ∷ []))) (legal, follows)

-- ---- the mark

not_both : true ≡ false → ⊥
not_both e = cc

mark_is : (part : List ℕ) → is_mark part ≡ true → part ≡ MARK
mark_is [] e = absurd cc
mark_is (first ∷ []) e = absurd cc
mark_is (first ∷ second ∷ []) e =
    let both = both_true (eqb first 0x06) (eqb second 0x02) e in
    ap (λ (o : ℕ). o ∷ second ∷ []) (eqb-true first 0x06 both.0) ∙ ap (λ (o : ℕ). 0x06 ∷ o ∷ []) (eqb-true second 0x02 both.1)
mark_is (first ∷ second ∷ third ∷ part) e = absurd cc

no_first_mark : (version : Version) (part : List ℕ) → is_mark part ≡ false → ¬ IsFirstMark version part
no_first_mark First part other is = not_both (sym (ap is_mark is) ∙ other)
no_first_mark Second part other is = is

second_mark : (lane lanes : ℕ) (entries : List Entry) (part : List ℕ) → part ≡ MARK → IsBad lane lanes entries Second part
second_mark lane lanes entries part is = record {
  no_mark = λ none. none;
  no_entry = λ entry fits of spelled. absurd (no_mark Second entry (spelled ∙ is));
}

same_past : (old new : Past) → new.history ≡ old.history → new.book ≡ old.book → new.version ≡ old.version → new ≡ old
same_past old new history book version = λ i. record { history = history i; book = book i; version = version i }

taken_by : (lane lanes : ℕ) (old new : Past) (part : List ℕ) (version : Version) (taken : Bool) → old.version ≡ version → part ≡ MARK → taken ≡ is_first version
    → new.history ≡ old.history → new.book ≡ old.book → new.version ≡ Second → IsTaken lane lanes old part taken new
taken_by lane lanes old new part First true was is said history book second =
    inl (subst (λ (v : Version). IsFirstMark v part) (sym was) is, ap (λ h. h.entries) history, second)
taken_by lane lanes old new part First false was is said history book second = absurd (not_both (sym said))
taken_by lane lanes old new part Second true was is said history book second = absurd (not_both said)
taken_by lane lanes old new part Second false was is said history book second = (
  subst (λ (v : Version). IsBad lane lanes old.history.entries v part) (sym was) (second_mark lane lanes old.history.entries part is),
  same_past old new history book (second ∙ sym was),
)

-- the mark is taken where none stands before it
pub mark_taken : (lane lanes : ℕ) (old new : Past) (part : List ℕ) (taken : Bool) → is_mark part ≡ true → IsMarkTaken old taken new → IsTaken lane lanes old part taken new
mark_taken lane lanes old new part taken is marked = taken_by lane lanes old new part old.version taken refl (mark_is part is) marked.0 marked.1 marked.2 marked.3

-- a part that is no entry that may follow, and not the mark, is bad
pub part_bad : (lane lanes : ℕ) (entries : List Entry) (version : Version) (part : List ℕ) → is_mark part ≡ false → IsNext lane lanes entries version part None
    → IsBad lane lanes entries version part
part_bad lane lanes entries version part other next = record { no_mark = no_first_mark version part other; no_entry = next }

-- ---- parts that are read one after the other

-- no part is read
pub nothing_read : (lane lanes : ℕ) (past : Past) → past.history.entries ≡ [] → past.version ≡ First → StandsFor past.book past.history.entries → IsPast lane lanes [] past
nothing_read lane lanes past none first book = record {
  book = book;
  written = subst (λ (v : Version). AreWritten v past.history.entries []) (sym first) (subst (All (IsOfVersion First)) (sym none) (λ k d below. absurd (omega arith)), ap (parts_in First) (sym none));
  history = subst (IsHistory lane lanes) (sym none) (record { legal = tt; of_lane = λ k d below. absurd (omega arith) });
}

past_of : (lane lanes : ℕ) (parts : List (List ℕ)) (past : Past) (entries : List Entry) (version : Version) → past.history.entries ≡ entries → past.version ≡ version
    → AreWritten version entries parts → IsHistory lane lanes entries → StandsFor past.book past.history.entries → IsPast lane lanes parts past
past_of lane lanes parts past entries version same goes written history book = record {
  book = book;
  written = subst (λ (v : Version). AreWritten v past.history.entries parts) (sym goes) (subst (λ (e : List Entry). AreWritten version e parts) (sym same) written);
  history = subst (IsHistory lane lanes) (sym same) history;
}

mark_read : (lane lanes : ℕ) (parts : List (List ℕ)) (old new : Past) (part : List ℕ) (version : Version) → old.version ≡ version → IsPast lane lanes parts old → IsFirstMark version part
    → new.history.entries ≡ old.history.entries → new.version ≡ Second → StandsFor new.book new.history.entries → IsPast lane lanes (parts ++ part ∷ []) new
mark_read lane lanes parts old new part First was past is same second book =
    past_of lane lanes (parts ++ part ∷ []) new old.history.entries Second same second
    (subst (λ (p : List ℕ). AreWritten Second old.history.entries (parts ++ p ∷ [])) (sym is)
    (written_mark old.history.entries parts (subst (λ (v : Version). AreWritten v old.history.entries parts) was past.written))) past.history book
mark_read lane lanes parts old new part Second was past is same second book = absurd is

-- a part more
pub read_more : (lane lanes : ℕ) (parts : List (List ℕ)) (old new : Past) (part : List ℕ) → IsPast lane lanes parts old → IsTaken lane lanes old part true new
    → StandsFor new.book new.history.entries → IsPast lane lanes (parts ++ part ∷ []) new
read_more lane lanes parts old new part past (inl marked) book = mark_read lane lanes parts old new part old.version refl past marked.0 marked.1 marked.2 book
read_more lane lanes parts old new part past (inr added) book =
    let entry = added.0 in
    let next = added.1 in
    past_of lane lanes (parts ++ part ∷ []) new (old.history.entries ++ entry ∷ []) old.version added.2 added.3
    (subst (λ (p : List ℕ). AreWritten old.version (old.history.entries ++ entry ∷ []) (parts ++ p ∷ [])) next.0 (written_entry old.version old.history.entries parts entry past.written next.2))
    (record {
      legal = IsLegal-push old.history.entries entry past.history.legal next.3;
      of_lane = All-push (IsEntryOf lane lanes) old.history.entries entry past.history.of_lane next.1;
    })
    book

-- what was read stays a history of the lane
pub kept_on : (lane lanes : ℕ) (old new : Past) (part : List ℕ) → IsKeptPast lane lanes old → IsTaken lane lanes old part true new → StandsFor new.book new.history.entries → IsKeptPast lane lanes new
kept_on lane lanes old new part kept (inl marked) book = record { history = subst (IsHistory lane lanes) (sym marked.1) kept.history; book = book }
kept_on lane lanes old new part kept (inr added) book = record {
  history = subst (IsHistory lane lanes) (sym added.2)
      (record {
        legal = IsLegal-push old.history.entries added.0 kept.history.legal added.1.3;
        of_lane = All-push (IsEntryOf lane lanes) old.history.entries added.0 kept.history.of_lane added.1.1;
      });
  book = book;
}

pub kept_none : (lane lanes : ℕ) (past : Past) → past.history.entries ≡ [] → StandsFor past.book past.history.entries → IsKeptPast lane lanes past
kept_none lane lanes past none book = record {
  history = subst (IsHistory lane lanes) (sym none) (record { legal = tt; of_lane = λ k d below. absurd (omega arith) });
  book = book;
}

-- a bad part stops the reading
pub stops_here : (lane lanes : ℕ) (first : List (List ℕ)) (past : Past) (part : List ℕ) (number : ℕ) → IsPast lane lanes first past → IsBad lane lanes past.history.entries past.version part
    → number ≡ length first + 1 → StopsAt lane lanes (first ++ part ∷ []) number
stops_here lane lanes first past part number read bad place = record {
  entries = past.history.entries;
  version = past.version;
  first = first;
  part = part;
  rest = [];
  spelled = refl;
  written = read.written;
  history = read.history;
  bad = bad;
  place = place;
}

-- and it stays the first one
pub stops_on : (lane lanes : ℕ) (parts : List (List ℕ)) (number : ℕ) (part : List ℕ) → StopsAt lane lanes parts number → StopsAt lane lanes (parts ++ part ∷ []) number
stops_on lane lanes parts number part stops = record {
  entries = stops.entries;
  version = stops.version;
  first = stops.first;
  part = stops.part;
  rest = stops.rest ++ part ∷ [];
  spelled = ap (λ (p : List (List ℕ)). p ++ part ∷ []) stops.spelled ∙ append_assoc stops.first (stops.part ∷ stops.rest) (part ∷ []);
  written = stops.written;
  history = stops.history;
  bad = stops.bad;
  place = stops.place;
}
