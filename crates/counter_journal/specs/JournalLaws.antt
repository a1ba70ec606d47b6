-- Laws of what octets hold, for those who keep a journal.
use Rattle.std.specs.Prelude.{◌≡◌, ◌⊎◌, ℕ, ◌+◌, suc, List, [], ◌∷◌, ◌++◌, length, All, reverse, None, refl}
use Rattle.std.proofs.Common.{inl, inr, sym, ◌∙◌, ap, subst, arith, append_assoc, length-append}
use Rattle.std.proofs.lemmas.List.{reverse-append, map-append, append-nil, get_or_append_left}
use Rattle.std.proofs.lemmas.List.Elements.{All-push}
use Rattle.gate_log.specs.Reading.{parts_of}
use Rattle.gate_log.specs.Reading.Reading.{Opened, Damaged}
use Rattle.ota_core.specs.History.{broken, IsLegal, IsLegalPast}
use Rattle.ota_core.specs.declared.entries.Entry.{Entry}
use Rattle.ota_core.specs.declared.entries.Entry.TheVariants.{Open, Reserve, Done, Refused, Close}
use Rattle.counter_journal.specs.declared.versions.Version.{Version}
use Rattle.counter_journal.specs.declared.versions.Version.TheVariants.{First, Second}
use Rattle.counter_journal.specs.EntriesAgain.{one_entry}
use Rattle.counter_journal.specs.EntryOctets.{entry_octets, MARK, IsOfVersion}
use Rattle.counter_journal.specs.EntryRanges.{IsEntry, IsEntryOf, IsHistory}
use Rattle.counter_journal.specs.Journal.{journal_head}
use Rattle.counter_journal.specs.JournalReading.{parts_in, AreMarked, AreWritten, Holds, IsFirstMark, IsBad, StopsAt, DamagedAt}

pub same_parts : (one other : List (List ℕ)) (behind rest : List ℕ) → Opened one behind ≡ Opened other rest → one ≡ other
same_parts one other behind rest e = cc

not_both : (one other : List (List ℕ)) (behind : List ℕ) → Opened one behind ≡ Damaged other → ⊥
not_both one other behind e = cc

both_same : (x y : List ℕ) (a b : List (List ℕ)) → x ∷ a ≡ y ∷ b → (x ≡ y) × (a ≡ b)
both_same x y a b e = (cc, cc)

none_and_some : (x : List ℕ) (a : List (List ℕ)) → [] ≡ x ∷ a → ⊥
none_and_some x a e = cc

pub All-first : (P : Entry → Type 0) (entry : Entry) (entries : List Entry) → All P (entry ∷ entries) → P entry
All-first P entry entries all = all 0 entry (omega arith)

pub All-rest : (P : Entry → Type 0) (entry : Entry) (entries : List Entry) → All P (entry ∷ entries) → All P entries
All-rest P entry entries all = λ k d below. all (suc k) d (omega (arith, below))

pub All-none : (P : Entry → Type 0) → All P []
All-none P = λ k d below. absurd (omega arith)

-- ---- the mark

first_octet : (one other : ℕ) (a b : List ℕ) → one ∷ a ≡ other ∷ b → one ≡ other
first_octet one other a b e = cc

-- the mark is no entry
pub no_mark : (version : Version) (entry : Entry) → entry_octets version entry ≡ MARK → ⊥
no_mark version (Open by moment keyset facts) e = absurd (omega (arith, first_octet 0x01 0x06 _ _ e))
no_mark version (Reserve by moment keyset counter job tar name body) e = absurd (omega (arith, first_octet 0x02 0x06 _ _ e))
no_mark version (Done by moment keyset counter answer) e = absurd (omega (arith, first_octet 0x03 0x06 _ _ e))
no_mark version (Refused by moment keyset counter status) e = absurd (omega (arith, first_octet 0x04 0x06 _ _ e))
no_mark version (Close by moment keyset) e = absurd (omega (arith, first_octet 0x05 0x06 _ _ e))

-- ---- entries of one version

-- these entries can be written in this version
pub record AreOf (version : Version) (entries : List Entry) : Type 0 where
  pub fit : All IsEntry entries
  pub of : All (IsOfVersion version) entries

first_of : (version : Version) (entry : Entry) (entries : List Entry) → AreOf version (entry ∷ entries) → IsEntry entry × IsOfVersion version entry
first_of version entry entries are = (All-first IsEntry entry entries are.fit, All-first (IsOfVersion version) entry entries are.of)

rest_of : (version : Version) (entry : Entry) (entries : List Entry) → AreOf version (entry ∷ entries) → AreOf version entries
rest_of version entry entries are = record { fit = All-rest IsEntry entry entries are.fit; of = All-rest (IsOfVersion version) entry entries are.of }

same_first : (version : Version) (x y : Entry) (a b : List Entry) → AreOf version (x ∷ a) → AreOf version (y ∷ b) → entry_octets version x ≡ entry_octets version y → x ≡ y
same_first version x y a b are_a are_b e =
    let one = first_of version x a are_a in
    let other = first_of version y b are_b in
    one_entry version x y one.0 other.0 one.1 other.1 e

join : (x y : Entry) (a b : List Entry) → x ≡ y → a ≡ b → x ∷ a ≡ y ∷ b
join x y a b first rest = ap (λ (e : Entry). e ∷ a) first ∙ ap (λ (l : List Entry). y ∷ l) rest

-- no two lists of entries have the same parts
pub one_list : (version : Version) (a b : List Entry) → AreOf version a → AreOf version b → parts_in version a ≡ parts_in version b → a ≡ b
one_list version [] [] are_a are_b e = refl
one_list version [] (y ∷ b) are_a are_b e = absurd (none_and_some (entry_octets version y) (parts_in version b) e)
one_list version (x ∷ a) [] are_a are_b e = absurd (none_and_some (entry_octets version x) (parts_in version a) (sym e))
one_list version (x ∷ a) (y ∷ b) are_a are_b e =
    let both = both_same (entry_octets version x) (entry_octets version y) (parts_in version a) (parts_in version b) e in
    join x y a b (same_first version x y a b are_a are_b both.0) (one_list version a b (rest_of version x a are_a) (rest_of version y b are_b) both.1)

-- the entry of these behind others, spelled by this part
pub record IsBehind (version : Version) (entries first : List Entry) (part : List ℕ) : Type 0 where
  pub entry : Entry
  pub more : List Entry
  pub is : entries ≡ first ++ entry ∷ more
  pub spelled : entry_octets version entry ≡ part
  pub of : IsOfVersion version entry

behind_more : (version : Version) (x y : Entry) (entries first : List Entry) (part : List ℕ) → x ≡ y → IsBehind version entries first part → IsBehind version (x ∷ entries) (y ∷ first) part
behind_more version x y entries first part same found =
    record { entry = found.entry; more = found.more; is = join x y entries (first ++ found.entry ∷ found.more) same found.is; spelled = found.spelled; of = found.of }

behind_first : (version : Version) (entries first : List Entry) (part : List ℕ) (rest : List (List ℕ)) → AreOf version entries → AreOf version first
    → parts_in version entries ≡ parts_in version first ++ part ∷ rest → IsBehind version entries first part
behind_first version [] [] part rest are fit e = absurd (none_and_some part rest e)
behind_first version [] (y ∷ first) part rest are fit e = absurd (none_and_some (entry_octets version y) (parts_in version first ++ part ∷ rest) e)
behind_first version (x ∷ entries) [] part rest are fit e =
    let both = both_same (entry_octets version x) part (parts_in version entries) rest e in
    record { entry = x; more = entries; is = refl; spelled = both.0; of = (first_of version x entries are).1 }
behind_first version (x ∷ entries) (y ∷ first) part rest are fit e =
    let both = both_same (entry_octets version x) (entry_octets version y) (parts_in version entries) (parts_in version first ++ part ∷ rest) e in
    behind_more version x y entries first part (same_first version x y entries first are fit both.0)
    (behind_first version entries first part rest (rest_of version x entries are) (rest_of version y first fit) both.1)

-- entries of version 1 alone have no mark
unmarked : (entries front : List Entry) (rest : List (List ℕ)) → AreOf First entries → AreOf First front → parts_in First entries ≡ parts_in First front ++ MARK ∷ rest → ⊥
unmarked entries front rest are fit e = let found = behind_first First entries front MARK rest are fit e in no_mark First found.entry found.spelled

-- ---- a front of version 1, and the mark

-- two texts that are both a front and the mark have the same front, and the same behind it
same_front : (a b : List Entry) (x y : List (List ℕ)) → AreOf First a → AreOf First b → parts_in First a ++ MARK ∷ x ≡ parts_in First b ++ MARK ∷ y → (a ≡ b) × (x ≡ y)
same_front [] [] x y are_a are_b e = (refl, (both_same MARK MARK x y e).1)
same_front [] (s ∷ b) x y are_a are_b e = absurd (no_mark First s (sym (both_same MARK (entry_octets First s) x (parts_in First b ++ MARK ∷ y) e).0))
same_front (r ∷ a) [] x y are_a are_b e = absurd (no_mark First r (both_same (entry_octets First r) MARK (parts_in First a ++ MARK ∷ x) y e).0)
same_front (r ∷ a) (s ∷ b) x y are_a are_b e =
    let both = both_same (entry_octets First r) (entry_octets First s) (parts_in First a ++ MARK ∷ x) (parts_in First b ++ MARK ∷ y) e in
    let rest = same_front a b x y (rest_of First r a are_a) (rest_of First s b are_b) both.1 in
    (join r s a b (same_first First r s a b are_a are_b both.0) rest.0, rest.1)

-- where a front and the mark begin with entries of version 1, the next part is the mark, or the next entry of the front
in_front : (front first : List Entry) (part : List ℕ) (x rest : List (List ℕ)) → AreOf First front → AreOf First first
    → parts_in First front ++ MARK ∷ x ≡ parts_in First first ++ part ∷ rest → (part ≡ MARK) ⊎ IsBehind First front first part
in_front [] [] part x rest are fit e = inl (sym (both_same MARK part x rest e).0)
in_front [] (s ∷ first) part x rest are fit e = absurd (no_mark First s (sym (both_same MARK (entry_octets First s) x (parts_in First first ++ part ∷ rest) e).0))
in_front (r ∷ front) [] part x rest are fit e =
    inr (record { entry = r; more = front; is = refl; spelled = (both_same (entry_octets First r) part (parts_in First front ++ MARK ∷ x) rest e).0; of = (first_of First r front are).1 })
in_front (r ∷ front) (s ∷ first) part x rest are fit e =
    let both = both_same (entry_octets First r) (entry_octets First s) (parts_in First front ++ MARK ∷ x) (parts_in First first ++ part ∷ rest) e in
    further (in_front front first part x rest (rest_of First r front are) (rest_of First s first fit) both.1) (same_first First r s front first are fit both.0)
  where
    further : (part ≡ MARK) ⊎ IsBehind First front first part → r ≡ s → (part ≡ MARK) ⊎ IsBehind First (r ∷ front) (s ∷ first) part
    further (inl mark) same = inl mark
    further (inr found) same = inr (behind_more First r s front first part same found)

-- ---- one history

All-front : (P : Entry → Type 0) (front rest : List Entry) → All P (front ++ rest) → All P front
All-front P front rest all = λ k d below. subst P (get_or_append_left front rest d k below) (all k d (omega (arith, below, length-append front rest)))

All-behind : (P : Entry → Type 0) (front rest : List Entry) → All P (front ++ rest) → All P rest
All-behind P [] rest all = all
All-behind P (entry ∷ front) rest all = All-behind P front rest (All-rest P entry (front ++ rest) all)

front_are : (entries : List Entry) (parts : List (List ℕ)) (marked : AreMarked entries parts) → All IsEntry entries → AreOf First marked.front
front_are entries parts marked fit = record { fit = All-front IsEntry marked.front marked.rest (subst (All IsEntry) marked.are fit); of = marked.old }

rest_are : (entries : List Entry) (parts : List (List ℕ)) (marked : AreMarked entries parts) → All IsEntry entries → AreOf Second marked.rest
rest_are entries parts marked fit = record { fit = All-behind IsEntry marked.front marked.rest (subst (All IsEntry) marked.are fit); of = λ k d below. tt }

-- parts are one list of entries
pub one_written : (u v : Version) (a b : List Entry) (parts : List (List ℕ)) → All IsEntry a → All IsEntry b → AreWritten u a parts → AreWritten v b parts → a ≡ b
one_written First First a b parts fit_a fit_b one other =
    one_list First a b (record { fit = fit_a; of = one.0 }) (record { fit = fit_b; of = other.0 }) (sym one.1 ∙ other.1)
one_written First Second a b parts fit_a fit_b one other =
    absurd (unmarked a other.front (parts_in Second other.rest) (record { fit = fit_a; of = one.0 }) (front_are b parts other fit_b) (sym one.1 ∙ other.spelled))
one_written Second First a b parts fit_a fit_b one other =
    absurd (unmarked b one.front (parts_in Second one.rest) (record { fit = fit_b; of = other.0 }) (front_are a parts one fit_a) (sym other.1 ∙ one.spelled))
one_written Second Second a b parts fit_a fit_b one other =
    let same = same_front one.front other.front (parts_in Second one.rest) (parts_in Second other.rest) (front_are a parts one fit_a) (front_are b parts other fit_b) (sym one.spelled ∙ other.spelled) in
    let rest : one.rest ≡ other.rest = one_list Second one.rest other.rest (rest_are a parts one fit_a) (rest_are b parts other fit_b) same.1 in
    one.are ∙ ap (λ (l : List Entry). l ++ one.rest) same.0 ∙ ap (λ (l : List Entry). other.front ++ l) rest ∙ sym other.are

-- octets hold one list of entries
pub one_history : (lane lanes : ℕ) (a b : List Entry) (octets : List ℕ) → All IsEntry a → All IsEntry b → Holds lane lanes a octets → Holds lane lanes b octets → a ≡ b
one_history lane lanes a b octets fit_a fit_b one other =
    let same : one.parts ≡ other.parts = same_parts one.parts other.parts one.opens.0 other.opens.0 (sym one.opens.1 ∙ other.opens.1) in
    one_written one.version other.version a b other.parts fit_a fit_b (subst (λ (p : List (List ℕ)). AreWritten one.version a p) same one.written) other.written

pub fit_of : (lane lanes : ℕ) (entries : List Entry) → All (IsEntryOf lane lanes) entries → All IsEntry entries
fit_of lane lanes entries all = λ k d below. (all k d below).fits

-- ---- parts that go on

-- entries more, all of version 2
pub written_more : (entries : List Entry) (parts : List (List ℕ)) (more : List Entry) → AreWritten Second entries parts → AreWritten Second (entries ++ more) (parts ++ parts_in Second more)
written_more entries parts more written = record {
  front = written.front;
  rest = written.rest ++ more;
  are = ap (λ (l : List Entry). l ++ more) written.are ∙ append_assoc written.front written.rest more;
  old = written.old;
  spelled =
      ap (λ (p : List (List ℕ)). p ++ parts_in Second more) written.spelled
      ∙ append_assoc (parts_in First written.front) (MARK ∷ parts_in Second written.rest) (parts_in Second more)
      ∙ ap (λ (p : List (List ℕ)). parts_in First written.front ++ MARK ∷ p) (sym (map-append (entry_octets Second) written.rest more));
}

-- an entry more
pub written_entry : (version : Version) (entries : List Entry) (parts : List (List ℕ)) (entry : Entry) → AreWritten version entries parts → IsOfVersion version entry
    → AreWritten version (entries ++ entry ∷ []) (parts ++ entry_octets version entry ∷ [])
written_entry First entries parts entry written of =
    (All-push (IsOfVersion First) entries entry written.0 of, ap (λ (p : List (List ℕ)). p ++ entry_octets First entry ∷ []) written.1 ∙ sym (map-append (entry_octets First) entries (entry ∷ [])))
written_entry Second entries parts entry written of = written_more entries parts (entry ∷ []) written

-- the mark
pub written_mark : (entries : List Entry) (parts : List (List ℕ)) → AreWritten First entries parts → AreWritten Second entries (parts ++ MARK ∷ [])
written_mark entries parts written = record {
  front = entries;
  rest = [];
  are = sym (append-nil entries);
  old = written.0;
  spelled = ap (λ (p : List (List ℕ)). p ++ MARK ∷ []) written.1;
}

-- ---- a history is read

-- behind the parts of these entries, of those that all parts are, stands the first mark or the next entry
next_written : (u v : Version) (entries first : List Entry) (parts : List (List ℕ)) (part : List ℕ) (rest : List (List ℕ)) → All IsEntry entries → All IsEntry first
    → AreWritten u entries (parts ++ part ∷ rest) → AreWritten v first parts → IsFirstMark v part ⊎ IsBehind v entries first part
next_written First First entries first parts part rest fit_a fit_b all some =
    inr (behind_first First entries first part rest (record { fit = fit_a; of = all.0 }) (record { fit = fit_b; of = some.0 })
    (sym all.1 ∙ ap (λ (p : List (List ℕ)). p ++ part ∷ rest) some.1))
next_written First Second entries first parts part rest fit_a fit_b all some =
    absurd (unmarked entries some.front (parts_in Second some.rest ++ part ∷ rest) (record { fit = fit_a; of = all.0 }) (front_are first parts some fit_b)
    (sym all.1 ∙ ap (λ (p : List (List ℕ)). p ++ part ∷ rest) some.spelled ∙ append_assoc (parts_in First some.front) (MARK ∷ parts_in Second some.rest) (part ∷ rest)))
next_written Second First entries first parts part rest fit_a fit_b all some =
    further (in_front all.front first part (parts_in Second all.rest) rest (front_are entries (parts ++ part ∷ rest) all fit_a) (record { fit = fit_b; of = some.0 })
    (sym all.spelled ∙ ap (λ (p : List (List ℕ)). p ++ part ∷ rest) some.1))
  where
    further : (part ≡ MARK) ⊎ IsBehind First all.front first part → IsFirstMark First part ⊎ IsBehind First entries first part
    further (inl mark) = inl mark
    further (inr found) = inr (record {
      entry = found.entry;
      more = found.more ++ all.rest;
      is = all.are ∙ ap (λ (l : List Entry). l ++ all.rest) found.is ∙ append_assoc first (found.entry ∷ found.more) all.rest;
      spelled = found.spelled;
      of = found.of;
    })
next_written Second Second entries first parts part rest fit_a fit_b all some =
    let same = same_front all.front some.front (parts_in Second all.rest) (parts_in Second some.rest ++ part ∷ rest) (front_are entries (parts ++ part ∷ rest) all fit_a) (front_are first parts some fit_b)
    (sym all.spelled ∙ ap (λ (p : List (List ℕ)). p ++ part ∷ rest) some.spelled ∙ append_assoc (parts_in First some.front) (MARK ∷ parts_in Second some.rest) (part ∷ rest)) in
    let found = behind_first Second all.rest some.rest part rest (rest_are entries (parts ++ part ∷ rest) all fit_a) (rest_are first parts some fit_b) same.1 in
    inr (record {
      entry = found.entry;
      more = found.more;
      is =
          all.are
          ∙ ap (λ (l : List Entry). l ++ all.rest) same.0
          ∙ ap (λ (l : List Entry). some.front ++ l) found.is
          ∙ sym (append_assoc some.front some.rest (found.entry ∷ found.more))
          ∙ ap (λ (l : List Entry). l ++ found.entry ∷ found.more) (sym some.are);
      spelled = found.spelled;
      of = found.of;
    })

past_of : (later past : List Entry) → IsLegalPast (later ++ past) → IsLegalPast past
past_of [] past legal = legal
past_of (entry ∷ later) past legal = past_of later past legal.0

-- each entry of a legal history may follow those before it
pub entry_follows : (first more : List Entry) (entry : Entry) → IsLegal (first ++ entry ∷ more) → broken (reverse first) entry ≡ None
entry_follows first more entry legal =
    let turned : reverse (first ++ entry ∷ more) ≡ reverse more ++ (entry ∷ reverse first) =
    reverse-append first (entry ∷ more)
    ∙ ap (λ (l : List Entry). l ++ reverse first) (reverse-append (entry ∷ []) more)
    ∙ append_assoc (reverse more) (entry ∷ []) (reverse first) in
    (past_of (reverse more) (entry ∷ reverse first) (subst IsLegalPast turned legal)).1

-- no part of a history is bad
pub no_stop : (lane lanes : ℕ) (version : Version) (entries : List Entry) (parts : List (List ℕ)) (number : ℕ) → IsHistory lane lanes entries → AreWritten version entries parts
    → StopsAt lane lanes parts number → ⊥
no_stop lane lanes version entries parts number is written stops =
    refuted (next_written version stops.version entries stops.entries stops.first stops.part stops.rest (fit_of lane lanes entries is.of_lane) (fit_of lane lanes stops.entries stops.history.of_lane)
    (subst (λ (p : List (List ℕ)). AreWritten version entries p) stops.spelled written) stops.written)
  where
    refuted : IsFirstMark stops.version stops.part ⊎ IsBehind stops.version entries stops.entries stops.part → ⊥
    refuted (inl mark) = stops.bad.no_mark mark
    refuted (inr found) =
        let all : All (IsEntryOf lane lanes) (stops.entries ++ found.entry ∷ found.more) = subst (All (IsEntryOf lane lanes)) found.is is.of_lane in
        let of_lane = All-first (IsEntryOf lane lanes) found.entry found.more (All-behind (IsEntryOf lane lanes) stops.entries (found.entry ∷ found.more) all) in
        stops.bad.no_entry found.entry of_lane found.of found.spelled (entry_follows stops.entries found.more found.entry (subst IsLegal found.is is.legal))

-- octets that hold a history are not damaged
pub written_are_read : (lane lanes : ℕ) (entries : List Entry) (octets : List ℕ) (number : ℕ) → IsHistory lane lanes entries → Holds lane lanes entries octets
    → DamagedAt lane lanes (parts_of (journal_head lane lanes) octets) number → ⊥
written_are_read lane lanes entries octets number is holds (inl (parts, inl opened, stops)) =
    let same : parts ≡ holds.parts = same_parts parts holds.parts opened.0 holds.opens.0 (sym opened.1 ∙ holds.opens.1) in
    no_stop lane lanes holds.version entries holds.parts number is holds.written (subst (λ (p : List (List ℕ)). StopsAt lane lanes p number) same stops)
written_are_read lane lanes entries octets number is holds (inl (parts, inr damaged, stops)) =
    absurd (not_both holds.parts parts holds.opens.0 (sym holds.opens.1 ∙ damaged))
written_are_read lane lanes entries octets number is holds (inr ends) =
    absurd (not_both holds.parts ends.parts holds.opens.0 (sym holds.opens.1 ∙ ends.damaged))
