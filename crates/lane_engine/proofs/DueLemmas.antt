-- What holds of a receipt that is due, and of the entry that settles it.
use Rattle.std.proofs.Common.{◌≡◌, ◌⊎◌, inl, inr, ℕ, ◌+◌, ◌≤◌, ◌%◌, ◌==◌, ◌||◌, nat_le, Bool, true, false, not, if◌then◌else◌, is_some, Option, Some, None, List, [], ◌∷◌, ◌++◌, length, reverse, refl, sym, ◌∙◌, ap, subst, arith, All, append-nil, length-append}
use Rattle.std.specs.Option.{option_or}
use Rattle.std.specs.List.{list_any, range_with_len}
use Rattle.std.specs.Result.{result_ok}
use Rattle.std.proofs.lemmas.Bool.{and_parts}
use Rattle.std.proofs.lemmas.Bool.Decides.{nat_tests}
use Rattle.ota_core.specs.Keyset.{Keyset}
use Rattle.ota_core.specs.Entry.{is_open_of, is_close_of, is_reserve_of, is_settlement_of}
use Rattle.ota_core.specs.History.{first_some, broken, broken_settlement, broken_status, broken_in_use}
use Rattle.ota_core.specs.HistoryLaws.{broken-none}
use Rattle.ota_core.specs.Questions.{opened_facts, state_of, last_moment}
use Rattle.ota_core.specs.declared.cards.CardId.{CardId}
use Rattle.ota_core.specs.declared.entries.Entry.{Entry}
use Rattle.ota_core.specs.declared.entries.Entry.TheVariants as entry
use Rattle.ota_core.specs.declared.questions.KeysetState.TheVariants as state
use Rattle.keyset_book.proofs.PastLemmas.{opened-facts}
use Rattle.response_packet.specs.Opened.{opens, unsecured_in}
use Rattle.response_packet.specs.Response.{settles}
use Rattle.response_packet.specs.declared.answers.Answer.{Answer}
use Rattle.sms_segments.specs.declared.assembling.Push.{Push}
use Rattle.sms_segments.specs.declared.assembling.Push.TheVariants as push
use Rattle.world_core.specs.MemberLaws.{In-reverse, list_any-In, list_any-from_In, and_then-some, map-some}
use Rattle.std.proofs.lemmas.List.Elements.{All-cons}
use Rattle.gate_log.specs.Log.{four}
use Rattle.gate_log.specs.Measures.{length-four}
use Rattle.counter_journal.specs.EntryOctets.{entry_octets, front_octets, five, eight}
use Rattle.counter_journal.specs.EntryRanges.{IsEntry, IsHistory, IsOfLane, IsSized}
use Rattle.counter_journal.specs.JournalLaws.{All-none}
use Rattle.counter_journal.specs.declared.versions.Version.TheVariants.{Second}
use Rattle.keyset_book.specs.Book.{needs_no_room}
use Rattle.lane_engine.specs.Adding.{need_for}
use Rattle.lane_engine.specs.Packets.{keys_of}
use Rattle.lane_engine.specs.Polling.{LONGEST_SETTLEMENT, settlements}
use Rattle.lane_engine.proofs.AddingLemmas.{history_more}
use Rattle.lane_engine.specs.Receipts.{LONGEST_DATA, Response, place_of, response_at, response_of, response_by, response_under, is_receipt, is_closed, answer_to_receipt, answer_to_response, answer_to_packet, answer_to_push, due_by, settlement_of}
use Rattle.lane_engine.specs.declared.answers.Poll.TheVariants as poll
use Rattle.lane_engine.proofs.KeysetLemmas.{open_in_use, open_of_lane, moment_after}

-- a response that is due by what a message of a card made
pub record IsDue (entries : List Entry) (card : CardId) (made : Push) (response : Response) : Type 0 where
  pub packet : List ℕ
  pub whole : made ≡ push.Whole packet
  pub secured : unsecured_in packet ≡ None
  pub kvn : ℕ
  pub keyset : response.keyset ≡ record { card = card; kvn = kvn }
  pub says : response_at entries card packet kvn ≡ Some response
  pub receipt : is_receipt response ≡ true
  pub in_use : state_of response.keyset (reverse entries) ≡ state.Open
  pub reserved : list_any (is_reserve_of (place_of response)) (reverse entries) ≡ true
  pub unsettled : list_any (is_settlement_of (place_of response)) (reverse entries) ≡ false

-- the answer that one of the tries gave
pub first_try : {A B : Type 0} (f : A → Option B) (xs : List A) (y : B) → first_some f xs ≡ Some y → (x : A) × (f x ≡ Some y)
first_try {A = A} {B = B} f [] y h = cc
first_try {A = A} {B = B} f (x ∷ xs) y h = by_answer (f x) refl (first_try f xs y)
  where
    by_answer : (o : Option B) → f x ≡ o → (first_some f xs ≡ Some y → (t : A) × (f t ≡ Some y)) → (t : A) × (f t ≡ Some y)
    by_answer (Some z) is later = (x, is ∙ (let e : option_or (f x) (first_some f xs) ≡ Some z = rw is refl in sym e ∙ h))
    by_answer None is later = later (let e : option_or (f x) (first_some f xs) ≡ first_some f xs = rw is refl in sym e ∙ h)

-- what opens under a keyset is of that keyset, which the history opens
says_keyset : (entries : List Entry) (card : CardId) (packet : List ℕ) (kvn : ℕ) (response : Response) → response_at entries card packet kvn ≡ Some response
    → (response.keyset ≡ record { card = card; kvn = kvn }) × (is_some (opened_facts (record { card = card; kvn = kvn }) entries) ≡ true)
says_keyset entries card packet kvn response h =
    let keyset : Keyset = record { card = card; kvn = kvn } in
    let facts = and_then-some (response_under keyset packet) (opened_facts keyset entries) response h in
    let answer = map-some (λ (answer : Answer). (let r : Response = record { keyset = keyset; answer = answer } in r)) (result_ok (opens (keys_of facts.0) facts.0.ciphered packet)) response facts.2 in
    (sym (ap (λ (r : Response). r.keyset) answer.2), rw facts.1 refl)

-- a keyset that is opened and not closed is open
still_open : (keyset : Keyset) (past : List Entry) → list_any (is_open_of keyset) past ≡ true → is_closed (state_of keyset past) ≡ false → state_of keyset past ≡ state.Open
still_open keyset past opened unclosed = by_tests (list_any (is_open_of keyset) past) (list_any (is_close_of keyset) past) opened unclosed
  where
    by_tests : (a b : Bool) → a ≡ true → is_closed (if a then (if b then state.Closed else state.Open) else state.New) ≡ false
        → (if a then (if b then state.Closed else state.Open) else state.New) ≡ state.Open
    by_tests true true a h = cc
    by_tests true false a h = refl
    by_tests false b a h = cc

pub opened_past : (keyset : Keyset) (entries : List Entry) → is_some (opened_facts keyset entries) ≡ true → list_any (is_open_of keyset) (reverse entries) ≡ true
opened_past keyset entries opened =
    let found = list_any-In (is_open_of keyset) entries (opened-facts keyset entries ∙ opened) in
    list_any-from_In (is_open_of keyset) (reverse entries) found.0 (In-reverse found.0 entries found.1) found.2

-- ---- by the table of answers

module _ (past : List Entry) (given response : Response) where
  receipt_tests : (a b c : Bool)
      → due_by (if a then poll.Late else (if not b then poll.NotOurs else (if c then poll.Late else poll.Settled given.keyset given.answer.counter))) (Some given) ≡ Some response
      → (a ≡ false) × (b ≡ true) × (c ≡ false) × (given ≡ response)
  receipt_tests true b c h = cc
  receipt_tests false false c h = cc
  receipt_tests false true true h = cc
  receipt_tests false true false h = (refl, refl, refl, (let e : Some given ≡ Some response = h in one e))
    where
      one : Some given ≡ Some response → given ≡ response
      one e = cc

  receipt_due : due_by (answer_to_receipt past given) (Some given) ≡ Some response
      → (is_closed (state_of given.keyset past) ≡ false) × (list_any (is_reserve_of (place_of given)) past ≡ true) × (list_any (is_settlement_of (place_of given)) past ≡ false) × (given ≡ response)
  receipt_due h = receipt_tests (is_closed (state_of given.keyset past)) (list_any (is_reserve_of (place_of given)) past) (list_any (is_settlement_of (place_of given)) past) h

  response_due : due_by (answer_to_response past (Some given)) (Some given) ≡ Some response
      → (is_receipt given ≡ true) × (is_closed (state_of given.keyset past) ≡ false) × (list_any (is_reserve_of (place_of given)) past ≡ true) × (list_any (is_settlement_of (place_of given)) past ≡ false) × (given ≡ response)
  response_due h = by_test (is_receipt given) refl h
    where
      by_test : (t : Bool) → is_receipt given ≡ t → due_by (if t then answer_to_receipt past given else poll.Notice given.answer.status) (Some given) ≡ Some response
          → (is_receipt given ≡ true) × (is_closed (state_of given.keyset past) ≡ false) × (list_any (is_reserve_of (place_of given)) past ≡ true) × (list_any (is_settlement_of (place_of given)) past ≡ false) × (given ≡ response)
      by_test true is due = (let tests = receipt_due due in (is, tests.0, tests.1, tests.2, tests.3))
      by_test false is due = cc

-- what a message made is due
pub push_due : (entries : List Entry) (card : CardId) (made : Push) (response : Response) → due_by (answer_to_push entries card made) (response_by entries card made) ≡ Some response
    → IsDue entries card made response
push_due entries card push.NotOurs response h = cc
push_due entries card push.More response h = cc
push_due entries card (push.Whole packet) response h = by_form (unsecured_in packet) refl h
  where
    by_response : unsecured_in packet ≡ None → (o : Option Response) → response_of entries card packet ≡ o → due_by (answer_to_response (reverse entries) o) o ≡ Some response → IsDue entries card (push.Whole packet) response
    by_response secured None is due = cc
    by_response secured (Some given) is due =
        let tests = response_due (reverse entries) given response due in
        let tried = first_try (response_at entries card packet) (range_with_len 1 15) given is in
        let keyset = says_keyset entries card packet tried.0 given tried.1 in
        let opened : list_any (is_open_of given.keyset) (reverse entries) ≡ true = subst (λ (k : Keyset). list_any (is_open_of k) (reverse entries) ≡ true) (sym keyset.0) (opened_past (record { card = card; kvn = tried.0 }) entries keyset.1) in
        subst (λ (r : Response). IsDue entries card (push.Whole packet) r) tests.4
        (record {
          packet = packet;
          whole = refl;
          secured = secured;
          kvn = tried.0;
          keyset = keyset.0;
          says = tried.1;
          receipt = tests.0;
          in_use = still_open given.keyset (reverse entries) opened tests.1;
          reserved = tests.2;
          unsettled = tests.3;
        })

    by_form : (o : Option ℕ) → unsecured_in packet ≡ o → due_by (answer_to_packet (reverse entries) (response_of entries card packet) o) (response_of entries card packet) ≡ Some response
        → IsDue entries card (push.Whole packet) response
    by_form (Some status) is due = cc
    by_form None is due = by_response is (response_of entries card packet) refl due

-- ---- the entry that settles it

-- the status of a receipt
pub receipt_status : (response : Response) → is_receipt response ≡ true → (settles response.answer.status ≡ true) × (length response.answer.octets ≤ LONGEST_DATA)
receipt_status response h =
    let parts = and_parts (settles response.answer.status) (nat_le (length response.answer.octets) LONGEST_DATA) h in
    (parts.0, grind (arith, nat_tests, parts.1))

pub status_is : (status : ℕ) → settles status ≡ true → (status ≡ 0x00) ⊎ (status ≡ 0x07) ⊎ (status ≡ 0x09)
status_is status h = by_tests (status == 0x00) refl (status == 0x07) refl (status == 0x09) refl
  where
    by_tests : (a : Bool) → (status == 0x00) ≡ a → (b : Bool) → (status == 0x07) ≡ b → (c : Bool) → (status == 0x09) ≡ c → (status ≡ 0x00) ⊎ (status ≡ 0x07) ⊎ (status ≡ 0x09)
    by_tests true a b is_b c is_c = inl (grind (arith, nat_tests, a))
    by_tests false a true b c is_c = inr (inl (grind (arith, nat_tests, b)))
    by_tests false a false b true c = inr (inr (grind (arith, nat_tests, c)))
    by_tests false a false b false c = absurd (none (rw (a, b, c) at h))
      where
        none : (false || false || false) ≡ true → ⊥
        none e = cc

pub refused_status : (status : ℕ) → settles status ≡ true → (status == 0x00) ≡ false → broken_status status ≡ None
refused_status status h not_done = by_cases (status_is status h)
  where
    by_cases : (status ≡ 0x00) ⊎ (status ≡ 0x07) ⊎ (status ≡ 0x09) → broken_status status ≡ None
    by_cases (inl zero) = absurd (differ (status == 0x00) (grind (arith, nat_tests, zero)) not_done)
      where
        differ : (b : Bool) → b ≡ true → b ≡ false → ⊥
        differ true is isnt = cc
        differ false is isnt = cc
    by_cases (inr (inl seven)) = subst (λ (n : ℕ). broken_status n ≡ None) (sym seven) refl
    by_cases (inr (inr nine)) = subst (λ (n : ℕ). broken_status n ≡ None) (sym nine) refl

-- it may follow
pub settlement_legal : (entries : List Entry) (card : CardId) (made : Push) (by moment : ℕ) (response : Response) → IsDue entries card made response → last_moment (reverse entries) ≤ moment
    → broken (reverse entries) (settlement_of by moment response) ≡ None
settlement_legal entries card made by moment response due later = by_test (response.answer.status == 0x00) refl
  where
    awaited : option_or (broken_in_use response.keyset (reverse entries)) (broken_settlement (place_of response) (reverse entries)) ≡ None
    awaited = rw (open_in_use response.keyset (reverse entries) due.in_use, due.reserved, due.unsettled) refl

    with_status : {B : Type 0} (a b c : Option B) → option_or a b ≡ None → c ≡ None → option_or a (option_or b c) ≡ None
    with_status None None c h is = is
    with_status None (Some b) c h is = cc
    with_status (Some a) b c h is = cc

    by_test : (t : Bool) → (response.answer.status == 0x00) ≡ t
        → broken (reverse entries) (if t then entry.Done by moment response.keyset response.answer.counter response.answer.octets else entry.Refused by moment response.keyset response.answer.counter response.answer.status) ≡ None
    by_test true is = broken-none (reverse entries) (entry.Done by moment response.keyset response.answer.counter response.answer.octets) awaited (moment_after (reverse entries) moment later)
    by_test false is = broken-none (reverse entries) (entry.Refused by moment response.keyset response.answer.counter response.answer.status)
        (with_status (broken_in_use response.keyset (reverse entries)) (broken_settlement (place_of response) (reverse entries)) (broken_status response.answer.status)
        awaited (refused_status response.answer.status (receipt_status response due.receipt).0 is))
        (moment_after (reverse entries) moment later)

-- it is of the lane
pub settlement_of_lane : (lane lanes : ℕ) (entries : List Entry) → IsHistory lane lanes entries → (by moment : ℕ) (response : Response) → state_of response.keyset (reverse entries) ≡ state.Open
    → IsOfLane lane lanes (settlement_of by moment response)
settlement_of_lane lane lanes entries is by moment response in_use = by_test (response.answer.status == 0x00)
  where
    of_lane : response.keyset.card.0 % lanes ≡ lane
    of_lane = open_of_lane lane lanes response.keyset entries is in_use

    by_test : (t : Bool) → IsOfLane lane lanes (if t then entry.Done by moment response.keyset response.answer.counter response.answer.octets else entry.Refused by moment response.keyset response.answer.counter response.answer.status)
    by_test true = of_lane
    by_test false = of_lane

-- it fits
pub settlement_sized : (by moment : ℕ) (response : Response) → is_receipt response ≡ true → IsSized (settlement_of by moment response)
settlement_sized by moment response h = by_test (response.answer.status == 0x00)
  where
    short : length response.answer.octets ≤ LONGEST_DATA
    short = (receipt_status response h).1

    by_test : (t : Bool) → IsSized (if t then entry.Done by moment response.keyset response.answer.counter response.answer.octets else entry.Refused by moment response.keyset response.answer.counter response.answer.status)
    by_test true = (let fits = short in omega (arith, fits))
    by_test false = tt

-- it fills no place of the book anew
pub settlement_small : (by moment : ℕ) (response : Response) → needs_no_room (settlement_of by moment response) ≡ true
settlement_small by moment response = by_test (response.answer.status == 0x00)
  where
    by_test : (t : Bool) → needs_no_room (if t then entry.Done by moment response.keyset response.answer.counter response.answer.octets else entry.Refused by moment response.keyset response.answer.counter response.answer.status) ≡ true
    by_test true = refl
    by_test false = refl

length_five : (n : ℕ) → length (five n) ≡ 5
unfolding five
length_five n = refl

length_eight : (n : ℕ) → length (eight n) ≡ 8
unfolding eight
length_eight n = refl

front_long : (kind by moment : ℕ) (keyset : Keyset) → length (front_octets Second kind by moment keyset) ≡ 22
front_long kind by moment keyset =
    omega (arith, length-append (four by ++ eight keyset.card.0 ++ keyset.kvn ∷ []) (eight moment), length-append (four by ++ eight keyset.card.0) (keyset.kvn ∷ []), length-append (four by) (eight keyset.card.0), length-four by, length_eight keyset.card.0, length_eight moment)

-- so many octets are needed by a batch of one entry
need_alone : (only : Entry) → need_for (only ∷ []) ≡ 9 + length (entry_octets Second only)
need_alone only = omega arith

-- it needs no more than the longest one
pub settlement_need : (by moment : ℕ) (response : Response) → is_receipt response ≡ true → need_for (settlement_of by moment response ∷ []) ≤ LONGEST_SETTLEMENT
settlement_need by moment response h = by_test (response.answer.status == 0x00)
  where
    short : length response.answer.octets ≤ LONGEST_DATA
    short = (receipt_status response h).1

    behind : (kind : ℕ) (more : List ℕ) → length (front_octets Second kind by moment response.keyset ++ five response.answer.counter ++ more) ≡ 27 + length more
    behind kind more = omega (
      arith,
      length-append (front_octets Second kind by moment response.keyset ++ five response.answer.counter) more,
      length-append (front_octets Second kind by moment response.keyset) (five response.answer.counter),
      front_long kind by moment response.keyset,
      length_five response.answer.counter,
    )

    by_test : (t : Bool) → need_for ((if t then entry.Done by moment response.keyset response.answer.counter response.answer.octets else entry.Refused by moment response.keyset response.answer.counter response.answer.status) ∷ []) ≤ LONGEST_SETTLEMENT
    by_test true = (let need = need_alone (entry.Done by moment response.keyset response.answer.counter response.answer.octets) in let long = behind 0x03 response.answer.octets in let fits = short in omega (arith, need, long, fits))
    by_test false = (let need = need_alone (entry.Refused by moment response.keyset response.answer.counter response.answer.status) in let long = behind 0x04 (response.answer.status ∷ []) in omega (arith, need, long))

-- the history with what settles a message
pub settled_history : (lane lanes : ℕ) (entries : List Entry) (card : CardId) (made : Push) (by moment : ℕ) → IsHistory lane lanes entries → last_moment (reverse entries) ≤ moment
    → (o : Option Response) → due_by (answer_to_push entries card made) (response_by entries card made) ≡ o → All IsEntry (settlements by moment o) → IsHistory lane lanes (entries ++ settlements by moment o)
settled_history lane lanes entries card made by moment is later None due fits = subst (λ (l : List Entry). IsHistory lane lanes l) (sym (append-nil entries)) is
settled_history lane lanes entries card made by moment is later (Some response) due fits =
    let of : IsDue entries card made response = push_due entries card made response due in
    history_more lane lanes entries (settlement_of by moment response ∷ []) is (rw (settlement_legal entries card made by moment response of later) refl) fits
    (All-cons (IsOfLane lane lanes) (settlement_of by moment response) [] (settlement_of_lane lane lanes entries is by moment response of.in_use) (All-none (IsOfLane lane lanes)))
