-- What all rounds did for the jobs that are unsettled at their end.
use Rattle.std.proofs.Common.{◌≡◌, inl, inr, ℕ, zero, suc, ◌+◌, ◌*◌, ◌≤◌, ◌==◌, ◌||◌, not, cond, if◌then◌else◌, Bool, true, false, Option, Some, None, List, [], ◌∷◌, ◌++◌, length, reverse, refl, sym, ◌∙◌, ap, subst, arith, append-nil, append_assoc}
use Rattle.std.proofs.lemmas.List.{reverse-append}
use Rattle.std.specs.Option.{option_or, option_map, option_and_then}
use Rattle.std.specs.List.{cons_option, filter, filter_map, flat_map, list_any}
use Rattle.disk_model.specs.Disk.{Meaning}
use Rattle.ota_core.specs.Entry.{Reservation, facts_in, is_open_of, is_close_of, is_reserve_of, is_settlement_of, reservation_in}
use Rattle.ota_core.specs.History.{first_some, last_reservation}
use Rattle.ota_core.specs.HistoryLaws.{is_same_job-refl}
use Rattle.ota_core.specs.Job.{is_same_job}
use Rattle.ota_core.specs.Keyset.{Keyset}
use Rattle.ota_core.specs.Questions.{state_of}
use Rattle.ota_core.specs.declared.entries.Entry.{Entry}
use Rattle.ota_core.specs.declared.entries.Entry.TheVariants.{Open, Reserve, Done, Refused, Close}
use Rattle.ota_core.specs.declared.jobs.JobId.{JobId}
use Rattle.ota_core.specs.declared.questions.KeysetState.TheVariants as state
use Rattle.site_model.specs.Port.{PortState}
use Rattle.site_model.specs.Cards.{port_now}
use Rattle.site_model.specs.declared.departures.Departure.{Departure}
use Rattle.world_core.specs.declared.lines.Line.{Line}
use Rattle.lane_lock.specs.Numbers.{Each, IsIn}
use Rattle.lane_lock.proofs.Counting.{Each_map, Each_append}
use Rattle.lane_engine.specs.Adding.{is_settlement}
use Rattle.lane_engine.specs.Departing.{departures_under, packet_if, packet_under}
use Rattle.lane_engine.specs.LaneValue.{LaneValue}
use Rattle.lane_engine.specs.Packets.{departures_if}
use Rattle.lane_engine.specs.Reserving.{resend_refusal, state_refusal}
use Rattle.lane_engine.specs.Unsettled.{if_unsettled, unless_refused, unsettled_in}
use Rattle.lane_engine.specs.declared.answers.LaneErr.{LaneErr}
use Rattle.lane_engine.specs.declared.answers.LaneErr.TheVariants as lane_err
use Rattle.lane_engine.proofs.KeepingLemmas.{OpensNone, found_first, packet_stays}
use Rattle.senders.proofs.RefusalLemmas.{same_job-sym}
use Rattle.senders.specs.Pieces.{IsWatch}
use Rattle.senders.specs.Rounds.{Again, AreRounds, AllRounds, IsPolledFor, IsRound, IsSentAgain, IsSettling, departures_due, due_in, due_of, times_again}

-- ---- settlements, newest first, change neither reservations nor keysets

abbrev Settles : List Entry → Type 0
Settles entries = Each (λ entry. is_settlement entry ≡ true) entries

settlement_of_none : (job : JobId) (entry : Entry) → is_settlement entry ≡ true → reservation_in job entry ≡ None
settlement_of_none job (Open by moment keyset facts) is = refl
settlement_of_none job (Reserve by moment keyset counter other tar name body) is = cc
settlement_of_none job (Done by moment keyset counter answer) is = refl
settlement_of_none job (Refused by moment keyset counter status) is = refl
settlement_of_none job (Close by moment keyset) is = refl

settlement_opens_not : (keyset : Keyset) (entry : Entry) → is_settlement entry ≡ true → is_open_of keyset entry ≡ false
settlement_opens_not keyset (Open by moment other facts) is = cc
settlement_opens_not keyset (Reserve by moment other counter job tar name body) is = refl
settlement_opens_not keyset (Done by moment other counter answer) is = refl
settlement_opens_not keyset (Refused by moment other counter status) is = refl
settlement_opens_not keyset (Close by moment other) is = refl

settlement_closes_not : (keyset : Keyset) (entry : Entry) → is_settlement entry ≡ true → is_close_of keyset entry ≡ false
settlement_closes_not keyset (Open by moment other facts) is = refl
settlement_closes_not keyset (Reserve by moment other counter job tar name body) is = refl
settlement_closes_not keyset (Done by moment other counter answer) is = refl
settlement_closes_not keyset (Refused by moment other counter status) is = refl
settlement_closes_not keyset (Close by moment other) is = cc

settlement_reserves_not : (place : Reservation) (entry : Entry) → is_settlement entry ≡ true → is_reserve_of place entry ≡ false
settlement_reserves_not place (Open by moment keyset facts) is = refl
settlement_reserves_not place (Reserve by moment keyset counter job tar name body) is = cc
settlement_reserves_not place (Done by moment keyset counter answer) is = refl
settlement_reserves_not place (Refused by moment keyset counter status) is = refl
settlement_reserves_not place (Close by moment keyset) is = refl

settlement_has_no_facts : (keyset : Keyset) (entry : Entry) → is_settlement entry ≡ true → facts_in keyset entry ≡ None
settlement_has_no_facts keyset (Open by moment other facts) is = cc
settlement_has_no_facts keyset (Reserve by moment other counter job tar name body) is = refl
settlement_has_no_facts keyset (Done by moment other counter answer) is = refl
settlement_has_no_facts keyset (Refused by moment other counter status) is = refl
settlement_has_no_facts keyset (Close by moment other) is = refl

module _ {A : Type 0} where
  any_none : (f : A → Bool) (xs ys : List A) → Each (λ x. f x ≡ false) ys → list_any f (xs ++ ys) ≡ list_any f xs
  any_none f [] [] none = refl
  any_none f [] (y ∷ ys) none = ap (λ b. b || list_any f ys) none.0 ∙ any_none f [] ys none.1
  any_none f (x ∷ xs) ys none = ap (λ b. f x || b) (any_none f xs ys none)

  any_here : (f : A → Bool) (xs ys : List A) → list_any f (xs ++ ys) ≡ false → list_any f ys ≡ false
  any_here f [] ys none = none
  any_here f (x ∷ xs) ys none = any_here f xs ys (rest_false (f x) (list_any f (xs ++ ys)) none)
    where
      rest_false : (a b : Bool) → (a || b) ≡ false → b ≡ false
      rest_false true b h = cc
      rest_false false b h = h

  skip : (f : A → Bool) (xs ys : List A) → Each (λ x. f x ≡ false) xs → list_any f (xs ++ ys) ≡ list_any f ys
  skip f [] ys none = refl
  skip f (x ∷ xs) ys none = ap (λ b. b || list_any f (xs ++ ys)) none.0 ∙ skip f xs ys none.1

  pass_over : {B : Type 0} (f : A → Option B) (xs ys : List A) → Each (λ x. f x ≡ None) xs → first_some f (xs ++ ys) ≡ first_some f ys
  pass_over f [] ys none = refl
  pass_over f (x ∷ xs) ys none = ap (λ o. option_or o (first_some f (xs ++ ys))) none.0 ∙ pass_over f xs ys none.1

  all_none : {B : Type 0} (f : A → Option B) (xs : List A) → Each (λ x. f x ≡ None) xs → first_some f xs ≡ None
  all_none f [] none = refl
  all_none f (x ∷ xs) none = ap (λ o. option_or o (first_some f xs)) none.0 ∙ all_none f xs none.1

-- a counter that can be sent again behind settlements could be before them
if_unsettled_before : (newer past : List Entry) (place : Reservation) → Settles newer → (found : Reservation) → if_unsettled (newer ++ past) place ≡ Some found → if_unsettled past place ≡ Some found
if_unsettled_before newer past place settle found is =
    ap (λ refusal. unless_refused refusal place)
    (ap (λ s. option_or (state_refusal s) (if not (list_any (is_reserve_of place) past) then Some lane_err.NotReserved else (if list_any (is_settlement_of place) past then Some lane_err.NotReserved else None))) (sym states)
    ∙ ap (λ b. option_or (state_refusal (state_of place.keyset (newer ++ past))) (if not b then Some lane_err.NotReserved else (if list_any (is_settlement_of place) past then Some lane_err.NotReserved else None))) (sym reserves)
    ∙ ap (λ b. option_or (state_refusal (state_of place.keyset (newer ++ past))) (if not (list_any (is_reserve_of place) (newer ++ past)) then Some lane_err.NotReserved else (if b then Some lane_err.NotReserved else None)))
    (any_here (is_settlement_of place) newer past (unsettled now) ∙ sym (unsettled now))
    ∙ now)
    ∙ (sym (ap (λ refusal. unless_refused refusal place) now) ∙ is)
  where
    opens : list_any (is_open_of place.keyset) (newer ++ past) ≡ list_any (is_open_of place.keyset) past
    opens = skip (is_open_of place.keyset) newer past (Each_map _ _ newer (settlement_opens_not place.keyset) settle)

    closes : list_any (is_close_of place.keyset) (newer ++ past) ≡ list_any (is_close_of place.keyset) past
    closes = skip (is_close_of place.keyset) newer past (Each_map _ _ newer (settlement_closes_not place.keyset) settle)

    states : state_of place.keyset (newer ++ past) ≡ state_of place.keyset past
    states =
        ap (λ b. if b then (if list_any (is_close_of place.keyset) (newer ++ past) then state.Closed else state.Open) else state.New) opens
        ∙ ap (λ b. if list_any (is_open_of place.keyset) past then (if b then state.Closed else state.Open) else state.New) closes

    reserves : list_any (is_reserve_of place) (newer ++ past) ≡ list_any (is_reserve_of place) past
    reserves = skip (is_reserve_of place) newer past (Each_map _ _ newer (settlement_reserves_not place) settle)

    refusal_none : (o : Option LaneErr) → unless_refused o place ≡ Some found → o ≡ None
    refusal_none None h = refl
    refusal_none (Some e) h = cc

    now : resend_refusal (newer ++ past) place ≡ None
    now = refusal_none (resend_refusal (newer ++ past) place) is

    unsettled : resend_refusal (newer ++ past) place ≡ None → list_any (is_settlement_of place) (newer ++ past) ≡ false
    unsettled h = tests (state_refusal (state_of place.keyset (newer ++ past))) (list_any (is_reserve_of place) (newer ++ past)) (list_any (is_settlement_of place) (newer ++ past)) h
      where
        tests : (o : Option LaneErr) (a b : Bool) → option_or o (if not a then Some lane_err.NotReserved else (if b then Some lane_err.NotReserved else None)) ≡ None → b ≡ false
        tests (Some e) a b h' = cc
        tests None true true h' = cc
        tests None true false h' = refl
        tests None false b h' = cc

each_reversed : (P : Entry → Type 0) (entries : List Entry) → Each P entries → Each P (reverse entries)
each_reversed P [] all = tt
each_reversed P (entry ∷ entries) all =
    subst (Each P) (sym (reverse-append (entry ∷ []) entries)) (Each_append P (reverse entries) (entry ∷ []) (each_reversed P entries all.1) (all.0, tt))

settles_in : (by : ℕ) (old new : List Entry) (settling : IsSettling by old new) → Settles settling.added
settles_in by old new settling = Each_map _ _ settling.added (λ entry both. both.0) settling.settle

-- a job that is due at the end was due before
pub due_before : (by place : ℕ) (watched : ℕ × JobId) (old new : List Entry) → IsSettling by old new → (found : Reservation) → due_of place new watched ≡ Some found → due_of place old watched ≡ Some found
due_before by place watched old new settling found is = by_test (watched.0 == place) is
  where
    newer : List Entry
    newer = reverse settling.added

    turned : reverse new ≡ newer ++ reverse old
    turned = ap reverse settling.entries ∙ reverse-append old settling.added

    settle : Settles newer
    settle = each_reversed _ settling.added (settles_in by old new settling)

    last_same : last_reservation watched.1 (newer ++ reverse old) ≡ last_reservation watched.1 (reverse old)
    last_same = pass_over (reservation_in watched.1) newer (reverse old) (Each_map _ _ newer (settlement_of_none watched.1) settle)

    by_last : (o : Option Reservation) → option_and_then (if_unsettled (newer ++ reverse old)) o ≡ Some found → option_and_then (if_unsettled (reverse old)) o ≡ Some found
    by_last None h = h
    by_last (Some reserved) h = if_unsettled_before newer (reverse old) reserved settle found h

    by_test : (b : Bool) → (if b then unsettled_in (reverse new) watched.1 else None) ≡ Some found → (if b then unsettled_in (reverse old) watched.1 else None) ≡ Some found
    by_test true h =
        by_last (last_reservation watched.1 (reverse old))
        (ap (option_and_then (if_unsettled (newer ++ reverse old))) (sym last_same) ∙ ap (λ l. unsettled_in l watched.1) (sym turned) ∙ h)
    by_test false h = cc

-- the pieces of a reservation are the same behind settlements
pub departures_before : (by : ℕ) (old new : List Entry) → IsSettling by old new → (place : Reservation) → departures_under new place ≡ departures_under old place
departures_before by old new settling place =
    ap (λ l. departures_under l place) settling.entries ∙ ap departures_if packets
  where
    none : OpensNone settling.added
    none keyset = all_none (facts_in keyset) settling.added (Each_map _ _ settling.added (settlement_has_no_facts keyset) (settles_in by old new settling))

    each_same : (entry : Entry) → packet_if (old ++ settling.added) place entry ≡ packet_if old place entry
    each_same entry = ap (λ p. if is_reserve_of place entry then p else None) (packet_stays old settling.added entry none)

    same_list : (entries : List Entry) → first_some (packet_if (old ++ settling.added) place) entries ≡ first_some (packet_if old place) entries
    same_list [] = refl
    same_list (entry ∷ entries) =
        ap (λ o. option_or o (first_some (packet_if (old ++ settling.added) place) entries)) (each_same entry) ∙ ap (option_or (packet_if old place entry)) (same_list entries)

    not_there : (entry : Entry) → is_settlement entry ≡ true → packet_if old place entry ≡ None
    not_there entry settles' = ap (λ b. if b then Rattle.world_core.specs.Packet.packet_of old entry else None) (settlement_reserves_not place entry settles')

    packets : packet_under (old ++ settling.added) place ≡ packet_under old place
    packets =
        same_list (old ++ settling.added)
        ∙ found_first (packet_if old place) old settling.added (all_none (packet_if old place) settling.added (Each_map _ _ settling.added not_there (settles_in by old new settling)))

pub settling_chain : (by : ℕ) (old mid new : List Entry) → IsSettling by old mid → IsSettling by mid new → IsSettling by old new
settling_chain by old mid new first second = record {
  added = first.added ++ second.added;
  entries = second.entries ∙ ap (λ l. l ++ second.added) first.entries ∙ append_assoc old first.added second.added;
  settle = Each_append _ first.added second.added first.settle second.settle;
}

pub settling_none : (by : ℕ) (entries : List Entry) → IsSettling by entries entries
settling_none by entries = record { added = []; entries = sym (append-nil entries); settle = tt }

-- ---- the list of what a round sends again

abbrev again_of : ℕ → List Entry → ℕ × JobId → Option Again
again_of place entries watched = option_map (λ reservation. record { job = watched.1; reservation = reservation }) (due_of place entries watched)

abbrev again_in : ℕ → List (ℕ × JobId) → List Entry → List Again
again_in place watch entries = filter_map (again_of place entries) watch

again_sent : (place : ℕ) (watch : List (ℕ × JobId)) (entries : List Entry) (f : Reservation → List Departure)
    → flat_map (λ again. f again.reservation) (again_in place watch entries) ≡ flat_map f (due_in place watch entries)
again_sent place [] entries f = refl
again_sent place (watched ∷ watch) entries f = by_due (due_of place entries watched) (again_sent place watch entries f)
  where
    by_due : (o : Option Reservation) → flat_map (λ again. f again.reservation) (again_in place watch entries) ≡ flat_map f (due_in place watch entries)
        → flat_map (λ again. f again.reservation) (cons_option (option_map (λ reservation. record { job = watched.1; reservation = reservation }) o) (again_in place watch entries))
        ≡ flat_map f (cons_option o (due_in place watch entries))
    by_due None rest = rest
    by_due (Some reservation) rest = ap (λ l. f reservation ++ l) rest

-- ---- each watched job stands once in it

times_none : (place : ℕ) (entries : List Entry) (id : JobId) (watch : List (ℕ × JobId)) → Each (λ other. is_same_job other.1 id ≡ false) watch
    → times_again id (again_in place watch entries) ≡ 0
times_none place entries id [] others = refl
times_none place entries id (watched ∷ watch) others = by_due (due_of place entries watched) (times_none place entries id watch others.1)
  where
    by_due : (o : Option Reservation) → times_again id (again_in place watch entries) ≡ 0
        → times_again id (cons_option (option_map (λ reservation. record { job = watched.1; reservation = reservation }) o) (again_in place watch entries)) ≡ 0
    by_due None rest = rest
    by_due (Some reservation) rest =
        ap (λ (b : Bool). length (cond b (record { job = watched.1; reservation = reservation } ∷ filter (λ again. is_same_job again.job id) (again_in place watch entries)) (filter (λ again. is_same_job again.job id) (again_in place watch entries)))) others.0
        ∙ rest

times_one : (lanes place : ℕ) (entries : List Entry) (watch : List (ℕ × JobId)) (watched : ℕ × JobId) (found : Reservation) → IsWatch lanes watch → IsIn watched watch
    → due_of place entries watched ≡ Some found → times_again watched.1 (again_in place watch entries) ≡ 1
times_one lanes place entries [] watched found differ there due = absurd there
times_one lanes place entries (first ∷ watch) watched found differ (inl e) due =
    subst (λ (w : ℕ × JobId). times_again w.1 (again_in place (first ∷ watch) entries) ≡ 1) e
    (by_due (due_of place entries first) (ap (due_of place entries) e ∙ due) (times_none place entries first.1 watch differ.1))
  where
    by_due : (o : Option Reservation) → o ≡ Some found → times_again first.1 (again_in place watch entries) ≡ 0
        → times_again first.1 (cons_option (option_map (λ reservation. record { job = first.1; reservation = reservation }) o) (again_in place watch entries)) ≡ 1
    by_due None h rest = cc
    by_due (Some reservation) h rest =
        ap (λ (b : Bool). length (cond b (record { job = first.1; reservation = reservation } ∷ filter (λ again. is_same_job again.job first.1) (again_in place watch entries)) (filter (λ again. is_same_job again.job first.1) (again_in place watch entries)))) (is_same_job-refl first.1)
        ∙ ap suc rest
times_one lanes place entries (first ∷ watch) watched found differ (inr there) due =
    by_due (due_of place entries first) (times_one lanes place entries watch watched found differ.2 there due)
  where
    others : (list : List (ℕ × JobId)) → IsIn watched list → Each (λ other. is_same_job other.1 first.1 ≡ false) list → is_same_job watched.1 first.1 ≡ false
    others [] there' all = absurd there'
    others (x ∷ xs) (inl e) all = subst (λ (w : ℕ × JobId). is_same_job w.1 first.1 ≡ false) e all.0
    others (x ∷ xs) (inr rest) all = others xs rest all.1

    apart : is_same_job first.1 watched.1 ≡ false
    apart = same_job-sym watched.1 first.1 (others watch there differ.1)

    by_due : (o : Option Reservation) → times_again watched.1 (again_in place watch entries) ≡ 1
        → times_again watched.1 (cons_option (option_map (λ reservation. record { job = first.1; reservation = reservation }) o) (again_in place watch entries)) ≡ 1
    by_due None rest = rest
    by_due (Some reservation) rest =
        ap (λ (b : Bool). length (cond b (record { job = first.1; reservation = reservation } ∷ filter (λ again. is_same_job again.job watched.1) (again_in place watch entries)) (filter (λ again. is_same_job again.job watched.1) (again_in place watch entries)))) apart
        ∙ rest

-- there are no fewer due before than at the end
due_fewer : (by place : ℕ) (watch : List (ℕ × JobId)) (old new : List Entry) → IsSettling by old new → length (due_in place watch new) ≤ length (due_in place watch old)
due_fewer by place [] old new settling = omega arith
due_fewer by place (watched ∷ watch) old new settling =
    by_due (due_of place new watched) (due_of place old watched) (due_before by place watched old new settling) (due_fewer by place watch old new settling)
  where
    by_due : (n o : Option Reservation) → ((found : Reservation) → n ≡ Some found → o ≡ Some found) → length (due_in place watch new) ≤ length (due_in place watch old)
        → length (cons_option n (due_in place watch new)) ≤ length (cons_option o (due_in place watch old))
    by_due None None before rest = rest
    by_due None (Some r) before rest = omega (arith, rest)
    by_due (Some r) None before rest = absurd (clash (before r refl))
      where
        clash : None ≡ Some r → ⊥
        clash e = cc
    by_due (Some r) (Some s) before rest = omega (arith, rest)

flat_same : (f g : Again → List Departure) (list : List Again) → ((again : Again) → f again ≡ g again) → flat_map f list ≡ flat_map g list
flat_same f g [] same = refl
flat_same f g (again ∷ list) same = ap (λ l. l ++ flat_map f list) (same again) ∙ ap (λ l. g again ++ l) (flat_same f g list same)

module _ {D B C : Type 0} (told : Meaning D B C) (port : B → PortState) (lines : C → ℕ → List Line) (lanes place by : ℕ) (watch : List (ℕ × JobId)) (polls : ℕ) (differ : IsWatch lanes watch) where
  abbrev Port : LaneValue D → PortState
  Port lane = port_now told port lines lane.site

  -- all pieces that so many rounds sent, as the end's history has them
  abbrev sent_by : List Entry → List (List Again) → List Departure
  sent_by entries rounds = flat_map (λ round. flat_map (λ again. departures_under entries again.reservation) round) rounds

  -- what so many rounds of sending did
  pub record Did (count : ℕ) (old new : LaneValue D) : Type 0 where
    pub settling : IsSettling by old.journal.entries new.journal.entries
    pub rounds : List (List Again)
    pub counted : length rounds ≡ count
    pub sent : (Port new).sent ≡ (Port old).sent ++ sent_by new.journal.entries rounds
    pub each : (watched : ℕ × JobId) (found : Reservation) → IsIn watched watch → due_of place new.journal.entries watched ≡ Some found → Each (λ round. times_again watched.1 round ≡ 1) rounds
    pub asked : (Port old).polls + polls * count * length (due_in place watch new.journal.entries) ≤ (Port new).polls

  -- a round asked as often as for the jobs that are due at the end
  asked_enough : (old mid : LaneValue D) (last : List Entry) → IsSettling by old.journal.entries last → IsSettling by mid.journal.entries last
      → IsPolledFor told port lines place by watch polls (length (due_in place watch old.journal.entries)) old mid
      → (Port old).polls + polls * length (due_in place watch last) ≤ (Port mid).polls
  asked_enough old mid last before behind (count, is, inl all) =
      let few = due_fewer by place watch old.journal.entries last before in
      let more = times_more polls (length (due_in place watch last)) (length (due_in place watch old.journal.entries)) few in
      omega (arith, is, all, more)
    where
      times_more : (k a b : ℕ) → a ≤ b → k * a ≤ k * b
      times_more k a b le = grind (arith, le)
  asked_enough old mid last before behind (count, is, inr (le, none)) =
      let few = due_fewer by place watch mid.journal.entries last behind in
      let nothing : length (due_in place watch mid.journal.entries) ≡ 0 = ap length none in
      let zero : length (due_in place watch last) ≡ 0 = omega (arith, few, nothing) in
      let product : polls * length (due_in place watch last) ≡ 0 = ap (λ (n : ℕ). polls * n) zero ∙ times_zero polls in
      omega (arith, is, product)
    where
      times_zero : (k : ℕ) → k * 0 ≡ 0
      times_zero k = omega arith

  did_none : (old : LaneValue D) → Did 0 old old
  did_none old = record {
    settling = settling_none by old.journal.entries;
    rounds = [];
    counted = refl;
    sent = sym (append-nil (Port old).sent);
    each = λ watched found there due. tt;
    asked = let zero = no_rounds polls (length (due_in place watch old.journal.entries)) in omega (arith, zero);
  }
    where
      no_rounds : (k n : ℕ) → k * 0 * n ≡ 0
      no_rounds k n = grind arith

  did_one : (count : ℕ) (old mid new : LaneValue D) → IsRound told port lines place by watch polls true old mid → Did count mid new → Did (suc count) old new
  did_one count old mid new round rest = record {
    settling = whole;
    rounds = again_in place watch old.journal.entries ∷ rest.rounds;
    counted = ap suc rest.counted;
    sent =
        rest.sent ∙ ap (λ l. l ++ sent_by new.journal.entries rest.rounds) round.sent
        ∙ append_assoc (Port old).sent (departures_due old.journal.entries (due_in place watch old.journal.entries)) (sent_by new.journal.entries rest.rounds)
        ∙ ap (λ l. (Port old).sent ++ (l ++ sent_by new.journal.entries rest.rounds)) (sym first);
    each = λ watched found there due.
        (times_one lanes place old.journal.entries watch watched found differ there (due_before by place watched old.journal.entries new.journal.entries whole found due), rest.each watched found there due);
    asked =
        let a = asked_enough old mid new.journal.entries whole rest.settling round.polled in
        let b = rest.asked in
        let c = one_more polls count (length (due_in place watch new.journal.entries)) in
        omega (arith, a, b, c);
  }
    where
      whole : IsSettling by old.journal.entries new.journal.entries
      whole = settling_chain by old.journal.entries mid.journal.entries new.journal.entries round.settling rest.settling

      first : flat_map (λ again. departures_under new.journal.entries again.reservation) (again_in place watch old.journal.entries)
          ≡ departures_due old.journal.entries (due_in place watch old.journal.entries)
      first =
          flat_same (λ again. departures_under new.journal.entries again.reservation) (λ again. departures_under old.journal.entries again.reservation) (again_in place watch old.journal.entries)
          (λ again. departures_before by old.journal.entries new.journal.entries whole again.reservation)
          ∙ again_sent place watch old.journal.entries (departures_under old.journal.entries)

      one_more : (k n m : ℕ) → k * suc n * m ≡ k * m + k * n * m
      one_more k n m = grind arith

  did_rounds : (count : ℕ) (old new : LaneValue D) → AreRounds told port lines place by watch polls count old new → Did count old new
  did_rounds zero old new same = subst (λ (l : LaneValue D). Did 0 old l) (sym same) (did_none old)
  did_rounds (suc count) old new (mid, round, rest) = did_one count old mid new round (did_rounds count mid new rest)

  -- In each round of sending each job that is unsettled at the end was sent once.
  pub sent_again : (resends : ℕ) (old new : LaneValue D) → AllRounds told port lines place by watch polls resends old new → IsSentAgain told port lines place watch polls resends old new
  sent_again resends old new (mid, round, rest) =
      let did = did_rounds resends mid new rest in
      let whole = settling_chain by old.journal.entries mid.journal.entries new.journal.entries round.settling did.settling in
      record {
        rounds = did.rounds;
        count = did.counted;
        sent = did.sent ∙ ap (λ l. l ++ sent_by new.journal.entries did.rounds) (round.sent ∙ append-nil (Port old).sent);
        each = λ watched there some_due. by_due watched there (due_of place new.journal.entries watched) refl some_due did;
        asked =
            let a = asked_enough old mid new.journal.entries whole did.settling round.polled in
            let b = did.asked in
            let c = all_rounds polls resends (length (due_in place watch new.journal.entries)) in
            omega (arith, a, b, c);
      }
    where
      clash : false ≡ true → ⊥
      clash e = cc

      all_rounds : (k n m : ℕ) → k * (1 + n) * m ≡ k * m + k * n * m
      all_rounds k n m = grind arith

      by_due : (watched : ℕ × JobId) → IsIn watched watch → (o : Option Reservation) → due_of place new.journal.entries watched ≡ o → Rattle.std.specs.Prelude.IsSome o
          → (did : Did resends mid new) → Each (λ round'. times_again watched.1 round' ≡ 1) did.rounds
      by_due watched there None is some_due did = absurd (clash some_due)
      by_due watched there (Some found) is some_due did = did.each watched found there is
