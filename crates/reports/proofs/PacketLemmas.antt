use Rattle.std.proofs.Common.{◌≡◌, ℕ, zero, suc, ◌+◌, ◌≤◌, Bool, true, false, if◌then◌else◌, Option, Some, None, reverse, subst, List, [], ◌∷◌, ◌++◌, length, map, refl, sym, ap, ◌∙◌, arith, append_assoc}
use Rattle.std.specs.Prelude.{All, slice_index_or, find}
use Rattle.std.specs.Option.{option_or, option_map}
use Rattle.std.specs.List.{flat_map, range_with_len}
use Rattle.std.proofs.lemmas.List.{append-nil, reverse-append}
use Rattle.std.proofs.lemmas.List.Elements.{All-head, All-tail, All-append}
use Rattle.std.proofs.lemmas.List.Folds.{flat_map-map}
use Rattle.std.proofs.lemmas.List.FromFn.{map-range_with_len_more}
use Rattle.std.proofs.lemmas.Grind.{flat_map-append}
use Rattle.ota_core.specs.HistoryValue.{HistoryValue}
use Rattle.ota_core.specs.Job.{is_same_job}
use Rattle.ota_core.specs.Entry.{is_settlement_of}
use Rattle.ota_core.specs.History.{first_some, last_reservation}
use Rattle.ota_core.specs.Questions.{Reserved, place_of, reserved_for, last_reserved}
use Rattle.ota_core.specs.Outcome.{settled_by}
use Rattle.ota_core.specs.declared.jobs.JobId.{JobId}
use Rattle.ota_core.specs.declared.entries.Entry.{Entry}
use Rattle.ota_core.specs.declared.entries.Entry.TheVariants.{Open, Reserve, Done, Refused, Close}
use Rattle.ota_core.specs.declared.security.Spi.{Spi}
use Rattle.aes_modes.specs.KeyPair.{KeyPair}
use Rattle.command_packet.specs.Command.{command_octets}
use Rattle.secured_packet.specs.Secured.{two}
use Rattle.reports.specs.Report.{entries_in}
use Rattle.reports.specs.Packets.{HasBody, lines_for, lines_of_job}

-- a packet has octets
pub command_octets-some : (keys : KeyPair) (kvn : ℕ) (spi : Spi) (tar : List ℕ) (counter : ℕ) (body : List ℕ)
    → 1 ≤ length (command_octets keys kvn spi tar counter body)
unfolding command_octets two
command_octets-some keys kvn spi tar counter body = omega arith

-- the lines up to a place, and that of the next one
lines_to_next : (f : ℕ → List ℕ) (n : ℕ) → flat_map f (range_with_len 1 (n + 1)) ≡ flat_map f (range_with_len 1 n) ++ f (n + 1)
lines_to_next f n =
    sym (flat_map-map (λ line. line) f (range_with_len 1 (n + 1)))
    ∙ ap (flat_map (λ line. line)) (map-range_with_len_more f 1 n (n + 1) (omega arith))
    ∙ flat_map-append (λ line. line) (map f (range_with_len 1 n)) (f (n + 1) ∷ [])
    ∙ (λ i. flat_map-map (λ line. line) f (range_with_len 1 n) i ++ append-nil (f (n + 1)) i)

-- a text that goes on with the line of the next place
pub one_line_more : (f : ℕ → List ℕ) (front text : List ℕ) (n : ℕ) → text ≡ front ++ flat_map f (range_with_len 1 n)
    → text ++ f (n + 1) ≡ front ++ flat_map f (range_with_len 1 (n + 1))
one_line_more f front text n so_far = rw (so_far, lines_to_next, append_assoc) refl

-- what holds of each entry of each history holds of each entry of the one at a place, or of none where there is none
pub All-history_at : (P : Entry → Type 0) (histories : List HistoryValue) (i : ℕ) → All (λ history. All P history.entries) histories
    → All P (slice_index_or (map entries_in histories) i [])
All-history_at P [] i all = λ k d within. absurd (omega arith)
All-history_at P (history ∷ histories) zero all = All-head (λ history. All P history.entries) history histories all
All-history_at P (history ∷ histories) (suc i) all = All-history_at P histories i (All-tail (λ history. All P history.entries) history histories all)

-- what is reserved for a job has a script of 1 to 4,096 octets
reserved_for-sized : (entry : Entry) (job : JobId) (reserved : Reserved) → HasBody entry → reserved_for job entry ≡ Some reserved
    → (1 ≤ length reserved.body) × (length reserved.body ≤ 4096)
reserved_for-sized (Reserve by moment keyset counter id tar name body) job reserved sized is = by_test (is_same_job id job) is
  where
    there : Reserved
    there = record { keyset = keyset; counter = counter; job = id; moment = moment; tar = tar; name = name; body = body }

    by_test : (test : Bool) → (if test then Some there else None) ≡ Some reserved → (1 ≤ length reserved.body) × (length reserved.body ≤ 4096)
    by_test true e = subst (λ (r : Reserved). (1 ≤ length r.body) × (length r.body ≤ 4096)) (this e) sized
      where
        this : Some there ≡ Some reserved → there ≡ reserved
        this e = cc
    by_test false e = cc
reserved_for-sized (Open by moment keyset facts) job reserved sized is = cc
reserved_for-sized (Done by moment keyset counter answer) job reserved sized is = cc
reserved_for-sized (Refused by moment keyset counter status) job reserved sized is = cc
reserved_for-sized (Close by moment keyset) job reserved sized is = cc

reserved_in-sized : (past : List Entry) (job : JobId) (reserved : Reserved) → All HasBody past → first_some (reserved_for job) past ≡ Some reserved
    → (1 ≤ length reserved.body) × (length reserved.body ≤ 4096)
reserved_in-sized [] job reserved all is = cc
reserved_in-sized (entry ∷ past) job reserved all is =
    by_first (reserved_for job entry) refl is (reserved_in-sized past job reserved (All-tail HasBody entry past all))
  where
    by_first : (o : Option Reserved) → reserved_for job entry ≡ o → option_or o (first_some (reserved_for job) past) ≡ Some reserved
        → (first_some (reserved_for job) past ≡ Some reserved → (1 ≤ length reserved.body) × (length reserved.body ≤ 4096))
        → (1 ≤ length reserved.body) × (length reserved.body ≤ 4096)
    by_first None e found behind = behind found
    by_first (Some r) e found behind = reserved_for-sized entry job reserved (All-head HasBody entry past all) (e ∙ found)

-- what holds of an entry holds of it alone
All-one : (P : Entry → Type 0) (entry : Entry) → P entry → All P (entry ∷ [])
All-one P entry holds = λ k d within. let first : k ≡ 0 = omega (arith, within) in rw first holds

-- what holds of each entry of a history holds of each of its past
All-reverse : (P : Entry → Type 0) (entries : List Entry) → All P entries → All P (reverse entries)
All-reverse P [] all = λ k d within. absurd (omega arith)
All-reverse P (entry ∷ entries) all =
    rw (reverse-append (entry ∷ []) entries)
    (All-append P (reverse entries) (entry ∷ []) (All-reverse P entries (All-tail P entry entries all)) (All-one P entry (All-head P entry entries all)))

pub last_reserved-sized : (history : List Entry) (job : JobId) (reserved : Reserved) → All HasBody history
    → last_reserved job (reverse history) ≡ Some reserved → (1 ≤ length reserved.body) × (length reserved.body ≤ 4096)
last_reserved-sized history job reserved all is = reserved_in-sized (reverse history) job reserved (All-reverse HasBody history all) is

-- the last reservation of a job is the counter that it is reserved under last
last_reservation-is : (job : JobId) (past : List Entry) → last_reservation job past ≡ option_map place_of (last_reserved job past)
last_reservation-is job [] = refl
last_reservation-is job (entry ∷ past) = by_entry (last_reservation-is job past) entry
  where
    by_entry : last_reservation job past ≡ option_map place_of (last_reserved job past)
        → (entry : Entry) → last_reservation job (entry ∷ past) ≡ option_map place_of (last_reserved job (entry ∷ past))
    by_entry before (Reserve by moment keyset counter id tar name body) = by_test (is_same_job id job)
      where
        by_test : (same : Bool)
            → option_or (if same then Some (record { keyset = keyset; counter = counter }) else None) (last_reservation job past)
            ≡ option_map place_of (option_or (if same then Some (record { keyset = keyset; counter = counter; job = id; moment = moment; tar = tar; name = name; body = body }) else None)
            (last_reserved job past))
        by_test true = refl
        by_test false = before
    by_entry before (Open by moment keyset facts) = before
    by_entry before (Done by moment keyset counter answer) = before
    by_entry before (Refused by moment keyset counter status) = before
    by_entry before (Close by moment keyset) = before

-- the lines of a job for which something is reserved
pub lines_reserved : (history : List Entry) (job : JobId) (reserved : Reserved) → last_reserved job (reverse history) ≡ Some reserved
    → lines_of_job history job ≡ lines_for history job (settled_by (place_of reserved) (find (is_settlement_of (place_of reserved)) (reverse history))) (Some reserved)
lines_reserved history job reserved is = rw (last_reservation-is job (reverse history), is) refl

-- the lines of a job for which nothing is reserved
pub lines_new : (history : List Entry) (job : JobId) → last_reserved job (reverse history) ≡ None → lines_of_job history job ≡ []
lines_new history job none = rw (last_reservation-is job (reverse history), none) refl
