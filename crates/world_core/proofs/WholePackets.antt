-- Packets that pieces make whole.
use Rattle.std.proofs.Common.{◌≡◌, ℕ, ◌+◌, ◌-◌, ◌*◌, ◌/◌, ◌<◌, ◌≤◌, zero, suc, nat_le, nat_lt, Bool, true, false, ◌==◌, ◌&&◌, if◌then◌else◌, ◌⊎◌, inl, inr, Option, Some, None, List, [], ◌∷◌, length, slice_get, refl, sym, ◌∙◌, ap, subst, arith, sub-one, add-zero}
use Rattle.std.specs.Option.{option_or, option_map, option_and_then}
use Rattle.std.specs.List.{list_any, list_all, range_with_len}
use Rattle.std.proofs.lemmas.Grind.{common_steps}
use Rattle.std.proofs.lemmas.Bool.{and_parts}
use Rattle.std.proofs.lemmas.Bool.Decides.{nat_tests}
use Rattle.ota_core.specs.History.{first_some}
use Rattle.ota_core.specs.declared.cards.CardId.{CardId}
use Rattle.ota_core.specs.declared.entries.Entry.{Entry}
use Rattle.world_core.specs.Members.{In}
use Rattle.world_core.specs.Packet.{Packet, packet_of, packet_at, packet_length, pieces_of_length, is_wide, pieces_of}
use Rattle.world_core.specs.Card.{CardState, find_card}
use Rattle.world_core.specs.Receiving.{may_step}
use Rattle.world_core.specs.WorldState.{WorldState}
use Rattle.world_core.specs.Delivery.{IsWhole, DeliversWhole, DeliversNoWhole}
use Rattle.world_core.specs.Run.{IsRefusalOf}
use Rattle.world_core.specs.declared.events.Event.{Event}
use Rattle.world_core.specs.declared.events.Event.TheVariants.{Begin, Seal, Leave, Deliver, Give, Stop, Start, PowerCut}
use Rattle.world_core.specs.declared.refusals.NotAllowed.{NotAllowed}
use Rattle.world_core.specs.declared.refusals.NotAllowed.TheVariants.{Memory, NotWhole, BadStep}
use Rattle.world_core.specs.Condition.{IsAllowed, refused_unless, step_refusal, is_at_place, is_piece_of, are_pieces_of, has_place, has_places, first_reservation, packet_if_whole, packet_whole_at, whole_packet}
use Rattle.world_core.specs.declared.segments.Sent.{Sent}
use Rattle.world_core.specs.MemberLaws.{and_then-some, list_all-In, list_any-In, list_any-from_In}

and_shuffled : (a b c : Bool) → (a && (b && c)) ≡ (b && (a && c))
and_shuffled true b c = refl
and_shuffled false true c = refl
and_shuffled false false c = refl

-- a test on each number of a range: on the last one, and on those before it
all_more : (p : ℕ → Bool) (a n : ℕ) → list_all p (range_with_len a (suc n)) ≡ (p (a + n) && list_all p (range_with_len a n))
all_more p a zero = rw add-zero refl
all_more p a (suc n) =
    let rest : list_all p (range_with_len (a + 1) (suc n)) ≡ (p (a + 1 + n) && list_all p (range_with_len (a + 1) n)) = all_more p (a + 1) n in
    let last : a + 1 + n ≡ a + suc n = omega arith in
    rw rest (rw last (and_shuffled (p a) (p (a + suc n)) (list_all p (range_with_len (a + 1) n))))

-- the places up to a number: that one, and those up to the number before
pub places_step : (sent : List Sent) (pieces : List ℕ) (n : ℕ) → 0 < n
    → has_places sent pieces n ≡ (has_place sent pieces n && has_places sent pieces (n - 1))
places_step sent pieces zero above = absurd (omega arith)
places_step sent pieces (suc n) above =
    let last : 1 + n ≡ suc n = omega arith in
    rw sub-one (all_more (has_place sent pieces) 1 n ∙ ap (λ (m : ℕ). has_place sent pieces m && has_places sent pieces n) last)

-- a number of a range
first_or_later : (a n r : ℕ) → a ≤ r → (a + 1 ≤ r → In r (range_with_len (a + 1) n)) → (t : Bool) → (r == a) ≡ t → In r (range_with_len a (suc n))
first_or_later a n r above later true is = inl (grind (arith, nat_tests, is))
first_or_later a n r above later false is = inr (later (grind (arith, nat_tests, is, above)))

In-range : (a n r : ℕ) → a ≤ r → r < a + n → In r (range_with_len a n)
In-range a zero r above below = absurd (omega arith)
In-range a (suc n) r above below = first_or_later a n r above (λ later. In-range (a + 1) n r later (omega arith)) (r == a) refl

slice_get-below : {X : Type 0} (xs : List X) (i : ℕ) (x : X) → slice_get xs i ≡ Some x → i < length xs
slice_get-below [] i x h = cc
slice_get-below (y ∷ xs) zero x h = omega arith
slice_get-below (y ∷ xs) (suc i) x h = (let below : i < length xs = slice_get-below xs i x h in omega (arith, below))

-- where no element gives anything, the walk gives nothing
none_gives : {A B : Type 0} (f : A → Option B) (xs : List A) → ((x : A) → In x xs → f x ≡ None) → first_some f xs ≡ None
none_gives f [] none = refl
none_gives f (x ∷ xs) none = rw (none x (inl refl)) (none_gives f xs (λ y i. none y (inr i)))

-- where one element alone can give something, the walk gives what that one gives
only_gives : {A B : Type 0} (f : A → Option B) (xs : List A) (x : A) (y : B) → f x ≡ Some y → In x xs
    → ((z : A) → In z xs → (f z ≡ None) ⊎ (z ≡ x)) → first_some f xs ≡ Some y
only_gives f [] x y gives i only = absurd i
only_gives f (z ∷ xs) x y gives i only = elim (only z (inl refl)) [
  | inl none ↦ elim i [
    | inl e ↦ absurd (none_is_some (sym none ∙ ap f (sym e) ∙ gives))
    | inr later ↦ rw none (only_gives f xs x y gives later (λ w j. only w (inr j)))
  ]
  | inr same ↦ rw (same, gives) refl
]
  where
    none_is_some : {B : Type 0} {y : B} → None ≡ Some y → ⊥
    none_is_some e = cc

-- a packet leaves in one message at least
one_piece : (octets : ℕ) (wide : Bool) → 1 ≤ pieces_of_length octets wide
one_piece octets wide = by_length (nat_le octets 137) wide
  where
    by_length : (t wide : Bool) → 1 ≤ (if t then 1 else (if wide then 1 + (octets - 131 + 132) / 133 else 1 + (octets - 132 + 133) / 134))
    by_length true wide = omega arith
    by_length false true = omega arith
    by_length false false = omega arith

-- no pieces have no place
no_places : (sent : List Sent) (n : ℕ) → 1 ≤ n → has_places sent [] n ≡ false
no_places sent zero above = absurd (omega arith)
no_places sent (suc n) above = refl

if_not : {A : Type 0} (a b : Bool) (x : A) → (a ≡ false) ⊎ (b ≡ false) → (if a && b then Some x else None) ≡ None
if_not a b x (inl is) = rw is refl
if_not true b x (inr is) = rw is refl
if_not false b x (inr is) = refl

-- pieces that aren't of a reservation don't make its packet whole
not_whole : (history : List Entry) (sent : List Sent) (card : CardId) (pieces : List ℕ) (reservation : ℕ)
    → ((packet : Packet) → (are_pieces_of sent card pieces reservation ≡ false) ⊎ (has_places sent pieces (pieces_of packet) ≡ false))
    → packet_whole_at history sent card pieces reservation ≡ None
not_whole history sent card pieces reservation lacks = by_packet (packet_at history reservation)
  where
    by_packet : (o : Option Packet) → option_and_then (packet_if_whole sent card pieces reservation) o ≡ None
    by_packet None = refl
    by_packet (Some packet) = if_not (are_pieces_of sent card pieces reservation) (has_places sent pieces (pieces_of packet)) packet (lacks packet)

-- the pieces are of no reservation but that of the first one
of_first : (sent : List Sent) (card : CardId) (piece : ℕ) (pieces : List ℕ) (message : Sent) (reservation : ℕ) → slice_get sent piece ≡ Some message
    → (are_pieces_of sent card (piece ∷ pieces) reservation ≡ false) ⊎ (reservation ≡ message.reservation)
of_first sent card piece pieces message reservation is = by_test (message.reservation == reservation) refl
  where
    by_test : (t : Bool) → (message.reservation == reservation) ≡ t → (are_pieces_of sent card (piece ∷ pieces) reservation ≡ false) ⊎ (reservation ≡ message.reservation)
    by_test true same = inr (grind (arith, nat_tests, same))
    by_test false other = inl (rw (is, other) (and_false (message.card.0 == card.0) (list_all (λ piece. is_piece_of card reservation (slice_get sent piece)) pieces)))
      where
        and_false : (a b : Bool) → ((a && false) && b) ≡ false
        and_false true b = refl
        and_false false b = refl

-- the pieces can make no packet whole but that of the first one's reservation
pub whole_of_first : (history : List Entry) (sent : List Sent) (card : CardId) (pieces : List ℕ)
    → whole_packet history sent card pieces ≡ option_and_then (packet_whole_at history sent card pieces) (first_reservation sent pieces)
whole_of_first history sent card [] =
    none_gives (packet_whole_at history sent card []) (range_with_len 0 (length history))
    (λ reservation i. not_whole history sent card [] reservation (λ packet. inr (no_places sent (pieces_of packet) (one_piece (packet_length packet.opened.ciphered (length packet.body)) (is_wide packet)))))
whole_of_first history sent card (piece ∷ pieces) = by_message (slice_get sent piece) refl
  where
    nowhere : slice_get sent piece ≡ None → first_some (packet_whole_at history sent card (piece ∷ pieces)) (range_with_len 0 (length history)) ≡ None
    nowhere is = none_gives (packet_whole_at history sent card (piece ∷ pieces)) (range_with_len 0 (length history))
        (λ reservation i. not_whole history sent card (piece ∷ pieces) reservation (λ packet. inl (rw is refl)))

    only : (message : Sent) → slice_get sent piece ≡ Some message → (reservation : ℕ)
        → (packet_whole_at history sent card (piece ∷ pieces) reservation ≡ None) ⊎ (reservation ≡ message.reservation)
    only message is reservation = elim (of_first sent card piece pieces message reservation is) [
      | inl lacks ↦ inl (not_whole history sent card (piece ∷ pieces) reservation (λ packet. inl lacks))
      | inr same ↦ inr same
    ]

    by_value : (message : Sent) → slice_get sent piece ≡ Some message → (o : Option Packet) → packet_whole_at history sent card (piece ∷ pieces) message.reservation ≡ o
        → first_some (packet_whole_at history sent card (piece ∷ pieces)) (range_with_len 0 (length history)) ≡ o
    by_value message is None gives =
        none_gives (packet_whole_at history sent card (piece ∷ pieces)) (range_with_len 0 (length history))
        (λ reservation i. elim (only message is reservation) [
          | inl none ↦ none
          | inr same ↦ rw same gives
        ])
    by_value message is (Some packet) gives =
        (let whole = and_then-some (packet_if_whole sent card (piece ∷ pieces) message.reservation) (packet_at history message.reservation) packet gives in
        let there = and_then-some (packet_of history) (slice_get history message.reservation) whole.0 whole.1 in
        let below : message.reservation < length history = slice_get-below history message.reservation there.0 there.1 in
        only_gives (packet_whole_at history sent card (piece ∷ pieces)) (range_with_len 0 (length history)) message.reservation packet gives
        (In-range 0 (length history) message.reservation (omega arith) (omega (arith, below))) (λ reservation i. only message is reservation))

    by_message : (o : Option Sent) → slice_get sent piece ≡ o
        → first_some (packet_whole_at history sent card (piece ∷ pieces)) (range_with_len 0 (length history))
        ≡ option_and_then (packet_whole_at history sent card (piece ∷ pieces)) (option_map (λ (message : Sent). message.reservation) o)
    by_message None is = nowhere is
    by_message (Some message) is = by_value message is (packet_whole_at history sent card (piece ∷ pieces) message.reservation) refl

-- ---- in words

-- a test that passes on each element passes on all
all_from : {X : Type 0} (p : X → Bool) (xs : List X) → ((x : X) → In x xs → p x ≡ true) → list_all p xs ≡ true
all_from p [] each = refl
all_from p (x ∷ xs) each = rw (each x (inl refl)) (all_from p xs (λ y i. each y (inr i)))

-- the numbers of a range
from_range : (a n r : ℕ) → In r (range_with_len a n) → (a ≤ r) × (r < a + n)
from_range a zero r i = absurd i
from_range a (suc n) r i = elim i [
  | inl e ↦ (omega (arith, e), omega (arith, e))
  | inr later ↦ (let within = from_range (a + 1) n r later in let low = within.0 in let high = within.1 in (omega (arith, low), omega (arith, high)))
]

piece_says : (card : CardId) (reservation : ℕ) (o : Option Sent) → is_piece_of card reservation o ≡ true
    → (piece : Sent) × (o ≡ Some piece) × (piece.card ≡ card) × (piece.reservation ≡ reservation)
piece_says card reservation None h = cc
piece_says card reservation (Some piece) h =
    let parts = and_parts (piece.card.0 == card.0) (piece.reservation == reservation) h in
    (piece, refl, same_card piece.card card parts.0, grind (arith, nat_tests, parts.1))
  where
    same_card : (a b : CardId) → (a.0 == b.0) ≡ true → a ≡ b
    same_card a b h = grind (arith, nat_tests, h)

place_says : (place : ℕ) (o : Option Sent) → is_at_place place o ≡ true → (piece : Sent) × (o ≡ Some piece) × (piece.place ≡ place)
place_says place None h = cc
place_says place (Some piece) h = (piece, refl, grind (arith, nat_tests, h))

if_both : (a b : Bool) (found packet : Packet) → (if a && b then Some found else None) ≡ Some packet → (found ≡ packet) × (a ≡ true) × (b ≡ true)
if_both true true found packet h = (cc, refl, refl)
if_both true false found packet h = cc
if_both false b found packet h = cc

-- what a walk gives is what one of its elements gives
gives_one : {A B : Type 0} (f : A → Option B) (xs : List A) (y : B) → first_some f xs ≡ Some y → (x : A) × In x xs × (f x ≡ Some y)
gives_one f [] y h = cc
gives_one {A = A} {B = B} f (x ∷ xs) y h = by_first (f x) refl h (gives_one f xs y)
  where
    by_first : (o : Option B) → f x ≡ o → option_or o (first_some f xs) ≡ Some y
        → (first_some f xs ≡ Some y → (z : A) × In z xs × (f z ≡ Some y)) → (z : A) × In z (x ∷ xs) × (f z ≡ Some y)
    by_first None is h later = (let found = later h in (found.0, inr found.1, found.2))
    by_first (Some z) is h later = (x, inl refl, is ∙ h)

-- what pieces make whole is whole in words
pub whole-says : (w : WorldState) (card : CardId) (pieces : List ℕ) (packet : Packet) → whole_packet w.history w.sent card pieces ≡ Some packet
    → (reservation : ℕ) × IsWhole w card pieces reservation packet
whole-says w card pieces packet h =
    let found = gives_one (packet_whole_at w.history w.sent card pieces) (range_with_len 0 (length w.history)) packet h in
    let whole = and_then-some (packet_if_whole w.sent card pieces found.0) (packet_at w.history found.0) packet found.2 in
    let tests = if_both (are_pieces_of w.sent card pieces found.0) (has_places w.sent pieces (pieces_of whole.0)) whole.0 packet whole.2 in (
      found.0,
      record {
        reserved = whole.1 ∙ ap (λ (p : Packet). Some p) tests.0;
        of_it = λ position i. piece_says card found.0 (slice_get w.sent position) (list_all-In (λ piece. is_piece_of card found.0 (slice_get w.sent piece)) pieces position tests.1 i);
        places = λ place above below. (let last : has_places w.sent pieces (pieces_of packet) ≡ true = subst (λ (p : Packet). has_places w.sent pieces (pieces_of p) ≡ true) tests.0 tests.2 in
            let here = list_all-In (has_place w.sent pieces) (range_with_len 1 (pieces_of packet)) place last (In-range 1 (pieces_of packet) place above (omega (arith, below))) in
            let at = list_any-In (λ piece. is_at_place place (slice_get w.sent piece)) pieces here in
            let piece = place_says place (slice_get w.sent at.0) at.2 in
            (at.0, at.1, piece.0, piece.1, piece.2));
      },
    )

-- pieces that are whole in words make that packet whole
pub says-whole : (w : WorldState) (card : CardId) (pieces : List ℕ) (reservation : ℕ) (packet : Packet) → IsWhole w card pieces reservation packet
    → whole_packet w.history w.sent card pieces ≡ Some packet
says-whole w card pieces reservation packet whole =
    whole_of_first w.history w.sent card pieces ∙ by_first pieces refl
  where
    first : (position : ℕ) × In position pieces × (piece : Sent) × (slice_get w.sent position ≡ Some piece) × (piece.place ≡ 1)
    first = whole.places 1 (omega arith) (one_piece (packet_length packet.opened.ciphered (length packet.body)) (is_wide packet))

    are : are_pieces_of w.sent card pieces reservation ≡ true
    are = all_from (λ piece. is_piece_of card reservation (slice_get w.sent piece)) pieces
        (λ position i. (let piece = whole.of_it position i in rw (piece.1, piece.2, piece.3) (grind (arith, nat_tests, common_steps))))

    have : has_places w.sent pieces (pieces_of packet) ≡ true
    have = all_from (has_place w.sent pieces) (range_with_len 1 (pieces_of packet))
        (λ place i. (let within = from_range 1 (pieces_of packet) place i in
        let high = within.1 in
        let at = whole.places place within.0 (omega (arith, high)) in
        list_any-from_In (λ piece. is_at_place place (slice_get w.sent piece)) pieces at.0 at.1 (rw (at.3, at.4) (grind (arith, nat_tests)))))

    gives : packet_whole_at w.history w.sent card pieces reservation ≡ Some packet
    gives = rw (whole.reserved, are, have) refl

    by_first : (positions : List ℕ) → pieces ≡ positions
        → option_and_then (packet_whole_at w.history w.sent card pieces) (first_reservation w.sent positions) ≡ Some packet
    by_first [] is = absurd (subst (λ (ps : List ℕ). In first.0 ps) is first.1)
    by_first (position ∷ positions) is =
        (let piece = whole.of_it position (subst (λ (ps : List ℕ). In position ps) (sym is) (inl refl)) in rw (piece.1, piece.3) gives)

-- a delivery that is allowed is whole, and one that is refused for it isn't
pub delivers-whole : (w : WorldState) (happening : Event) → IsAllowed w happening → DeliversWhole w happening
delivers-whole w (Begin batch) h = tt
delivers-whole w Seal h = tt
delivers-whole w (Leave reservation place) h = tt
delivers-whole w (Deliver card pieces step) h = by_card (find_card card w.cards) (whole_packet w.history w.sent card pieces) refl h
  where
    by_card : (s : Option CardState) (o : Option Packet) → whole_packet w.history w.sent card pieces ≡ o → step_refusal step s o ≡ None
        → (reservation : ℕ) × (packet : Packet) × IsWhole w card pieces reservation packet
    by_card None o is h = cc
    by_card (Some state) None is h = cc
    by_card (Some state) (Some packet) is h = (let whole = whole-says w card pieces packet is in (whole.0, packet, whole.1))
delivers-whole w (Give made) h = tt
delivers-whole w (Stop kept) h = tt
delivers-whole w Start h = tt
delivers-whole w (PowerCut card) h = tt

pub delivers-no_whole : (w : WorldState) (happening : Event) (refused : NotAllowed) → IsRefusalOf w happening refused → refused ≡ NotWhole → DeliversNoWhole w happening
delivers-no_whole w (Begin batch) refused h is = tt
delivers-no_whole w Seal refused h is = tt
delivers-no_whole w (Leave reservation place) refused h is = tt
delivers-no_whole w (Deliver card pieces step) refused h is = λ reservation packet whole. elim h [
  | inl named ↦ by_card (find_card card w.cards) (whole_packet w.history w.sent card pieces) (says-whole w card pieces reservation packet whole) (named ∙ ap (λ n. Some n) is)
  | inr memory ↦ not_memory (sym is ∙ memory.1)
]
  where
    not_memory : NotWhole ≡ Memory → ⊥
    not_memory e = cc

    by_test : (t : Bool) → refused_unless t BadStep ≡ Some NotWhole → ⊥
    by_test true e = cc
    by_test false e = cc

    by_card : {packet : Packet} (s : Option CardState) (o : Option Packet) → o ≡ Some packet → step_refusal step s o ≡ Some NotWhole → ⊥
    by_card None o is e = cc
    by_card (Some state) None is e = cc
    by_card (Some state) (Some packet) is e = by_test (may_step state packet step) e
delivers-no_whole w (Give made) refused h is = tt
delivers-no_whole w (Stop kept) refused h is = tt
delivers-no_whole w Start refused h is = tt
delivers-no_whole w (PowerCut card) refused h is = tt
