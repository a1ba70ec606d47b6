-- The laws of arrivals.
use Rattle.std.proofs.Common.{◌≡◌, ℕ, zero, suc, ◌+◌, ◌-◌, ◌*◌, ◌/◌, ◌%◌, ◌<◌, ◌≤◌, min, Bool, true, false, add-one, cond, Option, Some, None, List, [], ◌∷◌, ◌++◌, length, take, drop, map, refl, sym, ap, ◌∙◌, arith, subst, length-drop, length-take, inl, inr}
use Rattle.std.specs.Prelude.{filter, is_some}
use Rattle.std.proofs.Math.Seq.{take-add}
use Rattle.std.proofs.Math.Bool.{and-false}
use Rattle.std.proofs.lemmas.Bool.{cases_eq, both_ways, eq-eqb, ne_eqb, le-leb, or_left, or_parts, or_right}
use Rattle.std.proofs.lemmas.List.{take_all}
use Rattle.ota_core.specs.declared.cards.CardId.{CardId}
use Rattle.ota_core.specs.declared.references.Reference.{Reference}
use Rattle.ota_core.specs.declared.references.Reference.TheVariants.{Short, Wide}
use Rattle.sms_segments.specs.declared.headers.Header.{Header}
use Rattle.sms_segments.specs.declared.headers.Header.TheVariants.{Only, Part}
use Rattle.sms_segments.specs.declared.concatenations.Concatenation.{Concatenation}
use Rattle.sms_segments.specs.declared.assembling.Push.TheVariants.{Whole, More}
use Rattle.sms_segments.specs.Header.{first_in, first_wide_in, header_of, is_wide_reference, octets_behind}
use Rattle.sms_segments.specs.Cut.{first_header, first_room, later_header, later_room, longest, octets_at, only_header, piece_of, pieces_count}
use Rattle.sms_segments.specs.Assembled.{OfCard, Pieces, after, answer_by, answer_to, assembled, if_whole, is_whole, joined, no_pieces, piece_by, piece_in, pieces_after, with_piece}
use Rattle.sms_segments.specs.Arrivals.{FillsLast, concatenation_of, has, is_of, is_piece_of, message_at, named_by}
use Rattle.sms_segments.proofs.CutLemmas.{first_few, last_reaches, later_few, next_start, octets_at-later, starts_within, two_or_more}
use Rattle.sms_segments.proofs.KeptLemmas.{is_same-self}

-- ---- packets don't mix

after-filter : (element : ℕ) (past : List OfCard) (of : Concatenation) (message : OfCard) (found : Option (ℕ × List ℕ)) → piece_in element of message ≡ found
    → pieces_after element (filter (is_piece_of element of) past) of ≡ pieces_after element past of
    → pieces_after element (filter (is_piece_of element of) (message ∷ past)) of ≡ pieces_after element (message ∷ past) of
after-filter element past of message None is same = rw is same
after-filter element past of message (Some piece) is same = rw (is, is) (ap (after of.total (Some piece)) same)

pub pieces_after-filter : (element : ℕ) (past : List OfCard) (of : Concatenation) → pieces_after element (filter (is_piece_of element of) past) of ≡ pieces_after element past of
pieces_after-filter element [] of = refl
pieces_after-filter element (message ∷ past) of = after-filter element past of message (piece_in element of message) refl (pieces_after-filter element past of)

answer_by-filter : (element : ℕ) (past : List OfCard) (message : OfCard) (header : Option Header)
    → answer_by element past message header ≡ answer_by element (filter (is_of element (named_by message header)) past) message header
answer_by-filter element past message None = refl
answer_by-filter element past message (Some Only) = refl
answer_by-filter element past message (Some (Part reference total place)) =
    ap (λ pieces. if_whole total (with_piece place (octets_behind (Part reference total place) message.octets) pieces))
    (sym (pieces_after-filter element past (record { card = message.card; reference = reference; total = total })))

pub dont_mix : (element : ℕ) (past : List OfCard) (message : OfCard)
    → answer_to element past message ≡ answer_to element (filter (is_of element (named_by message (header_of element message.octets))) past) message
dont_mix element past message = answer_by-filter element past message (header_of element message.octets)

-- ---- what is written is read

only-read : (element : ℕ) (octets : List ℕ) → 1 ≤ length octets → length octets ≤ 137 → header_of element (only_header element ++ octets) ≡ Some Only
only-read element [] some fits = absurd (omega arith)
only-read element (x ∷ octets) some fits = rw (le-leb (length (only_header element ++ x ∷ octets)) 140 (omega arith), eq-eqb element element refl) refl

high_low : (number : ℕ) → number / 256 * 256 + number % 256 ≡ number
high_low number = omega arith

first-read : (element : ℕ) (reference : Reference) (total : ℕ) (octets : List ℕ) → 1 ≤ length octets → length octets ≤ first_room (is_wide_reference reference) → 1 ≤ total → header_of element (first_header element reference total ++ octets) ≡ Some (Part reference total 1)
first-read element reference total [] some fits above = absurd (omega arith)
first-read element (Short octet) total (x ∷ octets) some fits above =
    rw (le-leb (length (first_header element (Short octet) total ++ x ∷ octets)) 140 (omega arith), eq-eqb element element refl, le-leb 1 total above) refl
first-read element (Wide number) total (x ∷ octets) some fits above =
    rw (le-leb (length (first_header element (Wide number) total ++ x ∷ octets)) 140 (omega arith), eq-eqb element element refl, le-leb 1 total above)
    (ap (λ n. Some (Part (Wide n) total 1)) (high_low number))

not_first : (element octet total place x : ℕ) (octets : List ℕ) → first_in element (later_header (Short octet) total place ++ x ∷ octets) ≡ None
not_first element octet total place x [] = refl
not_first element octet total place x (y ∷ []) = refl
not_first element octet total place x (y ∷ z ∷ octets) = refl

not_short : (element number total place x : ℕ) (octets : List ℕ) → first_in element (later_header (Wide number) total place ++ x ∷ octets) ≡ None
not_short element number total place x [] = refl
not_short element number total place x (y ∷ octets) = refl

not_first_wide : (element number total place x : ℕ) (octets : List ℕ) → first_wide_in element (later_header (Wide number) total place ++ x ∷ octets) ≡ None
not_first_wide element number total place x [] = refl
not_first_wide element number total place x (y ∷ []) = refl
not_first_wide element number total place x (y ∷ z ∷ octets) = refl

later-read : (element : ℕ) (reference : Reference) (total place : ℕ) (octets : List ℕ) → 1 ≤ length octets → length octets ≤ later_room (is_wide_reference reference) → 2 ≤ place → place ≤ total → header_of element (later_header reference total place ++ octets) ≡ Some (Part reference total place)
later-read element reference total place [] some fits later within = absurd (omega arith)
later-read element (Short octet) total place (x ∷ octets) some fits later within =
    rw (le-leb (length (later_header (Short octet) total place ++ x ∷ octets)) 140 (omega arith), not_first element octet total place x octets, le-leb 2 place later, le-leb place total within) refl
later-read element (Wide number) total place (x ∷ octets) some fits later within =
    rw (le-leb (length (later_header (Wide number) total place ++ x ∷ octets)) 140 (omega arith), not_short element number total place x octets, not_first_wide element number total place x octets, le-leb 2 place later, le-leb place total within)
    (ap (λ n. Some (Part (Wide n) total place)) (high_low number))

first-behind : (element : ℕ) (reference : Reference) (total : ℕ) (octets : List ℕ) → octets_behind (Part reference total 1) (first_header element reference total ++ octets) ≡ octets
first-behind element (Short octet) total octets = refl
first-behind element (Wide number) total octets = refl

later-behind : (reference : Reference) (total place : ℕ) (octets : List ℕ) → ¬ (place ≡ 1) → octets_behind (Part reference total place) (later_header reference total place ++ octets) ≡ octets
later-behind (Short octet) total place octets later = rw (ne_eqb place 1 later) refl
later-behind (Wide number) total place octets later = rw (ne_eqb place 1 later) refl

some_first : (wide : Bool) → 1 ≤ first_room wide
some_first false = omega arith
some_first true = omega arith

least : (room rest n : ℕ) → 1 ≤ room → 1 ≤ rest → n ≡ min room rest → (1 ≤ n) × (n ≤ room)
least room rest n some more is = (omega (arith, is), omega (arith, is))

-- ---- the pieces of a packet

module _ (card : CardId) (packet : List ℕ) (element : ℕ) (reference : Reference) where
  abbrev wide : Bool
  wide = is_wide_reference reference

  -- how many octets stand in the first one, and in a later one
  abbrev first : ℕ
  first = first_room wide

  abbrev later_each : ℕ
  later_each = later_room wide

  -- how many there are
  abbrev count : ℕ
  count = pieces_count (length packet) wide

  abbrev whole_of : Concatenation
  whole_of = concatenation_of card packet reference

  abbrev message : ℕ → OfCard
  message place = message_at card packet element reference place

  -- what is there after the pieces at these places
  abbrev collected : List ℕ → Pieces
  collected [] = no_pieces
  collected (place ∷ places) = with_piece place (octets_at wide count packet place) (collected places)

  collected-has : (places : List ℕ) (place : ℕ) → has place places ≡ true → collected places place ≡ Some (octets_at wide count packet place)
  collected-has [] place there = cc
  collected-has (other ∷ places) place there = elim (cases_eq place other) [
    | inl here ↦ rw (eq-eqb place other here) (ap (λ p. Some (octets_at wide count packet p)) (sym here))
    | inr elsewhere ↦ rw (ne_eqb place other elsewhere) (collected-has places place (rw (ne_eqb other place (λ e. elsewhere (sym e))) at there))
  ]

  collected-lacks : (places : List ℕ) (place : ℕ) → has place places ≡ false → collected places place ≡ None
  collected-lacks [] place lacks = refl
  collected-lacks (other ∷ places) place lacks = elim (cases_eq place other) [
    | inl here ↦ absurd (both_ways _ (rw (eq-eqb other place (sym here)) at lacks) refl)
    | inr elsewhere ↦ rw (ne_eqb place other elsewhere) (collected-lacks places place (rw (ne_eqb other place (λ e. elsewhere (sym e))) at lacks))
  ]

  -- the place `last` isn't among them, so they aren't all
  lacking-last : (places : List ℕ) (last n : ℕ) → 1 ≤ last → last ≤ n → has last places ≡ false → is_whole n (collected places) ≡ false
  lacking-last places last zero above within lacks = absurd (omega arith)
  lacking-last places last (suc n) above within lacks = elim (cases_eq (suc n) last) [
    | inl here ↦ rw (ap (collected places) here ∙ collected-lacks places last lacks) refl
    | inr below ↦ rw (lacking-last places last n above (omega arith) lacks) (and-false (is_some (collected places (suc n))))
  ]

  has-rest : (place other : ℕ) (places : List ℕ) → has place (other ∷ places) ≡ false → has place places ≡ false
  has-rest place other places lacks = (or_parts _ _ lacks).1

  has-here : (place : ℕ) (places : List ℕ) → has place (place ∷ places) ≡ true
  has-here place places = or_left _ _ (eq-eqb place place refl)

  has-there : (place other : ℕ) (places : List ℕ) → has place places ≡ true → has place (other ∷ places) ≡ true
  has-there place other places there = or_right _ _ there

  -- every place of the packet is there
  collected-whole : (places : List ℕ) (n : ℕ) → ((place : ℕ) → 1 ≤ place → place ≤ n → has place places ≡ true) → is_whole n (collected places) ≡ true
  collected-whole places zero all = refl
  collected-whole places (suc n) all =
      rw (collected-has places (suc n) (all (suc n) (omega arith) (omega arith)), collected-whole places n (λ place above within. all place above (omega arith))) refl

  module _ (several : 137 < length packet) (fits : length packet ≤ longest wide) where
    not_one : ¬ (count ≡ 1)
    not_one one = absurd (omega (arith, two_or_more wide (length packet) several, one))

    octets_at-first : octets_at wide count packet 1 ≡ take first packet
    octets_at-first = rw (ne_eqb count 1 not_one) refl

    joined-all : (places : List ℕ) (n : ℕ) → ((place : ℕ) → 1 ≤ place → place ≤ suc n → has place places ≡ true) → joined (suc n) (collected places) ≡ take (first + later_each * n) packet
    joined-all places zero all =
        let none : first ≡ first + later_each * 0 = omega arith in
        rw (collected-has places 1 (all 1 (omega arith) (omega arith))) (octets_at-first ∙ ap (λ k. take k packet) none)
    joined-all places (suc n) all =
        let before = joined-all places n (λ place above within. all place above (omega arith)) in
        let from : suc (suc n) - 2 ≡ n = omega arith in
        let next : octets_at wide count packet (suc (suc n)) ≡ take later_each (drop (first + later_each * n) packet) =
        octets_at-later wide packet count (suc (suc n)) not_one (λ e. absurd (omega (arith, e))) ∙ ap (λ k. take later_each (drop (first + later_each * k) packet)) from in
        let sum : first + later_each * n + later_each ≡ first + later_each * suc n = next_start wide n ∙ ap (λ k. first + later_each * k) (add-one n) in
        rw (collected-has places (suc (suc n)) (all (suc (suc n)) (omega arith) (omega arith)))
        ((λ i. before i ++ next i) ∙ sym (take-add (first + later_each * n) later_each packet) ∙ ap (λ k. take k packet) sum)

    written-first : piece_of packet element reference 1 ≡ first_header element reference count ++ take first packet
    written-first = rw (ne_eqb count 1 not_one) refl

    written-later : (place : ℕ) → ¬ (place ≡ 1) → piece_of packet element reference place ≡ later_header reference count place ++ octets_at wide count packet place
    written-later place later = rw (ne_eqb count 1 not_one, ne_eqb place 1 later) refl

    first_some : 1 ≤ first
    first_some = some_first wide

    header-first : header_of element (piece_of packet element reference 1) ≡ Some (Part reference count 1)
    header-first =
        ap (header_of element) written-first
        ∙ first-read element reference count (take first packet) (omega (arith, length-take first packet, first_some, first_few wide)) (omega (arith, length-take first packet)) (omega (arith, two_or_more wide (length packet) several))

    behind-first : octets_behind (Part reference count 1) (piece_of packet element reference 1) ≡ octets_at wide count packet 1
    behind-first = ap (octets_behind (Part reference count 1)) written-first ∙ first-behind element reference count (take first packet) ∙ sym octets_at-first

    later-length : (place : ℕ) → 1 ≤ place → place ≤ count → ¬ (place ≡ 1) → (1 ≤ length (octets_at wide count packet place)) × (length (octets_at wide count packet place) ≤ later_each)
    later-length place above within later =
        let start : ℕ = first + later_each * (place - 2) in
        let from : start < length packet = starts_within wide (length packet) count place refl not_one (omega arith) within in
        let is = octets_at-later wide packet count place not_one later in
        let some : 1 ≤ later_each = (later_few wide).0 in
        let taken : length (take later_each (drop start packet)) ≡ min later_each (length packet - start) = length-take later_each (drop start packet) ∙ ap (min later_each) (length-drop start packet) in
        rw is (least later_each (length packet - start) _ some (omega arith) taken)

    header-later : (place : ℕ) → 1 ≤ place → place ≤ count → ¬ (place ≡ 1) → header_of element (piece_of packet element reference place) ≡ Some (Part reference count place)
    header-later place above within later =
        let lengths = later-length place above within later in
        ap (header_of element) (written-later place later)
        ∙ later-read element reference count place (octets_at wide count packet place) lengths.0 lengths.1 (omega arith) within

    behind-later : (place : ℕ) → ¬ (place ≡ 1) → octets_behind (Part reference count place) (piece_of packet element reference place) ≡ octets_at wide count packet place
    behind-later place later =
        ap (octets_behind (Part reference count place)) (written-later place later) ∙ later-behind reference count place (octets_at wide count packet place) later

    -- the piece at a place is read as that
    header-read : (place : ℕ) → 1 ≤ place → place ≤ count → header_of element (piece_of packet element reference place) ≡ Some (Part reference count place)
    header-read place above within = elim (cases_eq place 1) [
      | inl one ↦ let P : ℕ → Type 0 = λ p. header_of element (piece_of packet element reference p) ≡ Some (Part reference count p) in subst P (sym one) header-first
      | inr later ↦ header-later place above within later
    ]

    behind-read : (place : ℕ) → octets_behind (Part reference count place) (piece_of packet element reference place) ≡ octets_at wide count packet place
    behind-read place = elim (cases_eq place 1) [
      | inl one ↦ let P : ℕ → Type 0 = λ p. octets_behind (Part reference count p) (piece_of packet element reference p) ≡ octets_at wide count packet p in subst P (sym one) behind-first
      | inr later ↦ behind-later place later
    ]

    piece-read : (place : ℕ) → 1 ≤ place → place ≤ count → piece_in element whole_of (message place) ≡ Some (place, octets_at wide count packet place)
    piece-read place above within =
        ap (piece_by whole_of (message place)) (header-read place above within)
        ∙ rw (is_same-self whole_of) (ap (λ octets. Some (place, octets)) (behind-read place))

    -- what is there after a past in which the pieces of the packet are those at these places, the last one not among them
    abbrev Gathers : ℕ → List OfCard → Type 0
    Gathers last past = (places : List ℕ) → has last places ≡ false
        → ((place : ℕ) → has place places ≡ true → (1 ≤ place) × (place ≤ count))
        → filter (is_piece_of element whole_of) past ≡ map message places
        → pieces_after element past whole_of ≡ collected places

    gathered-more : (last : ℕ) (other : OfCard) (past : List OfCard) → 1 ≤ last → last ≤ count → Gathers last past
        → (found : Option (ℕ × List ℕ)) (places : List ℕ) → has last places ≡ false
        → ((place : ℕ) → has place places ≡ true → (1 ≤ place) × (place ≤ count))
        → piece_in element whole_of other ≡ found
        → cond (is_some found) (other ∷ filter (is_piece_of element whole_of) past) (filter (is_piece_of element whole_of) past) ≡ map message places
        → after count found (pieces_after element past whole_of) ≡ collected places
    gathered-more last other past above within before None places lacks range is are = before places lacks range are
    gathered-more last other past above within before (Some piece) [] lacks range is are = cc
    gathered-more last other past above within before (Some piece) (place ∷ places) lacks range is are =
        let here = range place (has-here place places) in
        let same : other ≡ message place = cc in
        let rest : filter (is_piece_of element whole_of) past ≡ map message places = cc in
        let read : Some piece ≡ Some (place, octets_at wide count packet place) = sym is ∙ ap (piece_in element whole_of) same ∙ piece-read place here.0 here.1 in
        let pieces = before places (has-rest last place places lacks) (λ other' there. range other' (has-there other' place places there)) rest in
        let part : is_whole count (collected (place ∷ places)) ≡ false = lacking-last (place ∷ places) last count above within lacks in
        (λ i. after count (read i) (pieces i)) ∙ rw part refl

    gathered : (last : ℕ) (past : List OfCard) → 1 ≤ last → last ≤ count → Gathers last past
    gathered last [] above within [] lacks range are = refl
    gathered last [] above within (place ∷ places) lacks range are = cc
    gathered last (other ∷ past) above within places lacks range are =
        gathered-more last other past above within (gathered last past above within) (piece_in element whole_of other) places lacks range refl are

    -- the pieces at these places are pieces
    all_pieces : (places : List ℕ) → ((place : ℕ) → has place places ≡ true → (1 ≤ place) × (place ≤ count)) → filter (is_piece_of element whole_of) (map message places) ≡ map message places
    all_pieces [] range = refl
    all_pieces (place ∷ places) range =
        let here = range place (has-here place places) in
        rw (piece-read place here.0 here.1) (ap (λ others. message place ∷ others) (all_pieces places (λ other there. range other (has-there other place places there))))

    answer-read : (past : List OfCard) (place : ℕ) → 1 ≤ place → place ≤ count → (pieces : Pieces) → pieces_after element past whole_of ≡ pieces
        → answer_to element past (message place) ≡ if_whole count (with_piece place (octets_at wide count packet place) pieces)
    answer-read past place above within pieces is =
        ap (answer_by element past (message place)) (header-read place above within)
        ∙ (λ i. if_whole count (with_piece place (behind-read place i) (is i)))

    has-all : (last : ℕ) (before : List ℕ) → FillsLast count last before → (place : ℕ) → 1 ≤ place → place ≤ count → has place (last ∷ before) ≡ true
    has-all last before fills place above within = elim (cases_eq last place) [
      | inl here ↦ or_left _ _ (eq-eqb last place here)
      | inr other ↦ or_right _ _ (fills.others place above within (λ e. other (sym e)))
    ]

    pub make_it : (past : List OfCard) (before : List ℕ) (last : ℕ) → filter (is_piece_of element whole_of) past ≡ map message before → FillsLast count last before → answer_to element past (message last) ≡ Whole packet
    make_it past before last are fills =
        let pieces = gathered last past fills.from_one fills.within before fills.new fills.places are in
        let all = has-all last before fills in
        let whole : is_whole count (collected (last ∷ before)) ≡ true = collected-whole (last ∷ before) count all in
        let last_one : suc (count - 1) ≡ count = omega (arith, two_or_more wide (length packet) several) in
        let joins = joined-all (last ∷ before) (count - 1) (λ place above within. all place above (omega (arith, last_one))) in
        let is : joined count (collected (last ∷ before)) ≡ packet =
        ap (λ n. joined n (collected (last ∷ before))) (sym last_one) ∙ joins ∙ take_all (first + later_each * (count - 1)) packet (last_reaches wide (length packet) several) in
        answer-read past last fills.from_one fills.within (collected before) pieces ∙ rw whole (ap Whole is)

    nothing_before : (last : ℕ) (places : List ℕ) → 1 ≤ last → last ≤ count → has last places ≡ false → ((place : ℕ) → has place places ≡ true → (1 ≤ place) × (place ≤ count)) → assembled element (map message places) ≡ []
    nothing_before last [] above within lacks range = refl
    nothing_before last (place ∷ places) above within lacks range =
        let here = range place (has-here place places) in
        let rest = λ (other : ℕ) (there : has other places ≡ true). range other (has-there other place places there) in
        let lacks' = has-rest last place places lacks in
        let pieces = gathered last (map message places) above within places lacks' rest (all_pieces places rest) in
        let part : is_whole count (collected (place ∷ places)) ≡ false = lacking-last (place ∷ places) last count above within lacks in
        let more : answer_to element (map message places) (message place) ≡ More = answer-read (map message places) place here.0 here.1 (collected places) pieces ∙ rw part refl in
        rw (nothing_before last places above within lacks' rest, more) refl

    pub make_one : (before : List ℕ) (last : ℕ) → FillsLast count last before → assembled element (map message (last ∷ before)) ≡ record { card = card; octets = packet } ∷ []
    make_one before last fills =
        rw (nothing_before last before fills.from_one fills.within fills.new fills.places, make_it (map message before) before last (all_pieces before fills.places) fills) refl
