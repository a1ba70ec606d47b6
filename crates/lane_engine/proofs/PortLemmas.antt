-- What calls of the port leave: a site that stays sound, and cards that went on.
use Rattle.std.proofs.Common.{◌≡◌, ◌⊎◌, inl, inr, ℕ, ◌+◌, ◌==◌, ◌≤◌, Bool, true, false, Some, Result, Ok, List, [], ◌∷◌, ◌++◌, length, map, slice_get, refl, sym, ◌∙◌, ap, subst, arith, length-append}
use Rattle.std.proofs.lemmas.Bool.Decides.{nat_tests}
use Rattle.disk_model.specs.Disk.{Meaning, image_now}
use Rattle.ota_core.specs.Keyset.{Keyset}
use Rattle.ota_core.specs.Questions.{opened_facts}
use Rattle.ota_core.specs.declared.cards.CardId.{CardId}
use Rattle.ota_core.specs.declared.cards.CardFacts.{CardFacts}
use Rattle.ota_core.specs.declared.entries.Entry.{Entry}
use Rattle.ota_core.specs.declared.entries.Entry.TheVariants.{Open, Reserve, Done, Refused, Close}
use Rattle.ota_core.specs.declared.keysets.KeysetFacts.{KeysetFacts}
use Rattle.command_packet.specs.Carried.{carries}
use Rattle.command_packet.specs.declared.opening.Command.{Command}
use Rattle.command_packet.specs.declared.opening.OpenErr.{OpenErr}
use Rattle.command_packet.proofs.NamedLemmas.{names_one_keyset}
use Rattle.counter_journal.specs.EntryRanges.{IsHistory}
use Rattle.gate_log.specs.Reading.{parts_of}
use Rattle.counter_journal.specs.Journal.{journal_head}
use Rattle.counter_journal.specs.JournalReading.{Holds, IsReady, JournalValue}
use Rattle.site_model.specs.Port.{PortState}
use Rattle.site_model.specs.Cards.{Grows, IsFurther, IsLineOf, IsOfCards, IsTaken, Keeps, port_at, port_now}
use Rattle.site_model.specs.Runs.{PortRun}
use Rattle.site_model.specs.declared.departures.Departure.{Departure}
use Rattle.world_core.specs.Card.{CardState, is_card, log_of, IsCardState}
use Rattle.world_core.specs.Headline.{all_lines, IsReserved, IsTrueAnswer}
use Rattle.world_core.specs.MemberLaws.{In-left, In-cases, In-map, In-flat_map, In-from_flat_map, map-some, slice_get-In, and_then-some}
use Rattle.world_core.specs.Members.{In}
use Rattle.world_core.specs.Packet.{Packet, packet_of}
use Rattle.world_core.specs.Sound.{IsSound, IsReservedLine, CardsWentOn}
use Rattle.world_core.specs.WorldLaws.{IsSound-cards, log_of-In}
use Rattle.world_core.specs.declared.answers.Made.{Made}
use Rattle.world_core.specs.declared.lines.Line.{Line}
use Rattle.world_core.specs.declared.segments.Sent.{Sent}
use Rattle.world_core.proofs.HistoryFacts.{packet_at-entry}
use Rattle.lane_engine.specs.Packets.{keys_of, octets_of, spi_of}
use Rattle.lane_engine.specs.Sound.{IsSoundState, SoundAt}
use Rattle.lane_engine.specs.Unforged.{UnforgedSince, IsBrought}
use Rattle.lane_engine.specs.World.{world_of, cards_of, IsPieceOf, AreSent}
use Rattle.lane_engine.proofs.AddingLemmas.{stands_as}

-- ---- cards with their lines

-- a card among these has its own lines
pub log_of-cards : (facts : List CardFacts) (lines : ℕ → List Line) (card : CardFacts) → In card facts → log_of (cards_of facts lines) card.card ≡ lines card.card.0
log_of-cards [] lines card h = absurd h
log_of-cards (first ∷ facts) lines card h = by_test (first.card.0 == card.card.0) refl (log_of-cards facts lines card)
  where
    differ : (b : Bool) → b ≡ false → b ≡ true → ⊥
    differ true is isnt = cc
    differ false is isnt = cc

    by_test : (t : Bool) → (first.card.0 == card.card.0) ≡ t → (In card facts → log_of (cards_of facts lines) card.card ≡ lines card.card.0)
        → log_of (cards_of (first ∷ facts) lines) card.card ≡ lines card.card.0
    by_test true is later = (let same : first.card.0 ≡ card.card.0 = grind (arith, nat_tests, is) in rw is (ap lines same))
    by_test false is later = elim h [
      | inl e ↦ (let same : first.card.0 ≡ card.card.0 = ap (λ (f : CardFacts). f.card.0) (sym e) in absurd (differ (first.card.0 == card.card.0) is (grind (arith, nat_tests, same))))
      | inr i ↦ rw is (later i)
    ]

-- each of them is a card with its lines
pub in_cards : (facts : List CardFacts) (lines : ℕ → List Line) (state : CardState) → In state (cards_of facts lines)
    → (card : CardFacts) × In card facts × (state ≡ record { facts = card; log = lines card.card.0 })
in_cards [] lines state h = absurd h
in_cards (first ∷ facts) lines state h = elim h [
  | inl e ↦ (first, inl refl, e)
  | inr i ↦ (let found = in_cards facts lines state i in (found.0, inr found.1, found.2))
]

pub facts_of-cards : (facts : List CardFacts) (lines : ℕ → List Line) → map (λ (state : CardState). state.facts) (cards_of facts lines) ≡ facts
facts_of-cards [] lines = refl
facts_of-cards (first ∷ facts) lines = ap (λ (l : List CardFacts). first ∷ l) (facts_of-cards facts lines)

-- a card's line stands among all lines
pub in_all : (facts : List CardFacts) (lines : ℕ → List Line) (card : CardFacts) (line : Line) → In card facts → In line (lines card.card.0) → In line (all_lines (cards_of facts lines))
in_all facts lines card line is_card is_line =
    let state : CardState = record { facts = card; log = lines card.card.0 } in
    In-flat_map (λ (s : CardState). s.log) state line (cards_of facts lines)
    (In-map (λ (c : CardFacts). (let s : CardState = record { facts = c; log = lines c.card.0 } in s)) card facts is_card) is_line

-- each line is one of a card
pub from_all : (facts : List CardFacts) (lines : ℕ → List Line) (line : Line) → In line (all_lines (cards_of facts lines)) → (card : CardFacts) × In card facts × In line (lines card.card.0)
from_all facts lines line h =
    let found = In-from_flat_map (λ (s : CardState). s.log) line (cards_of facts lines) h in
    let card = in_cards facts lines found.0 found.1 in
    (card.0, card.1, subst (λ (s : CardState). In line s.log) card.2 found.2)

-- ---- lines of reservations

-- a departure is one of these pieces
find_piece : (history : List Entry) (departures : List Departure) (pieces : List Sent) → AreSent history departures pieces → (departure : Departure) → In departure departures
    → (piece : Sent) × IsPieceOf history departure piece
find_piece history [] pieces are departure h = absurd h
find_piece history (first ∷ departures) [] are departure h = absurd are
find_piece history (first ∷ departures) (piece ∷ pieces) are departure h = elim h [
  | inl e ↦ (piece, subst (λ (d : Departure). IsPieceOf history d piece) (sym e) are.0)
  | inr i ↦ find_piece history departures pieces are.1 departure i
]

-- pieces behind pieces
pub sent_append : (history : List Entry) (departures more : List Departure) (pieces others : List Sent) → AreSent history departures pieces → AreSent history more others
    → AreSent history (departures ++ more) (pieces ++ others)
sent_append history [] more [] others are then = then
sent_append history [] more (piece ∷ pieces) others are then = absurd are
sent_append history (departure ∷ departures) more [] others are then = absurd are
sent_append history (departure ∷ departures) more (piece ∷ pieces) others are then = (are.0, sent_append history departures more pieces others are.1 then)

-- the facts of a packet are those of its keyset's Open
packet_opened : (history : List Entry) (entry : Entry) (packet : Packet) → packet_of history entry ≡ Some packet → opened_facts packet.keyset history ≡ Some packet.opened
packet_opened history (Open by moment keyset facts) packet h = cc
packet_opened history (Reserve by moment keyset counter job tar name body) packet h =
    let found = map-some (λ (facts : KeysetFacts). (let p : Packet = record { keyset = keyset; counter = counter; tar = tar; body = body; opened = facts } in p)) (opened_facts keyset history) packet h in
    subst (λ (p : Packet). opened_facts p.keyset history ≡ Some p.opened) found.2 found.1
packet_opened history (Done by moment keyset counter answer) packet h = cc
packet_opened history (Refused by moment keyset counter status) packet h = cc
packet_opened history (Close by moment keyset) packet h = cc

same_keyset : (a b : Keyset) → a.card ≡ b.card → a.kvn ≡ b.kvn → a ≡ b
same_keyset a b card kvn =
    ap (λ (c : CardId). (let k : Keyset = record { card = c; kvn = a.kvn } in k)) card
    ∙ ap (λ (n : ℕ). (let k : Keyset = record { card = b.card; kvn = n } in k)) kvn

-- a line that a packet brought is of the reservation that the packet is of
pub brought_reserved : (history : List Entry) (departures : List Departure) (pieces : List Sent) (line : Line) → AreSent history departures pieces → IsBrought history departures line
    → IsReservedLine history line
brought_reserved history departures pieces line are brought =
    let found = find_piece history departures pieces are brought.departure brought.was_sent in
    let is = found.1 in
    let packet : Packet = is.packet in
    let said : Command = record { kvn = packet.keyset.kvn; spi = spi_of packet.opened; tar = packet.tar; counter = packet.counter; body = packet.body } in
    let octets : brought.departure.packet ≡ octets_of packet = ap (λ (d : Departure). d.packet) is.departs in
    let theirs : carries (keys_of brought.facts) line.keyset.kvn (octets_of packet) ≡ Ok brought.command = subst (λ (o : List ℕ). carries (keys_of brought.facts) line.keyset.kvn o ≡ Ok brought.command) octets brought.carried in
    let kvn : line.keyset.kvn ≡ packet.keyset.kvn = names_one_keyset (keys_of brought.facts) (keys_of packet.opened) line.keyset.kvn packet.keyset.kvn (octets_of packet) brought.command said theirs is.carried in
    let card : line.keyset.card ≡ packet.keyset.card = sym brought.card ∙ ap (λ (d : Departure). d.card) is.departs in
    let keyset : line.keyset ≡ packet.keyset = same_keyset line.keyset packet.keyset card kvn in
    let entry = packet_at-entry history found.0.reservation packet is.reserved in
    let at = and_then-some (packet_of history) (slice_get history found.0.reservation) packet is.reserved in
    let opened : opened_facts packet.keyset history ≡ Some packet.opened = packet_opened history at.0 packet at.2 in
    let facts : brought.facts ≡ packet.opened = one_some brought.facts packet.opened (sym brought.opened ∙ ap (λ (k : Keyset). opened_facts k history) keyset ∙ opened) in
    let same : carries (keys_of brought.facts) line.keyset.kvn (octets_of packet) ≡ carries (keys_of packet.opened) packet.keyset.kvn (octets_of packet) =
    ap (λ (f : KeysetFacts). carries (keys_of f) line.keyset.kvn (octets_of packet)) facts ∙ ap (λ (n : ℕ). carries (keys_of packet.opened) n (octets_of packet)) kvn in
    let command : brought.command ≡ said = one_ok brought.command said (carries (keys_of packet.opened) packet.keyset.kvn (octets_of packet)) (sym same ∙ theirs) is.carried in
    let stands : In (Reserve entry.0 entry.1 packet.keyset packet.counter entry.2 packet.tar entry.3 packet.body) history = slice_get-In history found.0.reservation (Reserve entry.0 entry.1 packet.keyset packet.counter entry.2 packet.tar entry.3 packet.body) entry.4 in (
      entry.0,
      entry.1,
      entry.2,
      entry.3,
      subst (λ (k : Keyset). In (Reserve entry.0 entry.1 k line.counter entry.2 line.tar entry.3 line.body) history) (sym keyset)
          (subst (λ (n : ℕ). In (Reserve entry.0 entry.1 packet.keyset n entry.2 line.tar entry.3 line.body) history) (ap (λ (c : Command). c.counter) (sym command) ∙ sym brought.counter)
          (subst (λ (t : List ℕ). In (Reserve entry.0 entry.1 packet.keyset packet.counter entry.2 t entry.3 line.body) history) (ap (λ (c : Command). c.tar) (sym command) ∙ sym brought.tar)
          (subst (λ (b : List ℕ). In (Reserve entry.0 entry.1 packet.keyset packet.counter entry.2 packet.tar entry.3 b) history) (ap (λ (c : Command). c.body) (sym command) ∙ sym brought.body) stands))),
    )
  where
    one_some : (a b : KeysetFacts) → Some a ≡ Some b → a ≡ b
    one_some a b e = cc

    one_ok : (a b : Command) (r : Result Command OpenErr) → r ≡ Ok a → r ≡ Ok b → a ≡ b
    one_ok a b r one other = cc

-- a line that ran further is of the same reservation
further_reserved : (history : List Entry) (older line : Line) → IsFurther older line → IsReservedLine history older → IsReservedLine history line
further_reserved history older line is found = (
  found.0,
  found.1,
  found.2,
  found.3,
  subst (λ (k : Keyset). In (Reserve found.0 found.1 k line.counter found.2 line.tar found.3 line.body) history) (sym is.keyset)
      (subst (λ (n : ℕ). In (Reserve found.0 found.1 older.keyset n found.2 line.tar found.3 line.body) history) (sym is.counter)
      (subst (λ (t : List ℕ). In (Reserve found.0 found.1 older.keyset older.counter found.2 t found.3 line.body) history) (sym is.tar)
      (subst (λ (b : List ℕ). In (Reserve found.0 found.1 older.keyset older.counter found.2 older.tar found.3 b) history) (sym is.body) found.4))),
)

-- ---- calls of the port

-- at each moment of the calls what was sent is longer by pieces of reservations
abbrev pub SendsReserved : List Entry → List Departure → List Departure → Type 0
SendsReserved entries before now = (more : List Departure) × (now ≡ before ++ more) × ((pieces : List Sent) × AreSent entries more pieces × ((piece : Sent) → In piece pieces → IsReserved entries piece))

module _ {D B C : Type 0} (told : Meaning D B C) (port : B → PortState) (lines : C → ℕ → List Line) (lane lanes from : ℕ) (entries : List Entry) (old new : D) (Q : B → Type 0)
    (run : PortRun told old new Q) (keeps : Keeps told port lines old new) (later : from ≤ told.clock old)
    (sends : (k : ℕ) → told.clock old ≤ k → k ≤ told.clock new → SendsReserved entries (port_now told port lines old).sent (port_at told port lines new k).sent)
    (held : (image : List ℕ) → image_now told old image → Holds lane lanes entries image) (is : IsHistory lane lanes entries) (seen : image_now told old (told.seen old))
    (unforged : UnforgedSince told port lines lane lanes from new) (sound : SoundAt told port lines lane lanes old (told.clock old)) where
  -- the state of the start with this choice
  state_of : (image : List ℕ) (before : C) → image_now told old image → told.choice_at old (told.clock old) before
      → (sent : List Sent) × AreSent entries (port_now told port lines old).sent sent × IsSound (world_of entries (port_now told port lines old) (lines before) sent [])
  state_of image before now chosen =
      let state : IsSoundState lane lanes image (port_now told port lines old) (lines before) = sound image before now chosen in
      let same : state.history ≡ entries = stands_as lane lanes state.history entries image state.stands is (held image now) in (
        state.sent,
        subst (λ (h : List Entry). AreSent h (port_now told port lines old).sent state.sent) same state.left,
        subst (λ (h : List Entry). IsSound (world_of h (port_now told port lines old) (lines before) state.sent [])) same state.world,
      )

  module _ (k : ℕ) (low : told.clock old ≤ k) (high : k ≤ told.clock new) (image : List ℕ) (at : told.image_at new k image) (now : C) (chosen : told.choice_at new k now) where
    abbrev was : image_now told old image
    was = run.images_stand k image low high at

    abbrev before : C
    before = (keeps.grows k now low high chosen).0

    was_chosen : told.choice_at old (told.clock old) before
    was_chosen = (keeps.grows k now low high chosen).1

    grows : (card : CardFacts) → In card (port_now told port lines old).facts → Grows card (lines before card.card.0) (lines now card.card.0)
    grows = (keeps.grows k now low high chosen).2

    facts : (port_at told port lines new k).facts ≡ (port_now told port lines old).facts
    facts = keeps.facts k low high

    is_old : (card : CardFacts) → In card (port_at told port lines new k).facts → In card (port_now told port lines old).facts
    is_old card i = subst (λ (l : List CardFacts). In card l) facts i

    is_new : (card : CardFacts) → In card (port_now told port lines old).facts → In card (port_at told port lines new k).facts
    is_new card i = subst (λ (l : List CardFacts). In card l) (sym facts) i

    abbrev sent_then : List Sent
    sent_then = (state_of image before was was_chosen).0

    abbrev added : List Sent
    added = (sends k low high).2.0

    left_now : AreSent entries (port_at told port lines new k).sent (sent_then ++ added)
    left_now =
        let more = sends k low high in
        subst (λ (l : List Departure). AreSent entries l (sent_then ++ added)) (sym more.1)
        (sent_append entries (port_now told port lines old).sent more.0 sent_then added (state_of image before was was_chosen).1 more.2.1)

    -- each line of a card is one of a reservation
    line_reserved : (card : CardFacts) (line : Line) → In card (port_at told port lines new k).facts → In line (lines now card.card.0) → IsReservedLine entries line
    line_reserved card line is_card is_line = elim (unforged.brought (told.clock old) k later low high image entries at (inr (is, held image was)) now card line chosen is_card is_line) [
      | inl stood ↦
          (let chosen_then : told.choice_at old (told.clock old) stood.0 = run.past.no_more_choices (told.clock old) stood.0 (omega arith) stood.1 in
          let world = (state_of image stood.0 was chosen_then).2 in
          further_reserved entries stood.2.0 line stood.2.2 (world.reserved stood.2.0 (in_all (port_now told port lines old).facts (lines stood.0) card stood.2.0 (is_old card is_card) stood.2.1)))
      | inr brought ↦ brought_reserved entries (port_at told port lines new k).sent (sent_then ++ added) line left_now brought
    ]

    state_now : (state : CardState) → In state (cards_of (port_at told port lines new k).facts (lines now)) → IsCardState state
    state_now state i =
        let found = in_cards (port_at told port lines new k).facts (lines now) state i in
        subst (λ (s : CardState). IsCardState s) (sym found.2)
        (keeps.states
        (λ choice card chosen_then is_card. (state_of image choice was chosen_then).2.cards (record { facts = card; log = lines choice card.card.0 })
        (In-map (λ (c : CardFacts). (let s : CardState = record { facts = c; log = lines choice c.card.0 } in s)) card (port_now told port lines old).facts is_card))
        k now found.0 low high chosen (is_old found.0 found.1))

    kept_now : (card : CardId) (line : Line) → In line (log_of (cards_of (port_now told port lines old).facts (lines before)) card) → In line (log_of (cards_of (port_at told port lines new k).facts (lines now)) card)
    kept_now card line i =
        let stands = log_of-In (cards_of (port_now told port lines old).facts (lines before)) card line i in
        let found = in_cards (port_now told port lines old).facts (lines before) stands.0 stands.1 in
        let was_line : In line (lines before found.0.card.0) = subst (λ (s : CardState). In line s.log) found.2 stands.3 in
        let grown = grows found.0 found.1 in
        let is_line : In line (lines now found.0.card.0) = subst (λ (l : List Line). In line l) (sym grown.1) (In-left line (lines before found.0.card.0) grown.0 was_line) in
        let number : found.0.card ≡ card = ap (λ (s : CardState). s.facts.card) (sym found.2) ∙ stands.2 in
        subst (λ (c : CardId). In line (log_of (cards_of (port_at told port lines new k).facts (lines now)) c)) number
        (subst (λ (l : List Line). In line l) (sym (log_of-cards (port_at told port lines new k).facts (lines now) found.0 (is_new found.0 found.1))) is_line)

    answer_true : (made : Made) → IsOfCards (port_now told port lines old).facts made
        → (IsTaken made.status → (choice : C) → told.choice_at new k choice → (line : Line) × In line (lines choice made.keyset.card.0) × IsLineOf made line)
        → IsTrueAnswer (cards_of (port_at told port lines new k).facts (lines now)) made
    answer_true made of logged settling =
        let found = logged settling now chosen in
        let own : of.card.card ≡ made.keyset.card = sym of.of_keyset in
        let there : In found.0 (lines now of.card.card.0) = subst (λ (c : CardId). In found.0 (lines now c.0)) (sym own) found.1 in (
          found.0,
          subst (λ (c : CardId). In found.0 (log_of (cards_of (port_at told port lines new k).facts (lines now)) c)) own
              (subst (λ (l : List Line). In found.0 l) (sym (log_of-cards (port_at told port lines new k).facts (lines now) of.card (is_new of.card of.is_there))) there),
          found.2.keyset,
          found.2.counter,
          (found.2.finished, found.2.status, found.2.answer),
        )

    longer : length (port_now told port lines old).made ≤ length (port_at told port lines new k).made
    longer =
        let more = keeps.made (told.clock old) k (omega arith) low high in
        let start : (port_at told port lines new (told.clock old)).made ≡ (port_now told port lines old).made = ap (λ b. (port b).made) (run.past.beside (told.clock old) (omega arith)) in
        let counted : length (port_at told port lines new k).made ≡ length (port_at told port lines new (told.clock old)).made + length more.0 = ap (λ (l : List Made). length l) more.1 ∙ length-append (port_at told port lines new (told.clock old)).made more.0 in
        let same : length (port_at told port lines new (told.clock old)).made ≡ length (port_now told port lines old).made = ap (λ (l : List Made). length l) start in
        omega (arith, counted, same)

    -- the cards went on from what they had logged
    went_on : (sent after : List Sent) (given : List ℕ) → ((piece : Sent) → In piece after → In piece sent ⊎ IsReserved entries piece)
        → CardsWentOn (world_of entries (port_now told port lines old) (lines before) sent given) after (cards_of (port_at told port lines new k).facts (lines now)) (port_at told port lines new k).made
    went_on sent after given leaves = record {
      leaves = leaves;
      facts = facts_of-cards (port_at told port lines new k).facts (lines now) ∙ facts ∙ sym (facts_of-cards (port_now told port lines old).facts (lines before));
      states = state_now;
      kept = λ card line i finished. kept_now card line i;
      lines = λ line i. (let found = from_all (port_at told port lines new k).facts (lines now) line i in inr (line_reserved found.0 line found.1 found.2));
      answers = λ made i. elim (keeps.answers k made low high i) [
        | inl old_one ↦ inl old_one
        | inr new_one ↦ inr (new_one.0.of_keyset ∙ sym new_one.0.of_card, answer_true made new_one.0 new_one.1)
      ];
      longer = longer;
    }

    sound_now : IsSoundState lane lanes image (port_at told port lines new k) (lines now)
    sound_now =
        let state = state_of image before was was_chosen in
        record {
          history = entries;
          stands = inr (is, held image was);
          sent = sent_then ++ added;
          left = left_now;
          world = IsSound-cards (world_of entries (port_now told port lines old) (lines before) sent_then []) (sent_then ++ added) (cards_of (port_at told port lines new k).facts (lines now)) (port_at told port lines new k).made state.2
              (went_on sent_then (sent_then ++ added) [] (λ piece i. elim (In-cases piece sent_then added i) [ inl old_one ↦ inl old_one | inr new_one ↦ inr ((sends k low high).2.2 piece new_one) ]));
        }

  -- the site stays sound at each moment of the calls
  pub port_sound : (k : ℕ) → told.clock old ≤ k → k ≤ told.clock new → SoundAt told port lines lane lanes new k
  port_sound k low high image choice at chosen = sound_now k low high image at choice chosen

  -- and the cards went on
  pub port_gone_on : (after : C) → told.choice_at new (told.clock new) after
      → (start : C) × told.choice_at old (told.clock old) start
      × ((sent : List Sent) (given : List ℕ) → CardsWentOn (world_of entries (port_now told port lines old) (lines start) sent given) sent (cards_of (port_now told port lines new).facts (lines after)) (port_now told port lines new).made)
  port_gone_on after chosen =
      let at : told.image_at new (told.clock new) (told.seen old) = run.images_stay (told.clock new) (told.seen old) run.past.later (omega arith) seen in (
        before (told.clock new) run.past.later (omega arith) (told.seen old) at after chosen,
        was_chosen (told.clock new) run.past.later (omega arith) (told.seen old) at after chosen,
        λ sent given. went_on (told.clock new) run.past.later (omega arith) (told.seen old) at after chosen sent sent given (λ piece i. inl i),
      )

-- the disk of a journal that is ready stays so
pub port_ready : {D B C : Type 0} (told : Meaning D B C) (old new : D) (Q : B → Type 0) → PortRun told old new Q → told.seen new ≡ told.seen old → (journal : JournalValue)
    → IsReady told old journal → IsReady told new journal
port_ready told old new Q run same journal ready = record {
  open_log = record {
    only = λ image at. ready.open_log.only image (run.images_stand (told.clock new) image run.past.later (omega arith) at) ∙ sym same;
    long = ap (λ (l : List ℕ). length l) same ∙ ready.open_log.long;
    opens = (ready.open_log.opens.0, ready.open_log.opens.1, ap (parts_of ready.open_log.opens.0) same ∙ ready.open_log.opens.2);
  };
  version = ready.version;
  parts = ready.parts;
  written = ready.written;
  opens = ap (parts_of (journal_head journal.lane journal.lanes)) same ∙ ready.opens;
  goes_on = ready.goes_on;
}
