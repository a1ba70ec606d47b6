-- What holds of a world whatever is lost, repeated or reordered, whichever cards lose power and wherever the gateway stops.
use Rattle.std.specs.Prelude.{◌≡◌, ℕ, ◌<◌, ◌≤◌, Bool, true, false, ◌==◌, ◌&&◌, ◌⊎◌, Some, List, count_by, length}
use Rattle.std.specs.List.{list_any, flat_map}
use Rattle.ota_core.specs.Keyset.{Keyset, is_same_keyset}
use Rattle.ota_core.specs.Job.{is_same_job}
use Rattle.ota_core.specs.Entry.{Reservation, is_refusal_of}
use Rattle.ota_core.specs.declared.jobs.JobId.{JobId}
use Rattle.ota_core.specs.declared.entries.Entry.{Entry}
use Rattle.ota_core.specs.declared.entries.Entry.TheVariants.{Reserve, Done, Refused}
use Rattle.world_core.specs.Members.{In}
use Rattle.world_core.specs.Packet.{Packet, packet_at, place_at, pieces_of}
use Rattle.world_core.specs.Card.{CardState, log_of, IsCardState}
use Rattle.world_core.specs.WorldState.{WorldState, written}
use Rattle.world_core.specs.declared.segments.Sent.{Sent}
use Rattle.world_core.specs.declared.lines.Line.{Line}
use Rattle.world_core.specs.declared.answers.Made.{Made}

-- a piece that left is of a reservation for its card, and its place is one of the packet's
abbrev pub IsReserved : List Entry → Sent → Type 0
IsReserved history piece = (packet : Packet) × (packet_at history piece.reservation ≡ Some packet) × (piece.card ≡ packet.keyset.card)
    × (1 ≤ piece.place) × (piece.place ≤ pieces_of packet)

abbrev pub SentIsReserved : WorldState → Type 0
SentIsReserved w = (piece : Sent) → In piece w.sent → IsReserved w.history piece

-- pieces that left with one keyset and counter are of one reservation
abbrev pub OneCounter : WorldState → Type 0
OneCounter w =
    (a b : Sent) → In a w.sent → In b w.sent → place_at w.history a.reservation ≡ place_at w.history b.reservation
    → a.reservation ≡ b.reservation

-- the lines of all cards
abbrev pub all_lines : List CardState → List Line
all_lines cards = flat_map (λ state. state.log) cards

abbrev pub place_of : Line → Reservation
place_of line = record { keyset = line.keyset; counter = line.counter }

-- the entry reserves this counter for the job
abbrev pub is_reserve_for : JobId → Reservation → Entry → Bool
is_reserve_for job place (Reserve by moment keyset counter reserved tar name body) =
    is_same_job reserved job && is_same_keyset keyset place.keyset && (counter == place.counter)
is_reserve_for job place _ = false

-- the line says that the script of the job ran
abbrev pub is_run_of : List Entry → JobId → Line → Bool
is_run_of history job line = (line.status == 0x00) && list_any (is_reserve_for job (place_of line)) history

-- over all cards, at most one line says that a job ran; and the line of a refused reservation says that nothing ran
pub record AtMostOnce (w : WorldState) : Type 0 where
  pub once : (job : JobId) → count_by (is_run_of w.history job) (all_lines w.cards) ≤ 1
  pub refused : (line : Line) → In line (all_lines w.cards) → list_any (is_refusal_of (place_of line)) w.history ≡ true
      → ((line.status ≡ 0x07) ⊎ (line.status ≡ 0x09)) × (line.executed ≡ 0)

-- the card of the keyset has a line of this counter of which P holds
abbrev pub HasLine : List CardState → Keyset → ℕ → (Line → Type 0) → Type 0
HasLine cards keyset counter P =
    (line : Line) × In line (log_of cards keyset.card) × (line.keyset ≡ keyset) × (line.counter ≡ counter) × P line

-- the script came to its end and was answered so
abbrev pub IsFinished : ℕ → List ℕ → Line → Type 0
IsFinished status answer line = (line.finished ≡ true) × (line.status ≡ status) × (line.answer ≡ answer)

-- the counter was used up with this status, and nothing ran
abbrev pub IsUnrun : ℕ → Line → Type 0
IsUnrun status line = (line.status ≡ status) × ((status ≡ 0x07) ⊎ (status ≡ 0x09)) × (line.executed ≡ 0)

-- a settlement says what the card's line says
abbrev pub IsTrueReport : List CardState → Entry → Type 0
IsTrueReport cards (Done by moment keyset counter answer) = HasLine cards keyset counter (IsFinished 0x00 answer)
IsTrueReport cards (Refused by moment keyset counter status) = HasLine cards keyset counter (IsUnrun status)
IsTrueReport cards _ = Unit {0}

-- 'done' and 'refused' stand in the history, and in the batch being written, only with their lines
abbrev pub TrueReports : WorldState → Type 0
TrueReports w = (entry : Entry) → In entry (written w) → IsTrueReport w.cards entry

-- each line of a card is of a reservation in the history, with its reference and body
abbrev pub LinesAreReserved : WorldState → Type 0
LinesAreReserved w = (line : Line) → In line (all_lines w.cards)
    → (by : ℕ) × (moment : ℕ) × (job : JobId) × (name : List ℕ) × In (Reserve by moment line.keyset line.counter job line.tar name line.body) w.history

-- each card's log is one that the card can have: within each keyset the counters rise, and each line has its status
abbrev pub LogsAreSound : WorldState → Type 0
LogsAreSound w = (state : CardState) → In state w.cards → IsCardState state

-- an answer with status 00, 07 or 09 has its finished line
abbrev pub IsTrueAnswer : List CardState → Made → Type 0
IsTrueAnswer cards made = ((made.status ≡ 0x00) ⊎ (made.status ≡ 0x07) ⊎ (made.status ≡ 0x09))
    → HasLine cards made.keyset made.counter (IsFinished made.status made.answer)

abbrev pub AnswersAreTrue : WorldState → Type 0
AnswersAreTrue w = (made : Made) → In made w.made → IsTrueAnswer w.cards made

-- an answer is under a keyset of the card that made it
abbrev pub AnswersAreOwn : WorldState → Type 0
AnswersAreOwn w = (made : Made) → In made w.made → made.keyset.card ≡ made.card

-- what reached the gateway was made
abbrev pub GivenWasMade : WorldState → Type 0
GivenWasMade w = (position : ℕ) → In position w.given → position < length w.made
