-- What each world keeps.
use Rattle.std.specs.Prelude.{◌≡◌, ◌≢◌, ◌⊎◌, ℕ, ◌≤◌, true, List, [], ◌∷◌, map, length}
use Rattle.ota_core.specs.History.{IsLegal}
use Rattle.ota_core.specs.declared.cards.CardId.{CardId}
use Rattle.ota_core.specs.declared.jobs.JobId.{JobId}
use Rattle.ota_core.specs.declared.entries.Entry.{Entry}
use Rattle.ota_core.specs.declared.entries.Entry.TheVariants.{Reserve}
use Rattle.world_core.specs.Members.{In}
use Rattle.world_core.specs.WorldState.{WorldState, written}
use Rattle.world_core.specs.Card.{CardState, log_of, IsCardState}
use Rattle.world_core.specs.declared.segments.Sent.{Sent}
use Rattle.world_core.specs.declared.lines.Line.{Line}
use Rattle.world_core.specs.declared.answers.Made.{Made}
use Rattle.world_core.specs.Headline.{IsReserved, all_lines, IsTrueAnswer, SentIsReserved, LogsAreSound, TrueReports, LinesAreReserved, AnswersAreTrue, AnswersAreOwn, GivenWasMade}

-- the numbers differ
abbrev pub Differ : List CardId → Type 0
Differ [] = Unit {0}
Differ (card ∷ cards) = ((other : CardId) → In other cards → other ≢ card) × Differ cards

pub record IsSound (w : WorldState) : Type 0 where
  pub legal : IsLegal (written w)
  pub sent : SentIsReserved w
  pub differ : Differ (map (λ state. state.facts.card) w.cards)
  pub cards : LogsAreSound w
  pub reserved : LinesAreReserved w
  pub answers : AnswersAreTrue w
  pub own : AnswersAreOwn w
  pub given : GivenWasMade w
  pub reports : TrueReports w

-- a line is of a reservation of the history, with its reference and body
abbrev pub IsReservedLine : List Entry → Line → Type 0
IsReservedLine history line =
    (by : ℕ) × (moment : ℕ) × (job : JobId) × (name : List ℕ) × In (Reserve by moment line.keyset line.counter job line.tar name line.body) history

-- What the air and the cards may do while the gateway does nothing: pieces of reservations leave; each log is one that the
-- card can have, keeps its finished lines, and has beside those from before lines of reservations; each answer is one from
-- before, or has its finished line.
pub record CardsWentOn (w : WorldState) (sent : List Sent) (cards : List CardState) (made : List Made) : Type 0 where
  pub leaves : (piece : Sent) → In piece sent → In piece w.sent ⊎ IsReserved w.history piece
  pub facts : map (λ state. state.facts) cards ≡ map (λ state. state.facts) w.cards
  pub states : (state : CardState) → In state cards → IsCardState state
  pub kept : (card : CardId) (line : Line) → In line (log_of w.cards card) → line.finished ≡ true → In line (log_of cards card)
  pub lines : (line : Line) → In line (all_lines cards) → In line (all_lines w.cards) ⊎ IsReservedLine w.history line
  pub answers : (answer : Made) → In answer made → In answer w.made ⊎ ((answer.keyset.card ≡ answer.card) × IsTrueAnswer cards answer)
  pub longer : length w.made ≤ length made

-- the world behind it
abbrev pub gone_on : WorldState → List Sent → List CardState → List Made → WorldState
gone_on w sent cards made = record w { sent = sent; cards = cards; made = made }
