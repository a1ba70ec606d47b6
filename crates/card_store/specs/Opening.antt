-- How a store is replayed while its log is opened.
use Rattle.std.specs.Prelude.{◌≡◌, ◌⊎◌, ℕ, Option, Some, None, List, [], Result, Ok, Err}
use Rattle.gate_log.specs.declared.log_errors.LogErr.{LogErr}
use Rattle.gate_log.specs.declared.log_errors.LogErr.TheVariants as log_err
use Rattle.gate_log.specs.Opening.{IsOpened}
use Rattle.gate_log.specs.Reading.{Reading, parts_of}
use Rattle.gate_log.specs.Reading.Reading.{Unformatted, NotALog, OtherHead, Opened}
use Rattle.gate_log.specs.Readers.{ReaderState, IsReading, IsReadTo, IsOpenedWith}
use Rattle.ota_core.specs.declared.cards.CardFacts.{CardFacts}
use Rattle.card_store.specs.declared.openings.OpenedAnew.{OpenedAnew}
use Rattle.card_store.specs.declared.openings.OpenedStore.{OpenedStore}
use Rattle.card_store.specs.declared.openings.Replayed.{Replayed}
use Rattle.card_store.specs.declared.store_errors.StoreErr.{StoreErr}
use Rattle.card_store.specs.Content.{Content}
use Rattle.card_store.specs.Parts.{store_head}
use Rattle.card_store.specs.Replay.{replayed, StopsAt, IsContentOf, IsDamagedAt}
use Rattle.card_store.specs.Store.{Shown, Shows, IsLeft, StoreRefuses}

-- what is kept is some card's
abbrev pub IsShown : Shown → Type 0
IsShown shown = (content : Content) × Shows content shown

-- the parts are those of the card that is kept
pub record IsReplayed (facts : CardFacts) (parts : List (List ℕ)) (shown : Shown) : Type 0 where
  pub content : Content
  pub replays : replayed facts parts ≡ Some content
  pub shows : Shows content shown

-- the parts are those of the card that is kept, or one of them, of that number from 1, is the first that is bad
abbrev pub IsReplayedSoFar : CardFacts → List (List ℕ) → Shown → Option ℕ → Type 0
IsReplayedSoFar facts parts shown None = IsReplayed facts parts shown
IsReplayedSoFar facts parts shown (Some number) = StopsAt facts parts number

-- all parts of the text were replayed, up to the gate that ends the log or up to a batch that is damaged
pub record IsReplayedThrough (head text : List ℕ) (facts : CardFacts) (reader : ReaderState) (replay : Replayed) : Type 0 where
  pub parts : List (List ℕ)
  pub reading : IsReading head text parts reader
  pub all : IsReadTo parts (parts_of head text)
  pub so_far : IsReplayedSoFar facts parts replay.kept replay.bad

-- a log was opened whose parts lead to the card that is kept: what lay behind its gate is cut off
pub record IsReadAs (facts : CardFacts) (old new : List ℕ) (opened : OpenedStore) : Type 0 where
  pub parts : List (List ℕ)
  pub replay : IsReplayed facts parts opened.kept
  pub cut : IsOpenedWith store_head old new parts opened.log

-- why a log that is made isn't opened: want of memory and faults of the disk say nothing of what it holds
abbrev pub LogRefuses : CardFacts → Reading → LogErr → Type 0
LogRefuses facts read log_err.Memory = Unit {0}
LogRefuses facts read (log_err.DiskFault fault) = Unit {0}
LogRefuses facts read log_err.Unformatted = read ≡ Unformatted
LogRefuses facts read log_err.NotALog = read ≡ NotALog
LogRefuses facts read (log_err.OtherHead rest) = read ≡ OtherHead rest
LogRefuses facts read (log_err.Damaged number) = IsDamagedAt facts read number
LogRefuses facts read (log_err.Full length need) = ⊥

-- the answer of the opening of a log that is made
abbrev pub ReadAnswer : CardFacts → List ℕ → List ℕ → Result OpenedStore LogErr → Type 0
ReadAnswer facts old new (Ok opened) = IsReadAs facts old new opened
ReadAnswer facts old new (Err error) = LogRefuses facts (parts_of store_head old) error

-- a refusal leaves all octets, or cuts off those behind the gate that ends the log
abbrev pub IsCutAtMost : List ℕ → List ℕ → Type 0
IsCutAtMost old new = (new ≡ old) ⊎ ((len : ℕ) × IsOpened store_head old new len)

-- a log was opened, or made, whose parts lead to the card that is kept
pub record IsReplayedAs (facts : CardFacts) (old new : List ℕ) (opened : OpenedStore) : Type 0 where
  pub content : Content
  pub parts : List (List ℕ)
  pub shows : Shows content opened.kept
  pub was : IsContentOf facts (parts_of store_head old) content
  pub is : parts_of store_head new ≡ Opened parts []
  pub replays : replayed facts parts ≡ Some content
  pub left : IsLeft old new opened.log

-- the answer of an opening, by what the octets hold
abbrev pub ReplayAnswer : CardFacts → List ℕ → List ℕ → Result OpenedStore StoreErr → Type 0
ReplayAnswer facts old new (Ok opened) = IsReplayedAs facts old new opened
ReplayAnswer facts old new (Err error) = StoreRefuses facts (parts_of store_head old) error

-- what was opened, without what was made beside it
abbrev pub opened_in : Result OpenedAnew StoreErr → Result OpenedStore StoreErr
opened_in (Ok anew) = Ok anew.opened
opened_in (Err error) = Err error

-- a part that is bad comes before the damaged batch behind it
abbrev pub first_bad : LogErr → Option ℕ → LogErr
first_bad (log_err.Damaged end) (Some number) = log_err.Damaged number
first_bad error bad = error

-- the log, unless one of its parts was bad
abbrev pub checked : Result ℕ LogErr → Option ℕ → Result ℕ LogErr
checked (Ok len) None = Ok len
checked (Ok len) (Some number) = Err (log_err.Damaged number)
checked (Err error) bad = Err (first_bad error bad)
