-- How a reading is kept.
use Rattle.std.specs.Prelude.{◌≡◌, ◌⊎◌, ℕ, ◌+◌, ◌-◌, ◌≤◌, true, is_some, List, length, drop}
use Rattle.gate_log.specs.declared.standings.Standing.{Standing}
use Rattle.gate_log.specs.declared.standings.Standing.TheVariants.{Going, Closed}
use Rattle.gate_log.specs.Reading.{parts_from}
use Rattle.gate_log.specs.Windows.{WindowsState, IsWithin}

-- Of the batch with its gate and its length, of so many octets, the last so many are still to be given, behind the part
-- that was given last.
pub record IsReader (octets : List ℕ) (size part left given : ℕ) (windows : WindowsState) (standing : Standing) : Type 0 where
  pub inside : left + part ≤ size
  pub framed : is_some (parts_from 0 (drop (size - left) octets)) ≡ true
  pub within : IsWithin windows
  pub counted : given + left + length windows.ahead + 10 ≤ windows.read
  pub going : (standing ≡ Going) ⊎ (left ≡ 0)
  pub closed : standing ≡ Closed → given + length windows.ahead + 11 ≤ windows.read
