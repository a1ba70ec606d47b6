-- When the faults of a port come, and when the polls that found no message are counted.
use Rattle.std.specs.Prelude.{◌≤◌, ℕ, ◌≡◌, Option, Some, None, Result, Ok, Err, OnOk, IsErrOf}
use Rattle.disk_model.specs.Counts.{Counts, HasRisen}
use Rattle.site_model.specs.declared.site_faults.SiteFault.{SiteFault}
use Rattle.site_model.specs.declared.site_faults.SiteFault.TheVariants.{Failed, Memory}

-- no count falls, each fault has raised its count, and Ok raises neither count of faults
pub record HasSiteCause {T : Type 0} (before now : Counts) (result : Result T SiteFault) : Type 0 where
  pub faults : before.faults ≤ now.faults
  pub wants : before.wants ≤ now.wants
  pub failed : IsErrOf result Failed → HasRisen before.faults now.faults
  pub memory : IsErrOf result Memory → HasRisen before.wants now.wants
  pub ok_faults : OnOk result (now.faults ≡ before.faults)
  pub ok_wants : OnOk result (now.wants ≡ before.wants)

-- how often a poll found no message
abbrev pub empty_polls : Counts → ℕ
empty_polls counts = counts.beside

-- a poll that finds no message is counted, and no other
abbrev pub CountsEmpty : {M : Type 0} → Counts → Counts → Result (Option M) SiteFault → Type 0
CountsEmpty before now (Ok None) = HasRisen (empty_polls before) (empty_polls now)
CountsEmpty before now (Ok (Some message)) = empty_polls now ≡ empty_polls before
CountsEmpty before now (Err fault) = empty_polls now ≡ empty_polls before
