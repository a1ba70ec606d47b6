-- What a bare site tells, and what it counts.
use Rattle.std.specs.Prelude.{◌+◌}
use Rattle.disk_model.specs.Counts.{Counts}
use Rattle.disk_model.specs.Disk.{Meaning}
use Rattle.site_model.specs.declared.bare_site.BareSite.{BareSite}
use Rattle.site_model.specs.Moments.{bare_told}
use Rattle.site_model.specs.Port.{PortState}

abbrev pub site_told : {E B C : Type 0} → Meaning E B C → Meaning (BareSite E) PortState (Unit {0})
site_told told = bare_told told (λ site. site.disk) (λ site. site.moments.items)

-- the port of the site now
abbrev pub port_of : {E B C : Type 0} → Meaning E B C → BareSite E → PortState
port_of told site = (site_told told).beside_at site ((site_told told).clock site)

-- its own wants join those of the disk
abbrev pub site_counts : {E : Type 0} → (E → Counts) → BareSite E → Counts
site_counts counts site = record { faults = (counts site.disk).faults; wants = (counts site.disk).wants + site.wants; beside = site.empty_polls }
