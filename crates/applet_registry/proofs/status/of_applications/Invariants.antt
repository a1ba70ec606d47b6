use Rattle.std.proofs.Common.{◌≡◌, ◌-◌, ◌++◌, length, drop}
use Rattle.applet_registry.specs.Status.{application_entries, fitting}
use Rattle.applet_registry.proofs.status.of_applications.Given as goal

-- The entries so far, and those of the applications that are left.
abbrev pub invariant-loop-application : goal.invariant-loop-application
invariant-loop-application l =
    l.out.items ++ fitting (256 - length l.out.items) (application_entries l.prefix (drop l.application-index l.applications))
    ≡ fitting 256 (application_entries l.prefix l.applications)
