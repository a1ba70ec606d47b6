use Rattle.std.proofs.Common.{◌≡◌, ℕ, List, length, subst, rules}
use Rattle.disk_model.specs.Disk.{DiskRun, Torn, Follows, image_now}
use Rattle.disk_model.specs.MemDisk.{mem_told}
use Rattle.disk_model.proofs.MemRuns.{write_run}
use Rattle.disk_model.proofs.mem_disk.MemDiskDiskCalls.write_at.Goals as goal

pub returns-in-Ok-clause-moments : goal.returns-in-Ok-clause-moments
returns-in-Ok-clause-moments c =
    let same : c.in-Ok.octets.items ≡ c.args.from.now = search rules in
    let old = c.args.self.now in
    let P : List ℕ → Type 0 = λ octets. DiskRun mem_told old c.step.new.self (Follows (Torn c.args.at (length octets)) (image_now mem_told old)) in
    subst P same (write_run old c.step.new.self _ _ c.args.at c.in-Ok.octets.items c.requires c.step.ensures.step)
