use Rattle.std.proofs.Common.{rules, ◌≡◌, Option, List, length, map, string_bytes, sym, ◌∙◌, ap, subst}
use Rattle.lane_session.specs.Sound.{StaySound}
use Rattle.lane_session.specs.SoundLaws.{still_sound}
use Rattle.ota_commands.specs.Words.{command_for}
use Rattle.ota_commands.specs.declared.faults.Fault.{Fault}
use Rattle.ota_commands.proofs.WrittenBack.{written_back}
use Rattle.ota_commands.proofs.plain.plain_command.Goals as goal

pub returns-in-Err-clause-sound : goal.returns-in-Err-clause-sound
returns-in-Err-clause-sound g c = λ sound.
    subst (StaySound g.T.DiskCalls.told c.args.sites.items) (sym c.end_with.ensures.sites) (still_sound g.T.DiskCalls.told g.T.DiskCalls.counts c.args.sites.items sound)

pub returns-clause-course : goal.returns-clause-course
returns-clause-course g c =
    let command : c.command_for-command.result ≡ command_for (map string_bytes c.args.words.now) (length c.args.sites.items) = search (rules, c.command_for-command.ensures.command) in
    let same_sites : length c.carry_out-fault.new.sites ≡ length c.args.sites.items = c.carry_out-fault.auto.sites ∙ ap (λ (l : List _). length l) c.deref_mut.ensures.value in
    let same_ends : length c.carry_out-fault.new.ends ≡ length c.in-Ok.ends.items = c.carry_out-fault.auto.ends ∙ ap (λ (l : List (Option Fault)). length l) c.deref_mut-2.ensures.value in
    let news : c.end_with-2.result.sites.items ≡ c.carry_out-fault.new.sites = c.end_with-2.ensures.sites ∙ written_back c.args.sites.items c.carry_out-fault.new.sites c.args.sites.len c.args.sites.ok.0 same_sites in
    let ends : c.end_with-2.result.ends.items ≡ c.carry_out-fault.new.ends = c.end_with-2.ensures.ends ∙ written_back c.in-Ok.ends.items c.carry_out-fault.new.ends c.in-Ok.ends.len c.in-Ok.ends.ok.0 same_ends in
    rw (← command, news, ends, c.end_with-2.ensures.fault, ← c.deref_mut.ensures.value) c.carry_out-fault.ensures.course

pub returns-clause-formatted : goal.returns-clause-formatted
returns-clause-formatted g c =
    let command : c.command_for-command.result ≡ command_for (map string_bytes c.args.words.now) (length c.args.sites.items) = search (rules, c.command_for-command.ensures.command) in
    let same_sites : length c.carry_out-fault.new.sites ≡ length c.args.sites.items = c.carry_out-fault.auto.sites ∙ ap (λ (l : List _). length l) c.deref_mut.ensures.value in
    let news : c.end_with-2.result.sites.items ≡ c.carry_out-fault.new.sites = c.end_with-2.ensures.sites ∙ written_back c.args.sites.items c.carry_out-fault.new.sites c.args.sites.len c.args.sites.ok.0 same_sites in
    rw (← command, news, c.end_with-2.ensures.fault, ← c.deref_mut.ensures.value) c.carry_out-fault.ensures.formatted

pub returns-clause-cause : goal.returns-clause-cause
returns-clause-cause g c =
    let command : c.command_for-command.result ≡ command_for (map string_bytes c.args.words.now) (length c.args.sites.items) = search (rules, c.command_for-command.ensures.command) in
    let same_sites : length c.carry_out-fault.new.sites ≡ length c.args.sites.items = c.carry_out-fault.auto.sites ∙ ap (λ (l : List _). length l) c.deref_mut.ensures.value in
    let news : c.end_with-2.result.sites.items ≡ c.carry_out-fault.new.sites = c.end_with-2.ensures.sites ∙ written_back c.args.sites.items c.carry_out-fault.new.sites c.args.sites.len c.args.sites.ok.0 same_sites in
    rw (← command, news, c.end_with-2.ensures.fault, ← c.deref_mut.ensures.value) c.carry_out-fault.ensures.cause
