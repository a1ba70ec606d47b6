use Rattle.std.proofs.Common.{◌≤◌, length, rules, sym, ◌∙◌}
use Rattle.ota_core.specs.declared.entries.Entry.TheVariants.{Close}
use Rattle.campaigns.proofs.DifferenceLemmas.{said_at, said_somewhere}
use Rattle.campaigns.proofs.differences.is_as_said.Goals as goal

pub returns-in-Some : goal.returns-in-Some
returns-in-Some c = λ reserved last same.
    let history = c.args.history.now in
    let short : length c.args.history.now ≤ 0xFFFF_FFFF_FFFF_FFFF = search rules in
    let entry = Close 0 0 c.args.place.keyset in
    c.is_said_at.ensures entry
    ∙ said_at c.args.job.now history reserved c.args.place c.in-Some.position entry c.requires.legal last same (sym (c.position.ensures history c.requires short) ∙ c.in-Some.is)

pub returns-in-None : goal.returns-in-None
returns-in-None c = λ reserved last same.
    let history = c.args.history.now in
    let short : length c.args.history.now ≤ 0xFFFF_FFFF_FFFF_FFFF = search rules in
    absurd (said_somewhere c.args.job.now history reserved c.args.place c.requires.legal last same (sym (c.position.ensures history c.requires short) ∙ c.in-None.is))
