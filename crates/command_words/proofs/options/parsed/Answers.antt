use Rattle.std.proofs.Common.{◌≡◌, inl, inr, ap, map, string_bytes, true, Some, ◌∙◌}
use Rattle.clap.specs.Words.{app_of, fault_of, is_simple, matches_of}
use Rattle.command_words.specs.Options.{rows_read}
use Rattle.command_words.proofs.SimpleApps.{first_true, no_rows}
use Rattle.command_words.proofs.options.parsed.Goals as goal

pub returns-in-Ok : goal.returns-in-Ok
unfolding rows_read
returns-in-Ok c =
    let app = app_of c.args.options in
    let words = map string_bytes c.args.words.now in
    let simple : is_simple app ≡ true = first_true _ _ c.requires in
    rw (c.in-Ok.ensures.kinds c.requires) (ap Some (c.in-Ok.ensures.matches simple).0)

pub returns : goal.returns
unfolding rows_read
returns c =
    let app = app_of c.args.options in
    let words = map string_bytes c.args.words.now in
    elim (c.in-Err.ensures.kinds c.requires) [
      | inl memory ↦ absurd (c.in_default.not-OutOfMemory (c.kind.ensures ∙ memory))
      | inr among ↦ no_rows _ (fault_of app words) (matches_of app words) among
    ]
