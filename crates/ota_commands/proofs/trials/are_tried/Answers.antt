use Rattle.std.proofs.Common.{◌≡◌, ◌&&◌, Bool, true, map, string_bytes, sym, subst, ◌∙◌}
use Rattle.std.specs.List.{list_all}
use Rattle.std.proofs.lemmas.List.Folds.{list_all-map}
use Rattle.ota_commands.specs.Trials.{is_named, is_no_dashes}
use Rattle.ota_commands.proofs.trials.are_tried.Goals as goal

pub returns-then-is_named : goal.returns-then-is_named
returns-then-is_named c =
    let words = map string_bytes c.args.words.now in
    let all = c.have_no_dashes.ensures ∙ sym (list_all-map is_no_dashes string_bytes c.args.words.now) in
    let named = sym c.is_named.ensures ∙ c.if-is_named.true in
    let P : Bool → Type 0 = λ b. c.have_no_dashes.result ≡ (b && list_all is_no_dashes words) in
    subst P (sym named) all
