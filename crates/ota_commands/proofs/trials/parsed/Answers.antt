use Rattle.std.proofs.Common.{◌≡◌, ◌⊎◌, inl, inr, ℕ, true, List, [], map, string_bytes, codes, refl, sym, subst, ap, ◌∙◌}
use Rattle.clap.specs.Words.{App, HasKind, HasMatchesOf, IsAmong, Kinds, app_of, fault_of, first_of, found_of, is_simple, is_simple_and_free, kind_of, matches_of, rows_of}
use Rattle.clap.proofs.WalkLemmas.{first_value-rows}
use Rattle.ota_commands.specs.Trials.{faults_in, text_behind, try_app}
use Rattle.ota_commands.proofs.trials.parsed.Goals as goal

is_free : is_simple_and_free try_app ≡ true
is_free = refl

is_simple_app : is_simple try_app ≡ true
is_simple_app = refl

pub returns-in-Ok : goal.returns-in-Ok
unfolding faults_in text_behind
returns-in-Ok c =
    let words = map string_bytes c.args.words.now in
    let matches = c.in-Ok.matches in
    let P : App → Type 0 = λ app. is_simple_and_free app ≡ true → fault_of app words ≡ [] in
    let Q : App → Type 0 = λ app. is_simple app ≡ true → rows_of (found_of matches) ≡ matches_of app words in
    let faultless = subst P c.in_ok-command.ensures c.in-Ok.ensures.kinds is_free in
    let rows = subst Q c.in_ok-command.ensures (λ e. (c.in-Ok.ensures.matches e).0) is_simple_app in
    let part = first_value-rows (found_of matches) (codes "part") ∙ ap (first_of (codes "part")) rows in
    let script = first_value-rows (found_of matches) (codes "script") ∙ ap (first_of (codes "script")) rows in
    record { faultless = faultless; part = part; script = script }

pub returns : goal.returns
unfolding faults_in
returns c = λ none.
    let words = map string_bytes c.args.words.now in
    let P : App → Type 0 = λ app. is_simple_and_free app ≡ true → HasKind (fault_of app words) c.in-Err.error in
    let K : Kinds → Type 0 = λ kinds. IsAmong (kind_of c.in-Err.error) kinds in
    elim (subst P c.in_ok-command.ensures c.in-Err.ensures.kinds is_free) [
      | inl memory ↦ c.in_default.not-OutOfMemory (c.kind.ensures ∙ memory)
      | inr among ↦ subst K none among
    ]
