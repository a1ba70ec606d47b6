-- A dry run's end, by the response to its script and what of it was written.
use Rattle.std.proofs.Common.{◌≡◌, ◌⊎◌, inl, inr, ℕ, zero, suc, ◌+◌, ◌-◌, ◌≤◌, true, false, Option, Some, None, List, refl, sym, subst, ap, ◌∙◌, arith}
use Rattle.std.proofs.lemmas.Bool.{cases_lt}
use Rattle.apdu_codec.specs.Compact.{compact_response_of}
use Rattle.apdu_codec.specs.Reply.{Answer}
use Rattle.script_engine.specs.declared.card.CardState.{CardState}
use Rattle.script_engine.specs.declared.part.Part.{Part as CardPart}
use Rattle.script_engine.specs.Run.{Progress, advanced, fresh_card, runs, with_mf_selected, HasRun}
use Rattle.expanded_scripts.proofs.TemplateLaws.{apart, one-refusal, one-script}
use Rattle.expanded_scripts.specs.Answers.{answers, response_of}
use Rattle.expanded_scripts.specs.Refused.{IsRefused}
use Rattle.expanded_scripts.specs.declared.reading.TemplateErr.{TemplateErr}
use Rattle.expanded_scripts.specs.declared.reading.TemplateErr.TheVariants as template_err
use Rattle.ota_io.specs.Calls.{HasRisen}
use Rattle.ota_commands.specs.DryRuns.{response_text, EndsBy, EndsSo, HasEachCause, IsAnswered, IsRefusedScript, Responds, Writes}
use Rattle.ota_commands.specs.DryRuns.Responds.{compact, expanded}
use Rattle.ota_commands.specs.Trials.{is_expanded}
use Rattle.ota_commands.specs.Writing.{IsWritten, WriteCause, answer_of}
use Rattle.ota_commands.specs.declared.faults.Fault.{Fault}
use Rattle.ota_commands.specs.declared.faults.Fault.TheVariants as fault
use Rattle.ota_commands.specs.declared.trials.Trial.{Trial}
use Rattle.ota_commands.specs.declared.writing.Written.{Written}
use Rattle.ota_commands.specs.declared.writing.Written.TheVariants.{Whole, Part, Nothing}

answered : (trial : Trial) (response : List ℕ) → Responds trial response → IsAnswered (Some trial) response
answered trial response r = record { asked = trial; words = refl; responds = r }

-- what was written
pub writes : (trial : Trial) (response old new : List ℕ) (written : Written) → Responds trial response → IsWritten (response_text response) old new written → Writes (Some trial) old new (answer_of written None)
writes trial response old new Whole r w = (response, answered trial response r, w)
writes trial response old new Part r w = (response, answered trial response r, w)
writes trial response old new Nothing r w = w

pub ends-by : (trial : Trial) (response : List ℕ) (before now : ℕ) (written : Written) → Responds trial response → WriteCause before now written → EndsBy (Some trial) before now (answer_of written None)
ends-by trial response before now Whole r w = (response, answered trial response r)
ends-by trial response before now Part r w = ((response, answered trial response r), w)
ends-by trial response before now Nothing r w = tt

-- ---- one response

-- a script that has ended stays so
stays : (card : CardState) (part : CardPart) (script : List ℕ) (count more : ℕ) (last : Answer CardState) → HasRun card part script count last → runs card part script (count + more) ≡ record { count = count; next = None; last = last }
stays card part script count zero last run =
    let same : count ≡ count + 0 = omega arith in
    let P : ℕ → Type 0 = λ k. runs card part script k ≡ record { count = count; next = None; last = last } in
    subst P same run
stays card part script count (suc more) last run =
    let same : suc (count + more) ≡ count + suc more = omega arith in
    let P : ℕ → Type 0 = λ k. runs card part script k ≡ record { count = count; next = None; last = last } in
    let Q : Progress → Type 0 = λ p. advanced part script p ≡ record { count = count; next = None; last = last } in
    subst P same (subst Q (sym (stays card part script count more last run)) refl)

run-once : (card : CardState) (part : CardPart) (script : List ℕ) (count other : ℕ) (last final : Answer CardState) → count ≤ other → HasRun card part script count last → HasRun card part script other final
    → compact_response_of count last.sw last.out ≡ compact_response_of other final.sw final.out
run-once card part script count other last final few run again =
    let same : count + (other - count) ≡ other = omega arith in
    let P : ℕ → Type 0 = λ k. runs card part script k ≡ record { count = count; next = None; last = last } in
    let here = subst P same (stays card part script count (other - count) last run) in
    ap (λ (p : Progress). compact_response_of p.count p.last.sw p.last.out) (sym here ∙ again)

runs-once : (card : CardState) (part : CardPart) (script : List ℕ) (count other : ℕ) (last final : Answer CardState) → HasRun card part script count last → HasRun card part script other final
    → compact_response_of count last.sw last.out ≡ compact_response_of other final.sw final.out
runs-once card part script count other last final run again =
    elim (cases_lt count other) [
      | inl less ↦ run-once card part script count other last final (omega (arith, less)) run again
      | inr more ↦ sym (run-once card part script other count final last more again run)
    ]

pub one-response : (trial : Trial) (response other : List ℕ) → Responds trial response → Responds trial other → response ≡ other
one-response trial response other (compact count last is run e) (compact number final also again f) = e ∙ (runs-once fresh_card trial.part trial.script count number last final run again ∙ sym f)
one-response trial response other (compact count last is run e) (expanded commands also template f) =
    let both : ◌≡◌ false true = sym is ∙ also in
    cc
one-response trial response other (expanded commands is template e) (compact count last also run f) =
    let both : ◌≡◌ false true = sym also ∙ is in
    cc
one-response trial response other (expanded commands is template e) (expanded others also again f) =
    let same = one-script trial.script commands others template again in
    e ∙ (ap (λ (plains : List (List ℕ)). response_of (answers (with_mf_selected fresh_card) trial.part plains)) same ∙ sym f)

-- ---- each cause has its end

-- a script that has a response isn't refused
responds-once : (trial : Trial) (response : List ℕ) (error : TemplateErr) → Responds trial response → IsRefusedScript trial error → ⊥
responds-once trial response error (compact count last is run e) r =
    let both : ◌≡◌ false true = sym is ∙ r.expanded in
    cc
responds-once trial response error (expanded commands is template e) r = r.not_memory (apart trial.script commands error template r.refused)

asked-once : (trial : Option Trial) (asked : Trial) (response : List ℕ) (error : TemplateErr) → IsAnswered trial response → trial ≡ Some asked → IsRefusedScript asked error → ⊥
asked-once trial asked response error a words r =
    let same : a.asked ≡ asked = cc (a.words, words) in
    let P : Trial → Type 0 = λ t. Responds t response in
    responds-once asked response error (subst P same a.responds) r

refused-once : (trial : Option Trial) (asked other : Trial) (error wrong : TemplateErr) → trial ≡ Some asked → trial ≡ Some other → IsRefusedScript asked error → IsRefusedScript other wrong → wrong ≡ error
refused-once trial asked other error wrong words others r s =
    let same : other ≡ asked = cc (words, others) in
    let P : Trial → Type 0 = λ t. IsRefused t.script wrong in
    one-refusal asked.script wrong error (subst P same s.refused) r.refused s.not_memory r.not_memory

nothing-asked : (trial : Option Trial) (asked : Trial) → trial ≡ Some asked → trial ≡ None → ⊥
nothing-asked trial asked words none =
    let both : ◌≡◌ {A = Option Trial} None (Some asked) = sym none ∙ words in
    cc

module _ (trial : Option Trial) (before now : ℕ) where
  by-usage : (end : Option Fault) → EndsBy trial before now end → trial ≡ None → EndsSo (Some fault.Usage) end
  by-usage None by none = absurd (nothing-asked trial by.1.asked by.1.words none)
  by-usage (Some fault.Usage) by none = inl refl
  by-usage (Some (fault.ScriptRefused error)) by none = absurd (nothing-asked trial by.0 by.1 none)
  by-usage (Some fault.SinkFault) by none = absurd (nothing-asked trial by.0.1.asked by.0.1.words none)
  by-usage (Some fault.Memory) by none = inr refl
  by-usage (Some _) by none = absurd by

  by-refusal : (end : Option Fault) → EndsBy trial before now end → (asked : Trial) (error : TemplateErr) → trial ≡ Some asked → IsRefusedScript asked error → EndsSo (Some (fault.ScriptRefused error)) end
  by-refusal None by asked error words r = absurd (asked-once trial asked by.0 error by.1 words r)
  by-refusal (Some fault.Usage) by asked error words r = absurd (nothing-asked trial asked words by)
  by-refusal (Some (fault.ScriptRefused wrong)) by asked error words r =
      inl (ap (λ (e : TemplateErr). Some (fault.ScriptRefused e)) (refused-once trial asked by.0 error wrong words by.1 r by.2))
  by-refusal (Some fault.SinkFault) by asked error words r = absurd (asked-once trial asked by.0.0 error by.0.1 words r)
  by-refusal (Some fault.Memory) by asked error words r = inr refl
  by-refusal (Some _) by asked error words r = absurd by

  by-response : (end : Option Fault) → EndsBy trial before now end → (response : List ℕ) → IsAnswered trial response → (HasRisen before now → ⊥) → EndsSo None end
  by-response None by response a steady = inl refl
  by-response (Some fault.Usage) by response a steady = absurd (nothing-asked trial a.asked a.words by)
  by-response (Some (fault.ScriptRefused error)) by response a steady = absurd (asked-once trial by.0 response error a by.1 by.2)
  by-response (Some fault.SinkFault) by response a steady = absurd (steady by.1)
  by-response (Some fault.Memory) by response a steady = inr refl
  by-response (Some _) by response a steady = absurd by

  pub each-cause : (end : Option Fault) → EndsBy trial before now end → HasEachCause trial before now end
  each-cause end by = record { usage = by-usage end by; refused = by-refusal end by; done = by-response end by }
