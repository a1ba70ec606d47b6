use Rattle.std.proofs.Common.{◌∙◌, refl, sym, inl, inr}
use Rattle.std.proofs.lemmas.Bool.{cases_Bool}
use Rattle.std.proofs.lemmas.Str.{IsUtf8-from_is_utf8, is_utf8-from_IsUtf8}
use Rattle.std.specs.Str.{is_utf8}
use Rattle.plan_reader.specs.PlanTable.{document_of}
use Rattle.plan_reader.proofs.documents.document.Goals as goal

pub returns-in-Err : goal.returns-in-Err
unfolding document_of
returns-in-Err c =
    elim (cases_Bool (is_utf8 c.args.octets.now)) [
      | inl text ↦ absurd (c.in-Err.ensures.cases.0 (IsUtf8-from_is_utf8 c.args.octets.now text))
      | inr none ↦ rw none refl
    ]

pub returns-in-Ok-table_from_str : goal.returns-in-Ok-table_from_str
unfolding document_of
returns-in-Ok-table_from_str c =
    let seen = c.in-Ok.ensures.cases in
    rw (is_utf8-from_IsUtf8 c.args.octets.now seen.1) (sym c.in-Ok-table_from_str.ensures.ok ∙ rw seen.0 refl)
