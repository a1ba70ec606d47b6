-- What an opening leaves.
use Rattle.std.proofs.Common.{◌≡◌, ℕ, ◌-◌, ◌≤◌, List, length, take, Ok, refl, ◌∙◌, ap, arith}
use Rattle.disk_model.specs.Disk.{Cut}
use Rattle.gate_log.specs.declared.headings.Heading.{Heading}
use Rattle.gate_log.specs.declared.headings.Heading.TheVariants as heading
use Rattle.gate_log.specs.Reading.{parts_of}
use Rattle.gate_log.specs.Readings.{cut_again}
use Rattle.gate_log.specs.Answers.{OpensAt, heading_answer}
use Rattle.gate_log.specs.Opening.{OpensAlike}

pub formatted_by : (found : Heading) → Ok tt ≡ heading_answer found → found ≡ heading.Formatted
formatted_by heading.Unformatted e = absurd cc
formatted_by heading.NotALog e = absurd cc
formatted_by (heading.OtherHead rest) e = absurd cc
formatted_by heading.Formatted e = refl

module _ (head octets : List ℕ) (len : ℕ) (at : OpensAt (parts_of head octets) (length octets) len) where
  -- at least the gate stays
  pub cut_alike : (image : List ℕ) → Cut len octets image → OpensAlike head octets image
  cut_alike image cut =
      let le : len ≤ length image = omega (arith, cut.no_shorter, at.3) in
      let opens = cut_again head octets at.0 at.1 at.2 len at.3 (length image) le in
      (at.0, (at.1, at.2), (take (length image - len) at.1, ap (parts_of head) cut.front ∙ opens))
