use Rattle.std.proofs.Common.{◌+◌, ◌*◌, refl, append_assoc}
use Rattle.campaigns.proofs.drill.put_keyset.Goals as goal

pub returns-clause-text : goal.returns-clause-text
returns-clause-text c = λ number is.
    let behind = c.in_ok-put_draws.ensures.state number (24 * c.args.before) is in
    let kic = c.in_ok-put_draws.ensures.text number (24 * c.args.before) is in
    let kid = c.in_ok-put_draws-2.ensures.text number (24 * c.args.before + 16) behind in
    simp (
      append_assoc,
      c.in_ok-push_str-4.ensures.bytes,
      c.last_quote.ensures,
      kid,
      c.in_ok-put_number.ensures,
      c.in_ok-push_str-3.ensures.bytes,
      c.kid_line.ensures,
      kic,
      c.in_ok-push_str-2.ensures.bytes,
      c.kic_lines.ensures,
      c.in_ok-write.ensures.bytes,
      c.in_ok-push_str.ensures.bytes,
      c.keyset_lines.ensures,
      c.from.ensures,
    ) refl
