use Rattle.std.proofs.Common.{◌≡◌, ◌∙◌, ℕ, find, reverse, map, option_map, unwrap_or, Option, Some, None, List, sym, ap, subst}
use Rattle.ota_core.specs.declared.cards.CardId.{CardId}
use Rattle.world_core.specs.Card.{base_of}
use Rattle.card_store.specs.Content.{keyset_named}
use Rattle.card_store.specs.Kept.{is_line_of}
use Rattle.card_store.specs.Store.{Shown, card_line}
use Rattle.card_store.specs.declared.card_lines.CardLine.{CardLine}
use Rattle.card_store.proofs.Lines.{stored_found}
use Rattle.card_store.proofs.kept.Kept.counter.Goals as goal

abbrev pub counter_by : ℕ → Option CardLine → ℕ
counter_by base found = unwrap_or (option_map (λ (line : CardLine). line.counter) found) base

pub returns-in-Some : goal.returns-in-Some
returns-in-Some c = λ content shows.
    let facts = c.args.facts.now in
    let base = base_of facts (keyset_named facts c.args.kvn) in
    let lines = c.self.inside.lines.items in
    let found : find (is_line_of (keyset_named facts c.args.kvn)) (reverse lines) ≡ Some c.in-Some.line.now =
    sym (subst (λ (card : CardId). Some c.in-Some.line.now ≡ find (is_line_of (record { card = card; kvn = c.args.kvn })) (reverse lines)) c.card.ensures
    (subst (λ (l : List CardLine). Some c.in-Some.line.now ≡ find (is_line_of (record { card = c.card.result; kvn = c.args.kvn })) (reverse l)) c.deref.ensures.value c.in-Some.ensures)) in
    sym (stored_found facts content c.args.kvn lines (ap (λ (s : Shown). s.lines) c.self.view_is ∙ shows.lines) ∙ ap (counter_by base) found)

pub returns-in-None : goal.returns-in-None
returns-in-None c = λ content shows.
    let facts = c.args.facts.now in
    let base = base_of facts (keyset_named facts c.args.kvn) in
    let lines = c.self.inside.lines.items in
    let found : find (is_line_of (keyset_named facts c.args.kvn)) (reverse lines) ≡ None =
    sym (subst (λ (card : CardId). None ≡ find (is_line_of (record { card = card; kvn = c.args.kvn })) (reverse lines)) c.card.ensures
    (subst (λ (l : List CardLine). None ≡ find (is_line_of (record { card = c.card.result; kvn = c.args.kvn })) (reverse l)) c.deref.ensures.value c.in-None.ensures)) in
    c.base.ensures ∙ sym (stored_found facts content c.args.kvn lines (ap (λ (s : Shown). s.lines) c.self.view_is ∙ shows.lines) ∙ ap (counter_by base) found)
