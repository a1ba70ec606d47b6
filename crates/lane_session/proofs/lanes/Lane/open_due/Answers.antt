use Rattle.std.proofs.Common.{rules, ◌≡◌, [], ◌∷◌, ◌++◌, List, All, false, reverse, sym, subst}
use Rattle.std.proofs.lemmas.List.Elements.{All-push}
use Rattle.ota_core.specs.declared.entries.Entry.{Entry}
use Rattle.counter_journal.specs.EntryRanges.{IsOfLane}
use Rattle.lane_session.specs.Opens.{is_opened}
use Rattle.lane_session.proofs.OpenLaws.{waiting_more}
use Rattle.lane_session.proofs.lanes.Lane.open_due.Goals as goal

pub add-requires-clause-legal : goal.add-requires-clause-legal
add-requires-clause-legal g c =
    let unopened : is_opened (reverse c.args.self.now.journal.entries) c.args.waiting.items c.args.keyset ≡ false = search (rules, c.if-is_opened.ensures, c.history.ensures.entries, c.deref.ensures.value) in
    let legal = waiting_more (reverse c.args.self.now.journal.entries) c.args.waiting.items c.args.keyset c.in-Some.facts.now c.requires.waiting.legal unopened in
    search (rules, legal, c.push.ensures.items, c.if-is_err.ensures.negation, c.open_for-entry.ensures)

pub add-requires-clause-of_lane : goal.add-requires-clause-of_lane
add-requires-clause-of_lane g c =
    let pushed : c.push.new.self.items ≡ c.args.waiting.items ++ c.open_for-entry.result ∷ [] = search (rules, c.push.ensures.items, c.if-is_err.ensures.negation) in
    let here : IsOfLane c.args.self.now.journal.lane c.args.self.now.journal.lanes c.open_for-entry.result =
    subst (IsOfLane c.args.self.now.journal.lane c.args.self.now.journal.lanes) (sym c.open_for-entry.ensures) c.requires.of_lane in
    subst (All (IsOfLane c.args.self.now.journal.lane c.args.self.now.journal.lanes)) (sym pushed)
    (All-push (IsOfLane c.args.self.now.journal.lane c.args.self.now.journal.lanes) c.args.waiting.items c.open_for-entry.result c.requires.waiting.of_lane here)
