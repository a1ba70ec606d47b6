use Rattle.std.proofs.Common.{rules, ◌≡◌, ◌∷◌, ◌++◌, [], List, map, All, refl, sym, subst, ap, ◌∙◌}
use Rattle.std.proofs.lemmas.List.{map-append}
use Rattle.std.proofs.lemmas.List.Elements.{All-push}
use Rattle.counter_journal.specs.EntryRanges.{IsEntry}
use Rattle.ota_core.specs.HistoryValue.{HistoryValue}
use Rattle.ota_core.specs.declared.entries.Entry.{Entry}
use Rattle.lane_session.specs.Differences.{histories_of}
use Rattle.lane_session.specs.declared.lanes.Lane.{Lane}
use Rattle.lane_session.proofs.histories.into_histories.Goals as goal

-- one lane more
one_more : (histories : List HistoryValue) (lanes : List Lane) (history : HistoryValue) (lane : Lane) → map (λ h. h.entries) histories ≡ histories_of lanes → history.entries ≡ lane.journal.entries
    → map (λ h. h.entries) (histories ++ history ∷ []) ≡ histories_of (lanes ++ lane ∷ [])
one_more histories lanes history lane so_far is =
    map-append (λ (h : HistoryValue). h.entries) histories (history ∷ []) ∙ ap (λ (l : List (List Entry)). l ++ history.entries ∷ []) so_far
    ∙ ap (λ (e : List Entry). histories_of lanes ++ e ∷ []) is ∙ sym (map-append (λ (l : Lane). l.journal.entries) lanes (lane ∷ []))

pub loop-lane-preserved : goal.loop-lane-preserved
loop-lane-preserved c =
    let more : c.push.new.self.items ≡ c.loop-lane.histories.items ++ c.history_of.result ∷ [] = search (rules, c.in_ok-push.ensures.items) in (
      subst (λ (l : List HistoryValue). map (λ h. h.entries) l ≡ histories_of (c.loop-lane.yielded ++ c.in-Some.lane ∷ [])) (sym more)
          (one_more c.loop-lane.histories.items c.loop-lane.yielded c.history_of.result c.in-Some.lane c.loop-lane.invariant.0 c.history_of.ensures.entries),
      subst (All (λ history. All IsEntry history.entries)) (sym more) (All-push (λ history. All IsEntry history.entries) c.loop-lane.histories.items c.history_of.result c.loop-lane.invariant.1 c.history_of.ensures.fit),
    )
