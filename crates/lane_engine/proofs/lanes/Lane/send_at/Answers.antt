use Rattle.std.proofs.Common.{◌≡◌, Some, None, List, sym, ◌∙◌, ap, subst}
use Rattle.std.specs.List.{slice_get}
use Rattle.std.specs.Option.{option_and_then, option_map}
use Rattle.disk_model.specs.Disk.{Tells}
use Rattle.ota_core.specs.Questions.{Reserved, opened_facts, reserved_in}
use Rattle.ota_core.specs.declared.entries.Entry.{Entry}
use Rattle.keyset_book.specs.Book.{StandsFor}
use Rattle.keyset_book.specs.declared.books.Book.{Book}
use Rattle.world_core.specs.Packet.{packet_at}
use Rattle.lane_engine.specs.LaneValue.{LaneValue}
use Rattle.lane_engine.specs.Departing.{pieces_at}
use Rattle.lane_engine.specs.Packets.{departures_if}
use Rattle.lane_engine.specs.Sending.{HandsOverBuilt, packet_with}
use Rattle.lane_engine.proofs.AtLemmas.{body_fits, none_built, one_built, reserved_packet, unreserved_packet}
use Rattle.lane_engine.proofs.lanes.Lane.send_at.Goals as goal

pub returns-in-None-clause-hands : goal.returns-in-None-clause-hands
returns-in-None-clause-hands g c = λ tells.
    let entries = c.entries.ensures.entries ∙ c.history.ensures.entries ∙ ap (λ (v : LaneValue g.row.T.Denot). v.journal.entries) c.self.view_is in
    let none : option_and_then reserved_in (slice_get c.args.self.now.journal.entries c.args.position) ≡ None =
    ap (λ (l : List Entry). option_and_then reserved_in (slice_get l c.args.position)) (sym entries) ∙ sym c.reserved_at.ensures ∙ c.in-None.is in
    none_built g.T.DiskCalls.told g.T.SiteCalls.port g.T.SiteCalls.lines c.args.self.now.journal.entries c.args.position c.args.self.now.site
    (unreserved_packet c.args.self.now.journal.entries c.args.position none)

pub returns-in-None-opened_facts-clause-hands : goal.returns-in-None-opened_facts-clause-hands
returns-in-None-opened_facts-clause-hands g c = λ tells.
    let entries = c.entries.ensures.entries ∙ c.history.ensures.entries ∙ ap (λ (v : LaneValue g.row.T.Denot). v.journal.entries) c.self.view_is in
    let reserved : option_and_then reserved_in (slice_get c.args.self.now.journal.entries c.args.position) ≡ Some c.in-Some.reserved =
    ap (λ (l : List Entry). option_and_then reserved_in (slice_get l c.args.position)) (sym entries) ∙ sym c.reserved_at.ensures ∙ c.in-Some.is in
    let unopened : opened_facts c.in-Some.reserved.keyset c.args.self.now.journal.entries ≡ None =
    subst (λ (v : LaneValue g.row.T.Denot). opened_facts c.in-Some.reserved.keyset v.journal.entries ≡ None) c.self.view_is
    (subst (λ (r : Reserved). opened_facts r.keyset c.self.inside.journal.entries ≡ None) c.reserved.view_is
    (sym (c.opened_facts.ensures c.self.inside.journal.entries (subst (λ (b : Book). StandsFor b c.self.inside.journal.entries) (sym c.book.ensures.book) c.book.ensures.stands)) ∙ c.in-None-opened_facts.is)) in
    none_built g.T.DiskCalls.told g.T.SiteCalls.port g.T.SiteCalls.lines c.args.self.now.journal.entries c.args.position c.args.self.now.site
    (reserved_packet c.args.self.now.journal.entries c.args.position c.in-Some.reserved reserved ∙ ap (option_map (packet_with c.in-Some.reserved)) unopened)

pub send-requires-clause-some : goal.send-requires-clause-some
send-requires-clause-some g c =
    let entries = c.entries.ensures.entries ∙ c.history.ensures.entries in
    let reserved : option_and_then reserved_in (slice_get c.self.inside.journal.entries c.args.position) ≡ Some c.in-Some.reserved =
    ap (λ (l : List Entry). option_and_then reserved_in (slice_get l c.args.position)) (sym entries) ∙ sym c.reserved_at.ensures ∙ c.in-Some.is in
    (body_fits c.self.inside.journal.lane c.self.inside.journal.lanes c.self.inside.journal.entries c.args.position c.in-Some.reserved c.self.invariant.history.of_lane reserved).0

pub send-requires-clause-fits : goal.send-requires-clause-fits
send-requires-clause-fits g c =
    let entries = c.entries.ensures.entries ∙ c.history.ensures.entries in
    let reserved : option_and_then reserved_in (slice_get c.self.inside.journal.entries c.args.position) ≡ Some c.in-Some.reserved =
    ap (λ (l : List Entry). option_and_then reserved_in (slice_get l c.args.position)) (sym entries) ∙ sym c.reserved_at.ensures ∙ c.in-Some.is in
    (body_fits c.self.inside.journal.lane c.self.inside.journal.lanes c.self.inside.journal.entries c.args.position c.in-Some.reserved c.self.invariant.history.of_lane reserved).1

pub returns-clause-hands : goal.returns-clause-hands
returns-clause-hands g c = λ tells.
    let entries = c.entries.ensures.entries ∙ c.history.ensures.entries ∙ ap (λ (v : LaneValue g.row.T.Denot). v.journal.entries) c.self.view_is in
    let site = ap (λ (v : LaneValue g.row.T.Denot). v.site) c.self.view_is in
    let reserved : option_and_then reserved_in (slice_get c.args.self.now.journal.entries c.args.position) ≡ Some c.in-Some.reserved =
    ap (λ (l : List Entry). option_and_then reserved_in (slice_get l c.args.position)) (sym entries) ∙ sym c.reserved_at.ensures ∙ c.in-Some.is in
    let opened : opened_facts c.in-Some.reserved.keyset c.args.self.now.journal.entries ≡ Some c.in-Some-opened_facts.facts =
    subst (λ (v : LaneValue g.row.T.Denot). opened_facts c.in-Some.reserved.keyset v.journal.entries ≡ Some c.in-Some-opened_facts.facts) c.self.view_is
    (subst (λ (r : Reserved). opened_facts r.keyset c.self.inside.journal.entries ≡ Some c.in-Some-opened_facts.facts) c.reserved.view_is
    (sym (c.opened_facts.ensures c.self.inside.journal.entries (subst (λ (b : Book). StandsFor b c.self.inside.journal.entries) (sym c.book.ensures.book) c.book.ensures.stands)) ∙ c.in-Some-opened_facts.is)) in
    let tells_inside : Tells g.T.DiskCalls.told c.self.inside.site = subst (λ (d : g.row.T.Denot). Tells g.T.DiskCalls.told d) (sym site) tells in
    subst
    (λ (d : g.row.T.Denot). HandsOverBuilt g.T.DiskCalls.told g.T.SiteCalls.port g.T.SiteCalls.lines c.args.self.now.journal.entries d c.send.new.site
    (departures_if (packet_at c.args.self.now.journal.entries c.args.position)) (pieces_at c.args.self.now.journal.entries c.args.position) c.send.result)
    site
    (one_built g.T.DiskCalls.told g.T.SiteCalls.port g.T.SiteCalls.lines c.args.self.now.journal.entries c.args.position c.self.inside.site c.send.new.site (packet_with c.in-Some.reserved c.in-Some-opened_facts.facts) c.send.result
    (reserved_packet c.args.self.now.journal.entries c.args.position c.in-Some.reserved reserved ∙ ap (option_map (packet_with c.in-Some.reserved)) opened) c.send.ensures.carried
    (c.send.ensures.hands tells_inside) (c.send.ensures.all tells_inside))
