use Rattle.std.proofs.Common.{◌≡◌, refl, inl, inr, sym, ◌∙◌, ap}
use Rattle.gate_log.specs.declared.headings.Heading.TheVariants as heading
use Rattle.gate_log.specs.Reading.{heading_of, parts_of}
use Rattle.gate_log.proofs.Steps.{still_tells, looks}
use Rattle.std.proofs.Common.{List, ℕ, subst, arith}
use Rattle.gate_log.specs.Formatting.{HasMark}
use Rattle.gate_log.proofs.Made.{read_heading, read_mark, parts_by, made_by, format_run, made_ticks, new_ticks}
use Rattle.gate_log.proofs.formats.format.Goals as goal

pub make-requires-clause-unformatted : goal.make-requires-clause-unformatted
make-requires-clause-unformatted g c =
    λ read_tells.
    let told = g.D.DiskCalls.told in
    let mid_tells = still_tells told c.read_at.new.self c.sync.new.self (sym c.read_at.ensures.tells) read_tells in
    let same : told.seen c.read_at.new.self ≡ told.seen c.sync.new.self = c.in_ok-count.ensures.content mid_tells in
    let found : heading_of c.args.head (told.seen c.sync.new.self) ≡ heading.Unformatted = read_heading c.args.head (told.seen c.sync.new.self) _ _ c.in_ok-count.count heading.Unformatted (c.in_ok-count.ensures.octets mid_tells) refl c.in-Unformatted.ensures in
    ap (parts_of c.args.head) same ∙ parts_by c.args.head (told.seen c.sync.new.self) heading.Unformatted found

pub returns-in-Formatted-clause-answer : goal.returns-in-Formatted-clause-answer
returns-in-Formatted-clause-answer g c =
    λ tells.
    let told = g.D.DiskCalls.told in
    let old = c.args.disk.now in
    let mid_tells = still_tells told old c.sync.new.self c.sync.ensures.tells tells in
    let synced : told.seen c.sync.new.self ≡ told.seen old = c.in_ok-sync.ensures.content tells in
    let same : told.seen c.read_at.new.self ≡ told.seen c.sync.new.self = c.in_ok-count.ensures.content mid_tells in
    let found : heading_of c.args.head (told.seen c.sync.new.self) ≡ heading.Formatted = read_heading c.args.head (told.seen c.sync.new.self) _ _ c.in_ok-count.count heading.Formatted (c.in_ok-count.ensures.octets mid_tells) refl c.in-Formatted.ensures in
    inr (made_by c.args.head (told.seen old) (ap (heading_of c.args.head) (sym synced) ∙ found), same ∙ synced)

pub returns-in-NotALog-clause-answer : goal.returns-in-NotALog-clause-answer
returns-in-NotALog-clause-answer g c =
    λ tells.
    let told = g.D.DiskCalls.told in
    let old = c.args.disk.now in
    let mid_tells = still_tells told old c.sync.new.self c.sync.ensures.tells tells in
    let synced : told.seen c.sync.new.self ≡ told.seen old = c.in_ok-sync.ensures.content tells in
    let same : told.seen c.read_at.new.self ≡ told.seen c.sync.new.self = c.in_ok-count.ensures.content mid_tells in
    let found : heading_of c.args.head (told.seen c.sync.new.self) ≡ heading.NotALog = read_heading c.args.head (told.seen c.sync.new.self) _ _ c.in_ok-count.count heading.NotALog (c.in_ok-count.ensures.octets mid_tells) refl c.in-NotALog.ensures in
    (parts_by c.args.head (told.seen old) heading.NotALog (ap (heading_of c.args.head) (sym synced) ∙ found), same ∙ synced)

pub returns-in-OtherHead-clause-answer : goal.returns-in-OtherHead-clause-answer
returns-in-OtherHead-clause-answer g c =
    λ tells.
    let told = g.D.DiskCalls.told in
    let old = c.args.disk.now in
    let mid_tells = still_tells told old c.sync.new.self c.sync.ensures.tells tells in
    let synced : told.seen c.sync.new.self ≡ told.seen old = c.in_ok-sync.ensures.content tells in
    let same : told.seen c.read_at.new.self ≡ told.seen c.sync.new.self = c.in_ok-count.ensures.content mid_tells in
    let found : heading_of c.args.head (told.seen c.sync.new.self) ≡ (heading.OtherHead c.in-OtherHead.rest) = read_heading c.args.head (told.seen c.sync.new.self) _ _ c.in_ok-count.count (heading.OtherHead c.in-OtherHead.rest) (c.in_ok-count.ensures.octets mid_tells) refl c.in-OtherHead.ensures in
    (parts_by c.args.head (told.seen old) (heading.OtherHead c.in-OtherHead.rest) (ap (heading_of c.args.head) (sym synced) ∙ found), same ∙ synced)

pub returns-in_ok-make-in-Unformatted-clause-answer : goal.returns-in_ok-make-in-Unformatted-clause-answer
returns-in_ok-make-in-Unformatted-clause-answer g c =
    λ tells.
    let told = g.D.DiskCalls.told in
    let old = c.args.disk.now in
    let mid_tells = still_tells told old c.sync.new.self c.sync.ensures.tells tells in
    let read_tells = still_tells told c.sync.new.self c.read_at.new.self c.read_at.ensures.tells mid_tells in
    let synced : told.seen c.sync.new.self ≡ told.seen old = c.in_ok-sync.ensures.content tells in
    let found : heading_of c.args.head (told.seen c.sync.new.self) ≡ heading.Unformatted = read_heading c.args.head (told.seen c.sync.new.self) _ _ c.in_ok-count.count heading.Unformatted (c.in_ok-count.ensures.octets mid_tells) refl c.in-Unformatted.ensures in
    inl (parts_by c.args.head (told.seen old) heading.Unformatted (ap (heading_of c.args.head) (sym synced) ∙ found), c.in_ok-make-in-Unformatted.ensures.content read_tells)

pub returns-in_err-make-in-Unformatted-clause-moments : goal.returns-in_err-make-in-Unformatted-clause-moments
returns-in_err-make-in-Unformatted-clause-moments g c =
    λ tells.
    let told = g.D.DiskCalls.told in
    let old = c.args.disk.now in
    let mid_tells = still_tells told old c.sync.new.self c.sync.ensures.tells tells in
    let read_tells = still_tells told c.sync.new.self c.read_at.new.self c.read_at.ensures.tells mid_tells in
    let synced : told.seen c.sync.new.self ≡ told.seen old = c.in_ok-sync.ensures.content tells in
    let found : heading_of c.args.head (told.seen c.sync.new.self) ≡ heading.Unformatted = read_heading c.args.head (told.seen c.sync.new.self) _ _ c.in_ok-count.count heading.Unformatted (c.in_ok-count.ensures.octets mid_tells) refl c.in-Unformatted.ensures in
    let run = looks told old c.sync.new.self c.read_at.new.self (c.sync.ensures.moments tells) (c.read_at.ensures.moments mid_tells) in
    format_run told old c.read_at.new.self c.make.new.disk c.args.head run (parts_by c.args.head (told.seen old) heading.Unformatted (ap (heading_of c.args.head) (sym synced) ∙ found)) (c.make.ensures.moments read_tells)

pub returns-in_ok-make-in-Unformatted-clause-moments : goal.returns-in_ok-make-in-Unformatted-clause-moments
returns-in_ok-make-in-Unformatted-clause-moments g c =
    λ tells.
    let told = g.D.DiskCalls.told in
    let old = c.args.disk.now in
    let mid_tells = still_tells told old c.sync.new.self c.sync.ensures.tells tells in
    let read_tells = still_tells told c.sync.new.self c.read_at.new.self c.read_at.ensures.tells mid_tells in
    let synced : told.seen c.sync.new.self ≡ told.seen old = c.in_ok-sync.ensures.content tells in
    let found : heading_of c.args.head (told.seen c.sync.new.self) ≡ heading.Unformatted = read_heading c.args.head (told.seen c.sync.new.self) _ _ c.in_ok-count.count heading.Unformatted (c.in_ok-count.ensures.octets mid_tells) refl c.in-Unformatted.ensures in
    let run = looks told old c.sync.new.self c.read_at.new.self (c.sync.ensures.moments tells) (c.read_at.ensures.moments mid_tells) in
    format_run told old c.read_at.new.self c.make.new.disk c.args.head run (parts_by c.args.head (told.seen old) heading.Unformatted (ap (heading_of c.args.head) (sym synced) ∙ found)) (c.make.ensures.moments read_tells)

pub returns-in-Formatted-clause-clock : goal.returns-in-Formatted-clause-clock
returns-in-Formatted-clause-clock g c =
    λ tells.
    let told = g.D.DiskCalls.told in
    let old = c.args.disk.now in
    let mid_tells = still_tells told old c.sync.new.self c.sync.ensures.tells tells in
    let synced : told.seen c.sync.new.self ≡ told.seen old = c.in_ok-sync.ensures.content tells in
    let found : heading_of c.args.head (told.seen c.sync.new.self) ≡ heading.Formatted = read_heading c.args.head (told.seen c.sync.new.self) _ _ c.in_ok-count.count heading.Formatted (c.in_ok-count.ensures.octets mid_tells) refl c.in-Formatted.ensures in
    made_ticks c.args.head (told.seen old) _ _ (made_by c.args.head (told.seen old) (ap (heading_of c.args.head) (sym synced) ∙ found))
    (omega (arith, c.in_ok-sync.ensures.clock tells, c.in_ok-count.ensures.clock mid_tells))

pub returns-in_ok-make-in-Unformatted-clause-clock : goal.returns-in_ok-make-in-Unformatted-clause-clock
returns-in_ok-make-in-Unformatted-clause-clock g c =
    λ tells.
    let told = g.D.DiskCalls.told in
    let old = c.args.disk.now in
    let mid_tells = still_tells told old c.sync.new.self c.sync.ensures.tells tells in
    let read_tells = still_tells told c.sync.new.self c.read_at.new.self c.read_at.ensures.tells mid_tells in
    let synced : told.seen c.sync.new.self ≡ told.seen old = c.in_ok-sync.ensures.content tells in
    let found : heading_of c.args.head (told.seen c.sync.new.self) ≡ heading.Unformatted = read_heading c.args.head (told.seen c.sync.new.self) _ _ c.in_ok-count.count heading.Unformatted (c.in_ok-count.ensures.octets mid_tells) refl c.in-Unformatted.ensures in
    let mark = subst (λ (t : List ℕ). HasMark c.has_mark.result t) synced (read_mark (told.seen c.sync.new.self) _ _ c.in_ok-count.count c.has_mark.result (c.in_ok-count.ensures.octets mid_tells) refl c.has_mark.ensures) in
    new_ticks c.args.head (told.seen old) c.has_mark.result _ _ _ (parts_by c.args.head (told.seen old) heading.Unformatted (ap (heading_of c.args.head) (sym synced) ∙ found)) mark
    (omega (arith, c.in_ok-sync.ensures.clock tells, c.in_ok-count.ensures.clock mid_tells)) (c.in_ok-make-in-Unformatted.ensures.clock read_tells)
