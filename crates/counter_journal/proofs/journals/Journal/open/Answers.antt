use Rattle.std.proofs.Common.{◌≡◌, ◌-◌, List, ℕ, length, Result, Ok, Err, ◌∙◌, ap, arith}
use Rattle.std.specs.Prelude.{IfOk}
use Rattle.disk_model.specs.Disk.{Tells}
use Rattle.gate_log.specs.declared.log_errors.LogErr.{LogErr}
use Rattle.gate_log.specs.Reading.{parts_of}
use Rattle.gate_log.specs.Calls.{behind_in}
use Rattle.counter_journal.specs.Journal.{journal_head}
use Rattle.counter_journal.specs.JournalReading.{JournalValue}
use Rattle.counter_journal.proofs.OpeningLaws.{IsReadLog, read_log, taken_run, readied, lefted, settled_after}
use Rattle.counter_journal.proofs.OpeningCalls.{opening_ticks}
use Rattle.counter_journal.proofs.journals.Journal.open.Goals as goal

abbrev read_of : (g : _) (c : goal.After-journal_of g) → Tells g.D.DiskCalls.told c.args.disk.now
    → IsReadLog g.D.DiskCalls.told c.args.disk.now c.open_log.new.disk c.args.lane c.args.lanes c.in_ok-opened.opened.log c.in_ok-opened.opened.past
read_of g c tells =
    read_log g.D.DiskCalls.told c.args.disk.now c.open_log.new.disk c.args.lane c.args.lanes c.in_ok-opened.opened.log c.in_ok-opened.opened.past
    (c.in_ok-opened.ensures.answer tells) (c.in_ok-opened.ensures.settled tells)

pub returns-clause-ready : goal.returns-clause-ready
returns-clause-ready g c = λ tells.
    readied g.D.DiskCalls.told c.args.disk.now c.open_log.new.disk c.journal_of.new.disk c.args.lane c.args.lanes c.in_ok-opened.opened.log c.in_ok-opened.opened.past (read_of g c tells)
    c.journal_of.result (c.open_log.ensures.tells ∙ tells) c.journal_of.ensures.made

pub returns-clause-content : goal.returns-clause-content
returns-clause-content g c = λ tells.
    lefted g.D.DiskCalls.told c.args.disk.now c.open_log.new.disk c.journal_of.new.disk c.args.lane c.args.lanes c.in_ok-opened.opened.log c.in_ok-opened.opened.past (read_of g c tells)
    c.journal_of.result (c.open_log.ensures.tells ∙ tells) c.journal_of.ensures.made

pub returns-clause-durable : goal.returns-clause-durable
returns-clause-durable g c = λ tells.
    settled_after g.D.DiskCalls.told c.args.disk.now c.open_log.new.disk c.journal_of.new.disk c.args.lane c.args.lanes c.in_ok-opened.opened.log c.in_ok-opened.opened.past (read_of g c tells)
    c.journal_of.result (c.open_log.ensures.tells ∙ tells) c.journal_of.ensures.made c.journal_of.ensures.err

pub returns-clause-clock : goal.returns-clause-clock
returns-clause-clock g c = λ tells.
    let told = g.D.DiskCalls.told in
    let text = told.seen c.args.disk.now in
    let read = parts_of (journal_head c.args.lane c.args.lanes) text in
    let opened = c.in_ok-opened.opened in
    let at = c.in_ok-opened.ensures.answer tells in
    let len-is : opened.log ≡ length text - behind_in read = omega (arith, at.long, ap behind_in at.was.1) in
    opening_ticks told c.open_log.new.disk c.journal_of.new.disk read (length text) (told.clock c.args.disk.now) opened.log (c.in_ok-opened.ensures.clock tells) len-is (c.open_log.ensures.tells ∙ tells) opened.past.version
    c.journal_of.result (going_of _ _ c.journal_of.result c.journal_of.ensures.made) c.journal_of.ensures.err (c.journal_of.ensures.clock (c.open_log.ensures.tells ∙ tells))
  where
    going_of : (P Q : JournalValue → Type 0) (result : Result JournalValue LogErr) → IfOk result (λ journal. P journal × Q journal) → IfOk result Q
    going_of P Q (Ok journal) made = made.1
    going_of P Q (Err error) made = tt

pub returns-clause-moments : goal.returns-clause-moments
returns-clause-moments g c = λ tells.
    let read = read_of g c tells in
    taken_run g.D.DiskCalls.told c.args.disk.now c.open_log.new.disk c.journal_of.new.disk c.args.lane c.args.lanes c.in_ok-opened.opened.log c.in_ok-opened.opened.past read
    (c.open_log.ensures.moments tells) (c.journal_of.ensures.moments (c.open_log.ensures.tells ∙ tells) (journal_head c.args.lane c.args.lanes) read.parts read.is)
