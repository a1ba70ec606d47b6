use Rattle.std.proofs.Common.{◌≡◌, suc, ◌+◌, ◌*◌, Some, subst, sym, ap, ◌∙◌, arith}
use Rattle.card_store.specs.declared.scripts.Script.{Script}
use Rattle.receiving_entity.specs.Taking.{IsStepOf, StopTicks}
use Rattle.receiving_entity.proofs.RunLemmas.{no_one, now, run_on, run_over, step_left, step_of, step_on, stop_ticks, the_one}
use Rattle.receiving_entity.proofs.running.run_script.Goals as goal

pub loop-store-preserved : goal.loop-store-preserved
loop-store-preserved g c =
    let told = g.D.DiskCalls.told in
    let old = c.args.store.now in
    let mid = c.loop-store.store in
    let new = c.do_command.new.self in
    let inv = c.loop-store.invariant in
    let e = c.in-Ok.ensures in
    let count = c.loop-store.ran.count in
    let reply = c.loop-store.ran.reply in
    let script : (x : Script) × (mid.shown.script ≡ Some x) = the_one mid.shown.script (sym c.has_command.ensures.left ∙ c.loop-store-test.true) in
    record {
      on = λ content command stands.
          let on = inv.on content command stands in
          let here = now told old mid new content command count reply on inv.facts inv.tells script.0 script.1 in
          step_on told old mid new content command count reply on inv.facts inv.tells script.0 script.1 (λ t. e.moments t here on.stands) c.in-Ok.step (e.ran here on.stands) (e.step script.0 script.1) e.clock;
      short = e.short;
      ready = e.ready;
      room = e.room inv.room;
      length = omega (arith, e.length, inv.length);
      facts = ap (λ s. s.facts) e.same ∙ inv.facts;
      tells = e.tells ∙ inv.tells;
      counts = e.cause.answer ∙ inv.counts;
    }

pub returns-in-Err-clause-halted : goal.returns-in-Err-clause-halted
returns-in-Err-clause-halted g c = λ content command stands.
    let told = g.D.DiskCalls.told in
    let old = c.args.store.now in
    let mid = c.loop-store.store in
    let new = c.do_command.new.self in
    let inv = c.loop-store.invariant in
    let e = c.in-Err.ensures in
    let count = c.loop-store.ran.count in
    let reply = c.loop-store.ran.reply in
    let script : (x : Script) × (mid.shown.script ≡ Some x) = the_one mid.shown.script (sym c.has_command.ensures.left ∙ c.loop-store-test.true) in
    let on = inv.on content command stands in
    let here = now told old mid new content command count reply on inv.facts inv.tells script.0 script.1 in record {
      count = count;
      within = subst (λ error. IsStepOf old.facts content command (suc count) error) (sym c.card_error_of.ensures) (step_of told old mid content command count reply on script.0 script.1 c.in-Err.error e.err);
      clock = λ t.
          subst (λ error. StopTicks (told.clock old.disk + 4 * count) (told.clock new.disk) error) (sym c.card_error_of.ensures)
          (stop_ticks (told.clock mid.disk) (told.clock new.disk) (told.clock old.disk + 4 * count) c.in-Err.error e.err (on.clock t) (e.clock (inv.tells ∙ t)));
      left = step_left told old mid new content command count reply on inv.facts inv.tells script.0 script.1 (λ t. e.moments t here on.stands);
    }

pub returns-in-Err-clause-moments : goal.returns-in-Err-clause-moments
returns-in-Err-clause-moments g c = λ tells content command stands.
    let told = g.D.DiskCalls.told in
    let old = c.args.store.now in
    let mid = c.loop-store.store in
    let new = c.do_command.new.self in
    let inv = c.loop-store.invariant in
    let e = c.in-Err.ensures in
    let count = c.loop-store.ran.count in
    let reply = c.loop-store.ran.reply in
    let script : (x : Script) × (mid.shown.script ≡ Some x) = the_one mid.shown.script (sym c.has_command.ensures.left ∙ c.loop-store-test.true) in
    let on = inv.on content command stands in
    let here = now told old mid new content command count reply on inv.facts inv.tells script.0 script.1 in
    run_on told old mid new content command count reply on inv.facts inv.tells script.0 script.1 (λ t. e.moments t here on.stands) tells

pub returns-clause-ran : goal.returns-clause-ran
returns-clause-ran g c = λ content command stands.
    let mid = c.loop-store.store in
    let over = no_one mid.shown.script (sym c.has_command.ensures.left ∙ c.loop-store-test.false) in
    run_over g.D.DiskCalls.told c.args.store.now mid content command c.loop-store.ran (c.loop-store.invariant.on content command stands) over c.loop-store.invariant.length
