use Rattle.std.proofs.Common.{◌≡◌, ℕ, List, ◌++◌, refl, sym, subst, ◌∙◌, arith}
use Rattle.apdu_codec.specs.Reply.{Answer, answered}
use Rattle.script_engine.specs.declared.card.CardState.{CardState}
use Rattle.expanded_scripts.specs.Answers.{answer_alone, entry_of, HasBegun}
use Rattle.expanded_scripts.specs.Template.{IsWhole, AreWhole}
use Rattle.expanded_scripts.proofs.Entries.{IsNext, HasEnded, next-goes-on, next-ends, next-begun, on-err, both-leave}
use Rattle.expanded_scripts.proofs.Forms.{whole-at}
use Rattle.expanded_scripts.proofs.running.run_commands.Goals as goal

pub run_alone-requires : goal.run_alone-requires
run_alone-requires c =
    let items = c.commands-command-items.result.now in
    let P : List ℕ → Type 0 = IsWhole in
    let Q : List (List ℕ) → Type 0 = AreWhole in
    let all : AreWhole items = subst Q (sym c.commands-command-items.ensures.commands) c.commands-command-items.ensures.plain.1 in
    let here = whole-at items c.loop-command.command-index c.command-item.result all c.loop-command-test.true in
    subst P (sym (c.as_slice.ensures ∙ c.command-item.is)) here

pub returns-in_err-put_entry-clause-memory : goal.returns-in_err-put_entry-clause-memory
returns-in_err-put_entry-clause-memory c =
    let items = c.commands-command-items.result.now in
    let before = c.loop-command.state in
    let after = c.run_alone.new.state in
    let entries = c.loop-command.entries.items in
    let made : Answer CardState = answered after c.in_ok-reply.reply in
    let A : List ℕ → Type 0 = λ command. made ≡ answer_alone before c.args.part command in
    let n : IsNext before after c.args.part items c.loop-command.command-index entries (entries ++ entry_of made) made = record {
      item = c.command-item.result;
      within = c.loop-command-test.true;
      is = c.command-item.is;
      answer = subst A c.as_slice.ensures c.in_ok-reply.ensures.answer;
      left = refl;
      entry = refl;
    } in
    let P : List (List ℕ) → Type 0 = λ commands. HasBegun c.args.state.now c.args.part commands after in
    let begun = subst P c.commands-command-items.ensures.commands (next-begun n c.loop-command.invariant.executed) in
    on-err c.from_residual-in_err-put_entry.result (HasBegun c.args.state.now c.args.part c.args.script.now after) begun

pub returns-then-reply-clause-entries : goal.returns-then-reply-clause-entries
returns-then-reply-clause-entries c =
    let items = c.commands-command-items.result.now in
    let before = c.loop-command.state in
    let after = c.run_alone.new.state in
    let made : Answer CardState = answered after c.in_ok-reply.reply in
    let A : List ℕ → Type 0 = λ command. made ≡ answer_alone before c.args.part command in
    let n : IsNext before after c.args.part items c.loop-command.command-index c.loop-command.entries.items c.put_entry.new.entries.items made = record {
      item = c.command-item.result;
      within = c.loop-command-test.true;
      is = c.command-item.is;
      answer = subst A c.as_slice.ensures c.in_ok-reply.ensures.answer;
      left = refl;
      entry = c.in_ok-put_entry.ensures.entry after;
    } in
    let P : List (List ℕ) → Type 0 = λ commands. HasEnded c.args.state.now c.args.part commands after c.put_entry.new.entries.items in
    (subst P c.commands-command-items.ensures.commands (next-ends n c.loop-command.invariant.executed c.if-reply.true)).entries_are

pub returns-then-reply-clause-state : goal.returns-then-reply-clause-state
returns-then-reply-clause-state c =
    let items = c.commands-command-items.result.now in
    let before = c.loop-command.state in
    let after = c.run_alone.new.state in
    let made : Answer CardState = answered after c.in_ok-reply.reply in
    let A : List ℕ → Type 0 = λ command. made ≡ answer_alone before c.args.part command in
    let n : IsNext before after c.args.part items c.loop-command.command-index c.loop-command.entries.items c.put_entry.new.entries.items made = record {
      item = c.command-item.result;
      within = c.loop-command-test.true;
      is = c.command-item.is;
      answer = subst A c.as_slice.ensures c.in_ok-reply.ensures.answer;
      left = refl;
      entry = c.in_ok-put_entry.ensures.entry after;
    } in
    let P : List (List ℕ) → Type 0 = λ commands. HasEnded c.args.state.now c.args.part commands after c.put_entry.new.entries.items in
    (subst P c.commands-command-items.ensures.commands (next-ends n c.loop-command.invariant.executed c.if-reply.true)).left

pub loop-command-preserved : goal.loop-command-preserved
loop-command-preserved c =
    let items = c.commands-command-items.result.now in
    let before = c.loop-command.state in
    let after = c.run_alone.new.state in
    let made : Answer CardState = answered after c.in_ok-reply.reply in
    let A : List ℕ → Type 0 = λ command. made ≡ answer_alone before c.args.part command in
    let n : IsNext before after c.args.part items c.loop-command.command-index c.loop-command.entries.items c.put_entry.new.entries.items made = record {
      item = c.command-item.result;
      within = c.loop-command-test.true;
      is = c.command-item.is;
      answer = subst A c.as_slice.ensures c.in_ok-reply.ensures.answer;
      left = refl;
      entry = c.in_ok-put_entry.ensures.entry after;
    } in record {
      executed = next-goes-on n c.loop-command.invariant.executed c.if-reply.false;
      place = omega (arith, c.loop-command.invariant.place);
      few = omega (arith, c.loop-command.invariant.few, c.in_ok-put_entry.ensures.few);
      apart = both-leave c.args.part c.args.state.now before after c.loop-command.invariant.apart c.in_ok-reply.ensures.apart;
    }
