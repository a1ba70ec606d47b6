use Rattle.std.proofs.Common.{◌≡◌, ◌*◌, ◌≤◌, length, drop}
use Rattle.script_engine.specs.Step.{LeavesTheOther}
use Rattle.expanded_scripts.specs.Answers.{answers}
use Rattle.expanded_scripts.proofs.Entries.{Executed}
use Rattle.expanded_scripts.proofs.running.run_commands.Given as goal

-- The first commands were executed and done, and the others are still to be.
abbrev pub invariant-loop-command : goal.invariant-loop-command
invariant-loop-command l = record {
  executed : Executed l.fn.state l.part l.command-items (answers l.state l.part (drop l.command-index l.command-items)) l.state l.entries.items l.executed;
  place : l.executed ≡ l.command-index;
  few : length l.entries.items ≤ 262 * l.executed;
  apart : LeavesTheOther l.part l.fn.state l.state;
}
