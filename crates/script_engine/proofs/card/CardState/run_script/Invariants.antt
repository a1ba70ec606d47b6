use Rattle.std.proofs.Common.{◌≡◌, ◌-◌, ◌<◌, ◌≤◌, length, IfSome}
use Rattle.std.specs.Option.{option_map_or}
use Rattle.apdu_codec.specs.Reply.{answered}
use Rattle.script_engine.specs.Run.{runs, with_mf_selected}
use Rattle.script_engine.specs.Step.{LeavesTheOther}
use Rattle.script_engine.proofs.card.CardState.run_script.Given as goal

-- The first commands were run, each took an octet at least, and left the other part of the card as it was.
abbrev pub invariant-loop-next : goal.invariant-loop-next
invariant-loop-next l = record {
  ran : runs l.fn.self l.part l.script l.ran.count ≡ record { count = l.ran.count; next = l.next; last = answered l.self l.ran.reply };
  place : IfSome l.next (λ at. (l.ran.count ≤ at) × (at < length l.script));
  short : length l.ran.reply.out.items ≤ 256;
  apart : LeavesTheOther l.part (with_mf_selected l.fn.self) l.self;
}

-- The octets that are left.
abbrev pub decreases-loop-next : goal.decreases-loop-next
decreases-loop-next l = option_map_or (λ at. length l.script - at) l.next 0
