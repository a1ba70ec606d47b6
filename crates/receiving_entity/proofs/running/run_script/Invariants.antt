use Rattle.std.proofs.Common.{◌≡◌, ◌≤◌, ◌+◌, ◌*◌, ◌-◌, true, length}
use Rattle.card_store.specs.Content.{Content}
use Rattle.card_store.specs.Store.{HasRoom, StandsFor}
use Rattle.command_packet.specs.declared.opening.Command.{Command}
use Rattle.gate_log.specs.Opening.{LIMIT}
use Rattle.receiving_entity.specs.Taking.{taken}
use Rattle.receiving_entity.proofs.RunLemmas.{IsRunOn}
use Rattle.receiving_entity.proofs.running.run_script.Given as goal

-- so many commands were run, and there is room for those that are left
abbrev pub invariant-loop-store : goal.invariant-loop-store
invariant-loop-store g l = record {
  on : (content : Content) (command : Command) → StandsFor g.D.DiskCalls.told l.fn.store (taken l.fn.store.facts content command 0)
      → IsRunOn g.D.DiskCalls.told l.fn.store l.store content command l.ran.count l.ran.reply;
  short : length l.ran.reply.out.items ≤ 256;
  ready : l.store.ready ≡ true;
  room : HasRoom l.store;
  length : l.store.length ≡ l.fn.store.length + 10 * l.ran.count;
  facts : l.store.facts ≡ l.fn.store.facts;
  tells : g.D.DiskCalls.told.tells l.store.disk ≡ g.D.DiskCalls.told.tells l.fn.store.disk;
  counts : g.D.DiskCalls.counts l.store.disk ≡ g.D.DiskCalls.counts l.fn.store.disk;
}

-- the room that is left
abbrev pub decreases-loop-store : goal.decreases-loop-store
decreases-loop-store g l = LIMIT - l.store.length
