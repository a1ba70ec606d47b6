use Rattle.std.proofs.Common.{◌∙◌}
use Rattle.secured_packet.proofs.SecuredLemmas.{turned-front, turned-behind}
use Rattle.secured_packet.proofs.protection.take_checksum.Goals as goal

pub returns-clause-checksum : goal.returns-clause-checksum
returns-clause-checksum c =
    c.copy_from_slice.ensures.after ∙ turned-front c.args.packet.now c.args.front c.requires c.rotate_left.new.self _ c.rotate_left.ensures.after

pub returns-clause-others : goal.returns-clause-others
returns-clause-others c = turned-behind c.args.packet.now c.args.front c.requires c.rotate_left.new.self _ c.rotate_left.ensures.after
