use Rattle.std.specs.Prelude.{slice_index}
use Rattle.gf_aes.specs.Cipher.{octet}
use Rattle.gf_aes.proofs.Entries.{last_word-of}
use Rattle.gf_aes.proofs.Rounds.{last_round-of}
use Rattle.gf_aes.proofs.cipher.last_round.Goals as goal

pub returns : goal.returns
returns c =
    let x = slice_index c.args.block.now 0 in
    let y = slice_index c.args.block.now 1 in
    let z = slice_index c.args.block.now 2 in
    let t = slice_index c.args.block.now 3 in
    let ex = c.sub_entries-a.ensures in
    let ey = c.sub_entries-b.ensures in
    let ez = c.sub_entries-c.ensures in
    let et = c.sub_entries-d.ensures in
    last_round-of c.args.words.now c.args.r x y z t _ _ _ _
    (last_word-of (octet x 0) (octet y 1) (octet z 2) (octet t 3) _ _ _ _ _ ex.first ey.second ez.third et.fourth)
    (last_word-of (octet y 0) (octet z 1) (octet t 2) (octet x 3) _ _ _ _ _ ey.first ez.second et.third ex.fourth)
    (last_word-of (octet z 0) (octet t 1) (octet x 2) (octet y 3) _ _ _ _ _ ez.first et.second ex.third ey.fourth)
    (last_word-of (octet t 0) (octet x 1) (octet y 2) (octet z 3) _ _ _ _ _ et.first ex.second ey.third ez.fourth)
