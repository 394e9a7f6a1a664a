use Rattle.std.proofs.Common.{◌≡◌, ◌*◌, ◌-◌, length, take, drop, sym, ap, subst, ◌∙◌, arith, bit_xor}
use Rattle.std.proofs.lemmas.List.{take_all, length-drop}
use Rattle.ts_crc.specs.Crc.{crc_of}
use Rattle.crc_join.specs.Columns.{zero_bits, AreColumns}
use Rattle.crc_join.proofs.JoinLaws.{joined_is}
use Rattle.crc_join.proofs.block_join.BlockJoin.joined.Goals as goal

pub returns : goal.returns
returns c =
    let section = c.args.section.now in
    let len = c.args.self.now in
    let are : AreColumns len c.self.inside.columns = subst (λ n. AreColumns n c.self.inside.columns) c.self.view_is c.self.invariant in
    let end : take (length section - (length section - 4)) (drop (length section - 4) section) ≡ drop (length section - 4) section =
    take_all (length section - (length section - 4)) (drop (length section - 4) section) (omega (arith, length-drop (length section - 4) section)) in
    let head = c.crc-head.ensures.value ∙ ap (λ n. crc_of (take (length section - 4 - n) section)) c.self.view_is in
    ap (λ r. bit_xor r c.number_of.result) (c.sum_of.ensures len are ∙ ap (λ h. zero_bits (8 * len) (bit_xor c.args.register h)) head)
    ∙ sym (joined_is c.args.register c.number_of.result len section c.number_of.type_inv c.requires.long (c.number_of.ensures ∙ end) c.requires.right)
