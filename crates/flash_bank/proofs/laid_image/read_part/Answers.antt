use Rattle.std.proofs.Common.{◌≡◌, ◌-◌, length, rules}
use Rattle.flash_bank.proofs.OverlayLemmas.{part_read}
use Rattle.flash_bank.proofs.ReadsLemmas.{reads_one}
use Rattle.flash_bank.proofs.laid_image.read_part.Goals as goal

pub returns-in_err-read-clause-reads : goal.returns-in_err-read-clause-reads
returns-in_err-read-clause-reads g c =
    let F = g.F.Flash in
    reads_one F.tells F.contents F.block_count F.block_len F.moment F.left_since c.args.flash.now c.read.new.self (g.met.F.Flash.only_now c.args.flash.now)
    c.read.ensures.same c.read.ensures.blocks c.read.ensures.block_size c.read.ensures.time

pub returns-clause-reads : goal.returns-clause-reads
returns-clause-reads g c =
    let F = g.F.Flash in
    reads_one F.tells F.contents F.block_count F.block_len F.moment F.left_since c.args.flash.now c.read.new.self (g.met.F.Flash.only_now c.args.flash.now)
    c.read.ensures.same c.read.ensures.blocks c.read.ensures.block_size c.read.ensures.time

pub returns-clause-bytes : goal.returns-clause-bytes
returns-clause-bytes g c tells =
    let bytes = c.read.new.buf in
    let size : length bytes ≡ c.args.to - c.args.from = search rules in
    part_read (g.F.Flash.contents c.args.flash.now) bytes c.args.piece.now c.args.place c.args.from c.args.to c.requires.order c.requires.part size (c.in_ok-read.ensures.bytes tells)
