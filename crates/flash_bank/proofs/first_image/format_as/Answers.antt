use Rattle.std.proofs.Common.{◌≡◌, ◌≤◌, ◌*◌, length, ◌∙◌, arith}
use Rattle.flash_layout.specs.Layout.{bank_len}
use Rattle.flash_layout.specs.Shape.{geometry}
use Rattle.flash_bank.proofs.FormatLemmas.{formats, one_or_two}
use Rattle.flash_bank.proofs.first_image.format_as.Goals as goal

pub returns-in-Ok-clause-formatted : goal.returns-in-Ok-clause-formatted
returns-in-Ok-clause-formatted g c tells =
    let F = g.F.Flash in
    let image = c.args.image.now in
    let x = F.contents c.args.flash.now in
    let y = F.contents c.put_first.new.flash in
    let s = geometry c.args.shape in
    let size : length x ≡ s.blocks * s.block_len = c.requires.whole tells ∙ (λ i. c.requires.blocks i * c.requires.block_size i) in
    let fits : length image ≤ bank_len s c.args.layout = omega (arith, c.if-image-bank_len.false, c.bank_len.ensures) in
    formats s c.requires.limits c.args.layout c.requires.room image c.args.software x y size fits c.in-Ok.ensures.in_range (c.in-Ok.ensures.done tells)

pub put_first-requires-clause-layout : goal.put_first-requires-clause-layout
put_first-requires-clause-layout g c = one_or_two c.args.layout c.requires.least c.requires.most
