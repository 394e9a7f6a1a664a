use Rattle.std.specs.Prelude.{OnErr, OnOk}
use Rattle.std.proofs.Common.{◌≡◌, List, ℕ, length, sym, subst, arith, rules}
use Rattle.flash_layout.specs.Pairs.{part}
use Rattle.flash_layout.proofs.PartLemmas.{part_held}
use Rattle.flash_bank.proofs.boot_image.put_piece.Goals as goal
use Rattle.ssu_io.specs.Bytes.{Gains, GainsPrefix}

pub returns-in-Ok-clause-whole : goal.returns-in-Ok-clause-whole
returns-in-Ok-clause-whole g c tells =
    let old = g.F.Flash.contents c.args.flash.now in
    let bytes = c.read.new.buf in
    let size : length bytes ≡ length c.args.piece.now = search rules in
    let is : part old c.args.at (length c.args.piece.now) ≡ bytes = part_held old bytes c.args.at (length c.args.piece.now) size (omega (arith, c.requires.inside, c.requires.whole tells)) (c.in-Ok.ensures.bytes tells) in
    subst (λ (l : List ℕ). OnOk c.put_bytes.result (Gains (g.W.Sink.contents c.args.sink.now) (g.W.Sink.contents c.put_bytes.new.sink) l)) (sym is) c.put_bytes.ensures.whole

pub returns-in-Ok-clause-prefix : goal.returns-in-Ok-clause-prefix
returns-in-Ok-clause-prefix g c tells =
    let old = g.F.Flash.contents c.args.flash.now in
    let bytes = c.read.new.buf in
    let size : length bytes ≡ length c.args.piece.now = search rules in
    let is : part old c.args.at (length c.args.piece.now) ≡ bytes = part_held old bytes c.args.at (length c.args.piece.now) size (omega (arith, c.requires.inside, c.requires.whole tells)) (c.in-Ok.ensures.bytes tells) in
    subst (λ (l : List ℕ). OnErr c.put_bytes.result (GainsPrefix (g.W.Sink.contents c.args.sink.now) (g.W.Sink.contents c.put_bytes.new.sink) l)) (sym is) c.put_bytes.ensures.prefix
