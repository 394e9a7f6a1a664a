use Rattle.std.proofs.Common.{◌+◌, List, ℕ, subst, arith}
use Rattle.flash_layout.specs.Pairs.{part}
use Rattle.flash_bank.proofs.BootLemmas.{on_err, piece_put, prefix_put}
use Rattle.flash_bank.proofs.ReadsLemmas.{reads_joined}
use Rattle.flash_bank.proofs.boot_image.put_image.Goals as goal
use Rattle.ssu_io.specs.Bytes.{Gains, GainsPrefix}

pub returns-in_err-put_some-clause-prefix : goal.returns-in_err-put_some-clause-prefix
returns-in_err-put_some-clause-prefix g c tells =
    let F = g.F.Flash in
    let W = g.W.Sink in
    let inv = c.loop-done.invariant in
    let old = F.contents c.args.flash.now in
    let place = c.args.place in
    let done = c.loop-done.done in
    let here = subst (λ (l : List ℕ). GainsPrefix (W.contents c.loop-done.sink) (W.contents c.put_some.new.sink) (part l (place + done) c.min-n.result)) (inv.reads.same tells) (c.in_err-put_some.ensures.prefix tells) in
    on_err _ _ (prefix_put old place done c.min-n.result c.args.len (W.contents c.args.sink.now) (W.contents c.loop-done.sink) (W.contents c.put_some.new.sink) (omega arith) (inv.put tells) here)

pub loop-done-preserved : goal.loop-done-preserved
loop-done-preserved g c =
    let F = g.F.Flash in
    let W = g.W.Sink in
    let inv = c.loop-done.invariant in
    let old = F.contents c.args.flash.now in
    let place = c.args.place in
    let done = c.loop-done.done in
    record {
      fits = omega arith;
      put = λ tells.
          let here = subst (λ (l : List ℕ). Gains (W.contents c.loop-done.sink) (W.contents c.put_some.new.sink) (part l (place + done) c.min-n.result)) (inv.reads.same tells) (c.in_ok-put_some.ensures.whole tells) in
          piece_put old place done c.min-n.result (W.contents c.args.sink.now) (W.contents c.loop-done.sink) (W.contents c.put_some.new.sink) (inv.put tells) here;
      reads = reads_joined F.tells F.contents F.block_count F.block_len F.moment F.left_since c.args.flash.now c.loop-done.flash c.put_some.new.flash inv.reads c.put_some.ensures.reads;
      faults = omega (arith, inv.faults, c.put_some.ensures.faults);
      sink_faults = omega (arith, inv.sink_faults, c.put_some.ensures.sink_faults);
    }
