use Rattle.std.specs.Prelude.{Option}
use Rattle.std.proofs.Common.{◌≡◌, ◌+◌, List, ℕ, subst, arith}
use Rattle.flash_layout.specs.Pairs.{part}
use Rattle.flash_bank.specs.Laid.{laid_text}
use Rattle.flash_bank.proofs.BootLemmas.{on_err, piece_put, prefix_put}
use Rattle.flash_bank.proofs.ReadsLemmas.{reads_joined}
use Rattle.flash_bank.proofs.laid_image.put_laid.Goals as goal
use Rattle.ssu_io.specs.Bytes.{Gains, GainsPrefix}

-- a piece at a place is one at that place from 0
zero_gains : (text : List ℕ) (done n : ℕ) (before after : Option (List ℕ)) → Gains before after (part text done n) → Gains before after (part text (0 + done) n)
zero_gains text done n before after gains = let spot : done ≡ 0 + done = omega arith in subst (λ (p : ℕ). Gains before after (part text p n)) spot gains

zero_prefix : (text : List ℕ) (done n : ℕ) (before after : Option (List ℕ)) → GainsPrefix before after (part text done n) → GainsPrefix before after (part text (0 + done) n)
zero_prefix text done n before after gains = let spot : done ≡ 0 + done = omega arith in subst (λ (p : ℕ). GainsPrefix before after (part text p n)) spot gains

pub returns-in_err-put_some_laid-clause-prefix : goal.returns-in_err-put_some_laid-clause-prefix
returns-in_err-put_some_laid-clause-prefix g c tells =
    let F = g.F.Flash in
    let W = g.W.Sink in
    let inv = c.loop-done.invariant in
    let old = laid_text c.args.bank (F.contents c.args.flash.now) in
    let place : ℕ = 0 in
    let done = c.loop-done.done in
    let here = subst (λ (l : List ℕ). GainsPrefix (W.contents c.loop-done.sink) (W.contents c.put_some_laid.new.sink) (part (laid_text c.args.bank l) done c.min-n.result)) (inv.reads.same tells) (c.in_err-put_some_laid.ensures.prefix tells) in
    on_err _ _ (prefix_put old place done c.min-n.result c.args.len (W.contents c.args.sink.now) (W.contents c.loop-done.sink) (W.contents c.put_some_laid.new.sink) (omega arith) (inv.put tells) (zero_prefix old done c.min-n.result (W.contents c.loop-done.sink) (W.contents c.put_some_laid.new.sink) here))

pub loop-done-preserved : goal.loop-done-preserved
loop-done-preserved g c =
    let F = g.F.Flash in
    let W = g.W.Sink in
    let inv = c.loop-done.invariant in
    let old = laid_text c.args.bank (F.contents c.args.flash.now) in
    let place : ℕ = 0 in
    let done = c.loop-done.done in
    record {
      fits = omega arith;
      put = λ tells.
          let here = subst (λ (l : List ℕ). Gains (W.contents c.loop-done.sink) (W.contents c.put_some_laid.new.sink) (part (laid_text c.args.bank l) done c.min-n.result)) (inv.reads.same tells) (c.in_ok-put_some_laid.ensures.whole tells) in
          piece_put old place done c.min-n.result (W.contents c.args.sink.now) (W.contents c.loop-done.sink) (W.contents c.put_some_laid.new.sink) (inv.put tells) (zero_gains old done c.min-n.result (W.contents c.loop-done.sink) (W.contents c.put_some_laid.new.sink) here);
      reads = reads_joined F.tells F.contents F.block_count F.block_len F.moment F.left_since c.args.flash.now c.loop-done.flash c.put_some_laid.new.flash inv.reads c.put_some_laid.ensures.reads;
      faults = omega (arith, inv.faults, c.put_some_laid.ensures.faults);
      sink_faults = omega (arith, inv.sink_faults, c.put_some_laid.ensures.sink_faults);
    }
