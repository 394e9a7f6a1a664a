use Rattle.std.proofs.Common.{◌≡◌, ◌+◌, ◌++◌, List, ℕ, refl, ap, ◌∙◌, arith}
use Rattle.ts_crc.specs.Crc.{crc_of}
use Rattle.flash_bank.specs.Bank.{spare_bank}
use Rattle.flash_layout.specs.Pairs.{part}
use Rattle.flash_bank.proofs.ReadsLemmas.{reads_joined, reads_none}
use Rattle.flash_stage.proofs.InBankLemmas.{parts_joined, same_part}
use Rattle.flash_stage.proofs.LeavingLaws.{bank_itself, banks_joined}
use Rattle.flash_stage.proofs.read_back.crc_of_range.Goals as goal

pub loop-done-init : goal.loop-done-init
loop-done-init g c =
    let F = g.F.Flash in
    record {
      fits = omega arith;
      lent = c.requires.lent;
      crc = λ tells. c.new-register.ensures;
      reads = reads_none F.tells F.contents F.block_count F.block_len F.moment F.left_since c.args.flash.now (g.met.F.Flash.only_now c.args.flash.now);
      begun = refl;
      same_bank = bank_itself c.args.bank.now;
      faults = omega arith;
    }

pub returns-in_err-push_some-clause-reads : goal.returns-in_err-push_some-clause-reads
returns-in_err-push_some-clause-reads g c =
    let F = g.F.Flash in
    reads_joined F.tells F.contents F.block_count F.block_len F.moment F.left_since c.args.flash.now c.loop-done.flash c.push_some.new.flash c.loop-done.invariant.reads c.push_some.ensures.reads

pub loop-done-preserved : goal.loop-done-preserved
loop-done-preserved g c =
    let F = g.F.Flash in
    let inv = c.loop-done.invariant in
    let x = F.contents c.args.flash.now in
    let b = c.args.bank.now in
    let at = spare_bank b + c.args.at in
    let done = c.loop-done.done in
    let n = c.min-n.result in
    record {
      fits = omega arith;
      lent = c.in_ok-push_some.ensures.lent;
      crc = λ tells.
          let place : spare_bank b + (c.args.at + done) ≡ at + done = omega arith in
          c.in_ok-push_some.ensures.join tells (part x at done) (inv.crc tells)
          ∙ ap (λ (xs : List ℕ). crc_of (part x at done ++ xs)) (same_part b c.loop-done.bank x (F.contents c.loop-done.flash) (c.args.at + done) n inv.same_bank (inv.reads.same tells) ∙ ap (λ (p : ℕ). part x p n) place)
          ∙ ap crc_of (parts_joined x at done n);
      reads = reads_joined F.tells F.contents F.block_count F.block_len F.moment F.left_since c.args.flash.now c.loop-done.flash c.push_some.new.flash inv.reads c.push_some.ensures.reads;
      begun = c.push_some.ensures.begun ∙ inv.begun;
      same_bank = banks_joined b c.loop-done.bank c.push_some.new.bank inv.same_bank c.push_some.ensures.same_bank;
      faults = omega (arith, inv.faults, c.push_some.ensures.cause.later);
    }
