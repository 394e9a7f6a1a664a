use Rattle.std.proofs.Common.{◌≡◌, ◌+◌, ◌-◌, ◌≤◌, ◌++◌, List, ℕ, refl, sym, ap, subst, ◌∙◌, arith, append_assoc, append-nil}
use Rattle.ts_crc.specs.Crc.{crc_of}
use Rattle.flash_bank.specs.Bank.{geometry_of}
use Rattle.flash_layout.specs.Pairs.{part}
use Rattle.flash_stage.proofs.InBankLemmas.{parts_joined}
use Rattle.flash_journal.specs.Side.{side_place}
use Rattle.flash_journal.proofs.LooksLaws.{looks_joined, looks_none, side_len_same, side_place_same}
use Rattle.flash_journal.proofs.TextLaws.{side_small}
use Rattle.flash_journal.proofs.read_back.push_range.Goals as goal

pub loop-done-init : goal.loop-done-init
loop-done-init g c =
    let F = g.F.Flash in
    record {
      fits = omega arith;
      lent = c.requires.lent;
      crc = λ tells before is. is ∙ ap crc_of (sym (append-nil before));
      looks = looks_none F.tells F.contents F.block_count F.block_len F.moment F.left_since c.args.flash.now c.args.bank.now (g.met.F.Flash.only_now c.args.flash.now);
      faults = omega arith;
    }

pub returns-in_err-push_some-clause-looks : goal.returns-in_err-push_some-clause-looks
returns-in_err-push_some-clause-looks g c =
    let F = g.F.Flash in
    looks_joined F.tells F.contents F.block_count F.block_len F.moment F.left_since c.args.flash.now c.loop-done.flash c.push_some.new.flash c.args.bank.now c.loop-done.bank c.push_some.new.bank
    c.loop-done.invariant.looks c.push_some.ensures.looks

pub loop-done-preserved : goal.loop-done-preserved
loop-done-preserved g c =
    let F = g.F.Flash in
    let inv = c.loop-done.invariant in
    let x = F.contents c.args.flash.now in
    let b = c.args.bank.now in
    let side = c.args.side in
    let at = side_place side b + c.args.at in
    let done = c.loop-done.done in
    let n = c.min-n.result in
    record {
      fits = omega arith;
      lent = c.in_ok-push_some.ensures.lent;
      crc = λ tells before is.
          let place : side_place side c.loop-done.bank + (c.args.at + done) ≡ at + done = omega (arith, side_place_same side b c.loop-done.bank inv.looks.geometry inv.looks.current) in
          c.in_ok-push_some.ensures.join tells (before ++ part x at done) (inv.crc tells before is)
          ∙ ap (λ (xs : List ℕ). crc_of ((before ++ part x at done) ++ xs))
          (ap (λ (y : List ℕ). part y (side_place side c.loop-done.bank + (c.args.at + done)) n) (inv.looks.reads.same tells) ∙ ap (λ (p : ℕ). part x p n) place)
          ∙ ap crc_of (append_assoc before (part x at done) (part x (at + done) n) ∙ ap (λ (xs : List ℕ). before ++ xs) (parts_joined x at done n));
      looks = looks_joined F.tells F.contents F.block_count F.block_len F.moment F.left_since c.args.flash.now c.loop-done.flash c.push_some.new.flash b c.loop-done.bank c.push_some.new.bank inv.looks c.push_some.ensures.looks;
      faults = omega (arith, inv.faults, c.push_some.ensures.cause.later);
    }

pub overflow_add-at : goal.overflow_add-at
overflow_add-at g c =
    let small = side_small c.args.side c.args.bank.now c.requires.two in let inside = c.requires.inside in let fits = c.loop-done.invariant.fits in omega (arith, small, inside, fits)

pub returns-clause-join : goal.returns-clause-join
returns-clause-join g c tells before is =
    let inv = c.loop-done.invariant in
    let past = c.loop-done-test.false in
    let fits = inv.fits in
    let all : c.loop-done.done ≡ c.args.len = omega (arith, past, fits) in
    subst (λ (n : ℕ). c.loop-done.register ≡ crc_of (before ++ part (g.F.Flash.contents c.args.flash.now) (side_place c.args.side c.args.bank.now + c.args.at) n)) all (inv.crc tells before is)
