use Rattle.std.proofs.Common.{◌≡◌, ◌+◌, List, ℕ, refl, subst, sym, ◌∙◌, arith}
use Rattle.flash_dev.specs.Changes.{IsBlank}
use Rattle.flash_journal.specs.Side.{side_place}
use Rattle.flash_journal.proofs.BlankLaws.{blank_more, blank_part}
use Rattle.flash_journal.proofs.LooksLaws.{looks_joined, looks_none, side_place_same}
use Rattle.flash_journal.proofs.blank.is_blank.Goals as goal

pub loop-done-init : goal.loop-done-init
loop-done-init g c =
    let F = g.F.Flash in
    record {
      fits = omega arith;
      lent = c.requires.lent;
      so_far = λ tells k lt. absurd (omega (arith, lt));
      looks = looks_none F.tells F.contents F.block_count F.block_len F.moment F.left_since c.args.flash.now c.args.bank.now (g.met.F.Flash.only_now c.args.flash.now);
      faults = omega arith;
    }

pub overflow_add-at : goal.overflow_add-at
overflow_add-at g c = omega (arith, c.requires.addressable, c.loop-done.invariant.fits)

pub returns-in_err-blank-clause-looks : goal.returns-in_err-blank-clause-looks
returns-in_err-blank-clause-looks g c =
    let F = g.F.Flash in
    looks_joined F.tells F.contents F.block_count F.block_len F.moment F.left_since c.args.flash.now c.loop-done.flash c.some_are_blank.new.flash c.args.bank.now c.loop-done.bank c.some_are_blank.new.bank
    c.loop-done.invariant.looks c.some_are_blank.ensures.looks

pub returns-then-not-blank-clause-looks : goal.returns-then-not-blank-clause-looks
returns-then-not-blank-clause-looks g c =
    let F = g.F.Flash in
    looks_joined F.tells F.contents F.block_count F.block_len F.moment F.left_since c.args.flash.now c.loop-done.flash c.some_are_blank.new.flash c.args.bank.now c.loop-done.bank c.some_are_blank.new.bank
    c.loop-done.invariant.looks c.some_are_blank.ensures.looks

pub returns-then-not-blank-clause-found : goal.returns-then-not-blank-clause-found
returns-then-not-blank-clause-found g c tells =
    let inv = c.loop-done.invariant in
    let x = g.F.Flash.contents c.args.flash.now in
    let n = c.min-n.result in
    let done = c.loop-done.done in
    let here : side_place c.args.side c.loop-done.bank + (c.args.at + done) ≡ side_place c.args.side c.args.bank.now + c.args.at + done =
    omega (arith, side_place_same c.args.side c.args.bank.now c.loop-done.bank inv.looks.geometry inv.looks.current) in
    let there = λ (all : IsBlank x (side_place c.args.side c.args.bank.now + c.args.at) c.args.len).
    (c.in_ok-blank.ensures.found tells).1 (subst (λ (l : List ℕ). IsBlank l (side_place c.args.side c.loop-done.bank + (c.args.at + done)) n) (sym (inv.looks.reads.same tells))
    (subst (λ (p : ℕ). IsBlank x p n) (sym here) (blank_part x (side_place c.args.side c.args.bank.now + c.args.at) done n c.args.len (omega arith) all))) in
    (λ never. absurd (cc never), λ all. sym c.if-not-blank.true ∙ there all)

pub loop-done-preserved : goal.loop-done-preserved
loop-done-preserved g c =
    let F = g.F.Flash in
    let inv = c.loop-done.invariant in
    let x = F.contents c.args.flash.now in
    let n = c.min-n.result in
    let done = c.loop-done.done in
    let here : side_place c.args.side c.loop-done.bank + (c.args.at + done) ≡ side_place c.args.side c.args.bank.now + c.args.at + done =
    omega (arith, side_place_same c.args.side c.args.bank.now c.loop-done.bank inv.looks.geometry inv.looks.current) in
    record {
      fits = omega arith;
      lent = c.in_ok-blank.ensures.lent;
      so_far = λ tells. blank_more x (side_place c.args.side c.args.bank.now + c.args.at) done n (inv.so_far tells)
          (subst (λ (p : ℕ). IsBlank x p n) here (subst (λ (l : List ℕ). IsBlank l (side_place c.args.side c.loop-done.bank + (c.args.at + done)) n) (inv.looks.reads.same tells)
          ((c.in_ok-blank.ensures.found tells).0 c.if-not-blank.false)));
      looks = looks_joined F.tells F.contents F.block_count F.block_len F.moment F.left_since c.args.flash.now c.loop-done.flash c.some_are_blank.new.flash c.args.bank.now c.loop-done.bank c.some_are_blank.new.bank
          inv.looks c.some_are_blank.ensures.looks;
      faults = omega (arith, inv.faults, c.some_are_blank.ensures.cause.later);
    }

pub returns-clause-found : goal.returns-clause-found
returns-clause-found g c tells =
    let past = c.loop-done-test.false in
    (λ yes k lt. c.loop-done.invariant.so_far tells k (omega (arith, lt, past)), λ all. refl)
