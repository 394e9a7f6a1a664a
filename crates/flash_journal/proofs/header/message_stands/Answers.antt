use Rattle.std.proofs.Common.{◌≡◌, ◌+◌, ◌-◌, ◌*◌, List, ℕ, refl, subst, sym, ◌∙◌, arith}
use Rattle.flash_bank.specs.Bank.{spare_journal}
use Rattle.flash_dev.specs.Changes.{Holds}
use Rattle.flash_layout.specs.Pairs.{paired, part}
use Rattle.flash_journal.specs.declared.side.Side.TheVariants.{InJournal}
use Rattle.flash_journal.proofs.LooksLaws.{looks_joined, looks_none, side_place_same}
use Rattle.flash_journal.proofs.PairedLaws.{FrontStands, front_all, front_more, front_none, front_piece}
use Rattle.flash_journal.proofs.header.message_stands.Goals as goal

pub loop-done-init : goal.loop-done-init
loop-done-init g c =
    let F = g.F.Flash in
    record {
      fits = omega arith;
      lent = c.requires.lent;
      so_far = λ tells. front_none (F.contents c.args.flash.now) (spare_journal c.args.bank.now + 256) c.args.message.now;
      looks = looks_none F.tells F.contents F.block_count F.block_len F.moment F.left_since c.args.flash.now c.args.bank.now (g.met.F.Flash.only_now c.args.flash.now);
      faults = omega arith;
    }

pub returns-in_err-stands-clause-looks : goal.returns-in_err-stands-clause-looks
returns-in_err-stands-clause-looks g c =
    let F = g.F.Flash in
    looks_joined F.tells F.contents F.block_count F.block_len F.moment F.left_since c.args.flash.now c.loop-done.flash c.pairs_stand.new.flash c.args.bank.now c.loop-done.bank c.pairs_stand.new.bank
    c.loop-done.invariant.looks c.pairs_stand.ensures.looks

pub returns-then-not-stands-clause-looks : goal.returns-then-not-stands-clause-looks
returns-then-not-stands-clause-looks g c =
    let F = g.F.Flash in
    looks_joined F.tells F.contents F.block_count F.block_len F.moment F.left_since c.args.flash.now c.loop-done.flash c.pairs_stand.new.flash c.args.bank.now c.loop-done.bank c.pairs_stand.new.bank
    c.loop-done.invariant.looks c.pairs_stand.ensures.looks

pub returns-then-not-stands-clause-found : goal.returns-then-not-stands-clause-found
returns-then-not-stands-clause-found g c tells =
    let inv = c.loop-done.invariant in
    let x = g.F.Flash.contents c.args.flash.now in
    let m = c.args.message.now in
    let done = c.loop-done.done in
    let n = done + c.min-n.result - done in
    let here : spare_journal c.loop-done.bank + (256 + 2 * done) ≡ spare_journal c.args.bank.now + 256 + 2 * done =
    omega (arith, side_place_same InJournal c.args.bank.now c.loop-done.bank inv.looks.geometry inv.looks.current) in
    let there = λ (all : Holds x (spare_journal c.args.bank.now + 256) (paired m)).
    (c.in_ok-stands.ensures.found tells).1 (subst (λ (l : List ℕ). Holds l (spare_journal c.loop-done.bank + (256 + 2 * done)) (paired (part m done n))) (sym (inv.looks.reads.same tells))
    (subst (λ (p : ℕ). Holds x p (paired (part m done n))) (sym here) (front_piece x (spare_journal c.args.bank.now + 256) m done n (omega arith) all))) in
    (λ never. absurd (cc never), λ all. sym c.if-not-stands.true ∙ there all)

pub loop-done-preserved : goal.loop-done-preserved
loop-done-preserved g c =
    let F = g.F.Flash in
    let inv = c.loop-done.invariant in
    let x = F.contents c.args.flash.now in
    let m = c.args.message.now in
    let done = c.loop-done.done in
    let n = done + c.min-n.result - done in
    let here : spare_journal c.loop-done.bank + (256 + 2 * done) ≡ spare_journal c.args.bank.now + 256 + 2 * done =
    omega (arith, side_place_same InJournal c.args.bank.now c.loop-done.bank inv.looks.geometry inv.looks.current) in
    let back : done + n ≡ done + c.min-n.result = omega arith in
    record {
      fits = omega arith;
      lent = c.in_ok-stands.ensures.lent;
      so_far = λ tells. subst (FrontStands x (spare_journal c.args.bank.now + 256) m) back (front_more x (spare_journal c.args.bank.now + 256) m done n (omega arith) (inv.so_far tells)
          (subst (λ (p : ℕ). Holds x p (paired (part m done n))) here (subst (λ (l : List ℕ). Holds l (spare_journal c.loop-done.bank + (256 + 2 * done)) (paired (part m done n))) (inv.looks.reads.same tells)
          ((c.in_ok-stands.ensures.found tells).0 c.if-not-stands.false))));
      looks = looks_joined F.tells F.contents F.block_count F.block_len F.moment F.left_since c.args.flash.now c.loop-done.flash c.pairs_stand.new.flash c.args.bank.now c.loop-done.bank c.pairs_stand.new.bank
          inv.looks c.pairs_stand.ensures.looks;
      faults = omega (arith, inv.faults, c.pairs_stand.ensures.cause.later);
    }

pub returns-clause-found : goal.returns-clause-found
returns-clause-found g c tells =
    let past = c.loop-done-test.false in
    (λ yes. front_all (g.F.Flash.contents c.args.flash.now) (spare_journal c.args.bank.now + 256) c.args.message.now c.loop-done.done past (c.loop-done.invariant.so_far tells), λ all. refl)
