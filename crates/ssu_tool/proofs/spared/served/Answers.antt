use Rattle.std.proofs.Common.{◌≡◌, ◌⊎◌, ◌+◌, ◌^◌, ◌≤◌, ℕ, ⊎_elim, inl, inr, sym, subst, ◌∙◌, arith}
use Rattle.std.proofs.lemmas.Bool.{cases_lt}
use Rattle.flash_remap.specs.Seen.{faults_of, inner_of, left_of}
use Rattle.flash_remap.specs.declared.remap.Remap.{Remap}
use Rattle.ssu_io.specs.Faults.{Rose}
use Rattle.ssu_status.specs.Words.{task_of}
use Rattle.ssu_tool.proofs.SparedLemmas.{fault_rose}
use Rattle.ssu_tool.proofs.spared.served.Goals as goal

pub returns-clause-does : goal.returns-clause-does
returns-clause-does g c =
    let F = g.F.Flash in
    let K = g.K.Opening in
    let remap = c.args.remap in
    let before = c.of-opened.result in
    let after = c.dispatch-status.new.flash in
    let new = c.into_inner.result in
    let task = task_of c.args.command in
    let none : faults_of before.remap ≡ 0 = subst (λ (r : Remap _ F). faults_of r ≡ 0) (sym c.of-opened.ensures) c.requires.fresh in
    let back = c.into_inner.ensures in
    let uses : (2 ^ 64 ≤ F.faults new + 1) ⊎ (left_of remap + F.faults (inner_of remap) ≤ left_of after.remap + F.faults new) =
    subst (λ n. (2 ^ 64 ≤ F.faults n + 1) ⊎ (left_of remap + F.faults (inner_of remap) ≤ left_of after.remap + F.faults n)) (sym back)
    (⊎_elim (λ lt. inr (omega (arith, after.uses lt, c.requires.left, c.requires.count))) (λ top. inl top) (cases_lt (F.faults (inner_of after.remap) + 1) (2 ^ 64))) in
    record {
      before = before;
      after = after;
      opened = c.of-opened.ensures;
      does = c.dispatch-status.ensures.does;
      back = back;
      parted = after.geometry ∙ sym c.requires.geometry;
      later = subst (λ n. F.faults (inner_of remap) ≤ F.faults n) (sym back) (omega (arith, after.later, c.requires.count));
      fewer = omega (arith, after.fewer, c.requires.left);
      uses = uses;
      cause = λ fault.
          let own = fault_rose task c.dispatch-status.result _ _ _ _ _ c.requires.flash c.dispatch-status.ensures.does fault in
          let some : 1 ≤ faults_of after.remap = omega (arith, own, none) in
          subst (λ (n : ℕ). Rose n (F.faults new)) (sym c.requires.count)
          (subst (λ r. Rose K.count (F.faults r)) (sym back) (after.failed some));
      used_up = after.used_up;
    }
