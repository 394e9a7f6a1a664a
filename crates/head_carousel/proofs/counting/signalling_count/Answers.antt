use Rattle.std.proofs.Common.{◌≡◌, ap, ◌∙◌, arith}
use Rattle.std.specs.Prelude.{is_some}
use Rattle.head_plan.specs.Plans.{PlanData}
use Rattle.head_carousel.proofs.SignalLaws.{one_if, signalling_length}
use Rattle.head_carousel.proofs.counting.signalling_count.Goals as goal

pub returns-clause-all : goal.returns-clause-all
returns-clause-all c =
    let bats : c.count_of-bats.result ≡ one_if (is_some c.args.plan.now.bouquet) = c.count_of-bats.ensures ∙ ap one_if (c.is_some.ensures ∙ ap (λ (p : PlanData). is_some p.bouquet) c.plan.view_is) in
    let notices : c.count_of-notices.result ≡ one_if (is_some c.args.plan.now.notice_pid) = c.count_of-notices.ensures ∙ ap one_if (c.is_some-2.ensures ∙ ap (λ (p : PlanData). is_some p.notice_pid) c.plan.view_is) in
    omega (arith, bats, notices, signalling_length c.args.plan.now c.args.groups.now)
