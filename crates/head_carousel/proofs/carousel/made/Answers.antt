use Rattle.std.proofs.Common.{◌≡◌, ◌≤◌, length, ap, arith}
use Rattle.head_plan.specs.Plans.{PlanData}
use Rattle.head_carousel.specs.Blocks.{all_blocks}
use Rattle.head_carousel.specs.Sections.{signalling}
use Rattle.head_carousel.proofs.ListLaws.{five}
use Rattle.head_carousel.proofs.RefusalLaws.{each_short}
use Rattle.head_carousel.proofs.SignalLaws.{signalling_length}
use Rattle.head_carousel.proofs.carousel.made.Goals as goal

pub add_control_messages-requires-clause-small : goal.add_control_messages-requires-clause-small
add_control_messages-requires-clause-small c =
    let few : length (all_blocks c.args.groups.now) ≤ 65536 = omega (arith, c.requires.all, c.requires.few) in
    each_short c.args.groups.now few

pub add_blocks-requires-clause-period : goal.add_blocks-requires-clause-period
add_blocks-requires-clause-period c = omega (arith, c.requires.all, signalling_length c.args.plan.now c.args.groups.now)

pub add_blocks-requires-clause-short : goal.add_blocks-requires-clause-short
add_blocks-requires-clause-short c =
    let few : length (all_blocks c.args.groups.now) ≤ 65536 = omega (arith, c.requires.all, c.requires.few) in
    each_short c.args.groups.now few

pub returns-clause-list : goal.returns-clause-list
unfolding signalling
returns-clause-list c =
    let all = five _ _ _ _ _ _ _ _ _ _ _ c.new-list.ensures.items c.in_ok-add_networks.ensures.added c.in_ok-add_programs.ensures.added c.in_ok-add_notices.ensures.added c.in_ok-add_control_messages.ensures.added c.in_ok-add_blocks.ensures.added in
    let pid : c.plan.inside.data_pid ≡ c.args.plan.now.data_pid = ap (λ (p : PlanData). p.data_pid) c.plan.view_is in
    rw (pid, c.requires.all) at all
