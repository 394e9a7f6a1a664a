use Rattle.std.proofs.Common.{◌≤◌, ◌<◌, ◌^◌, length, take, ap, arith}
use Rattle.std.specs.Prelude.{option_map}
use Rattle.std.proofs.lemmas.List.{length-take}
use Rattle.head_plan.specs.Plans.{schedule_data}
use Rattle.ssu_unt.specs.Written.{body_bytes}
use Rattle.head_carousel.proofs.NoticeLaws.{body_short, unt_made}
use Rattle.head_carousel.proofs.notices.notice_section.Goals as goal

pub add_platform-requires : goal.add_platform-requires
add_platform-requires c =
    let short = body_short c.args.oui (option_map schedule_data c.args.schedule) c.args.manual (take c.loop-group.group-index c.args.groups.now) in
    let few = length-take c.loop-group.group-index c.args.groups.now in
    let room : length (body_bytes c.loop-group.writer) ≤ 1000 = omega (arith, ap length c.loop-group.invariant.body, short, few, c.requires.few) in
    record { room = room }

pub returns-in-Ok-clause-right : goal.returns-in-Ok-clause-right
returns-in-Ok-clause-right c =
    let short = body_short c.args.oui (option_map schedule_data c.args.schedule) c.args.manual (take c.loop-group.group-index c.args.groups.now) in
    let few = length-take c.loop-group.group-index c.args.groups.now in
    let room : length (body_bytes c.loop-group.writer) ≤ 4084 = omega (arith, ap length c.loop-group.invariant.body, short, few, c.requires.few) in
    let oui : c.loop-group.writer.oui < 2 ^ 24 = omega (arith, c.loop-group.invariant.oui, c.get.ensures.number, c.get.ensures.in_range) in
    unt_made c.loop-group.writer c.in-Ok.section.items oui c.loop-group.invariant.version room c.in-Ok.ensures.bytes
