use Rattle.std.proofs.Common.{◌≡◌, take}
use Rattle.std.specs.Prelude.{option_map}
use Rattle.head_plan.specs.Plans.{schedule_data}
use Rattle.ssu_unt.specs.Written.{body_bytes}
use Rattle.head_carousel.specs.Notice.{notice_body}
use Rattle.head_carousel.proofs.notices.notice_section.Given as goal

abbrev pub invariant-loop-group : goal.invariant-loop-group
invariant-loop-group l = record {
  body : body_bytes l.writer ≡ notice_body l.oui (option_map schedule_data l.schedule) l.manual (take l.group-index l.groups);
  oui : l.writer.oui ≡ l.oui;
  version : l.writer.version ≡ 0;
}
