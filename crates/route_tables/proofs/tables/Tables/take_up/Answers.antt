use Rattle.std.proofs.Common.{◌∷◌, map}
use Rattle.std.specs.Option.{option_map}
use Rattle.route_tables.specs.Next.{heard_on}
use Rattle.route_tables.specs.Standing.{service_view, program_view, component_view, notice_view, carousel_view}
use Rattle.route_tables.proofs.Standing.{services_stand, program_stands, component_stands, notice_stands, time_stands, carousel_stands}
use Rattle.route_tables.proofs.tables.Tables.take_up.Goals as goal

pub returns : goal.returns
returns c = record {
  stands = λ me heard s.
      let item = heard_on c.args.pid c.args.section.now in
      let old = c.args.self.now in
      let services = map service_view c.hear-is_same.new.services.items in
      let program = option_map program_view c.hear-is_same-2.new.program in
      let component = option_map component_view c.hear-is_same-3.new.component in
      let found = option_map notice_view c.hear.new.notice in
      let services_now = services_stand me heard item old.service old.id (map service_view old.services.items) services
      s.service s.id s.services c.hear-is_same.ensures.services in
      let program_now = program_stands me heard item c.hear-is_same.result (map service_view old.services.items) services (option_map program_view old.program) program
      s.services services_now c.hear-is_same.ensures.same s.program
      (rw c.as_slice.ensures.value at c.hear-is_same-2.ensures.program) in
      let component_now = component_stands me heard item c.hear-is_same-2.result old.id (option_map program_view old.program) program (option_map component_view old.component) component
      s.id s.program program_now c.hear-is_same-2.ensures.same s.component c.hear-is_same-3.ensures.component in
      let notice_now = notice_stands me heard item c.hear-is_same-3.result old.id (option_map component_view old.component) component (option_map notice_view old.notice) found
      s.id s.component component_now c.hear-is_same-3.ensures.same s.notice c.hear.ensures in
      let time_now = time_stands heard item old.time c.hear-2.new.time s.time c.hear-2.ensures in
      let carousel_now = carousel_stands me (item ∷ heard) old.manual c.hear-2.new.time component found (option_map carousel_view c.carousel_now-self.result)
      s.manual time_now component_now notice_now c.carousel_now-self.ensures in
      record {
        id = s.id;
        manual = s.manual;
        service = s.service;
        services = services_now;
        program = program_now;
        component = component_now;
        notice = notice_now;
        time = time_now;
        carousel = carousel_now;
      };
}
