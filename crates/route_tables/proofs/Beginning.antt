-- What stands before anything was heard.
use Rattle.std.proofs.Common.{◌≡◌, [], Option, Some, None, refl, ap}
use Rattle.std.specs.Prelude.{option_to_list}
use Rattle.std.specs.Option.{option_map}
use Rattle.route_part.specs.Part.{since}
use Rattle.route_part.proofs.Steps.{fixed_said-none, last_said-none}
use Rattle.si_desc.specs.declared.linkages.ServiceRef.{ServiceRef}
use Rattle.route_tables.specs.Values.{Receiver}
use Rattle.route_tables.specs.Said.{program_said, service_said, time_said}
use Rattle.route_tables.specs.Levels.{all_services, each_once, services_of, level_1, program_found, level_2, level_3, notice, time_now, level_5}

pub level_1-none : (me : Receiver) → level_1 me [] ≡ option_to_list me.file.service
unfolding level_1 all_services each_once
level_1-none me = of_box me.file.service
  where
    of_box : (configured : Option ServiceRef) → services_of configured me.file.id.oui [] ≡ option_to_list configured
    of_box None = refl
    of_box (Some s) = refl

pub level_2-none : (me : Receiver) → level_2 me [] ≡ None
unfolding level_2 since
level_2-none me = ap (option_map program_found) (fixed_said-none (service_said (level_1 me [])) program_said)

pub level_3-none : (me : Receiver) → level_3 me [] ≡ None
unfolding level_3
level_3-none me = rw (level_2-none me) refl

pub notice-none : (me : Receiver) → notice me [] ≡ None
unfolding notice
notice-none me = rw (level_3-none me) refl

pub time_now-none : time_now [] ≡ None
unfolding time_now
time_now-none = last_said-none time_said

pub level_5-none : (me : Receiver) → level_5 me [] ≡ None
unfolding level_5
level_5-none me = rw (level_3-none me) refl
