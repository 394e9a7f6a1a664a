-- Each value is the same as itself.
use Rattle.std.proofs.Common.{◌≡◌, ℕ, Bool, true, eqb, List, Option, Some, None, refl, arith}
use Rattle.si_desc.specs.declared.linkages.ServiceRef.{ServiceRef}
use Rattle.route_tables.specs.Values.{ProgramFound, TaggedStream, ComponentFound, same_option, same_service, same_services, same_program_found, same_program, same_stream, same_component_found, same_component}
use Rattle.route_tables.proofs.Lists.{itself}

pub option_itself : {A : Type 0} (same : A → A → Bool) → ((x : A) → same x x ≡ true) → (o : Option A) → same_option same o o ≡ true
unfolding same_option
option_itself same is None = refl
option_itself same is (Some x) = is x

number_itself : (n : ℕ) → (eqb n n) ≡ true
number_itself n = grind arith

service_itself : (s : ServiceRef) → same_service s s ≡ true
service_itself s = rw (number_itself s.ts, number_itself s.network, number_itself s.service) refl

pub services_itself : (ss : List ServiceRef) → same_services ss ss ≡ true
services_itself = itself same_service service_itself

program_found_itself : (p : ProgramFound) → same_program_found p p ≡ true
program_found_itself p = rw (service_itself p.service, number_itself p.pid) refl

pub program_itself : (p : Option ProgramFound) → same_program p p ≡ true
program_itself = option_itself same_program_found program_found_itself

stream_itself : (s : TaggedStream) → same_stream s s ≡ true
stream_itself s = rw (number_itself s.tag, number_itself s.pid) refl

component_found_itself : (c : ComponentFound) → same_component_found c c ≡ true
component_found_itself c = rw (number_itself c.pid, number_itself c.update_type, itself same_stream stream_itself c.tagged) refl

pub component_itself : (c : Option ComponentFound) → same_component c c ≡ true
component_itself = option_itself same_component_found component_found_itself
