-- Each section of a plan is on one of the plan's PIDs.
use Rattle.std.proofs.Common.{◌≡◌, ℕ, List, [], ◌∷◌, ◌++◌, refl, arith}
use Rattle.std.specs.Prelude.{Contains, Option, Some, None, map}
use Rattle.std.specs.List.{All}
use Rattle.std.proofs.lemmas.List.Elements.{All-append, All-cons, All-map, All-nil}
use Rattle.head_plan.specs.Plans.{PlanData}
use Rattle.ts_section.specs.TimedSection.{TimedSection}
use Rattle.head_carousel.specs.Blocks.{all_blocks}
use Rattle.head_carousel.specs.Control.{dii_section, dsi_section}
use Rattle.head_carousel.specs.GroupFiles.{GroupFiles}
use Rattle.head_carousel.specs.Signals.{pid_of_notices, pids_of, bats, networks, notices, notices_on, pmt_section, program_of, programs, time_of, timed}
use Rattle.head_carousel.specs.Sections.{block_period, control_messages, plan_groups, section_count, sections_of, signalling}
use Rattle.si_table.specs.Pids.{pat_pid, nit_pid, bat_pid, time_pid}
use Rattle.si_table.specs.Written.{pat_bytes, tdt_bytes}

abbrev IsOn : PlanData → TimedSection → Type 0
IsOn p s = Contains (pids_of p) s.pid

-- the place of each PID in the list
on_data : (p : PlanData) (period : ℕ) (bytes : List ℕ) → IsOn p (timed p.data_pid period bytes)
on_data p period bytes = (5, omega arith, refl)

bats_on : (p : PlanData) (o : Option ℕ) → All (IsOn p) (bats p o)
bats_on p None = All-nil (IsOn p)
bats_on p (Some id) = All-cons (IsOn p) _ [] (1, omega arith, refl) (All-nil (IsOn p))

sixth : (a b c d e f : ℕ) (o : Option ℕ) (pid : ℕ) → o ≡ Some pid → Contains (a ∷ b ∷ c ∷ d ∷ e ∷ f ∷ pid_of_notices o) pid
sixth a b c d e f None pid h = absurd cc
sixth a b c d e f (Some n) pid h = let is : n ≡ pid = cc in (6, omega arith, is)

notices_are_on : (p : PlanData) (o : Option ℕ) → p.notice_pid ≡ o → All (IsOn p) (notices_on p o)
notices_are_on p None e = All-nil (IsOn p)
notices_are_on p (Some pid) e =
    let here : Contains (pids_of p) pid = sixth nit_pid bat_pid pat_pid time_pid p.pmt_pid p.data_pid p.notice_pid pid e in
    All-cons (IsOn p) _ [] here (All-nil (IsOn p))

networks_on : (p : PlanData) → All (IsOn p) (networks p)
unfolding networks
networks_on p = All-cons (IsOn p) _ (bats p p.bouquet) (0, omega arith, refl) (bats_on p p.bouquet)

programs_on : (p : PlanData) → All (IsOn p) (programs p)
unfolding programs
programs_on p =
    let pat = timed pat_pid p.signal_period (pat_bytes p.ts (program_of p)) in
    let tdt = timed time_pid p.signal_period (tdt_bytes (time_of p)) in
    let pmt = timed p.pmt_pid p.signal_period (pmt_section p) in
    All-cons (IsOn p) pat (tdt ∷ pmt ∷ []) (2, omega arith, refl) (All-cons (IsOn p) tdt (pmt ∷ []) (3, omega arith, refl) (All-cons (IsOn p) pmt [] (4, omega arith, refl) (All-nil (IsOn p))))

notices_all_on : (p : PlanData) → All (IsOn p) (notices p)
unfolding notices
notices_all_on p = notices_are_on p p.notice_pid refl

controls_on : (p : PlanData) (gs : List GroupFiles) → All (IsOn p) (control_messages p gs)
controls_on p gs =
    All-cons (IsOn p) (timed p.data_pid p.signal_period (dsi_section p.oui gs)) (map (λ g. timed p.data_pid p.signal_period (dii_section g)) gs) (on_data p p.signal_period (dsi_section p.oui gs))
    (All-map (IsOn p) (λ g. timed p.data_pid p.signal_period (dii_section g)) gs (λ k d low. (5, omega arith, refl)))

pub section_pids : (p : PlanData) (images : List (List ℕ)) → All (IsOn p) (sections_of p images)
unfolding sections_of signalling
section_pids p images =
    let gs = plan_groups p images in
    let behind = All-append (IsOn p) (notices p) (control_messages p gs) (notices_all_on p) (controls_on p gs) in
    let signals = All-append (IsOn p) (networks p) (programs p ++ (notices p ++ control_messages p gs)) (networks_on p) (All-append (IsOn p) (programs p) (notices p ++ control_messages p gs) (programs_on p) behind) in
    All-append (IsOn p) (signalling p gs) _ signals (All-map (IsOn p) (timed p.data_pid (block_period (section_count p gs))) (all_blocks gs) (λ k d low. (5, omega arith, refl)))
