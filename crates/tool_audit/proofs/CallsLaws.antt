-- What one section more, and one packet more, add to the calls.
use Rattle.std.proofs.Common.{◌≡◌, ℕ, ◌+◌, Bool, not, eqb, List, [], ◌∷◌, ◌++◌, map, reverse, take, drop, zero, suc, Option, Some, None, refl, sym, ap, subst, ◌∙◌, append_assoc, arith}
use Rattle.std.specs.List.{slice_get}
use Rattle.std.specs.Option.{option_or}
use Rattle.std.proofs.lemmas.List.{map-append, reverse-append, take-append-drop}
use Rattle.audit_answer.specs.declared.answers.AuditNo.{AuditNo}
use Rattle.ssu_audit.specs.Calls.{Call}
use Rattle.ssu_audit.specs.Hearing.{IsOpen, answer_to}
use Rattle.tool_audit.specs.Calls.{call_of, calls_of, first_fact, pids_of}
use Rattle.tool_audit.specs.Comes.{HasFact}
use Rattle.tool_audit.specs.Following.{as_call, onto}
use Rattle.ts_packet.specs.Packet.{pid_of}
use Rattle.ts_section.specs.Events.{Event, Feed, Heard, Listen, all_heard, fed, heard, with_pid}
use Rattle.ts_section.proofs.HearSteps.{fed-push}

-- ---- sections that come one after the other

taken_more : (each : List (List ℕ)) (k : ℕ) (x : List ℕ) → slice_get each k ≡ Some x → take (suc k) each ≡ take k each ++ x ∷ []
taken_more [] k x e = absurd cc
taken_more (y ∷ ys) zero x e = let same : y ≡ x = cc in ap (λ (z : List ℕ). z ∷ []) same
taken_more (y ∷ ys) (suc k) x e = ap (λ (zs : List (List ℕ)). y ∷ zs) (taken_more ys k x e)

-- the calls so far, and one more
pub onto_more : (notice : Bool) (each : List (List ℕ)) (calls : List Call) (k : ℕ) (x : List ℕ) → slice_get each k ≡ Some x
    → onto notice (take (k + 1) each) calls ≡ as_call notice x ∷ onto notice (take k each) calls
onto_more notice each calls k x e =
    let next : k + 1 ≡ suc k = omega arith in
    let call : List ℕ → Call = as_call notice in
    ap (λ (n : ℕ). onto notice (take n each) calls) next
    ∙ ap (λ (zs : List (List ℕ)). onto notice zs calls) (taken_more each k x e)
    ∙ ap (λ (cs : List Call). reverse cs ++ calls) (map-append call (take k each) (x ∷ []))
    ∙ ap (λ (cs : List Call). cs ++ calls) (reverse-append (map call (take k each)) (call x ∷ []))

-- the calls so far, and the others
onto_all : (notice : Bool) (each : List (List ℕ)) (calls : List Call) (k : ℕ)
    → onto notice each calls ≡ reverse (map (as_call notice) (drop k each)) ++ onto notice (take k each) calls
onto_all notice each calls k =
    let call : List ℕ → Call = as_call notice in
    ap (λ (zs : List (List ℕ)). onto notice zs calls) (sym (take-append-drop k each))
    ∙ ap (λ (cs : List Call). reverse cs ++ calls) (map-append call (take k each) (drop k each))
    ∙ ap (λ (cs : List Call). cs ++ calls) (reverse-append (map call (take k each)) (map call (drop k each)))
    ∙ append_assoc (reverse (map call (drop k each))) (reverse (map call (take k each))) calls

-- ---- the first fact

pub open_none : (calls : List Call) → IsOpen calls → first_fact calls ≡ None
unfolding IsOpen first_fact
open_none [] undecided = refl
open_none (call ∷ earlier) undecided =
    ap (λ (o : Option AuditNo). option_or o (answer_to earlier call)) (open_none earlier undecided.1) ∙ undecided.0

fact_now : (call : Call) (earlier : List Call) (why : AuditNo) → IsOpen earlier → Some why ≡ answer_to earlier call → HasFact why (call ∷ earlier)
unfolding first_fact
fact_now call earlier why undecided is =
    ap (λ (o : Option AuditNo). option_or o (answer_to earlier call)) (open_none earlier undecided) ∙ sym is

fact_stays : (later earlier : List Call) (why : AuditNo) → HasFact why earlier → HasFact why (later ++ earlier)
unfolding first_fact
fact_stays [] earlier why fact = fact
fact_stays (call ∷ later) earlier why fact =
    ap (λ (o : Option AuditNo). option_or o (answer_to (later ++ earlier) call)) (fact_stays later earlier why fact)

-- A fact against a section is the first of all sections of its packet.
pub fact_of_packet : (notice : Bool) (each : List (List ℕ)) (calls : List Call) (k : ℕ) (x : List ℕ) (why : AuditNo) → slice_get each k ≡ Some x
    → IsOpen (onto notice (take k each) calls) → Some why ≡ answer_to (onto notice (take k each) calls) (as_call notice x) → HasFact why (onto notice each calls)
fact_of_packet notice each calls k x why at undecided is =
    let so_far : List Call = onto notice (take k each) calls in
    let here : HasFact why (onto notice (take (k + 1) each) calls) =
    subst (HasFact why) (sym (onto_more notice each calls k x at)) (fact_now (as_call notice x) so_far why undecided is) in
    subst (HasFact why) (sym (onto_all notice each calls (k + 1)))
    (fact_stays (reverse (map (as_call notice) (drop (k + 1) each))) (onto notice (take (k + 1) each) calls) why here)

-- ---- packets

abbrev pub listening : ℕ → Option ℕ → List Event
listening pid notice = Listen (pids_of pid notice) ∷ []

pub calls_none : (pid : ℕ) (notice : Option ℕ) → calls_of pid notice [] ≡ []
unfolding calls_of fed all_heard
calls_none pid notice = refl

pub fed_none : (pid : ℕ) (notice : Option ℕ) → fed (listening pid notice) [] ≡ listening pid notice
unfolding fed
fed_none pid notice = refl

-- Is the packet one of the notice?
abbrev pub is_notice : ℕ → List ℕ → Bool
is_notice pid packet = not (eqb (pid_of packet) pid)

heard_as : (pid : ℕ) (packet : List ℕ) (sections : List (List ℕ))
    → map (call_of pid) (with_pid (Feed packet) sections) ≡ map (as_call (is_notice pid packet)) sections
heard_as pid packet [] = refl
heard_as pid packet (s ∷ ss) = ap (λ (cs : List Call). as_call (is_notice pid packet) s ∷ cs) (heard_as pid packet ss)

pub calls_more : (pid : ℕ) (notice : Option ℕ) (ps : List (List ℕ)) (packet : List ℕ)
    → calls_of pid notice (ps ++ packet ∷ [])
    ≡ onto (is_notice pid packet) (heard (Feed packet ∷ fed (listening pid notice) ps)) (calls_of pid notice ps)
unfolding calls_of all_heard
calls_more pid notice ps packet =
    let events : List Event = fed (listening pid notice) ps in
    let sections : List (List ℕ) = heard (Feed packet ∷ events) in
    let call : Heard → Call = call_of pid in
    ap (λ (es : List Event). reverse (map call (all_heard es))) (fed-push (listening pid notice) ps packet)
    ∙ ap reverse (map-append call (all_heard events) (with_pid (Feed packet) sections))
    ∙ reverse-append (map call (all_heard events)) (map call (with_pid (Feed packet) sections))
    ∙ ap (λ (cs : List Call). reverse cs ++ reverse (map call (all_heard events))) (heard_as pid packet sections)
