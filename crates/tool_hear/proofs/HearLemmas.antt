-- What is heard and put, packet by packet.
use Rattle.std.proofs.Common.{◌≡◌, ℕ, ◌+◌, ◌<◌, List, [], ◌∷◌, ◌++◌, length, Option, sym, ap, subst, refl, ◌∙◌, append_assoc, append-nil}
use Rattle.std.specs.List.{concat}
use Rattle.ssu_io.specs.Bytes.{Takes, GainsPrefix}
use Rattle.ssu_io.specs.SinkBuffer.{MovesOn}
use Rattle.ts_section.specs.Events.{Event, Listen, Feed, heard, fed, heard_of, hear}
use Rattle.ts_section.specs.Hearing.{Hears}
use Rattle.ts_section.specs.declared.hearer.Hearer.{Hearer}
use Rattle.ts_input.specs.Puts.{PutsPrefix}
use Rattle.ts_input.specs.SoFar.{SoFar}
use Rattle.ts_input.proofs.Pieces.{concat_append}
use Rattle.ts_input.proofs.Runs.{begin, step, step_failed}

fed_more : (earlier : List Event) (ps : List (List ℕ)) (p : List ℕ) → fed earlier (ps ++ p ∷ []) ≡ Feed p ∷ fed earlier ps
unfolding fed
fed_more earlier [] p = refl
fed_more earlier (q ∷ ps) p = fed_more (Feed q ∷ earlier) ps p

heard_of_more : (earlier : List Event) (ps : List (List ℕ)) (p : List ℕ) → heard_of earlier (ps ++ p ∷ []) ≡ heard_of earlier ps ++ heard (Feed p ∷ fed earlier ps)
unfolding fed heard_of
heard_of_more earlier [] p = append-nil (heard (Feed p ∷ earlier))
heard_of_more earlier (q ∷ ps) p =
    let now = heard (Feed q ∷ earlier) in
    ap (λ (rest : List (List ℕ)). now ++ rest) (heard_of_more (Feed q ∷ earlier) ps p)
    ∙ sym (append_assoc now (heard_of (Feed q ∷ earlier) ps) (heard (Feed p ∷ fed (Feed q ∷ earlier) ps)))

-- the calls after these packets, where this PID is listened to from the first one on
pub calls : ℕ → List (List ℕ) → List Event
calls pid ps = fed (Listen (pid ∷ []) ∷ []) ps

calls_none : (pid : ℕ) → calls pid [] ≡ Listen (pid ∷ []) ∷ []
unfolding calls fed
calls_none pid = refl

calls_more : (pid : ℕ) (ps : List (List ℕ)) (p : List ℕ) → calls pid (ps ++ p ∷ []) ≡ Feed p ∷ calls pid ps
unfolding calls
calls_more pid ps p = fed_more (Listen (pid ∷ []) ∷ []) ps p

hear_none : (pid : ℕ) → hear pid [] ≡ []
unfolding hear heard_of
hear_none pid = refl

hear_more : (pid : ℕ) (ps : List (List ℕ)) (p : List ℕ) → hear pid (ps ++ p ∷ []) ≡ hear pid ps ++ concat (heard (Feed p ∷ calls pid ps))
unfolding hear calls
hear_more pid ps p =
    let first = Listen (pid ∷ []) ∷ [] in
    ap concat (heard_of_more first ps p) ∙ concat_append (heard_of first ps) (heard (Feed p ∷ fed first ps))

-- What is kept stands for these packets.
abbrev pub StandsFor : ℕ → Hearer → List (List ℕ) → Type 0
StandsFor pid hearer ps = Hears hearer (calls pid ps)

-- So many packets were taken. What is heard in them went to the output or waits, and the hearer stands for them.
abbrev pub HeardSoFar : (pid count : ℕ) (hearer : Hearer) (left left_now got got_now : Option (List ℕ)) (waiting : List ℕ) → Type 0
HeardSoFar pid count hearer left left_now got got_now waiting = SoFar (hear pid) (StandsFor pid hearer) count left left_now got got_now waiting

pub heard_begin : (pid : ℕ) (hearer : Hearer) (left got : Option (List ℕ)) (waiting : List ℕ)
    → waiting ≡ [] → Hears hearer (Listen (pid ∷ []) ∷ []) → HeardSoFar pid 0 hearer left left got got waiting
heard_begin pid hearer left got waiting none stands =
    begin (hear pid) (StandsFor pid hearer) left got waiting none (hear_none pid) (subst (Hears hearer) (sym (calls_none pid)) stands)

-- what a packet adds
more_heard : (pid : ℕ) (before : Hearer) (packet : List ℕ) (each : List (List ℕ))
    → ((events : List Event) → Hears before events → each ≡ heard (Feed packet ∷ events))
    → (ps : List (List ℕ)) → Hears before (calls pid ps) → hear pid (ps ++ packet ∷ []) ≡ hear pid ps ++ concat each
more_heard pid before packet each hears ps hearing =
    hear_more pid ps packet
    ∙ ap (λ (sections : List (List ℕ)). hear pid ps ++ concat sections) (sym (hears (calls pid ps) hearing))

pub heard_step : (pid count : ℕ) (before after : Hearer) (left left_now left_then got got_now got_then : Option (List ℕ)) (waited waiting packet : List ℕ) (each : List (List ℕ))
    → HeardSoFar pid count before left left_now got got_now waited
    → Takes left_now left_then packet → length packet ≡ 188
    → ((events : List Event) → Hears before events → Hears after (Feed packet ∷ events))
    → ((events : List Event) → Hears before events → each ≡ heard (Feed packet ∷ events))
    → MovesOn got_now got_then waited (concat each) waiting
    → HeardSoFar pid (count + 1) after left left_then got got_then waiting
heard_step pid count before after left left_now left_then got got_now got_then waited waiting packet each sofar takes one stands hears moves =
    step (hear pid) (StandsFor pid before) (StandsFor pid after) count left left_now left_then got got_now got_then waited waiting packet (concat each)
    sofar takes one
    (λ ps many hearing. subst (Hears after) (sym (calls_more pid ps packet)) (stands (calls pid ps) hearing))
    (λ ps many hearing. more_heard pid before packet each hears ps hearing)
    moves

-- A write failed while the sections of a packet were put.
pub heard_step_failed : (pid count : ℕ) (before : Hearer) (left left_now left_then got got_now got_then : Option (List ℕ)) (waited packet : List ℕ) (each : List (List ℕ))
    → HeardSoFar pid count before left left_now got got_now waited
    → Takes left_now left_then packet → length packet ≡ 188
    → ((events : List Event) → Hears before events → each ≡ heard (Feed packet ∷ events))
    → GainsPrefix got_now got_then (waited ++ concat each)
    → count < 16777216
    → PutsPrefix (hear pid) left left_then got got_then
heard_step_failed pid count before left left_now left_then got got_now got_then waited packet each sofar takes one hears failed few =
    step_failed (hear pid) (StandsFor pid before) count left left_now left_then got got_now got_then waited packet (concat each)
    sofar takes one (λ ps many hearing. more_heard pid before packet each hears ps hearing) failed few
