-- What is heard of one packet more.
use Rattle.std.proofs.Common.{◌≡◌, ℕ, List, [], ◌∷◌, ◌++◌, refl, ap, sym, ◌∙◌, append_assoc, append-nil}
use Rattle.std.specs.List.{concat}
use Rattle.std.proofs.lemmas.List.Folds.{concat-append}
use Rattle.ts_section.specs.Events.{Event, Listen, Feed, heard, heard_of, fed, hear}

pub fed-push : (events : List Event) (packets : List (List ℕ)) (packet : List ℕ) → fed events (packets ++ packet ∷ []) ≡ Feed packet ∷ fed events packets
unfolding fed
fed-push events [] packet = refl
fed-push events (first ∷ packets) packet = fed-push (Feed first ∷ events) packets packet

pub heard_of-push : (events : List Event) (packets : List (List ℕ)) (packet : List ℕ)
    → heard_of events (packets ++ packet ∷ []) ≡ heard_of events packets ++ heard (Feed packet ∷ fed events packets)
unfolding heard_of fed
heard_of-push events [] packet = append-nil (heard (Feed packet ∷ events))
heard_of-push events (first ∷ packets) packet =
    ap (λ found. heard (Feed first ∷ events) ++ found) (heard_of-push (Feed first ∷ events) packets packet)
    ∙ sym (append_assoc (heard (Feed first ∷ events)) (heard_of (Feed first ∷ events) packets) (heard (Feed packet ∷ fed (Feed first ∷ events) packets)))

-- one packet more of one PID
pub hear-push : (pid : ℕ) (packets : List (List ℕ)) (packet : List ℕ)
    → hear pid (packets ++ packet ∷ []) ≡ hear pid packets ++ concat (heard (Feed packet ∷ fed (Listen (pid ∷ []) ∷ []) packets))
unfolding hear
hear-push pid packets packet =
    ap concat (heard_of-push (Listen (pid ∷ []) ∷ []) packets packet)
    ∙ concat-append (heard_of (Listen (pid ∷ []) ∷ []) packets) (heard (Feed packet ∷ fed (Listen (pid ∷ []) ∷ []) packets))

pub hear-nil : (pid : ℕ) → hear pid [] ≡ []
unfolding hear heard_of
hear-nil pid = refl
