-- The services that are kept: each once, and the first sixteen.
use Rattle.std.proofs.Common.{◌≡◌, ℕ, ◌+◌, Bool, true, false, ◌||◌, if◌then◌else◌, eqb, leb, List, [], ◌∷◌, ◌++◌, length, Option, Some, None, refl, sym, ap, ◌∙◌, append_assoc, arith}
use Rattle.std.specs.List.{list_any}
use Rattle.std.proofs.lemmas.List.{append-nil, length-append}
use Rattle.std.proofs.lemmas.Bool.{eqb-true}
use Rattle.si_desc.specs.declared.linkages.ServiceRef.{ServiceRef}
use Rattle.ts_section.specs.Events.{Heard}
use Rattle.route_tables.specs.Values.{same_service, same_services}
use Rattle.route_tables.specs.Next.{add_linked, add_service, add_services, loop_in, services_after}
use Rattle.route_tables.proofs.Itself.{services_itself}
use Rattle.route_tables.proofs.Lists.{unlike}

-- ---- what is kept only grows at its end

pub record IsGrown (old new : List ServiceRef) : Type 0 where
  pub more : List ServiceRef
  pub parts : new ≡ old ++ more

grown_not : (xs : List ServiceRef) → IsGrown xs xs
grown_not xs = record { more = []; parts = sym (append-nil xs) }

grown_one : (kept : List ServiceRef) (s : ServiceRef) (b : Bool) → IsGrown kept (if b then kept else kept ++ s ∷ [])
grown_one kept s true = grown_not kept
grown_one kept s false = record { more = s ∷ []; parts = refl }

grown_on : (a b c : List ServiceRef) → IsGrown a b → IsGrown b c → IsGrown a c
grown_on a b c g h = record { more = g.more ++ h.more; parts = h.parts ∙ ap (λ (l : List ServiceRef). l ++ h.more) g.parts ∙ append_assoc a g.more h.more }

grown : (kept later : List ServiceRef) → IsGrown kept (add_services kept later)
unfolding add_services
grown kept [] = grown_not kept
grown kept (s ∷ later) =
    grown_on kept (add_service kept s) (add_services (add_service kept s) later)
    (grown_one kept s (leb 16 (length kept) || list_any (same_service s) kept)) (grown (add_service kept s) later)

grown_after : (configured : Option ServiceRef) (oui : ℕ) (item : Heard) (before : List ServiceRef) → IsGrown before (services_after configured oui item before)
grown_after (Some service) oui item before = grown_not before
grown_after None oui item before = by_loop (loop_in item)
  where
    by_loop : (row : Option (List ℕ)) → IsGrown before (add_linked oui row before)
    by_loop None = grown_not before
    by_loop (Some row) = grown before _

-- so that its length tells whether it is the same
by_length : (old new : List ServiceRef) → IsGrown old new → (b : Bool) → eqb (length new) (length old) ≡ b → b ≡ same_services new old
by_length old new g true e =
    let n = eqb-true (length new) (length old) e in
    let l : length new ≡ length old + length g.more = ap length g.parts ∙ length-append old g.more in
    let none : g.more ≡ [] = nothing g.more (omega arith) in
    let same : new ≡ old = g.parts ∙ ap (λ (l : List ServiceRef). old ++ l) none ∙ append-nil old in
    rw same (sym (services_itself old))
  where
    nothing : (l : List ServiceRef) → length l ≡ 0 → l ≡ []
    nothing [] e = refl
    nothing (x ∷ xs) e = absurd (omega arith)
by_length old new g false e = unlike same_service new old (λ n. absurd (grind (arith, n, e)))

pub after_same : (configured : Option ServiceRef) (oui : ℕ) (item : Heard) (before after : List ServiceRef)
    → after ≡ services_after configured oui item before → eqb (length after) (length before) ≡ same_services after before
after_same configured oui item before after e =
    by_length before after (record { more = (grown_after configured oui item before).more; parts = e ∙ (grown_after configured oui item before).parts })
    (eqb (length after) (length before)) refl
