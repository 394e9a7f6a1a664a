-- The first sixteen services, each once: one section more adds those that it names.
use Rattle.std.proofs.Common.{◌≡◌, ℕ, ◌<◌, ◌≤◌, Bool, true, false, ◌||◌, not, if◌then◌else◌, eqb, leb, List, [], ◌∷◌, ◌++◌, length, take, Option, Some, None, refl, sym, ap, ◌∙◌, append_assoc, arith, inl, inr}
use Rattle.std.specs.Prelude.{◌⊎◌}
use Rattle.std.specs.List.{filter, list_any}
use Rattle.std.proofs.lemmas.List.{append-nil, length-append, length-take-le, take-append-le, take_all}
use Rattle.std.proofs.lemmas.List.Elements.{filter-append}
use Rattle.std.proofs.lemmas.Bool.Decides.{nat_tests}
use Rattle.si_desc.specs.declared.linkages.ServiceRef.{ServiceRef}
use Rattle.si_table.specs.Tables.{NetFields, net}
use Rattle.ts_section.specs.Events.{Heard}
use Rattle.route_tables.specs.Values.{Receiver, same_service}
use Rattle.route_tables.specs.Said.{is_network_table, linked_services, services_in, services_said}
use Rattle.route_tables.specs.Levels.{all_services, each_once, services_of, level_1}
use Rattle.route_tables.specs.Next.{add_linked, add_service, add_services, first_loop, services_after}
use Rattle.route_tables.proofs.Same.{service_sound}

abbrev to : ServiceRef → ServiceRef → Bool
to y x = same_service x y

-- ---- one service more

-- a list is grown by a service, unless it is there
abbrev grown : Bool → List ServiceRef → ServiceRef → List ServiceRef
grown is_there xs y = if is_there then xs else xs ++ y ∷ []

once_by : (x y : ServiceRef) (kept : List ServiceRef) (here later : Bool) → same_service x y ≡ here
    → x ∷ filter (λ t. not (same_service x t)) (grown later kept y)
    ≡ grown (here || later) (x ∷ filter (λ t. not (same_service x t)) kept) y
once_by x y kept true true e = refl
once_by x y kept false true e = refl
once_by x y kept true false e =
    ap (λ (l : List ServiceRef). x ∷ l) (filter-append (λ t. not (same_service x t)) kept (y ∷ [])
    ∙ rw e (append-nil (filter (λ t. not (same_service x t)) kept)))
once_by x y kept false false e =
    ap (λ (l : List ServiceRef). x ∷ l) (filter-append (λ t. not (same_service x t)) kept (y ∷ []) ∙ rw e refl)

once_more : (xs : List ServiceRef) (y : ServiceRef) → each_once (xs ++ y ∷ []) ≡ grown (list_any (to y) xs) (each_once xs) y
unfolding each_once
once_more [] y = refl
once_more (x ∷ xs) y =
    ap (λ (l : List ServiceRef). x ∷ filter (λ t. not (same_service x t)) l) (once_more xs y)
    ∙ once_by x y (each_once xs) (same_service x y) (list_any (to y) xs) refl

-- ---- what is there is there once

unlike_by : (x t : ServiceRef) (q : ServiceRef → Bool) (ts : List ServiceRef) (b : Bool) → same_service x t ≡ b → q x ≡ false
    → list_any q (filter (λ t. not (same_service x t)) ts) ≡ list_any q ts
    → list_any q (if not b then t ∷ filter (λ t. not (same_service x t)) ts else filter (λ t. not (same_service x t)) ts) ≡ (q t || list_any q ts)
unlike_by x t q ts true e none h =
    let same : x ≡ t = service_sound x t e in
    let no : q t ≡ false = ap q (sym same) ∙ none in
    rw no h
unlike_by x t q ts false e none h = ap (λ b. q t || b) h

unlike : (x : ServiceRef) (q : ServiceRef → Bool) (ts : List ServiceRef) → q x ≡ false
    → list_any q (filter (λ t. not (same_service x t)) ts) ≡ list_any q ts
unlike x q [] none = refl
unlike x q (t ∷ ts) none = unlike_by x t q ts (same_service x t) refl none (unlike x q ts none)

first_or : (x : ServiceRef) (q : ServiceRef → Bool) (ts us : List ServiceRef) (b : Bool) → q x ≡ b → list_any q ts ≡ list_any q us
    → (b || list_any q (filter (λ t. not (same_service x t)) ts)) ≡ (b || list_any q us)
first_or x q ts us true e h = refl
first_or x q ts us false e h = unlike x q ts e ∙ h

any_once : (q : ServiceRef → Bool) (xs : List ServiceRef) → list_any q (each_once xs) ≡ list_any q xs
unfolding each_once
any_once q [] = refl
any_once q (x ∷ xs) = first_or x q (each_once xs) xs (q x) refl (any_once q xs)

-- ---- either way round

eqb_turns : (m n : ℕ) → (eqb m n) ≡ (eqb n m)
eqb_turns m n = grind (arith, nat_tests)

same_turns : (s t : ServiceRef) → same_service s t ≡ same_service t s
same_turns s t = rw (eqb_turns s.ts t.ts, eqb_turns s.network t.network, eqb_turns s.service t.service) refl

any_turns : (y : ServiceRef) (xs : List ServiceRef) → list_any (same_service y) xs ≡ list_any (to y) xs
any_turns y [] = refl
any_turns y (x ∷ xs) = rw (same_turns y x, any_turns y xs) refl

-- ---- sixteen at most

add_full : (kept : List ServiceRef) (y : ServiceRef) → 16 ≤ length kept → add_service kept y ≡ kept
add_full kept y l = rw (let e : leb 16 (length kept) ≡ true = grind (arith, nat_tests) in e) refl

add_room : (kept : List ServiceRef) (y : ServiceRef) → length kept < 16 → add_service kept y ≡ grown (list_any (to y) kept) kept y
add_room kept y l = rw (let e : leb 16 (length kept) ≡ false = grind (arith, nat_tests) in e, any_turns y kept) refl

few_or_many : (n : ℕ) → (n < 16) ⊎ (16 ≤ n)
few_or_many n = grind arith

take_grown_full : (kept : List ServiceRef) (y : ServiceRef) (b : Bool) → 16 ≤ length kept → take 16 (grown b kept y) ≡ take 16 kept
take_grown_full kept y true l = refl
take_grown_full kept y false l = take-append-le 16 kept (y ∷ []) l

take_grown_room : (kept : List ServiceRef) (y : ServiceRef) (b : Bool) → length kept < 16 → take 16 (grown b kept y) ≡ grown b kept y
take_grown_room kept y true l = take_all 16 kept (omega arith)
take_grown_room kept y false l = take_all 16 (kept ++ y ∷ []) (let e = length-append kept (y ∷ []) in omega arith)

length_full : (kept : List ServiceRef) → 16 ≤ length kept → 16 ≤ length (take 16 kept)
length_full kept l = let e = length-take-le 16 kept l in omega arith

take_more : (kept : List ServiceRef) (y : ServiceRef) (b : Bool) → b ≡ list_any (to y) kept → (length kept < 16) ⊎ (16 ≤ length kept)
    → take 16 (grown b kept y) ≡ add_service (take 16 kept) y
take_more kept y b e (inl few) =
    take_grown_room kept y b few ∙ ap (λ b. grown b kept y) e ∙ sym (add_room kept y few) ∙ ap (λ (l : List ServiceRef). add_service l y) (sym (take_all 16 kept (omega arith)))
take_more kept y b e (inr many) = take_grown_full kept y b many ∙ sym (add_full (take 16 kept) y (length_full kept many))

one_more : (xs : List ServiceRef) (y : ServiceRef) → take 16 (each_once (xs ++ y ∷ [])) ≡ add_service (take 16 (each_once xs)) y
one_more xs y =
    ap (take 16) (once_more xs y)
    ∙ take_more (each_once xs) y (list_any (to y) xs) (sym (any_once (to y) xs)) (few_or_many (length (each_once xs)))

several_more : (xs ys : List ServiceRef) → take 16 (each_once (xs ++ ys)) ≡ add_services (take 16 (each_once xs)) ys
unfolding add_services
several_more xs [] = ap (λ (l : List ServiceRef). take 16 (each_once l)) (append-nil xs)
several_more xs (y ∷ ys) =
    ap (λ (l : List ServiceRef). take 16 (each_once l)) (sym (append_assoc xs (y ∷ []) ys))
    ∙ several_more (xs ++ y ∷ []) ys
    ∙ ap (λ (l : List ServiceRef). add_services l ys) (one_more xs y)

-- ---- one section more

linked_in : (oui : ℕ) (kept : List ServiceRef) (n : NetFields) (b : Bool)
    → add_services kept (if b then linked_services oui n.info else []) ≡ add_linked oui (if b then Some n.info else None) kept
unfolding add_services
linked_in oui kept n true = refl
linked_in oui kept n false = refl

by_table : (oui pid : ℕ) (kept : List ServiceRef) (o : Option NetFields) → add_services kept (services_in oui pid o) ≡ add_linked oui (first_loop pid o) kept
unfolding add_services
by_table oui pid kept None = refl
by_table oui pid kept (Some n) = linked_in oui kept n (is_network_table pid n)

of_step : (configured : Option ServiceRef) (oui : ℕ) (item : Heard) (earlier : List Heard)
    → services_of configured oui (item ∷ earlier) ≡ services_after configured oui item (services_of configured oui earlier)
unfolding all_services services_said
of_step (Some service) oui item earlier = refl
of_step None oui item earlier =
    several_more (all_services oui earlier) (services_said oui item)
    ∙ by_table oui item.pid (take 16 (each_once (all_services oui earlier))) (net.of item.section)

pub level_1-step : (me : Receiver) (item : Heard) (earlier : List Heard)
    → level_1 me (item ∷ earlier) ≡ services_after me.file.service me.file.id.oui item (level_1 me earlier)
unfolding level_1
level_1-step me item earlier = of_step me.file.service me.file.id.oui item earlier
