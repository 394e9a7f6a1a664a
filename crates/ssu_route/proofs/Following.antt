-- A box that takes up the PIDs after each packet, and what it hears.
use Rattle.std.proofs.Common.{zero, suc, ◌≡◌, ℕ, ◌+◌, List, [], ◌∷◌, ◌++◌, take, map, reverse, Some, arith, sym, ap, refl, ◌∙◌, append-nil}
use Rattle.std.specs.List.{slice_get}
use Rattle.std.proofs.lemmas.List.{reverse-append, map-append}
use Rattle.ts_packet.specs.Packet.{pid_of}
use Rattle.ts_section.specs.Events.{Event, Listen, Feed, Heard, all_heard, heard}
use Rattle.route_tables.specs.Next.{heard_on}
use Rattle.route_tables.specs.Values.{Receiver}
use Rattle.ssu_route.specs.Queries.{followed, heard_by, listened, newest_first, after_all}

-- a section is heard behind those before it
front_more : (xs : List (List ℕ)) (k : ℕ) (x : List ℕ) → slice_get xs k ≡ Some x → take (k + 1) xs ≡ take k xs ++ x ∷ []
front_more [] k x at = cc
front_more (y ∷ ys) zero x at = let same : y ≡ x = cc in ap (λ z. z ∷ []) same
front_more (y ∷ ys) (suc k) x at =
    let more : suc k + 1 ≡ suc (k + 1) = omega arith in
    ap (λ (n : ℕ). take n (y ∷ ys)) more ∙ ap (λ (rest : List (List ℕ)). y ∷ rest) (front_more ys k x at)

pub after_one_more : (pid : ℕ) (sections : List (List ℕ)) (k : ℕ) (section : List ℕ) (before : List Heard) → slice_get sections k ≡ Some section
    → after_all pid (take (k + 1) sections) before ≡ heard_on pid section ∷ after_all pid (take k sections) before
after_one_more pid sections k section before at =
    ap (λ (xs : List (List ℕ)). reverse (map (heard_on pid) xs) ++ before) (front_more sections k section at)
    ∙ ap (λ (xs : List Heard). reverse xs ++ before) (map-append (heard_on pid) (take k sections) (section ∷ []))
    ∙ ap (λ (xs : List Heard). xs ++ before) (reverse-append (map (heard_on pid) (take k sections)) (heard_on pid section ∷ []))

newest_listen : (pids : List ℕ) (events : List Event) → newest_first (Listen pids ∷ events) ≡ newest_first events
unfolding newest_first all_heard heard
newest_listen pids events = ap reverse (append-nil (all_heard events))

newest_feed : (packet : List ℕ) (events : List Event) (each : List (List ℕ)) → each ≡ heard (Feed packet ∷ events)
    → newest_first (Feed packet ∷ events) ≡ after_all (pid_of packet) each (newest_first events)
unfolding newest_first all_heard
newest_feed packet events each is =
    reverse-append (all_heard events) (map (heard_on (pid_of packet)) (heard (Feed packet ∷ events)))
    ∙ ap (λ (sections : List (List ℕ)). after_all (pid_of packet) sections (reverse (all_heard events))) (sym is)

pub heard_more : (me : Receiver) (packet : List ℕ) (ps : List (List ℕ)) (each : List (List ℕ)) → each ≡ heard (Feed packet ∷ followed me ps)
    → heard_by me (packet ∷ ps) ≡ after_all (pid_of packet) each (heard_by me ps)
unfolding heard_by followed
heard_more me packet ps each is =
    newest_listen (listened me (newest_first (Feed packet ∷ followed me ps))) (Feed packet ∷ followed me ps)
    ∙ newest_feed packet (followed me ps) each is

pub followed_more : (me : Receiver) (packet : List ℕ) (ps : List (List ℕ)) (each : List (List ℕ)) → each ≡ heard (Feed packet ∷ followed me ps)
    → followed me (packet ∷ ps) ≡ Listen (listened me (heard_by me (packet ∷ ps))) ∷ Feed packet ∷ followed me ps
unfolding heard_by followed
followed_more me packet ps each is =
    ap (λ (heard : List Heard). Listen (listened me heard) ∷ Feed packet ∷ followed me ps)
    (sym (newest_listen (listened me (newest_first (Feed packet ∷ followed me ps))) (Feed packet ∷ followed me ps)))

pub heard_none : (me : Receiver) → heard_by me [] ≡ []
unfolding heard_by followed newest_first all_heard heard
heard_none me = refl

pub followed_none : (me : Receiver) → followed me [] ≡ Listen (listened me []) ∷ []
unfolding followed newest_first all_heard
followed_none me = refl
