-- What the laws of parts ask of the last two levels.
use Rattle.std.proofs.Common.{◌≡◌, Bool, true, false, List, [], ◌∷◌, Option, Some, None, refl, inl, inr}
use Rattle.std.specs.Prelude.{◌⊎◌}
use Rattle.route_part.specs.Part.{since}
use Rattle.route_part.proofs.Steps.{since-changes, last_said-none}
use Rattle.ts_section.specs.Events.{Heard}
use Rattle.route_tables.specs.Values.{Receiver, CarouselFound, same_carousel}
use Rattle.route_tables.specs.Levels.{level_5}
use Rattle.ssu_route.specs.Offers.{offers_said}
use Rattle.ssu_route.specs.Choosing.{level_6, offers_by}

-- Where the carousel changes there is no group, so that the groups of a carousel are looked at under its PID.
pub carousel_stays : (me : Receiver) (item : Heard) (earlier : List Heard) →
    (level_6 me (item ∷ earlier) ≡ []) ⊎ (same_carousel (level_5 me (item ∷ earlier)) (level_5 me earlier) ≡ true)
unfolding level_6
carousel_stays me item earlier = by_test (same_carousel (level_5 me (item ∷ earlier)) (level_5 me earlier)) refl
  where
    none_of : (c : Option CarouselFound) (part : List Heard) → part ≡ [] → offers_by me c part ≡ []
    none_of None part e = refl
    none_of (Some c) part e = rw (e, last_said-none (offers_said me c)) refl

    by_test : (b : Bool) → same_carousel (level_5 me (item ∷ earlier)) (level_5 me earlier) ≡ b →
        (level_6 me (item ∷ earlier) ≡ []) ⊎ (same_carousel (level_5 me (item ∷ earlier)) (level_5 me earlier) ≡ true)
    by_test true e = inr e
    by_test false e = inl (none_of (level_5 me (item ∷ earlier)) (since same_carousel (level_5 me) (item ∷ earlier)) (since-changes same_carousel (level_5 me) item earlier e))
