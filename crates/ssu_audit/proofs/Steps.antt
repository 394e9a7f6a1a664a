-- One call more, for each word of what the calls say.
use Rattle.std.proofs.Common.{◌≡◌, ℕ, ◌+◌, ◌-◌, ◌^◌, min, true, false, List, [], ◌∷◌, Option, Some, None, refl, ap, ◌∙◌, arith}
use Rattle.std.specs.Option.{option_or}
use Rattle.route_part.specs.Said.{first_said, under}
use Rattle.route_part.proofs.Steps.{first_said-none, first_said-step}
use Rattle.ssu_audit.specs.Calls.{Call, Numbered, carousel, first_in_carousel, first_in_notice, number_after, numbered, says_in_carousel, says_in_notice}

-- a section of the carousel, and one of a notice
abbrev pub in_carousel : List ℕ → Call
in_carousel section = record { notice = false; section = section }

abbrev pub in_notice : List ℕ → Call
in_notice section = record { notice = true; section = section }

abbrev numbered_after : List Call → Call → Numbered
numbered_after earlier call = record { number = number_after earlier; call = call }

pub numbered-step : (call : Call) (earlier : List Call) → numbered (call ∷ earlier) ≡ numbered_after earlier call ∷ numbered earlier
unfolding numbered
numbered-step call earlier = refl

-- ---- what is said first

first-step : {A : Type 0} (says : Numbered → Option A) (call : Call) (earlier : List Call)
    → first_said says (numbered (call ∷ earlier)) ≡ option_or (first_said says (numbered earlier)) (says (numbered_after earlier call))
first-step says call earlier =
    ap (λ (items : List Numbered). first_said says items) (numbered-step call earlier)
    ∙ first_said-step says (numbered_after earlier call) (numbered earlier)

pub first_none : {A : Type 0} (says : List ℕ → Option A) → first_in_carousel says [] ≡ None
unfolding first_in_carousel numbered
first_none says = first_said-none (says_in_carousel says)

-- a section of the carousel speaks under its number, where none spoke before
pub carousel-more : {A : Type 0} (says : List ℕ → Option A) (section : List ℕ) (earlier : List Call)
    → first_in_carousel says (in_carousel section ∷ earlier)
    ≡ option_or (first_in_carousel says earlier) (under (number_after earlier) (says section))
unfolding first_in_carousel
carousel-more says section earlier = first-step (says_in_carousel says) (in_carousel section) earlier

or_none : {A : Type 0} (o : Option A) → option_or o None ≡ o
or_none None = refl
or_none (Some a) = refl

-- and one that says nothing changes nothing
pub carousel-silent : {A : Type 0} (says : List ℕ → Option A) (section : List ℕ) (earlier : List Call) → says section ≡ None
    → first_in_carousel says (in_carousel section ∷ earlier) ≡ first_in_carousel says earlier
carousel-silent {A} says section earlier none =
    carousel-more says section earlier
    ∙ ap (λ (o : Option A). option_or (first_in_carousel says earlier) (under (number_after earlier) o)) none
    ∙ or_none (first_in_carousel says earlier)

pub carousel-notice : {A : Type 0} (says : List ℕ → Option A) (section : List ℕ) (earlier : List Call)
    → first_in_carousel says (in_notice section ∷ earlier) ≡ first_in_carousel says earlier
unfolding first_in_carousel
carousel-notice says section earlier =
    first-step (says_in_carousel says) (in_notice section) earlier ∙ or_none (first_said (says_in_carousel says) (numbered earlier))

pub notice-more : {A : Type 0} (says : List ℕ → Option A) (section : List ℕ) (earlier : List Call)
    → first_in_notice says (in_notice section ∷ earlier)
    ≡ option_or (first_in_notice says earlier) (under (number_after earlier) (says section))
unfolding first_in_notice
notice-more says section earlier = first-step (says_in_notice says) (in_notice section) earlier

pub notice-carousel : {A : Type 0} (says : List ℕ → Option A) (section : List ℕ) (earlier : List Call)
    → first_in_notice says (in_carousel section ∷ earlier) ≡ first_in_notice says earlier
unfolding first_in_notice
notice-carousel says section earlier =
    first-step (says_in_notice says) (in_carousel section) earlier ∙ or_none (first_said (says_in_notice says) (numbered earlier))

-- ---- numbers and sections

-- the next number, which stands still at the end
pub number-step : (call : Call) (earlier : List Call) → number_after (call ∷ earlier) ≡ min (number_after earlier + 1) (2 ^ 64 - 1)
number-step call earlier = omega arith

pub sections-more : (section : List ℕ) (earlier : List Call) → carousel (in_carousel section ∷ earlier) ≡ section ∷ carousel earlier
unfolding carousel
sections-more section earlier = refl

pub sections-notice : (section : List ℕ) (earlier : List Call) → carousel (in_notice section ∷ earlier) ≡ carousel earlier
unfolding carousel
sections-notice section earlier = refl
