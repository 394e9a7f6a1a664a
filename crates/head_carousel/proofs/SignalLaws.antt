-- How many sections there are before the data blocks.
use Rattle.std.proofs.Common.{◌≡◌, ℕ, ◌+◌, List, [], ◌∷◌, ◌++◌, length, refl, ap, ◌∙◌, append_assoc, arith}
use Rattle.std.specs.Prelude.{Option, Some, None, map, is_some, cond, Bool}
use Rattle.std.proofs.lemmas.List.{length-append, length-map}
use Rattle.head_plan.specs.Plans.{PlanData}
use Rattle.head_carousel.specs.Control.{dii_section}
use Rattle.head_carousel.specs.GroupFiles.{GroupFiles}
use Rattle.head_carousel.specs.Blocks.{all_blocks}
use Rattle.head_carousel.specs.Sections.{all_sections, block_period, control_messages, section_count, signalling}
use Rattle.head_carousel.specs.Signals.{bats, networks, notices, notices_on, programs, timed}

abbrev pub one_if : Bool → ℕ
one_if b = cond b 1 0

bats_length : (p : PlanData) (o : Option ℕ) → length (bats p o) ≡ one_if (is_some o)
bats_length p None = refl
bats_length p (Some id) = refl

notices_length : (p : PlanData) (o : Option ℕ) → length (notices_on p o) ≡ one_if (is_some o)
notices_length p None = refl
notices_length p (Some pid) = refl

pub signalling_length : (p : PlanData) (gs : List GroupFiles) → length (signalling p gs) ≡ 5 + one_if (is_some p.bouquet) + one_if (is_some p.notice_pid) + length gs
unfolding signalling networks programs notices
signalling_length p gs =
    let a = bats_length p p.bouquet in
    let b = notices_length p p.notice_pid in
    let m = length-map gs (λ g. timed p.data_pid p.signal_period (dii_section g)) in
    omega (arith, length-append (networks p) (programs p ++ (notices p ++ control_messages p gs)), length-append (notices p) (control_messages p gs))

pub three : {X : Type 0} (old a b c : List X) (x y z : X) → a ≡ old ++ x ∷ [] → b ≡ a ++ y ∷ [] → c ≡ b ++ z ∷ [] → c ≡ old ++ (x ∷ y ∷ z ∷ [])
three {X} old a b c x y z e f g =
    rw (g, f, e, append_assoc (old ++ x ∷ []) (y ∷ []) (z ∷ []), append_assoc old (x ∷ []) (y ∷ z ∷ [])) refl

pub all_length : (p : PlanData) (gs : List GroupFiles) → length (all_sections p gs) ≡ section_count p gs
all_length p gs =
    let t = timed p.data_pid (block_period (section_count p gs)) in
    length-append (signalling p gs) (map t (all_blocks gs)) ∙ ap (λ (n : ℕ). length (signalling p gs) + n) (length-map (all_blocks gs) t)
