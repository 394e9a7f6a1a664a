-- The descriptors of a tag, and the first of them.
use Rattle.std.proofs.Common.{◌≡◌, ℕ, Bool, true, false, cond, eqb, List, [], ◌∷◌, Option, Some, None, refl, ◌∙◌, sym, ◌+◌, ◌*◌, length, get_or, arith}
use Rattle.std.specs.List.{filter, find}
use Rattle.std.specs.Option.{option_map}
use Rattle.si_desc.specs.Descriptors.{DescFields, body_of, first_body, whole_descriptors}
use Rattle.wire.specs.Number.{number_of}
use Rattle.wire.specs.Read.{Reads}
use Rattle.ssu_unt.specs.Targeting.{counting, first_of, or_else, with_tag}

-- the first that passes is the first of those that pass
first_passing : (p : DescFields → Bool) (d : DescFields) (ds : List DescFields) (b : Bool) → first_of (filter p ds) ≡ option_map body_of (find p ds) → first_of (cond b (d ∷ filter p ds) (filter p ds)) ≡ option_map body_of (cond b (Some d) (find p ds))
first_passing p d ds true e = refl
first_passing p d ds false e = e

first_of-filter : (p : DescFields → Bool) (ds : List DescFields) → first_of (filter p ds) ≡ option_map body_of (find p ds)
first_of-filter p [] = refl
first_of-filter p (d ∷ ds) = first_passing p d ds (p d) (first_of-filter p ds)

pub first_of-with_tag : (tag : ℕ) (bytes : List ℕ) → first_of (with_tag tag bytes) ≡ first_body tag bytes
unfolding first_body
first_of-with_tag tag bytes = first_of-filter (λ d. eqb d.tag tag) (whole_descriptors bytes)

or_else_some : (ds others : List DescFields) (body : List ℕ) → first_of ds ≡ Some body → ds ≡ or_else ds others
or_else_some [] others body e = absurd cc
or_else_some (d ∷ ds) others body e = refl

or_else_none : (ds others : List DescFields) → first_of ds ≡ None → others ≡ or_else ds others
or_else_none [] others e = refl
or_else_none (d ∷ ds) others e = absurd cc

-- the operational loop, where it has one
pub own_loop : (tag : ℕ) (common operational : List ℕ) (body : List ℕ) → first_body tag operational ≡ Some body → with_tag tag operational ≡ counting tag common operational
unfolding counting
own_loop tag common operational body e = or_else_some (with_tag tag operational) (with_tag tag common) body (first_of-with_tag tag operational ∙ e)

-- and else the common one
pub common_loop : (tag : ℕ) (common operational : List ℕ) → first_body tag operational ≡ None → with_tag tag common ≡ counting tag common operational
unfolding counting
common_loop tag common operational e = or_else_none (with_tag tag operational) (with_tag tag common) (first_of-with_tag tag operational ∙ e)

-- what was answered is what was read
pub reads_same : {A : Type 0} (result read : Option A) → Reads (λ x. x) result read → result ≡ read
reads_same None read e = sym e
reads_same (Some x) read e = sym e

-- the number of an address
pub mac_number : (p : List ℕ) → length p ≡ 6
    → 0 + get_or p 0 0 * 1099511627776 + get_or p 1 0 * 4294967296 + get_or p 2 0 * 16777216 + get_or p 3 0 * 65536 + get_or p 4 0 * 256 + get_or p 5 0 ≡ number_of p
mac_number (a ∷ b ∷ c ∷ d ∷ e ∷ f ∷ []) h = omega arith
mac_number p h = absurd (omega arith)
