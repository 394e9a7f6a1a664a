-- What sections carry of a group, over places of it that were kept. Lists of sections have the newest first.
use Rattle.std.specs.Prelude.{◌≡◌, ℕ, zero, suc, Bool, true, false, not, ◌==◌, List, []}
use Rattle.std.specs.Prelude.{◌++◌, length, take, drop, Option, Some, None, is_some, unwrap_or}
use Rattle.std.specs.Prelude.{if◌then◌else◌}
use Rattle.std.specs.List.{find}
use Rattle.std.specs.Option.{option_and_then, option_or}
use Rattle.ts_crc.specs.Crc.{crc_of}
use Rattle.route_part.specs.Said.{first_said}
use Rattle.dsmcc_msg.specs.Block.{DdbFields, ddb}
use Rattle.ssu_group.specs.declared.module_plan.ModulePlan.{ModulePlan}
use Rattle.ssu_group.specs.declared.places.Place.{Place}
use Rattle.ssu_group.specs.declared.group_plan.GroupPlan.{GroupPlan}
use Rattle.ssu_group.specs.declared.wrong.Wrong.{Wrong}
use Rattle.ssu_group.specs.Place.{place_at, place_of}
use Rattle.ssu_group.specs.Map.{missing_below}

abbrev pub bytes_at : ℕ → DdbFields → Place → Option (List ℕ)
bytes_at number d p = if p.number == number then Some d.bytes else None

-- the bytes that a section brings for the place of that number
unfoldable pub brings : GroupPlan → ℕ → List ℕ → Option (List ℕ)
brings plan number section =
    option_and_then (λ d. option_and_then (bytes_at number d) (place_of plan d)) (ddb.of section)

-- The first DDB that fills a place gives its bytes.
unfoldable pub filling : GroupPlan → List (List ℕ) → ℕ → Option (List ℕ)
filling plan sections number = first_said (brings plan number) sections

-- the bytes that places have, by their numbers: none where a place is neither kept nor filled
abbrev pub Fills : Type 0
Fills = ℕ → Option (List ℕ)

abbrev pub nothing_kept : Fills
nothing_kept n = None

-- Kept bytes stand. A place that is not kept has those of the first DDB that fills it.
abbrev pub filling_over : Fills → GroupPlan → List (List ℕ) → Fills
filling_over kept plan sections n = option_or (kept n) (filling plan sections n)

-- with one section more, which is heard behind the others
abbrev pub with_section : GroupPlan → List ℕ → Fills → Fills
with_section plan section fills n = option_or (fills n) (brings plan n section)

-- The bytes of each place have its length.
abbrev pub HaveLengths : GroupPlan → Fills → Type 0
HaveLengths plan fills =
    (n : ℕ) (p : Place) (b : List ℕ) → place_at plan.block_size plan.modules.items n ≡ Some p → fills n ≡ Some b
    → length b ≡ p.len

-- how many places are neither kept nor filled
abbrev pub missing_places : GroupPlan → Fills → ℕ
missing_places plan fills = missing_below (λ n. is_some (fills n)) plan.places

-- the texts of the first n numbers, joined
unfoldable pub joined : (ℕ → List ℕ) → ℕ → List ℕ
joined text zero = []
joined text (suc n) = joined text n ++ text n

-- the image that the places join to
abbrev pub carried_image : GroupPlan → Fills → List ℕ
carried_image plan fills = joined (λ n. unwrap_or (fills n) []) plan.places

-- the bytes of a module in the image
abbrev pub module_bytes : List ℕ → ModulePlan → List ℕ
module_bytes image m = take m.size (drop m.at image)

abbrev pub crc_is : List ℕ → Option ℕ → Bool
crc_is bytes None = true
crc_is bytes (Some crc) = crc_of bytes == crc

-- Has the module the CRC that its descriptor gives, if it has one?
abbrev pub is_right : List ℕ → ModulePlan → Bool
is_right image m = crc_is (module_bytes image m) m.crc

abbrev pub is_wrong : List ℕ → ModulePlan → Bool
is_wrong image m = not (is_right image m)

-- the first module, in the order of the DII, that has not the CRC of its descriptor
unfoldable pub wrong_module : List ModulePlan → List ℕ → Option ModulePlan
wrong_module modules image = find (is_wrong image) modules

-- This module has not the CRC that its descriptor gives.
pub record IsWrong (image : List ℕ) (m : ModulePlan) (wrong : Wrong) : Type 0 where
  pub own_id : wrong.id ≡ m.id
  pub wanted : m.crc ≡ Some wrong.want
  pub has : wrong.found ≡ crc_of (module_bytes image m)
  pub differs : is_right image m ≡ false

-- Sections and kept places carry the group whole, as this image: each place is kept or filled, the image joins the kept bytes
-- and else those of the first DDB that fills the place, and each module has the CRC that its descriptor gives.
pub record CarriesWhole (plan : GroupPlan) (fills : Fills) (image : List ℕ) : Type 0 where
  pub filled : missing_places plan fills ≡ 0
  pub joins : image ≡ carried_image plan fills
  pub right : wrong_module plan.modules.items image ≡ None

-- All places of the plan are kept or filled, and this is the first module, in the order of the DII, that has not the CRC of
-- its descriptor: its id, that CRC, and the CRC of its bytes.
pub record HasWrong (plan : GroupPlan) (fills : Fills) (id want found : ℕ) : Type 0 where
  pub filled : missing_places plan fills ≡ 0
  pub module_plan : ModulePlan
  pub first : wrong_module plan.modules.items (carried_image plan fills) ≡ Some module_plan
  pub own_id : id ≡ module_plan.id
  pub wanted : module_plan.crc ≡ Some want
  pub has : found ≡ crc_of (module_bytes (carried_image plan fills) module_plan)
