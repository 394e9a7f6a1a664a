-- Which pairs of a table are for a box, and when: ETSI TS 102 006 9.4 to 9.7.
use Rattle.std.specs.Prelude.{◌≢◌, ℕ, ◌&&◌, ◌||◌, ◌==◌, if◌then◌else◌, Bool, false, IsTrue, List, [], ◌∷◌, length}
use Rattle.std.specs.Prelude.{take, map, Any, Option, Some, None, is_some, unwrap_or}
use Rattle.std.specs.List.{filter, flat_map, list_any}
use Rattle.std.specs.Option.{IsSomeAnd}
use Rattle.std.specs.Str.{bytes_eq}
use Rattle.si_desc.specs.Descriptors.{DescFields, subgroup_association, whole_descriptors}
use Rattle.ssu_compat.specs.Compat.{EntryFields}
use Rattle.ssu_compat.specs.Match.{matches}
use Rattle.ssu_time.specs.Opening.{IsOpen}
use Rattle.ssu_time.specs.declared.windows.Window.{Window}
use Rattle.ssu_unt.specs.Descriptors.{window_of, update_flag, location, names_mac}
use Rattle.ssu_unt.specs.Table.{PairFields, PlatformFields, UntFields}
use Rattle.wire.specs.Format.{◌>>=◌}

-- what a table asks of a box
pub record Me : Type 0 where
  pub oui : ℕ
  pub model : ℕ
  pub version : ℕ
  pub mac : Option (List ℕ)
  pub serial : Option (List ℕ)

-- ---- the descriptors that count

-- the descriptors of a loop with that tag
abbrev pub with_tag : ℕ → List ℕ → List DescFields
with_tag tag bytes = filter (λ d. d.tag == tag) (whole_descriptors bytes)

abbrev pub or_else : List DescFields → List DescFields → List DescFields
or_else [] others = others
or_else (d ∷ ds) others = d ∷ ds

-- Those of the operational loop count, or, where it has none with the tag, those of the common loop.
unfoldable pub counting : ℕ → List ℕ → List ℕ → List DescFields
counting tag common operational = or_else (with_tag tag operational) (with_tag tag common)

abbrev pub first_of : List DescFields → Option (List ℕ)
first_of [] = None
first_of (d ∷ ds) = Some d.body

-- a pair, and the compatibility of its platform
pub record Candidate : Type 0 where
  pub compat : List EntryFields
  pub pair : PairFields

abbrev pub candidate : List EntryFields → PairFields → Candidate
candidate compat pair = record { compat = compat; pair = pair }

-- ---- the three conditions

-- A target descriptor names the box by its MAC address or by its serial number.
abbrev pub by_mac : Option (List ℕ) → List ℕ → Bool
by_mac None bytes = false
by_mac (Some mac) bytes = names_mac mac bytes

abbrev pub by_serial : Option (List ℕ) → List ℕ → Bool
by_serial None bytes = false
by_serial (Some serial) bytes = bytes_eq bytes serial

abbrev pub names : Me → DescFields → Bool
names me d = ((d.tag == 0x07) && by_mac me.mac d.body) || ((d.tag == 0x08) && by_serial me.serial d.body)

-- The target loop is empty, or one of its descriptors names the box.
abbrev pub is_for : Me → List ℕ → Bool
is_for me target = (length target == 0) || list_any (names me) (whole_descriptors target)

-- The component tag that the first location gives, if the high byte of its association tag is 0.
unfoldable pub tag_of : List ℕ → List ℕ → Option ℕ
tag_of common operational = first_of (counting 0x03 common operational) >>= λ bytes. location.of bytes

-- The platform's compatibility matches the box, the pair is for it, and its location has a tag.
unfoldable pub is_targeted : Me → List ℕ → Candidate → Bool
is_targeted me common c =
    matches me.oui me.model me.version c.compat && is_for me c.pair.target && is_some (tag_of common c.pair.operational)

-- ---- the entries

pub record TargetFields : Type 0 where
  pub tag : ℕ
  pub windows : List Window
  pub manual : Bool
  pub subgroup : Option ℕ

-- The windows are those of the first four scheduling descriptors.
unfoldable pub windows_of : List ℕ → List ℕ → List Window
windows_of common operational = take 4 (map (λ d. window_of d.body) (counting 0x01 common operational))

-- An entry is manual if its first update descriptor has the flag 0.
abbrev pub is_zero : Option ℕ → Bool
is_zero None = false
is_zero (Some flag) = flag == 0

unfoldable pub is_manual : List ℕ → List ℕ → Bool
is_manual common operational =
    is_zero (first_of (counting 0x02 common operational) >>= λ bytes. update_flag.of bytes)

-- The subgroup is that of the first such descriptor of five bytes.
abbrev pub has_five : DescFields → Bool
has_five d = length d.body == 5

unfoldable pub subgroup_of : List ℕ → List ℕ → Option ℕ
subgroup_of common operational =
    first_of (filter has_five (counting 0x0B common operational)) >>= λ bytes. subgroup_association.of bytes

-- what the pair with this operational loop announces
unfoldable pub entry_of : List ℕ → List ℕ → TargetFields
entry_of common operational = record {
  tag = unwrap_or (tag_of common operational) 0;
  windows = windows_of common operational;
  manual = is_manual common operational;
  subgroup = subgroup_of common operational;
}

abbrev pub chosen : Me → List ℕ → Candidate → Option TargetFields
chosen me common c = if is_targeted me common c then Some (entry_of common c.pair.operational) else None

-- ---- the table

-- the pairs of a platform, and of all platforms in their order
unfoldable pub pairs_in : PlatformFields → List Candidate
pairs_in p = map (candidate p.compat) p.pairs

abbrev pub all_pairs : List PlatformFields → List Candidate
all_pairs ps = flat_map pairs_in ps

abbrev pub targets : Me → List ℕ → List Candidate → List TargetFields
targets me common cs = map (λ c. entry_of common c.pair.operational) (filter (is_targeted me common) cs)

-- The first 32 of the pairs for which the three conditions hold.
unfoldable pub targeted : Me → UntFields → List TargetFields
targeted me u = take 32 (targets me u.common (all_pairs u.platforms))

-- one of the windows is open in that second
abbrev pub HasOpenWindow : List Window → ℕ → Type 0
HasOpenWindow windows second = Any (λ w. IsOpen w.start w.end w.period w.duration second) windows

-- A pair is open where it is not manual or the box allows that, and where it has no window or one of
-- its windows is open in the second that is known.
pub record PairIsOpen (e : TargetFields) (now : Option ℕ) (manual_allowed : Bool) : Type 0 where
  pub allowed : IsTrue e.manual → IsTrue manual_allowed
  pub timely : e.windows ≢ [] → IsSomeAnd now (λ second. HasOpenWindow e.windows second)
