-- The table that is written: ETSI TS 102 006 9.4. Reserved bits are ones.
use Rattle.std.specs.Prelude.{◌≡◌, ℕ, ◌+◌, ◌*◌, ◌/◌, ◌%◌, ◌<◌, ◌^◌, bit_xor, Bool, true, false, if◌then◌else◌, List, [], ◌∷◌, ◌++◌, length}
use Rattle.section_form.specs.Long.{LongFields}
use Rattle.section_form.specs.Written.{only_section}
use Rattle.si_desc.specs.Descriptors.{IsRow}
use Rattle.si_desc.specs.Written.{row_bytes}
use Rattle.ssu_compat.specs.Compat.{EntryFields, compat}
use Rattle.wire.specs.Format.{SpellsEach}
use Rattle.wire.specs.Number.{bytes_of}
use Rattle.ssu_unt.specs.Table.{PairFields, PlatformFields, UntFields, pair, platform}

abbrev pub pair_bytes : List ℕ → List ℕ → List ℕ
pair_bytes target operational = row_bytes target ++ row_bytes operational

-- processing_order 0
abbrev pub head_bytes : ℕ → List ℕ → List ℕ
head_bytes oui common = bytes_of 3 oui ++ bytes_of 1 0 ++ row_bytes common

-- the exclusive or of the three bytes
abbrev pub oui_hash : ℕ → ℕ
oui_hash oui = bit_xor (bit_xor (oui / 65536) (oui / 256 % 256)) (oui % 256)

-- A table on the way: what stands before the length of the last platform's pairs, and its pairs. Before
-- the first platform was begun there are none.
pub record Draft : Type 0 where
  pub oui : ℕ
  pub version : ℕ
  pub front : List ℕ
  pub pairs : List ℕ
  pub begun : Bool

-- the length of the last platform's pairs, and the pairs
abbrev pub last_bytes : Draft → List ℕ
last_bytes w = if w.begun then bytes_of 2 (length w.pairs) ++ w.pairs else []

abbrev pub body_bytes : Draft → List ℕ
body_bytes w = w.front ++ last_bytes w

-- section_length counts nine bytes beside the body
abbrev pub section_length : List ℕ → ℕ
section_length body = 9 + length body

abbrev pub new_draft : ℕ → ℕ → List ℕ → Draft
new_draft oui version common = record {
  oui = oui;
  version = version;
  front = head_bytes oui common;
  pairs = [];
  begun = false;
}

abbrev pub with_platform : List ℕ → Draft → Draft
with_platform compat w = record w { front = body_bytes w ++ compat; pairs = []; begun = true }

abbrev pub with_pair : List ℕ → List ℕ → Draft → Draft
with_pair target operational w = record w { pairs = w.pairs ++ pair_bytes target operational }

-- action_type 1; section 0 of 0
abbrev pub head_of : Draft → LongFields
head_of w = only_section 0x4B (1 * 256 + oui_hash w.oui) w.version (body_bytes w)

-- ---- what it stands for

-- the fields of a written table with these platforms
abbrev pub unt_of : ℕ → List ℕ → List PlatformFields → UntFields
unt_of oui common platforms = record {
  action = 1;
  oui = oui;
  order = 0;
  number = 0;
  last = 0;
  common = common;
  platforms = platforms;
}

abbrev pub no_pairs : List EntryFields → PlatformFields
no_pairs entries = record { compat = entries; pairs = []; platform_loop = [] }

-- The table so far has that common loop, and platforms: whole ones, and the one that was begun last,
-- with its pairs.
pub record HasPlatforms (w : Draft) (common : List ℕ) (platforms : List PlatformFields) : Type 0 where
  pub earlier : List PlatformFields
  pub entries : List EntryFields
  pub earlier_bytes : List ℕ
  pub compat_bytes : List ℕ
  pub pairs : List PairFields
  pub front : w.front ≡ head_bytes w.oui common ++ (earlier_bytes ++ compat_bytes)
  pub all : platforms ≡ earlier ++ record { compat = entries; pairs = pairs; platform_loop = w.pairs } ∷ []
  pub spelled : SpellsEach platform.Spells earlier earlier_bytes
  pub compat_spelled : compat.Spells entries compat_bytes
  pub pairs_spelled : SpellsEach pair.Spells pairs w.pairs

pub record IsDraftOf (w : Draft) (common : List ℕ) (platforms : List PlatformFields) : Type 0 where
  pub row : IsRow common
  pub short : length common < 2 ^ 12
  pub none : w.begun ≡ false → (w.front ≡ head_bytes w.oui common) × (platforms ≡ [])
  pub some : w.begun ≡ true → HasPlatforms w common platforms

-- the platform, with one more pair
abbrev pub with_one : PairFields → PlatformFields → PlatformFields
with_one one p = record p {
  pairs = p.pairs ++ one ∷ [];
  platform_loop = p.platform_loop ++ pair_bytes one.target one.operational;
}

-- the last platform, with one more pair
abbrev pub with_last : PairFields → List PlatformFields → List PlatformFields
with_last one [] = []
with_last one (p ∷ []) = with_one one p ∷ []
with_last one (p ∷ q ∷ ps) = p ∷ with_last one (q ∷ ps)
