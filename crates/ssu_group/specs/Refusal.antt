-- Why a DII cannot be used, for a bank of some length. The refusals stand in this order.
use Rattle.std.specs.Prelude.{ℕ, Bool, ◌||◌, ◌==◌, nat_lt, List, [], ◌∷◌, ◌++◌, Option, Some, None, if◌then◌else◌, sum_by, ◌≡◌, map, true}
use Rattle.std.specs.List.{find, list_any}
use Rattle.std.specs.Option.{option_or, option_map}
use Rattle.dsmcc_msg.specs.Control.{DiiFields, ModuleFields}
use Rattle.ssu_group.specs.Plan.{is_compressed, blocks_of}
use Rattle.ssu_group.specs.declared.unusable.Unusable.{Unusable}
use Rattle.ssu_group.specs.declared.unusable.Unusable.TheVariants.{Compressed, NoBlockSize, TooManyBlocks, TwiceModule, TooLong, Empty}

abbrev pub id_of : ModuleFields → ℕ
id_of m = m.id

-- the first module that is compressed
unfoldable pub first_compressed : List ModuleFields → Option ℕ
first_compressed ms = option_map id_of (find is_compressed ms)

abbrev pub is_no_block_size : ℕ → Bool
is_no_block_size n = n == 0 || nat_lt 4066 n

abbrev pub has_too_many : ℕ → ModuleFields → Bool
has_too_many block_size m = nat_lt 65536 (blocks_of block_size m)

-- the first module of more than 65,536 blocks, which blockNumber cannot count
unfoldable pub first_too_many : ℕ → List ModuleFields → Option ℕ
first_too_many block_size ms = option_map id_of (find (has_too_many block_size) ms)

-- the first module whose id stood earlier, where these ids stood before
unfoldable pub first_twice : List ℕ → List ModuleFields → Option ℕ
first_twice earlier [] = None
first_twice earlier (m ∷ ms) =
    if list_any (λ id. id == m.id) earlier then Some m.id else first_twice (earlier ++ m.id ∷ []) ms

-- Some module has this id, and a module before it, or one of these ids, has it too.
pub record StoodEarlier (earlier : List ℕ) (ms : List ModuleFields) (id : ℕ) : Type 0 where
  pub before : List ModuleFields
  pub part : ModuleFields
  pub behind : List ModuleFields
  pub parts : ms ≡ before ++ part ∷ behind
  pub own : part.id ≡ id
  pub stood : list_any (λ other. other == id) (earlier ++ map id_of before) ≡ true

abbrev pub total_of : List ModuleFields → ℕ
total_of ms = sum_by (λ m. m.size) ms

abbrev pub where_so : Bool → Unusable → Option Unusable
where_so fact why = if fact then Some why else None

unfoldable pub refusal : DiiFields → ℕ → Option Unusable
refusal dii bank_len =
    option_or (option_map Compressed (first_compressed dii.modules)) (
    option_or (where_so (is_no_block_size dii.block_size) NoBlockSize) (
    option_or (option_map TooManyBlocks (first_too_many dii.block_size dii.modules)) (
    option_or (option_map TwiceModule (first_twice [] dii.modules)) (
    option_or (where_so (nat_lt bank_len (total_of dii.modules)) (TooLong (total_of dii.modules))) (
    where_so (total_of dii.modules == 0) Empty)))))
