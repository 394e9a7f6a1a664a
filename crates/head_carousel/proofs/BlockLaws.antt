-- How many blocks there are, and how long they are.
use Rattle.std.proofs.Common.{◌≡◌, ℕ, zero, suc, ◌+◌, ◌-◌, ◌*◌, ◌<◌, ◌≤◌, ◌^◌, List, [], ◌∷◌, length, get_or, false, refl, sym, subst, ap, arith, length-append}
use Rattle.std.specs.Prelude.{map}
use Rattle.std.specs.List.{All, flat_map, sum_by}
use Rattle.std.proofs.Math.Nat.{mul-le-mul_right}
use Rattle.std.proofs.lemmas.Grind.{div_ceil_times}
use Rattle.std.proofs.lemmas.List.Elements.{All-cons, All-head, All-nil, All-tail}
use Rattle.std.proofs.lemmas.List.FromFn.{length-map-range_with_len}
use Rattle.std.proofs.lemmas.List.Sums.{sum_by-cons}
use Rattle.dsmcc_msg.specs.Block.{DdbFields}
use Rattle.dsmcc_msg.specs.Written.{ddb_bytes, ddb_head}
use Rattle.section_form.proofs.LongLaws.{Fits}
use Rattle.head_carousel.specs.WellMade.{IsWellMade}
use Rattle.head_carousel.proofs.MadeLaws.{long_made}
use Rattle.head_carousel.specs.Blocks.{IsShort, block_count, ddb_fields, group_blocks, module_blocks}
use Rattle.head_carousel.specs.GroupFiles.{GroupFiles, numbered}

pub module_length : (g : GroupFiles) (m : ℕ × List ℕ) → length (module_blocks g m) ≡ block_count g.group.block_size m.1
unfolding module_blocks
module_length g m = length-map-range_with_len (λ k. ddb_bytes (ddb_fields g m k) (block_count g.group.block_size m.1 - 1)) 0 (block_count g.group.block_size m.1)

files_length : (g : GroupFiles) (n : ℕ) (files : List (List ℕ)) → length (flat_map (module_blocks g) (numbered n files)) ≡ sum_by (block_count g.group.block_size) files
unfolding numbered
files_length g n [] = refl
files_length g n (f ∷ fs) =
    let one = module_length g (n, f) in
    let others = files_length g (n + 1) fs in
    let l = length-append (module_blocks g (n, f)) (flat_map (module_blocks g) (numbered (n + 1) fs)) in
    let s = sum_by-cons (block_count g.group.block_size) f fs in
    omega (arith, l, one, others, s)

pub group_length : (g : GroupFiles) → length (group_blocks g) ≡ sum_by (block_count g.group.block_size) g.files
unfolding group_blocks
group_length g = files_length g 1 g.files

-- each part of a sum is at most the sum
pub parts_few : {X : Type 0} (f : X → ℕ) (most : ℕ) (xs : List X) → sum_by f xs ≤ most → All (λ x. f x ≤ most) xs
parts_few f most [] h = All-nil (λ x. f x ≤ most)
parts_few f most (x ∷ xs) h =
    let s = sum_by-cons f x xs in
    All-cons (λ x. f x ≤ most) x xs (omega (arith, h, s)) (parts_few f most xs (omega (arith, h, s)))

-- so many blocks have room for the bytes
count_holds : (size : ℕ) (file : List ℕ) → 1 ≤ size → length file ≤ block_count size file * size
count_holds size file some = (div_ceil_times (length file) size some).0

sizes_hold : (size : ℕ) (files : List (List ℕ)) → 1 ≤ size → sum_by length files ≤ sum_by (block_count size) files * size
sizes_hold size [] some = omega arith
sizes_hold size (f ∷ fs) some =
    let one = count_holds size f some in
    let others = sizes_hold size fs some in
    let s = sum_by-cons length f fs in
    let t = sum_by-cons (block_count size) f fs in
    let split : (block_count size f + sum_by (block_count size) fs) * size ≡ block_count size f * size + sum_by (block_count size) fs * size = omega arith in
    rw (s, t) (omega (arith, one, others, split))

pub total_small : (g : GroupFiles) → 1 ≤ g.group.block_size → g.group.block_size ≤ 4066 → IsShort g → sum_by length g.files < 2 ^ 32
total_small g some few short =
    let size = g.group.block_size in
    let count : sum_by (block_count size) g.files ≤ 65536 = omega (arith, short, group_length g) in
    let holds = sizes_hold size g.files some in
    let a : sum_by (block_count size) g.files * size ≤ 65536 * size = mul-le-mul_right size count in
    omega (arith, holds, a, few)

pub sum_map : {A : Type 0} (v : A → List ℕ) (files : List A) → sum_by (λ f. length (v f)) files ≡ sum_by length (map v files)
sum_map v [] = refl
sum_map v (f ∷ fs) =
    let s = sum_by-cons (λ f. length (v f)) f fs in
    let t = sum_by-cons length (v f) (map v fs) in
    let others = sum_map v fs in
    omega (arith, s, t, others)

-- the same of files that are kept in another form
pub raw_small : {A : Type 0} (v : A → List ℕ) (g : GroupFiles) (files : List A) → map v files ≡ g.files → 1 ≤ g.group.block_size → g.group.block_size ≤ 4066 → IsShort g → sum_by (λ f. length (v f)) files < 2 ^ 32
raw_small v g files is some few short = omega (arith, sum_map v files, ap (sum_by length) is, total_small g some few short)

pub each_small : {A : Type 0} (v : A → List ℕ) (files : List A) (most : ℕ) → sum_by (λ f. length (v f)) files < suc most → All (λ f. length (v f) < suc most) files
each_small v [] most h = All-nil (λ f. length (v f) < suc most)
each_small v (f ∷ fs) most h =
    let s = sum_by-cons (λ f. length (v f)) f fs in
    All-cons (λ f. length (v f) < suc most) f fs (omega (arith, h, s)) (each_small v fs most (omega (arith, h, s)))

-- ---- one file of a group

mapped_at : {A : Type 0} (v : A → List ℕ) (P : List ℕ → Type 0) (xs : List A) (i : ℕ) (x : A) → i < length xs → x ≡ get_or xs i x → All P (map v xs) → P (v x)
mapped_at v P [] i x low same all = absurd (omega arith)
mapped_at {A} v P (y ∷ ys) zero x low same all = subst (λ (u : A). P (v u)) (sym same) (All-head P (v y) (map v ys) all)
mapped_at v P (y ∷ ys) (suc i) x low same all = mapped_at v P ys i x (omega arith) same (All-tail P (v y) (map v ys) all)

pub file_short : {A : Type 0} (v : A → List ℕ) (g : GroupFiles) (files : List A) (i : ℕ) (x : A) → map v files ≡ g.files → i < length files → x ≡ get_or files i x → IsShort g
    → block_count g.group.block_size (v x) ≤ 65536
file_short v g files i x is low same short =
    let count : sum_by (block_count g.group.block_size) g.files ≤ 65536 = omega (arith, short, group_length g) in
    let all = parts_few (block_count g.group.block_size) 65536 g.files count in
    let mapped : All (λ f. block_count g.group.block_size f ≤ 65536) (map v files) = rw is all in
    mapped_at v (λ f. block_count g.group.block_size f ≤ 65536) files i x low same mapped

-- ---- a block's section

pub ddb_made : (d : DdbFields) (last : ℕ) (s : List ℕ) → d.module_id < 2 ^ 16 → length d.bytes ≤ 4066 → s ≡ ddb_bytes d last → IsWellMade s
unfolding ddb_bytes
ddb_made d last s id few is =
    let fits : Fits (ddb_head d last) = record { table = omega arith; extension = id; version = omega arith; number = omega arith; last = omega arith; body = omega arith } in
    long_made false (ddb_head d last) s fits (λ e. absurd (omega arith)) (λ e. absurd (omega arith)) is
