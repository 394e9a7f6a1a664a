-- The modules of a sample.
use Rattle.std.proofs.Common.{◌≡◌, ◌∙◌, ℕ, ◌+◌, ◌≤◌, List, [], ◌∷◌, ◌++◌, length, map, ap, arith, refl, sym}
use Rattle.std.specs.List.{range_with_len, sum_by}
use Rattle.std.specs.Int.{div_ceil}
use Rattle.std.proofs.lemmas.List.FromFn.{length-map-range_with_len, map-range_with_len_more, sum_by-map-range_with_len_more}
use Rattle.std.proofs.lemmas.List.{map-append}
use Rattle.head_carousel.specs.Blocks.{block_count}
use Rattle.tool_sample.specs.Sample.{module_byte, module_count, module_len, module_of, modules_of}

pub module_len_is : (number k : ℕ) → length (module_of number k) ≡ module_len number k
unfolding module_of
module_len_is number k = length-map-range_with_len (module_byte number k) 0 (module_len number k)

pub module_len_most : (number k : ℕ) → module_len number k ≤ 99000
module_len_most number k = omega arith

-- the first modules
abbrev pub first_modules : ℕ → ℕ → List (List ℕ)
first_modules number k = map (module_of number) (range_with_len 0 k)

pub modules_are : (number : ℕ) → modules_of number ≡ first_modules number (module_count number)
unfolding modules_of
modules_are number = refl

pub modules_len : (number : ℕ) → length (modules_of number) ≡ module_count number
modules_len number = ap length (modules_are number) ∙ length-map-range_with_len (module_of number) 0 (module_count number)

pub bytes_more : (number k : ℕ) → sum_by length (first_modules number (k + 1)) ≡ sum_by length (first_modules number k) + module_len number k
bytes_more number k =
    sum_by-map-range_with_len_more length (module_of number) 0 k k (omega arith)
    ∙ ap (λ (n : ℕ). sum_by length (first_modules number k) + n) (module_len_is number k)

pub blocks_more : (number k : ℕ) → sum_by (block_count 1024) (first_modules number (k + 1))
    ≡ sum_by (block_count 1024) (first_modules number k) + div_ceil (module_len number k) 1024
blocks_more number k =
    sum_by-map-range_with_len_more (block_count 1024) (module_of number) 0 k k (omega arith)
    ∙ ap (λ (n : ℕ). sum_by (block_count 1024) (first_modules number k) + div_ceil n 1024) (module_len_is number k)

-- ---- byte by byte, and module by module

pub bytes_so_far : (number k i : ℕ) (byte : ℕ) → byte ≡ module_byte number k i
    → map (module_byte number k) (range_with_len 0 (i + 1)) ≡ map (module_byte number k) (range_with_len 0 i) ++ byte ∷ []
bytes_so_far number k i byte is =
    map-range_with_len_more (module_byte number k) 0 i i (omega arith)
    ∙ ap (λ (b : ℕ). map (module_byte number k) (range_with_len 0 i) ++ b ∷ []) (sym is)

pub module_is : (number k : ℕ) → module_of number k ≡ map (module_byte number k) (range_with_len 0 (module_len number k))
unfolding module_of
module_is number k = refl

pub modules_so_far : (number k : ℕ) → first_modules number (k + 1) ≡ first_modules number k ++ module_of number k ∷ []
modules_so_far number k = map-range_with_len_more (module_of number) 0 k k (omega arith)

pub modules_push : {A : Type 0} (v : A → List ℕ) (old new : List A) (file : A) (number k : ℕ) → new ≡ old ++ file ∷ [] → v file ≡ module_of number k
    → map v old ≡ first_modules number k → map v new ≡ first_modules number (k + 1)
modules_push v old new file number k pushed is before =
    ap (map v) pushed ∙ map-append v old (file ∷ []) ∙ rw (before, is) (sym (modules_so_far number k))
