-- Blocks that are put one after the other.
use Rattle.std.proofs.Common.{◌≡◌, ℕ, suc, ◌+◌, ◌-◌, ◌*◌, ◌<◌, List, ◌++◌, Option, replicate, arith, ap, subst, ◌∙◌}
use Rattle.std.specs.Prelude.{Result, Ok, Err, OnErr}
use Rattle.std.proofs.lemmas.List.{replicate-append-replicate}
use Rattle.ssu_io.specs.Bytes.{Gains, GainsPrefix}
use Rattle.ssu_io.proofs.BytesLemmas.{Gains_join, GainsPrefix_join}
use Rattle.ssu_io.proofs.BufferLemmas.{GainsPrefix_longer}
use Rattle.tool_flash.specs.Blank.{blank_bytes}

bytes_join : (m n : ℕ) → blank_bytes m ++ blank_bytes n ≡ blank_bytes (m + n)
bytes_join m n =
    let sum : m * 4096 + n * 4096 ≡ (m + n) * 4096 = omega arith in
    replicate-append-replicate (m * 4096) (n * 4096) 255 ∙ ap (λ (k : ℕ). replicate k 255) sum

pub blocks_join : (first second third : Option (List ℕ)) (m n : ℕ) → Gains first second (blank_bytes m) → Gains second third (blank_bytes n)
    → Gains first third (blank_bytes (m + n))
blocks_join first second third m n p q =
    subst (Gains first third) (bytes_join m n) (Gains_join first second third (blank_bytes m) (blank_bytes n) p q)

pub blocks_cut : (first second third : Option (List ℕ)) (m n all : ℕ) → m + n < suc all → Gains first second (blank_bytes m) → GainsPrefix second third (blank_bytes n)
    → GainsPrefix first third (blank_bytes all)
blocks_cut first second third m n all few p q =
    let here = GainsPrefix_join first second third (blank_bytes m) (blank_bytes n) p q in
    let longer = GainsPrefix_longer first third (blank_bytes m ++ blank_bytes n) (blank_bytes (all - (m + n))) here in
    let sum : m + n + (all - (m + n)) ≡ all = omega arith in
    let whole : (blank_bytes m ++ blank_bytes n) ++ blank_bytes (all - (m + n)) ≡ blank_bytes all =
    ap (λ (front : List ℕ). front ++ blank_bytes (all - (m + n))) (bytes_join m n)
    ∙ bytes_join (m + n) (all - (m + n))
    ∙ ap blank_bytes sum in
    subst (GainsPrefix first third) whole longer

pub on_err : {T E P : Type 0} (result : Result T E) → P → OnErr result P
on_err (Ok value) p = tt
on_err (Err error) p = p
