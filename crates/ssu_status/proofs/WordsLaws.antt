-- How many words a command line has.
use Rattle.std.proofs.Common.{◌≡◌, ℕ, ◌≤◌, ◌<◌, List, [], ◌∷◌, map, length, get_or, suc, arith, ap}
use Rattle.ssu_status.specs.Words.{IsCommandLine, Task, ToHear, ToLoad, ToFind, ToShow, ToBuild, ToBlank, ToFormat, ToBoot, ToMigrate, ToReplay, ToAir, ToAudit, ToAuditWithNotice, ToSample, words_of}

some_words : (t : Task) → 1 ≤ length (words_of t)
some_words (ToHear pid) = omega arith
some_words (ToLoad pid) = omega arith
some_words ToFind = omega arith
some_words ToShow = omega arith
some_words ToBuild = omega arith
some_words (ToBlank blocks) = omega arith
some_words (ToFormat name) = omega arith
some_words ToBoot = omega arith
some_words ToMigrate = omega arith
some_words ToReplay = omega arith
some_words ToAir = omega arith
some_words (ToAudit pid) = omega arith
some_words (ToAuditWithNotice pid notice) = omega arith
some_words (ToSample number) = omega arith

few_words : (t : Task) → length (words_of t) ≤ 3
few_words (ToHear pid) = omega arith
few_words (ToLoad pid) = omega arith
few_words ToFind = omega arith
few_words ToShow = omega arith
few_words ToBuild = omega arith
few_words (ToBlank blocks) = omega arith
few_words (ToFormat name) = omega arith
few_words ToBoot = omega arith
few_words ToMigrate = omega arith
few_words ToReplay = omega arith
few_words ToAir = omega arith
few_words (ToAudit pid) = omega arith
few_words (ToAuditWithNotice pid notice) = omega arith
few_words (ToSample number) = omega arith

-- a folder, and one to three words behind it
pub record HasFewWords (words : List (List ℕ)) : Type 0 where
  pub least : 2 ≤ length words
  pub most : length words ≤ 4

pub line_has_few_words : (words : List (List ℕ)) (t : Task) → IsCommandLine words t → HasFewWords words
line_has_few_words words t line =
    let spelled : length words ≡ suc (length (words_of t)) = ap length line.spelled in
    record {
      least = omega (arith, spelled, some_words t);
      most = omega (arith, spelled, few_words t);
    }

-- the second and the third of three words
pub two_behind : {A : Type 0} (text : A → List ℕ) (words : List A) (one other : A) (folder : List ℕ) (behind : List (List ℕ))
    → 3 ≤ length words → length words < 4 → one ≡ get_or words 1 one → other ≡ get_or words 2 other → map text words ≡ folder ∷ behind
    → behind ≡ text one ∷ text other ∷ []
two_behind text [] one other folder behind least most first second spelled = absurd (omega (arith, least))
two_behind text (a ∷ []) one other folder behind least most first second spelled = absurd (omega (arith, least))
two_behind text (a ∷ b ∷ []) one other folder behind least most first second spelled = absurd (omega (arith, least))
two_behind text (a ∷ b ∷ c ∷ []) one other folder behind least most first second spelled =
    let is_one : one ≡ b = first in
    let is_other : other ≡ c = second in
    cc
two_behind text (a ∷ b ∷ c ∷ d ∷ more) one other folder behind least most first second spelled = absurd (omega (arith, most))
