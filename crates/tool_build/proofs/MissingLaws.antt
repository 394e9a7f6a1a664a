-- The files of a plan, name by name.
use Rattle.std.proofs.Common.{◌≡◌, ◌∙◌, ℕ, zero, suc, ◌+◌, List, [], ◌∷◌, ◌++◌, take, drop, ap, sym, subst, arith}
use Rattle.std.specs.Prelude.{Option, Some, None, IsSome, Result, Ok, Err, IfOk, IfErr, slice_get}
use Rattle.head_plan.specs.PlanText.{plan_of}
use Rattle.head_plan.specs.Plans.{PlanData}
use Rattle.ssu_io.specs.Files.{File, Has, bytes_of}
use Rattle.ssu_status.specs.Status.{OnAbsent, OnPlanRefused}
use Rattle.ssu_status.specs.declared.status.Status.{Status}
use Rattle.ssu_status.specs.declared.status.Status.TheVariants.{Absent, NoMemory, PlanRefused, ShelfFault}
use Rattle.arrayvec.specs.ArrayString.{ArrayString}
use Rattle.tool_box.specs.Fetching.{HasNone, IsAbsent, IsFetchRefusal, IsValueOrFails, Lacks, SaysAbsent, SaysAbsentOrFails, TellsAbsence}
use Rattle.tool_box.proofs.FetchLaws.{one_text}
use Rattle.tool_build.specs.Held.{HasEach, IsFirstMissing, TellsPlan, plan_name}
use Rattle.tool_build.specs.Building.{IsTextRefusal}

-- ---- one file more

abbrev some : List ℕ → Option (List ℕ)
some x = Some x

abbrev good : PlanData → Result PlanData (List ℕ)
good p = Ok p

pub take_named : (xs : List (List ℕ)) (k : ℕ) (x : List ℕ) → slice_get xs k ≡ Some x → take (k + 1) xs ≡ take k xs ++ x ∷ []
take_named [] k x e = absurd cc
take_named (y ∷ ys) zero x e = let is : y ≡ x = same y x e in ap (λ (u : List ℕ). u ∷ []) is
  where
    same : (a b : List ℕ) → some a ≡ some b → a ≡ b
    same a b e = cc
take_named (y ∷ ys) (suc k) x e = let more : suc k + 1 ≡ suc (k + 1) = omega arith in rw more (ap (λ (u : List (List ℕ)). y ∷ u) (take_named ys k x e))

pub split_named : (xs : List (List ℕ)) (k : ℕ) (x : List ℕ) → slice_get xs k ≡ Some x → xs ≡ take k xs ++ x ∷ drop (k + 1) xs
split_named [] k x e = absurd cc
split_named (y ∷ ys) zero x e = let is : y ≡ x = same y x e in ap (λ (u : List ℕ). u ∷ ys) is
  where
    same : (a b : List ℕ) → some a ≡ some b → a ≡ b
    same a b e = cc
split_named (y ∷ ys) (suc k) x e = let more : suc k + 1 ≡ suc (k + 1) = omega arith in rw more (ap (λ (u : List (List ℕ)). y ∷ u) (split_named ys k x e))

pub each_more : (held : Option (List File)) (names files : List (List ℕ)) (name file : List ℕ) → HasEach held names files → Has held name file → HasEach held (names ++ name ∷ []) (files ++ file ∷ [])
each_more held [] [] name file each has = (has, tt)
each_more held [] (f ∷ fs) name file each has = absurd each
each_more held (n ∷ ns) [] name file each has = absurd each
each_more held (n ∷ ns) (f ∷ fs) name file each has = (each.0, each_more held ns fs name file each.1 has)

-- ---- a name that is missing

lacks_of : (T : Type 0) (held : Option (List File)) (name : List ℕ) (x : ArrayString) → TellsAbsence {T = T} held name (Err (Absent x)) → Lacks held name
lacks_of T None name x h = tt
lacks_of T (Some files) name x h = h.0 tt

pub first_missing : (T : Type 0) (held : Option (List File)) (names images : List (List ℕ)) (k : ℕ) (name : List ℕ) (s : Status) → slice_get names k ≡ Some name → HasEach held (take k names) images
    → TellsAbsence {T = T} held name (Err s) → OnAbsent s (λ told. told ≡ name) → OnAbsent s (λ told. IsFirstMissing held names told)
first_missing T held names images k name (Absent x) at each tells is =
    let lacks : Lacks held x.bytes = rw is (lacks_of T held name x tells) in
    let parts : names ≡ take k names ++ x.bytes ∷ drop (k + 1) names = rw is (split_named names k name at) in
    record { before = take k names; after = drop (k + 1) names; parts = parts; images = images; present = each; lacks = lacks }
first_missing T held names images k name other at each tells is = tt

-- where a name is missing, the answer says so
pub says_absent : (T : Type 0) (held : Option (List File)) (name : List ℕ) (s : Status) → TellsAbsence {T = T} held name (Err s) → OnAbsent s (λ told. told ≡ name) → HasNone held name → SaysAbsent name s
says_absent T None name s tells is none = absurd none
says_absent T (Some files) name s tells is none = by_status name s (tells.1 none) is
  where
    by_status : (name : List ℕ) (s : Status) → IsAbsent s → OnAbsent s (λ told. told ≡ name) → SaysAbsent name s
    by_status name (Absent x) absent is = is
    by_status name other absent is = absurd absent

pub is_there : {T : Type 0} (held : Option (List File)) (name : List ℕ) (x : T) → TellsAbsence held name (Ok x) → HasNone held name → ⊥
is_there None name x tells none = none
is_there (Some files) name x tells none = tells.1 none

-- ---- the plan is found where it is told

one_plan : (a b : PlanData) → good a ≡ good b → a ≡ b
one_plan a b e = cc

good_bad : (a : PlanData) (field : List ℕ) → good a ≡ Err field → ⊥
good_bad a field e = cc

pub plan_read : (held : Option (List File)) (p : PlanData) (text : List ℕ) (r : Result PlanData Status) → IsSome held → TellsPlan held p
    → Has held plan_name text → IfOk r (λ q. plan_of text ≡ Ok q) → IfErr r (λ s. OnPlanRefused s (λ field. plan_of text ≡ Err field))
    → IfErr r IsTextRefusal → IsValueOrFails p r
plan_read held p text (Ok q) told tells has found refused is =
    let same = one_text held plan_name text tells.text told has tells.has in
    one_plan q p (sym found ∙ ap plan_of same ∙ tells.read)
plan_read held p text (Err NoMemory) told tells has found refused is = tt
plan_read held p text (Err (PlanRefused field)) told tells has found refused is =
    let same = one_text held plan_name tells.text text told tells.has has in
    absurd (good_bad p field.bytes (sym tells.read ∙ ap plan_of same ∙ refused))
plan_read held p text (Err other) told tells has found refused is = absurd is

-- ---- one name is the first that is missing

none_some : (o : Option (List ℕ)) (x : List ℕ) → o ≡ None → o ≡ Some x → ⊥
none_some o x none is = cc

head_same : (a b : List ℕ) (x y : List (List ℕ)) → a ∷ x ≡ b ∷ y → a ≡ b
head_same a b x y e = cc

tail_same : (a b : List ℕ) (x y : List (List ℕ)) → a ∷ x ≡ b ∷ y → x ≡ y
tail_same a b x y e = cc

one_missing : (files : List File) (b1 b2 a1 a2 i1 i2 : List (List ℕ)) (n1 n2 : List ℕ) → b1 ++ n1 ∷ a1 ≡ b2 ++ n2 ∷ a2
    → HasEach (Some files) b1 i1 → HasEach (Some files) b2 i2 → bytes_of files n1 ≡ None → bytes_of files n2 ≡ None → n1 ≡ n2
one_missing files [] [] a1 a2 i1 i2 n1 n2 e h1 h2 none1 none2 = head_same n1 n2 a1 a2 e
one_missing files [] (m ∷ ms) a1 a2 i1 [] n1 n2 e h1 h2 none1 none2 = absurd h2
one_missing files [] (m ∷ ms) a1 a2 i1 (f ∷ fs) n1 n2 e h1 h2 none1 none2 =
    absurd (none_some (bytes_of files n1) f none1 (ap (bytes_of files) (head_same n1 m a1 (ms ++ n2 ∷ a2) e) ∙ h2.0))
one_missing files (m ∷ ms) [] a1 a2 [] i2 n1 n2 e h1 h2 none1 none2 = absurd h1
one_missing files (m ∷ ms) [] a1 a2 (f ∷ fs) i2 n1 n2 e h1 h2 none1 none2 =
    absurd (none_some (bytes_of files n2) f none2 (ap (bytes_of files) (sym (head_same m n2 (ms ++ n1 ∷ a1) a2 e)) ∙ h1.0))
one_missing files (m ∷ ms) (k ∷ ks) a1 a2 [] i2 n1 n2 e h1 h2 none1 none2 = absurd h1
one_missing files (m ∷ ms) (k ∷ ks) a1 a2 (f ∷ fs) [] n1 n2 e h1 h2 none1 none2 = absurd h2
one_missing files (m ∷ ms) (k ∷ ks) a1 a2 (f ∷ fs) (g ∷ gs) n1 n2 e h1 h2 none1 none2 =
    one_missing files ms ks a1 a2 fs gs n1 n2 (tail_same m k (ms ++ n1 ∷ a1) (ks ++ n2 ∷ a2) e) h1.1 h2.1 none1 none2

none_missing : (files : List File) (before after images : List (List ℕ)) (name : List ℕ) → HasEach (Some files) (before ++ name ∷ after) images
    → bytes_of files name ≡ None → ⊥
none_missing files [] after [] name each none = each
none_missing files [] after (f ∷ fs) name each none = none_some (bytes_of files name) f none each.0
none_missing files (m ∷ ms) after [] name each none = each
none_missing files (m ∷ ms) after (f ∷ fs) name each none = none_missing files ms after fs name each.1 none

pub missing_told : (T : Type 0) (held : Option (List File)) (names images : List (List ℕ)) (k : ℕ) (at name : List ℕ) (s : Status) → slice_get names k ≡ Some at
    → HasEach held (take k names) images → IsFetchRefusal s → TellsAbsence {T = T} held at (Err s) → OnAbsent s (λ told. told ≡ at)
    → IsSome held → IsFirstMissing held names name → SaysAbsentOrFails name s
missing_told T None names images k at name s is_at each is tells absent told first = absurd cc
missing_told T (Some files) names images k at name (Absent x) is_at each is tells absent told first =
    absent ∙ one_missing files (take k names) first.before (drop (k + 1) names) first.after images first.images at name
    (sym (split_named names k at is_at) ∙ first.parts) each first.present (tells.0 tt) first.lacks
missing_told T (Some files) names images k at name ShelfFault is_at each is tells absent told first = tt
missing_told T (Some files) names images k at name NoMemory is_at each is tells absent told first = tt
missing_told T (Some files) names images k at name other is_at each is tells absent told first = absurd is

pub all_there : (held : Option (List File)) (names images : List (List ℕ)) (name : List ℕ) → HasEach held names images
    → IsSome held → IsFirstMissing held names name → ⊥
all_there None names images name each told first = absurd cc
all_there (Some files) names images name each told first =
    none_missing files first.before first.after images name (subst (λ (ns : List (List ℕ)). HasEach (Some files) ns images) first.parts each) first.lacks

pub plan_or_fails : (p : PlanData) (s : Status) (name : List ℕ) → IsValueOrFails p (Err s) → SaysAbsentOrFails name s
plan_or_fails p ShelfFault name is = tt
plan_or_fails p NoMemory name is = tt
plan_or_fails p other name is = absurd is
