-- The names of files, item by item.
use Rattle.std.proofs.Common.{◌≡◌, ℕ, ◌+◌, ◌<◌, ◌≤◌, Bool, true, false, nat_le, cond, List, [], ◌∷◌, ◌++◌, length, get_or, drop, Option, Some, None, Ok, Err, codes, refl, sym, ap, subst, arith, rules, tests, append_assoc, option_map}
use Rattle.std.specs.List.{list_all}
use Rattle.std.specs.Option.{option_and_then}
use Rattle.std.proofs.lemmas.Bool.{and_parts}
use Rattle.std.proofs.lemmas.List.{drop_all, append-nil}
use Rattle.toml.specs.Data.{Data, Items, no_items, item, as_str}
use Rattle.toml.specs.View.{view, items_view}
use Rattle.toml.specs.declared.value.Value.{Value}
use Rattle.toml.proofs.Views.{items_view-drop}
use Rattle.toml_fields.specs.Place.{Place, array, item_count}
use Rattle.ssu_io.specs.FileName.{is_file_name, file_name_of}
use Rattle.head_plan.specs.Plans.{AreFiles}
use Rattle.head_plan.specs.PlanText.{file_of, files_of, is_counted, modules}

-- the files so far, and those of the rest
abbrev pub with_files : List (List ℕ) → Option (List (List ℕ)) → Option (List (List ℕ))
with_files done rest = option_map (λ files. done ++ files) rest

pub with_files-none : (o : Option (List (List ℕ))) → o ≡ with_files [] o
with_files-none None = refl
with_files-none (Some files) = refl

with_files-more : (done : List (List ℕ)) (file : List ℕ) (o : Option (List (List ℕ))) → with_files done (option_map (λ files. file ∷ files) o) ≡ with_files (done ++ file ∷ []) o
with_files-more done file None = refl
with_files-more done file (Some files) = ap Some (sym (append_assoc done (file ∷ []) files))

-- one more file
pub files_of-step : (done : List (List ℕ)) (vs : List Value) (k : ℕ) (v : Value) (file : List ℕ) → k < length vs → v ≡ get_or vs k v → file_of (view v) ≡ Some file
    → with_files done (files_of (items_view (drop k vs))) ≡ with_files (done ++ file ∷ []) (files_of (items_view (drop (k + 1) vs)))
files_of-step done vs k v file low same found =
    let here : file_of (view (get_or vs k v)) ≡ Some file = rw (← same) found in
    rw (items_view-drop vs k v low, here) (with_files-more done file _)

-- an item that is no file's name
pub files_of-stop : (done : List (List ℕ)) (vs : List Value) (k : ℕ) (v : Value) → k < length vs → v ≡ get_or vs k v → file_of (view v) ≡ None
    → with_files done (files_of (items_view (drop k vs))) ≡ None
files_of-stop done vs k v low same refused =
    let here : file_of (view (get_or vs k v)) ≡ None = rw (← same) refused in
    rw (items_view-drop vs k v low, here)

-- after the last item
pub files_of-end : (done : List (List ℕ)) (vs : List Value) (k : ℕ) → length vs ≤ k → with_files done (files_of (items_view (drop k vs))) ≡ Some done
files_of-end done vs k high = rw (drop_all k vs high) (ap Some (append-nil done))

if_found : (b : Bool) (x y : List ℕ) → cond b (Some x) None ≡ Some y → (b ≡ true) × (x ≡ y)
if_found true x y e = (refl, cc)
if_found false x y e = cc

file_name_of-is : (text file : List ℕ) → file_name_of text ≡ Some file → is_file_name file ≡ true
file_name_of-is text file found =
    let (is_name, same) = if_found (is_file_name text) text file found in rw (← same) is_name

file_of-is : (s : Option (List ℕ)) (file : List ℕ) → option_and_then file_name_of s ≡ Some file → is_file_name file ≡ true
file_of-is None file found = cc
file_of-is (Some text) file found = file_name_of-is text file found

-- what is found are names of files, one for each item
abbrev pub AreNamesFor : List (List ℕ) → Items → Type 0
AreNamesFor files items = (list_all is_file_name files ≡ true) × (length files ≡ item_count items)

are_names-more : (d : Data) (items : Items) (first : Option (List ℕ)) (rest : Option (List (List ℕ))) (files : List (List ℕ)) → first ≡ file_of d → ((fs : List (List ℕ)) → rest ≡ Some fs → AreNamesFor fs items)
    → option_and_then (λ file. option_map (λ fs. file ∷ fs) rest) first ≡ Some files → AreNamesFor files (item d items)
are_names-more d items None rest files e ih found = cc
are_names-more d items (Some file) None files e ih found = cc
are_names-more d items (Some file) (Some fs) files e ih found =
    let same : file ∷ fs ≡ files = cc in
    let name : is_file_name file ≡ true = file_of-is (as_str d) file (sym e) in
    let (names, count) = ih fs refl in
    let P : List (List ℕ) → Type 0 = λ xs. AreNamesFor xs (item d items) in
    subst P same (rw (name, names), omega (arith, count))

pub files_of-are : (items : Items) (files : List (List ℕ)) → files_of items ≡ Some files → AreNamesFor files items
files_of-are no_items files found =
    let same : [] ≡ files = cc in
    let P : List (List ℕ) → Type 0 = λ xs. AreNamesFor xs no_items in
    subst P same (refl, refl)
files_of-are (item d items) files found = are_names-more d items (file_of d) (files_of items) files refl (files_of-are items) found

-- 1 to 256 items that are names of files
pub AreFiles-found : (vs : List Value) (files : List (List ℕ)) → is_counted (items_view vs) ≡ true → files_of (items_view vs) ≡ Some files → AreFiles files
AreFiles-found vs files counted found =
    let (names, count) = files_of-are (items_view vs) files found in
    let (some, few) = and_parts (nat_le 1 (item_count (items_view vs))) (nat_le (item_count (items_view vs)) 256) counted in
    let one : 1 ≤ item_count (items_view vs) = search (rules, tests, some) in
    let most : item_count (items_view vs) ≤ 256 = search (rules, tests, few) in
    record { some = omega (arith, count, one); few = omega (arith, count, most); files = names }

-- an array with too few or too many items
pub modules-refused : (p : Place) (items : Items) → array p (codes "modules") ≡ Ok items → is_counted items ≡ false → modules p ≡ Err (p.prefix ++ codes "modules")
unfolding modules
modules-refused p items read counted = rw (read, counted)

-- an array of names of files
pub modules-found : (p : Place) (items : Items) (files : List (List ℕ)) → array p (codes "modules") ≡ Ok items → is_counted items ≡ true → files_of items ≡ Some files → modules p ≡ Ok files
unfolding modules
modules-found p items files read counted found = rw (read, counted, found)
