-- What is read from an array is in its range.
use Rattle.std.proofs.Common.{zero, suc, ◌≡◌, ℕ, ◌+◌, ◌<◌, ◌≤◌, Bool, true, false, ◌&&◌, cond, nat_le, List, [], ◌∷◌, ◌++◌, map, length, pos, negsuc, Option, Some, None, All, refl, sym, ap, ◌∙◌, subst, arith, option_map, option_and_then, leb-true, codes}
use Rattle.std.proofs.lemmas.Bool.{and_parts}
use Rattle.std.proofs.lemmas.List.Elements.{All-cons}
use Rattle.toml.specs.Data.{Data, string, integer, float, boolean, datetime, array, table, Items, no_items, item, Members, as_array}
use Rattle.toml_fields.specs.Reading.{document_of}
use Rattle.toml_fields.specs.Place.{item_count, whole_in}
use Rattle.air_channel.specs.Scripts.{AreChanges, AreNumbers, IsChange, byte_number, most_entries, most_number, rises}
use Rattle.air_channel.specs.ScriptText.{change_of, each_of, few_items, number_of, prefix, script_in, script_of}
use Rattle.air_channel.specs.declared.change.Change.{Change}
use Rattle.air_channel.proofs.Rising.{rises_less}

if_some : (b : Bool) (x n : ℕ) → cond b (Some x) None ≡ Some n → (b ≡ true) × (x ≡ n)
if_some true x n e = (refl, cc)
if_some false x n e = cc

-- a whole number in a range
whole_most : (least most : ℕ) (d : Data) (n : ℕ) → whole_in least most d ≡ Some n → n ≤ most
whole_most least most (integer (pos m)) n found =
    let (tests_all, same) = if_some (nat_le least m && nat_le m most) m n found in
    let (low, high) = and_parts (nat_le least m) (nat_le m most) tests_all in
    let within : m ≤ most = leb-true m most high in
    omega (arith, within, same)
whole_most least most (integer (negsuc m)) n found = cc
whole_most least most (string s) n found = cc
whole_most least most (float x) n found = cc
whole_most least most (boolean b) n found = cc
whole_most least most (datetime dt) n found = cc
whole_most least most (array items) n found = cc
whole_most least most (table m) n found = cc

some_same : {T : Type 0} (x y : T) → Some x ≡ Some y → x ≡ y
some_same x y e = cc

change_parts : (a b c : Option ℕ) → ((n : ℕ) → a ≡ Some n → n ≤ 16777215) → ((n : ℕ) → b ≡ Some n → n ≤ 187) → (change : Change)
    → option_and_then (λ n. option_and_then (λ o. option_map (λ x. record { packet = n; offset = o; byte = x }) c) b) a ≡ Some change → IsChange change
change_parts None b c high low change found = cc
change_parts (Some n) None c high low change found = cc
change_parts (Some n) (Some o) None high low change found = cc
change_parts (Some n) (Some o) (Some x) high low change found =
    let made : Change = record { packet = n; offset = o; byte = x } in
    subst IsChange (some_same made change found) (record { packet_in = high n refl; offset_in = low o refl })

change_in : (d : Data) (change : Change) → change_of d ≡ Some change → IsChange change
change_in (array no_items) change found = cc
change_in (array (item a no_items)) change found = cc
change_in (array (item a (item b no_items))) change found = cc
change_in (array (item a (item b (item c no_items)))) change found =
    change_parts (number_of a) (whole_in 0 187 b) (whole_in 0 255 c) (whole_most 0 16777215 a) (whole_most 0 187 b) change found
change_in (array (item a (item b (item c (item d rest))))) change found = cc
change_in (string s) change found = cc
change_in (integer z) change found = cc
change_in (float x) change found = cc
change_in (boolean b) change found = cc
change_in (datetime dt) change found = cc
change_in (table m) change found = cc

-- What is made of the items is one thing for each, and each has what `take` gives.
record AreMade {T : Type 0} (P : T → Type 0) (xs : List T) (items : Items) : Type 0 where
  long : length xs ≡ item_count items
  all : All P xs

made_more : {T : Type 0} (P : T → Type 0) (d : Data) (items : Items) (first : Option T) (rest : Option (List T)) (xs : List T)
    → ((x : T) → first ≡ Some x → P x) → ((ys : List T) → rest ≡ Some ys → AreMade P ys items)
    → option_and_then (λ x. option_map (λ ys. x ∷ ys) rest) first ≡ Some xs → AreMade P xs (item d items)
made_more P d items None rest xs one others found = cc
made_more P d items (Some x) None xs one others found = cc
made_more P d items (Some x) (Some ys) xs one others found =
    let same : x ∷ ys ≡ xs = some_same (x ∷ ys) xs found in
    let are = others ys refl in
    subst (λ zs. AreMade P zs (item d items)) same (record { long = omega (arith, are.long); all = All-cons P x ys (one x refl) are.all })

made : {T : Type 0} (P : T → Type 0) (take : Data → Option T) (items : Items) (xs : List T) → ((d : Data) (x : T) → take d ≡ Some x → P x) → each_of take items ≡ Some xs → AreMade P xs items
made P take no_items xs each found =
    let same : [] ≡ xs = some_same [] xs found in
    subst (λ zs. AreMade P zs no_items) same (record { long = refl; all = λ k d low. absurd (omega (arith, low)) })
made P take (item d rest) xs each found = made_more P d rest (take d) (each_of take rest) xs (each d) (λ ys at. made P take rest ys each at) found

if_few : (b : Bool) (x items : Items) → cond b (Some x) None ≡ Some items → (b ≡ true) × (x ≡ items)
if_few true x items e = (refl, cc)
if_few false x items e = cc

few_array : (o : Option Items) (items : Items) → option_and_then (λ x. cond (nat_le (item_count x) 65536) (Some x) None) o ≡ Some items → item_count items ≤ 65536
few_array None items found = cc
few_array (Some x) items found =
    let (few, same) = if_few (nat_le (item_count x) 65536) x items found in
    let within : item_count x ≤ 65536 = leb-true (item_count x) 65536 few in
    subst (λ (y : Items). item_count y ≤ 65536) same within

pub numbers_found : (d : Data) (items : Items) (ns : List ℕ) (gap : ℕ) → few_items d ≡ Some items → each_of number_of items ≡ Some ns → rises gap 0 ns ≡ true → 1 ≤ gap → AreNumbers ns
numbers_found d items ns gap few found up some =
    let are = made (λ n. n ≤ most_number) number_of items ns (λ x n at. whole_most 0 16777215 x n at) found in
    record {
      few = omega (arith, are.long, few_array (as_array d) items few);
      ascending = rises_less gap 1 0 0 ns some (omega arith) up;
      in_range = are.all;
    }

pub changes_found : (d : Data) (items : Items) (cs : List Change) → few_items d ≡ Some items → each_of change_of items ≡ Some cs → rises 1 0 (map byte_number cs) ≡ true → AreChanges cs
changes_found d items cs few found up =
    let are = made IsChange change_of items cs change_in found in
    record {
      few = omega (arith, are.long, few_array (as_array d) items few);
      ascending = up;
      in_range = are.all;
    }

-- the script of a table
pub script_of_table : (bytes : List ℕ) (members : Members) → document_of bytes ≡ Some members → script_of bytes ≡ script_in (record { members = members; prefix = prefix })
unfolding script_of
script_of_table bytes members read = rw read refl
