-- Arrays of tables.
use Rattle.std.proofs.Common.{◌≡◌, ◌≤◌, ℕ, true, rules, tests, nat_le, List, [], ◌∷◌, ◌&&◌, refl, length, is_some, ap, arith}
use Rattle.std.specs.List.{list_all}
use Rattle.std.proofs.lemmas.Bool.{and_parts, false≢true}
use Rattle.toml.specs.Data.{string, integer, float, boolean, datetime, array, table, Items, no_items, item, as_table}
use Rattle.toml.specs.View.{view, items_view}
use Rattle.toml.specs.declared.value.Value.{Value}
use Rattle.toml_fields.specs.Place.{each_is_table, item_count, are_tables, tables_in}

pub each_is_table-all : (vs : List Value) → each_is_table (items_view vs) ≡ list_all (λ v. is_some (as_table (view v))) vs
each_is_table-all [] = refl
each_is_table-all (v ∷ vs) = ap (λ b. is_some (as_table (view v)) && b) (each_is_table-all vs)

pub item_count-view : (vs : List Value) → item_count (items_view vs) ≡ length vs
item_count-view [] = refl
item_count-view (v ∷ vs) =
    let rest : item_count (items_view vs) ≡ length vs = item_count-view vs in omega (arith, rest)

-- where each item is a table, there are as many tables as items
pub length-tables_in : (items : Items) → each_is_table items ≡ true → length (tables_in items) ≡ item_count items
length-tables_in no_items all = refl
length-tables_in (item (table members) rest) all =
    let more : length (tables_in rest) ≡ item_count rest = length-tables_in rest all in omega (arith, more)
length-tables_in (item (string s) rest) all = absurd (false≢true all)
length-tables_in (item (integer z) rest) all = absurd (false≢true all)
length-tables_in (item (float x) rest) all = absurd (false≢true all)
length-tables_in (item (boolean b) rest) all = absurd (false≢true all)
length-tables_in (item (datetime dt) rest) all = absurd (false≢true all)
length-tables_in (item (array items) rest) all = absurd (false≢true all)

pub are_tables-some : (least most : ℕ) (items : Items) → are_tables least most items ≡ true → least ≤ length (tables_in items)
are_tables-some least most items sure =
    let (counts, tables) = and_parts (nat_le least (item_count items) && nat_le (item_count items) most) (each_is_table items) sure in
    let (some, few) = and_parts (nat_le least (item_count items)) (nat_le (item_count items) most) counts in
    let some_le : least ≤ item_count items = search (rules, tests, some) in
    rw (length-tables_in items tables) some_le

pub are_tables-few : (least most : ℕ) (items : Items) → are_tables least most items ≡ true → length (tables_in items) ≤ most
are_tables-few least most items sure =
    let (counts, tables) = and_parts (nat_le least (item_count items) && nat_le (item_count items) most) (each_is_table items) sure in
    let (some, few) = and_parts (nat_le least (item_count items)) (nat_le (item_count items) most) counts in
    let few_le : item_count items ≤ most = search (rules, tests, few) in
    rw (length-tables_in items tables) few_le
