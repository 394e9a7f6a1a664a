-- Arrays, item by item.
use Rattle.std.proofs.Common.{zero, suc, ◌≡◌, ℕ, ◌+◌, ◌<◌, ◌≤◌, Bool, true, false, nat_le, List, [], ◌∷◌, ◌++◌, map, length, get_or, drop, Option, Some, None, All, refl, sym, ap, ◌∙◌, subst, arith, append_assoc, option_map, option_and_then, leb-true}
use Rattle.std.proofs.lemmas.List.{drop_all, append-nil}
use Rattle.toml.specs.Data.{Data, string, integer, float, boolean, datetime, array, table, Items, no_items, item, as_array}
use Rattle.toml.specs.View.{view, items_view}
use Rattle.toml.specs.declared.value.Value.{Value}
use Rattle.toml.proofs.Views.{items_view-drop}
use Rattle.toml_fields.specs.Place.{item_count}
use Rattle.toml_fields.proofs.Arrays.{item_count-view}
use Rattle.air_channel.specs.Scripts.{IsChange, most_entries, most_number}
use Rattle.air_channel.specs.ScriptText.{change_of, each_of, few_items, number_of}
use Rattle.air_channel.specs.declared.change.Change.{Change}

-- what was made of the items so far, and what is made of the rest
abbrev pub with_each : {T : Type 0} → List T → Option (List T) → Option (List T)
with_each done rest = option_map (λ xs. done ++ xs) rest

with_each_more : {T : Type 0} (done : List T) (x : T) (o : Option (List T)) → with_each done (option_map (λ xs. x ∷ xs) o) ≡ with_each (done ++ x ∷ []) o
with_each_more done x None = refl
with_each_more done x (Some xs) = ap Some (sym (append_assoc done (x ∷ []) xs))

pub each_none : {T : Type 0} (o : Option (List T)) → o ≡ with_each [] o
each_none None = refl
each_none (Some xs) = refl

-- one more item
pub each_step : {T : Type 0} (take : Data → Option T) (done : List T) (vs : List Value) (k : ℕ) (v : Value) (x : T) → k < length vs → v ≡ get_or vs k v → take (view v) ≡ Some x
    → with_each done (each_of take (items_view (drop k vs))) ≡ with_each (done ++ x ∷ []) (each_of take (items_view (drop (k + 1) vs)))
each_step take done vs k v x low same found =
    let here : take (view (get_or vs k v)) ≡ Some x = rw (← same) found in
    rw (items_view-drop vs k v low, here) (with_each_more done x _)

-- an item of which nothing is made
pub each_stop : {T : Type 0} (take : Data → Option T) (done : List T) (vs : List Value) (k : ℕ) (v : Value) → k < length vs → v ≡ get_or vs k v → take (view v) ≡ None
    → with_each done (each_of take (items_view (drop k vs))) ≡ None
each_stop take done vs k v low same refused =
    let here : take (view (get_or vs k v)) ≡ None = rw (← same) refused in
    rw (items_view-drop vs k v low, here) refl

-- after the last item
pub each_end : {T : Type 0} (take : Data → Option T) (done : List T) (vs : List Value) (k : ℕ) → length vs ≤ k → with_each done (each_of take (items_view (drop k vs))) ≡ Some done
each_end take done vs k high = rw (drop_all k vs high) (ap Some (append-nil done))

-- the items of an array, and whether they are few
pub few_items_some : (d : Data) (vs : List Value) → as_array d ≡ Some (items_view vs) → nat_le (length vs) 65536 ≡ true → few_items d ≡ Some (items_view vs)
few_items_some d vs read few = rw (read, item_count-view vs, few) refl

pub few_items_none : (d : Data) (vs : List Value) → as_array d ≡ Some (items_view vs) → nat_le (length vs) 65536 ≡ false → few_items d ≡ None
few_items_none d vs read many = rw (read, item_count-view vs, many) refl

-- arrays that have not three items
fewer : (vs : List Value) → length vs < 3 → change_of (array (items_view vs)) ≡ None
fewer [] few = refl
fewer (a ∷ []) few = refl
fewer (a ∷ b ∷ []) few = refl
fewer (a ∷ b ∷ c ∷ rest) few = absurd (omega (arith, few))

more : (vs : List Value) → 4 ≤ length vs → change_of (array (items_view vs)) ≡ None
more [] many = absurd (omega (arith, many))
more (a ∷ []) many = absurd (omega (arith, many))
more (a ∷ b ∷ []) many = absurd (omega (arith, many))
more (a ∷ b ∷ c ∷ []) many = absurd (omega (arith, many))
more (a ∷ b ∷ c ∷ d ∷ rest) many = refl

is_array : (d : Data) (items : Items) → as_array d ≡ Some items → d ≡ array items
is_array (array xs) items read = let same : xs ≡ items = cc in ap array same
is_array (string s) items read = cc
is_array (integer z) items read = cc
is_array (float x) items read = cc
is_array (boolean b) items read = cc
is_array (datetime dt) items read = cc
is_array (table m) items read = cc

pub change_of_fewer : (d : Data) (vs : List Value) → as_array d ≡ Some (items_view vs) → length vs < 3 → change_of d ≡ None
change_of_fewer d vs read few = ap change_of (is_array d (items_view vs) read) ∙ fewer vs few

pub change_of_more : (d : Data) (vs : List Value) → as_array d ≡ Some (items_view vs) → 4 ≤ length vs → change_of d ≡ None
change_of_more d vs read many = ap change_of (is_array d (items_view vs) read) ∙ more vs many
