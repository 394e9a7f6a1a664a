-- The groups, table by table.
use Rattle.std.proofs.Common.{◌≡◌, ℕ, ◌+◌, ◌<◌, ◌≤◌, suc, List, [], ◌∷◌, ◌++◌, length, get_or, drop, Some, None, Ok, Err, codes, refl, sym, ap, append_assoc, add-one}
use Rattle.std.proofs.lemmas.List.{drop_all, append-nil}
use Rattle.toml.specs.Data.{Members, as_table}
use Rattle.toml.specs.View.{view, items_view}
use Rattle.toml.specs.declared.value.Value.{Value}
use Rattle.toml.proofs.Views.{items_view-drop}
use Rattle.toml_fields.specs.Reading.{Reading, ◌>>=◌}
use Rattle.toml_fields.specs.Place.{Place, tables, tables_in}
use Rattle.head_plan.specs.Plans.{GroupData}
use Rattle.head_plan.specs.PlanText.{group_at, groups_from, groups, IsFaultOf}
use Rattle.head_plan.specs.declared.fault.PlanFault.{PlanFault}
use Rattle.head_plan.specs.declared.fault.PlanFault.TheVariants.{Field, Memory}

-- the groups so far, and those of the rest
abbrev pub with_groups : List GroupData → Reading (List GroupData) → Reading (List GroupData)
with_groups done (Ok groups) = Ok (done ++ groups)
with_groups done (Err name) = Err name

pub with_groups-none : (r : Reading (List GroupData)) → r ≡ with_groups [] r
with_groups-none (Ok groups) = refl
with_groups-none (Err name) = refl

-- the tables of the items from a place on
abbrev pub tables_from : List Value → ℕ → List Members
tables_from vs k = tables_in (items_view (drop k vs))

pub tables_from-table : (vs : List Value) (k : ℕ) (v : Value) (fields : Members) → k < length vs → v ≡ get_or vs k v → as_table (view v) ≡ Some fields → tables_from vs k ≡ fields ∷ tables_from vs (k + 1)
tables_from-table vs k v fields low same found =
    let here : as_table (view (get_or vs k v)) ≡ Some fields = rw (← same) found in
    rw (items_view-drop vs k v low, here)

pub tables_from-other : (vs : List Value) (k : ℕ) (v : Value) → k < length vs → v ≡ get_or vs k v → as_table (view v) ≡ None → tables_from vs k ≡ tables_from vs (k + 1)
tables_from-other vs k v low same refused =
    let here : as_table (view (get_or vs k v)) ≡ None = rw (← same) refused in
    rw (items_view-drop vs k v low, here)

pub tables_from-end : (vs : List Value) (k : ℕ) → length vs ≤ k → tables_from vs k ≡ []
tables_from-end vs k high = rw (drop_all k vs high)

with_groups-more : (done : List GroupData) (group : GroupData) (r : Reading (List GroupData)) → with_groups done (r >>= λ others. Ok (group ∷ others)) ≡ with_groups (done ++ group ∷ []) r
with_groups-more done group (Ok others) = ap Ok (sym (append_assoc done (group ∷ []) others))
with_groups-more done group (Err name) = refl

groups_from-first : (n : ℕ) (fields : Members) (rest : List Members) (group : GroupData) → group_at n fields ≡ Ok group → groups_from n (fields ∷ rest) ≡ (groups_from (suc n) rest >>= λ others. Ok (group ∷ others))
unfolding groups_from
groups_from-first n fields rest group found = rw found

groups_from-bad : (n : ℕ) (fields : Members) (rest : List Members) (name : List ℕ) → group_at n fields ≡ Err name → groups_from n (fields ∷ rest) ≡ Err name
unfolding groups_from
groups_from-bad n fields rest name found = rw found

groups_from-nil : (n : ℕ) → groups_from n [] ≡ Ok []
unfolding groups_from
groups_from-nil n = refl

-- one more group
pub groups_from-step : (done : List GroupData) (n : ℕ) (ts : List Members) (fields : Members) (rest : List Members) (group : GroupData) → ts ≡ fields ∷ rest → group_at n fields ≡ Ok group
    → with_groups done (groups_from n ts) ≡ with_groups (done ++ group ∷ []) (groups_from (n + 1) rest)
groups_from-step done n ts fields rest group split found =
    rw (split, groups_from-first n fields rest group found, add-one) (with_groups-more done group (groups_from (suc n) rest))

-- a bad group
pub groups_from-stop : (done : List GroupData) (n : ℕ) (ts : List Members) (fields : Members) (rest : List Members) (name : List ℕ) → ts ≡ fields ∷ rest → group_at n fields ≡ Err name
    → with_groups done (groups_from n ts) ≡ Err name
groups_from-stop done n ts fields rest name split found = rw (split, groups_from-bad n fields rest name found)

-- after the last table
pub groups_from-end : (done : List GroupData) (n : ℕ) (ts : List Members) → ts ≡ [] → with_groups done (groups_from n ts) ≡ Ok done
groups_from-end done n ts empty = rw (empty, groups_from-nil n) (ap Ok (append-nil done))

-- the groups of an array of tables
pub groups-read : (p : Place) (ts : List Members) → tables p (codes "group") 1 16 ≡ Ok ts → groups p ≡ groups_from 0 ts
unfolding groups
groups-read p ts read = rw read

-- a fault of a part is one of the whole, if the whole is bad where the part is
pub IsFaultOf-part : {A B : Type 0} (part : Reading A) (whole : Reading B) (fault : PlanFault) → IsFaultOf part fault → ((name : List ℕ) → part ≡ Err name → whole ≡ Err name) → IsFaultOf whole fault
IsFaultOf-part part whole (Field name) bad further = further name.bytes bad
IsFaultOf-part part whole Memory bad further = tt
