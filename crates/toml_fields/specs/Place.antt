-- A table of a file, and its fields by their names.
use Rattle.std.specs.Prelude.{ℕ, pos, ◌+◌, Bool, true, ◌&&◌, List, [], ◌++◌, Option, Some, None, is_some, nat_le, if◌then◌else◌, option_and_then}
use Rattle.std.specs.Option.{option_to_list}
use Rattle.toml.specs.Data.{Data, integer, Items, no_items, item, Members, get_member, as_str, as_bool, as_array, as_table}
use Rattle.toml.specs.View.{table_view}
use Rattle.toml_fields.specs.declared.fields.Fields.{Fields}
use Rattle.toml_fields.specs.Reading.{Reading, or_bad, checked, ◌>>=◌}

-- a table, and what stands before the names of its fields where a bad one is named
pub record Place : Type 0 where
  pub members : Members
  pub prefix : List ℕ

-- the place that `Fields` stands for
abbrev pub place : Fields → Place
place f = record { members = table_view f.table.now; prefix = f.prefix.now }

-- the value of a field, if there is one
abbrev pub find_field : Place → List ℕ → Option Data
find_field p name = get_member name p.members

-- the field as `take` reads it; it is bad where it is missing, or `take` refuses it
abbrev pub required : {T : Type 0} → (Data → Option T) → Place → List ℕ → Reading T
required take p name = or_bad (p.prefix ++ name) (option_and_then take (find_field p name))

-- the field as `take` reads it, or None where it is missing; it is bad where `take` refuses it
abbrev pub optional : {T : Type 0} → (Data → Option T) → Place → List ℕ → Reading (Option T)
optional take p name = checked take (p.prefix ++ name) (find_field p name)

-- the whole number that a value is, if it lies in the range
abbrev pub whole_in : ℕ → ℕ → Data → Option ℕ
whole_in least most (integer (pos n)) = if nat_le least n && nat_le n most then Some n else None
whole_in least most _ = None

-- how many items there are
abbrev pub item_count : Items → ℕ
item_count no_items = 0
item_count (item _ rest) = 1 + item_count rest

-- whether each item is a table
abbrev pub each_is_table : Items → Bool
each_is_table no_items = true
each_is_table (item d rest) = is_some (as_table d) && each_is_table rest

-- the tables among the items, in order
abbrev pub tables_in : Items → List Members
tables_in no_items = []
tables_in (item d rest) = option_to_list (as_table d) ++ tables_in rest

-- whether there are `least` to `most` items, and each is a table
abbrev pub are_tables : ℕ → ℕ → Items → Bool
are_tables least most items =
    (nat_le least (item_count items) && nat_le (item_count items) most) && each_is_table items

-- the tables of such an array
abbrev pub tables_of : ℕ → ℕ → Items → Option (List Members)
tables_of least most items = if are_tables least most items then Some (tables_in items) else None

-- the fields of one kind each
abbrev pub number : Place → List ℕ → ℕ → ℕ → Reading ℕ
number p name least most = required (whole_in least most) p name

abbrev pub optional_number : Place → List ℕ → ℕ → ℕ → Reading (Option ℕ)
optional_number p name least most = optional (whole_in least most) p name

abbrev pub optional_flag : Place → List ℕ → Reading (Option Bool)
optional_flag = optional as_bool

abbrev pub text : Place → List ℕ → Reading (List ℕ)
text = required as_str

abbrev pub optional_text : Place → List ℕ → Reading (Option (List ℕ))
optional_text = optional as_str

abbrev pub optional_table : Place → List ℕ → Reading (Option Members)
optional_table = optional as_table

abbrev pub array : Place → List ℕ → Reading Items
array = required as_array

abbrev pub optional_array : Place → List ℕ → Reading (Option Items)
optional_array = optional as_array

abbrev pub tables : Place → List ℕ → ℕ → ℕ → Reading (List Members)
tables p name least most = do
  items ← array p name
  or_bad (p.prefix ++ name) (tables_of least most items)
