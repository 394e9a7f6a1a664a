-- What a text says of a script: its fields, in the order in which they are looked at.
use Rattle.std.specs.Prelude.{◌≡◌, ℕ, Bool, not, ◌||◌, codes, List, [], ◌∷◌, ◌++◌, Option, Some, None, is_some, Ok, Err, nat_le}
use Rattle.std.specs.Prelude.{if◌then◌else◌, unwrap_or, map, option_map, option_and_then}
use Rattle.toml.specs.Data.{Data, array, Items, no_items, item, as_array}
use Rattle.toml_fields.specs.Reading.{Reading, ◌>>=◌, or_bad, document_of}
use Rattle.toml_fields.specs.Place.{Place, find_field, item_count, optional, optional_number, whole_in}
use Rattle.air_channel.specs.Scripts.{ScriptData, byte_number, most_entries, most_number, rises}
use Rattle.air_channel.specs.declared.change.Change.{Change}
use Rattle.air_channel.specs.declared.fault.ScriptFault.{ScriptFault}
use Rattle.air_channel.specs.declared.fault.ScriptFault.TheVariants.{Field, Memory}
use Rattle.air_channel.specs.declared.loss.RegularLoss.{RegularLoss}

-- the value, if it passes the test
abbrev pub such : {T : Type 0} → (T → Bool) → T → Option T
such passes x = if passes x then Some x else None

-- the items of an array of at most 65,536
abbrev pub few_items : Data → Option Items
few_items d = option_and_then (such (λ items. nat_le (item_count items) most_entries)) (as_array d)

-- what `take` makes of each item, if it refuses none
abbrev pub each_of : {T : Type 0} → (Data → Option T) → Items → Option (List T)
each_of take no_items = Some []
each_of take (item d rest) = option_and_then (λ x. option_map (λ xs. x ∷ xs) (each_of take rest)) (take d)

-- a packet number
abbrev pub number_of : Data → Option ℕ
number_of = whole_in 0 most_number

-- an array of packet numbers, each at least `gap` more than the one before it
unfoldable pub numbers_of : ℕ → Data → Option (List ℕ)
numbers_of gap d = option_and_then (such (rises gap 0)) (option_and_then (each_of number_of) (few_items d))

-- an array of a packet number, an offset and a byte
abbrev pub change_of : Data → Option Change
change_of (array (item packet (item offset (item byte no_items)))) =
    option_and_then (λ n.
    option_and_then (λ o.
    option_map (λ b. record { packet = n; offset = o; byte = b })
    (whole_in 0 255 byte)) (whole_in 0 187 offset)) (number_of packet)
change_of _ = None

-- an array of such arrays, strictly ascending by packet number and offset
unfoldable pub changes_of : Data → Option (List Change)
changes_of d = option_and_then (such (λ changes. rises 1 0 (map byte_number changes))) (option_and_then (each_of change_of) (few_items d))

-- the packet numbers of a field, none where it is missing
unfoldable pub numbers : ℕ → Place → List ℕ → Reading (List ℕ)
numbers gap p name = do
  found ← optional (numbers_of gap) p name
  Ok (unwrap_or found [])

-- the bytes that are changed, none where the field is missing
unfoldable pub changes : Place → Reading (List Change)
changes p = do
  found ← optional changes_of p (codes "set")
  Ok (unwrap_or found [])

-- the field of this name is bad where it is missing beside one that is there
abbrev pub beside : Bool → List ℕ → Option ℕ → Reading (Option ℕ)
beside other name found = if is_some found || not other then Ok found else Err name

-- whether there is a field of this name
abbrev pub has : Place → List ℕ → Bool
has p name = is_some (find_field p name)

-- the regular loss of both numbers, none where there are none
abbrev pub loss_of : Option ℕ → Option ℕ → Option RegularLoss
loss_of every until = option_and_then (λ e. option_map (λ u. record { every = e; until = u }) until) every

-- one place of how many is left out, and below which: both numbers or none
unfoldable pub loss : Place → Reading (Option RegularLoss)
loss p = do
  one ← optional_number p (codes "drop_every") 2 65535
  every ← beside (has p (codes "drop_until")) (p.prefix ++ codes "drop_every") one
  other ← optional_number p (codes "drop_until") 0 16777216
  until ← beside (has p (codes "drop_every")) (p.prefix ++ codes "drop_until") other
  Ok (loss_of every until)

-- the script that a table tells of
unfoldable pub script_in : Place → Reading ScriptData
script_in p = do
  set_ ← changes p
  swap ← numbers 2 p (codes "swap")
  drop ← numbers 1 p (codes "drop")
  repeat ← numbers 1 p (codes "repeat")
  often ← loss p
  Ok (record {
    changes = set_;
    swaps = swap;
    drops = drop;
    repeats = repeat;
    loss = often;
  })

-- what stands before the name of each field
abbrev pub prefix : List ℕ
prefix = codes "script."

-- the script that a text tells of, or the name of its first bad field, in this order: `script.text` for a text that is
-- no TOML or no UTF-8, then script.set, script.swap, script.drop, script.repeat, script.drop_every and script.drop_until
unfoldable pub script_of : List ℕ → Reading ScriptData
script_of bytes = do
  members ← or_bad (prefix ++ codes "text") (document_of bytes)
  script_in (record { members = members; prefix = prefix })

-- a fault is the reading's first bad field, or comes from want of memory
abbrev pub IsFaultOf : {T : Type 0} → Reading T → ScriptFault → Type 0
IsFaultOf reading (Field name) = reading ≡ Err name.bytes
IsFaultOf reading Memory = Unit {0}
