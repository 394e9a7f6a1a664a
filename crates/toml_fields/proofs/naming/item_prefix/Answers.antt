use Rattle.std.proofs.Common.{◌≡◌, ◌<◌, ◌≤◌, ℕ, List, length, arith, lit<, ap, length-append}
use Rattle.std.specs.Prelude.{decimal}
use Rattle.std.proofs.lemmas.Fmt.{length-decimal-le}
use Rattle.toml_fields.proofs.naming.item_prefix.Goals as goal

-- an index below 100 has at most two digits
short : (n : ℕ) (text : List ℕ) → text ≡ decimal n → n < 100 → length text ≤ 2
short n text same few = rw same (length-decimal-le 2 n (omega arith) few (omega arith))

pub push_str-requires : goal.push_str-requires
push_str-requires c =
    let two = short c.args.index c.format-digits.result.now c.format-digits.ensures.text c.requires.few in
    let front = ap length c.field_name-prefix.ensures in
    (lit< tt, omega (arith, two, front, length-append {A = ℕ}))

pub push_str-requires-2 : goal.push_str-requires-2
push_str-requires-2 c =
    let two = short c.args.index c.format-digits.result.now c.format-digits.ensures.text c.requires.few in
    let front = ap length c.field_name-prefix.ensures in
    (lit< tt, omega (arith, two, front, c.push_str.ensures.len, length-append {A = ℕ}))

pub returns-clause-length : goal.returns-clause-length
returns-clause-length c =
    let two = short c.args.index c.format-digits.result.now c.format-digits.ensures.text c.requires.few in
    let front = ap length c.field_name-prefix.ensures in
    omega (arith, two, front, c.push_str.ensures.len, c.push_str-2.ensures.len, length-append {A = ℕ})
