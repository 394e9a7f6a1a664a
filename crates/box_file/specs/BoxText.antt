-- What a text says of a box: its fields, in the order in which they are looked at.
use Rattle.std.specs.Prelude.{◌≡◌, ℕ, Bool, false, codes, List, [], ◌++◌, Option, Ok, Err, unwrap_or, ◌&&◌, length, Some, None, nat_le, if◌then◌else◌}
use Rattle.std.specs.Result.{result_ok}
use Rattle.arrayvec.specs.ArrayVec.{ArrayVec}
use Rattle.si_desc.specs.declared.linkages.ServiceRef.{ServiceRef}
use Rattle.ssu_compat.specs.declared.rule.Rule.{Rule}
use Rattle.ssu_compat.specs.declared.rule.SwId.{SwId}
use Rattle.toml.specs.Data.{Members}
use Rattle.toml_fields.specs.Reading.{Reading, ◌>>=◌, or_bad, checked, document_of}
use Rattle.toml_fields.specs.Place.{Place, number, text, optional_flag, optional_text, optional_table}
use Rattle.box_file.specs.declared.file.BoxFile.{BoxFile}
use Rattle.box_file.specs.declared.file.BoxFault.{BoxFault}
use Rattle.box_file.specs.declared.file.BoxFault.TheVariants.{Field, Memory}
use Rattle.std.specs.List.{list_all}
use Rattle.std.specs.Str.{bytes_eq}
use Rattle.hex.specs.Hex.{decode_sized}
use Rattle.ssu_compat.specs.declared.rule.Rule.TheVariants.{Newer, Different, Any}

-- ---- what the texts of single fields may be

-- the rule of that name
abbrev pub rule_of : List ℕ → Option Rule
rule_of text =
    if bytes_eq text (codes "newer") then Some Newer
    else (if bytes_eq text (codes "different") then Some Different
    else (if bytes_eq text (codes "any") then Some Any else None))

-- the six bytes that twelve hexadecimal digits write, with letters in either case
abbrev pub mac_of : List ℕ → Option (List ℕ)
mac_of text = result_ok (decode_sized text 6)

-- a character from space to ~
abbrev pub is_printable : ℕ → Bool
is_printable c = nat_le 32 c && nat_le c 126

-- 1 to 32 characters from space to ~
abbrev pub is_serial : List ℕ → Bool
is_serial text = (nat_le 1 (length text) && nat_le (length text) 32) && list_all is_printable text

abbrev pub serial_of : List ℕ → Option (ArrayVec ℕ)
serial_of text = if is_serial text then Some (record { items = text }) else None

-- ---- the fields

-- the OUI, the model and the version of the hardware
unfoldable pub hardware : Place → Reading (ℕ × ℕ × ℕ)
hardware p = do
  oui ← number p (codes "oui") 0 16777215
  model ← number p (codes "model") 0 65535
  version ← number p (codes "version") 0 65535
  Ok (oui, model, version)

-- which software is accepted
unfoldable pub rule : Place → Reading Rule
rule p = do
  name ← text p (codes "rule")
  or_bad (p.prefix ++ codes "rule") (rule_of name)

-- the software that runs
unfoldable pub software : Place → Reading SwId
software p = do
  model ← number p (codes "software_model") 0 65535
  version ← number p (codes "software_version") 0 65535
  Ok (record { model = model; version = version })

-- whether updates with a user's consent are accepted, which they are not unless it is said
unfoldable pub manual : Place → Reading Bool
manual p = do
  flag ← optional_flag p (codes "manual")
  Ok (unwrap_or flag false)

unfoldable pub mac : Place → Reading (Option (List ℕ))
mac p = do
  name ← optional_text p (codes "mac")
  checked mac_of (p.prefix ++ codes "mac") name

unfoldable pub serial : Place → Reading (Option (ArrayVec ℕ))
serial p = do
  name ← optional_text p (codes "serial")
  checked serial_of (p.prefix ++ codes "serial") name

-- the parts of a service, all of which are wanted
unfoldable pub service_in : Place → Reading ServiceRef
service_in p = do
  ts ← number p (codes "ts") 0 65535
  network ← number p (codes "network") 0 65535
  service ← number p (codes "service") 1 65535
  Ok (record { ts = ts; network = network; service = service })

-- the service of a table, if each part is in its range
abbrev pub service_of : Members → Option ServiceRef
service_of members = result_ok (service_in (record { members = members; prefix = [] }))

-- the only service that is asked for updates
unfoldable pub service : Place → Reading (Option ServiceRef)
service p = do
  found ← optional_table p (codes "service")
  checked service_of (p.prefix ++ codes "service") found

-- the box that a table tells of
unfoldable pub box_in : Place → Reading BoxFile
box_in p = do
  which ← hardware p
  accepts ← rule p
  runs ← software p
  asks ← manual p
  address ← mac p
  number ← serial p
  only ← service p
  Ok (record {
    id = record { oui = which.0; model = which.1; version = which.2; mac = address; serial = number };
    rule = accepts;
    manual = asks;
    service = only;
    software = runs;
  })

-- the box that a text tells of, or the name of its first bad field, in this order: `text` for a text
-- that is no TOML or no UTF-8, then oui, model, version, rule, software_model, software_version,
-- manual, mac, serial and service
unfoldable pub box_of : List ℕ → Reading BoxFile
box_of bytes = do
  members ← or_bad (codes "text") (document_of bytes)
  box_in (record { members = members; prefix = [] })

-- a fault is the reading's first bad field, or comes from want of memory
abbrev pub IsFaultOf : Reading BoxFile → BoxFault → Type 0
IsFaultOf reading (Field name) = reading ≡ Err name.bytes
IsFaultOf reading Memory = Unit {0}
