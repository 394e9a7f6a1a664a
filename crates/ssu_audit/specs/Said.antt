-- What one section says: the bytes of a block with a key, a DII of a group, a DSI, or a notice.
use Rattle.std.specs.Prelude.{ℕ, Bool, ◌&&◌, ◌==◌, List, [], Option, Some, None, if◌then◌else◌}
use Rattle.std.specs.Option.{option_and_then, option_map, unwrap_or}
use Rattle.std.specs.Str.{bytes_eq}
use Rattle.section_form.specs.Long.{long_form, body_of}
use Rattle.dsmcc_msg.specs.Block.{DdbFields, ddb}
use Rattle.dsmcc_msg.specs.Control.{DiiFields, dii, dsi}
use Rattle.ssu_unt.specs.Table.{UntFields, unt}
use Rattle.ssu_audit.specs.declared.key.BlockKey.{BlockKey}

-- ---- blocks

-- A block is known by its downloadId, moduleId, moduleVersion and blockNumber.
abbrev pub key_of : DdbFields → BlockKey
key_of d = record { download = d.download; module_id = d.module_id; version = d.version; block = d.block }

abbrev pub same_key : BlockKey → BlockKey → Bool
same_key a b = a.download == b.download && (a.module_id == b.module_id && (a.version == b.version && a.block == b.block))

-- the bytes of the block, if it has this key
abbrev pub bytes_under : BlockKey → DdbFields → Option (List ℕ)
bytes_under key d = if same_key key (key_of d) then Some d.bytes else None

-- the bytes of the block that the section is, if it is one with this key
unfoldable pub block_with : BlockKey → List ℕ → Option (List ℕ)
block_with key section = option_and_then (bytes_under key) (ddb.of section)

-- other bytes than these
abbrev pub if_other : List ℕ → List ℕ → Option (List ℕ)
if_other bytes found = if bytes_eq found bytes then None else Some found

-- the bytes of the block that the section is, if it has the key of this block and other bytes
unfoldable pub other_than : DdbFields → List ℕ → Option (List ℕ)
other_than d section = option_and_then (if_other d.bytes) (block_with (key_of d) section)

-- ---- control messages

abbrev pub if_of : ℕ → DiiFields → Option DiiFields
if_of group d = if group == d.transaction then Some d else None

-- The DII that the section is, if it has this transaction id. All 32 bits of the id are looked at.
unfoldable pub dii_of_group : ℕ → List ℕ → Option DiiFields
dii_of_group group section = option_and_then (if_of group) (dii.of section)

-- the section, if it is a DSI
unfoldable pub dsi_section : List ℕ → Option (List ℕ)
dsi_section section = option_map (λ d. section) (dsi.of section)

-- The message of a section in the long form is its body.
unfoldable pub message_of : List ℕ → List ℕ
message_of section = unwrap_or (option_map body_of (long_form.of section)) []

-- ---- notices

abbrev pub if_passes : (UntFields → Bool) → UntFields → Option UntFields
if_passes test u = if test u then Some u else None

-- the Update Notification Table that the section is, if it passes the test
unfoldable pub notice_with : (UntFields → Bool) → List ℕ → Option UntFields
notice_with test section = option_and_then (if_passes test) (unt.of section)
