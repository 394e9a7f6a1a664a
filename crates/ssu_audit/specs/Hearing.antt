-- What `hear` answers.
use Rattle.std.specs.Prelude.{◌≡◌, ℕ, ◌+◌, Bool, false, not, ◌&&◌, ◌==◌, List, [], ◌∷◌, Option, Some, None, if◌then◌else◌}
use Rattle.std.specs.Option.{option_and_then, option_or, is_none}
use Rattle.std.specs.Str.{bytes_eq}
use Rattle.dsmcc_msg.specs.Block.{DdbFields, ddb}
use Rattle.dsmcc_msg.specs.Control.{DiiFields, dii, dsi}
use Rattle.audit_answer.specs.declared.answers.AuditNo.{AuditNo}
use Rattle.audit_answer.specs.declared.answers.AuditNo.TheVariants.{BlockDiffers, DsiDiffers, DiiDiffers, TooManyBlocks}
use Rattle.ssu_audit.specs.declared.key.BlockKey.{BlockKey}
use Rattle.ssu_audit.specs.Calls.{Call, first_in_carousel, number_after}
use Rattle.ssu_audit.specs.Said.{block_with, dii_of_group, dsi_section, key_of, message_of, other_than}

-- ---- what was heard first

-- the number and the bytes of the first block with this key
abbrev pub first_block : BlockKey → List Call → Option (ℕ × List ℕ)
first_block key calls = first_in_carousel (block_with key) calls

-- the number and the fields of the first DII with this transaction id
abbrev pub first_dii : ℕ → List Call → Option (ℕ × DiiFields)
first_dii group calls = first_in_carousel (dii_of_group group) calls

-- the number of the first DSI, and its section
abbrev pub first_dsi : List Call → Option (ℕ × List ℕ)
first_dsi calls = first_in_carousel dsi_section calls

-- ---- different keys

-- Is this a block whose key no earlier block has?
abbrev pub is_new_key : List Call → DdbFields → Bool
is_new_key earlier d = is_none (first_block (key_of d) earlier)

abbrev pub brings_key : List Call → Option DdbFields → Bool
brings_key earlier None = false
brings_key earlier (Some d) = is_new_key earlier d

-- how many different keys the blocks of the carousel have
unfoldable pub keys_heard : List Call → ℕ
keys_heard [] = 0
keys_heard (call ∷ earlier) =
    keys_heard earlier + (if not call.notice && brings_key earlier (ddb.of call.section) then 1 else 0)

-- the most keys that an audit keeps
abbrev pub most_keys : ℕ
most_keys = 65536

-- ---- the facts against a section of the carousel that comes after these calls

abbrev pub differs_from : (ℕ → ℕ → AuditNo) → List Call → ℕ → Option AuditNo
differs_from fact earlier first = Some (fact first (number_after earlier))

-- it is a block whose key an earlier one has with other bytes
unfoldable pub block_differs : List Call → List ℕ → Option AuditNo
block_differs earlier section =
    option_and_then (λ d.
    option_and_then (λ first. differs_from BlockDiffers earlier first.0) (first_in_carousel (other_than d) earlier))
    (ddb.of section)

-- it is a DSI whose message differs from the first DSI's
unfoldable pub dsi_differs : List Call → List ℕ → Option AuditNo
dsi_differs earlier section =
    option_and_then (λ d.
    option_and_then (λ first.
    if bytes_eq (message_of first.1) (message_of section) then None else differs_from DsiDiffers earlier first.0)
    (first_dsi earlier))
    (dsi.of section)

-- it is a DII whose message differs from that of the first with its transaction id
unfoldable pub dii_differs : List Call → List ℕ → Option AuditNo
dii_differs earlier section =
    option_and_then (λ d.
    option_and_then (λ first. if bytes_eq first.1.message d.message then None else differs_from DiiDiffers earlier first.0)
    (first_dii d.transaction earlier))
    (dii.of section)

-- it is a block whose key is the 65,537th
unfoldable pub too_many : List Call → List ℕ → Option AuditNo
too_many earlier section =
    option_and_then (λ d.
    if is_new_key earlier d && (keys_heard earlier == most_keys) then Some (TooManyBlocks (keys_heard earlier + 1)) else None)
    (ddb.of section)

-- ---- the answer

-- The answer to a section of the carousel. A section is at most one of a block, a DSI and a DII.
unfoldable pub answer_in_carousel : List Call → List ℕ → Option AuditNo
answer_in_carousel earlier section =
    option_or (block_differs earlier section) (
    option_or (dsi_differs earlier section) (
    option_or (dii_differs earlier section) (
    too_many earlier section)))

-- Nothing stands against a section of a notice while it is heard.
abbrev pub answer_to : List Call → Call → Option AuditNo
answer_to earlier call = if call.notice then None else answer_in_carousel earlier call.section

-- No call was answered by a fact.
unfoldable pub IsOpen : List Call → Type 0
IsOpen [] = Unit {0}
IsOpen (call ∷ earlier) = (answer_to earlier call ≡ None) × IsOpen earlier
