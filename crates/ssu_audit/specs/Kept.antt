-- What is kept of the sections that were heard first.
use Rattle.std.specs.Prelude.{◌≡◌, ℕ, ◌+◌, Bool, ◌==◌, List, [], ◌∷◌, Option, Some, None, nat_eq, if◌then◌else◌}
use Rattle.std.specs.HashMap.{HashMap, get}
use Rattle.std.specs.Option.{is_none, option_map, option_or}
use Rattle.std.specs.Str.{bytes_eq}
use Rattle.audit_answer.specs.declared.answers.AuditNo.{AuditNo}
use Rattle.audit_answer.specs.declared.answers.AuditNo.TheVariants.{BlockDiffers, DsiDiffers, DiiDiffers, TooManyBlocks}
use Rattle.ssu_unt.specs.Table.{UntFields}
use Rattle.ssu_audit.specs.declared.kept.Kept.{Kept}
use Rattle.ssu_audit.specs.declared.key.BlockKey.{BlockKey}
use Rattle.ssu_audit.specs.Said.{message_of, notice_with, same_key}

-- a number and bytes
abbrev pub kept_of : Kept → ℕ × List ℕ
kept_of k = (k.number, k.bytes.items)

abbrev pub block_at : {S : Type 0} → HashMap BlockKey Kept S → BlockKey → Option (ℕ × List ℕ)
block_at blocks key = option_map kept_of (get same_key blocks key)

abbrev pub dii_at : {S : Type 0} → HashMap ℕ Kept S → ℕ → Option (ℕ × List ℕ)
dii_at diis group = option_map kept_of (get nat_eq diis group)

-- `now` has what was kept before, and under the key, if nothing was, this.
abbrev pub KeepsFirst : {K : Type 0} → (K → K → Bool) → (K → Option (ℕ × List ℕ)) → (K → Option (ℕ × List ℕ)) → K → ℕ × List ℕ
    → Type 0
KeepsFirst {K} same before now key value =
    (other : K) → now other ≡ option_or (before other) (if same other key then Some value else None)

-- how many keys there are with this one, where this was kept under it
abbrev pub one_more : Option (ℕ × List ℕ) → ℕ → ℕ
one_more before keys = keys + (if is_none before then 1 else 0)

-- ---- what comes of one section more, where this was kept before

-- a block with these bytes, where so many keys are kept
abbrev pub block_answer : Option (ℕ × List ℕ) → ℕ → ℕ → List ℕ → Option AuditNo
block_answer (Some first) keys number bytes = if bytes_eq first.1 bytes then None else Some (BlockDiffers first.0 number)
block_answer None keys number bytes = if keys == 65536 then Some (TooManyBlocks 65537) else None

-- a DII with this message
abbrev pub dii_answer : Option (ℕ × List ℕ) → ℕ → List ℕ → Option AuditNo
dii_answer (Some first) number message = if bytes_eq first.1 message then None else Some (DiiDiffers first.0 number)
dii_answer None number message = None

-- a DSI that is this section
abbrev pub dsi_answer : Option (ℕ × List ℕ) → ℕ → List ℕ → Option AuditNo
dsi_answer (Some first) number section =
    if bytes_eq (message_of first.1) (message_of section) then None else Some (DsiDiffers first.0 number)
dsi_answer None number section = None

-- ---- notices

abbrev pub has_bytes : List ℕ → Kept → Bool
has_bytes bytes k = bytes_eq k.bytes.items bytes

-- the number of the first notice kept that passes the test
unfoldable pub first_kept : (UntFields → Bool) → List (ℕ × List ℕ) → Option ℕ
first_kept test [] = None
first_kept test (k ∷ later) = option_or (option_map (λ u. k.0) (notice_with test k.1)) (first_kept test later)
