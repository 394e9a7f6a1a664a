-- What an audit stands for.
use Rattle.std.specs.Prelude.{◌≡◌, ℕ, ◌+◌, ◌-◌, ◌^◌, min, Bool, List, map, Option}
use Rattle.std.specs.HashMap.{hash_map_len}
use Rattle.std.specs.Option.{option_map}
use Rattle.dsmcc_msg.specs.Control.{DiiFields}
use Rattle.ssu_unt.specs.Table.{UntFields}
use Rattle.ssu_audit.specs.declared.audit.Audit.{Audit}
use Rattle.ssu_audit.specs.declared.key.BlockKey.{BlockKey}
use Rattle.ssu_audit.specs.Calls.{Call, first_in_notice, number_after}
use Rattle.ssu_audit.specs.Hearing.{IsOpen, first_block, first_dii, first_dsi, keys_heard}
use Rattle.ssu_audit.specs.Kept.{block_at, dii_at, first_kept, kept_of}
use Rattle.ssu_audit.specs.Said.{notice_with}

abbrev pub message_of_dii : ℕ × DiiFields → ℕ × List ℕ
message_of_dii first = (first.0, first.1.message)

abbrev pub number_in : ℕ × UntFields → ℕ
number_in first = first.0

-- What is kept, seen as functions and lists, is what the calls say, and no call was answered by a fact.
pub record Holds (calls : List Call) (heard : ℕ) (dsi : Option (ℕ × List ℕ)) (diis : ℕ → Option (ℕ × List ℕ))
    (blocks : BlockKey → Option (ℕ × List ℕ)) (keys : ℕ) (notices : List (ℕ × List ℕ)) : Type 0 where
  pub undecided : IsOpen calls
  pub counted : heard ≡ number_after calls
  pub first : dsi ≡ first_dsi calls
  pub first_of : (group : ℕ) → diis group ≡ option_map message_of_dii (first_dii group calls)
  pub first_with : (key : BlockKey) → blocks key ≡ first_block key calls
  pub different : keys ≡ keys_heard calls
  pub notice : (test : UntFields → Bool) → first_kept test notices ≡ option_map number_in (first_in_notice (notice_with test) calls)

-- What is kept of DIIs and blocks is what the calls say, and no call was answered by a fact.
pub record HoldsGroups (calls : List Call) (diis : ℕ → Option (ℕ × List ℕ)) (blocks : BlockKey → Option (ℕ × List ℕ)) : Type 0 where
  pub undecided : IsOpen calls
  pub first_of : (group : ℕ) → diis group ≡ option_map message_of_dii (first_dii group calls)
  pub first_with : (key : BlockKey) → blocks key ≡ first_block key calls

-- The audit stands for these calls, the newest first.
abbrev pub Stands : List Call → Audit → Type 0
Stands calls a =
    Holds calls a.heard (option_map kept_of a.dsi) (dii_at a.diis) (block_at a.blocks) (hash_map_len a.blocks) (map kept_of a.notices.items)

-- It stands for these calls once the last of them is counted.
abbrev pub StandsOnceCounted : List Call → Audit → Type 0
StandsOnceCounted calls a =
    Holds calls (min (a.heard + 1) (2 ^ 64 - 1)) (option_map kept_of a.dsi) (dii_at a.diis) (block_at a.blocks) (hash_map_len a.blocks)
    (map kept_of a.notices.items)

-- It stands for some calls: none of them was answered by a fact.
abbrev pub IsUsable : Audit → Type 0
IsUsable a = (calls : List Call) × Stands calls a
