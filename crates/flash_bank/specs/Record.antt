-- A record: 32 bytes that stand as 64, in pairs, in the front of a record block. By bytes: 0 to 3 the magic, `SSU1` or `SSU2`
-- by the layout, 4 to 7 the number, 8 the bank, 12 to 15 the length of the image, 16 to 19 the software's model and version,
-- 20 to 23 the group id; 9 to 11 and 24 to 31 are zero.
use Rattle.std.specs.Prelude.{◌≡◌, ◌⊎◌, ℕ, ◌+◌, ◌-◌, ◌/◌, ◌%◌, ◌^◌, ◌<◌, ◌≤◌, ◌==◌, if◌then◌else◌, List, [], ◌∷◌}
use Rattle.flash_layout.specs.Pairs.{AreWhole, byte_at, half_at, paired, word_at}
use Rattle.flash_bank.specs.declared.record.Record.{Record}
use Rattle.ssu_compat.specs.declared.rule.SwId.{SwId}

-- the layout of a record with this magic
abbrev pub layout_of : ℕ → ℕ
layout_of magic = if magic == 0x53535532 then 2 else 1

-- the record that these bytes stand for
abbrev pub record_of : List ℕ → Record
record_of bytes = record {
  layout = layout_of (word_at bytes 0);
  number = word_at bytes 4;
  bank = byte_at bytes 8;
  length = word_at bytes 12;
  software = record { model = half_at bytes 16; version = half_at bytes 18 };
  group = word_at bytes 20;
}

-- The record in these bytes is valid, where Allows says which magic, bank and length may stand together.
pub record IsValid (Allows : ℕ → ℕ → ℕ → Type 0) (bytes : List ℕ) : Type 0 where
  pub whole : AreWhole bytes 32
  pub after_bank : (i : ℕ) → 9 ≤ i → i < 12 → byte_at bytes i ≡ 0
  pub after_group : (i : ℕ) → 24 ≤ i → i < 32 → byte_at bytes i ≡ 0
  pub allowed : Allows (word_at bytes 0) (byte_at bytes 8) (word_at bytes 12)

-- the 32 bytes of a record
abbrev pub spelled : Record → List ℕ
spelled r =
    0x53 ∷ 0x53 ∷ 0x55 ∷ (0x30 + r.layout)
    ∷ (r.number / 16777216) ∷ (r.number / 65536 % 256) ∷ (r.number / 256 % 256) ∷ (r.number % 256)
    ∷ r.bank ∷ 0 ∷ 0 ∷ 0
    ∷ (r.length / 16777216) ∷ (r.length / 65536 % 256) ∷ (r.length / 256 % 256) ∷ (r.length % 256)
    ∷ (r.software.model / 256) ∷ (r.software.model % 256) ∷ (r.software.version / 256) ∷ (r.software.version % 256)
    ∷ (r.group / 16777216) ∷ (r.group / 65536 % 256) ∷ (r.group / 256 % 256) ∷ (r.group % 256)
    ∷ 0 ∷ 0 ∷ 0 ∷ 0 ∷ 0 ∷ 0 ∷ 0 ∷ 0 ∷ []

-- the 64 bytes that are programmed for a record
abbrev pub written : Record → List ℕ
written r = paired (spelled r)

-- the record that follows this one, for an image of this length in the other area
abbrev pub next_record : Record → ℕ → SwId → ℕ → Record
next_record former len software group = record {
  layout = former.layout;
  number = former.number + 1;
  bank = 1 - former.bank;
  length = len;
  software = software;
  group = group;
}

-- the fields of a record are in the range of their types
pub record IsInRange (head : Record) : Type 0 where
  pub layout : (head.layout ≡ 1) ⊎ (head.layout ≡ 2)
  pub number : head.number < 2 ^ 32
  pub bank : head.bank < 256
  pub len : head.length < 2 ^ 32
  pub model : head.software.model < 2 ^ 16
  pub version : head.software.version < 2 ^ 16
  pub group : head.group < 2 ^ 32
