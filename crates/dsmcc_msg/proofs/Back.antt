-- What the writers make is spelled so as the readers read it.
use Rattle.std.proofs.Common.{false, ℕ, ◌<◌, ◌≤◌, ◌^◌, List, [], ◌++◌, length, replicate, refl, arith}
use Rattle.std.proofs.lemmas.Bool.{le-leb}
use Rattle.std.proofs.lemmas.List.{length-append}
use Rattle.wire.specs.Format.{SpellsEach}
use Rattle.wire.proofs.Laws.{pair_put, sized_put}
use Rattle.wire.specs.Number.{bytes_of, number}
use Rattle.wire.proofs.Numbers.{number1_put, number2_put, number4_put}
use Rattle.ssu_compat.specs.Compat.{EntryFields, compat}
use Rattle.section_form.proofs.LongLaws.{Fits, long_spelled}
use Rattle.dsmcc_msg.specs.Message.{message, protocol_discriminator, dsmcc_type}
use Rattle.dsmcc_msg.specs.Control.{GroupFields, group_entry, group_list, dsi_payload, dsi_id, dsi_message, dsi, dii_id, dii_message, dii, ModuleFields, module_entry, dii_payload}
use Rattle.dsmcc_msg.specs.Block.{ddb_payload, ddb_id, ddb_message, ddb, DdbFields}
use Rattle.dsmcc_msg.specs.Written.{DsiDraft, dsi_head, dsi_bytes, DiiDraft, dii_of, dii_head, dii_bytes, ddb_bytes, dii_message_bytes, ddb_head, ddb_payload_bytes, message_bytes, group_bytes, group_list_bytes, dsi_payload_bytes, module_bytes, dii_payload_bytes}

pub message_put : (id transaction : ℕ) (payload : List ℕ) → id < 2 ^ 16 → transaction < 2 ^ 32 → length payload < 2 ^ 16 →
    message.Spells (record { id = id; transaction = transaction; payload = payload }) (message_bytes id transaction payload)
unfolding message
message_put id transaction payload i t p = (
  (tt, (tt, (id, (transaction, (tt, (0, payload)))))),
  refl,
  pair_put (bytes_of 1 protocol_discriminator) _ (number1_put protocol_discriminator (omega arith)) (
      pair_put (bytes_of 1 dsmcc_type) _ (number1_put dsmcc_type (omega arith)) (
      pair_put (bytes_of 2 id) _ (number2_put id i) (
      pair_put (bytes_of 4 transaction) _ (number4_put transaction t) (
      pair_put (bytes_of 1 0xFF) _ (refl, refl) (
      pair_put (bytes_of 1 0) _ (number1_put 0 (omega arith)) (
      sized_put (bytes_of 2 (length payload)) payload (number2_put (length payload) p) (omega arith, refl))))))),
)

pub group_put : (id size : ℕ) (entries : List EntryFields) (compat_bytes info : List ℕ) → id < 2 ^ 32 → size < 2 ^ 32 →
    compat.Spells entries compat_bytes → length info < 2 ^ 16 →
    group_entry.Spells (record { id = id; size = size; compat = entries; info = info }) (group_bytes id size compat_bytes info)
unfolding group_entry
group_put id size entries compat_bytes info i s c n = (
  (id, (size, (entries, info))),
  refl,
  pair_put (bytes_of 4 id) _ (number4_put id i) (
      pair_put (bytes_of 4 size) _ (number4_put size s) (
      pair_put compat_bytes _ c (
      sized_put (bytes_of 2 (length info)) info (number2_put (length info) n) refl))),
)

pub group_list_put : (groups : List GroupFields) (bytes : List ℕ) → length groups < 2 ^ 16 → SpellsEach group_entry.Spells groups bytes →
    group_list.Spells groups (group_list_bytes (length groups) bytes)
unfolding group_list
group_list_put groups bytes n each = (
  (length groups, (groups, [])),
  refl,
  pair_put (bytes_of 2 (length groups)) _ (number2_put (length groups) n) (
    refl,
    pair_put bytes _ each (sized_put (bytes_of 2 0) [] (number2_put 0 (omega arith)) refl),
  ),
)

pub dsi_payload_put : (groups : List GroupFields) (bytes : List ℕ) → length groups < 2 ^ 16 → length (group_list_bytes (length groups) bytes) < 2 ^ 16 →
    SpellsEach group_entry.Spells groups bytes → dsi_payload.Spells groups (dsi_payload_bytes (length groups) bytes)
unfolding dsi_payload
dsi_payload_put groups bytes n l each = (
  (tt, (tt, groups)),
  refl,
  pair_put (replicate 20 0xFF) _ (refl, refl) (
      pair_put (bytes_of 2 0) _ (number2_put 0 (omega arith)) (
      sized_put (bytes_of 2 _) (group_list_bytes (length groups) bytes) (number2_put _ l) (group_list_put groups bytes n each))),
)

-- no entries are a length of 0
no_entries : compat.Spells [] (bytes_of 2 0)
unfolding compat
no_entries = sized_put (bytes_of 2 0) [] (number2_put 0 (omega arith)) refl

pub module_put : (id size version : ℕ) (info : List ℕ) → id < 2 ^ 16 → size < 2 ^ 32 → version < 2 ^ 8 → length info < 2 ^ 8 →
    module_entry.Spells (record { id = id; size = size; version = version; info = info }) (module_bytes id size version info)
unfolding module_entry
module_put id size version info i s v n = (
  (id, (size, (version, info))),
  refl,
  pair_put (bytes_of 2 id) _ (number2_put id i) (
      pair_put (bytes_of 4 size) _ (number4_put size s) (
      pair_put (bytes_of 1 version) _ (number1_put version v) (
      sized_put (bytes_of 1 (length info)) info (number1_put (length info) n) refl))),
)

pub dii_payload_put : (download block_size : ℕ) (modules : List ModuleFields) (bytes : List ℕ) → download < 2 ^ 32 → block_size < 2 ^ 16 →
    length modules < 2 ^ 16 → SpellsEach module_entry.Spells modules bytes →
    dii_payload.Spells (record { id = download; block_size = block_size; modules = modules }) (dii_payload_bytes download block_size (length modules) bytes)
unfolding dii_payload compat
dii_payload_put download block_size modules bytes d b n each = (
  (download, (block_size, (tt, ([], (length modules, (modules, [])))))),
  refl,
  pair_put (bytes_of 4 download) _ (number4_put download d) (
      pair_put (bytes_of 2 block_size) _ (number2_put block_size b) (
      pair_put (replicate 10 0) _ (refl, refl) (
      pair_put (bytes_of 2 0) _ no_entries (
      pair_put (bytes_of 2 (length modules)) _ (number2_put (length modules) n) (
        refl,
        pair_put bytes _ each (sized_put (bytes_of 2 0) [] (number2_put 0 (omega arith)) refl),
      ))))),
)

pub ddb_payload_put : (module_id version number : ℕ) (bytes : List ℕ) → module_id < 2 ^ 16 → version < 2 ^ 8 → number < 2 ^ 16 →
    ddb_payload.Spells (record { module_id = module_id; version = version; number = number; bytes = bytes })
    (bytes_of 2 module_id ++ (bytes_of 1 version ++ (bytes_of 1 0xFF ++ (bytes_of 2 number ++ bytes))))
unfolding ddb_payload
ddb_payload_put module_id version number bytes m v n = (
  (module_id, (version, (tt, (number, bytes)))),
  refl,
  pair_put (bytes_of 2 module_id) _ (number2_put module_id m) (
      pair_put (bytes_of 1 version) _ (number1_put version v) (
      pair_put (bytes_of 1 0xFF) _ (refl, refl) (
      pair_put (bytes_of 2 number) bytes (number2_put number n) refl))),
)

-- what a DSI keeps that is being written
pub record IsDsi (d : DsiDraft) : Type 0 where
  pub transaction : d.transaction < 2 ^ 32
  pub few : length d.groups ≤ length d.bytes
  pub room : length d.bytes ≤ 4044
  pub each : SpellsEach group_entry.Spells d.groups d.bytes

dsi_fits : (d : DsiDraft) → IsDsi d → Fits (dsi_head d)
dsi_fits d is = let room = is.room in record {
  table = omega arith;
  extension = omega arith;
  version = omega arith;
  number = omega arith;
  last = omega arith;
  body = omega (arith, length-append {A = ℕ});
}

-- A DSI that was written is read back.
pub dsi_back : (d : DsiDraft) → IsDsi d → dsi.Spells (record { transaction = d.transaction; groups = d.groups }) (dsi_bytes d)
unfolding dsi dsi_message dsi_bytes
dsi_back d is =
    let room = is.room in
    let few = is.few in
    let payload = dsi_payload_bytes (length d.groups) d.bytes in (
      (dsi_head d, record { transaction = d.transaction; groups = d.groups }),
      refl,
      (
        (refl, long_spelled false (dsi_head d) (dsi_fits d is)),
        (
          (record { id = dsi_id; transaction = d.transaction; payload = payload }, d.groups),
          refl,
          (
            (
              refl,
              message_put dsi_id d.transaction payload (omega arith) is.transaction (omega (arith, length-append {A = ℕ})),
            ),
            dsi_payload_put d.groups d.bytes (omega arith) (omega (arith, length-append {A = ℕ})) is.each,
          ),
        ),
      ),
    )

-- what a DII keeps that is being written
pub record IsDii (d : DiiDraft) : Type 0 where
  pub transaction : d.transaction < 2 ^ 32
  pub download : d.download < 2 ^ 32
  pub block_size : d.block_size < 2 ^ 16
  pub few : length d.modules ≤ length d.bytes
  pub room : length d.bytes ≤ 4050
  pub each : SpellsEach module_entry.Spells d.modules d.bytes

dii_short : (d : DiiDraft) → length d.bytes ≤ 4050 → length (dii_message_bytes d) ≤ 4084
dii_short d room = omega (arith, length-append {A = ℕ})

dii_fits : (d : DiiDraft) → IsDii d → Fits (dii_head d)
dii_fits d is = record {
  table = omega arith;
  extension = omega arith;
  version = omega arith;
  number = omega arith;
  last = omega arith;
  body = dii_short d is.room;
}

-- The message of a DII that was written is read back.
pub dii_message_back : (d : DiiDraft) → IsDii d → dii_message.Spells (dii_of d) (dii_message_bytes d)
unfolding dii_message
dii_message_back d is =
    let room = is.room in
    let few = is.few in
    let payload = dii_payload_bytes d.download d.block_size (length d.modules) d.bytes in (
      (
        (
          record { id = dii_id; transaction = d.transaction; payload = payload },
          record { id = d.download; block_size = d.block_size; modules = d.modules },
        ),
        dii_message_bytes d,
      ),
      refl,
      (
        (
          le-leb (length (dii_message_bytes d)) 4084 (dii_short d room),
          (
            (
              refl,
              message_put dii_id d.transaction payload (omega arith) is.transaction (omega (arith, length-append {A = ℕ})),
            ),
            dii_payload_put d.download d.block_size d.modules d.bytes is.download is.block_size (omega arith) is.each,
          ),
        ),
        refl,
      ),
    )

-- A DII that was written is read back.
pub dii_back : (d : DiiDraft) → IsDii d → dii.Spells (dii_of d) (dii_bytes d)
unfolding dii dii_bytes
dii_back d is = ((dii_head d, dii_of d), refl, ((refl, long_spelled false (dii_head d) (dii_fits d is)), dii_message_back d is))

-- what a DDB keeps that is written
pub record IsDdb (d : DdbFields) : Type 0 where
  pub download : d.download < 2 ^ 32
  pub module_id : d.module_id < 2 ^ 16
  pub version : d.version < 2 ^ 8
  pub block : d.block < 2 ^ 16
  pub bytes : length d.bytes ≤ 4066

ddb_fits : (d : DdbFields) (last_block : ℕ) → IsDdb d → Fits (ddb_head d last_block)
ddb_fits d last_block is = record {
  table = omega arith;
  extension = is.module_id;
  version = omega arith;
  number = omega arith;
  last = omega arith;
  body = let short = is.bytes in omega arith;
}

-- A DDB that was written is read back.
pub ddb_back : (d : DdbFields) (last_block : ℕ) → IsDdb d → ddb.Spells d (ddb_bytes d last_block)
unfolding ddb ddb_message ddb_bytes
ddb_back d last_block is =
    let short = is.bytes in (
      (ddb_head d last_block, d),
      refl,
      (
        (refl, long_spelled false (ddb_head d last_block) (ddb_fits d last_block is)),
        (
          (record { id = ddb_id; transaction = d.download; payload = ddb_payload_bytes d }, record { module_id = d.module_id; version = d.version; number = d.block; bytes = d.bytes }),
          refl,
          (
            (
              refl,
              message_put ddb_id d.download (ddb_payload_bytes d) (omega arith) is.download (omega arith),
            ),
            ddb_payload_put d.module_id d.version d.block d.bytes is.module_id is.version is.block,
          ),
        ),
      ),
    )
