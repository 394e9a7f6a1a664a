-- Where the answer of an audit comes: at the first fact against a section, or at the end of the input.
use Rattle.std.specs.Prelude.{◌≡◌, ◌⊎◌, ℕ, ◌*◌, ◌<◌, List, ◌++◌, length, Option, Some, Result, Ok, Err}
use Rattle.audit_answer.specs.declared.answers.AuditNo.{AuditNo}
use Rattle.audit_answer.specs.declared.answers.AuditYes.{AuditYes}
use Rattle.ssu_audit.specs.Calls.{Call, carousel}
use Rattle.ssu_audit.specs.Ending.{Ends}
use Rattle.ssu_audit.specs.Hearing.{IsOpen}
use Rattle.ssu_audit.specs.OneImage.{HasOneImagePerGroup}
use Rattle.ssu_io.specs.Bytes.{Takes}
use Rattle.tool_audit.specs.Calls.{calls_of, first_fact}
use Rattle.ts_input.specs.Packets.{packets, most_packets, IsAtEnd, IsWithin}

-- So many bytes were taken, and this holds of what was heard in their packets.
pub record HearsIn (pid : ℕ) (notice : Option ℕ) (left left_after : Option (List ℕ)) (Length : ℕ → Type 0)
    (Now : List Call → Type 0) : Type 0 where
  pub taken : List ℕ
  pub takes : Takes left left_after taken
  pub bytes : Length (length taken)
  pub now : Now (calls_of pid notice (packets taken))

-- Whole packets were taken and nothing behind them. This holds of what was heard in them, and that held of what was heard in
-- all but the last.
pub record HearsAtPacket (pid : ℕ) (notice : Option ℕ) (left left_after : Option (List ℕ)) (Now Before : List Call → Type 0)
    : Type 0 where
  pub count : ℕ
  pub earlier : List ℕ
  pub packet : List ℕ
  pub takes : Takes left left_after (earlier ++ packet)
  pub whole : length earlier ≡ 188 * count
  pub within : count < most_packets
  pub one : length packet ≡ 188
  pub now : Now (calls_of pid notice (packets (earlier ++ packet)))
  pub before : Before (calls_of pid notice (packets earlier))

-- this is the first fact against one of the sections
abbrev pub HasFact : AuditNo → List Call → Type 0
HasFact why calls = first_fact calls ≡ Some why

-- No fact stands against a section, and a yes comes at the end: each group of the DSI has one image.
pub record IsYes (counts : AuditYes) (calls : List Call) : Type 0 where
  pub undecided : IsOpen calls
  pub ends : Ends calls (Ok counts)
  pub one_image : HasOneImagePerGroup (carousel calls)

-- No fact stands against a section, and this one is the first at the end.
pub record EndsWithFact (why : AuditNo) (calls : List Call) : Type 0 where
  pub undecided : IsOpen calls
  pub ends : Ends calls (Err why)

-- A yes comes once the input was read to its end; a fact at the packet at which it first stands against a section, or, where
-- none stands against any, once the input was read to its end.
abbrev pub ComesOf : ℕ → Option ℕ → Option (List ℕ) → Option (List ℕ) → Result AuditYes AuditNo → Type 0
ComesOf pid notice left left_after (Ok counts) = HearsIn pid notice left left_after IsWithin (IsYes counts) × IsAtEnd left_after
ComesOf pid notice left left_after (Err why) =
    HearsAtPacket pid notice left left_after (HasFact why) IsOpen
    ⊎ (HearsIn pid notice left left_after IsWithin (EndsWithFact why) × IsAtEnd left_after)
