-- The answer at the end of an input.
use Rattle.std.proofs.Common.{ℕ, List, Option, inr}
use Rattle.std.specs.Prelude.{Result, Ok, Err, IfOk}
use Rattle.audit_answer.specs.declared.answers.AuditNo.{AuditNo}
use Rattle.audit_answer.specs.declared.answers.AuditYes.{AuditYes}
use Rattle.ssu_audit.specs.Calls.{Call, carousel}
use Rattle.ssu_audit.specs.Ending.{Ends}
use Rattle.ssu_audit.specs.OneImage.{HasOneImagePerGroup}
use Rattle.ssu_audit.specs.Standing.{Stands}
use Rattle.ssu_audit.specs.declared.audit.Audit.{Audit}
use Rattle.tool_audit.specs.Comes.{ComesOf, EndsWithFact, HearsIn, IsYes}
use Rattle.tool_audit.proofs.PacketLaws.{hears_then}
use Rattle.ts_input.specs.Packets.{IsAtEnd, IsWithin}

pub comes_at_end : (pid : ℕ) (notice : Option ℕ) (left left_after : Option (List ℕ)) (audit : Audit) (answer : Result AuditYes AuditNo)
    → HearsIn pid notice left left_after IsWithin (λ calls. Stands calls audit) → IsAtEnd left_after
    → ((calls : List Call) → Stands calls audit → Ends calls answer)
    → ((calls : List Call) → Stands calls audit → IfOk answer (λ counts. HasOneImagePerGroup (carousel calls)))
    → ComesOf pid notice left left_after answer
comes_at_end pid notice left left_after audit (Ok counts) hears end ends one = (
  hears_then pid notice left left_after IsWithin (λ calls. Stands calls audit) (IsYes counts) hears
      (λ calls stands. record { undecided = stands.undecided; ends = ends calls stands; one_image = one calls stands }),
  end,
)
comes_at_end pid notice left left_after audit (Err why) hears end ends one = inr (
  hears_then pid notice left left_after IsWithin (λ calls. Stands calls audit) (EndsWithFact why) hears
      (λ calls stands. record { undecided = stands.undecided; ends = ends calls stands }),
  end,
)
