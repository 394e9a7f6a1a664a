-- The lines of an audit: a yes, and each fact against a stream. Each ends with a line feed.
use Rattle.std.specs.Prelude.{ℕ, List, ◌++◌, Result, Ok, Err, codes, decimal}
use Rattle.audit_answer.specs.declared.answers.AuditNo.{AuditNo}
use Rattle.audit_answer.specs.declared.answers.AuditNo.TheVariants.{BlockDiffers, DsiDiffers, DiiDiffers, TooManyBlocks, NoDsi, NoDii}
use Rattle.audit_answer.specs.declared.answers.AuditNo.TheVariants.{Unusable, SizeDiffers, PlaceMissing, BadModule, NoticeApart}
use Rattle.audit_answer.specs.declared.answers.AuditYes.{AuditYes}

-- audit ok groups G blocks B
abbrev pub audit_ok_line : AuditYes → List ℕ
audit_ok_line counts = codes "audit ok groups " ++ decimal counts.groups ++ codes " blocks " ++ decimal counts.blocks ++ codes "\n"

-- words, and the numbers of two sections
abbrev pub differ_line : List ℕ → ℕ → ℕ → List ℕ
differ_line words first second = words ++ decimal first ++ codes " " ++ decimal second ++ codes "\n"

-- words, and one number
abbrev pub number_line : List ℕ → ℕ → List ℕ
number_line words number = words ++ decimal number ++ codes "\n"

-- differ block A B, differ dsi A B, differ dii A B, too many blocks N, no dsi, no dii G, unusable G, size G listed L total T,
-- missing G place K, bad module G I, notice apart A
abbrev pub audit_no_line : AuditNo → List ℕ
audit_no_line (BlockDiffers first second) = differ_line (codes "differ block ") first second
audit_no_line (DsiDiffers first second) = differ_line (codes "differ dsi ") first second
audit_no_line (DiiDiffers first second) = differ_line (codes "differ dii ") first second
audit_no_line (TooManyBlocks count) = number_line (codes "too many blocks ") count
audit_no_line NoDsi = codes "no dsi\n"
audit_no_line (NoDii group) = number_line (codes "no dii ") group
audit_no_line (Unusable group) = number_line (codes "unusable ") group
audit_no_line (SizeDiffers group listed total) =
    codes "size " ++ decimal group ++ codes " listed " ++ decimal listed ++ codes " total " ++ decimal total ++ codes "\n"
audit_no_line (PlaceMissing group place) = codes "missing " ++ decimal group ++ codes " place " ++ decimal place ++ codes "\n"
audit_no_line (BadModule group id) = codes "bad module " ++ decimal group ++ codes " " ++ decimal id ++ codes "\n"
audit_no_line (NoticeApart section) = number_line (codes "notice apart ") section

-- the line of an answer
abbrev pub audit_line : Result AuditYes AuditNo → List ℕ
audit_line (Ok counts) = audit_ok_line counts
audit_line (Err fact) = audit_no_line fact
