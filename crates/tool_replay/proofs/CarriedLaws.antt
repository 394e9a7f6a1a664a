-- The box of a shelf that tells its files.
use Rattle.std.proofs.Common.{◌≡◌, ℕ, List, Option, Some, None, Ok, Err, refl, sym, ap, subst, IsErrOf}
use Rattle.box_file.specs.BoxText.{box_of}
use Rattle.box_file.specs.declared.file.BoxFile.{BoxFile}
use Rattle.ssu_loader.specs.declared.fault.LoadFault.{LoadFault}
use Rattle.ssu_loader.specs.declared.fault.LoadFault.TheVariants.{FlashFault, Memory}
use Rattle.ssu_answer.specs.declared.verdict.Verdict.{Verdict}
use Rattle.ssu_answer.specs.declared.verdict.Verdict.TheVariants as verdict
use Rattle.ssu_io.specs.Files.{File}
use Rattle.ssu_status.specs.Status.{OnBoxRefused, OnShelfFault, status_of}
use Rattle.ssu_status.specs.declared.status.Status.{Status}
use Rattle.ssu_status.specs.declared.status.Status.TheVariants.{Absent, BoxRefused, NoMemory, ShelfFault, FlashFault as Failed}
use Rattle.tool_box.specs.Boxes.{IsBoxRefusal, RefusesBox, TellsBox, box_name}
use Rattle.tool_box.specs.Fetching.{TellsAbsence}
use Rattle.tool_replay.specs.Answers.{HoldsBox, status_of_fault}

same_text : (files : List File) (a b : BoxFile) (h : TellsBox (Some files) a) (t : TellsBox (Some files) b) → h.text ≡ t.text
same_text files a b h t = let has = h.has in let had = t.has in cc

-- it tells of one box
pub same_box : (held : Option (List File)) (a b : BoxFile) → HoldsBox held a → TellsBox held b → a ≡ b
same_box None a b holds tells = absurd holds
same_box (Some files) a b holds tells =
    let text : holds.text ≡ tells.text = same_text files a b holds tells in
    let read : box_of tells.text ≡ Ok a = subst (λ (t : List ℕ). box_of t ≡ Ok a) text holds.read in
    let reads = tells.read in cc

-- and it is had, but for want of memory, where the shelf did not fail
pub box_is_had : {Rise : Type 0} (T : Type 0) (held : Option (List File)) (a : BoxFile) (s : Status) → HoldsBox held a → IsBoxRefusal s → TellsAbsence {T = T} held box_name (Err s)
    → OnBoxRefused s (λ field. RefusesBox held field) → OnShelfFault s Rise → (Rise → ⊥) → (s ≡ NoMemory → ⊥) → ⊥
box_is_had T None a s holds refusal absence refused failed unfailed memory = holds
box_is_had T (Some files) a (Absent name) holds refusal absence refused failed unfailed memory =
    let none = absence.0 tt in let has = holds.has in cc
box_is_had T (Some files) a (BoxRefused field) holds refusal absence refused failed unfailed memory =
    let has = holds.has in let had = refused.has in
    let text : holds.text ≡ refused.text = cc in
    let read : box_of refused.text ≡ Ok a = subst (λ (t : List ℕ). box_of t ≡ Ok a) text holds.read in
    let reads = refused.read in cc
box_is_had T (Some files) a ShelfFault holds refusal absence refused failed unfailed memory = unfailed failed
box_is_had T (Some files) a NoMemory holds refusal absence refused failed unfailed memory = memory refl
box_is_had T (Some files) a other holds refusal absence refused failed unfailed memory = absurd refusal

-- what holds for the box that it tells of holds for the box that was had
pub for_box : (held : Option (List File)) (a b : BoxFile) (P : BoxFile → Type 0) → HoldsBox held a → TellsBox held b → P a → P b
for_box held a b P holds tells p = subst P (same_box held a b holds tells) p

-- and the other way round
pub of_box : (held : Option (List File)) (a b : BoxFile) (P : BoxFile → Type 0) → HoldsBox held a → TellsBox held b → P b → P a
of_box held a b P holds tells p = subst P (sym (same_box held a b holds tells)) p

pub not_memory : (e : LoadFault) → (status_of_fault e ≡ NoMemory → ⊥) → IsErrOf {T = Verdict} (Err e) Memory → ⊥
not_memory e other is = let same : e ≡ Memory = cc in other (ap status_of_fault same)

-- the status of a fault of the flash
pub flash_status : (e : LoadFault) → IsErrOf {T = Verdict} (Err e) FlashFault → status_of_fault e ≡ Failed
flash_status e is = let same : e ≡ FlashFault = cc in ap status_of_fault same

pub fault_of_flash : (e : LoadFault) → status_of_fault e ≡ Failed → IsErrOf {T = Verdict} (Err e) FlashFault
fault_of_flash FlashFault is = refl
fault_of_flash Memory is = absurd cc
fault_of_flash other is = absurd cc

-- no verdict is one
pub no_flash_fault : (v : Verdict) → status_of v ≡ Failed → ⊥
no_flash_fault (verdict.Installed chosen) is = cc is
no_flash_fault (verdict.Nothing level) is = cc is
no_flash_fault (verdict.Incomplete chosen missing) is = cc is
no_flash_fault (verdict.BadModule id want found) is = cc is
no_flash_fault verdict.Unsettled is = cc is
