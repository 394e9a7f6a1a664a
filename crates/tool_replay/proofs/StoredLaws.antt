-- What `replay` says of the places that are stored and staged, and of a group with a wrong module.
use Rattle.std.proofs.Common.{◌≡◌, ◌++◌, ℕ, Bool, true, List, Some, Ok, Err, subst, sym}
use Rattle.box_file.specs.declared.file.BoxFile.{BoxFile}
use Rattle.flash_bank.specs.Seen.{FlashSeen}
use Rattle.flash_bank.specs.Sound.{Boot, BootOf}
use Rattle.flash_bank.specs.declared.record.Record.{Record}
use Rattle.flash_stage.specs.Keeping.{StagesNone}
use Rattle.route_tables.specs.Values.{Receiver}
use Rattle.ssu_answer.specs.declared.chosen.Chosen.{Chosen}
use Rattle.ssu_io.specs.Bytes.{Takes}
use Rattle.ssu_io.specs.Seen.{SourceSeen}
use Rattle.ssu_loader.proofs.FrontLaws.{taken_is}
use Rattle.ssu_loader.specs.Lasting.{IsNoDecision}
use Rattle.ssu_loader.specs.Opening.{opening_of}
use Rattle.ssu_loader.specs.Remaining.{StagesStanding}
use Rattle.ssu_loader.specs.Replaying.{Ends, receiver_under}
use Rattle.ssu_loader.specs.Replays.{heard_in}
use Rattle.ssu_loader.specs.Storing.{Stores}
use Rattle.ssu_loader.specs.declared.fault.LoadFault.{LoadFault}
use Rattle.ssu_loader.specs.declared.fault.LoadFault.TheVariants as load_fault
use Rattle.ssu_answer.specs.declared.verdict.Verdict.{Verdict}
use Rattle.ssu_answer.specs.declared.verdict.Verdict.TheVariants as verdict
use Rattle.ssu_status.specs.Status.{OnIncomplete, status_of}
use Rattle.ssu_status.specs.declared.status.Status.{Status}
use Rattle.ssu_status.specs.declared.status.Status.TheVariants.{BadModule, Incomplete, Nothing, ReadFault, TooLong}
use Rattle.tool_box.specs.Boxes.{IsBoxRefusal}
use Rattle.tool_replay.specs.Answers.{OnBadModule, OnNoDecision, status_of_fault}

-- ---- answers that tell of no choice

pub refusal_stores : (s : Status) (P : Chosen → ℕ → Type 0) → IsBoxRefusal s → OnIncomplete s P
refusal_stores (Incomplete chosen missing) P of = absurd of
refusal_stores other P of = tt

pub refusal_stages : (s : Status) (P : Type 0) → IsBoxRefusal s → OnBadModule s P
refusal_stages (BadModule id want found) P of = absurd of
refusal_stages other P of = tt

pub fault_stores : (e : LoadFault) (P : Chosen → ℕ → Type 0) → OnIncomplete (status_of_fault e) P
fault_stores load_fault.Geometry P = tt
fault_stores load_fault.FlashFault P = tt
fault_stores load_fault.Foreign P = tt
fault_stores load_fault.Worn P = tt
fault_stores load_fault.Memory P = tt
fault_stores load_fault.ReadFault P = tt
fault_stores load_fault.TooLong P = tt

pub fault_stages : (e : LoadFault) (P : Type 0) → OnBadModule (status_of_fault e) P
fault_stages load_fault.Geometry P = tt
fault_stages load_fault.FlashFault P = tt
fault_stages load_fault.Foreign P = tt
fault_stages load_fault.Worn P = tt
fault_stages load_fault.Memory P = tt
fault_stages load_fault.ReadFault P = tt
fault_stages load_fault.TooLong P = tt

pub refusal_margin : (s : Status) (P : Type 0) → IsBoxRefusal s → OnNoDecision s P
refusal_margin (Nothing level) P of = absurd of
refusal_margin (Incomplete chosen missing) P of = absurd of
refusal_margin ReadFault P of = absurd of
refusal_margin TooLong P of = absurd of
refusal_margin other P of = tt

pub fault_margin : (e : LoadFault) (P : Type 0) → (IsNoDecision (Err e) → P) → OnNoDecision (status_of_fault e) P
fault_margin load_fault.Geometry P p = tt
fault_margin load_fault.FlashFault P p = tt
fault_margin load_fault.Foreign P p = tt
fault_margin load_fault.Worn P p = tt
fault_margin load_fault.Memory P p = tt
fault_margin load_fault.ReadFault P p = p tt
fault_margin load_fault.TooLong P p = p tt

pub verdict_margin : (v : Verdict) (P : Type 0) → (IsNoDecision (Ok v) → P) → OnNoDecision (status_of v) P
verdict_margin (verdict.Installed chosen) P p = tt
verdict_margin (verdict.Nothing level) P p = p tt
verdict_margin (verdict.Incomplete chosen missing) P p = p tt
verdict_margin (verdict.BadModule id want found) P p = tt
verdict_margin verdict.Unsettled P p = tt

-- ---- a verdict

module _ (in_bank keeps : Bool) (box_file : BoxFile) (air : SourceSeen) (flash : FlashSeen) (tells : flash.tells) where
  pub verdict_stages : keeps ≡ true → (v : Verdict) → Ends in_bank keeps box_file air flash v → OnBadModule (status_of v) (StagesNone flash.blocks flash.contents_after)
  verdict_stages keeping (verdict.Installed chosen) ends = tt
  verdict_stages keeping (verdict.Nothing level) ends = tt
  verdict_stages keeping (verdict.Incomplete chosen missing) ends = tt
  verdict_stages keeping (verdict.BadModule id want found) ends = (ends.comes.fact.1 tells).1.2 keeping
  verdict_stages keeping verdict.Unsettled ends = tt

  module _ (former : Boot) (boot : BootOf flash.blocks flash.contents former) (taken rest : List ℕ) (left : air.left ≡ Some (taken ++ rest)) (left_after : air.left_after ≡ Some rest) where
    -- the box, where this record is the current one
    abbrev me_under : Record → Receiver
    me_under current = receiver_under box_file flash.blocks current (opening_of keeps flash.blocks current flash.contents)

    -- what holds of the box that took these bytes holds of the box of the former record
    as_former : (Fact : Receiver → List ℕ → Type 0) (current : Record) (own : List ℕ) → (flash.tells → (b : Boot) → BootOf flash.blocks flash.contents b → b.head ≡ current)
        → Takes air.left air.left_after own → Fact (me_under current) own → Fact (me_under former.head) taken
    as_former Fact current own boots takes is =
        subst (λ (c : Record). Fact (me_under c) taken) (sym (boots tells former boot))
        (subst (λ (bytes : List ℕ). Fact (me_under current) bytes) (taken_is air.left air.left_after own taken rest left left_after takes) is)

    -- what stands in the bank, and what is staged
    abbrev StoresIn : Receiver → List ℕ → Type 0
    StoresIn me bytes = Stores flash.blocks flash.contents_after me (heard_in me bytes)

    abbrev StagesIn : Receiver → List ℕ → Type 0
    StagesIn me bytes = StagesStanding flash.blocks flash.contents_after me (heard_in me bytes)

    pub verdict_stores : in_bank ≡ true → (v : Verdict) → Ends in_bank keeps box_file air flash v
        → OnIncomplete (status_of v) (λ chosen missing. StoresIn (me_under former.head) taken)
    verdict_stores staged (verdict.Installed chosen) ends = tt
    verdict_stores staged (verdict.Nothing level) ends = tt
    verdict_stores staged (verdict.Incomplete chosen missing) ends =
        let box = ends.comes in
        let hears = (box.fact.1 tells).0.hears in
        as_former StoresIn box.current hears.taken box.boots hears.takes (hears.now.1 staged)
    verdict_stores staged (verdict.BadModule id want found) ends = tt
    verdict_stores staged verdict.Unsettled ends = tt

    pub verdict_keeps : keeps ≡ true → (v : Verdict) → Ends in_bank keeps box_file air flash v
        → OnIncomplete (status_of v) (λ chosen missing. StagesIn (me_under former.head) taken)
    verdict_keeps keeping (verdict.Installed chosen) ends = tt
    verdict_keeps keeping (verdict.Nothing level) ends = tt
    verdict_keeps keeping (verdict.Incomplete chosen missing) ends =
        let box = ends.comes in
        let hears = (box.fact.1 tells).0.hears in
        as_former StagesIn box.current hears.taken box.boots hears.takes (hears.now.2 keeping)
    verdict_keeps keeping (verdict.BadModule id want found) ends = tt
    verdict_keeps keeping verdict.Unsettled ends = tt
