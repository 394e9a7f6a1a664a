-- A group that a front of the source carries whole is installed, if no call fails.
use Rattle.std.proofs.Common.{◌≡◌, ℕ, Bool, ◌≤◌, List, [], ◌++◌, length, Option, Some, None, refl, sym, ap, subst, ◌∙◌, arith, length-append}
use Rattle.std.specs.Prelude.{Err, IfErr, IfOk, IsErrOf, IsOkAnd, Ok, Result}
use Rattle.ssu_io.specs.Bytes.{Takes}
use Rattle.ts_input.specs.Packets.{IsAtEnd, IsOneMore, IsWithin}
use Rattle.flash_layout.specs.Layout.{Geometry}
use Rattle.flash_bank.specs.Sound.{Boot, BootOf}
use Rattle.ssu_answer.specs.declared.chosen.Chosen.{Chosen}
use Rattle.route_tables.specs.Values.{Receiver}
use Rattle.ssu_loader.specs.declared.fault.LoadFault.{LoadFault}
use Rattle.ssu_loader.specs.declared.fault.LoadFault.TheVariants as load_fault
use Rattle.ssu_answer.specs.declared.verdict.Verdict.{Verdict}
use Rattle.ssu_answer.specs.declared.verdict.Verdict.TheVariants.{Installed, Nothing, Incomplete, BadModule, Unsettled}
use Rattle.ssu_loader.specs.Decisions.{Decision, IsOpen, Reaches, TooMany, Whole, Wrong}
use Rattle.ssu_loader.specs.Faults.{IsOfTaking}
use Rattle.ssu_loader.specs.Replays.{EndsWith, ReachesNone, heard_in, record_after}
use Rattle.ssu_loader.proofs.FrontLaws.{front_is_open, fronts_agree}

-- ---- what is behind the bytes that were taken

record Behind (bytes taken : List ℕ) (left_after : Option (List ℕ)) : Type 0 where
  pub rest : List ℕ
  pub left : left_after ≡ Some rest
  pub is : bytes ≡ taken ++ rest

behind : (bytes taken : List ℕ) (left left_after : Option (List ℕ)) → left ≡ Some bytes → Takes left left_after taken → Behind bytes taken left_after
behind bytes taken (Some b) (Some rest) e takes = let same : b ≡ bytes = cc in record { rest = rest; left = refl; is = sym same ∙ takes }
behind bytes taken (Some b) None e takes = absurd takes
behind bytes taken None left_after e takes = cc

none_behind : (left_after : Option (List ℕ)) (rest : List ℕ) → left_after ≡ Some rest → IsAtEnd left_after → rest ≡ []
none_behind (Some r) rest e end = let same : r ≡ rest = cc in sym same ∙ end
none_behind None rest e end = cc

module _ (known : Type 0) (kept : known) (in_bank keeps : Bool) (me : Receiver) (left left_after : Option (List ℕ)) (front rest : List ℕ) (chosen : Chosen) (image : List ℕ)
    (told : left ≡ Some (front ++ rest)) (reached : Reaches me (heard_in me front) (Whole chosen image)) where
  -- what is decided by the bytes that were taken
  same_decision : (taken : List ℕ) (other : Decision) → Takes left left_after taken → Reaches me (heard_in me taken) other → Whole chosen image ≡ other
  same_decision taken other takes is =
      let b = behind (front ++ rest) taken left left_after told takes in
      fronts_agree me front rest taken b.rest (Whole chosen image) other b.is reached is

  -- something is decided by as many bytes, or more
  not_open : (taken : List ℕ) → Takes left left_after taken → length front ≤ length taken → IsOpen me (heard_in me taken) → ⊥
  not_open taken takes short undecided =
      let b = behind (front ++ rest) taken left left_after told takes in
      front_is_open me front rest taken b.rest (Whole chosen image) b.is short undecided reached

  -- or by all
  not_at_end : (taken : List ℕ) → Takes left left_after taken → IsAtEnd left_after → IsOpen me (heard_in me taken) → ⊥
  not_at_end taken takes end undecided =
      let b = behind (front ++ rest) taken left left_after told takes in
      let all : length (front ++ rest) ≡ length (taken ++ b.rest) = ap length b.is in
      let none : length b.rest ≡ 0 = ap length (none_behind left_after b.rest b.left end) in
      not_open taken takes (omega (arith, length-append front rest, length-append taken b.rest, all, none)) undecided

  module _ (g : Geometry) (x y : List ℕ) (before : Boot) (boot : BootOf g x before) (within : IsWithin (length front)) where
    abbrev IsIn : Verdict → Type 0
    IsIn v = (v ≡ Installed chosen) × BootOf g y (record { head = record_after before.head chosen; image = image })

    verdict_is : (v : Verdict) → EndsWith in_bank keeps me left left_after g x y v → IsIn v
    verdict_is (Installed c) ends =
        let same : Whole chosen image ≡ Whole c ends.image =
        same_decision (ends.hears.earlier ++ ends.hears.packet) (Whole c ends.image) ends.hears.takes ends.hears.now in
        let group : c ≡ chosen = cc in
        let bytes : ends.image ≡ image = cc in (
          ap Installed group,
          subst (λ (i : List ℕ). BootOf g y (record { head = record_after before.head chosen; image = i })) bytes
              (subst (λ (o : Chosen). BootOf g y (record { head = record_after before.head o; image = ends.image })) group ((ends.installs before boot).commits.boot)),
        )
    verdict_is (Nothing level) ends = let comes = ends.0 in absurd (not_at_end comes.hears.taken comes.hears.takes comes.end comes.hears.now.0.0)
    verdict_is (Incomplete c missing) ends = let comes = ends.0 in absurd (not_at_end comes.hears.taken comes.hears.takes comes.end comes.hears.now.0.0)
    verdict_is (BadModule id want found) ends =
        let comes = ends.0 in
        let same : Whole chosen image ≡ Wrong id want found = same_decision (comes.earlier ++ comes.packet) (Wrong id want found) comes.takes comes.now in
        cc
    verdict_is Unsettled ends =
        let comes = ends.0 in
        let same : Whole chosen image ≡ TooMany = same_decision (comes.earlier ++ comes.packet) TooMany comes.takes comes.now.0 in
        cc

    pub taking_installs : (result : Result Verdict LoadFault) → IfOk result (EndsWith in_bank keeps me left left_after g x y)
        → (IsErrOf result load_fault.TooLong → ReachesNone known me left left_after IsOneMore)
        → IfErr result IsOfTaking → (IsErrOf result load_fault.ReadFault → ⊥) → (IsErrOf result load_fault.FlashFault → ⊥)
        → IsOkAnd result IsIn
    taking_installs (Ok v) ends too_long of read flash = verdict_is v ends
    taking_installs (Err load_fault.TooLong) ends too_long of read flash =
        let hears = too_long refl in
        not_open hears.taken hears.takes (omega (arith, within, hears.bytes)) (hears.now.exact kept)
    taking_installs (Err load_fault.ReadFault) ends too_long of read flash = read refl
    taking_installs (Err load_fault.FlashFault) ends too_long of read flash = flash refl
    taking_installs (Err load_fault.Geometry) ends too_long of read flash = of
    taking_installs (Err load_fault.Foreign) ends too_long of read flash = of
    taking_installs (Err load_fault.Worn) ends too_long of read flash = of
    taking_installs (Err load_fault.Memory) ends too_long of read flash = of
