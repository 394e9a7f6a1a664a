-- What a box finds at the opening of a flash in which no group is staged.
use Rattle.std.proofs.Common.{◌≡◌, ℕ, ◌-◌, Bool, true, false, List, Option, Some, None, refl, ap}
use Rattle.std.specs.Prelude.{◌&&◌, ◌==◌}
use Rattle.dsmcc_msg.specs.Control.{DiiFields}
use Rattle.flash_bank.specs.Sound.{Boot, BootOf}
use Rattle.flash_kept.specs.SpareArea.{SpareArea, spare_area}
use Rattle.flash_kept.specs.Told.{staged_bytes, staged_dii, staged_message, text_under}
use Rattle.flash_layout.specs.Layout.{Geometry, IsInLimits}
use Rattle.flash_stage.specs.Keeping.{StagesNone}
use Rattle.ssu_loader.proofs.OpenedLaws.{opened_group}
use Rattle.ssu_loader.specs.Opening.{opening_by, opening_of}

-- where no message is staged, no bytes are
no_bytes : (area : SpareArea) (c : List ℕ) (n : ℕ) (o : Option DiiFields) → staged_dii area c ≡ o → staged_message area c ≡ None → staged_bytes area c n ≡ None
unfolding staged_bytes
no_bytes area c n None is none = ap (λ (d : Option DiiFields). text_under area c d n) is
no_bytes area c n (Some dii) is none = cc

none_by : (t : Bool) (area : SpareArea) (c : List ℕ) (n : ℕ) → (opening_by t area c).message ≡ None → (opening_by t area c).staged n ≡ None
none_by true area c n none = no_bytes area c n (staged_dii area c) refl none
none_by false area c n none = refl

-- What is the message there, if there is one?
no_message : (o : Option (List ℕ)) → ((message : List ℕ) → o ≡ Some message → ⊥) → o ≡ None
no_message None none = refl
no_message (Some message) none = absurd (none message refl)

pub none_opened : (g : Geometry) (x : List ℕ) (b : Boot) → IsInLimits g → BootOf g x b → StagesNone g x → (n : ℕ) → (opening_of true g b.head x).staged n ≡ None
none_opened g x b limits boots none n =
    none_by (true && b.head.layout == 2) (spare_area g (1 - b.head.bank) b.head.number) x n
    (no_message (opening_of true g b.head x).message
    (λ message e. let found = opened_group g x b limits boots true message e in none message found.1.0 found.1.1))
