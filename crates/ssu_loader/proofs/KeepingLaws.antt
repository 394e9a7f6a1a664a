-- What a call leaves of a flash after others that kept what boot takes, with the bank as they left it.
use Rattle.std.proofs.Common.{◌≡◌, inl, inr, ⊎_elim, ℕ, List, sym, ap, subst, ◌∙◌}
use Rattle.flash_bank.specs.Bank.{Fits, block_of, current_of, geometry_of}
use Rattle.flash_layout.specs.Layout.{Geometry}
use Rattle.flash_bank.specs.Leaving.{Installs, KeepsBoot}
use Rattle.flash_bank.specs.Sound.{Boot, BootOf, record_in}
use Rattle.flash_bank.specs.declared.bank.Bank.{Bank}
use Rattle.flash_bank.specs.declared.record.Record.{Record}
use Rattle.flash_bank.proofs.LeavingLemmas.{keeps_boot_joined, keeps_then_installs}
use Rattle.flash_bank.proofs.SoundLemmas.{one_current}
use Rattle.flash_stage.specs.Leaving.{SameBank}
use Rattle.ts_section.specs.Events.{Heard}
use Rattle.ssu_answer.specs.declared.chosen.Chosen.{Chosen}
use Rattle.route_tables.specs.Values.{Receiver}
use Rattle.ssu_loader.specs.Leaving.{SectionsLeave}
use Rattle.ssu_loader.specs.Replays.{record_after}

-- boot takes the current record of the bank
pub head_is : (bank : Bank) (x : List ℕ) (b : Boot) → Fits bank x → BootOf (geometry_of bank) x b → b.head ≡ current_of bank
head_is bank x b fits from =
    let g = geometry_of bank in
    let block : from.block ≡ block_of bank = one_current g x from.block (block_of bank) from.current fits.current in
    ap (λ (boot : Boot). boot.head) from.is ∙ (ap (record_in g x) block ∙ fits.head)

-- ---- a bank that is as it was

pub leaves_moved : (old new : Bank) (x y : List ℕ) → SameBank old new → KeepsBoot (geometry_of new) x y → KeepsBoot (geometry_of old) x y
leaves_moved old new x y same = subst (λ (g : Geometry). KeepsBoot g x y) same.geometry

pub installs_moved : (old new : Bank) (head : Record) (image x y : List ℕ) → SameBank old new → Installs (geometry_of new) head image x y → Installs (geometry_of old) head image x y
installs_moved old new head image x y same = subst (λ (g : Geometry). Installs g head image x y) same.geometry

pub installs_joined : (bank : Bank) (head : Record) (image x y z : List ℕ) → Fits bank x → KeepsBoot (geometry_of bank) x y → Installs (geometry_of bank) head image y z
    → Installs (geometry_of bank) head image x z
installs_joined bank head image x y z fits = keeps_then_installs (geometry_of bank) head image x y z (block_of bank) fits.current

-- the record that follows the bank's own
abbrev head_for : Bank → Chosen → Record
head_for bank chosen = record_after (current_of bank) chosen

-- where boot takes it
pub installs_of : (bank : Bank) (chosen : Chosen) (image x y : List ℕ) → Fits bank x → Installs (geometry_of bank) (head_for bank chosen) image x y
    → (former : Boot) → BootOf (geometry_of bank) x former → Installs (geometry_of bank) (record_after former.head chosen) image x y
installs_of bank chosen image x y fits installs former from =
    subst (λ (h : Record). Installs (geometry_of bank) (record_after h chosen) image x y) (sym (head_is bank x former fits from)) installs

-- ---- a call after others that kept what boot takes, with the bank as they left it

pub leaves_after : (first now : Bank) (x y z : List ℕ) → SameBank first now → KeepsBoot (geometry_of first) x y → KeepsBoot (geometry_of now) y z → KeepsBoot (geometry_of first) x z
leaves_after first now x y z same before leaves = keeps_boot_joined (geometry_of first) x y z before (leaves_moved first now y z same leaves)

head_same : (first now : Bank) (chosen : Chosen) → SameBank first now → head_for now chosen ≡ head_for first chosen
head_same first now chosen same = ap (λ (h : Record). record_after h chosen) same.current

pub installs_after : (first now : Bank) (chosen : Chosen) (image x y z : List ℕ) → Fits first x → SameBank first now → KeepsBoot (geometry_of first) x y
    → Installs (geometry_of now) (head_for now chosen) image y z → Installs (geometry_of first) (head_for first chosen) image x z
installs_after first now chosen image x y z fits same before installs =
    installs_joined first (head_for first chosen) image x y z fits before
    (subst (λ (h : Record). Installs (geometry_of first) h image y z) (head_same first now chosen same) (installs_moved first now (head_for now chosen) image y z same installs))

-- ---- all that may be left while sections are heard

pub sections_go_on : (me : Receiver) (heard : List Heard) (bank : Bank) (x y z : List ℕ) → Fits bank x → KeepsBoot (geometry_of bank) x y → SectionsLeave me heard bank y z → SectionsLeave me heard bank x z
sections_go_on me heard bank x y z fits before =
    ⊎_elim (λ leaves. inl (keeps_boot_joined (geometry_of bank) x y z before leaves))
    (λ installs. inr (
      installs.0,
      record {
        image = installs.1.image;
        reached = installs.1.reached;
        installs = installs_joined bank (head_for bank installs.0) installs.1.image x y z fits before installs.1.installs;
      },
    ))

pub sections_moved : (me : Receiver) (heard : List Heard) (old new : Bank) (x y : List ℕ) → SameBank old new → SectionsLeave me heard new x y → SectionsLeave me heard old x y
sections_moved me heard old new x y same =
    ⊎_elim (λ leaves. inl (leaves_moved old new x y same leaves))
    (λ installs. inr (
      installs.0,
      record {
        image = installs.1.image;
        reached = installs.1.reached;
        installs = subst (λ (h : Record). Installs (geometry_of old) h installs.1.image x y) (head_same old new installs.0 same)
            (installs_moved old new (head_for new installs.0) installs.1.image x y same installs.1.installs);
      },
    ))
