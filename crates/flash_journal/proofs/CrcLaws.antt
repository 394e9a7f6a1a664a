-- The CRC of a module, over a bank that was only read.
use Rattle.std.specs.Prelude.{Contains, nat_le, ◌==◌, ◌&&◌}
use Rattle.std.proofs.Common.{◌≡◌, ℕ, zero, suc, ◌+◌, ◌<◌, ◌≤◌, Bool, List, ◌++◌, None, Some, refl, sym, ap, subst, ◌∙◌, arith}
use Rattle.flash_bank.specs.Bank.{is_begun}
use Rattle.flash_bank.specs.declared.bank.Bank.{Bank}
use Rattle.flash_layout.specs.Layout.{Geometry, mark_count}
use Rattle.flash_stage.proofs.InBankLemmas.{blank_same, same_journal}
use Rattle.flash_stage.proofs.LeavingLaws.{len_same}
use Rattle.flash_stage.proofs.TextLaws.{lies}
use Rattle.flash_stage.specs.Keeping.{StagesNone}
use Rattle.flash_stage.specs.Leaving.{SameBank}
use Rattle.flash_stage.specs.Outline.{module_text}
use Rattle.ssu_group.specs.Carried.{joined}
use Rattle.ssu_group.specs.Place.{place_in}
use Rattle.ssu_group.specs.Refusal.{refusal}
use Rattle.ssu_group.specs.declared.module_plan.ModulePlan.{ModulePlan}
use Rattle.flash_journal.proofs.KeptLaws.{SameGroup}
use Rattle.flash_journal.proofs.OfferLaws.{just_moved, kept_back, kept_on}
use Rattle.flash_journal.specs.InJournal.{IsBegunFor, KeepsPlaces, bytes_in_journal, has_in_journal}
use Rattle.flash_journal.specs.Texts.{keeps_places, text_of}
use Rattle.flash_journal.specs.declared.journal_stage.JournalStage.{JournalStage}

pub own_group : (s : JournalStage) → SameGroup s s
own_group s = record { block_size = refl; modules = refl; places = refl; message = refl }

keeps_same : (b b' : Bank) (n : ℕ) → SameBank b b' → keeps_places b' n ≡ keeps_places b n
keeps_same b b' n same = (λ i. (same.current i).layout == 2 && nat_le n (mark_count (same.geometry i)))

pub ready_same : (s : JournalStage) (b b' : Bank) → SameBank b b' → is_begun b' ≡ is_begun b → IsBegunFor s b → IsBegunFor s b'
ready_same s b b' same begun r = record {
  begun = record {
    planned = r.begun.planned;
    fits = subst (λ (n : ℕ). s.total ≤ n) (sym (len_same b b' same)) r.begun.fits;
    begun = begun ∙ r.begun.begun;
  };
  keeps = r.keeps ∙ sym (keeps_same b b' s.map.places same);
  dii = r.dii;
  reads = r.reads;
  usable = subst (λ (n : ℕ). refusal r.dii n ≡ None) (sym (len_same b b' same)) r.usable;
  block_size = r.block_size;
  modules = r.modules;
}

agrees_there : (s : JournalStage) (b b' : Bank) (x : List ℕ) → SameBank b b' → KeepsPlaces s b x → KeepsPlaces s b' x
agrees_there s b b' x same a = record {
  kept = λ k. just_moved s s b b' x (has_in_journal s) (own_group s) same (a.kept (kept_back s s b b' (own_group s) same k));
  plain = λ never. record {
    places = λ number p at free. blank_same b b' x x p.at p.len same refl ((a.plain (λ k. never (kept_on s s b b' (own_group s) same k))).places number p at free);
    journal = same_journal b b' x same ((a.plain (λ k. never (kept_on s s b b' (own_group s) same k))).journal);
  };
  none = λ never. subst (λ (g : Geometry). StagesNone g x) (sym same.geometry) (a.none (λ k. never (kept_on s s b b' (own_group s) same k)));
}

pub agrees_same : (s : JournalStage) (b b' : Bank) (x y : List ℕ) → SameBank b b' → y ≡ x → KeepsPlaces s b x → KeepsPlaces s b' y
agrees_same s b b' x y same is a = subst (λ (l : List ℕ). KeepsPlaces s b' l) (sym is) (agrees_there s b b' x same a)

joined_same : (f h : ℕ → List ℕ) (n : ℕ) → ((k : ℕ) → k < n → f k ≡ h k) → joined f n ≡ joined h n
unfolding joined
joined_same f h zero same = refl
joined_same f h (suc n) same =
    ap (λ (l : List ℕ). l ++ f n) (joined_same f h n (λ k lt. same k (omega (arith, lt)))) ∙ ap (λ (l : List ℕ). joined h n ++ l) (same n (omega arith))

pub module_is : (s : JournalStage) (b : Bank) (x : List ℕ) (m : ModulePlan) → IsBegunFor s b → Contains s.modules.items m
    → joined (λ k. text_of s.keeps b x (Some (place_in s.block_size m k))) m.blocks ≡ module_text (bytes_in_journal s b x) m
unfolding bytes_in_journal
module_is s b x m r among =
    let l = lies s.block_size 0 0 s.modules.items m r.begun.planned.joined among in
    joined_same (λ k. text_of s.keeps b x (Some (place_in s.block_size m k))) (λ k. bytes_in_journal s b x (m.first + k)) m.blocks
    (λ k lt. ap (λ (t : Bool). text_of t b x (Some (place_in s.block_size m k))) r.keeps ∙ sym (ap (text_of (keeps_places b s.map.places) b x) (l.places k lt)))
