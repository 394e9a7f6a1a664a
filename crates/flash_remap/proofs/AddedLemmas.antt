-- The map, as entries are added to it.
use Rattle.std.proofs.Common.{◌≡◌, ◌≢◌, ⊎_elim, ℕ, ◌<◌, ◌≤◌, false, List, [], ◌∷◌, ◌++◌, None, sym, ◌∙◌, ap, arith}
use Rattle.std.proofs.lemmas.Bool.{cases_eq, false≢true}
use Rattle.std.proofs.lemmas.List.{append-nil, append_assoc}
use Rattle.std.proofs.lemmas.List.Elements.{All-append, All-cons, All-nil}
use Rattle.flash_remap.specs.Added.{AddsFor}
use Rattle.flash_remap.specs.Entry.{entry_in}
use Rattle.flash_remap.specs.Layout.{Geometry, slots_in}
use Rattle.flash_remap.specs.Map.{counting, is_blank, slot_bytes}
use Rattle.flash_remap.specs.Replaced.{IsBlankFrom}
use Rattle.flash_remap.specs.declared.entry.Entry.{Entry}
use Rattle.flash_remap.proofs.NextLemmas.{blank_slot}
use Rattle.flash_remap.proofs.SlotLemmas.{counting_same, counting_torn}

module _ (g : Geometry) (block : ℕ) where
  abbrev IsFor : Entry → Type 0
  IsFor e = e.block ≡ block

  -- the slots are as they were
  pub adds_none : (x y : List ℕ) → ((slot : ℕ) → slot < slots_in g → slot_bytes g y slot ≡ slot_bytes g x slot) → AddsFor g block x y
  adds_none x y same = record {
    used = λ slot lt not. same slot lt;
    more = [];
    entries = counting_same g x y (slots_in g) same ∙ sym (append-nil (counting g x));
    for_block = All-nil IsFor;
  }

  -- one change after another
  pub adds_joined : (x mid y : List ℕ) → AddsFor g block x mid → AddsFor g block mid y → AddsFor g block x y
  adds_joined x mid y first second = record {
    used = λ slot lt not. let here = first.used slot lt not in second.used slot lt (ap is_blank here ∙ not) ∙ here;
    more = first.more ++ second.more;
    entries = second.entries ∙ (ap (λ (es : List Entry). es ++ second.more) first.entries ∙ append_assoc (counting g x) first.more second.more);
    for_block = All-append IsFor first.more second.more first.for_block second.for_block;
  }

  -- the next slot is changed
  module _ (x y : List ℕ) (slot : ℕ) (lt : slot < slots_in g) (blank : IsBlankFrom g x slot)
      (same : (k : ℕ) → k < slots_in g → k ≢ slot → slot_bytes g y k ≡ slot_bytes g x k) where
    used_stay : (k : ℕ) → k < slots_in g → is_blank (slot_bytes g x k) ≡ false → slot_bytes g y k ≡ slot_bytes g x k
    used_stay k within not = ⊎_elim
        (λ is. absurd (false≢true (sym not ∙ (ap (λ (s : ℕ). is_blank (slot_bytes g x s)) is ∙ blank_slot g x slot blank slot (omega arith) lt))))
        (λ apart. same k within apart)
        (cases_eq k slot)

    pub adds_torn : entry_in (slot_bytes g y slot) ≡ None → AddsFor g block x y
    adds_torn none = record {
      used = used_stay;
      more = [];
      entries = counting_torn g x y slot lt blank same none ∙ sym (append-nil (counting g x));
      for_block = All-nil IsFor;
    }

    pub adds_entry : (e : Entry) → e.block ≡ block → counting g y ≡ counting g x ++ e ∷ [] → AddsFor g block x y
    adds_entry e is entries = record { used = used_stay; more = e ∷ []; entries = entries; for_block = All-cons IsFor e [] is (All-nil IsFor) }
