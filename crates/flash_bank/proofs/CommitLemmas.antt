-- A record that is written into the spare record block.
use Rattle.std.proofs.Common.{◌≡◌, ◌≢◌, ◌⊎◌, inl, inr, ⊎_elim, ℕ, zero, suc, ◌+◌, ◌-◌, ◌*◌, ◌<◌, ◌≤◌, List, length, get_or, refl, sym, ◌∙◌, ap, subst, arith}
use Rattle.flash_dev.specs.Changes.{Changes, IsBlank, IsTornProgram, IsProgrammed}
use Rattle.flash_dev.proofs.ChangesLemmas.{same_bytes}
use Rattle.flash_layout.specs.Journal.{IsHeader, IsSettled, header_number}
use Rattle.flash_layout.specs.Layout.{Geometry, HasJournals, IsInLimits, area_bytes, area_len, area_place, bank_len, journal_bytes, mark_count, record_bytes, record_place, slots_at}
use Rattle.flash_bank.specs.Layout.{Allows, HoldsRecord}
use Rattle.flash_layout.specs.Pairs.{AreWhole, NoneBelow}
use Rattle.flash_bank.specs.Record.{IsInRange, IsValid, layout_of, record_of, written}
use Rattle.flash_bank.specs.Runs.{SameAt}
use Rattle.flash_bank.specs.Sound.{IsSound, IsCurrent, JournalsFit, HoldsTwo, Boot, BootOf, PrevOf, Keeps, Commits, boot_in, boot_of, image_in, image_of, number_in, record_in}
use Rattle.flash_bank.specs.declared.record.Record.{Record}
use Rattle.flash_bank.proofs.RecordLemmas.{record_of-written, valid-written, whole-written}
use Rattle.flash_layout.proofs.PartLemmas.{get_or-part, length-part, none_below_above, whole_is, whole_none_below, whole_or_not}
use Rattle.flash_layout.proofs.Places.{Apart, area_from_record, part_apart, record_within, records_apart}
use Rattle.flash_bank.proofs.SoundLemmas.{Stays, keeps, one_current, one_or_other, same_boot, two_room}
use Rattle.flash_bank.proofs.StayLemmas.{bank_below, same_apart, same_area, same_image, same_journal}

-- y is x with this record, whole, in the other record block
pub record Adds (g : Geometry) (r : ℕ) (new : Record) (x y : List ℕ) : Type 0 where
  pub size : length y ≡ length x
  pub sound : IsSound g x
  pub current : IsCurrent g x r
  pub head : record_bytes g y r ≡ record_bytes g x r
  pub areas : (k : ℕ) → area_bytes g y k ≡ area_bytes g x k
  pub is_written : record_bytes g y (1 - r) ≡ written new
  pub in_range : IsInRange new
  pub next : new.number ≡ number_in g x r + 1
  pub allowed : Allows g (1 - r) (0x53535530 + new.layout) new.bank new.length
  pub journals : ((q : ℕ) × (q < 2) × HoldsTwo g y q) → JournalsFit g y

module _ (g : Geometry) (r : ℕ) (new : Record) (x y : List ℕ) (a : Adds g r new x y) where
  pub adds_new : record_in g y (1 - r) ≡ new
  adds_new = ap record_of a.is_written ∙ record_of-written new a.in_range.layout a.in_range.number a.in_range.bank a.in_range.len a.in_range.model a.in_range.version a.in_range.group

  pub adds_valid : HoldsRecord g y (1 - r)
  adds_valid =
      subst (IsValid (Allows g (1 - r))) (sym a.is_written)
      (valid-written new a.in_range.layout a.in_range.number a.in_range.bank a.in_range.len a.in_range.model a.in_range.version a.in_range.group
      (Allows g (1 - r)) a.allowed)

  pub adds_old : HoldsRecord g y r
  adds_old = subst (IsValid (Allows g r)) (sym a.head) a.current.valid

  pub adds_old_is : record_in g y r ≡ record_in g x r
  adds_old_is = ap record_of a.head

  pub adds_less : number_in g y r < number_in g y (1 - r)
  adds_less =
      let old : number_in g y r ≡ number_in g x r = ap (λ (h : Record). h.number) adds_old_is in
      let next : number_in g y (1 - r) ≡ new.number = ap (λ (h : Record). h.number) adds_new in
      omega (arith, old, next, a.next)

  -- 1 - (1 - r) is r
  back : 1 - (1 - r) ≡ r
  back = omega (arith, a.current.is_block)

  -- the new record is current
  pub adds_current : IsCurrent g y (1 - r)
  adds_current = record { is_block = omega arith; valid = adds_valid; newest = λ valid. subst (λ (k : ℕ). number_in g y k < number_in g y (1 - r)) (sym back) adds_less }

  same_images : (head : Record) → image_of g y head ≡ image_of g x head
  same_images head = ap (λ (area : List ℕ). image_in g area head) (a.areas head.bank)

  adds_settled : (q : ℕ) → q < 2 → NoneBelow (record_bytes g y q) 32
  adds_settled q lt = pick (one_or_other q r lt a.current.is_block)
    where
      pick : (q ≡ r) ⊎ (q ≡ 1 - r) → NoneBelow (record_bytes g y q) 32
      pick (inl is) = subst (λ (k : ℕ). NoneBelow (record_bytes g y k) 32) (sym is) (subst (λ (l : List ℕ). NoneBelow l 32) (sym a.head) (a.sound.settled r a.current.is_block))
      pick (inr is) = subst (λ (k : ℕ). NoneBelow (record_bytes g y k) 32) (sym is)
          (subst (λ (l : List ℕ). NoneBelow l 32) (sym a.is_written) (whole_none_below (written new) 32 (whole-written new a.in_range.layout a.in_range.number a.in_range.bank a.in_range.len a.in_range.model a.in_range.version a.in_range.group)))

  adds_sound : IsSound g y
  adds_sound = record {
    size = a.size ∙ a.sound.size;
    settled = adds_settled;
    some = some_at r a.current.is_block adds_old;
    distinct = λ first second. distinct r a.current.is_block adds_less;
    journals = λ q lt two. a.journals (q, lt, two);
  }
    where
      some_at : (q : ℕ) → q < 2 → HoldsRecord g y q → HoldsRecord g y 0 ⊎ HoldsRecord g y 1
      some_at zero lt valid = inl valid
      some_at (suc zero) lt valid = inr valid
      some_at (suc (suc q)) lt valid = absurd (omega arith)

      distinct : (q : ℕ) → q < 2 → number_in g y q < number_in g y (1 - q) → number_in g y 0 ≢ number_in g y 1
      distinct zero lt less is = omega (arith, less, is)
      distinct (suc zero) lt less is = omega (arith, less, is)
      distinct (suc (suc q)) lt less is = absurd (omega arith)

  -- boot takes the new record with its image, and what it took before is what it took of x
  pub commits : Commits g (boot_of g x new) x y
  commits = record {
    sound = adds_sound;
    boot = record { block = 1 - r; current = adds_current; is = new_boot };
    prev = λ b from. prev_is b from;
    no_other = λ b from. prev_was b from;
  }
    where
      new_boot : record { head = new; image = image_of g x new } ≡ boot_in g y (1 - r)
      new_boot =
          let image : image_of g y (record_in g y (1 - r)) ≡ image_of g x new = ap (image_of g y) adds_new ∙ same_images new in
          let head = adds_new in
          (λ i. record { head = sym head i; image = sym image i })

      old_boot : boot_in g y r ≡ boot_in g x r
      old_boot = same_boot g x y r a.head (same_images (record_in g x r))

      prev_is : (b : Boot) → BootOf g x b → PrevOf g y b
      prev_is b from =
          let is : from.block ≡ r = one_current g x from.block r from.current a.current in
          record {
            block = 1 - r;
            current = adds_current;
            valid = subst (λ (q : ℕ). HoldsRecord g y q) (sym back) adds_old;
            is = from.is ∙ (ap (boot_in g x) is ∙ (sym old_boot ∙ ap (boot_in g y) (sym back)));
          }

      prev_was : (b : Boot) → PrevOf g y b → BootOf g x b
      prev_was b from =
          let is : from.block ≡ 1 - r = one_current g y from.block (1 - r) from.current adds_current in
          record { block = r; current = a.current; is = from.is ∙ (ap (λ (q : ℕ). boot_in g y (1 - q)) is ∙ (ap (boot_in g y) back ∙ old_boot)) }

-- what is needed of a record that may follow the current one
pub record Follows (g : Geometry) (r : ℕ) (new : Record) (x : List ℕ) : Type 0 where
  pub in_range : IsInRange new
  pub next : new.number ≡ number_in g x r + 1
  pub allowed : Allows g (1 - r) (0x53535530 + new.layout) new.bank new.length
  -- of contents that end up with it, the journals fit
  pub journals : (y : List ℕ) → length y ≡ length x → record_bytes g y r ≡ record_bytes g x r → record_in g y (1 - r) ≡ new
      → ((k : ℕ) → SameAt (area_place g k) (area_len g) x y) → ((q : ℕ) × (q < 2) × HoldsTwo g y q) → JournalsFit g y

module _ (g : Geometry) (limits : IsInLimits g) (r : ℕ) (new : Record) (x : List ℕ) (sound : IsSound g x) (current : IsCurrent g x r)
    (blank : IsBlank x (record_place g (1 - r)) 64) (follows : Follows g r new x) where
  other_lt : 1 - r < 2
  other_lt = omega arith

  length-written : length (written new) ≡ 2 * 32
  length-written = refl

  new_whole : AreWhole (written new) 32
  new_whole = let f = follows.in_range in whole-written new f.layout f.number f.bank f.len f.model f.version f.group

  short : (p m : ℕ) → Apart p m (record_place g (1 - r)) g.block_len → Apart p m (record_place g (1 - r)) 64
  short p m (inl front) = inl front
  short p m (inr behind) = inr (omega (arith, limits.least_len))

  module _ (P : ℕ → ℕ → ℕ → Type 0) (y : List ℕ) (changes : Changes (record_place g (1 - r)) 64 P x y) where
    same_areas : (k : ℕ) → SameAt (area_place g k) (area_len g) x y
    same_areas k = same_apart _ _ _ _ P x y (short (area_place g k) (area_len g) (area_from_record g limits k (1 - r) other_lt)) changes

    same_head : record_bytes g y r ≡ record_bytes g x r
    same_head = part_apart _ _ _ _ P x y (short (record_place g r) 64 (records_apart g limits r current.is_block)) changes

    -- a change of the spare record's place that leaves the whole new record
    pub adds : record_bytes g y (1 - r) ≡ written new → Adds g r new x y
    adds is_written = record {
      size = changes.size;
      sound = sound;
      current = current;
      head = same_head;
      areas = λ k. same_area g limits r x sound current y changes.size k (same_areas k);
      is_written = is_written;
      in_range = follows.in_range;
      next = follows.next;
      allowed = follows.allowed;
      journals = λ two. follows.journals y changes.size same_head (ap record_of is_written ∙ new_back) same_areas two;
    }
      where
        new_back : record_of (written new) ≡ new
        new_back = let f = follows.in_range in record_of-written new f.layout f.number f.bank f.len f.model f.version f.group

    spare_size : length (record_bytes g y (1 - r)) ≡ 2 * 32
    spare_size = length-part y (record_place g (1 - r)) 64 (omega (arith, changes.size, sound.size, record_within g limits (1 - r) other_lt, limits.least_len))

  -- once the record is programmed
  pub done_adds : (y : List ℕ) → Changes (record_place g (1 - r)) 64 (IsProgrammed (written new)) x y → Adds g r new x y
  done_adds y changes =
      adds _ y changes (same_bytes (record_bytes g y (1 - r)) (written new) (spare_size _ y changes)
      (λ k lt. let below : k < 64 = omega (arith, spare_size _ y changes) in get_or-part y (record_place g (1 - r)) 64 k below ∙ changes.inside k below))

  -- while it is programmed on erased bytes
  pub torn_keeps : (y : List ℕ) → Changes (record_place g (1 - r)) 64 (IsTornProgram (written new)) x y → Keeps g x y ⊎ Commits g (boot_of g x new) x y
  torn_keeps y changes =
      ⊎_elim (λ whole. inr (commits g r new x y (adds _ y changes (is_new whole)))) (λ broken. inl (keeps g x y changes.size sound r (stays broken)))
      (whole_or_not (record_bytes g y (1 - r)) 32)
    where
      above : (k : ℕ) → k < 2 * 32 → get_or (written new) k 0 ≤ get_or (record_bytes g y (1 - r)) k 0
      above k lt = omega (arith, (changes.inside k (omega arith)).0, get_or-part y (record_place g (1 - r)) 64 k (omega arith))

      is_new : AreWhole (record_bytes g y (1 - r)) 32 → record_bytes g y (1 - r) ≡ written new
      is_new whole = whole_is (written new) (record_bytes g y (1 - r)) 32 length-written (spare_size _ y changes) (whole_none_below (written new) 32 new_whole) above whole

      same : (k : ℕ) → SameAt (area_place g k) (area_len g) x y
      same = same_areas _ y changes

      stays : (AreWhole (record_bytes g y (1 - r)) 32 → ⊥) → Stays g x y changes.size sound r
      stays broken = record {
        current = current;
        bank_lt = bank_below g x r current.is_block current.valid;
        head = same_head _ y changes;
        image = same_image g limits r x sound current y changes.size (record_in g x r) (same (record_in g x r).bank);
        journal = λ two. same_journal g limits r x sound current y changes.size (record_in g x r).bank two.0 (same (record_in g x r).bank);
        other_settled = none_below_above (written new) (record_bytes g y (1 - r)) 32 (whole_none_below (written new) 32 new_whole) above;
        other = λ valid. absurd (broken valid.whole);
        other_image = λ valid before. absurd (broken valid.whole);
        settled = λ two. subst (IsSettled (mark_count g) (slots_at g)) (sym (same_journal g limits r x sound current y changes.size (1 - (record_in g x r).bank) two.0 (same (1 - (record_in g x r).bank)))) (two.1.settled (1 - (record_in g x r).bank) (omega arith));
        header = λ two header. let is = same_journal g limits r x sound current y changes.size (1 - (record_in g x r).bank) two.0 (same (1 - (record_in g x r).bank)) in inl (subst IsHeader is header, ap header_number is);
      }

-- The record of y in block r is that of x, the other one is new, and the areas are those of x.
pub record HasNew (g : Geometry) (r : ℕ) (new : Record) (x y : List ℕ) : Type 0 where
  pub size : length y ≡ length x
  pub head : record_in g y r ≡ record_in g x r
  pub is_new : record_in g y (1 - r) ≡ new
  pub same : (k : ℕ) → SameAt (area_place g k) (area_len g) x y

module _ (g : Geometry) (limits : IsInLimits g) (r : ℕ) (new : Record) (x : List ℕ) (sound : IsSound g x) (current : IsCurrent g x r)
    (next : new.number ≡ number_in g x r + 1) (layout : new.layout ≡ (record_in g x r).layout)
    (bank_is : new.bank ≡ 1 - (record_in g x r).bank) where
  module _ (y : List ℕ) (h : HasNew g r new x y) (own_two : (record_in g x r).layout ≡ 2) where
    fit : JournalsFit g x
    fit = sound.journals r current.is_block (current.valid, own_two)

    room : HasJournals g
    room = two_room g x r (current.valid, own_two)

    journal_is : (k : ℕ) → journal_bytes g y k ≡ journal_bytes g x k
    journal_is k = same_journal g limits r x sound current y h.size k room (h.same k)

    least : (k : ℕ) → k < 2 → IsHeader (journal_bytes g y k) → header_number (journal_bytes g y k) ≤ number_in g x r + 1
    least k lt header = omega (arith, fit.next k r lt current.is_block (subst IsHeader (journal_is k) header) current.valid, ap header_number (journal_is k))

    old_number : number_in g y r ≡ number_in g x r
    old_number = ap (λ (h : Record). h.number) h.head

    new_number : number_in g y (1 - r) ≡ number_in g x r + 1
    new_number = ap (λ (h : Record). h.number) h.is_new ∙ next

    next_at : (k q : ℕ) → k < 2 → IsHeader (journal_bytes g y k) → (q ≡ r) ⊎ (q ≡ 1 - r) → header_number (journal_bytes g y k) ≤ number_in g y q + 1
    next_at k q k_lt header (inl is) = omega (arith, least k k_lt header, ap (number_in g y) is, old_number)
    next_at k q k_lt header (inr is) = omega (arith, least k k_lt header, ap (number_in g y) is, new_number)

    named_at : (k q : ℕ) → k < 2 → IsHeader (journal_bytes g y k) → (record_in g y q).bank ≡ k → (q ≡ r) ⊎ (q ≡ 1 - r) → header_number (journal_bytes g y k) ≤ number_in g y q
    named_at k q k_lt header names (inl is) =
        let bank : (record_in g x r).bank ≡ k = ap (λ (h : Record). h.bank) (sym h.head) ∙ (ap (λ (p : ℕ). (record_in g y p).bank) (sym is) ∙ names) in
        omega (arith, fit.named k r k_lt current.is_block (subst IsHeader (journal_is k) header) current.valid bank, ap header_number (journal_is k), ap (number_in g y) is, old_number)
    named_at k q k_lt header names (inr is) = omega (arith, least k k_lt header, ap (number_in g y) is, new_number)

    differ : (record_in g y r).bank ≢ (record_in g y (1 - r)).bank
    differ is =
        let old : (record_in g y r).bank ≡ (record_in g x r).bank = ap (λ (h : Record). h.bank) h.head in
        let other : (record_in g y (1 - r)).bank ≡ 1 - (record_in g x r).bank = ap (λ (h : Record). h.bank) h.is_new ∙ bank_is in
        omega (arith, is, old, other, bank_below g x r current.is_block current.valid)

    differ_at : (q : ℕ) → q < 2 → (record_in g y q).bank ≢ (record_in g y (1 - q)).bank → (record_in g y 0).bank ≢ (record_in g y 1).bank
    differ_at zero lt apart is = apart is
    differ_at (suc zero) lt apart is = apart (sym is)
    differ_at (suc (suc q)) lt apart is = absurd (omega arith)

    layout_at : (q : ℕ) → (q ≡ r) ⊎ (q ≡ 1 - r) → (record_in g y q).layout ≡ 2
    layout_at q (inl is) = ap (λ (p : ℕ). (record_in g y p).layout) is ∙ (ap (λ (h : Record). h.layout) h.head ∙ own_two)
    layout_at q (inr is) = ap (λ (p : ℕ). (record_in g y p).layout) is ∙ (ap (λ (h : Record). h.layout) h.is_new ∙ (layout ∙ own_two))

    two_journals : JournalsFit g y
    two_journals = record {
      settled = λ k lt. subst (IsSettled (mark_count g) (slots_at g)) (sym (journal_is k)) (fit.settled k lt);
      next = λ k q k_lt q_lt header valid. next_at k q k_lt header (one_or_other q r q_lt current.is_block);
      named = λ k q k_lt q_lt header valid names. named_at k q k_lt header names (one_or_other q r q_lt current.is_block);
      apart = λ first second. λ is. differ_at r current.is_block differ is;
      short = λ q lt one. let two = layout_at q (one_or_other q r lt current.is_block) in absurd (omega (arith, one.1, two));
    }

  -- a record of layout 2 in y says that the current one of x is of layout 2
  own_layout : (y : List ℕ) → HasNew g r new x y → (q : ℕ) → HoldsTwo g y q → (q ≡ r) ⊎ (q ≡ 1 - r) → (record_in g x r).layout ≡ 2
  own_layout y h q two (inl is) = ap (λ (h : Record). h.layout) (sym h.head) ∙ (ap (λ (p : ℕ). (record_in g y p).layout) (sym is) ∙ two.1)
  own_layout y h q two (inr is) = sym layout ∙ (ap (λ (h : Record). h.layout) (sym h.is_new) ∙ (ap (λ (p : ℕ). (record_in g y p).layout) (sym is) ∙ two.1))

  abbrev magic_of : ℕ → ℕ
  magic_of l = 0x53535530 + l

  -- A record of the layout of the current one, over the spare area, may follow it.
  pub next_follows : IsInRange new → new.length ≤ bank_len g new.layout → Follows g r new x
  next_follows in_range fits = record {
    in_range = in_range;
    next = next;
    allowed = ⊎_elim
        (λ one.
        let is : new.layout ≡ 1 = layout ∙ ap layout_of one.magic_is in
        inl (record { magic_is = ap magic_of is; bank_is = bank_is ∙ ap (λ (k : ℕ). 1 - k) one.bank_is; fits = subst (λ (l : ℕ). new.length ≤ bank_len g l) is fits }))
        (λ two.
        let is : new.layout ≡ 2 = layout ∙ ap layout_of two.magic_is in
        inr (record { room = two.room; magic_is = ap magic_of is; bank_is = omega (arith, bank_is); fits = subst (λ (l : ℕ). new.length ≤ bank_len g l) is fits }))
        current.valid.allowed;
    journals = λ y size head is_new same two.
        let h : HasNew g r new x y = record { size = size; head = ap record_of head; is_new = is_new; same = same } in
        two_journals y h (own_layout y h two.0 two.2 (one_or_other two.0 r two.1 current.is_block));
  }
