-- How contents of layout 1 become contents of layout 2.
use Rattle.std.specs.Prelude.{Result, Ok, Err, IfOk, OnErr}
use Rattle.std.proofs.Common.{◌≡◌, ◌⊎◌, inl, inr, ⊎_elim, ℕ, ◌+◌, ◌-◌, ◌<◌, ◌≤◌, List, get_or, refl, sym, ◌∙◌, ap, subst, arith}
use Rattle.flash_dev.specs.Changes.{Changes, IsBlank, IsErased, IsProgrammed, IsTornProgram}
use Rattle.flash_layout.specs.Layout.{Geometry, HasJournals, IsInLimits, area_len, area_place, journal_len, journal_place, record_bytes, record_place, short_len}
use Rattle.flash_layout.specs.Pairs.{part}
use Rattle.flash_layout.proofs.PartLemmas.{part_same}
use Rattle.flash_layout.proofs.Places.{Apart, area_is, areas_apart, first_before_slots, record_before_area, slots_before_end}
use Rattle.flash_dev.specs.Moments.{LeavesOnly}
use Rattle.flash_dev.proofs.Moments.{joined, started, weaker}
use Rattle.flash_bank.specs.Find.{Finds}
use Rattle.flash_bank.specs.Layout.{HoldsRecord}
use Rattle.flash_bank.specs.Migrate.{HasCurrent, HasRoom, IsExact, LeavesMoved, Movable, MovesBoot, OnAlready, SameOutsideMove, SaysAlready, SaysNoFit, SaysNow, SaysWorn, moved_boot, moved_record}
use Rattle.flash_bank.specs.Record.{IsInRange, record_of, written}
use Rattle.flash_bank.specs.Runs.{IsOutside, SameAt}
use Rattle.flash_bank.specs.Sound.{IsSound, IsCurrent, HoldsTwo, JournalsFit, Boot, BootOf, Keeps, Commits, boot_of, image_of, record_in}
use Rattle.flash_bank.specs.Spare.{Clears, Cleared, CutsJournal, CutsSpare}
use Rattle.flash_bank.specs.declared.find.Current.{Current}
use Rattle.flash_bank.specs.declared.fault.MigrateFault.{MigrateFault}
use Rattle.flash_bank.specs.declared.migration.Migrated.{Migrated}
use Rattle.flash_bank.specs.declared.migration.Migrated.TheVariants.{Now, Already}
use Rattle.flash_bank.specs.declared.record.Record.{Record}
use Rattle.flash_bank.proofs.ClearLemmas.{blank_apart, change_outside, clears_stays, cuts_keep, cuts_outside, cuts_size}
use Rattle.flash_bank.proofs.CommitLemmas.{Follows, commits, done_adds, torn_keeps}
use Rattle.flash_bank.proofs.FormatLemmas.{erased_no_header, erased_settled}
use Rattle.flash_bank.proofs.ImageLemmas.{image_one, image_two}
use Rattle.flash_bank.proofs.SoundLemmas.{InTwo, Stays, current_still, keeps, keeps_joined, keeps_same, one_boot, one_current, one_or_other, sound_still}
use Rattle.flash_bank.proofs.StayLemmas.{blank_none_below, blank_not_whole, own_bank_lt}

-- ---- what boot takes, from step to step

-- a record is committed after changes that keep what boot takes
commits_joined : (g : Geometry) (x mid y : List ℕ) (new b : Boot) → BootOf g x b → Keeps g x mid → Commits g new mid y → Commits g new x y
commits_joined g x mid y new b from keeps commits = record {
  sound = commits.sound;
  boot = commits.boot;
  prev = λ before is. commits.prev before (keeps.boot before is);
  no_other = λ before is. subst (BootOf g x) (one_boot g mid b before (keeps.boot b from) (commits.no_other before is)) from;
}

module _ (g : Geometry) (r : ℕ) (old : Record) (x : List ℕ) (can : Movable g r old x) where
  -- what boot takes of it
  pub old_boot : BootOf g x (boot_of g x old)
  old_boot = record { block = r; current = can.current; is = ap (boot_of g x) (sym can.head) }

  outside_at : (y : List ℕ) → SameOutsideMove g r old.bank x y → (block : ℕ) → IsCurrent g x block → SameOutsideMove g block (record_in g x block).bank x y
  outside_at y outside block current =
      let is : r ≡ block = one_current g x r block can.current current in
      subst (λ (q : ℕ). SameOutsideMove g q (record_in g x q).bank x y) is (subst (λ (h : Record). SameOutsideMove g r h.bank x y) (sym can.head) outside)

  -- what keeps boot, or commits the moved record with the former image, leaves the update
  pub leaves_moved : (y : List ℕ) → Keeps g x y ⊎ Commits g (moved_boot (boot_of g x old)) x y → SameOutsideMove g r old.bank x y → LeavesMoved g x y
  leaves_moved y (inl keeps) outside = record {
    sound = keeps.sound;
    update = λ b c from is.
        let same : c ≡ b = one_boot g y c b is (keeps.boot b from) in
        record { image = ap (λ (t : Boot). t.image) same; software = ap (λ (t : Boot). t.head.software) same; group = ap (λ (t : Boot). t.head.group) same };
    boot = inl keeps;
    outside = outside_at y outside;
  }
  leaves_moved y (inr commits) outside = record {
    sound = commits.sound;
    update = λ b c from is.
        let after : c ≡ moved_boot (boot_of g x old) = one_boot g y c (moved_boot (boot_of g x old)) is commits.boot in
        let before : boot_of g x old ≡ b = one_boot g x (boot_of g x old) b old_boot from in
        record {
          image = ap (λ (t : Boot). t.image) after ∙ ap (λ (t : Boot). t.image) before;
          software = ap (λ (t : Boot). t.head.software) after ∙ ap (λ (t : Boot). t.head.software) before;
          group = ap (λ (t : Boot). t.head.group) after ∙ ap (λ (t : Boot). t.head.group) before;
        };
    boot = inr (boot_of g x old, old_boot, commits);
    outside = outside_at y outside;
  }

-- sound contents that did not change
pub leaves_same : (g : Geometry) (x : List ℕ) → IsSound g x → LeavesMoved g x x
leaves_same g x sound = record {
  sound = sound;
  update = λ b c from is.
      let same : c ≡ b = one_boot g x c b is from in
      record { image = ap (λ (t : Boot). t.image) same; software = ap (λ (t : Boot). t.head.software) same; group = ap (λ (t : Boot). t.head.group) same };
  boot = inl (keeps_same g x sound);
  outside = λ block current. record { size = refl; same = λ k record_out area_out journal_out. refl };
}

outside_joined : (g : Geometry) (r a : ℕ) (x mid y : List ℕ) → SameOutsideMove g r a x mid → SameOutsideMove g r a mid y → SameOutsideMove g r a x y
outside_joined g r a x mid y first second = record {
  size = second.size ∙ first.size;
  same = λ k record_out area_out journal_out. second.same k record_out area_out journal_out ∙ first.same k record_out area_out journal_out;
}

-- ---- a change in the journal of the current area

-- It leaves the image of a record of layout 1 that ends before it.
module _ (g : Geometry) (limits : IsInLimits g) (room : HasJournals g) (r : ℕ) (old : Record) (x : List ℕ) (can : Movable g r old x) (bank_lt : old.bank < 2)
    (blank : IsBlank x (record_place g (1 - r)) 64) (y : List ℕ) (P : ℕ → ℕ → ℕ → Type 0) (changes : Changes (journal_place g old.bank) (journal_len g) P x y) where
  block_lt : r < 2
  block_lt = can.current.is_block

  -- records lie before it
  record_same : (q : ℕ) → q < 2 → record_bytes g y q ≡ record_bytes g x q
  record_same q lt = part_same x y (record_place g q) 64 changes.size (λ i below. changes.before (record_place g q + i) (omega (arith, record_before_area g limits q old.bank lt, limits.least_len)))

  front_same : part y (area_place g old.bank) old.length ≡ part x (area_place g old.bank) old.length
  front_same = part_same x y (area_place g old.bank) old.length changes.size (λ i below. changes.before (area_place g old.bank + i) (omega (arith, can.short)))

  in_area : old.length ≤ area_len g
  in_area = omega (arith, can.short, area_is g limits room)

  image_same : image_of g y old ≡ image_of g x old
  image_same = image_one g y old can.one in_area ∙ (front_same ∙ sym (image_one g x old can.one in_area))

  blank_still : IsBlank y (record_place g (1 - r)) 64
  blank_still i lt = changes.before (record_place g (1 - r) + i) (omega (arith, record_before_area g limits (1 - r) old.bank (omega arith), limits.least_len)) ∙ blank i lt

  none : HoldsRecord g y (1 - r) → ⊥
  none valid = blank_not_whole y (record_place g (1 - r)) blank_still valid.whole

  own_is : record_in g y r ≡ old
  own_is = ap record_of (record_same r block_lt) ∙ can.head

  no_two : (q : ℕ) → HoldsTwo g y q → (q ≡ r) ⊎ (q ≡ 1 - r) → ⊥
  no_two q two (inl is) =
      let layout : (record_in g y q).layout ≡ 1 = ap (λ (k : ℕ). (record_in g y k).layout) is ∙ (ap (λ (h : Record). h.layout) own_is ∙ can.one) in
      omega (arith, two.1, layout)
  no_two q two (inr is) = none (subst (λ (k : ℕ). HoldsRecord g y k) is two.0)

  never : InTwo g x y changes.size can.sound → ⊥
  never two = no_two two.2.0 two.2.2 (one_or_other two.2.0 r two.2.1 block_lt)

  journal_stays : Stays g x y changes.size can.sound r
  journal_stays = record {
    current = can.current;
    bank_lt = own_bank_lt g limits r x can.sound can.current;
    head = record_same r block_lt;
    image = subst (λ (h : Record). image_of g y h ≡ image_of g x h) (sym can.head) image_same;
    journal = λ two. absurd (never two);
    other_settled = blank_none_below y (record_place g (1 - r)) blank_still;
    other = λ valid. absurd (none valid);
    other_image = λ valid before. absurd (none valid);
    settled = λ two. absurd (never two);
    header = λ two _. absurd (never two);
  }

  pub journal_keeps : Keeps g x y
  journal_keeps = keeps g x y changes.size can.sound r journal_stays

  pub journal_movable : Movable g r old y
  journal_movable = record {
    sound = sound_still g x y changes.size can.sound r journal_stays;
    current = current_still g x y changes.size can.sound r journal_stays;
    head = own_is;
    one = can.one;
    short = can.short;
  }

  pub journal_blank : IsBlank y (record_place g (1 - r)) 64
  journal_blank = blank_still

  pub journal_outside : SameOutsideMove g r old.bank x y
  journal_outside = record { size = changes.size; same = λ k record_out area_out journal_out. change_outside _ _ P x y changes k journal_out }

-- ---- the record of layout 2, once both journals are erased

module _ (g : Geometry) (limits : IsInLimits g) (room : HasJournals g) (r : ℕ) (old : Record) (x : List ℕ) (can : Movable g r old x) (bank_lt : old.bank < 2)
    (blank : IsBlank x (record_place g (1 - r)) 64) (journals : (k : ℕ) → k < 2 → IsBlank x (journal_place g k) (journal_len g)) (in_range : IsInRange (moved_record old)) where
  own_lt : r < 2
  own_lt = can.current.is_block

  -- its image is that of the record before
  pub moved_image : image_of g x (moved_record old) ≡ image_of g x old
  moved_image = image_two g x (moved_record old) limits room refl can.short (journals old.bank bank_lt) ∙ sym (image_one g x old can.one (omega (arith, can.short, area_is g limits room)))

  -- contents that end up with it
  module _ (y : List ℕ) (head : record_in g y r ≡ old) (is_new : record_in g y (1 - r) ≡ moved_record old) (same : (k : ℕ) → SameAt (area_place g k) (area_len g) x y) where
    erased : (k : ℕ) → k < 2 → IsBlank y (journal_place g k) (journal_len g)
    erased k lt p p_lt =
        let spot : area_place g k + (short_len g + p) ≡ journal_place g k + p = omega arith in
        subst (λ (i : ℕ). get_or y i 0 ≡ get_or x i 0) spot (same k (short_len g + p) (omega (arith, area_is g limits room))) ∙ journals k lt p p_lt

    own_one : (record_in g y r).layout ≡ 1
    own_one = ap (λ (h : Record). h.layout) head ∙ can.one

    not_both : HoldsTwo g y 0 → HoldsTwo g y 1 → (0 ≡ r) ⊎ (0 ≡ 1 - r) → ⊥
    not_both first second (inl is) = let layout : (record_in g y 0).layout ≡ 1 = ap (λ (p : ℕ). (record_in g y p).layout) is ∙ own_one in omega (arith, first.1, layout)
    not_both first second (inr is) =
        let is_one : 1 ≡ r = omega (arith, is, own_lt) in
        let layout : (record_in g y 1).layout ≡ 1 = ap (λ (p : ℕ). (record_in g y p).layout) is_one ∙ own_one in omega (arith, second.1, layout)

    short_at : (q : ℕ) → (q ≡ r) ⊎ (q ≡ 1 - r) → (record_in g y q).length ≤ short_len g
    short_at q (inl is) = let len : (record_in g y q).length ≡ old.length = ap (λ (p : ℕ). (record_in g y p).length) is ∙ ap (λ (h : Record). h.length) head in omega (arith, len, can.short)
    short_at q (inr is) = let len : (record_in g y q).length ≡ old.length = ap (λ (p : ℕ). (record_in g y p).length) is ∙ ap (λ (h : Record). h.length) is_new in omega (arith, len, can.short)

    journals_fit : JournalsFit g y
    journals_fit = record {
      settled = λ k lt. erased_settled g limits y k (erased k lt);
      next = λ k q k_lt q_lt header valid. absurd (erased_no_header g limits y k (erased k k_lt) header);
      named = λ k q k_lt q_lt header valid names. absurd (erased_no_header g limits y k (erased k k_lt) header);
      apart = λ first second. absurd (not_both first second (one_or_other 0 r (omega arith) own_lt));
      short = λ q lt h. short_at q (one_or_other q r lt own_lt);
    }

  pub moved_follows : Follows g r (moved_record old) x
  moved_follows = record {
    in_range = in_range;
    next = ap (λ (h : Record). h.number + 1) (sym can.head);
    allowed = inr (record { room = room; magic_is = refl; bank_is = bank_lt; fits = can.short });
    journals = λ y size head is_new same two. journals_fit y (ap record_of head ∙ can.head) is_new same;
  }

-- ---- the three steps

module _ (g : Geometry) (limits : IsInLimits g) (room : HasJournals g) (r : ℕ) (old : Record) (bank_lt : old.bank < 2) (x : List ℕ) (can : Movable g r old x) where
  own_bank : 1 - old.bank ≡ 1 - (record_in g x r).bank
  own_bank = ap (λ (h : Record). 1 - h.bank) (sym can.head)

  first_outside : (z : List ℕ) → CutsSpare g 1 (1 - r) (1 - old.bank) x z → SameOutsideMove g r old.bank x z
  first_outside z cuts = record {
    size = cuts_size g limits 1 (1 - r) (1 - old.bank) (omega arith) x z cuts;
    same = λ k record_out area_out journal_out. cuts_outside g limits 1 (1 - r) (1 - old.bank) (omega arith) x z cuts k record_out area_out;
  }

  first_keeps : (z : List ℕ) → CutsSpare g 1 (1 - r) (1 - old.bank) x z → Keeps g x z
  first_keeps z cuts = cuts_keep g limits 1 r x can.sound can.current z (subst (λ (q : ℕ). CutsSpare g 1 (1 - r) q x z) own_bank cuts)

  -- while what is spare is erased
  pub first_leaves : (z : List ℕ) → CutsSpare g 1 (1 - r) (1 - old.bank) x z → LeavesMoved g x z
  first_leaves z cuts = leaves_moved g r old x can z (inl (first_keeps z cuts)) (first_outside z cuts)

  module _ (m : List ℕ) (cleared : Cleared g 1 (1 - r) (1 - old.bank) x m) where
    m_clears : Clears g 1 (1 - r) (1 - (record_in g x r).bank) x m
    m_clears = subst (λ (q : ℕ). Clears g 1 (1 - r) q x m) own_bank cleared.clears

    m_stays : Stays g x m m_clears.size can.sound r
    m_stays = clears_stays g limits 1 r x can.sound can.current m m_clears

    m_can : Movable g r old m
    m_can = record {
      sound = sound_still g x m m_clears.size can.sound r m_stays;
      current = current_still g x m m_clears.size can.sound r m_stays;
      head = ap record_of m_stays.head ∙ can.head;
      one = can.one;
      short = can.short;
    }

    m_blank : IsBlank m (record_place g (1 - r)) 64
    m_blank i lt = cleared.clears.blank i (omega (arith, limits.least_len))

    abbrev AnyByte : ℕ → ℕ → ℕ → Type 0
    AnyByte k was is = Unit {0}

    in_journal : (z : List ℕ) → CutsJournal g old.bank m z → Changes (journal_place g old.bank) (journal_len g) AnyByte m z
    in_journal z (inl first) = record {
      size = first.size;
      before = first.before;
      after = λ i le. first.after i (omega (arith, first_before_slots g limits, slots_before_end g limits));
      inside = λ i lt. tt;
    }
    in_journal z (inr gone) = record { size = gone.all.size; before = gone.all.before; after = gone.all.after; inside = λ i lt. tt }

    second_keeps : (z : List ℕ) → CutsJournal g old.bank m z → Keeps g x z
    second_keeps z cuts = keeps_joined g x m z (first_keeps m (inr cleared.clears)) (journal_keeps g limits room r old m m_can bank_lt m_blank z AnyByte (in_journal z cuts))

    second_outside : (z : List ℕ) → CutsJournal g old.bank m z → SameOutsideMove g r old.bank x z
    second_outside z cuts =
        outside_joined g r old.bank x m z (first_outside m (inr cleared.clears)) (journal_outside g limits room r old m m_can bank_lt m_blank z AnyByte (in_journal z cuts))

    -- while the journal of the current area is erased
    pub second_leaves : (z : List ℕ) → CutsJournal g old.bank m z → LeavesMoved g x z
    second_leaves z cuts = leaves_moved g r old x can z (inl (second_keeps z cuts)) (second_outside z cuts)

    module _ (n : List ℕ) (cuts : CutsJournal g old.bank m n) (done : Changes (journal_place g old.bank) (journal_len g) IsErased m n) where
      n_can : Movable g r old n
      n_can = journal_movable g limits room r old m m_can bank_lt m_blank n IsErased done

      pub third_blank : IsBlank n (record_place g (1 - r)) 64
      third_blank = journal_blank g limits room r old m m_can bank_lt m_blank n IsErased done

      -- the spare area is erased still, and so are both journals
      n_area : IsBlank n (area_place g (1 - old.bank)) (area_len g)
      n_area = blank_apart (area_place g (1 - old.bank)) (area_len g) (journal_place g old.bank) (journal_len g) IsErased m n (apart (areas_apart g limits old.bank bank_lt)) done cleared.area
        where
          apart : Apart (area_place g old.bank) (area_len g) (area_place g (1 - old.bank)) (area_len g) → Apart (area_place g (1 - old.bank)) (area_len g) (journal_place g old.bank) (journal_len g)
          apart (inl front) = inr (omega (arith, area_is g limits room))
          apart (inr behind) = inl (omega (arith, area_is g limits room))

      n_journals : (k : ℕ) → k < 2 → IsBlank n (journal_place g k) (journal_len g)
      n_journals k lt = pick (one_or_other k old.bank lt bank_lt)
        where
          other : IsBlank n (journal_place g (1 - old.bank)) (journal_len g)
          other i below =
              let spot : area_place g (1 - old.bank) + (short_len g + i) ≡ journal_place g (1 - old.bank) + i = omega arith in
              subst (λ (p : ℕ). get_or n p 0 ≡ 255) spot (n_area (short_len g + i) (omega (arith, area_is g limits room)))

          pick : (k ≡ old.bank) ⊎ (k ≡ 1 - old.bank) → IsBlank n (journal_place g k) (journal_len g)
          pick (inl is) = subst (λ (q : ℕ). IsBlank n (journal_place g q) (journal_len g)) (sym is) done.inside
          pick (inr is) = subst (λ (q : ℕ). IsBlank n (journal_place g q) (journal_len g)) (sym is) other

      so_far : Keeps g x n
      so_far = second_keeps n cuts

      module _ (in_range : IsInRange (moved_record old)) where
        follows : Follows g r (moved_record old) n
        follows = moved_follows g limits room r old n n_can bank_lt third_blank n_journals in_range

        -- the moved record has the former image
        same_image : image_of g n (moved_record old) ≡ image_of g x old
        same_image =
            let own : boot_of g n old ≡ boot_of g x old = one_boot g n (boot_of g n old) (boot_of g x old) (old_boot g r old n n_can) (so_far.boot (boot_of g x old) (old_boot g r old x can)) in
            moved_image g limits room r old n n_can bank_lt third_blank n_journals in_range ∙ ap (λ (b : Boot). b.image) own

        commits_here : (y : List ℕ) → Commits g (boot_of g n (moved_record old)) n y → Commits g (moved_boot (boot_of g x old)) x y
        commits_here y commits =
            commits_joined g x n y (moved_boot (boot_of g x old)) (boot_of g x old) (old_boot g r old x can) so_far
            (subst (λ (image : List ℕ). Commits g (record { head = moved_record old; image = image }) n y) same_image commits)

        third_outside : (y : List ℕ) (P : ℕ → ℕ → ℕ → Type 0) → Changes (record_place g (1 - r)) 64 P n y → SameOutsideMove g r old.bank x y
        third_outside y P changes =
            outside_joined g r old.bank x n y (second_outside n cuts) (record { size = changes.size; same = λ k record_out area_out journal_out. change_outside _ _ P n y changes k (narrow k record_out) })
          where
            narrow : (k : ℕ) → IsOutside (record_place g (1 - r)) g.block_len k → IsOutside (record_place g (1 - r)) 64 k
            narrow k (inl front) = inl front
            narrow k (inr past) = inr (omega (arith, limits.least_len))

        -- while the moved record is programmed
        pub third_leaves : (y : List ℕ) → Changes (record_place g (1 - r)) 64 (IsTornProgram (written (moved_record old))) n y → LeavesMoved g x y
        third_leaves y changes =
            leaves_moved g r old x can y
            (⊎_elim (λ keeps. inl (keeps_joined g x n y so_far keeps)) (λ commits. inr (commits_here y commits))
            (torn_keeps g limits r (moved_record old) n n_can.sound n_can.current third_blank follows y changes))
            (third_outside y _ changes)

        -- once it is
        module _ (y : List ℕ) (put : Changes (record_place g (1 - r)) 64 (IsProgrammed (written (moved_record old))) n y) where
          area_apart : (k : ℕ) → Apart (area_place g k) (area_len g) (record_place g (1 - r)) 64
          area_apart k = inr (omega (arith, record_before_area g limits (1 - r) k (omega arith), limits.least_len))

          -- behind the moved record its block is erased
          rest_blank : (k : ℕ) → 64 ≤ k → k < g.block_len → get_or y (record_place g (1 - r) + k) 0 ≡ 255
          rest_blank k past lt =
              put.after (record_place g (1 - r) + k) (omega arith)
              ∙ (done.before (record_place g (1 - r) + k) (omega (arith, record_before_area g limits (1 - r) old.bank (omega arith))) ∙ cleared.clears.blank k lt)

          pub third_done : MovesBoot g r old x y
          third_done = record {
            commits = commits_here y (commits g r (moved_record old) n y (done_adds g limits r (moved_record old) n n_can.sound n_can.current third_blank follows y put));
            moves = record {
              head = put.inside;
              rest = rest_blank;
              area = blank_apart _ _ _ _ (IsProgrammed (written (moved_record old))) n y (area_apart (1 - old.bank)) put n_area;
              journal = λ i lt.
                  let behind = record_before_area g limits (1 - r) old.bank (omega arith) in
                  put.after (journal_place g old.bank + i) (omega (arith, behind, limits.least_len)) ∙ n_journals old.bank bank_lt i lt;
              outside = third_outside y _ put;
            };
          }

-- ---- where nothing was changed, or nothing yet

abbrev pub found_current : (g : Geometry) (x : List ℕ) (current : Current) → Finds g x current → HasCurrent g x current.head
found_current g x current found = record { sound = found.sound; block = current.block; current = found.current; head_is = found.head }

module _ {F : Type 0} (contents : F → List ℕ) (moment : F → ℕ) (left_since : F → ℕ → List ℕ → Type 0) (g : Geometry) where
  abbrev Leaves : F → F → List ℕ → Type 0
  Leaves old new x = LeavesOnly moment left_since old new (LeavesMoved g x)

  -- no call was made
  pub leaves_none : (old : F) → ((c : List ℕ) → left_since old (moment old) c → c ≡ contents old) → IsSound g (contents old) → Leaves old old (contents old)
  leaves_none old only_now sound = started moment left_since old (LeavesMoved g (contents old)) (λ c left. subst (LeavesMoved g (contents old)) (sym (only_now c left)) (leaves_same g (contents old) sound))

  -- calls that only read
  pub leaves_read : (old new : F) → IsSound g (contents old) → LeavesOnly moment left_since old new (λ c. c ≡ contents old) → Leaves old new (contents old)
  leaves_read old new sound reads =
      weaker moment left_since old new (λ c. c ≡ contents old) (LeavesMoved g (contents old)) (λ c is. subst (LeavesMoved g (contents old)) (sym is) (leaves_same g (contents old) sound)) reads

  -- and the move after them
  pub leaves_after : (old mid new : F) → IsSound g (contents old) → LeavesOnly moment left_since old mid (λ c. c ≡ contents old) → contents mid ≡ contents old
      → Leaves mid new (contents mid) → Leaves old new (contents old)
  leaves_after old mid new sound reads same moved =
      joined moment left_since old mid new (LeavesMoved g (contents old)) (leaves_read old mid sound reads) (subst (λ (x : List ℕ). Leaves mid new x) same moved)

-- ---- answers

pub on_err_map : {T E : Type 0} (r : Result T E) (P Q : Type 0) → (P → Q) → OnErr r P → OnErr r Q
on_err_map (Ok value) P Q f is = tt
on_err_map (Err fault) P Q f is = f is

already_map : (m : Migrated) (P Q : Type 0) → (P → Q) → OnAlready m (λ head. P) → OnAlready m (λ head. Q)
already_map (Now head) P Q f is = tt
already_map (Already head) P Q f is = f is

pub if_already_map : {E : Type 0} (r : Result Migrated E) (P Q : Type 0) → (P → Q) → IfOk r (λ m. OnAlready m (λ head. P)) → IfOk r (λ m. OnAlready m (λ head. Q))
if_already_map (Ok migrated) P Q f is = already_map migrated P Q f is
if_already_map (Err fault) P Q f is = tt

-- sound contents have one current record
one_head : (g : Geometry) (x : List ℕ) (a b : Record) → HasCurrent g x a → HasCurrent g x b → a ≡ b
one_head g x a b first second = first.head_is ∙ (ap (record_in g x) (one_current g x first.block second.block first.current second.current) ∙ sym second.head_is)

-- what is found decides the answer
pub exact_of : (g : Geometry) (x : List ℕ) (head : Record) (has : HasCurrent g x head) (r : Result Migrated MigrateFault)
    → (head.layout ≡ 2 → SaysAlready head r) → (head.layout ≡ 1 → head.number ≡ 4294967295 → SaysWorn r)
    → (head.layout ≡ 1 → head.number < 4294967295 → (HasRoom g head → ⊥) → SaysNoFit r)
    → (head.layout ≡ 1 → head.number < 4294967295 → HasRoom g head → SaysNow head r) → IsExact g x r
exact_of g x head has r already worn no_fit now = record {
  foreign = λ none. absurd (none has.sound);
  already = λ h is. let same : h ≡ head = one_head g x h head is.has has in
      subst (λ (q : Record). SaysAlready q r) (sym same) (already (ap (λ (q : Record). q.layout) (sym same) ∙ is.two));
  worn = λ h is. let same : h ≡ head = one_head g x h head is.has has in
      worn (ap (λ (q : Record). q.layout) (sym same) ∙ is.one) (ap (λ (q : Record). q.number) (sym same) ∙ is.greatest);
  no_fit = λ h is. let same : h ≡ head = one_head g x h head is.has has in
      no_fit (ap (λ (q : Record). q.layout) (sym same) ∙ is.one) (subst (λ (q : Record). q.number < 4294967295) same is.next_fits) (λ room. is.lacks (subst (HasRoom g) (sym same) room));
  now = λ h is. let same : h ≡ head = one_head g x h head is.has has in
      subst (λ (q : Record). SaysNow q r) (sym same)
      (now (ap (λ (q : Record). q.layout) (sym same) ∙ is.one) (subst (λ (q : Record). q.number < 4294967295) same is.next_fits) (subst (HasRoom g) same is.has_room));
}
