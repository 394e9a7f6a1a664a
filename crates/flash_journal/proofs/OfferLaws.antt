-- What a stage has once a place was offered.
use Rattle.std.specs.Prelude.{nat_le, ◌==◌, ◌||◌, ◌&&◌}
use Rattle.std.proofs.Common.{◌≡◌, ⊎_elim, ℕ, ◌+◌, ◌<◌, ◌≤◌, Bool, true, false, eqb, List, [], length, Option, None, Some, refl, sym, ap, subst, ◌∙◌, arith}
use Rattle.std.proofs.lemmas.Bool.{eqb-true, eq-eqb}
use Rattle.bank_kept.proofs.AreaLaws.{area_after}
use Rattle.bank_kept.proofs.CallLaws.{done_kept, offered_holds, offered_kept}
use Rattle.bank_kept.specs.Bank.{area_of_bank}
use Rattle.bank_kept.specs.Contents.{StagesGroup, StagesPlace}
use Rattle.bank_kept.specs.Leaving.{HoldsNoMoreBut, KeepsStaged}
use Rattle.flash_bank.proofs.BankLemmas.{still_blank_journal}
use Rattle.flash_bank.specs.Bank.{Fits, geometry_of, spare_bank}
use Rattle.flash_bank.specs.Sound.{Keeps}
use Rattle.flash_bank.specs.declared.bank.Bank.{Bank}
use Rattle.flash_bank.specs.declared.record.Record.{Record}
use Rattle.flash_dev.specs.Changes.{Changes, IsProgrammed}
use Rattle.flash_kept.specs.Offering.{LeavesOffered, Offers}
use Rattle.flash_kept.specs.SpareArea.{SpareArea}
use Rattle.flash_kept.specs.Staged.{IsStaged}
use Rattle.flash_layout.specs.Layout.{Geometry, mark_count}
use Rattle.flash_layout.specs.Pairs.{part}
use Rattle.flash_stage.proofs.InBankLemmas.{inside_plan, new_bytes, other_number, plan_in_bank, same_journal, still_blank, still_bytes, unmarked}
use Rattle.flash_stage.proofs.LeavingLaws.{len_same, spare_bank_same}
use Rattle.flash_stage.specs.InBank.{bytes_from}
use Rattle.flash_stage.specs.Keeping.{IsKeptIn, StagesJust}
use Rattle.flash_stage.specs.Leaving.{SameBank}
use Rattle.group_image.proofs.ImageLaws.{place_below}
use Rattle.ssu_group.specs.Place.{place_at}
use Rattle.ssu_group.specs.declared.places.Place.{Place}
use Rattle.flash_journal.proofs.KeptLaws.{KeptAt, Marked, SameGroup, kept_at, or_cases, or_left, or_right, staged_here, staged_text}
use Rattle.flash_journal.proofs.PlainLaws.{blank_stages_none, journal_some, journal_two}
use Rattle.flash_journal.proofs.StoreLaws.{area_same}
use Rattle.flash_journal.specs.InJournal.{IsBegunFor, KeepsPlaces, bytes_in_journal, has_in_journal, without_journal}
use Rattle.flash_journal.specs.StageLaws.{not_kept}
use Rattle.flash_journal.specs.Texts.{keeps_places, kept_text, text_of}
use Rattle.flash_journal.specs.declared.journal_stage.JournalStage.{JournalStage}

-- ---- the same group over the same bank

text_same : (k : Bool) (b b' : Bank) (c : List ℕ) (o : Option Place) → SameBank b b' → text_of k b' c o ≡ text_of k b c o
text_same k b b' c None same = refl
text_same true b b' c (Some p) same = ap (λ (a : SpareArea). kept_text a c p) (area_same b b' same)
text_same false b b' c (Some p) same = ap (λ (q : ℕ). part c (q + p.at) p.len) (spare_bank_same b b' same)

pub keeps_same : (b b' : Bank) (n m : ℕ) → SameBank b b' → m ≡ n → keeps_places b' m ≡ keeps_places b n
keeps_same b b' n m same is = (λ i. (same.current i).layout == 2 && nat_le (is i) (mark_count (same.geometry i)))

pub bytes_same : (s t : JournalStage) (b b' : Bank) (c : List ℕ) (n : ℕ) → SameGroup s t → SameBank b b' → bytes_in_journal t b' c n ≡ bytes_in_journal s b c n
unfolding bytes_in_journal
bytes_same s t b b' c n group same =
    (λ i. text_of (keeps_same b b' s.map.places t.map.places same group.places i) b' c (place_at (group.block_size i) (group.modules i) n))
    ∙ text_same (keeps_places b s.map.places) b b' c (place_at s.block_size s.modules.items n) same

pub kept_back : (s t : JournalStage) (b b' : Bank) → SameGroup s t → SameBank b b' → IsKeptIn b' t.map.places → IsKeptIn b s.map.places
kept_back s t b b' group same kept = record {
  two = ap (λ (h : Record). h.layout) (sym same.current) ∙ kept.two;
  few = let few = kept.few in let is = group.places in let marks = ap mark_count same.geometry in omega (arith, few, is, marks);
}

pub kept_on : (s t : JournalStage) (b b' : Bank) → SameGroup s t → SameBank b b' → IsKeptIn b s.map.places → IsKeptIn b' t.map.places
kept_on s t b b' group same kept = record {
  two = ap (λ (h : Record). h.layout) same.current ∙ kept.two;
  few = let few = kept.few in let is = group.places in let marks = ap mark_count same.geometry in omega (arith, few, is, marks);
}

pub just_moved : (s t : JournalStage) (b b' : Bank) (y : List ℕ) (has : ℕ → Bool) → SameGroup s t → SameBank b b'
    → StagesJust (geometry_of b) y s.message.items s.map.places has (bytes_in_journal s b y) → StagesJust (geometry_of b') y t.message.items t.map.places has (bytes_in_journal t b' y)
just_moved s t b b' y has group same just =
    let each = λ (n : ℕ). sym (bytes_same s t b b' y n group same) in
    let bytes : bytes_in_journal s b y ≡ bytes_in_journal t b' y = (λ i n. each n i) in
    subst (λ (f : ℕ → List ℕ). StagesJust (geometry_of b') y t.message.items t.map.places has f) bytes
    (subst (λ (n : ℕ). StagesJust (geometry_of b') y t.message.items n has (bytes_in_journal s b y)) (sym group.places)
    (subst (λ (m : List ℕ). StagesJust (geometry_of b') y m s.map.places has (bytes_in_journal s b y)) (sym group.message)
    (subst (λ (g : Geometry). StagesJust g y s.message.items s.map.places has (bytes_in_journal s b y)) (sym same.geometry) just)))

-- ---- a group that is kept

module _ (s : JournalStage) (b : Bank) (x y : List ℕ) (ready : IsBegunFor s b) (fits : Fits b x) (kept : IsKeptIn b s.map.places) (agrees : KeepsPlaces s b x) (keeps : Keeps (geometry_of b) x y) where
  abbrev g : Geometry
  g = geometry_of b

  abbrev area : SpareArea
  area = area_of_bank b

  abbrev just : StagesJust (geometry_of b) x s.message.items s.map.places (has_in_journal s) (bytes_in_journal s b x)
  just = agrees.kept kept

  at : KeptAt s b x ready.dii
  at = kept_at s b x ready fits kept just.dii just.group

  pub stage_group : StagesGroup (geometry_of b) x s.message.items ready.dii
  stage_group = record { area = area_of_bank b; spare = at.spare; staged = at.staged }

  module _ (p : Place) (bytes : List ℕ) where
    -- torn or done, nothing more is held but the place, and the margin falls by one at most
    pub stored_more : LeavesOffered (area_of_bank b) ready.dii s.message.items p.number bytes x y → HoldsNoMoreBut (geometry_of b) s.message.items p.number bytes x y
    stored_more leaves = offered_holds g area ready.dii s.message.items p.number bytes x y at.spare keeps leaves

    pub stored_staged : LeavesOffered (area_of_bank b) ready.dii s.message.items p.number bytes x y → KeepsStaged (geometry_of b) 1 1 x y
    stored_staged leaves = offered_kept g area ready.dii s.message.items p.number bytes x y at.spare keeps stage_group leaves

    module _ (offers : Offers (area_of_bank b) ready.dii s.message.items p.number bytes x y) where
      pub stored_kept : KeepsStaged (geometry_of b) 0 0 x y
      stored_kept = done_kept g area ready.dii s.message.items p.number bytes x y at.spare keeps stage_group offers

      after : KeptAt s b y ready.dii
      after = record { two = at.two; keeps = at.keeps; spare = area_after g x y area keeps at.spare; order = at.order; staged = offers.message_staged; places = at.places; numbered = at.numbered }

      place_after : (n : ℕ) (v : List ℕ) → IsStaged area y s.message.items n v → StagesPlace g y s.message.items n (bytes_in_journal s b y n)
      place_after n v has =
          subst (λ (w : List ℕ). StagesPlace g y s.message.items n w) (sym (staged_text s b y ready.dii after n v has)) (record { area = area; spare = after.spare; staged = has })

      pub new_text : bytes_in_journal s b y p.number ≡ bytes
      new_text = staged_text s b y ready.dii after p.number bytes offers.added

      still_staged : (n : ℕ) → n < s.map.places → has_in_journal s n ≡ true → IsStaged area y s.message.items n (bytes_in_journal s b x n)
      still_staged n lt set = offers.staged n (bytes_in_journal s b x n) (staged_here s b x ready.dii at n (bytes_in_journal s b x n) (just.each n lt set))

      old_text_below : (n : ℕ) → n < s.map.places → has_in_journal s n ≡ true → bytes_in_journal s b y n ≡ bytes_in_journal s b x n
      old_text_below n lt set = staged_text s b y ready.dii after n (bytes_in_journal s b x n) (still_staged n lt set)

      no_text : (n : ℕ) (c : List ℕ) → place_at s.block_size s.modules.items n ≡ None → bytes_in_journal s b c n ≡ []
      unfolding bytes_in_journal
      no_text n c none = ap (text_of (keeps_places b s.map.places) b c) none

      pub old_text : (n : ℕ) → has_in_journal s n ≡ true → bytes_in_journal s b y n ≡ bytes_in_journal s b x n
      old_text n set = by_place (place_at s.block_size s.modules.items n) refl
        where
          by_place : (o : Option Place) → place_at s.block_size s.modules.items n ≡ o → bytes_in_journal s b y n ≡ bytes_in_journal s b x n
          by_place None none = no_text n y none ∙ sym (no_text n x none)
          by_place (Some q) is = old_text_below n (place_below (plan_in_bank (without_journal s) b ready.begun) n q is) set

      pub stages_more : (has : ℕ → Bool) → ((k : ℕ) → has k ≡ (eqb k p.number || has_in_journal s k)) → StagesJust (geometry_of b) y s.message.items s.map.places has (bytes_in_journal s b y)
      stages_more has marks = record {
        dii = ready.dii;
        group = record { area = area; spare = after.spare; staged = offers.message_staged };
        each = each;
        no_other = no_other;
      }
        where
          each : (n : ℕ) → n < s.map.places → has n ≡ true → StagesPlace g y s.message.items n (bytes_in_journal s b y n)
          each n lt set = ⊎_elim
              (λ same. place_after n bytes (subst (λ (k : ℕ). IsStaged area y s.message.items k bytes) (sym (eqb-true n p.number same)) offers.added))
              (λ was. place_after n (bytes_in_journal s b x n) (still_staged n lt was))
              (or_cases (eqb n p.number) (has_in_journal s n) (sym (marks n) ∙ set))

          no_other : (n : ℕ) (v : List ℕ) → StagesPlace g y s.message.items n v → has n ≡ true
          no_other n v place = marks n ∙ ⊎_elim
              (λ was. or_right (eqb n p.number) (has_in_journal s n)
              (just.no_other n v (record { area = area; spare = at.spare; staged = record { dii = ready.dii; staged = at.staged; held = was } })))
              (λ now. or_left (eqb n p.number) (has_in_journal s n) (eq-eqb n p.number now.1))
              (offers.held s.message.items n v (staged_here s b y ready.dii after n v place).held)

-- the stage agrees with what the flash holds
pub stored_agrees : (s t : JournalStage) (b b' : Bank) (x y : List ℕ) (ready : IsBegunFor s b) → Fits b x → (kept : IsKeptIn b s.map.places) → (agrees : KeepsPlaces s b x) → Keeps (geometry_of b) x y
    → (p : Place) (bytes : List ℕ) → Offers (area_of_bank b) ready.dii s.message.items p.number bytes x y → SameGroup s t → SameBank b b' → Marked s t p.number → KeepsPlaces t b' y
stored_agrees s t b b' x y ready fits kept agrees keeps p bytes offers group same marks = record {
  kept = λ still. just_moved s t b b' y (has_in_journal t) group same (stages_more s b x y ready fits kept agrees keeps p bytes offers (has_in_journal t) marks);
  plain = λ never. absurd (never (kept_on s t b b' group same kept));
  none = λ never. absurd (never (kept_on s t b b' group same kept));
}

-- ---- a group that is not

plain_text : (b : Bank) (c : List ℕ) (o : Option Place) → text_of false b c o ≡ bytes_from (spare_bank b) c o
plain_text b c None = refl
plain_text b c (Some p) = refl

pub plain_bytes : (s : JournalStage) (b : Bank) (c : List ℕ) (n : ℕ) → (IsKeptIn b s.map.places → ⊥) → bytes_in_journal s b c n ≡ bytes_from (spare_bank b) c (place_at s.block_size s.modules.items n)
unfolding bytes_in_journal
plain_bytes s b c n never =
    ap (λ (k : Bool). text_of k b c (place_at s.block_size s.modules.items n)) (not_kept b s.map.places never) ∙ plain_text b c (place_at s.block_size s.modules.items n)

module _ (s t : JournalStage) (b b' : Bank) (x y : List ℕ) (ready : IsBegunFor s b) (never : IsKeptIn b s.map.places → ⊥) (agrees : KeepsPlaces s b x) (group : SameGroup s t) (same : SameBank b b')
    (p : Place) (bytes : List ℕ) (is : place_at s.block_size s.modules.items p.number ≡ Some p) (long : length bytes ≡ p.len) (fits : Fits b' y)
    (filled : Changes (spare_bank b + p.at) (length bytes) (IsProgrammed bytes) x y) where
  changes : Changes (spare_bank b + p.at) p.len (IsProgrammed bytes) x y
  changes = subst (λ (n : ℕ). Changes (spare_bank b + p.at) n (IsProgrammed bytes) x y) long filled

  never_on : IsKeptIn b' t.map.places → ⊥
  never_on kept = never (kept_back s t b b' group same kept)

  pub filled_agrees : Marked s t p.number → KeepsPlaces t b' y
  filled_agrees marks =
      let inside = inside_plan (plan_in_bank (without_journal s) b ready.begun) p.number p is in
      let journal = same_journal b b' y same (λ two. still_blank_journal b two p.at (length bytes) (IsProgrammed bytes) x y (omega (arith, inside, long, ready.begun.fits)) filled ((agrees.plain never).journal two)) in
      record {
        kept = λ kept. absurd (never_on kept);
        plain = λ still. record {
          places = λ number q at free.
              let was = unmarked number p.number (has_in_journal s number) (has_in_journal t number) (marks number) free in
              let place : place_at s.block_size s.modules.items number ≡ Some q = sym (λ i. place_at (group.block_size i) (group.modules i) number) ∙ at in
              still_blank (plan_in_bank (without_journal s) b ready.begun) b b' (IsProgrammed bytes) x y number p.number q p same place is was.0 changes ((agrees.plain never).places number q place was.1);
          journal = journal;
        };
        none = λ still. blank_stages_none b' y fits (journal_some b' y journal (journal_two b'));
      }

  pub filled_new : bytes_in_journal t b' y p.number ≡ bytes
  filled_new =
      let short = subst (λ (n : ℕ). s.total ≤ n) (sym (len_same b b' same)) ready.begun.fits in
      plain_bytes t b' y p.number never_on ∙ ((λ i. bytes_from (spare_bank b') y (place_at (group.block_size i) (group.modules i) p.number))
      ∙ new_bytes (plan_in_bank (without_journal s) b ready.begun) b b' x y bytes p.number p same is long fits short filled)

  pub filled_old : (n : ℕ) → has_in_journal s n ≡ true → has_in_journal s p.number ≡ false → bytes_in_journal t b' y n ≡ bytes_in_journal s b x n
  filled_old n set free =
      plain_bytes t b' y n never_on ∙ ((λ i. bytes_from (spare_bank b') y (place_at (group.block_size i) (group.modules i) n))
      ∙ (still_bytes (plan_in_bank (without_journal s) b ready.begun) b b' (IsProgrammed bytes) x y n p.number p same is (other_number (has_in_journal s) n p.number set free) changes
      ∙ sym (plain_bytes s b x n never)))
