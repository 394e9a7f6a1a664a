-- The image that boot takes once the record of a group is committed: its places, joined.
use Rattle.std.specs.Prelude.{◌==◌, ◌&&◌}
use Rattle.std.proofs.Common.{◌≡◌, ◌≢◌, ◌⊎◌, inl, inr, ℕ, zero, suc, ◌+◌, ◌-◌, ◌*◌, ◌<◌, ◌≤◌, Bool, true, false, List, [], length, get_or, drop, Option, None, Some, refl, sym, ap, subst, ◌∙◌, arith}
use Rattle.std.proofs.lemmas.Bool.{eqb-true}
use Rattle.bank_kept.specs.Bank.{area_of_bank}
use Rattle.dsmcc_msg.specs.Control.{DiiFields}
use Rattle.flash_bank.proofs.OverlayLemmas.{image_laid, laid_from-next, laid_from-none, length-laid_from}
use Rattle.flash_bank.specs.Bank.{Fits, current_of, geometry_of, len_of, spare_bank}
use Rattle.flash_bank.specs.Laid.{laid_from}
use Rattle.flash_bank.specs.Record.{next_record}
use Rattle.flash_bank.specs.Sound.{image_of}
use Rattle.flash_bank.specs.declared.bank.Bank.{Bank}
use Rattle.flash_kept.proofs.Cases.{some_one, true_false}
use Rattle.flash_kept.proofs.CountLaws.{and_left, and_right}
use Rattle.flash_kept.proofs.PlaceLaws.{held_lie}
use Rattle.flash_kept.specs.Counts.{find_below}
use Rattle.flash_kept.specs.Leaving.{PlacesLie}
use Rattle.flash_kept.specs.Places.{place_of}
use Rattle.flash_kept.specs.Slots.{is_marked, is_slot_of, is_valid_slot, slot_in}
use Rattle.flash_kept.specs.SpareArea.{IsInOrder, SpareArea, slot_bytes, slot_place}
use Rattle.flash_kept.specs.Staged.{HasStagedMessage, SlotsFit}
use Rattle.flash_layout.proofs.LaidLemmas.{laid_none, laid_some}
use Rattle.flash_layout.proofs.PartLemmas.{get_or-part, length-part, part_held}
use Rattle.flash_layout.proofs.Places.{area_is, area_within, slots_before_end}
use Rattle.flash_layout.specs.Layout.{area_len, area_place, journal_place, short_len, slots_at}
use Rattle.flash_layout.specs.Pairs.{part}
use Rattle.flash_layout.specs.Slots.{laid_one, slot_at, slot_len}
use Rattle.flash_stage.proofs.InBankLemmas.{plan_in_bank, whole_bank}
use Rattle.flash_stage.proofs.TextLaws.{joined_same}
use Rattle.flash_stage.specs.InBank.{bytes_from, bytes_in_bank, outline_in_bank}
use Rattle.flash_stage.specs.Keeping.{IsKeptIn}
use Rattle.flash_stage.specs.Outline.{group_text}
use Rattle.group_image.proofs.ImageLaws.{joined_image, place_inside}
use Rattle.group_image.specs.Image.{bytes_at, bytes_of}
use Rattle.ssu_compat.specs.declared.rule.SwId.{SwId}
use Rattle.ssu_group.specs.Place.{place_at}
use Rattle.ssu_group.specs.declared.places.Place.{Place}
use Rattle.flash_journal.proofs.KeptLaws.{KeptAt, kept_at}
use Rattle.flash_journal.proofs.OfferLaws.{plain_bytes}
use Rattle.flash_journal.proofs.PlainLaws.{never_kept}
use Rattle.flash_journal.proofs.StoreLaws.{find_is, find_none}
use Rattle.flash_journal.proofs.TextLaws.{marked_text, slotted_text}
use Rattle.flash_journal.specs.InJournal.{IsBegunFor, KeepsPlaces, bytes_in_journal, outline_in_journal, without_journal}
use Rattle.flash_journal.specs.StageLaws.{kept_from}
use Rattle.flash_journal.specs.Texts.{keeps_places, kept_text, text_of}
use Rattle.flash_journal.specs.declared.journal_stage.JournalStage.{JournalStage}

-- ---- slot by slot

-- the first s slots of an area, laid over its bank
abbrev pub laid_in : SpareArea → List ℕ → ℕ → List ℕ
laid_in area c s = laid_from c area.bank area.bank_len (area.journal + area.slots) s

-- offset and length of a slot that is for a place
slot_is : (area : SpareArea) (c : List ℕ) (p : Place) (s : ℕ) → is_slot_of area c p s ≡ true → (is_valid_slot area c s ≡ true) × (slot_at (slot_in area c s) ≡ p.at) × (slot_len (slot_in area c s) ≡ p.len)
slot_is area c p s is =
    let rest = and_right (is_valid_slot area c s) _ is in
    (and_left _ _ is, eqb-true (slot_at (slot_in area c s)) p.at (and_left _ _ rest), eqb-true (slot_len (slot_in area c s)) p.len (and_right (slot_at (slot_in area c s) == p.at) _ rest))

module _ (area : SpareArea) (c : List ℕ) (dii : DiiFields) (order : IsInOrder area) (room : area.journal + area.journal_len ≤ length c) (lie : PlacesLie area dii) (fit : SlotsFit area dii c) where
  laid_len : (s : ℕ) → length (laid_in area c s) ≡ area.bank_len
  laid_len s = let behind = order.behind in length-laid_from c area.bank area.bank_len (area.journal + area.slots) s (omega (arith, behind, room))

  -- a slot that is not valid changes nothing
  none_laid : (s : ℕ) → is_valid_slot area c s ≡ false → laid_in area c (suc s) ≡ laid_in area c s
  unfolding is_valid_slot
  none_laid s is = laid_from-next c area.bank area.bank_len (area.journal + area.slots) s ∙ laid_none area.bank_len (slot_in area c s) (laid_in area c s) is

  module _ (m : ℕ) (p : Place) (at : place_of dii m ≡ Some p) where
    -- one that is for another place changes none of the bytes
    other_laid : (s : ℕ) (q : Place) (n : ℕ) → place_of dii n ≡ Some q → n ≢ m → is_slot_of area c q s ≡ true → (k : ℕ) → k < p.len
        → get_or (laid_in area c (suc s)) (p.at + k) 0 ≡ get_or (laid_in area c s) (p.at + k) 0
    unfolding is_valid_slot
    other_laid s q n there other is k lt =
        let slot = slot_is area c q s is in
        let inside = lie.inside n q there in
        let len = laid_len s in
        let changes = laid_some area.bank_len (slot_in area c s) (laid_in area c s) slot.0 (omega (arith, inside, len, slot.1, slot.2)) in
        ap (λ (l : List ℕ). get_or l (p.at + k) 0) (laid_from-next c area.bank area.bank_len (area.journal + area.slots) s)
        ∙ pick (lie.apart n m q p there at other) slot.1 slot.2 changes.before changes.after
      where
        next : List ℕ
        next = laid_one area.bank_len (slot_in area c s) (laid_in area c s)

        pick : (q.at + q.len ≤ p.at) ⊎ (p.at + p.len ≤ q.at) → slot_at (slot_in area c s) ≡ q.at → slot_len (slot_in area c s) ≡ q.len
            → ((j : ℕ) → j < slot_at (slot_in area c s) → get_or next j 0 ≡ get_or (laid_in area c s) j 0)
            → ((j : ℕ) → slot_at (slot_in area c s) + slot_len (slot_in area c s) ≤ j → get_or next j 0 ≡ get_or (laid_in area c s) j 0) → get_or next (p.at + k) 0 ≡ get_or (laid_in area c s) (p.at + k) 0
        pick (inl front) begin len before after = after (p.at + k) (omega (arith, front, begin, len))
        pick (inr behind) begin len before after = before (p.at + k) (omega (arith, behind, begin, lt))

    next_same : (s : ℕ) → s < 16 → is_slot_of area c p s ≡ false → (k : ℕ) → k < p.len → get_or (laid_in area c (suc s)) (p.at + k) 0 ≡ get_or (laid_in area c s) (p.at + k) 0
    next_same s ls not k lt = by_valid (is_valid_slot area c s) refl
      where
        by_valid : (t : Bool) → is_valid_slot area c s ≡ t → get_or (laid_in area c (suc s)) (p.at + k) 0 ≡ get_or (laid_in area c s) (p.at + k) 0
        by_valid false is = ap (λ (l : List ℕ). get_or l (p.at + k) 0) (none_laid s is)
        by_valid true is =
            let one = fit.each s ls is in
            other_laid s one.place one.number one.is_place (λ same.
            let own : one.place ≡ p = some_one one.place p (sym one.is_place ∙ (ap (place_of dii) same ∙ at)) in
            true_false (is_slot_of area c p s) (subst (λ (q : Place). is_slot_of area c q s ≡ true) own one.is_slot) not) one.is_slot k lt

    -- the slot of the place lays its bytes
    next_slot : (s : ℕ) → s < 16 → is_slot_of area c p s ≡ true → (k : ℕ) → k < p.len → get_or (laid_in area c (suc s)) (p.at + k) 0 ≡ get_or c (slot_bytes area s + k) 0
    unfolding is_valid_slot
    next_slot s ls is k lt =
        let slot = slot_is area c p s is in
        let inside = lie.inside m p at in
        let few = (lie.not_empty m p at).1 in
        let len = laid_len s in
        let changes = laid_some area.bank_len (slot_in area c s) (laid_in area c s) slot.0 (omega (arith, inside, len, slot.1, slot.2)) in
        let spot : slot_at (slot_in area c s) + k ≡ p.at + k = ap (λ (a : ℕ). a + k) slot.1 in
        let place : slot_place area s + (256 + k) ≡ slot_bytes area s + k = omega arith in
        ap (λ (l : List ℕ). get_or l (p.at + k) 0) (laid_from-next c area.bank area.bank_len (area.journal + area.slots) s)
        ∙ (subst (λ (a : ℕ). get_or (laid_one area.bank_len (slot_in area c s) (laid_in area c s)) a 0 ≡ get_or (slot_in area c s) (256 + k) 0) spot (changes.inside k (omega (arith, lt, slot.2)))
        ∙ (get_or-part c (slot_place area s) 4352 (256 + k) (omega (arith, few, lt)) ∙ ap (λ (a : ℕ). get_or c a 0) place))

    -- up to there the bank's bytes stand, and from there on those of the slot
    bank_up_to : (s : ℕ) → s ≤ 16 → ((t : ℕ) → t < s → is_slot_of area c p t ≡ false) → (k : ℕ) → k < p.len → get_or (laid_in area c s) (p.at + k) 0 ≡ get_or c (area.bank + p.at + k) 0
    bank_up_to zero le none k lt =
        let inside = lie.inside m p at in
        let spot : area.bank + (p.at + k) ≡ area.bank + p.at + k = omega arith in
        ap (λ (l : List ℕ). get_or l (p.at + k) 0) (laid_from-none c area.bank area.bank_len (area.journal + area.slots))
        ∙ (get_or-part c area.bank area.bank_len (p.at + k) (omega (arith, inside, lt)) ∙ ap (λ (a : ℕ). get_or c a 0) spot)
    bank_up_to (suc s) le none k lt = next_same s (omega (arith, le)) (none s (omega arith)) k lt ∙ bank_up_to s (omega (arith, le)) (λ t below. none t (omega (arith, below))) k lt

    slot_from : (t d : ℕ) → t + suc d ≤ 16 → is_slot_of area c p t ≡ true → (k : ℕ) → k < p.len → get_or (laid_in area c (t + suc d)) (p.at + k) 0 ≡ get_or c (slot_bytes area t + k) 0
    slot_from t zero le is k lt =
        let next : t + 1 ≡ suc t = omega arith in
        ap (λ (s : ℕ). get_or (laid_in area c s) (p.at + k) 0) next ∙ next_slot t (omega (arith, le)) is k lt
    slot_from t (suc d) le is k lt =
        let next : t + suc (suc d) ≡ suc (t + suc d) = omega arith in
        ap (λ (s : ℕ). get_or (laid_in area c s) (p.at + k) 0) next
        ∙ (next_same (t + suc d) (omega (arith, le)) (by_test (is_slot_of area c p (t + suc d)) refl) k lt ∙ slot_from t d (omega (arith, le)) is k lt)
      where
        by_test : (b : Bool) → is_slot_of area c p (t + suc d) ≡ b → is_slot_of area c p (t + suc d) ≡ false
        by_test false off = off
        by_test true set = absurd (let same : t ≡ t + suc d = fit.another t (t + suc d) m p (omega (arith, le)) (omega (arith, le)) at is set in omega (arith, same))

    laid_part : (from : ℕ) → from + p.len ≤ length c → ((k : ℕ) → k < p.len → get_or (laid_in area c 16) (p.at + k) 0 ≡ get_or c (from + k) 0) → part (laid_in area c 16) p.at p.len ≡ part c from p.len
    laid_part from fits each =
        let size = length-part c from p.len fits in
        let inside = lie.inside m p at in
        let len = laid_len 16 in
        part_held (laid_in area c 16) (part c from p.len) p.at p.len size (omega (arith, inside, len))
        (λ k lt. each k (omega (arith, lt, size)) ∙ sym (get_or-part c from p.len k (omega (arith, lt, size))))

    from_bank : ((t : ℕ) → t < 16 → is_slot_of area c p t ≡ false) → part (laid_in area c 16) p.at p.len ≡ part c (area.bank + p.at) p.len
    from_bank none =
        let inside = lie.inside m p at in let behind = order.behind in
        laid_part (area.bank + p.at) (omega (arith, inside, behind, room)) (bank_up_to 16 (omega arith) none)

    from_slot : (t : ℕ) → t < 16 → is_slot_of area c p t ≡ true → part (laid_in area c 16) p.at p.len ≡ part c (slot_bytes area t) p.len
    from_slot t lt is =
        let few = (lie.not_empty m p at).1 in let ends = order.ends in
        let all : t + suc (15 - t) ≡ 16 = omega (arith, lt) in
        laid_part (slot_bytes area t) (omega (arith, few, ends, lt, room))
        (λ k below. subst (λ (s : ℕ). get_or (laid_in area c s) (p.at + k) 0 ≡ get_or c (slot_bytes area t + k) 0) all (slot_from t (15 - t) (omega (arith, lt)) is k below))

    not_slot : (t : ℕ) → (is_slot_of area c p t ≡ true → ⊥) → is_slot_of area c p t ≡ false
    not_slot t never = by_test (is_slot_of area c p t) refl
      where
        by_test : (b : Bool) → is_slot_of area c p t ≡ b → is_slot_of area c p t ≡ false
        by_test false is = is
        by_test true is = absurd (never is)

    -- with all slots laid over, the bytes of the place stand there
    pub laid_text : p.number ≡ m → part (laid_in area c 16) p.at p.len ≡ kept_text area c p
    laid_text own = by_mark (is_marked area c m) refl (find_below (is_slot_of area c p) 16) refl
      where
        by_mark : (b : Bool) → is_marked area c m ≡ b → (o : Option ℕ) → find_below (is_slot_of area c p) 16 ≡ o → part (laid_in area c 16) p.at p.len ≡ kept_text area c p
        by_mark true set o found =
            from_bank (λ t lt. not_slot t (λ is. true_false (is_marked area c m) set (fit.unmarked t m p lt at is))) ∙ sym (marked_text area c p (ap (is_marked area c) own ∙ set))
        by_mark false free None found =
            from_bank (λ t lt. not_slot t (λ is. find_none (is_slot_of area c p) 16 t found lt is)) ∙ sym (slotted_text area c p None (ap (is_marked area c) own ∙ free) (sym found))
        by_mark false free (Some t) found =
            let one = find_is (is_slot_of area c p) 16 t found in
            from_slot t one.0 one.1 ∙ sym (slotted_text area c p (Some t) (ap (is_marked area c) own ∙ free) (sym found))

-- ---- the image

module _ (s : JournalStage) (b : Bank) (c : List ℕ) (ready : IsBegunFor s b) (fits : Fits b c) (agrees : KeepsPlaces s b c) (software : SwId) (group : ℕ) where
  module _ (kept : IsKeptIn b s.map.places) where
    at : KeptAt s b c ready.dii
    at = let just = agrees.kept kept in kept_at s b c ready fits kept just.dii just.group

    within : area_place (geometry_of b) (1 - (current_of b).bank) + area_len (geometry_of b) ≤ length c
    within = let all = area_within (geometry_of b) b.limits (1 - (current_of b).bank) (omega arith) in let size = fits.sound.size in omega (arith, all, size)

    room : (area_of_bank b).journal + (area_of_bank b).journal_len ≤ length c
    room = let all = area_is (geometry_of b) b.limits (b.room kept.two) in omega (arith, all, within)

    place_text_is : (n : ℕ) (o : Option Place) → place_at s.block_size s.modules.items n ≡ o → bytes_of (laid_in (area_of_bank b) c 16) o ≡ text_of true b c o
    place_text_is n None is = refl
    place_text_is n (Some p) is =
        laid_text (area_of_bank b) c ready.dii at.order room (held_lie (area_of_bank b) c s.message.items ready.dii at.order at.staged.held) at.staged.slots n p (at.places n ∙ is) (at.numbered n p is)

    kept_image : image_of (geometry_of b) c (next_record (current_of b) s.total software group) ≡ group_text (bytes_in_journal s b c) (outline_in_journal s)
    unfolding bytes_in_journal bytes_at
    kept_image =
        image_laid (geometry_of b) b.limits (b.room kept.two) c (next_record (current_of b) s.total software group) within kept.two
        ∙ sym (joined_image (plan_in_bank (without_journal s) b ready.begun) (record { map = s.map; total = s.total; buffer = laid_in (area_of_bank b) c 16 }) (bytes_in_journal s b c) (record { places = refl; total = refl })
        (λ number below. place_text_is number (place_at s.block_size s.modules.items number) refl
        ∙ ap (λ (k : Bool). text_of k b c (place_at s.block_size s.modules.items number)) (sym at.keeps)))

  module _ (never : IsKeptIn b s.map.places → ⊥) where
    plain_image : image_of (geometry_of b) c (next_record (current_of b) s.total software group) ≡ group_text (bytes_in_journal s b c) (outline_in_journal s)
    unfolding bytes_in_bank
    plain_image =
        whole_bank (without_journal s) b c fits (agrees.plain never).journal ready.begun software group
        ∙ joined_same (bytes_in_bank (without_journal s) b c) (bytes_in_journal s b c) s.map.places (λ k lt. sym (plain_bytes s b c k never))

  pub whole_image : image_of (geometry_of b) c (next_record (current_of b) s.total software group) ≡ group_text (bytes_in_journal s b c) (outline_in_journal s)
  whole_image = by_test (keeps_places b s.map.places) refl
    where
      by_test : (k : Bool) → keeps_places b s.map.places ≡ k → image_of (geometry_of b) c (next_record (current_of b) s.total software group) ≡ group_text (bytes_in_journal s b c) (outline_in_journal s)
      by_test true is = kept_image (kept_from b s.map.places is)
      by_test false is = plain_image (never_kept b s.map.places is)
