-- What the sections of the carousel fill, by what is kept of the first block with each key.
use Rattle.std.proofs.Common.{◌≡◌, ℕ, zero, suc, ◌+◌, ◌<◌, Bool, true, false, not, cond, eqb, List, [], ◌∷◌, length, Option, Some, None, refl, sym, ap, subst, ◌∙◌, arith}
use Rattle.std.specs.Prelude.{Contains, sum_by, is_some, unwrap_or}
use Rattle.std.specs.List.{find}
use Rattle.std.specs.Option.{option_and_then, option_map, option_or}
use Rattle.route_part.specs.Said.{under}
use Rattle.dsmcc_msg.specs.Block.{DdbFields, ddb}
use Rattle.ssu_group.specs.declared.group_plan.GroupPlan.{GroupPlan}
use Rattle.ssu_group.specs.declared.module_plan.ModulePlan.{ModulePlan}
use Rattle.ssu_group.specs.Carried.{brings, carried_image, crc_is, filling, is_right, joined, missing_places, module_bytes, wrong_module}
use Rattle.ssu_group.specs.Map.{missing_below}
use Rattle.ssu_group.specs.Place.{block_length}
use Rattle.ssu_group.specs.Plan.{are_joined, block_count}
use Rattle.group_image.proofs.LengthLaws.{filling_len}
use Rattle.ssu_group.proofs.Filling.{filling-none, filling-step}
use Rattle.ssu_group.proofs.PlaceLaws.{begin_joined}
use Rattle.flash_stage.proofs.TextLaws.{carried_module, joined_same}
use Rattle.ssu_audit.specs.declared.key.BlockKey.{BlockKey}
use Rattle.ssu_audit.specs.Calls.{Call, carousel, number_after}
use Rattle.ssu_audit.specs.Ending.{against_plan, bad_module, first_below, first_missing, place_missing, size_differs}
use Rattle.ssu_audit.specs.Filled.{Blocks, against_kept, fitting, is_wrong, key_at, lacks, missing_of, text_at, text_of, wrong_of}
use Rattle.ssu_audit.specs.Hearing.{IsOpen, answer_in_carousel, first_block}
use Rattle.ssu_audit.specs.Said.{block_with, key_of, same_key}
use Rattle.ssu_audit.proofs.Below.{below-none, below-same, below-split}
use Rattle.ssu_audit.proofs.Holding.{first_other, open_head, open_tail, same_as_first, same_keys, says_block, says_no_block}
use Rattle.ssu_audit.proofs.Missing.{missing-none, missing-step}
use Rattle.ssu_audit.proofs.Places.{brings_by_key, contains-here, contains-later, if_long}
use Rattle.ssu_audit.proofs.Steps.{carousel-more, carousel-notice, first_none, in_carousel, sections-more, sections-notice}

-- ---- one place

abbrev some_number : ℕ → Option ℕ
some_number n = Some n

fills-nothing : (plan : GroupPlan) (m : ModulePlan) (k : ℕ)
    → filling plan (carousel []) (m.first + k) ≡ fitting (block_length plan.block_size m.size k) (first_block (key_at plan.download m k) [])
unfolding carousel
fills-nothing plan m k =
    filling-none plan (m.first + k) ∙ ap (fitting (block_length plan.block_size m.size k)) (sym (first_none (block_with (key_at plan.download m k))))

finds_same : (p q : ModulePlan → Bool) (ms : List ModulePlan) → ((m : ModulePlan) → Contains ms m → p m ≡ q m) → find p ms ≡ find q ms
finds_same p q [] same = refl
finds_same p q (m ∷ ms) same =
    ap (λ (b : Bool). cond b (Some m) (find p ms)) (same m (contains-here m ms))
    ∙ ap (λ (o : Option ModulePlan). cond (q m) (Some m) o) (finds_same p q ms (λ x c. same x (contains-later x m ms c)))

-- Where no number is found that is not marked, none is missing.
pub none_missing : (marked : ℕ → Bool) (n : ℕ) → first_below (λ k. not (marked k)) n ≡ None → missing_below marked n ≡ 0
unfolding first_below missing_below
none_missing marked zero none = refl
none_missing marked (suc n) none = by_first (first_below (λ k. not (marked k)) n) refl none (none_missing marked n)
  where
    by_first : (o : Option ℕ) → first_below (λ k. not (marked k)) n ≡ o → option_or o (cond (not (marked n)) (Some n) None) ≡ None
        → (first_below (λ k. not (marked k)) n ≡ None → missing_below marked n ≡ 0) → missing_below marked n + cond (marked n) 0 1 ≡ 0
    by_first (Some x) e none earlier = cc
    by_first None e none earlier = by_mark (marked n) none (earlier e)
      where
        by_mark : (is : Bool) → cond (not is) (Some n) None ≡ None → missing_below marked n ≡ 0 → missing_below marked n + cond is 0 1 ≡ 0
        by_mark true none zero_is = omega arith
        by_mark false none zero_is = cc

-- what a section brings for a key that stands has the same bytes
same_text : (section : List ℕ) (earlier : List Call) (key : BlockKey) (len : ℕ) (first : ℕ × List ℕ) → IsOpen earlier → answer_in_carousel earlier section ≡ None
    → first_block key earlier ≡ Some first → eqb (length first.1) len ≡ false → option_and_then (if_long len) (block_with key section) ≡ None
same_text section earlier key len first undecided answered stands short = by_section (ddb.of section) refl
  where
    by_section : (o : Option DdbFields) → ddb.of section ≡ o → option_and_then (if_long len) (block_with key section) ≡ None
    by_section None e = ap (option_and_then (if_long len)) (says_no_block key section e)
    by_section (Some d) e = ap (option_and_then (if_long len)) (says_block key section d e) ∙ by_key (same_key key (key_of d)) refl
      where
        by_key : (same : Bool) → same_key key (key_of d) ≡ same → option_and_then (if_long len) (cond same (Some d.bytes) None) ≡ None
        by_key false k = refl
        by_key true k =
            let own : first_block (key_of d) earlier ≡ Some first = subst (λ (x : BlockKey). first_block x earlier ≡ Some first) (same_keys key (key_of d) k) stands in
            let bytes : first.1 ≡ d.bytes = same_as_first section earlier d first (first_other earlier undecided) answered e own in
            ap (λ (b : Bool). cond b (Some d.bytes) None) (ap (λ (xs : List ℕ). eqb (length xs) len) (sym bytes) ∙ short)

module _ (plan : GroupPlan) (m : ModulePlan) (k : ℕ) (among : Contains plan.modules.items m) (below : k < m.blocks) where
  abbrev len : ℕ
  len = block_length plan.block_size m.size k

  abbrev key : BlockKey
  key = key_at plan.download m k

  fills-more : (section : List ℕ) (earlier : List Call) → IsOpen earlier → answer_in_carousel earlier section ≡ None
      → filling plan (carousel earlier) (m.first + k) ≡ fitting len (first_block key earlier)
      → filling plan (section ∷ carousel earlier) (m.first + k) ≡ fitting len (first_block key (in_carousel section ∷ earlier))
  fills-more section earlier undecided answered before =
      filling-step plan section (carousel earlier) (m.first + k)
      ∙ ap (λ (o : Option (List ℕ)). option_or o (brings plan (m.first + k) section)) before
      ∙ ap (option_or (fitting len (first_block key earlier))) (brings_by_key plan m k among below section)
      ∙ by_first (first_block key earlier) refl
      ∙ ap (fitting len) (sym (carousel-more (block_with key) section earlier))
    where
      n : ℕ
      n = number_after earlier

      by_bytes : (o : Option (List ℕ)) → option_and_then (if_long len) o ≡ fitting len (under n o)
      by_bytes None = refl
      by_bytes (Some bytes) = refl

      by_first : (o : Option (ℕ × List ℕ)) → first_block key earlier ≡ o
          → option_or (fitting len o) (option_and_then (if_long len) (block_with key section)) ≡ fitting len (option_or o (under n (block_with key section)))
      by_first None e = by_bytes (block_with key section)
      by_first (Some first) e = by_len (eqb (length first.1) len) refl
        where
          by_len : (fits : Bool) → eqb (length first.1) len ≡ fits
              → option_or (cond fits (Some first.1) None) (option_and_then (if_long len) (block_with key section)) ≡ cond fits (Some first.1) None
          by_len true f = refl
          by_len false f = same_text section earlier key len first undecided answered e f

  -- The place is filled by the first block with its key, if its bytes have the length.
  pub fills : (calls : List Call) → IsOpen calls → filling plan (carousel calls) (m.first + k) ≡ fitting len (first_block key calls)
  fills [] undecided = fills-nothing plan m k
  fills (call ∷ earlier) undecided = by_notice call.notice call.section undecided (fills earlier (open_tail call earlier undecided))
    where
      by_notice : (notice : Bool) (section : List ℕ) → IsOpen (record { notice = notice; section = section } ∷ earlier)
          → filling plan (carousel earlier) (m.first + k) ≡ fitting len (first_block key earlier)
          → filling plan (carousel (record { notice = notice; section = section } ∷ earlier)) (m.first + k)
          ≡ fitting len (first_block key (record { notice = notice; section = section } ∷ earlier))
      by_notice true section undecided before =
          ap (λ (ss : List (List ℕ)). filling plan ss (m.first + k)) (sections-notice section earlier) ∙ before
          ∙ ap (fitting len) (sym (carousel-notice (block_with key) section earlier))
      by_notice false section undecided before =
          ap (λ (ss : List (List ℕ)). filling plan ss (m.first + k)) (sections-more section earlier)
          ∙ fills-more section earlier (open_tail (in_carousel section) earlier undecided) (open_head section earlier undecided) before

  pub fills_text : (calls : List Call) → IsOpen calls → filling plan (carousel calls) (m.first + k) ≡ text_at (λ key. first_block key calls) plan m k
  unfolding text_at
  fills_text calls undecided = fills calls undecided

-- ---- all places

module _ (plan : GroupPlan) (calls : List Call) (undecided : IsOpen calls) where
  abbrev kept : Blocks
  kept = λ key. first_block key calls

  abbrev sections : List (List ℕ)
  sections = carousel calls

  abbrev lacking : ℕ → Bool
  lacking = λ n. not (is_some (filling plan sections n))

  -- what is missing of modules that lie one behind the other
  missing_from : (at first : ℕ) (ms : List ModulePlan) → are_joined plan.block_size at first ms ≡ true → ((m : ModulePlan) → Contains ms m → Contains plan.modules.items m)
      → missing_of kept plan ms ≡ option_map (λ (k : ℕ). first + k) (first_below (λ k. lacking (first + k)) (sum_by block_count ms))
  missing_from at first [] joined own = missing-none kept plan ∙ ap (option_map (λ (k : ℕ). first + k)) (sym (below-none (λ k. lacking (first + k)) (sum_by block_count []) (λ k lt. absurd (omega arith))))
  missing_from at first (m ∷ ms) joined own =
      let s = begin_joined plan.block_size at first m ms joined in
      let before : m.first ≡ first = s.before in
      let later = missing_from (at + m.size) (first + m.blocks) ms s.others (λ x c. own x (contains-later x m ms c)) in
      missing-step kept plan m ms
      ∙ ap (λ (o : Option ℕ). option_or (option_map (λ (k : ℕ). m.first + k) o) (missing_of kept plan ms))
      (below-same (lacks kept plan m) (λ k. lacking (first + k)) m.blocks
      (λ k lt. ap (λ (o : Option (List ℕ)). not (is_some o)) (sym (fills_text plan m k (own m (contains-here m ms)) lt calls undecided)) ∙ ap (λ (n : ℕ). lacking (n + k)) before))
      ∙ ap (λ (n : ℕ). option_or (option_map (λ (k : ℕ). n + k) (first_below (λ k. lacking (first + k)) m.blocks)) (missing_of kept plan ms)) before
      ∙ ap (option_or (option_map (λ (k : ℕ). first + k) (first_below (λ k. lacking (first + k)) m.blocks))) later
      ∙ ap (λ (o : Option ℕ). option_or (option_map (λ (k : ℕ). first + k) (first_below (λ k. lacking (first + k)) m.blocks)) (option_map (λ (k : ℕ). first + m.blocks + k) o))
      (below-same (λ k. lacking (first + m.blocks + k)) (λ k. lacking (first + (m.blocks + k))) (sum_by block_count ms) (λ k lt. ap lacking (let same : first + m.blocks + k ≡ first + (m.blocks + k) = omega arith in same)))
      ∙ both first m.blocks (first_below (λ k. lacking (first + k)) m.blocks) (first_below (λ k. lacking (first + (m.blocks + k))) (sum_by block_count ms))
      ∙ ap (option_map (λ (k : ℕ). first + k)) (sym (below-split (λ k. lacking (first + k)) m.blocks (sum_by block_count ms)))
      ∙ ap (λ (n : ℕ). option_map (λ (k : ℕ). first + k) (first_below (λ k. lacking (first + k)) n)) (sym s.blocks)
    where
      both : (first blocks : ℕ) (a b : Option ℕ)
          → option_or (option_map (λ (k : ℕ). first + k) a) (option_map (λ (k : ℕ). first + blocks + k) b)
          ≡ option_map (λ (k : ℕ). first + k) (option_or a (option_map (λ (k : ℕ). blocks + k) b))
      both first blocks (Some x) b = refl
      both first blocks None None = refl
      both first blocks None (Some y) = ap (λ (n : ℕ). some_number n) (let same : first + blocks + y ≡ first + (blocks + y) = omega arith in same)

  pub missing_is : missing_of kept plan plan.modules.items ≡ first_missing plan sections
  missing_is =
      missing_from 0 0 plan.modules.items plan.planned.joined (λ m c. c)
      ∙ plain (first_below (λ k. lacking (0 + k)) (sum_by block_count plan.modules.items))
      ∙ below-same (λ k. lacking (0 + k)) lacking (sum_by block_count plan.modules.items) (λ k lt. ap lacking (let same : 0 + k ≡ k = omega arith in same))
      ∙ ap (first_below lacking) (sym plan.planned.all_places)
    where
      plain : (o : Option ℕ) → option_map (λ (k : ℕ). 0 + k) o ≡ o
      plain None = refl
      plain (Some x) = ap (λ (n : ℕ). some_number n) (let same : 0 + x ≡ x = omega arith in same)

  text_is : (m : ModulePlan) → Contains plan.modules.items m → missing_places plan (filling plan sections) ≡ 0 → module_bytes (carried_image plan (filling plan sections)) m ≡ text_of kept plan m
  text_is m among whole =
      carried_module plan (filling plan sections) m (filling_len plan sections) whole among
      ∙ joined_same (λ k. unwrap_or (filling plan sections (m.first + k)) []) (λ k. unwrap_or (text_at kept plan m k) []) m.blocks
      (λ k lt. ap (λ (o : Option (List ℕ)). unwrap_or o []) (fills_text plan m k among lt calls undecided))

  pub wrong_is : missing_places plan (filling plan sections) ≡ 0 → wrong_of kept plan plan.modules.items ≡ wrong_module plan.modules.items (carried_image plan (filling plan sections))
  unfolding wrong_module
  wrong_is whole = finds_same (is_wrong kept plan) (λ m. not (is_right (carried_image plan (filling plan sections)) m)) plan.modules.items
      (λ m among. ap (λ (xs : List ℕ). not (crc_is xs m.crc)) (sym (text_is m among whole)))

  pub against_is : (group size : ℕ) → against_kept group size plan kept ≡ against_plan group size plan sections
  against_is group size =
      ap (λ (o : Option ℕ). option_or (size_differs group size plan) (option_or (place_missing group o) (bad_module group (wrong_of kept plan plan.modules.items)))) missing_is
      ∙ ap (option_or (size_differs group size plan)) (by_missing (first_missing plan sections) refl)
    where
      by_missing : (o : Option ℕ) → first_missing plan sections ≡ o
          → option_or (place_missing group o) (bad_module group (wrong_of kept plan plan.modules.items))
          ≡ option_or (place_missing group o) (bad_module group (wrong_module plan.modules.items (carried_image plan (filling plan sections))))
      by_missing (Some place) e = refl
      by_missing None e = ap (bad_module group) (wrong_is (none_missing (λ n. is_some (filling plan sections n)) plan.places e))
