-- What is kept after one call more.
use Rattle.std.proofs.Common.{◌≡◌, ℕ, ◌+◌, ◌-◌, ◌^◌, ◌≤◌, min, Bool, true, false, ◌&&◌, cond, eqb, List, [], ◌∷◌, Option, Some, None, refl, sym, ap, subst, ◌∙◌, arith}
use Rattle.std.proofs.lemmas.Bool.{and_parts, eqb-false, eqb-true, eq-eqb}
use Rattle.std.proofs.lemmas.Slice.Eq.{bytes_eq-Decides}
use Rattle.std.specs.Prelude.{nat_eq}
use Rattle.std.specs.Option.{is_none, option_and_then, option_map, option_or}
use Rattle.std.specs.Str.{bytes_eq}
use Rattle.route_part.specs.Said.{under}
use Rattle.audit_answer.specs.declared.answers.AuditNo.{AuditNo}
use Rattle.audit_answer.specs.declared.answers.AuditNo.TheVariants.{BlockDiffers, DsiDiffers, DiiDiffers, TooManyBlocks}
use Rattle.dsmcc_msg.specs.Block.{DdbFields, ddb}
use Rattle.dsmcc_msg.specs.Control.{DiiFields, DsiFields, dii, dsi}
use Rattle.ssu_unt.specs.Table.{UntFields}
use Rattle.ssu_audit.specs.declared.key.BlockKey.{BlockKey}
use Rattle.ssu_audit.specs.Calls.{Call, number_after, first_in_carousel, first_in_notice}
use Rattle.ssu_audit.specs.Hearing.{IsOpen, answer_in_carousel, answer_to, block_differs, differs_from, dii_differs, dsi_differs, first_block, first_dii, first_dsi, keys_heard, too_many}
use Rattle.ssu_audit.specs.Kept.{KeepsFirst, block_answer, dii_answer, dsi_answer, first_kept, one_more}
use Rattle.ssu_audit.specs.Said.{block_with, dii_of_group, dsi_section, if_other, key_of, message_of, notice_with, other_than, same_key}
use Rattle.ssu_audit.specs.Standing.{Holds, message_of_dii, number_in}
use Rattle.ssu_audit.proofs.OneKind.{block_no_dii, block_no_dsi, dii_no_dsi}
use Rattle.ssu_audit.proofs.Steps.{carousel-more, carousel-silent, carousel-notice, first_none, in_carousel, in_notice, notice-carousel, notice-more}

abbrev some_kept : ℕ × List ℕ → Option (ℕ × List ℕ)
some_kept x = Some x

abbrev some_number : ℕ → Option ℕ
some_number n = Some n

abbrev some_no : AuditNo → Option AuditNo
some_no fact = Some fact

-- ---- what a section does not say

pub says_no_block : (key : BlockKey) (section : List ℕ) → ddb.of section ≡ None → block_with key section ≡ None
unfolding block_with
says_no_block key section none = rw none refl

pub says_no_dii : (group : ℕ) (section : List ℕ) → dii.of section ≡ None → dii_of_group group section ≡ None
unfolding dii_of_group
says_no_dii group section none = rw none refl

pub says_no_dsi : (section : List ℕ) → dsi.of section ≡ None → dsi_section section ≡ None
unfolding dsi_section
says_no_dsi section none = rw none refl

pub says_block : (key : BlockKey) (section : List ℕ) (d : DdbFields) → ddb.of section ≡ Some d
    → block_with key section ≡ cond (same_key key (key_of d)) (Some d.bytes) None
unfolding block_with
says_block key section d is = rw is refl

pub says_dii : (group : ℕ) (section : List ℕ) (d : DiiFields) → dii.of section ≡ Some d
    → dii_of_group group section ≡ cond (eqb group d.transaction) (Some d) None
unfolding dii_of_group
says_dii group section d is = rw is refl

pub says_dsi : (section : List ℕ) (d : DsiFields) → dsi.of section ≡ Some d → dsi_section section ≡ Some section
unfolding dsi_section
says_dsi section d is = rw is refl

-- ---- keys

pub keys-none : (section : List ℕ) (earlier : List Call) → ddb.of section ≡ None → keys_heard (in_carousel section ∷ earlier) ≡ keys_heard earlier
unfolding keys_heard
keys-none section earlier none = rw none (omega arith)

keys-zero : keys_heard [] ≤ 65536
unfolding keys_heard
keys-zero = omega arith

pub keys-notice : (section : List ℕ) (earlier : List Call) → keys_heard (in_notice section ∷ earlier) ≡ keys_heard earlier
unfolding keys_heard
keys-notice section earlier = omega arith

pub keys-block : (section : List ℕ) (d : DdbFields) (earlier : List Call) → ddb.of section ≡ Some d
    → keys_heard (in_carousel section ∷ earlier) ≡ keys_heard earlier + cond (is_none (first_block (key_of d) earlier)) 1 0
unfolding keys_heard
keys-block section d earlier is = rw is refl

-- ---- the first block with a key and other bytes

abbrev filtered : List ℕ → Option (ℕ × List ℕ) → Option (ℕ × List ℕ)
filtered bytes None = None
filtered bytes (Some first) = cond (bytes_eq first.1 bytes) None (Some first)

other-is : (d : DdbFields) (section : List ℕ) → other_than d section ≡ option_and_then (if_other d.bytes) (block_with (key_of d) section)
unfolding other_than
other-is d section = refl

pub same_keys : (a b : BlockKey) → same_key a b ≡ true → a ≡ b
same_keys a b same =
    let x = and_parts (eqb a.download b.download) (eqb a.module_id b.module_id && (eqb a.version b.version && eqb a.block b.block)) same in
    let y = and_parts (eqb a.module_id b.module_id) (eqb a.version b.version && eqb a.block b.block) x.1 in
    let z = and_parts (eqb a.version b.version) (eqb a.block b.block) y.1 in
    let download : a.download ≡ b.download = eqb-true a.download b.download x.0 in
    let module_id : a.module_id ≡ b.module_id = eqb-true a.module_id b.module_id y.0 in
    let version : a.version ≡ b.version = eqb-true a.version b.version z.0 in
    let block : a.block ≡ b.block = eqb-true a.block b.block z.1 in
    (λ i. record { download = download i; module_id = module_id i; version = version i; block = block i })

pub same_key-refl : (k : BlockKey) → same_key k k ≡ true
same_key-refl k = rw (eq-eqb k.download k.download refl, eq-eqb k.module_id k.module_id refl, eq-eqb k.version k.version refl, eq-eqb k.block k.block refl) refl

pub same_bytes : (xs ys : List ℕ) → bytes_eq xs ys ≡ true → xs ≡ ys
same_bytes xs ys e = (bytes_eq-Decides xs ys).0 e

pub bytes-refl : (xs ys : List ℕ) → xs ≡ ys → bytes_eq xs ys ≡ true
bytes-refl xs ys e = (bytes_eq-Decides xs ys).1 e

-- what is known of the blocks of open calls
abbrev FirstOther : List Call → Type 0
FirstOther calls = (d : DdbFields) → first_in_carousel (other_than d) calls ≡ filtered d.bytes (first_block (key_of d) calls)

pub open_head : (section : List ℕ) (earlier : List Call) → IsOpen (in_carousel section ∷ earlier) → answer_in_carousel earlier section ≡ None
unfolding IsOpen
open_head section earlier undecided = undecided.0

pub open_tail : (call : Call) (earlier : List Call) → IsOpen (call ∷ earlier) → IsOpen earlier
unfolding IsOpen
open_tail call earlier undecided = undecided.1

or_left_none : {A : Type 0} (a b : Option A) → option_or a b ≡ None → a ≡ None
or_left_none None b e = refl
or_left_none (Some x) b e = e

no_other : (section : List ℕ) (earlier : List Call) (d : DdbFields) → answer_in_carousel earlier section ≡ None → ddb.of section ≡ Some d
    → first_in_carousel (other_than d) earlier ≡ None
unfolding answer_in_carousel block_differs
no_other section earlier d undecided is =
    let none = or_left_none (block_differs earlier section) (option_or (dsi_differs earlier section) (option_or (dii_differs earlier section) (too_many earlier section))) undecided in
    by_first (first_in_carousel (other_than d) earlier) refl (rw is at none)
  where
    by_first : (o : Option (ℕ × List ℕ)) → first_in_carousel (other_than d) earlier ≡ o
        → option_and_then (λ (first : ℕ × List ℕ). differs_from BlockDiffers earlier first.0) o ≡ None → o ≡ None
    by_first None e none = refl
    by_first (Some first) e none = cc

not_filtered : (bytes : List ℕ) (first : ℕ × List ℕ) → filtered bytes (Some first) ≡ None → first.1 ≡ bytes
not_filtered bytes first none = by_test (bytes_eq first.1 bytes) refl none
  where
    by_test : (same : Bool) → bytes_eq first.1 bytes ≡ same → cond same None (Some first) ≡ None → first.1 ≡ bytes
    by_test true e none = same_bytes first.1 bytes e
    by_test false e none = cc

-- a block that was heard of a key that stands has the bytes that stand there
pub same_as_first : (section : List ℕ) (earlier : List Call) (d : DdbFields) (first : ℕ × List ℕ) → FirstOther earlier
    → answer_in_carousel earlier section ≡ None → ddb.of section ≡ Some d → first_block (key_of d) earlier ≡ Some first → first.1 ≡ d.bytes
same_as_first section earlier d first others undecided is stands =
    not_filtered d.bytes first (ap (filtered d.bytes) (sym stands) ∙ sym (others d) ∙ no_other section earlier d undecided is)

first_other-more : (section : List ℕ) (earlier : List Call) → FirstOther earlier → answer_in_carousel earlier section ≡ None
    → FirstOther (in_carousel section ∷ earlier)
first_other-more section earlier others undecided d =
    carousel-more (other_than d) section earlier
    ∙ ap (λ (o : Option (ℕ × List ℕ)). option_or o (under (number_after earlier) (other_than d section))) (others d)
    ∙ by_first (first_block (key_of d) earlier) refl
    ∙ ap (filtered d.bytes) (sym (carousel-more (block_with (key_of d)) section earlier))
  where
    n : ℕ
    n = number_after earlier

    by_bytes : (o : Option (List ℕ)) → under n (option_and_then (if_other d.bytes) o) ≡ filtered d.bytes (under n o)
    by_bytes None = refl
    by_bytes (Some bytes) = by_test (bytes_eq bytes d.bytes)
      where
        by_test : (same : Bool) → under n (cond same None (Some bytes)) ≡ cond same None (Some (n, bytes))
        by_test true = refl
        by_test false = refl

    silent : (first : ℕ × List ℕ) → first_block (key_of d) earlier ≡ Some first → first.1 ≡ d.bytes → other_than d section ≡ None
    silent first stands is = other-is d section ∙ by_section (ddb.of section) refl
      where
        by_section : (o : Option DdbFields) → ddb.of section ≡ o → option_and_then (if_other d.bytes) (block_with (key_of d) section) ≡ None
        by_section None e = ap (option_and_then (if_other d.bytes)) (says_no_block (key_of d) section e)
        by_section (Some x) e = ap (option_and_then (if_other d.bytes)) (says_block (key_of d) section x e) ∙ by_key (same_key (key_of d) (key_of x)) refl
          where
            by_key : (same : Bool) → same_key (key_of d) (key_of x) ≡ same → option_and_then (if_other d.bytes) (cond same (Some x.bytes) None) ≡ None
            by_key false k = refl
            by_key true k =
                let key : key_of d ≡ key_of x = same_keys (key_of d) (key_of x) k in
                let own : first_block (key_of x) earlier ≡ Some first = subst (λ (k : BlockKey). first_block k earlier ≡ Some first) key stands in
                let bytes : first.1 ≡ x.bytes = same_as_first section earlier x first others undecided e own in
                ap (λ (b : Bool). cond b None (Some x.bytes)) (bytes-refl x.bytes d.bytes (sym bytes ∙ is))

    by_first : (o : Option (ℕ × List ℕ)) → first_block (key_of d) earlier ≡ o
        → option_or (filtered d.bytes o) (under n (other_than d section)) ≡ filtered d.bytes (option_or o (under n (block_with (key_of d) section)))
    by_first None e = ap (under n) (other-is d section) ∙ by_bytes (block_with (key_of d) section)
    by_first (Some first) e = by_test (bytes_eq first.1 d.bytes) refl
      where
        by_test : (same : Bool) → bytes_eq first.1 d.bytes ≡ same → option_or (cond same None (Some first)) (under n (other_than d section)) ≡ cond same None (Some first)
        by_test true t = ap (under n) (silent first e (same_bytes first.1 d.bytes t))
        by_test false t = refl

-- Where no call was answered by a fact, the first block with a key tells of all.
pub first_other : (calls : List Call) → IsOpen calls → FirstOther calls
first_other [] undecided = λ d. first_none (other_than d) ∙ ap (filtered d.bytes) (sym (first_none (block_with (key_of d))))
first_other (call ∷ earlier) undecided = by_call call undecided (first_other earlier (open_tail call earlier undecided))
  where
    by_call : (c : Call) → IsOpen (c ∷ earlier) → FirstOther earlier → FirstOther (c ∷ earlier)
    by_call c undecided others = by_notice c.notice c.section undecided
      where
        by_notice : (notice : Bool) (section : List ℕ) → IsOpen (record { notice = notice; section = section } ∷ earlier)
            → FirstOther (record { notice = notice; section = section } ∷ earlier)
        by_notice true section undecided = λ d.
            carousel-notice (other_than d) section earlier ∙ others d ∙ ap (filtered d.bytes) (sym (carousel-notice (block_with (key_of d)) section earlier))
        by_notice false section undecided = first_other-more section earlier others (open_head section earlier undecided)

-- ---- the answer, by what is kept

pub block_answers : (calls : List Call) (section : List ℕ) (d : DdbFields) → IsOpen calls → ddb.of section ≡ Some d
    → answer_in_carousel calls section ≡ block_answer (first_block (key_of d) calls) (keys_heard calls) (number_after calls) d.bytes
unfolding answer_in_carousel block_differs dsi_differs dii_differs too_many
block_answers calls section d undecided is =
    let no_dsi = block_no_dsi d section is in
    let no_dii = block_no_dii d section is in
    rw (is, no_dsi, no_dii, first_other calls undecided d) (by_first (first_block (key_of d) calls))
  where
    n : ℕ
    n = number_after calls

    most : (full : ℕ) → cond (eqb full 65536) (Some (TooManyBlocks (full + 1))) None ≡ cond (eqb full 65536) (Some (TooManyBlocks 65537)) None
    most full = by_test (eqb full 65536) refl
      where
        by_test : (same : Bool) → eqb full 65536 ≡ same → cond same (Some (TooManyBlocks (full + 1))) None ≡ cond same (Some (TooManyBlocks 65537)) None
        by_test true e = ap (λ (k : ℕ). some_no (TooManyBlocks k)) (let full_is : full ≡ 65536 = eqb-true full 65536 e in let all : full + 1 ≡ 65537 = omega arith in all)
        by_test false e = refl

    by_first : (o : Option (ℕ × List ℕ))
        → option_or (option_and_then (λ (first : ℕ × List ℕ). differs_from BlockDiffers calls first.0) (filtered d.bytes o))
        (cond (is_none o && eqb (keys_heard calls) 65536) (Some (TooManyBlocks (keys_heard calls + 1))) None)
        ≡ block_answer o (keys_heard calls) n d.bytes
    by_first None = most (keys_heard calls)
    by_first (Some first) = by_test (bytes_eq first.1 d.bytes)
      where
        by_test : (same : Bool)
            → option_or (option_and_then (λ (f : ℕ × List ℕ). differs_from BlockDiffers calls f.0) (cond same None (Some first))) None
            ≡ cond same None (Some (BlockDiffers first.0 n))
        by_test true = refl
        by_test false = refl

pub dii_answers : (calls : List Call) (section : List ℕ) (d : DiiFields) → ddb.of section ≡ None → dii.of section ≡ Some d
    → answer_in_carousel calls section ≡ dii_answer (option_map message_of_dii (first_dii d.transaction calls)) (number_after calls) d.message
unfolding answer_in_carousel block_differs dsi_differs dii_differs too_many
dii_answers calls section d none is =
    let no_dsi = dii_no_dsi d section is in
    rw (none, no_dsi, is) (by_first (first_dii d.transaction calls))
  where
    n : ℕ
    n = number_after calls

    by_first : (o : Option (ℕ × DiiFields))
        → option_or (option_and_then (λ (first : ℕ × DiiFields). cond (bytes_eq first.1.message d.message) None (differs_from DiiDiffers calls first.0)) o) None
        ≡ dii_answer (option_map message_of_dii o) n d.message
    by_first None = refl
    by_first (Some first) = by_test (bytes_eq first.1.message d.message)
      where
        by_test : (same : Bool) → option_or (cond same None (differs_from DiiDiffers calls first.0)) None ≡ cond same None (Some (DiiDiffers first.0 n))
        by_test true = refl
        by_test false = refl

pub dsi_answers : (calls : List Call) (section : List ℕ) (d : DsiFields) → ddb.of section ≡ None → dii.of section ≡ None → dsi.of section ≡ Some d
    → answer_in_carousel calls section ≡ dsi_answer (first_dsi calls) (number_after calls) section
unfolding answer_in_carousel block_differs dsi_differs dii_differs too_many
dsi_answers calls section d no_block no_dii is = rw (no_block, no_dii, is) (by_first (first_dsi calls))
  where
    n : ℕ
    n = number_after calls

    by_first : (o : Option (ℕ × List ℕ))
        → option_or (option_and_then (λ (first : ℕ × List ℕ). cond (bytes_eq (message_of first.1) (message_of section)) None (differs_from DsiDiffers calls first.0)) o) None
        ≡ dsi_answer o n section
    by_first None = refl
    by_first (Some first) = by_test (bytes_eq (message_of first.1) (message_of section))
      where
        by_test : (same : Bool) → option_or (cond same None (differs_from DsiDiffers calls first.0)) None ≡ cond same None (Some (DsiDiffers first.0 n))
        by_test true = refl
        by_test false = refl

pub other_answers : (calls : List Call) (section : List ℕ) → ddb.of section ≡ None → dii.of section ≡ None → dsi.of section ≡ None
    → answer_in_carousel calls section ≡ None
unfolding answer_in_carousel block_differs dsi_differs dii_differs too_many
other_answers calls section no_block no_dii no_dsi = rw (no_block, no_dii, no_dsi) refl

-- ---- how many keys

pub keys_few : (calls : List Call) → IsOpen calls → keys_heard calls ≤ 65536
keys_few [] undecided = keys-zero
keys_few (call ∷ earlier) undecided = by_notice call.notice call.section undecided (keys_few earlier (open_tail call earlier undecided))
  where
    by_notice : (notice : Bool) (section : List ℕ) → IsOpen (record { notice = notice; section = section } ∷ earlier) → keys_heard earlier ≤ 65536
        → keys_heard (record { notice = notice; section = section } ∷ earlier) ≤ 65536
    by_notice true section undecided few = let same = keys-notice section earlier in omega arith
    by_notice false section undecided few = by_section (ddb.of section) refl
      where
        by_section : (o : Option DdbFields) → ddb.of section ≡ o → keys_heard (in_carousel section ∷ earlier) ≤ 65536
        by_section None e = let same = keys-none section earlier e in omega arith
        by_section (Some d) e = by_first (first_block (key_of d) earlier) refl (sym (block_answers earlier section d (open_tail (in_carousel section) earlier undecided) e) ∙ open_head section earlier undecided) (keys-block section d earlier e)
          where
            by_first : (o : Option (ℕ × List ℕ)) → first_block (key_of d) earlier ≡ o → block_answer (first_block (key_of d) earlier) (keys_heard earlier) (number_after earlier) d.bytes ≡ None
                → keys_heard (in_carousel section ∷ earlier) ≡ keys_heard earlier + cond (is_none (first_block (key_of d) earlier)) 1 0
                → keys_heard (in_carousel section ∷ earlier) ≤ 65536
            by_first (Some f) is none more =
                let same : keys_heard (in_carousel section ∷ earlier) ≡ keys_heard earlier + 0 = more ∙ ap (λ (o : Option (ℕ × List ℕ)). keys_heard earlier + cond (is_none o) 1 0) is in
                omega arith
            by_first None is none more =
                let one : keys_heard (in_carousel section ∷ earlier) ≡ keys_heard earlier + 1 = more ∙ ap (λ (o : Option (ℕ × List ℕ)). keys_heard earlier + cond (is_none o) 1 0) is in
                let left : cond (eqb (keys_heard earlier) 65536) (Some (TooManyBlocks 65537)) None ≡ None = ap (λ (o : Option (ℕ × List ℕ)). block_answer o (keys_heard earlier) (number_after earlier) d.bytes) (sym is) ∙ none in
                by_test (eqb (keys_heard earlier) 65536) refl left one
              where
                by_test : (full : Bool) → eqb (keys_heard earlier) 65536 ≡ full → cond full (Some (TooManyBlocks 65537)) None ≡ None
                    → keys_heard (in_carousel section ∷ earlier) ≡ keys_heard earlier + 1 → keys_heard (in_carousel section ∷ earlier) ≤ 65536
                by_test true e none one = cc
                by_test false e none one = let apart = eqb-false (keys_heard earlier) 65536 e in omega arith

-- ---- what is kept after one call more

open-more : (call : Call) (calls : List Call) → answer_to calls call ≡ None → IsOpen calls → IsOpen (call ∷ calls)
unfolding IsOpen
open-more call calls none undecided = (none, undecided)

module _ (calls : List Call) (heard : ℕ) (first : Option (ℕ × List ℕ)) (diis : ℕ → Option (ℕ × List ℕ)) (blocks : BlockKey → Option (ℕ × List ℕ)) (keys : ℕ) (notices : List (ℕ × List ℕ))
    (h : Holds calls heard first diis blocks keys notices) where
  number : (call : Call) → min (heard + 1) (2 ^ 64 - 1) ≡ number_after (call ∷ calls)
  number call = let is = h.counted in omega arith

  -- what each part is after a section that says nothing there
  same_first : (section : List ℕ) → dsi.of section ≡ None → first ≡ first_dsi (in_carousel section ∷ calls)
  same_first section none = h.first ∙ sym (carousel-silent dsi_section section calls (says_no_dsi section none))

  same_diis : (section : List ℕ) → dii.of section ≡ None → (group : ℕ) → diis group ≡ option_map message_of_dii (first_dii group (in_carousel section ∷ calls))
  same_diis section none group =
      h.first_of group ∙ ap (option_map message_of_dii) (sym (carousel-silent (dii_of_group group) section calls (says_no_dii group section none)))

  same_blocks : (section : List ℕ) → ddb.of section ≡ None → (key : BlockKey) → blocks key ≡ first_block key (in_carousel section ∷ calls)
  same_blocks section none key = h.first_with key ∙ sym (carousel-silent (block_with key) section calls (says_no_block key section none))

  same_notices : (section : List ℕ) (test : UntFields → Bool)
      → first_kept test notices ≡ option_map number_in (first_in_notice (notice_with test) (in_carousel section ∷ calls))
  same_notices section test = h.notice test ∙ ap (option_map number_in) (sym (notice-carousel (notice_with test) section calls))

  pub holds-block : (section : List ℕ) (d : DdbFields) (now : BlockKey → Option (ℕ × List ℕ)) (keys_now : ℕ) → ddb.of section ≡ Some d
      → block_answer (blocks (key_of d)) keys heard d.bytes ≡ None → KeepsFirst same_key blocks now (key_of d) (heard, d.bytes)
      → keys_now ≡ one_more (blocks (key_of d)) keys
      → Holds (in_carousel section ∷ calls) (min (heard + 1) (2 ^ 64 - 1)) first diis now keys_now notices
  holds-block section d now keys_now is none kept more = record {
    undecided = open-more (in_carousel section) calls (answers ∙ none) h.undecided;
    counted = number (in_carousel section);
    first = same_first section (block_no_dsi d section is);
    first_of = same_diis section (block_no_dii d section is);
    first_with = λ key. kept key ∙ ap (λ (o : Option (ℕ × List ℕ)). option_or o (cond (same_key key (key_of d)) (Some (heard, d.bytes)) None)) (h.first_with key)
        ∙ ap (option_or (first_block key calls)) (by_key (same_key key (key_of d)) ∙ ap (under (number_after calls)) (sym (says_block key section d is)))
        ∙ sym (carousel-more (block_with key) section calls);
    different = more ∙ ap (λ (o : Option (ℕ × List ℕ)). one_more o keys) (h.first_with (key_of d))
        ∙ ap (one_more (first_block (key_of d) calls)) h.different ∙ sym (keys-block section d calls is);
    notice = same_notices section;
  }
    where
      answers : answer_in_carousel calls section ≡ block_answer (blocks (key_of d)) keys heard d.bytes
      answers =
          block_answers calls section d h.undecided is
          ∙ ap (λ (o : Option (ℕ × List ℕ)). block_answer o (keys_heard calls) (number_after calls) d.bytes) (sym (h.first_with (key_of d)))
          ∙ ap (λ (k : ℕ). block_answer (blocks (key_of d)) k (number_after calls) d.bytes) (sym h.different)
          ∙ ap (λ (k : ℕ). block_answer (blocks (key_of d)) keys k d.bytes) (sym h.counted)

      by_key : (same : Bool) → cond same (Some (heard, d.bytes)) None ≡ under (number_after calls) (cond same (Some d.bytes) None)
      by_key true = ap (λ (n : ℕ). some_kept (n, d.bytes)) h.counted
      by_key false = refl

  pub answer-block : (section : List ℕ) (d : DdbFields) → ddb.of section ≡ Some d
      → block_answer (blocks (key_of d)) keys heard d.bytes ≡ answer_in_carousel calls section
  answer-block section d is = sym (
      block_answers calls section d h.undecided is
      ∙ ap (λ (o : Option (ℕ × List ℕ)). block_answer o (keys_heard calls) (number_after calls) d.bytes) (sym (h.first_with (key_of d)))
      ∙ ap (λ (k : ℕ). block_answer (blocks (key_of d)) k (number_after calls) d.bytes) (sym h.different)
      ∙ ap (λ (k : ℕ). block_answer (blocks (key_of d)) keys k d.bytes) (sym h.counted))

  pub answer-dii : (section : List ℕ) (d : DiiFields) → ddb.of section ≡ None → dii.of section ≡ Some d
      → dii_answer (diis d.transaction) heard d.message ≡ answer_in_carousel calls section
  answer-dii section d no_block is = sym (
      dii_answers calls section d no_block is
      ∙ ap (λ (o : Option (ℕ × List ℕ)). dii_answer o (number_after calls) d.message) (sym (h.first_of d.transaction))
      ∙ ap (λ (k : ℕ). dii_answer (diis d.transaction) k d.message) (sym h.counted))

  pub holds-dii : (section : List ℕ) (d : DiiFields) (now : ℕ → Option (ℕ × List ℕ)) → ddb.of section ≡ None → dii.of section ≡ Some d
      → dii_answer (diis d.transaction) heard d.message ≡ None → KeepsFirst nat_eq diis now d.transaction (heard, d.message)
      → Holds (in_carousel section ∷ calls) (min (heard + 1) (2 ^ 64 - 1)) first now blocks keys notices
  holds-dii section d now no_block is none kept = record {
    undecided = open-more (in_carousel section) calls (sym (answer-dii section d no_block is) ∙ none) h.undecided;
    counted = number (in_carousel section);
    first = same_first section (dii_no_dsi d section is);
    first_of = λ group. kept group
        ∙ ap (λ (o : Option (ℕ × List ℕ)). option_or o (cond (eqb group d.transaction) (Some (heard, d.message)) None)) (h.first_of group)
        ∙ by_first group (first_dii group calls)
        ∙ ap (λ (o : Option (ℕ × DiiFields)). option_map message_of_dii (option_or (first_dii group calls) o))
        (ap (under (number_after calls)) (sym (says_dii group section d is)))
        ∙ ap (option_map message_of_dii) (sym (carousel-more (dii_of_group group) section calls));
    first_with = same_blocks section no_block;
    different = h.different ∙ sym (keys-none section calls no_block);
    notice = same_notices section;
  }
    where
      by_first : (group : ℕ) (o : Option (ℕ × DiiFields))
          → option_or (option_map message_of_dii o) (cond (eqb group d.transaction) (Some (heard, d.message)) None)
          ≡ option_map message_of_dii (option_or o (under (number_after calls) (cond (eqb group d.transaction) (Some d) None)))
      by_first group (Some x) = refl
      by_first group None = by_test (eqb group d.transaction)
        where
          by_test : (same : Bool) → cond same (Some (heard, d.message)) None ≡ option_map message_of_dii (under (number_after calls) (cond same (Some d) None))
          by_test true = ap (λ (n : ℕ). some_kept (n, d.message)) h.counted
          by_test false = refl

  pub answer-dsi : (section : List ℕ) (d : DsiFields) → ddb.of section ≡ None → dii.of section ≡ None → dsi.of section ≡ Some d
      → dsi_answer first heard section ≡ answer_in_carousel calls section
  answer-dsi section d no_block no_dii is = sym (
      dsi_answers calls section d no_block no_dii is
      ∙ ap (λ (o : Option (ℕ × List ℕ)). dsi_answer o (number_after calls) section) (sym h.first)
      ∙ ap (λ (k : ℕ). dsi_answer first k section) (sym h.counted))

  pub holds-dsi : (section : List ℕ) (d : DsiFields) (now : Option (ℕ × List ℕ)) → ddb.of section ≡ None → dii.of section ≡ None → dsi.of section ≡ Some d
      → dsi_answer first heard section ≡ None → now ≡ option_or first (Some (heard, section))
      → Holds (in_carousel section ∷ calls) (min (heard + 1) (2 ^ 64 - 1)) now diis blocks keys notices
  holds-dsi section d now no_block no_dii is none kept = record {
    undecided = open-more (in_carousel section) calls (sym (answer-dsi section d no_block no_dii is) ∙ none) h.undecided;
    counted = number (in_carousel section);
    first = kept ∙ ap (λ (o : Option (ℕ × List ℕ)). option_or o (Some (heard, section))) h.first
        ∙ ap (λ (n : ℕ). option_or (first_dsi calls) (some_kept (n, section))) h.counted
        ∙ ap (λ (o : Option (List ℕ)). option_or (first_dsi calls) (under (number_after calls) o)) (sym (says_dsi section d is))
        ∙ sym (carousel-more dsi_section section calls);
    first_of = same_diis section no_dii;
    first_with = same_blocks section no_block;
    different = h.different ∙ sym (keys-none section calls no_block);
    notice = same_notices section;
  }

  pub holds-other : (section : List ℕ) → ddb.of section ≡ None → dii.of section ≡ None → dsi.of section ≡ None
      → Holds (in_carousel section ∷ calls) (min (heard + 1) (2 ^ 64 - 1)) first diis blocks keys notices
  holds-other section no_block no_dii no_dsi = record {
    undecided = open-more (in_carousel section) calls (other_answers calls section no_block no_dii no_dsi) h.undecided;
    counted = number (in_carousel section);
    first = same_first section no_dsi;
    first_of = same_diis section no_dii;
    first_with = same_blocks section no_block;
    different = h.different ∙ sym (keys-none section calls no_block);
    notice = same_notices section;
  }

  pub holds-notice : (section : List ℕ) (now : List (ℕ × List ℕ))
      → ((test : UntFields → Bool) → first_kept test now ≡ option_or (first_kept test notices) (option_map (λ u. heard) (notice_with test section)))
      → Holds (in_notice section ∷ calls) (min (heard + 1) (2 ^ 64 - 1)) first diis blocks keys now
  holds-notice section now kept = record {
    undecided = open-more (in_notice section) calls refl h.undecided;
    counted = number (in_notice section);
    first = h.first ∙ sym (carousel-notice dsi_section section calls);
    first_of = λ group. h.first_of group ∙ ap (option_map message_of_dii) (sym (carousel-notice (dii_of_group group) section calls));
    first_with = λ key. h.first_with key ∙ sym (carousel-notice (block_with key) section calls);
    different = h.different ∙ sym (keys-notice section calls);
    notice = λ test. kept test
        ∙ ap (λ (o : Option ℕ). option_or o (option_map (λ u. heard) (notice_with test section))) (h.notice test)
        ∙ by_first (first_in_notice (notice_with test) calls) (notice_with test section)
        ∙ ap (option_map number_in) (sym (notice-more (notice_with test) section calls));
  }
    where
      by_first : (o : Option (ℕ × UntFields)) (u : Option UntFields)
          → option_or (option_map number_in o) (option_map (λ (x : UntFields). heard) u) ≡ option_map number_in (option_or o (under (number_after calls) u))
      by_first (Some x) u = refl
      by_first None None = refl
      by_first None (Some u) = ap (λ (n : ℕ). some_number n) h.counted
