-- What is heard first comes of a section that was heard, and later ones say the same.
use Rattle.std.proofs.Common.{◌≡◌, ℕ, ◌<◌, Bool, true, false, cond, eqb, List, [], ◌∷◌, Option, Some, None, inl, inr, refl, sym, ap, subst, ◌∙◌, arith}
use Rattle.std.proofs.lemmas.Bool.{eq-eqb, eqb-true}
use Rattle.std.specs.Prelude.{Contains}
use Rattle.std.specs.Option.{option_map, option_or, unwrap_or}
use Rattle.std.specs.Str.{bytes_eq}
use Rattle.route_part.specs.Said.{under}
use Rattle.wire.proofs.Laws.{whole_one_value}
use Rattle.section_form.specs.Long.{LongFields, body_of, long_form}
use Rattle.section_form.proofs.Exact.{long_form_exact}
use Rattle.audit_answer.specs.declared.answers.AuditNo.TheVariants.{DiiDiffers, DsiDiffers}
use Rattle.dsmcc_msg.specs.Block.{DdbFields, ddb}
use Rattle.dsmcc_msg.specs.Control.{DiiFields, DsiFields, dii, dii_message, dsi, dsi_message}
use Rattle.dsmcc_msg.proofs.Exact.{dii_exact, dii_message_exact, dsi_exact, dsi_message_exact}
use Rattle.ssu_audit.specs.Calls.{Call, carousel, first_in_carousel, number_after}
use Rattle.ssu_audit.specs.Hearing.{IsOpen, answer_in_carousel, first_block, first_dii, first_dsi}
use Rattle.ssu_audit.specs.Kept.{dii_answer, dsi_answer}
use Rattle.ssu_audit.specs.Said.{block_with, dii_of_group, dsi_section, key_of, message_of}
use Rattle.ssu_audit.specs.Standing.{message_of_dii}
use Rattle.ssu_audit.proofs.Holding.{dii_answers, dsi_answers, first_other, open_head, open_tail, same_as_first, same_bytes, same_key-refl, says_block, says_dii, says_dsi, says_no_dii}
use Rattle.ssu_audit.proofs.OneKind.{block_no_dii, block_no_dsi, dii_no_dsi}
use Rattle.ssu_audit.proofs.Places.{contains-here, contains-later, first_or_other}
use Rattle.ssu_audit.proofs.Steps.{carousel-more, carousel-notice, first_none, in_carousel, sections-more, sections-notice}

-- ---- words

abbrev some_of : {A : Type 0} → A → Option A
some_of a = Some a

nothing_heard : (section : List ℕ) → Contains (carousel []) section → ⊥
unfolding carousel
nothing_heard section c = let no : c.0 < 0 = c.1 in omega arith

-- the body that spells a DII is its message
dii_body : (d : DiiFields) (body : List ℕ) → dii_message.Spells d body → d.message ≡ body
unfolding dii_message
dii_body d body s = sym (ap (λ (x : DiiFields). x.message) s.1) ∙ s.2.1

-- the message of a section that is a DSI spells it
dsi_body : (d : DsiFields) (section : List ℕ) → dsi.of section ≡ Some d → dsi_message.Spells d (message_of section)
unfolding dsi message_of
dsi_body d section e =
    let s = dsi_exact.takes section d e in
    let own : s.0.1 ≡ d = s.1 in
    let head = long_form_exact.again s.0.0 section s.2.0.1 in
    let body : unwrap_or (option_map body_of (long_form.of section)) [] ≡ s.0.0.body = ap (λ (o : Option LongFields). unwrap_or (option_map body_of o) []) head in
    subst (λ (xs : List ℕ). dsi_message.Spells d xs) (sym body) (subst (λ (x : DsiFields). dsi_message.Spells x s.0.0.body) own s.2.1)

-- ---- where it comes from

-- a section that was heard, which says this
pub record Comes {A : Type 0} (says : List ℕ → Option A) (calls : List Call) (a : A) : Type 0 where
  pub section : List ℕ
  pub heard : Contains (carousel calls) section
  pub said : says section ≡ Some a

comes-notice : {A : Type 0} (says : List ℕ → Option A) (section : List ℕ) (earlier : List Call) (a : A) → Comes says earlier a
    → Comes says (record { notice = true; section = section } ∷ earlier) a
comes-notice says section earlier a c = record {
  section = c.section;
  heard = subst (λ (ss : List (List ℕ)). Contains ss c.section) (sym (sections-notice section earlier)) c.heard;
  said = c.said;
}

comes-later : {A : Type 0} (says : List ℕ → Option A) (section : List ℕ) (earlier : List Call) (a : A) → Comes says earlier a → Comes says (in_carousel section ∷ earlier) a
comes-later says section earlier a c = record {
  section = c.section;
  heard = subst (λ (ss : List (List ℕ)). Contains ss c.section) (sym (sections-more section earlier)) (contains-later c.section section (carousel earlier) c.heard);
  said = c.said;
}

comes-now : {A : Type 0} (says : List ℕ → Option A) (section : List ℕ) (earlier : List Call) (a : A) → says section ≡ Some a → Comes says (in_carousel section ∷ earlier) a
comes-now says section earlier a is = record {
  section = section;
  heard = subst (λ (ss : List (List ℕ)). Contains ss section) (sym (sections-more section earlier)) (contains-here section (carousel earlier));
  said = is;
}

pub comes : {A : Type 0} (says : List ℕ → Option A) (calls : List Call) (first : ℕ × A) → first_in_carousel says calls ≡ Some first → Comes says calls first.1
comes says [] first e = let none = first_none says in cc
comes {A} says (call ∷ earlier) first e = by_notice call.notice call.section (comes says earlier first) e
  where
    by_notice : (notice : Bool) (section : List ℕ) → (first_in_carousel says earlier ≡ Some first → Comes says earlier first.1)
        → first_in_carousel says (record { notice = notice; section = section } ∷ earlier) ≡ Some first
        → Comes says (record { notice = notice; section = section } ∷ earlier) first.1
    by_notice true section before e = comes-notice says section earlier first.1 (before (sym (carousel-notice says section earlier) ∙ e))
    by_notice false section before e = by_first (first_in_carousel says earlier) refl (sym (carousel-more says section earlier) ∙ e)
      where
        by_first : (o : Option (ℕ × A)) → first_in_carousel says earlier ≡ o → option_or (first_in_carousel says earlier) (under (number_after earlier) (says section)) ≡ Some first
            → Comes says (in_carousel section ∷ earlier) first.1
        by_first (Some x) f e =
            let same : first_in_carousel says earlier ≡ Some first = f ∙ (ap (λ (o : Option (ℕ × A)). option_or o (under (number_after earlier) (says section))) (sym f) ∙ e) in
            comes-later says section earlier first.1 (before same)
        by_first None f e = by_says (says section) refl (ap (λ (o : Option (ℕ × A)). option_or o (under (number_after earlier) (says section))) (sym f) ∙ e)
          where
            by_says : (o : Option A) → says section ≡ o → under (number_after earlier) (says section) ≡ Some first → Comes says (in_carousel section ∷ earlier) first.1
            by_says None s e = let none : under (number_after earlier) (says section) ≡ None = ap (under (number_after earlier)) s in cc
            by_says (Some a) s e =
                let now : under (number_after earlier) (says section) ≡ Some (number_after earlier, a) = ap (under (number_after earlier)) s in
                let same : first ≡ (number_after earlier, a) = cc in
                comes-now says section earlier first.1 (s ∙ ap (λ (x : ℕ × A). some_of x.1) (sym same))

-- ---- what each section that was heard says is what stands

-- the sections that were heard are that of the call, or those before it
pub each_section : (P : List Call → List ℕ → Type 0) (calls : List Call)
    → ((section : List ℕ) (earlier : List Call) → IsOpen earlier → answer_in_carousel earlier section ≡ None → P (in_carousel section ∷ earlier) section)
    → ((call : Call) (section : List ℕ) (earlier : List Call) → P earlier section → P (call ∷ earlier) section)
    → IsOpen calls → (section : List ℕ) → Contains (carousel calls) section → P calls section
each_section P [] now later undecided section among = absurd (nothing_heard section among)
each_section P (call ∷ earlier) now later undecided section among =
    by_notice call.notice call.section undecided among (each_section P earlier now later (open_tail call earlier undecided) section)
  where
    by_notice : (notice : Bool) (own : List ℕ) → IsOpen (record { notice = notice; section = own } ∷ earlier)
        → Contains (carousel (record { notice = notice; section = own } ∷ earlier)) section
        → (Contains (carousel earlier) section → P earlier section) → P (record { notice = notice; section = own } ∷ earlier) section
    by_notice true own undecided among before =
        later (record { notice = true; section = own }) section earlier (before (subst (λ (ss : List (List ℕ)). Contains ss section) (sections-notice own earlier) among))
    by_notice false own undecided among before =
        elim (first_or_other section own (carousel earlier) (subst (λ (ss : List (List ℕ)). Contains ss section) (sections-more own earlier) among))
        as (λ _. P (in_carousel own ∷ earlier) section) [
          | inl same ↦ subst (λ (s : List ℕ). P (in_carousel own ∷ earlier) s) same (now own earlier (open_tail (in_carousel own) earlier undecided) (open_head own earlier undecided))
          | inr other ↦ later (in_carousel own) section earlier (before other)
        ]

-- what stands first stands after one call more
stays : {A : Type 0} (says : List ℕ → Option A) (call : Call) (earlier : List Call) (first : ℕ × A) → first_in_carousel says earlier ≡ Some first
    → first_in_carousel says (call ∷ earlier) ≡ Some first
stays {A} says call earlier first e = by_notice call.notice call.section
  where
    by_notice : (notice : Bool) (section : List ℕ) → first_in_carousel says (record { notice = notice; section = section } ∷ earlier) ≡ Some first
    by_notice true section = carousel-notice says section earlier ∙ e
    by_notice false section = carousel-more says section earlier ∙ ap (λ (o : Option (ℕ × A)). option_or o (under (number_after earlier) (says section))) e

-- ---- blocks

-- a block with this key stands first, with these bytes
pub record Stands (d : DdbFields) (calls : List Call) : Type 0 where
  pub number : ℕ
  pub first : first_block (key_of d) calls ≡ Some (number, d.bytes)

abbrev BlockStands : List Call → List ℕ → Type 0
BlockStands calls section = (d : DdbFields) → ddb.of section ≡ Some d → Stands d calls

block_now : (section : List ℕ) (earlier : List Call) → IsOpen earlier → answer_in_carousel earlier section ≡ None → BlockStands (in_carousel section ∷ earlier) section
block_now section earlier undecided answered d is = by_first (first_block (key_of d) earlier) refl
  where
    own : block_with (key_of d) section ≡ Some d.bytes
    own = says_block (key_of d) section d is ∙ ap (λ (b : Bool). cond b (Some d.bytes) None) (same_key-refl (key_of d))

    by_first : (o : Option (ℕ × List ℕ)) → first_block (key_of d) earlier ≡ o → Stands d (in_carousel section ∷ earlier)
    by_first (Some first) e =
        let bytes : first.1 ≡ d.bytes = same_as_first section earlier d first (first_other earlier undecided) answered is e in
        record {
          number = first.0;
          first = stays (block_with (key_of d)) (in_carousel section) earlier first e ∙ ap (λ (xs : List ℕ). some_of (first.0, xs)) bytes;
        }
    by_first None e = record {
      number = number_after earlier;
      first = carousel-more (block_with (key_of d)) section earlier
          ∙ ap (λ (o : Option (ℕ × List ℕ)). option_or o (under (number_after earlier) (block_with (key_of d) section))) e
          ∙ ap (under (number_after earlier)) own;
    }

block_later : (call : Call) (section : List ℕ) (earlier : List Call) → BlockStands earlier section → BlockStands (call ∷ earlier) section
block_later call section earlier before d is =
    let b = before d is in
    record { number = b.number; first = stays (block_with (key_of d)) call earlier (b.number, d.bytes) b.first }

-- Each block that was heard has the bytes of the first with its key.
pub one_text : (calls : List Call) → IsOpen calls → (section : List ℕ) → Contains (carousel calls) section → (d : DdbFields) → ddb.of section ≡ Some d → Stands d calls
one_text calls undecided section among = each_section BlockStands calls block_now block_later undecided section among

-- ---- DIIs

-- the message of a DII says what it is
pub dii_again : (section : List ℕ) (d : DiiFields) → dii.of section ≡ Some d → dii_message.of d.message ≡ Some d
unfolding dii
dii_again section d e =
    let s = dii_exact.takes section d e in
    let own : s.0.1 ≡ d = s.1 in
    let spelled : dii_message.Spells d s.0.0.body = subst (λ (x : DiiFields). dii_message.Spells x s.0.0.body) own s.2.1 in
    let body = dii_body d s.0.0.body spelled in
    dii_message_exact.again d d.message (subst (λ (xs : List ℕ). dii_message.Spells d xs) (sym body) spelled)

pub one_dii : (x y : DiiFields) (s t : List ℕ) → dii.of s ≡ Some x → dii.of t ≡ Some y → x.message ≡ y.message → x ≡ y
one_dii x y s t a b same =
    let p : dii_message.of x.message ≡ Some x = dii_again s x a in
    let q : dii_message.of x.message ≡ Some y = ap (λ (xs : List ℕ). dii_message.of xs) same ∙ dii_again t y b in
    cc

pub of_group : (group : ℕ) (section : List ℕ) (d : DiiFields) → dii_of_group group section ≡ Some d → (dii.of section ≡ Some d) × (group ≡ d.transaction)
of_group group section d e = by_dii (dii.of section) refl
  where
    by_dii : (o : Option DiiFields) → dii.of section ≡ o → (dii.of section ≡ Some d) × (group ≡ d.transaction)
    by_dii None is = let none = says_no_dii group section is in cc
    by_dii (Some x) is = by_test (eqb group x.transaction) refl (sym (says_dii group section x is) ∙ e)
      where
        by_test : (same : Bool) → eqb group x.transaction ≡ same → cond same (Some x) None ≡ Some d → (dii.of section ≡ Some d) × (group ≡ d.transaction)
        by_test true t e = let own : x ≡ d = cc in (is ∙ ap (λ (z : DiiFields). some_of z) own, eqb-true group x.transaction t ∙ ap (λ (z : DiiFields). z.transaction) own)
        by_test false t e = cc

pub record DiiIsFirst (group : ℕ) (d : DiiFields) (calls : List Call) : Type 0 where
  pub number : ℕ
  pub first : first_dii group calls ≡ Some (number, d)

abbrev DiiStands : List Call → List ℕ → Type 0
DiiStands calls section = (d : DiiFields) → ddb.of section ≡ None → dii.of section ≡ Some d → DiiIsFirst d.transaction d calls

dii_now : (section : List ℕ) (earlier : List Call) → IsOpen earlier → answer_in_carousel earlier section ≡ None → DiiStands (in_carousel section ∷ earlier) section
dii_now section earlier undecided answered d no_block is =
    by_first (first_dii d.transaction earlier) refl (sym (dii_answers earlier section d no_block is) ∙ answered)
  where
    own : dii_of_group d.transaction section ≡ Some d
    own = says_dii d.transaction section d is ∙ ap (λ (b : Bool). cond b (Some d) None) (eq-eqb d.transaction d.transaction refl)

    by_first : (o : Option (ℕ × DiiFields)) → first_dii d.transaction earlier ≡ o
        → dii_answer (option_map message_of_dii (first_dii d.transaction earlier)) (number_after earlier) d.message ≡ None → DiiIsFirst d.transaction d (in_carousel section ∷ earlier)
    by_first (Some first) e none =
        let c = comes (dii_of_group d.transaction) earlier first e in
        let from = of_group d.transaction c.section first.1 c.said in
        let left : cond (bytes_eq first.1.message d.message) None (Some (DiiDiffers first.0 (number_after earlier))) ≡ None =
        ap (λ (o : Option (ℕ × DiiFields)). dii_answer (option_map message_of_dii o) (number_after earlier) d.message) (sym e) ∙ none in
        let same : first.1.message ≡ d.message = by_test (bytes_eq first.1.message d.message) refl left in
        let one : first.1 ≡ d = one_dii first.1 d c.section section from.0 is same in
        record {
          number = first.0;
          first = stays (dii_of_group d.transaction) (in_carousel section) earlier first e ∙ ap (λ (x : DiiFields). some_of (first.0, x)) one;
        }
      where
        by_test : (same : Bool) → bytes_eq first.1.message d.message ≡ same → cond same None (Some (DiiDiffers first.0 (number_after earlier))) ≡ None → first.1.message ≡ d.message
        by_test true t none = same_bytes first.1.message d.message t
        by_test false t none = cc
    by_first None e none = record {
      number = number_after earlier;
      first = carousel-more (dii_of_group d.transaction) section earlier
          ∙ ap (λ (o : Option (ℕ × DiiFields)). option_or o (under (number_after earlier) (dii_of_group d.transaction section))) e
          ∙ ap (under (number_after earlier)) own;
    }

dii_later : (call : Call) (section : List ℕ) (earlier : List Call) → DiiStands earlier section → DiiStands (call ∷ earlier) section
dii_later call section earlier before d no_block is =
    let b = before d no_block is in
    record { number = b.number; first = stays (dii_of_group d.transaction) call earlier (b.number, d) b.first }

no_block_of : (section : List ℕ) (d : DiiFields) → dii.of section ≡ Some d → ddb.of section ≡ None
no_block_of section d is = by_block (ddb.of section) refl
  where
    by_block : (o : Option DdbFields) → ddb.of section ≡ o → o ≡ None
    by_block None e = refl
    by_block (Some x) e = let none = block_no_dii x section e in cc

-- Each DII that was heard of a group is the first of it.
pub dii_is_first : (calls : List Call) → IsOpen calls → (section : List ℕ) → Contains (carousel calls) section → (group : ℕ) (d : DiiFields) → dii_of_group group section ≡ Some d
    → DiiIsFirst group d calls
dii_is_first calls undecided section among group d said =
    let own = of_group group section d said in
    subst (λ (n : ℕ). DiiIsFirst n d calls) (sym own.1)
    (each_section DiiStands calls dii_now dii_later undecided section among d (no_block_of section d own.0) own.0)

-- ---- DSIs

pub one_dsi : (x y : DsiFields) (s t : List ℕ) → dsi.of s ≡ Some x → dsi.of t ≡ Some y → message_of s ≡ message_of t → x ≡ y
one_dsi x y s t a b same =
    let p : dsi_message.Spells x (message_of s) = dsi_body x s a in
    let q : dsi_message.Spells y (message_of s) = subst (λ (xs : List ℕ). dsi_message.Spells y xs) (sym same) (dsi_body y t b) in
    whole_one_value dsi_message_exact x y (message_of s) p q

pub record DsiIsFirst (d : DsiFields) (calls : List Call) : Type 0 where
  pub number : ℕ
  pub section : List ℕ
  pub first : first_dsi calls ≡ Some (number, section)
  pub read : dsi.of section ≡ Some d

abbrev DsiStands : List Call → List ℕ → Type 0
DsiStands calls section = (d : DsiFields) → ddb.of section ≡ None → dii.of section ≡ None → dsi.of section ≡ Some d → DsiIsFirst d calls

pub of_dsi : (section from : List ℕ) → dsi_section section ≡ Some from → (section ≡ from) × ((d : DsiFields) × (dsi.of section ≡ Some d))
unfolding dsi_section
of_dsi section from e = by_dsi (dsi.of section) refl e
  where
    by_dsi : (o : Option DsiFields) → dsi.of section ≡ o → option_map (λ (d : DsiFields). section) o ≡ Some from → (section ≡ from) × ((d : DsiFields) × (dsi.of section ≡ Some d))
    by_dsi None is e = cc
    by_dsi (Some d) is e = let same : section ≡ from = cc in (same, (d, is))

dsi_now : (section : List ℕ) (earlier : List Call) → IsOpen earlier → answer_in_carousel earlier section ≡ None → DsiStands (in_carousel section ∷ earlier) section
dsi_now section earlier undecided answered d no_block no_dii is =
    by_first (first_dsi earlier) refl (sym (dsi_answers earlier section d no_block no_dii is) ∙ answered)
  where
    by_first : (o : Option (ℕ × List ℕ)) → first_dsi earlier ≡ o → dsi_answer (first_dsi earlier) (number_after earlier) section ≡ None → DsiIsFirst d (in_carousel section ∷ earlier)
    by_first (Some first) e none =
        let c = comes dsi_section earlier first e in
        let from = of_dsi c.section first.1 c.said in
        let left : cond (bytes_eq (message_of first.1) (message_of section)) None (Some (DsiDiffers first.0 (number_after earlier))) ≡ None =
        ap (λ (o : Option (ℕ × List ℕ)). dsi_answer o (number_after earlier) section) (sym e) ∙ none in
        let same : message_of first.1 ≡ message_of section = by_test (bytes_eq (message_of first.1) (message_of section)) refl left in
        let read : dsi.of first.1 ≡ Some from.1.0 = ap (λ (xs : List ℕ). dsi.of xs) (sym from.0) ∙ from.1.1 in
        let one : from.1.0 ≡ d = one_dsi from.1.0 d first.1 section read is same in
        record {
          number = first.0;
          section = first.1;
          first = stays dsi_section (in_carousel section) earlier first e;
          read = read ∙ ap (λ (x : DsiFields). some_of x) one;
        }
      where
        by_test : (same : Bool) → bytes_eq (message_of first.1) (message_of section) ≡ same → cond same None (Some (DsiDiffers first.0 (number_after earlier))) ≡ None
            → message_of first.1 ≡ message_of section
        by_test true t none = same_bytes (message_of first.1) (message_of section) t
        by_test false t none = cc
    by_first None e none = record {
      number = number_after earlier;
      section = section;
      first = carousel-more dsi_section section earlier
          ∙ ap (λ (o : Option (ℕ × List ℕ)). option_or o (under (number_after earlier) (dsi_section section))) e
          ∙ ap (under (number_after earlier)) (says_dsi section d is);
      read = is;
    }

dsi_later : (call : Call) (section : List ℕ) (earlier : List Call) → DsiStands earlier section → DsiStands (call ∷ earlier) section
dsi_later call section earlier before d no_block no_dii is =
    let b = before d no_block no_dii is in
    record { number = b.number; section = b.section; first = stays dsi_section call earlier (b.number, b.section) b.first; read = b.read }

no_other : (section : List ℕ) (d : DsiFields) → dsi.of section ≡ Some d → (ddb.of section ≡ None) × (dii.of section ≡ None)
no_other section d is = (by_block (ddb.of section) refl, by_dii (dii.of section) refl)
  where
    by_block : (o : Option DdbFields) → ddb.of section ≡ o → o ≡ None
    by_block None e = refl
    by_block (Some x) e = let none = block_no_dsi x section e in cc

    by_dii : (o : Option DiiFields) → dii.of section ≡ o → o ≡ None
    by_dii None e = refl
    by_dii (Some x) e = let none = dii_no_dsi x section e in cc

-- Each DSI that was heard says what the first says.
pub dsi_is_first : (calls : List Call) → IsOpen calls → (section : List ℕ) → Contains (carousel calls) section → (d : DsiFields) → dsi.of section ≡ Some d → DsiIsFirst d calls
dsi_is_first calls undecided section among d is =
    let none = no_other section d is in
    each_section DsiStands calls dsi_now dsi_later undecided section among d none.0 none.1 is
