-- Where the answer is yes, each group has one image.
use Rattle.std.proofs.Common.{◌≡◌, ℕ, ◌+◌, ◌<◌, Bool, true, false, cond, eqb, List, [], ◌∷◌, length, Option, Some, None, ◌⊎◌, inl, inr, refl, sym, ap, subst, ◌∙◌, arith}
use Rattle.std.specs.Prelude.{Contains, IfOk, Result, Ok, Err, is_some, unwrap_or}
use Rattle.std.specs.Option.{option_and_then, option_map, option_or}
use Rattle.audit_answer.specs.declared.answers.AuditNo.{AuditNo}
use Rattle.audit_answer.specs.declared.answers.AuditYes.{AuditYes}
use Rattle.dsmcc_msg.specs.Block.{DdbFields, ddb}
use Rattle.dsmcc_msg.specs.Control.{DiiFields, DsiFields, GroupFields, dsi}
use Rattle.route_part.specs.Said.{first_said}
use Rattle.route_part.proofs.Steps.{first_said-none, first_said-step}
use Rattle.ssu_group.specs.declared.group_plan.GroupPlan.{GroupPlan}
use Rattle.ssu_group.specs.Carried.{CarriesWhole, brings, carried_image, filling, joined, wrong_module}
use Rattle.ssu_group.specs.Lays.{IsPlanOf}
use Rattle.ssu_group.specs.Place.{block_length}
use Rattle.ssu_group.proofs.MapLaws.{all_marked}
use Rattle.ssu_group.proofs.SamePlans.{same_filling, same_plan}
use Rattle.flash_stage.proofs.TextLaws.{joined_same}
use Rattle.ssu_audit.specs.declared.key.BlockKey.{BlockKey}
use Rattle.ssu_audit.specs.Calls.{Call, carousel}
use Rattle.ssu_audit.specs.Ending.{AgainstDii, AgainstGroup, AgainstGroups, Concludes, Ends, IsFirstDsi, OrLater, against_notices, bad_module, first_missing, place_missing, size_differs}
use Rattle.ssu_audit.specs.Filled.{fitting, key_at}
use Rattle.ssu_audit.specs.Hearing.{IsOpen, first_block, first_dii, first_dsi}
use Rattle.ssu_audit.specs.OneImage.{AreAmong, GroupHasOneImage, HasOneImage, HasOneImagePerGroup}
use Rattle.ssu_audit.specs.Said.{block_with, dii_of_group, dsi_section, key_of, same_key}
use Rattle.ssu_audit.proofs.Filling.{fills, none_missing}
use Rattle.ssu_audit.proofs.Firsts.{comes, dii_is_first, dsi_is_first, of_dsi, one_text}
use Rattle.ssu_audit.proofs.Holding.{same_keys, says_block, says_no_block}
use Rattle.ssu_audit.proofs.Places.{block_at_place, brings_by_key, contains-here, contains-later, first_or_other, if_long}

abbrev some_text : ℕ × List ℕ → Option (ℕ × List ℕ)
some_text x = Some x

same_dsi : (calls : List Call) (x d : DsiFields) (number : ℕ) (section : List ℕ) → first_dsi calls ≡ Some (number, section) → dsi.of section ≡ Some x → IsFirstDsi calls d → x ≡ d
same_dsi calls x d number section first read own =
    let other = own.first in
    let both : (number, section) ≡ (own.number, own.section) = cc in
    let same : section ≡ own.section = ap (λ (z : ℕ × List ℕ). z.1) both in
    let here : dsi.of own.section ≡ Some x = ap (λ (s : List ℕ). dsi.of s) (sym same) ∙ read in
    let there = own.read in
    cc

-- ---- options

or_first : {A : Type 0} (a b : Option A) → None ≡ option_or a b → a ≡ None
or_first None b e = refl
or_first (Some x) b e = cc

or_second : {A : Type 0} (a b : Option A) → None ≡ option_or a b → None ≡ b
or_second None b e = e
or_second (Some x) b e = cc

mapped_none : {A B : Type 0} (f : A → B) (o : Option A) → option_map f o ≡ None → o ≡ None
mapped_none f None e = refl
mapped_none f (Some x) e = cc

value_of : {A : Type 0} (o : Option A) → is_some o ≡ true → (a : A) × (o ≡ Some a)
value_of None e = cc
value_of (Some a) e = (a, refl)

-- ---- where a text comes from

-- a section of the list that says this
record From (says : List ℕ → Option (List ℕ)) (list : List (List ℕ)) (text : List ℕ) : Type 0 where
  section : List ℕ
  among : Contains list section
  said : says section ≡ Some text

from_list : (says : List ℕ → Option (List ℕ)) (list : List (List ℕ)) (text : List ℕ) → first_said says list ≡ Some text → From says list text
from_list says [] text e = let none = first_said-none says in cc
from_list says (section ∷ list) text e = by_first (first_said says list) refl (from_list says list text) (sym (first_said-step says section list) ∙ e)
  where
    by_first : (o : Option (List ℕ)) → first_said says list ≡ o → (first_said says list ≡ Some text → From says list text)
        → option_or (first_said says list) (says section) ≡ Some text → From says (section ∷ list) text
    by_first (Some x) f before e =
        let same : first_said says list ≡ Some text = f ∙ (ap (λ (o : Option (List ℕ)). option_or o (says section)) (sym f) ∙ e) in
        let b = before same in
        record { section = b.section; among = contains-later b.section section list b.among; said = b.said }
    by_first None f before e = record { section = section; among = contains-here section list; said = ap (λ (o : Option (List ℕ)). option_or o (says section)) (sym f) ∙ e }

from_sections : (plan : GroupPlan) (list : List (List ℕ)) (n : ℕ) (text : List ℕ) → filling plan list n ≡ Some text → From (brings plan n) list text
unfolding filling
from_sections plan list n text e = from_list (brings plan n) list text e

-- ---- one text for each place

-- a block with this key, whose bytes are the text, of this length
record Fits (key : BlockKey) (len : ℕ) (section text : List ℕ) : Type 0 where
  d : DdbFields
  is : ddb.of section ≡ Some d
  own : key ≡ key_of d
  bytes : d.bytes ≡ text
  long : eqb (length text) len ≡ true

fits_of : (key : BlockKey) (len : ℕ) (section text : List ℕ) → option_and_then (if_long len) (block_with key section) ≡ Some text → Fits key len section text
fits_of key len section text e = by_section (ddb.of section) refl
  where
    by_section : (o : Option DdbFields) → ddb.of section ≡ o → Fits key len section text
    by_section None is = let none : option_and_then (if_long len) (block_with key section) ≡ None = ap (option_and_then (if_long len)) (says_no_block key section is) in cc
    by_section (Some d) is = by_key (same_key key (key_of d)) refl (ap (option_and_then (if_long len)) (sym (says_block key section d is)) ∙ e)
      where
        by_key : (same : Bool) → same_key key (key_of d) ≡ same → option_and_then (if_long len) (cond same (Some d.bytes) None) ≡ Some text → Fits key len section text
        by_key false k e = cc
        by_key true k e = by_len (eqb (length d.bytes) len) refl e
          where
            by_len : (fit : Bool) → eqb (length d.bytes) len ≡ fit → cond fit (Some d.bytes) None ≡ Some text → Fits key len section text
            by_len false f e = cc
            by_len true f e =
                let bytes : d.bytes ≡ text = cc in
                record { d = d; is = is; own = same_keys key (key_of d) k; bytes = bytes; long = ap (λ (xs : List ℕ). eqb (length xs) len) (sym bytes) ∙ f }

-- What some of the sections heard fill a place with, all of them fill it with.
one_filling : (calls : List Call) → IsOpen calls → (plan : GroupPlan) (list : List (List ℕ)) (n : ℕ) (text : List ℕ) → AreAmong (carousel calls) list → n < plan.places
    → filling plan list n ≡ Some text → filling plan (carousel calls) n ≡ Some text
one_filling calls undecided plan list n text among lt e =
    let places = plan.planned.all_places in
    let b = block_at_place plan.block_size 0 0 plan.modules.items n plan.planned.joined (omega arith) (omega arith) in
    let m = b.module_plan in
    let k = b.block in
    let len = block_length plan.block_size m.size k in
    let key = key_at plan.download m k in
    let from = from_sections plan list n text e in
    let said : brings plan (m.first + k) from.section ≡ Some text = ap (λ (j : ℕ). brings plan j from.section) (sym b.is) ∙ from.said in
    let fit = fits_of key len from.section text (sym (brings_by_key plan m k b.among b.below from.section) ∙ said) in
    let stands = one_text calls undecided from.section (among from.section from.among) fit.d fit.is in
    let first : first_block key calls ≡ Some (stands.number, text) =
    ap (λ (x : BlockKey). first_block x calls) fit.own ∙ stands.first ∙ ap (λ (xs : List ℕ). some_text (stands.number, xs)) fit.bytes in
    ap (filling plan (carousel calls)) b.is
    ∙ fills plan m k b.among b.below calls undecided
    ∙ ap (fitting len) first
    ∙ ap (λ (fit : Bool). cond fit (Some text) None) fit.long

-- ---- the image of a group

-- the group is carried whole, under its first DII
pub record Carried (calls : List Call) (group : ℕ) : Type 0 where
  pub first : ℕ × DiiFields
  pub is_first : first_dii group calls ≡ Some first
  pub plan : GroupPlan
  pub is_plan : IsPlanOf first.1 plan
  pub carries : CarriesWhole plan (filling plan (carousel calls)) (carried_image plan (filling plan (carousel calls)))

carried_of : (calls : List Call) (group size : ℕ) → AgainstGroup calls group size None → Carried calls group
carried_of calls group size against = by_first (first_dii group calls) refl against
  where
    by_first : (o : Option (ℕ × DiiFields)) → first_dii group calls ≡ o → AgainstDii group size (carousel calls) o None → Carried calls group
    by_first None f a = cc
    by_first (Some first) f (inl a) = let no = a.1 in cc
    by_first (Some first) f (inr a) =
        let plan = a.1.0 in
        let sections = carousel calls in
        let none = a.1.1.1 in
        let later = or_second (size_differs group size plan) (option_or (place_missing group (first_missing plan sections)) (bad_module group (wrong_module plan.modules.items (carried_image plan (filling plan sections))))) none in
        let places = mapped_none _ (first_missing plan sections) (or_first (place_missing group (first_missing plan sections)) (bad_module group (wrong_module plan.modules.items (carried_image plan (filling plan sections)))) later) in
        let modules = mapped_none _ (wrong_module plan.modules.items (carried_image plan (filling plan sections)))
        (sym (or_second (place_missing group (first_missing plan sections)) (bad_module group (wrong_module plan.modules.items (carried_image plan (filling plan sections)))) later)) in
        record {
          first = first;
          is_first = f;
          plan = plan;
          is_plan = a.1.1.0;
          carries = record {
            filled = none_missing (λ n. is_some (filling plan sections n)) plan.places places;
            joins = refl;
            right = modules;
          };
        }

has_one : (calls : List Call) → IsOpen calls → (group : ℕ) (c : Carried calls group) → HasOneImage (carousel calls) c.first.1 (carried_image c.plan (filling c.plan (carousel calls)))
has_one calls undecided group c = record {
  plan = c.plan;
  is_plan = c.is_plan;
  carries = c.carries;
  one = λ list other_plan other among is_plan whole.
      let s = same_plan c.first.1 other_plan c.plan is_plan c.is_plan in
      let filled = whole.filled in
      whole.joins
      ∙ joined_same (λ n. unwrap_or (filling other_plan list n) []) (λ n. unwrap_or (filling c.plan (carousel calls) n) []) other_plan.places
      (λ n lt.
      let v = value_of (filling other_plan list n) (all_marked (λ k. is_some (filling other_plan list k)) other_plan.places filled n lt) in
      let same_places = s.places in
      let below : n < c.plan.places = omega arith in
      let here : filling c.plan list n ≡ Some v.0 = sym (same_filling other_plan c.plan list n s) ∙ v.1 in
      ap (λ (o : Option (List ℕ)). unwrap_or o []) (v.1 ∙ sym (one_filling calls undecided c.plan list n v.0 among below here)))
      ∙ ap (joined (λ n. unwrap_or (filling c.plan (carousel calls) n) [])) s.places;
}

group_has : (calls : List Call) → IsOpen calls → (group : ℕ) (c : Carried calls group) → GroupHasOneImage (carousel calls) group (carried_image c.plan (filling c.plan (carousel calls)))
group_has calls undecided group c =
    let from = comes (dii_of_group group) calls c.first c.is_first in
    record {
      section = from.section;
      dii = c.first.1;
      there = from.heard;
      read = from.said;
      each = λ other other_dii among said.
          let f = dii_is_first calls undecided other among group other_dii said in
          let first = f.first in
          let is_first = c.is_first in
          let both : (f.number, other_dii) ≡ c.first = cc in
          let same : other_dii ≡ c.first.1 = ap (λ (x : ℕ × DiiFields). x.1) both in
          subst (λ (d : DiiFields). HasOneImage (carousel calls) d (carried_image c.plan (filling c.plan (carousel calls)))) (sym same) (has_one calls undecided group c);
    }

-- ---- all groups

none_of : (calls : List Call) (gs : List GroupFields) → AgainstGroups calls gs None → (g : GroupFields) → Contains gs g → AgainstGroup calls g.id g.size None
unfolding AgainstGroups
none_of calls [] against g among = let no : among.0 < 0 = among.1 in absurd (omega arith)
none_of calls (x ∷ gs) against g among = by_own against.0 against.1.0 against.1.1 (λ rest c. none_of calls gs rest g c) (first_or_other g x gs among)
  where
    by_own : (own : Option AuditNo) → AgainstGroup calls x.id x.size own → OrLater own (AgainstGroups calls gs) None
        → (AgainstGroups calls gs None → Contains gs g → AgainstGroup calls g.id g.size None) → (x ≡ g) ⊎ Contains gs g → AgainstGroup calls g.id g.size None
    by_own (Some fact) h rest more either = cc
    by_own None h rest more (inl same) = subst (λ (y : GroupFields). AgainstGroup calls y.id y.size None) same h
    by_own None h rest more (inr later) = more rest later

-- the first DSI, against whose groups nothing stands
record Concluded (calls : List Call) : Type 0 where
  d : DsiFields
  first : IsFirstDsi calls d
  none : AgainstGroups calls d.groups None

concluded_of : (calls : List Call) (d : DsiFields) (own : Option AuditNo) → IsFirstDsi calls d → AgainstGroups calls d.groups own
    → None ≡ option_or own (against_notices calls d.groups) → Concluded calls
concluded_of calls d own first groups e = record {
  d = d;
  first = first;
  none = subst (λ (o : Option AuditNo). AgainstGroups calls d.groups o) (or_first own (against_notices calls d.groups) e) groups;
}

concluded : (calls : List Call) → Concludes calls None → Concluded calls
concluded calls (inl none) = let no = none.1 in cc
concluded calls (inr found) = concluded_of calls found.0 found.1.1.0 found.1.0 found.1.1.1.0 found.1.1.1.1

-- what a DSI that was heard says of a group
group_of : (calls : List Call) → IsOpen calls → (c : Concluded calls) (other : List ℕ) (other_dsi : DsiFields) (group : GroupFields) → Contains (carousel calls) other
    → dsi.of other ≡ Some other_dsi → Contains other_dsi.groups group → Carried calls group.id
group_of calls undecided c other other_dsi group among read in_groups =
    let o = dsi_is_first calls undecided other among other_dsi read in
    let one : other_dsi ≡ c.d = same_dsi calls other_dsi c.d o.number o.section o.first o.read c.first in
    carried_of calls group.id group.size (none_of calls c.d.groups c.none group (subst (λ (x : DsiFields). Contains x.groups group) one in_groups))

-- the DSI was heard
record Heard (calls : List Call) (d : DsiFields) : Type 0 where
  section : List ℕ
  there : Contains (carousel calls) section
  read : dsi.of section ≡ Some d

heard_first : (calls : List Call) (d : DsiFields) → IsFirstDsi calls d → Heard calls d
heard_first calls d first =
    let from = comes dsi_section calls (first.number, first.section) first.first in
    let said = of_dsi from.section first.section from.said in
    record { section = from.section; there = from.heard; read = ap (λ (s : List ℕ). dsi.of s) said.0 ∙ first.read }

group_image : (calls : List Call) → IsOpen calls → (group : ℕ) → Carried calls group → (image : List ℕ) × GroupHasOneImage (carousel calls) group image
group_image calls undecided group c = (carried_image c.plan (filling c.plan (carousel calls)), group_has calls undecided group c)

of_concluded : (calls : List Call) → IsOpen calls → Concluded calls → HasOneImagePerGroup (carousel calls)
of_concluded calls undecided c =
    let h = heard_first calls c.d c.first in
    record {
      section = h.section;
      d = c.d;
      there = h.there;
      read = h.read;
      each = λ other other_dsi group among read in_groups. group_image calls undecided group.id (group_of calls undecided c other other_dsi group among read in_groups);
    }

pub one_image_per_group : (calls : List Call) → IsOpen calls → Concludes calls None → HasOneImagePerGroup (carousel calls)
one_image_per_group calls undecided ends = of_concluded calls undecided (concluded calls ends)

pub yes_means : (calls : List Call) (answer : Result AuditYes AuditNo) → IsOpen calls → Ends calls answer → IfOk answer (λ _. HasOneImagePerGroup (carousel calls))
yes_means calls (Ok counts) undecided ends = one_image_per_group calls undecided ends.0
yes_means calls (Err fact) undecided ends = tt
