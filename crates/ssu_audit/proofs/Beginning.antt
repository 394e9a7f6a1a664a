-- An audit that has heard nothing, and the notices that are kept.
use Rattle.std.proofs.Common.{◌≡◌, ℕ, suc, ◌+◌, ◌<◌, get_or, drop, add-one, drop-cons, Bool, true, false, ◌||◌, List, [], ◌∷◌, ◌++◌, map, length, Option, Some, None, refl, sym, ap, ◌∙◌}
use Rattle.std.proofs.lemmas.Slice.Eq.{bytes_eq-Decides}
use Rattle.std.specs.HashMap.{HashMap, IsEmpty, hash_map_len}
use Rattle.std.specs.List.{list_any}
use Rattle.std.specs.Option.{is_some, option_map, option_or}
use Rattle.ssu_unt.specs.Table.{UntFields, unt}
use Rattle.wire.specs.Read.{Reads}
use Rattle.route_part.proofs.Steps.{first_said-none}
use Rattle.ssu_audit.specs.declared.kept.Kept.{Kept}
use Rattle.ssu_audit.specs.declared.key.BlockKey.{BlockKey}
use Rattle.ssu_audit.specs.Calls.{first_in_notice, numbered, says_in_notice}
use Rattle.ssu_audit.specs.Hearing.{IsOpen, keys_heard}
use Rattle.ssu_audit.specs.Kept.{block_at, dii_at, first_kept, has_bytes, kept_of}
use Rattle.ssu_audit.specs.Said.{block_with, dii_of_group, dsi_section, notice_with}
use Rattle.ssu_audit.specs.Standing.{Holds, message_of_dii, number_in}
use Rattle.ssu_audit.proofs.Steps.{first_none}

first_notice-none : (test : UntFields → Bool) → first_in_notice (notice_with test) [] ≡ None
unfolding first_in_notice numbered
first_notice-none test = first_said-none (says_in_notice (notice_with test))

pub first_kept-none : (test : UntFields → Bool) → first_kept test [] ≡ None
unfolding first_kept
first_kept-none test = refl

no_block : {S : Type 0} (m : HashMap BlockKey Kept S) (key : BlockKey) → m.entries ≡ [] → block_at m key ≡ None
no_block m key none = rw none refl

no_dii : {S : Type 0} (m : HashMap ℕ Kept S) (group : ℕ) → m.entries ≡ [] → dii_at m group ≡ None
no_dii m group none = rw none refl

no_key : {S : Type 0} (m : HashMap BlockKey Kept S) → m.entries ≡ [] → hash_map_len m ≡ keys_heard []
unfolding keys_heard
no_key m none = rw none refl

open-none : IsOpen []
unfolding IsOpen
open-none = tt

pub holds-none : {S T : Type 0} (diis : HashMap ℕ Kept S) (blocks : HashMap BlockKey Kept T) (notices : List Kept) → IsEmpty diis → IsEmpty blocks → notices ≡ []
    → Holds [] 0 None (dii_at diis) (block_at blocks) (hash_map_len blocks) (map kept_of notices)
holds-none diis blocks notices no_diis no_blocks no_notices = record {
  undecided = open-none;
  counted = refl;
  first = sym (first_none dsi_section);
  first_of = λ group. no_dii diis group no_diis ∙ ap (option_map message_of_dii) (sym (first_none (dii_of_group group)));
  first_with = λ key. no_block blocks key no_blocks ∙ sym (first_none (block_with key));
  different = no_key blocks no_blocks;
  notice = λ test. ap (λ (ks : List Kept). first_kept test (map kept_of ks)) no_notices ∙ first_kept-none test ∙ ap (option_map number_in) (sym (first_notice-none test));
}

-- ---- notices

abbrev own : ℕ → (UntFields → Bool) → List ℕ → Option ℕ
own number test section = option_map (λ (u : UntFields). number) (notice_with test section)

first_kept-step : (test : UntFields → Bool) (k : ℕ × List ℕ) (later : List (ℕ × List ℕ)) → first_kept test (k ∷ later) ≡ option_or (own k.0 test k.1) (first_kept test later)
unfolding first_kept
first_kept-step test k later = refl

or_assoc : (a b c : Option ℕ) → option_or a (option_or b c) ≡ option_or (option_or a b) c
or_assoc None b c = refl
or_assoc (Some x) b c = refl

or_none : (a : Option ℕ) → option_or a None ≡ a
or_none None = refl
or_none (Some x) = refl

-- one that is kept behind the others
pub kept-more : (test : UntFields → Bool) (ks : List (ℕ × List ℕ)) (k : ℕ × List ℕ) → first_kept test (ks ++ k ∷ []) ≡ option_or (first_kept test ks) (own k.0 test k.1)
kept-more test [] k =
    first_kept-step test k [] ∙ ap (option_or (own k.0 test k.1)) (first_kept-none test) ∙ or_none (own k.0 test k.1)
    ∙ ap (λ (o : Option ℕ). option_or o (own k.0 test k.1)) (sym (first_kept-none test))
kept-more test (x ∷ ks) k =
    first_kept-step test x (ks ++ k ∷ [])
    ∙ ap (option_or (own x.0 test x.1)) (kept-more test ks k)
    ∙ or_assoc (own x.0 test x.1) (first_kept test ks) (own k.0 test k.1)
    ∙ ap (λ (o : Option ℕ). option_or o (own k.0 test k.1)) (sym (first_kept-step test x ks))

-- A section that no reader takes for a notice changes nothing.
pub kept-silent : (test : UntFields → Bool) (ks : List (ℕ × List ℕ)) (number : ℕ) (section : List ℕ) → notice_with test section ≡ None
    → first_kept test ks ≡ option_or (first_kept test ks) (own number test section)
kept-silent test ks number section none = sym (ap (λ (o : Option UntFields). option_or (first_kept test ks) (option_map (λ (u : UntFields). number) o)) none ∙ or_none (first_kept test ks))

-- Nor does one that is kept.
pub kept-again : (test : UntFields → Bool) (ks : List Kept) (number : ℕ) (section : List ℕ) → list_any (has_bytes section) ks ≡ true
    → first_kept test (map kept_of ks) ≡ option_or (first_kept test (map kept_of ks)) (own number test section)
kept-again test [] number section any = cc
kept-again test (k ∷ ks) number section any =
    first_kept-step test (kept_of k) (map kept_of ks)
    ∙ by_test (has_bytes section k) refl any (kept-again test ks number section)
    ∙ ap (λ (o : Option ℕ). option_or o (own number test section)) (sym (first_kept-step test (kept_of k) (map kept_of ks)))
  where
    again : (o : Option UntFields) (a : Option ℕ) → option_or (option_map (λ (u : UntFields). k.number) o) a ≡ option_or (option_or (option_map (λ (u : UntFields). k.number) o) a) (option_map (λ (u : UntFields). number) o)
    again None a = sym (or_none a)
    again (Some u) a = refl

    by_test : (same : Bool) → has_bytes section k ≡ same → (same || list_any (has_bytes section) ks) ≡ true
        → (list_any (has_bytes section) ks ≡ true → first_kept test (map kept_of ks) ≡ option_or (first_kept test (map kept_of ks)) (own number test section))
        → option_or (own k.number test k.bytes.items) (first_kept test (map kept_of ks))
        ≡ option_or (option_or (own k.number test k.bytes.items) (first_kept test (map kept_of ks))) (own number test section)
    by_test true e any more =
        let is : k.bytes.items ≡ section = (bytes_eq-Decides k.bytes.items section).0 e in
        again (notice_with test k.bytes.items) (first_kept test (map kept_of ks))
        ∙ ap (λ (s : List ℕ). option_or (option_or (own k.number test k.bytes.items) (first_kept test (map kept_of ks))) (own number test s)) is
    by_test false e any more =
        ap (option_or (own k.number test k.bytes.items)) (more any)
        ∙ or_assoc (own k.number test k.bytes.items) (first_kept test (map kept_of ks)) (own number test section)

pub notice-none : (test : UntFields → Bool) (section : List ℕ) → unt.of section ≡ None → notice_with test section ≡ None
unfolding notice_with
notice-none test section none = rw none refl

pub reads-none : {X Y : Type 0} (view : X → Y) (r : Option X) (read : Option Y) → Reads view r read → is_some r ≡ false → read ≡ None
reads-none view None read e is = e
reads-none view (Some x) read e is = cc

map-push : (ks : List Kept) (k : Kept) → map kept_of (ks ++ k ∷ []) ≡ map kept_of ks ++ kept_of k ∷ []
map-push [] k = refl
map-push (x ∷ ks) k = ap (λ (rest : List (ℕ × List ℕ)). kept_of x ∷ rest) (map-push ks k)

-- what is kept once this is pushed
pub kept-pushed : (test : UntFields → Bool) (ks now : List Kept) (k : Kept) (number : ℕ) (section : List ℕ) → now ≡ ks ++ k ∷ [] → kept_of k ≡ (number, section)
    → first_kept test (map kept_of now) ≡ option_or (first_kept test (map kept_of ks)) (own number test section)
kept-pushed test ks now k number section pushed is =
    ap (λ (xs : List Kept). first_kept test (map kept_of xs)) pushed
    ∙ ap (first_kept test) (map-push ks k)
    ∙ kept-more test (map kept_of ks) (kept_of k)
    ∙ ap (λ (x : ℕ × List ℕ). option_or (first_kept test (map kept_of ks)) (own x.0 test x.1)) is

-- ---- the notices that are kept, one after the other

kept-drop : (ks : List Kept) (i : ℕ) (k : Kept) → i < length ks → k ≡ get_or ks i k → drop i ks ≡ k ∷ drop (i + 1) ks
kept-drop ks i k lt is = rw (add-one, drop-cons ks i k) (ap (λ (x : Kept). x ∷ drop (suc i) ks) (sym is))

pub kept-dropped : (test : UntFields → Bool) (ks : List Kept) (i : ℕ) (k : Kept) → i < length ks → k ≡ get_or ks i k
    → first_kept test (map kept_of (drop i ks)) ≡ first_kept test (map kept_of (k ∷ drop (i + 1) ks))
kept-dropped test ks i k lt is = ap (λ (xs : List Kept). first_kept test (map kept_of xs)) (kept-drop ks i k lt is)

pub kept-first : (test : UntFields → Bool) (k : Kept) (later : List Kept) → is_some (notice_with test k.bytes.items) ≡ true
    → first_kept test (map kept_of (k ∷ later)) ≡ Some k.number
kept-first test k later passes = first_kept-step test (kept_of k) (map kept_of later) ∙ by_notice (notice_with test k.bytes.items) passes
  where
    by_notice : (o : Option UntFields) → is_some o ≡ true → option_or (option_map (λ (u : UntFields). k.number) o) (first_kept test (map kept_of later)) ≡ Some k.number
    by_notice None e = cc
    by_notice (Some u) e = refl

pub kept-passed : (test : UntFields → Bool) (k : Kept) (later : List Kept) → is_some (notice_with test k.bytes.items) ≡ false
    → first_kept test (map kept_of (k ∷ later)) ≡ first_kept test (map kept_of later)
kept-passed test k later fails = first_kept-step test (kept_of k) (map kept_of later) ∙ by_notice (notice_with test k.bytes.items) fails
  where
    by_notice : (o : Option UntFields) → is_some o ≡ false → option_or (option_map (λ (u : UntFields). k.number) o) (first_kept test (map kept_of later)) ≡ first_kept test (map kept_of later)
    by_notice None e = refl
    by_notice (Some u) e = cc
