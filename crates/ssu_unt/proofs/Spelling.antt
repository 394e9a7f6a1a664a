-- What is written is a spelling.
use Rattle.std.proofs.Common.{◌≡◌, ℕ, ◌+◌, ◌*◌, ◌/◌, ◌<◌, ◌^◌, Bool, true, false, List, [], ◌∷◌, ◌++◌, length, Some, refl, sym, ap, subst, ◌∙◌, append_assoc, arith}
use Rattle.std.specs.Prelude.{Result, Ok, Err, OnOk, IfOk}
use Rattle.section_form.specs.Long.{LongFields, long_form}
use Rattle.si_desc.specs.Descriptors.{IsRow}
use Rattle.si_desc.specs.Written.{row_bytes}
use Rattle.si_desc.proofs.RowLaws.{row_put}
use Rattle.ssu_compat.specs.Compat.{EntryFields, compat}
use Rattle.wire.specs.Format.{SpellsEach, to_end}
use Rattle.wire.specs.Items.{items_of}
use Rattle.wire.proofs.ItemLaws.{each_push, items_spelled}
use Rattle.wire.proofs.Laws.{pair_put, sized_put, to_end_exact}
use Rattle.wire.specs.Number.{bytes_of}
use Rattle.wire.proofs.Numbers.{number1_put, number2_put, number3_put}
use Rattle.ssu_unt.specs.Exact.{pair_is_exact}
use Rattle.ssu_unt.specs.Table.{PairFields, PlatformFields, body, pair, platform, unt}
use Rattle.ssu_unt.specs.Written.{Draft, HasPlatforms, IsDraftOf, body_bytes, head_bytes, head_of, last_bytes, new_draft, no_pairs, oui_hash, pair_bytes, unt_of, with_last, with_one, with_pair, with_platform}

pair_of_rows : (target operational : List ℕ) → IsRow target → IsRow operational → length target < 2 ^ 12 → length operational < 2 ^ 12
    → pair.Spells (record { target = target; operational = operational }) (pair_bytes target operational)
unfolding pair
pair_of_rows target operational t o a b = (
  (target, operational),
  refl,
  pair_put (row_bytes target) (row_bytes operational) (row_put target t a) (row_put operational o b),
)

platform_put : (entries : List EntryFields) (compat_bytes : List ℕ) (pairs : List PairFields) (bytes : List ℕ) → compat.Spells entries compat_bytes → SpellsEach pair.Spells pairs bytes → length bytes < 2 ^ 16
    → platform.Spells (record { compat = entries; pairs = pairs; platform_loop = bytes }) (compat_bytes ++ (bytes_of 2 (length bytes) ++ bytes))
unfolding platform
platform_put entries compat_bytes pairs bytes c p short = (
  (entries, (pairs, bytes)),
  refl,
  pair_put compat_bytes _ c (sized_put (bytes_of 2 (length bytes)) bytes (number2_put (length bytes) short) (p, refl)),
)

-- the bytes of some platforms
pub record Platforms (platforms : List PlatformFields) (bytes : List ℕ) : Type 0 where
  pub spelled : SpellsEach platform.Spells platforms bytes

body_put : (oui : ℕ) (common : List ℕ) (platforms : List PlatformFields) (bytes : List ℕ) → oui < 2 ^ 24 → IsRow common → length common < 2 ^ 12 → SpellsEach platform.Spells platforms bytes
    → body.Spells (oui, (0, (common, platforms))) (head_bytes oui common ++ bytes)
unfolding body
body_put oui common platforms bytes o c short p =
    pair_put (bytes_of 3 oui) _ (number3_put oui o) (
    pair_put (bytes_of 1 0) _ (number1_put 0 (omega arith)) (
    pair_put (row_bytes common) bytes (row_put common c short) p))

-- the bytes behind the head, and the platforms that they spell
pub record Written (w : Draft) (common : List ℕ) (platforms : List PlatformFields) : Type 0 where
  pub bytes : List ℕ
  pub parts : body_bytes w ≡ head_bytes w.oui common ++ bytes
  pub spelled : SpellsEach platform.Spells platforms bytes

written_some : (w : Draft) (common : List ℕ) (platforms : List PlatformFields) → w.begun ≡ true → HasPlatforms w common platforms → length w.pairs < 2 ^ 16 → Written w common platforms
written_some w common platforms b h short =
    let last = bytes_of 2 (length w.pairs) ++ w.pairs in
    let own = h.compat_bytes ++ last in
    let lasts : last_bytes w ≡ last = rw b refl in
    record {
      bytes = h.earlier_bytes ++ own;
      parts = ap (λ (l : List ℕ). w.front ++ l) lasts ∙ ap (λ (f : List ℕ). f ++ last) h.front
          ∙ append_assoc (head_bytes w.oui common) (h.earlier_bytes ++ h.compat_bytes) last
          ∙ ap (λ (l : List ℕ). head_bytes w.oui common ++ l) (append_assoc h.earlier_bytes h.compat_bytes last);
      spelled = rw h.all (each_push platform.Spells h.earlier h.earlier_bytes _ own h.spelled (platform_put h.entries h.compat_bytes h.pairs w.pairs h.compat_spelled h.pairs_spelled short));
    }

written_none : (w : Draft) (common : List ℕ) (platforms : List PlatformFields) → w.begun ≡ false → (w.front ≡ head_bytes w.oui common) × (platforms ≡ []) → Written w common platforms
written_none w common platforms b h =
    let lasts : last_bytes w ≡ [] = rw b refl in
    record {
      bytes = [];
      parts = ap (λ (l : List ℕ). w.front ++ l) lasts ∙ ap (λ (f : List ℕ). f ++ []) h.0;
      spelled = rw h.1 refl;
    }

pub written : (w : Draft) (common : List ℕ) (platforms : List PlatformFields) → IsDraftOf w common platforms → length w.pairs < 2 ^ 16 → Written w common platforms
written w common platforms h short = by_begun w.begun refl
  where
    by_begun : (b : Bool) → w.begun ≡ b → Written w common platforms
    by_begun true e = written_some w common platforms e (h.some e) short
    by_begun false e = written_none w common platforms e (h.none e)

-- ---- what each call leaves

draft_new : (oui version : ℕ) (common : List ℕ) → IsRow common → length common < 2 ^ 12 → IsDraftOf (new_draft oui version common) common []
draft_new oui version common row short = record { row = row; short = short; none = λ _. (refl, refl); some = λ e. absurd cc }

-- a platform that begins closes the one before
pub draft_platform : (w : Draft) (common : List ℕ) (platforms : List PlatformFields) (entries : List EntryFields) (compat_bytes : List ℕ)
    → IsDraftOf w common platforms → length w.pairs < 2 ^ 16 → compat.Spells entries compat_bytes
    → IsDraftOf (with_platform compat_bytes w) common (platforms ++ no_pairs entries ∷ [])
draft_platform w common platforms entries compat_bytes h short c =
    let before = written w common platforms h short in
    record {
      row = h.row;
      short = h.short;
      none = λ e. absurd cc;
      some = λ _. record {
        earlier = platforms;
        entries = entries;
        earlier_bytes = before.bytes;
        compat_bytes = compat_bytes;
        pairs = [];
        front = ap (λ (l : List ℕ). l ++ compat_bytes) before.parts ∙ append_assoc (head_bytes w.oui common) before.bytes compat_bytes;
        all = refl;
        spelled = before.spelled;
        compat_spelled = c;
        pairs_spelled = refl;
      };
    }

with_last-append : (x : PairFields) (ps : List PlatformFields) (p : PlatformFields) → with_last x (ps ++ p ∷ []) ≡ ps ++ with_one x p ∷ []
with_last-append x [] p = refl
with_last-append x (q ∷ []) p = refl
with_last-append x (q ∷ r ∷ ps) p = ap (λ (l : List PlatformFields). q ∷ l) (with_last-append x (r ∷ ps) p)

abbrev pair_of : List ℕ → List ℕ → PairFields
pair_of target operational = record { target = target; operational = operational }

pub draft_pair : (w : Draft) (common : List ℕ) (platforms : List PlatformFields) (target operational : List ℕ)
    → IsDraftOf w common platforms → w.begun ≡ true → IsRow target → IsRow operational → length target < 2 ^ 12 → length operational < 2 ^ 12
    → IsDraftOf (with_pair target operational w) common (with_last (pair_of target operational) platforms)
draft_pair w common platforms target operational h begun t o a b =
    let was = h.some begun in
    record {
      row = h.row;
      short = h.short;
      none = λ e. absurd cc;
      some = λ _. record {
        earlier = was.earlier;
        entries = was.entries;
        earlier_bytes = was.earlier_bytes;
        compat_bytes = was.compat_bytes;
        pairs = was.pairs ++ pair_of target operational ∷ [];
        front = was.front;
        all = ap (with_last (pair_of target operational)) was.all ∙ with_last-append (pair_of target operational) was.earlier _;
        spelled = was.spelled;
        compat_spelled = was.compat_spelled;
        pairs_spelled = each_push pair.Spells was.pairs w.pairs _ (pair_bytes target operational) was.pairs_spelled (pair_of_rows target operational t o a b);
      };
    }

-- the section of a table is read back as its fields
pub unt_written : (w : Draft) (common : List ℕ) (platforms : List PlatformFields) (section : List ℕ)
    → w.oui < 2 ^ 24 → oui_hash w.oui < 256 → length w.pairs < 2 ^ 16 → IsDraftOf w common platforms
    → long_form.Spells (head_of w) section → unt.Spells (unt_of w.oui common platforms) section
unfolding unt
unt_written w common platforms section o hash few h long =
    let is = written w common platforms h few in
    let inside = body_put w.oui common platforms is.bytes o h.row h.short is.spelled in (
      (head_of w, (w.oui, (0, (common, platforms)))),
      ap (λ (n : ℕ). record (unt_of w.oui common platforms) { action = n }) (one (oui_hash w.oui) hash),
      ((refl, long), subst (λ (l : List ℕ). body.Spells (w.oui, (0, (common, platforms))) l) (sym is.parts) inside),
    )
  where
    one : (n : ℕ) → n < 256 → (1 * 256 + n) / 256 ≡ 1
    one n h = omega arith

pub added_pair : {E : Type 0} (result : Result (Unit {0}) E) (old new : Draft) (common : List ℕ) (platforms : List PlatformFields) (target operational : List ℕ)
    → IsDraftOf old common platforms → old.begun ≡ true → IsRow target → IsRow operational
    → OnOk result ((length target < 2 ^ 12) × (length operational < 2 ^ 12)) → OnOk result (new ≡ with_pair target operational old)
    → OnOk result (IsDraftOf new common (with_last (pair_of target operational) platforms))
added_pair (Err e) old new common platforms target operational h b t o short is = tt
added_pair (Ok x) old new common platforms target operational h b t o short is =
    subst (λ (w : Draft). IsDraftOf w common (with_last (pair_of target operational) platforms)) (sym is) (draft_pair old common platforms target operational h b t o short.0 short.1)

pub head_is : (w : Draft) (oui hash version : ℕ) (text : List ℕ) (head : LongFields) → w.oui ≡ oui → w.version ≡ version → hash ≡ oui_hash oui → text ≡ body_bytes w
    → head ≡ record { table = 0x4B; extension = 256 + hash; version = version; number = 0; last = 0; body = text } → head ≡ head_of w
head_is w oui hash version text head o v h t e = e ∙ (rw (h, ← o, ← v, t) refl)

-- a fact holds also where the call answered Ok
pub always : {T E P : Type 0} (result : Result T E) → P → OnOk result P
always (Ok x) p = p
always (Err e) p = tt

pub began : {E : Type 0} (result : Result (Unit {0}) E) (old new : Draft) (common : List ℕ) (platforms : List PlatformFields) (entries : List EntryFields) (bytes : List ℕ)
    → IsDraftOf old common platforms → compat.Spells entries bytes
    → OnOk result (length old.pairs < 2 ^ 16) → OnOk result (new ≡ with_platform bytes old)
    → OnOk result (IsDraftOf new common (platforms ++ no_pairs entries ∷ []))
began (Err e) old new common platforms entries bytes h c short is = tt
began (Ok x) old new common platforms entries bytes h c short is =
    subst (λ (w : Draft). IsDraftOf w common (platforms ++ no_pairs entries ∷ [])) (sym is) (draft_platform old common platforms entries bytes h short c)

pub made : {E : Type 0} (result : Result Draft E) (oui version : ℕ) (common : List ℕ) → IsRow common
    → OnOk result (length common < 2 ^ 12) → IfOk result (λ w. w ≡ new_draft oui version common) → IfOk result (λ w. IsDraftOf w common [])
made (Err e) oui version common is_row short is = tt
made (Ok w) oui version common is_row short is = subst (λ (v : Draft). IsDraftOf v common []) (sym is) (draft_new oui version common is_row short)

-- Bytes that were read as pairs have these pairs.
pub pairs_read : (bytes : List ℕ) (pairs : List PairFields) → (to_end pair).of bytes ≡ Some pairs → items_of pair bytes ≡ pairs
pairs_read bytes pairs e = items_spelled pair pair_is_exact pairs bytes ((to_end_exact pair_is_exact).takes bytes pairs e)
