-- Walking over the items of a row, as a loop does.
use Rattle.std.proofs.Common.{◌≡◌, ℕ, zero, suc, ◌+◌, ◌-◌, ◌<◌, ◌≤◌, true, false, eqb, List, [], ◌∷◌, ◌++◌, length, take, drop, Option, Some, None, refl, sym, ap, ◌∙◌, append_assoc, arith}
use Rattle.std.proofs.lemmas.Bool.{eqb-true}
use Rattle.std.proofs.lemmas.List.{length-append, append-nil, nil_from_length, take_at, drop_at}
use Rattle.wire.specs.Format.{Front, Whole, ◌>>=◌, SpellsEach, IsPair, items_at, items_within}
use Rattle.wire.specs.Format as fm
use Rattle.wire.specs.Exact.{IsFront}
use Rattle.wire.proofs.Laws.{TakesItems, to_end_exact}
use Rattle.wire.specs.Items.{items_of}
use Rattle.wire.proofs.ItemLaws.{items_next, items_spelled, shorter, each_push}

abbrev some : {A : Type 0} → A → Option A
some x = Some x

same_pair : {A : Type 0} (u v : A × List ℕ) → some u ≡ some v → u.1 ≡ v.1
same_pair {A} u v e = let k : u ≡ v = cc in ap (λ (z : A × List ℕ). z.1) k

-- ---- to the end

-- one item, and then those behind it
to_end_next : {A : Type 0} (f : Front A) → IsFront f → (bs : List ℕ) (x : A) (behind : List ℕ) → f.at bs ≡ Some (x, behind) → (o p : Option (List A))
    → (fm.to_end f).of behind ≡ o → (fm.to_end f).of bs ≡ p → p ≡ (o >>= λ xs. Some (x ∷ xs))
to_end_next {A} f h bs x behind e (Some ys) p eo ep =
    let exact = to_end_exact h in
    let t = h.takes bs (x, behind) e in
    let all = exact.again (x ∷ ys) bs (record { front = t.text; back = behind; parts = t.parts; first = t.spelled; second = exact.takes behind ys eo }) in
    sym ep ∙ all
to_end_next {A} f h bs x behind e None None eo ep = refl
to_end_next {A} f h bs x behind e None (Some []) eo ep =
    let exact = to_end_exact h in
    let l = shorter f h bs (x, behind) e in
    let none : bs ≡ [] = exact.takes bs [] ep in
    let len : length bs ≡ 0 = ap (λ (u : List ℕ). length u) none in
    absurd (omega arith)
to_end_next {A} f h bs x behind e None (Some (z ∷ zs)) eo ep =
    let exact = to_end_exact h in
    let s = exact.takes bs (z ∷ zs) ep in
    let first : f.at bs ≡ Some (z, s.back) = ap f.at s.parts ∙ h.again z s.front s.back s.first in
    let back : behind ≡ s.back = same_pair (x, behind) (z, s.back) (sym e ∙ first) in
    let others : (fm.to_end f).of behind ≡ Some zs = rw back (exact.again zs s.back s.second) in
    absurd (let k : some zs ≡ None = sym others ∙ eo in cc)

-- what was seen in front of the rest
pub record IsWalked {A : Type 0} (f : Front A) (bytes rest : List ℕ) : Type 0 where
  pub seen : List A
  pub whole : (fm.to_end f).of bytes ≡ ((fm.to_end f).of rest >>= λ xs. Some (seen ++ xs))
  pub listed : items_of f bytes ≡ seen ++ items_of f rest

nothing_in_front : {A : Type 0} (o : Option (List A)) → o ≡ (o >>= λ xs. Some ([] ++ xs))
nothing_in_front None = refl
nothing_in_front (Some xs) = refl

one_in_front : {A : Type 0} (o : Option (List A)) (seen : List A) (x : A) → ((o >>= λ xs. Some (x ∷ xs)) >>= λ xs. Some (seen ++ xs)) ≡ (o >>= λ xs. Some ((seen ++ x ∷ []) ++ xs))
one_in_front None seen x = refl
one_in_front (Some xs) seen x = ap (λ (ys : List _). some ys) (sym (append_assoc seen (x ∷ []) xs))

pub walk_start : {A : Type 0} (f : Front A) (bytes : List ℕ) → IsWalked f bytes bytes
walk_start f bytes = record { seen = []; whole = nothing_in_front ((fm.to_end f).of bytes); listed = refl }

pub walk_next : {A : Type 0} (f : Front A) → IsFront f → (bytes rest : List ℕ) (x : A) (behind : List ℕ) → f.at rest ≡ Some (x, behind) → IsWalked f bytes rest → IsWalked f bytes behind
walk_next {A} f h bytes rest x behind e w =
    let next : (fm.to_end f).of rest ≡ ((fm.to_end f).of behind >>= λ xs. Some (x ∷ xs)) = to_end_next f h rest x behind e ((fm.to_end f).of behind) ((fm.to_end f).of rest) refl refl in
    record {
      seen = w.seen ++ x ∷ [];
      whole = w.whole ∙ ap (λ (o : Option (List A)). o >>= λ xs. Some (w.seen ++ xs)) next ∙ one_in_front ((fm.to_end f).of behind) w.seen x;
      listed = w.listed ∙ ap (λ (xs : List A). w.seen ++ xs) (items_next f h rest x behind e) ∙ sym (append_assoc w.seen (x ∷ []) (items_of f behind));
    }

pub walk_end : {A : Type 0} (f : Front A) (bytes rest : List ℕ) → IsFront f → eqb (length rest) 0 ≡ true → IsWalked f bytes rest → (fm.to_end f).of bytes ≡ Some (items_of f bytes)
walk_end {A} f bytes rest h e w =
    let none : rest ≡ [] = nil_from_length rest (eqb-true _ _ e) in
    let left : items_of f rest ≡ [] = items_spelled f h [] rest none in
    let last : (fm.to_end f).of rest ≡ Some [] = (to_end_exact h).again [] rest none in
    rw (w.whole, last, w.listed, left) refl

pub walk_breaks : {A : Type 0} (f : Front A) (bytes rest : List ℕ) → IsFront f → eqb (length rest) 0 ≡ false → f.at rest ≡ None → IsWalked f bytes rest → (fm.to_end f).of bytes ≡ None
walk_breaks {A} f bytes rest h l e w = rw (w.whole, fails f (length rest) rest l e) refl
  where
    fails : {A : Type 0} (f : Front A) (most : ℕ) (rest : List ℕ) → eqb (length rest) 0 ≡ false → f.at rest ≡ None → items_within f.at most rest ≡ None
    fails f zero [] l e = absurd cc
    fails f (suc n) [] l e = absurd cc
    fails f zero (b ∷ bs) l e = refl
    fails f (suc n) (b ∷ bs) l e = rw e refl

-- ---- a count of items

abbrev pub behind_seen : {A : Type 0} → List A → List A × List ℕ → Option (List A × List ℕ)
behind_seen seen z = Some (seen ++ z.0, z.1)

abbrev pub one_before : {A : Type 0} → A → List A × List ℕ → Option (List A × List ℕ)
one_before x z = Some (x ∷ z.0, z.1)

-- what was counted in front of the rest
pub record IsCounted {A : Type 0} (f : Front A) (count done : ℕ) (bytes rest : List ℕ) : Type 0 where
  pub seen : List A
  pub taken : TakesItems f.Spells done bytes seen rest
  pub whole : items_at f.at count bytes ≡ (items_at f.at (count - done) rest >>= behind_seen seen)

no_count_in_front : {A : Type 0} (o : Option (List A × List ℕ)) → o ≡ (o >>= behind_seen [])
no_count_in_front None = refl
no_count_in_front (Some z) = refl

one_count_in_front : {A : Type 0} (o : Option (List A × List ℕ)) (seen : List A) (x : A)
    → ((o >>= one_before x) >>= behind_seen seen) ≡ (o >>= behind_seen (seen ++ x ∷ []))
one_count_in_front None seen x = refl
one_count_in_front (Some z) seen x = ap (λ (ys : List _). some (ys, z.1)) (sym (append_assoc seen (x ∷ []) z.0))

pub count_start : {A : Type 0} (f : Front A) (count : ℕ) (bytes : List ℕ) → IsCounted f count 0 bytes bytes
count_start f count bytes = record {
  seen = [];
  taken = record { count = refl; taken = record { text = []; parts = refl; spelled = refl } };
  whole = rw (let k : count - 0 ≡ count = omega arith in k) (no_count_in_front (items_at f.at count bytes));
}

pub count_next : {A : Type 0} (f : Front A) → IsFront f → (count done : ℕ) (bytes rest : List ℕ) (x : A) (behind : List ℕ) → done < count → f.at rest ≡ Some (x, behind) → IsCounted f count done bytes rest
    → IsCounted f count (done + 1) bytes behind
count_next {A} f h count done bytes rest x behind l e w =
    let t = h.takes rest (x, behind) e in
    let s = w.taken.taken in
    let k : count - done ≡ suc (count - (done + 1)) = omega arith in
    let step : items_at f.at (count - done) rest ≡ (items_at f.at (count - (done + 1)) behind >>= one_before x) = rw (k, e) refl in
    record {
      seen = w.seen ++ x ∷ [];
      taken = record {
        count = omega (arith, length-append w.seen (x ∷ []), w.taken.count);
        taken = record {
          text = s.text ++ t.text;
          parts = s.parts ∙ ap (λ (u : List ℕ). s.text ++ u) t.parts ∙ sym (append_assoc s.text t.text behind);
          spelled = each_push f.Spells w.seen s.text x t.text s.spelled t.spelled;
        };
      };
      whole = w.whole ∙ ap (λ (o : Option (List A × List ℕ)). o >>= behind_seen w.seen) step ∙ one_count_in_front (items_at f.at (count - (done + 1)) behind) w.seen x;
    }

pub count_breaks : {A : Type 0} (f : Front A) (count done : ℕ) (bytes rest : List ℕ) → done < count → f.at rest ≡ None → IsCounted f count done bytes rest → items_at f.at count bytes ≡ None
count_breaks f count done bytes rest l e w =
    let k : count - done ≡ suc (count - (done + 1)) = omega arith in
    rw (w.whole, k, e) refl

-- the rest is not longer than the bytes
pub count_rest : {A : Type 0} (f : Front A) (count done : ℕ) (bytes rest : List ℕ) → IsCounted f count done bytes rest → length rest ≤ length bytes
count_rest f count done bytes rest w =
    let s = w.taken.taken in
    let len : length bytes ≡ length s.text + length rest = ap (λ (u : List ℕ). length u) s.parts ∙ length-append s.text rest in
    omega arith

pub count_end : {A : Type 0} (f : Front A) → IsFront f → (count done : ℕ) (bytes rest : List ℕ) → count ≤ done → IsCounted f count done bytes rest
    → items_at f.at count bytes ≡ Some (items_of f (take (length bytes - length rest) bytes), drop (length bytes - length rest) bytes)
count_end {A} f h count done bytes rest le w =
    let s = w.taken.taken in
    let len : length bytes ≡ length s.text + length rest = ap (λ (u : List ℕ). length u) s.parts ∙ length-append s.text rest in
    let n : length s.text ≡ length bytes - length rest = omega arith in
    let front : take (length bytes - length rest) bytes ≡ s.text = ap (λ (u : List ℕ). take (length bytes - length rest) u) s.parts ∙ take_at s.text rest (length bytes - length rest) n in
    let back : drop (length bytes - length rest) bytes ≡ rest = ap (λ (u : List ℕ). drop (length bytes - length rest) u) s.parts ∙ drop_at s.text rest (length bytes - length rest) n in
    let k : count - done ≡ 0 = omega arith in
    let all : items_at f.at count bytes ≡ Some (w.seen ++ [], rest) = rw (w.whole, k) refl in
    all ∙ rw (front, back, items_spelled f h w.seen s.text s.spelled, append-nil w.seen) refl
