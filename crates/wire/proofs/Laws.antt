-- The laws of the combinators: each reads what is spelled so, and nothing else.
use Rattle.std.proofs.Common.{◌≡◌, ℕ, zero, suc, ◌+◌, ◌-◌, ◌<◌, ◌≤◌, Bool, true, false, cond, eqb, ltb, List, []}
use Rattle.std.proofs.Common.{◌∷◌, ◌++◌, length, take, drop, Option, Some, None, refl, sym, ap, subst, ◌∙◌}
use Rattle.std.proofs.Common.{append_assoc, arith}
use Rattle.std.specs.Prelude.{IsTrue, IfSome}
use Rattle.std.specs.Option.{option_map}
use Rattle.std.proofs.lemmas.Bool.{ltb-false, ltb-true, le-ltb, eqb-true, eq-eqb}
use Rattle.std.proofs.lemmas.List.{take_at, drop_at, take-append-drop, length-append, length-drop, length-take-le, append-nil, nil_from_length}
use Rattle.wire.specs.Format.{Front, Whole, ◌>>=◌, ◌&◌, ◌with◌, ◌then◌, IsPair, IsSized, SpellsEach, items_at, items_within, none_or, SpellsNoneOr}
use Rattle.wire.specs.Format as fm
use Rattle.wire.specs.Read.{Reads}
use Rattle.wire.specs.Exact.{Takes, IsFront, IsWhole, IsPrefixFree}

-- one text and then another; a length and what stands inside it
pub pair_put : {F S : List ℕ → Type 0} (a b : List ℕ) → F a → S b → IsPair F S (a ++ b)
pair_put a b f s = record { front = a; back = b; parts = refl; first = f; second = s }

pub sized_put : {L : ℕ → List ℕ → Type 0} {I : List ℕ → Type 0} (a b : List ℕ) → L (length b) a → I b → IsSized L I (a ++ b)
sized_put a b l i = record { front = a; inside = b; parts = refl; len = l; filled = i }

-- the value of a step that did not fail
pub bind_some : {A B : Type 0} (o : Option A) (f : A → Option B) (y : B) → (o >>= f) ≡ Some y → (x : A) × (o ≡ Some x) × (f x ≡ Some y)
bind_some (Some x) f y e = (x, refl, e)
bind_some None f y e = absurd cc

-- a test that did not fail
pub passed : {A : Type 0} (b : Bool) (o : Option A) (y : A) → cond b o None ≡ Some y → (b ≡ true) × (o ≡ Some y)
passed true o y e = (refl, e)
passed false o y e = absurd cc

pub not_short : {A : Type 0} (b : Bool) (o : Option A) (y : A) → cond b None o ≡ Some y → (b ≡ false) × (o ≡ Some y)
not_short true o y e = absurd cc
not_short false o y e = (refl, e)

abbrev pub some : {A : Type 0} → A → Option A
some x = Some x

same : {A : Type 0} (x y : A) → some x ≡ some y → x ≡ y
same x y e = cc

pub word_exact : {A : Type 0} (k : ℕ) (to : List ℕ → A) → IsTrue (ltb 0 k) → IsFront (fm.word k to)
word_exact {A} k to positive = record {
  takes = λ bs x e.
      let n = not_short (ltb (length bs) k) (some (to (take k bs), drop k bs)) x e in
      let long : k ≤ length bs = ltb-false _ _ n.0 in
      subst (λ (y : A × List ℕ). Takes ((fm.word k to).Spells y.0) bs y.1) (same (to (take k bs), drop k bs) x n.1)
      (record { text = take k bs; parts = sym (take-append-drop k bs); spelled = (length-take-le k bs long, refl) });
  again = λ x p more s.
      let long : ltb (length (p ++ more)) k ≡ false = le-ltb _ _ (omega (arith, length-append p more, s.0)) in
      rw (long, take_at p more k s.0, drop_at p more k s.0, s.1) refl;
  filled = λ x p s. let pos : 0 < k = ltb-true _ _ positive in omega (arith, s.0);
}

pub reads_exact : {A B : Type 0} (g : A → B) {f : Front A} → IsFront f → IsFront (fm.reads g f)
reads_exact {A} {B} g {f} h = record {
  takes = λ bs y e.
      let x = bind_some (f.at bs) (λ x. Some (g x.0, x.1)) y e in
      let t = h.takes bs x.0 x.1 in
      subst (λ (z : B × List ℕ). Takes ((fm.reads g f).Spells z.0) bs z.1) (same (g x.0.0, x.0.1) y x.2)
      (record { text = t.text; parts = t.parts; spelled = (x.0.0, refl, t.spelled) });
  again = λ y p more s. rw (h.again s.0 p more s.2, s.1) refl;
  filled = λ y p s. h.filled s.0 p s.2;
}

pub fixed_exact : {f : Front ℕ} (n : ℕ) → IsFront f → IsFront (fm.fixed f n)
fixed_exact {f} n h = record {
  takes = λ bs y e.
      let x = bind_some (f.at bs) (λ x. cond (eqb x.0 n) (Some (tt, x.1)) None) y e in
      let g = passed (eqb x.0.0 n) (some (tt, x.0.1)) y x.2 in
      let t = h.takes bs x.0 x.1 in
      let is : x.0.0 ≡ n = eqb-true _ _ g.0 in
      subst (λ (z : Unit {0} × List ℕ). Takes ((fm.fixed f n).Spells z.0) bs z.1) (same (tt, x.0.1) y g.1)
      (record { text = t.text; parts = t.parts; spelled = subst (λ (m : ℕ). f.Spells m t.text) is t.spelled });
  again = λ y p more s. rw (h.again n p more s, eq-eqb n n refl) refl;
  filled = λ y p s. h.filled n p s;
}

pub such_exact : {A : Type 0} (test : A → Bool) {f : Front A} → IsFront f → IsFront (fm.such test f)
such_exact {A} test {f} h = record {
  takes = λ bs y e.
      let x = bind_some (f.at bs) (λ x. cond (test x.0) (Some x) None) y e in
      let g = passed (test x.0.0) (some x.0) y x.2 in
      let t = h.takes bs x.0 x.1 in
      subst (λ (z : A × List ℕ). Takes ((fm.such test f).Spells z.0) bs z.1) (same x.0 y g.1)
      (record { text = t.text; parts = t.parts; spelled = (g.0, t.spelled) });
  again = λ x p more s. rw (h.again x p more s.1, s.0) refl;
  filled = λ x p s. h.filled x p s.1;
}

-- two texts taken one after the other are one text
joined : (S T : List ℕ → Type 0) (a b c : List ℕ) → Takes S a b → Takes T b c → Takes (IsPair S T) a c
joined S T a b c s t = record {
  text = s.text ++ t.text;
  parts = s.parts ∙ ap (λ (u : List ℕ). s.text ++ u) t.parts ∙ sym (append_assoc s.text t.text c);
  spelled = record { front = s.text; back = t.text; parts = refl; first = s.spelled; second = t.spelled };
}

longer : (p a b : List ℕ) → p ≡ a ++ b → 0 < length a → 0 < length p
longer p a b e l = rw e (omega (arith, length-append a b))

regroup : (p a b more : List ℕ) → p ≡ a ++ b → p ++ more ≡ a ++ (b ++ more)
regroup p a b more e = rw e (append_assoc a b more)

pub with_exact : {A B : Type 0} {f : Front A} {g : A → Front B} → IsFront f → ((x : A) → IsFront (g x)) → IsFront (f with g)
with_exact {A} {B} {f} {g} h k = record {
  takes = λ bs z e.
      let x = bind_some (f.at bs) (λ x. (g x.0).at x.1 >>= λ y. Some ((x.0, y.0), y.1)) z e in
      let y = bind_some ((g x.0.0).at x.0.1) (λ y. Some ((x.0.0, y.0), y.1)) z x.2 in
      let s = h.takes bs x.0 x.1 in
      let t = (k x.0.0).takes x.0.1 y.0 y.1 in
      subst (λ (u : (A × B) × List ℕ). Takes ((f with g).Spells u.0) bs u.1) (same ((x.0.0, y.0.0), y.0.1) z y.2)
      (joined _ _ bs x.0.1 y.0.1 s t);
  again = λ x p more s.
      rw (regroup p s.front s.back more s.parts, h.again x.0 s.front (s.back ++ more) s.first, (k x.0).again x.1 s.back more s.second) refl;
  filled = λ x p s. longer p s.front s.back s.parts (h.filled x.0 s.front s.first);
}

pub pair_exact : {A B : Type 0} {f : Front A} {g : Front B} → IsFront f → IsFront g → IsFront (f & g)
pair_exact h k = with_exact h (λ _. k)

-- the first k bytes, and the others
raw_taken : (k : ℕ) (bs : List ℕ) (x : List ℕ × List ℕ) → (fm.raw k).at bs ≡ Some x → (length x.0 ≡ k) × (bs ≡ x.0 ++ x.1)
raw_taken k bs x e =
    let n = not_short (ltb (length bs) k) (some (take k bs, drop k bs)) x e in
    let long : k ≤ length bs = ltb-false _ _ n.0 in
    subst (λ (y : List ℕ × List ℕ). (length y.0 ≡ k) × (bs ≡ y.0 ++ y.1)) (same (take k bs, drop k bs) x n.1) (length-take-le k bs long, sym (take-append-drop k bs))

pub sized_exact : {A : Type 0} {len : Front ℕ} {w : Whole A} → IsFront len → IsWhole w → IsFront (fm.sized len w)
sized_exact {A} {len} {w} h k = record {
  takes = λ bs z e.
      let n = bind_some (len.at bs) (λ n. (fm.raw n.0).at n.1 >>= λ p. w.of p.0 >>= λ x. Some (x, p.1)) z e in
      let p = bind_some ((fm.raw n.0.0).at n.0.1) (λ p. w.of p.0 >>= λ x. Some (x, p.1)) z n.2 in
      let x = bind_some (w.of p.0.0) (λ x. Some (x, p.0.1)) z p.2 in
      let s = h.takes bs n.0 n.1 in
      let t = raw_taken n.0.0 n.0.1 p.0 p.1 in
      subst (λ (u : A × List ℕ). Takes ((fm.sized len w).Spells u.0) bs u.1) (same (x.0, p.0.1) z x.2)
      (record {
        text = s.text ++ p.0.0;
        parts = s.parts ∙ ap (λ (u : List ℕ). s.text ++ u) t.1 ∙ sym (append_assoc s.text p.0.0 p.0.1);
        spelled = record {
          front = s.text;
          inside = p.0.0;
          parts = refl;
          len = subst (λ (i : ℕ). len.Spells i s.text) (sym t.0) s.spelled;
          filled = k.takes p.0.0 x.0 x.1;
        };
      });
  again = λ x p more s.
      let long : ltb (length (s.inside ++ more)) (length s.inside) ≡ false = le-ltb _ _ (omega (arith, length-append s.inside more)) in
      rw (regroup p s.front s.inside more s.parts, h.again (length s.inside) s.front (s.inside ++ more) s.len, long, take_at s.inside more (length s.inside) refl, drop_at s.inside more (length s.inside) refl, k.again x s.inside s.filled) refl;
  filled = λ x p s. longer p s.front s.inside s.parts (h.filled (length s.inside) s.front s.len);
}

pub rest_exact : IsWhole fm.rest
rest_exact = record {
  takes = λ bs x e. same bs x e;
  again = λ x bs s. ap (λ (y : List ℕ). some y) s;
}

pub only_exact : {A : Type 0} {f : Front A} → IsFront f → IsWhole (fm.only f)
only_exact {A} {f} h = record {
  takes = λ bs y e.
      let x = bind_some (f.at bs) (λ x. cond (eqb (length x.1) 0) (Some x.0) None) y e in
      let g = passed (eqb (length x.0.1) 0) (some x.0.0) y x.2 in
      let t = h.takes bs x.0 x.1 in
      let none : x.0.1 ≡ [] = nil_from_length x.0.1 (eqb-true _ _ g.0) in
      let all : bs ≡ t.text = t.parts ∙ ap (λ (u : List ℕ). t.text ++ u) none ∙ append-nil t.text in
      subst (λ (z : A). f.Spells z bs) (same x.0.0 y g.1) (subst (λ (u : List ℕ). f.Spells x.0.0 u) (sym all) t.spelled);
  again = λ x bs s. rw (← append-nil bs, h.again x bs [] s) refl;
}

pub whole_reads_exact : {A B : Type 0} (g : A → B) {w : Whole A} → IsWhole w → IsWhole (fm.whole_reads g w)
whole_reads_exact g {w} h = record {
  takes = λ bs y e. let x = bind_some (w.of bs) (λ x. Some (g x)) y e in (x.0, same (g x.0) y x.2, h.takes bs x.0 x.1);
  again = λ y bs s. rw (h.again s.0 bs s.2, s.1) refl;
}

pub whole_such_exact : {A : Type 0} (test : A → Bool) {w : Whole A} → IsWhole w → IsWhole (fm.whole_such test w)
whole_such_exact {A} test {w} h = record {
  takes = λ bs y e.
      let x = bind_some (w.of bs) (λ x. cond (test x) (Some x) None) y e in
      let g = passed (test x.0) (some x.0) y x.2 in
      subst (λ (z : A). (fm.whole_such test w).Spells z bs) (same x.0 y g.1) (g.0, h.takes bs x.0 x.1);
  again = λ x bs s. rw (h.again x bs s.1, s.0) refl;
}

pub checked_exact : {A : Type 0} (test : List ℕ → Bool) {w : Whole A} → IsWhole w → IsWhole (fm.checked test w)
checked_exact test {w} h = record {
  takes = λ bs y e. let g = passed (test bs) (w.of bs) y e in (g.0, h.takes bs y g.1);
  again = λ x bs s. rw (s.0, h.again x bs s.1) refl;
}

pub before_exact : {A : Type 0} (n : ℕ) {w : Whole A} → IsWhole w → IsWhole (fm.before n w)
before_exact n {w} h = record {
  takes = λ bs y e.
      let g = not_short (ltb (length bs) n) (w.of (take (length bs - n) bs)) y e in
      (ltb-false _ _ g.0, h.takes (take (length bs - n) bs) y g.1);
  again = λ x bs s. rw (le-ltb (length bs) n s.0, h.again x (take (length bs - n) bs) s.1) refl;
}

pub after_exact : {A : Type 0} (n : ℕ) {w : Whole A} → IsWhole w → IsWhole (fm.after n w)
after_exact n {w} h = record {
  takes = λ bs y e.
      let g = not_short (ltb (length bs) n) (w.of (drop n bs)) y e in
      (ltb-false _ _ g.0, h.takes (drop n bs) y g.1);
  again = λ x bs s. rw (le-ltb (length bs) n s.0, h.again x (drop n bs) s.1) refl;
}

pub kept_exact : {A : Type 0} {w : Whole A} → IsWhole w → IsWhole (fm.kept w)
kept_exact {w} h = record {
  takes = λ bs y e. let x = bind_some (w.of bs) (λ _. Some bs) y e in (same bs y x.2, x.0, h.takes bs x.0 x.1);
  again = λ x bs s. rw (h.again s.1 bs s.2, s.0) refl;
}

pub then_exact : {A B : Type 0} {f : Front A} {w : A → Whole B} → IsFront f → ((x : A) → IsWhole (w x)) → IsWhole (f then w)
then_exact {A} {B} {f} {w} h k = record {
  takes = λ bs z e.
      let x = bind_some (f.at bs) (λ x. (w x.0).of x.1 >>= λ y. Some (x.0, y)) z e in
      let y = bind_some ((w x.0.0).of x.0.1) (λ y. Some (x.0.0, y)) z x.2 in
      let s = h.takes bs x.0 x.1 in
      subst (λ (u : A × B). (f then w).Spells u bs) (same (x.0.0, y.0) z y.2)
      (record { front = s.text; back = x.0.1; parts = s.parts; first = s.spelled; second = (k x.0.0).takes x.0.1 y.0 y.1 });
  again = λ x p s. rw (s.parts, h.again x.0 s.front s.back s.first, (k x.0).again x.1 s.back s.second) refl;
}

-- ---- items

pub or_none_exact : {A : Type 0} {w : Whole (List A)} → IsWhole w → IsWhole (fm.or_none w)
or_none_exact {w} h = record { takes = taken w h; again = read w h }
  where
    taken : {A : Type 0} (w : Whole (List A)) (h : IsWhole w) (bs : List ℕ) (xs : List A) → none_or w.of bs ≡ Some xs → SpellsNoneOr w.Spells xs bs
    taken w h [] xs e = cc
    taken w h (b ∷ bs) xs e = h.takes (b ∷ bs) xs e

    read : {A : Type 0} (w : Whole (List A)) (h : IsWhole w) (xs : List A) (bs : List ℕ) → SpellsNoneOr w.Spells xs bs → none_or w.of bs ≡ Some xs
    read w h xs [] s = rw s refl
    read w h xs (b ∷ bs) s = h.again xs (b ∷ bs) s

-- what was read as n items
pub record TakesItems {A : Type 0} (Spells : A → List ℕ → Type 0) (n : ℕ) (bs : List ℕ) (xs : List A) (more : List ℕ) : Type 0 where
  pub count : length xs ≡ n
  pub taken : Takes (SpellsEach Spells xs) bs more

pub items_taken : {A : Type 0} (f : Front A) → IsFront f → (n : ℕ) (bs : List ℕ) (z : List A × List ℕ) → items_at f.at n bs ≡ Some z → TakesItems f.Spells n bs z.0 z.1
items_taken {A} f h zero bs z e =
    subst (λ (u : List A × List ℕ). TakesItems f.Spells 0 bs u.0 u.1) (same ([], bs) z e) (record { count = refl; taken = record { text = []; parts = refl; spelled = refl } })
items_taken {A} f h (suc n) bs z e =
    let x = bind_some (f.at bs) (λ x. items_at f.at n x.1 >>= λ xs. Some (x.0 ∷ xs.0, xs.1)) z e in
    let xs = bind_some (items_at f.at n x.0.1) (λ xs. Some (x.0.0 ∷ xs.0, xs.1)) z x.2 in
    let s = h.takes bs x.0 x.1 in
    let t = items_taken f h n x.0.1 xs.0 xs.1 in
    subst (λ (u : List A × List ℕ). TakesItems f.Spells (suc n) bs u.0 u.1) (same (x.0.0 ∷ xs.0.0, xs.0.1) z xs.2)
    (record { count = ap (λ (i : ℕ). suc i) t.count; taken = joined _ _ bs x.0.1 xs.0.1 s t.taken })

pub items_again : {A : Type 0} (f : Front A) → IsFront f → (xs : List A) (p more : List ℕ) → SpellsEach f.Spells xs p → items_at f.at (length xs) (p ++ more) ≡ Some (xs, more)
items_again f h [] p more s = rw s refl
items_again f h (x ∷ xs) p more s =
    rw (regroup p s.front s.back more s.parts, h.again x s.front (s.back ++ more) s.first, items_again f h xs s.back more s.second) refl

pub several_exact : {A B : Type 0} (n : ℕ) {f : Front A} {w : Whole B} → IsFront f → IsWhole w → IsWhole (fm.several n f w)
several_exact {A} {B} n {f} {w} h k = record {
  takes = λ bs z e.
      let xs = bind_some (items_at f.at n bs) (λ xs. w.of xs.1 >>= λ y. Some (xs.0, y)) z e in
      let y = bind_some (w.of xs.0.1) (λ y. Some (xs.0.0, y)) z xs.2 in
      let t = items_taken f h n bs xs.0 xs.1 in
      subst (λ (u : List A × B). (fm.several n f w).Spells u bs) (same (xs.0.0, y.0) z y.2)
      (t.count, record { front = t.taken.text; back = xs.0.1; parts = t.taken.parts; first = t.taken.spelled; second = k.takes xs.0.1 y.0 y.1 });
  again = λ x p s.
      let t = s.1 in
      rw (← s.0, t.parts, items_again f h x.0 t.front t.back t.first, k.again x.1 t.back t.second) refl;
}

pub exactly_exact : {A : Type 0} (n : ℕ) {f : Front A} → IsFront f → IsWhole (fm.exactly n f)
exactly_exact {A} n {f} h = record {
  takes = λ bs z e.
      let xs = bind_some (items_at f.at n bs) (λ xs. cond (eqb (length xs.1) 0) (Some xs.0) None) z e in
      let g = passed (eqb (length xs.0.1) 0) (some xs.0.0) z xs.2 in
      let t = items_taken f h n bs xs.0 xs.1 in
      let none : xs.0.1 ≡ [] = nil_from_length xs.0.1 (eqb-true _ _ g.0) in
      let all : bs ≡ t.taken.text = t.taken.parts ∙ ap (λ (u : List ℕ). t.taken.text ++ u) none ∙ append-nil t.taken.text in
      subst (λ (u : List A). (fm.exactly n f).Spells u bs) (same xs.0.0 z g.1)
      (t.count, subst (λ (u : List ℕ). SpellsEach f.Spells xs.0.0 u) (sym all) t.taken.spelled);
  again = λ xs p s. rw (← s.0, ← append-nil p, items_again f h xs p [] s.1) refl;
}

pub within_taken : {A : Type 0} (f : Front A) → IsFront f → (most : ℕ) (bs : List ℕ) (xs : List A) → items_within f.at most bs ≡ Some xs → SpellsEach f.Spells xs bs
within_taken f h zero [] xs e = subst (λ (u : List _). SpellsEach f.Spells u []) (same [] xs e) refl
within_taken f h (suc most) [] xs e = subst (λ (u : List _). SpellsEach f.Spells u []) (same [] xs e) refl
within_taken f h zero (b ∷ bs) xs e = absurd cc
within_taken {A} f h (suc most) (b ∷ bs) z e =
    let x = bind_some (f.at (b ∷ bs)) (λ x. items_within f.at most x.1 >>= λ xs. Some (x.0 ∷ xs)) z e in
    let xs = bind_some (items_within f.at most x.0.1) (λ xs. Some (x.0.0 ∷ xs)) z x.2 in
    let s = h.takes (b ∷ bs) x.0 x.1 in
    let t = within_taken f h most x.0.1 xs.0 xs.1 in
    subst (λ (u : List A). SpellsEach f.Spells u (b ∷ bs)) (same (x.0.0 ∷ xs.0) z xs.2)
    (record { front = s.text; back = x.0.1; parts = s.parts; first = s.spelled; second = t })

within_again : {A : Type 0} (f : Front A) → IsFront f → (xs : List A) (p : List ℕ) (most : ℕ) → length p ≤ most → SpellsEach f.Spells xs p → items_within f.at most p ≡ Some xs
within_again f h [] [] zero le s = refl
within_again f h [] [] (suc most) le s = refl
within_again f h [] (b ∷ bs) most le s = absurd cc
within_again f h (x ∷ xs) [] most le s = let l = longer [] s.front s.back s.parts (h.filled x s.front s.first) in absurd (omega arith)
within_again f h (x ∷ xs) (b ∷ bs) zero le s = absurd (omega arith)
within_again f h (x ∷ xs) (b ∷ bs) (suc most) le s =
    let first : f.at (b ∷ bs) ≡ Some (x, s.back) = rw s.parts (h.again x s.front s.back s.first) in
    let l : 0 < length s.front = h.filled x s.front s.first in
    let len : length (b ∷ bs) ≡ length s.front + length s.back = ap (λ (u : List ℕ). length u) s.parts ∙ length-append s.front s.back in
    let others : items_within f.at most s.back ≡ Some xs = within_again f h xs s.back most (omega arith) s.second in
    rw (first, others) refl

pub to_end_exact : {A : Type 0} {f : Front A} → IsFront f → IsWhole (fm.to_end f)
to_end_exact {f} h = record {
  takes = λ bs xs e. within_taken f h (length bs) bs xs e;
  again = λ xs bs s. within_again f h xs bs (length bs) (omega arith) s;
}

-- ---- the prefix law

pub front_ends : {A : Type 0} {f : Front A} → IsFront f → IsPrefixFree f
front_ends {A} {f} h = record {
  ends = λ x y p q more s t e.
      let long : f.at (p ++ more) ≡ Some (x, more) = h.again x p more s in
      let short : f.at (p ++ more) ≡ Some (y, []) = rw (← e, ← append-nil q) (h.again y q [] t) in
      ap (λ (z : A × List ℕ). z.1) (same (x, more) (y, []) (sym long ∙ short));
  one_value = λ x y p s t. ap (λ (z : A × List ℕ). z.0) (same (x, []) (y, []) (sym (h.again x p [] s) ∙ h.again y p [] t));
}

-- A text stands for at most one value.
pub whole_one_value : {A : Type 0} {w : Whole A} → IsWhole w → (x y : A) (p : List ℕ) → w.Spells x p → w.Spells y p → x ≡ y
whole_one_value {w} h x y p s t = same x y (sym (h.again x p s) ∙ h.again y p t)

-- ---- what a public reader says of its answer, from what its private one says

-- what is answered is spelled so
pub whole_found : {X A : Type 0} (view : X → A) {w : Whole A} → IsWhole w → (bs : List ℕ) (result : Option X) → Reads view result (w.of bs) → IfSome result (λ x. w.Spells (view x) bs)
whole_found view h bs None e = tt
whole_found view h bs (Some x) e = h.takes bs (view x) e

-- what is spelled so is answered
pub whole_only : {X A : Type 0} (view : X → A) {w : Whole A} → IsWhole w → (bs : List ℕ) (result : Option X) → Reads view result (w.of bs) → (x : A) → w.Spells x bs → option_map view result ≡ Some x
whole_only view h bs None e x s = absurd (let k : some x ≡ None = sym (h.again x bs s) ∙ e in cc)
whole_only view h bs (Some y) e x s = sym e ∙ h.again x bs s

-- the same at a value that contracts see as what is read
pub whole_only_seen : {A : Type 0} {w : Whole A} → IsWhole w → (bs : List ℕ) (result : Option A) → Reads (λ x. x) result (w.of bs) → (x : A) → w.Spells x bs → result ≡ Some x
whole_only_seen h bs None e x s = absurd (let k : some x ≡ None = sym (h.again x bs s) ∙ e in cc)
whole_only_seen h bs (Some y) e x s = sym e ∙ h.again x bs s

-- A front that was read is a spelling, of the bytes in front of the others.
pub front_found : {A : Type 0} {f : Front A} → IsFront f → (bs : List ℕ) (x : A) (more : List ℕ) → f.at bs ≡ Some (x, more) → (length more ≤ length bs) × f.Spells x (take (length bs - length more) bs)
front_found {A} {f} h bs x more e =
    let t = h.takes bs (x, more) e in
    let len : length bs ≡ length t.text + length more = ap (λ (u : List ℕ). length u) t.parts ∙ length-append t.text more in
    let n : length t.text ≡ length bs - length more = omega arith in
    let front : take (length bs - length more) bs ≡ t.text = ap (λ (u : List ℕ). take (length bs - length more) u) t.parts ∙ take_at t.text more (length bs - length more) n in
    (omega arith, rw front t.spelled)

-- What is spelled by the first n bytes is read from the front.
pub front_only : {A : Type 0} {f : Front A} → IsFront f → (bs : List ℕ) (x : A) (n : ℕ) → n ≤ length bs → f.Spells x (take n bs) → f.at bs ≡ Some (x, drop n bs)
front_only {A} {f} h bs x n le s = ap f.at (sym (take-append-drop n bs)) ∙ h.again x (take n bs) (drop n bs) s

-- what a reader says that answers the value at the front and how many bytes it has
pub front_only_counted : {A : Type 0} {f : Front A} → IsFront f → (bs : List ℕ) (x : A) (more : List ℕ) → f.at bs ≡ Some (x, more) → (y : A) (n : ℕ) → n ≤ length bs → f.Spells y (take n bs) → some {A = A × ℕ} (x, length bs - length more) ≡ some {A = A × ℕ} (y, n)
front_only_counted {A} {f} h bs x more e y n le s =
    let is : ◌≡◌ {A = A × List ℕ} (x, more) (y, drop n bs) = same (x, more) (y, drop n bs) (sym e ∙ front_only h bs y n le s) in
    let left : length more ≡ length bs - n = ap (λ (z : A × List ℕ). length z.1) is ∙ length-drop n bs in
    let count : length bs - length more ≡ n = omega arith in
    rw (count, ap (λ (z : A × List ℕ). z.0) is) refl

pub front_none : {A : Type 0} {f : Front A} → IsFront f → (bs : List ℕ) → f.at bs ≡ None → (y : A) (n : ℕ) → n ≤ length bs → f.Spells y (take n bs) → ⊥
front_none {A} {f} h bs e y n le s = let k : some {A = A × List ℕ} (y, drop n bs) ≡ None = sym (front_only h bs y n le s) ∙ e in absurd cc
