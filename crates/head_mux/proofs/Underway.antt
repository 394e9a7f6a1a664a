-- Packets that are put one after another, some of which are still left.
use Rattle.std.proofs.Common.{◌≡◌, ℕ, List, [], ◌++◌, Option, Result, Ok, Err, OnOk, OnErr, refl, sym, ap, subst, ◌∙◌, append_assoc, append-nil}
use Rattle.ssu_io.specs.Bytes.{GainsPrefix}
use Rattle.ssu_io.specs.SinkBuffer.{MovesOn}
use Rattle.ssu_io.proofs.BufferLemmas.{MovesOn_none, MovesOn_join, MovesOn_failed, GainsPrefix_longer}
use Rattle.ssu_io.proofs.BytesLemmas.{GainsPrefix_join}

-- of all bytes the first were put, and these are left
pub record Underway (before now : Option (List ℕ)) (waited waiting left all : List ℕ) : Type 0 where
  pub done : List ℕ
  pub moves : MovesOn before now waited done waiting
  pub rest : done ++ left ≡ all

pub under_start : (contents : Option (List ℕ)) (waiting all : List ℕ) → Underway contents contents waiting waiting all all
under_start contents waiting all = record { done = []; moves = MovesOn_none contents waiting; rest = refl }

pub under_step : (before now later : Option (List ℕ)) (waited waiting more piece rest left all : List ℕ) → left ≡ piece ++ rest
    → Underway before now waited waiting left all → MovesOn now later waiting piece more → Underway before later waited more rest all
under_step before now later waited waiting more piece rest left all e u m = record {
  done = u.done ++ piece;
  moves = MovesOn_join before now later waited u.done waiting piece more u.moves m;
  rest = append_assoc u.done piece rest ∙ ap (λ (v : List ℕ). u.done ++ v) (sym e) ∙ u.rest;
}

pub under_failed : (before now later : Option (List ℕ)) (waited waiting piece rest left all : List ℕ) → left ≡ piece ++ rest
    → Underway before now waited waiting left all → GainsPrefix now later (waiting ++ piece) → GainsPrefix before later (waited ++ all)
under_failed before now later waited waiting piece rest left all e u p =
    let P : List ℕ → Type 0 = λ bytes. GainsPrefix before later bytes in
    subst P
    (append_assoc waited (u.done ++ piece) rest
    ∙ ap (λ (v : List ℕ). waited ++ v) (append_assoc u.done piece rest ∙ ap (λ (v : List ℕ). u.done ++ v) (sym e) ∙ u.rest))
    (GainsPrefix_longer before later (waited ++ (u.done ++ piece)) rest (MovesOn_failed before now later waited u.done waiting piece u.moves p))

pub under_done : (before now : Option (List ℕ)) (waited waiting left all : List ℕ) → left ≡ [] → Underway before now waited waiting left all → MovesOn before now waited all waiting
under_done before now waited waiting left all e u =
    let P : List ℕ → Type 0 = λ bytes. MovesOn before now waited bytes waiting in
    subst P (sym (append-nil u.done) ∙ ap (λ (v : List ℕ). u.done ++ v) (sym e) ∙ u.rest) u.moves

pub on_ok : {T E P Q : Type 0} (r : Result T E) → (P → Q) → OnOk r P → OnOk r Q
on_ok (Ok x) f h = f h
on_ok (Err e) f h = h

pub on_any_err : {T E P : Type 0} (r : Result T E) → P → OnErr r P
on_any_err (Ok x) p = tt
on_any_err (Err e) p = p

-- what waited could not all be put
pub flush_failed : (before between after : Option (List ℕ)) (all waiting : List ℕ) → MovesOn before between [] all waiting → GainsPrefix between after waiting → GainsPrefix before after all
flush_failed before between after all waiting m p =
    let P : List ℕ → Type 0 = λ bytes. GainsPrefix before after bytes in
    subst P (sym m.none_lost) (GainsPrefix_join before between after m.moved waiting m.gains p)
