-- Pieces that wait, one after another.
use Rattle.std.proofs.Common.{◌≡◌, ℕ, List, [], ◌++◌, Option, arith, sym, ap, subst, ◌∙◌, append_assoc, append-nil, length-append}
use Rattle.std.proofs.lemmas.List.{take-append-le}
use Rattle.ssu_io.specs.Bytes.{Gains, GainsPrefix}
use Rattle.ssu_io.specs.SinkBuffer.{MovesOn}
use Rattle.ssu_io.proofs.BytesLemmas.{Gains_none, Gains_join, GainsPrefix_join}

-- nothing came
pub MovesOn_none : (contents : Option (List ℕ)) (waiting : List ℕ) → MovesOn contents contents waiting [] waiting
MovesOn_none contents waiting = record { moved = []; gains = Gains_none contents; none_lost = append-nil waiting }

-- a piece came, and then another one
pub MovesOn_join : (first second third : Option (List ℕ)) (waited piece between more waiting : List ℕ)
    → MovesOn first second waited piece between → MovesOn second third between more waiting → MovesOn first third waited (piece ++ more) waiting
MovesOn_join first second third waited piece between more waiting p q = record {
  moved = p.moved ++ q.moved;
  gains = Gains_join first second third p.moved q.moved p.gains q.gains;
  none_lost =
      sym (append_assoc waited piece more)
      ∙ ap (λ (front : List ℕ). front ++ more) p.none_lost
      ∙ append_assoc p.moved between more
      ∙ ap (λ (behind : List ℕ). p.moved ++ behind) q.none_lost
      ∙ sym (append_assoc p.moved q.moved waiting);
}

-- all that waited went
pub MovesOn_flushed : (first second third : Option (List ℕ)) (waited piece waiting : List ℕ)
    → MovesOn first second waited piece waiting → Gains second third waiting → Gains first third (waited ++ piece)
MovesOn_flushed first second third waited piece waiting p q =
    let P : List ℕ → Type 0 = λ all. Gains first third all in
    subst P (sym p.none_lost) (Gains_join first second third p.moved waiting p.gains q)

-- a prefix of what waited and of more behind it went
pub MovesOn_failed : (first second third : Option (List ℕ)) (waited piece waiting more : List ℕ)
    → MovesOn first second waited piece waiting → GainsPrefix second third (waiting ++ more) → GainsPrefix first third (waited ++ (piece ++ more))
MovesOn_failed first second third waited piece waiting more p q =
    let all : p.moved ++ (waiting ++ more) ≡ waited ++ (piece ++ more) =
    sym (append_assoc p.moved waiting more)
    ∙ ap (λ (front : List ℕ). front ++ more) (sym p.none_lost)
    ∙ append_assoc waited piece more in
    let P : List ℕ → Type 0 = λ bytes. GainsPrefix first third bytes in
    subst P all (GainsPrefix_join first second third p.moved (waiting ++ more) p.gains q)

-- a prefix is one of a longer piece too
pub GainsPrefix_longer : (before after : Option (List ℕ)) (piece more : List ℕ) → GainsPrefix before after piece → GainsPrefix before after (piece ++ more)
GainsPrefix_longer before after piece more (n, within, gains) =
    let P : List ℕ → Type 0 = λ bytes. Gains before after bytes in
    (n, omega (arith, within, length-append piece more), subst P (sym (take-append-le n piece more within)) gains)
