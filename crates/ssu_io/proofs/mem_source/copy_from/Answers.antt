use Rattle.std.proofs.Common.{◌≡◌, ℕ, ◌+◌, ◌-◌, List, ◌++◌, length, take, drop, sym, ap, arith, ◌∙◌}
use Rattle.std.proofs.lemmas.List.{take-append-drop, drop-drop, length-drop, length-take-le, drop_all}
use Rattle.std.proofs.lemmas.Grind.{common_steps}
use Rattle.ssu_io.proofs.mem_source.copy_from.Goals as goal

-- what was copied stands in front of what is left
split_at : (at n : ℕ) (bytes piece : List ℕ) → piece ≡ take n (drop at bytes) → drop at bytes ≡ piece ++ drop (at + n) bytes
split_at at n bytes piece copied = rw (copied, ← drop-drop n at bytes) (sym (take-append-drop n (drop at bytes)))

-- a piece in front is the front
front_of : (n : ℕ) (piece after : List ℕ) → length piece ≡ n → take n (piece ++ after) ≡ piece
front_of n piece after long = grind (arith, common_steps, long)

pub returns-clause-copied : goal.returns-clause-copied
returns-clause-copied c =
    let n = c.min-n.result in
    let at = c.args.at in
    let bytes = c.args.bytes.now in
    let piece = c.copy_from_slice.new.self in
    let same : at + n - at ≡ n = omega arith in
    let copied : piece ≡ take n (drop at bytes) = c.copy_from_slice.ensures.after ∙ ap (λ (m : ℕ). take m (drop at bytes)) same in
    let long : length piece ≡ n = ap length copied ∙ length-take-le n (drop at bytes) (omega (arith, length-drop at bytes)) in
    rw (front_of n piece (drop n c.args.to.now) long) (split_at at n bytes piece copied)

pub returns-clause-end : goal.returns-clause-end
returns-clause-end c =
    let at = c.args.at in
    let bytes = c.args.bytes.now in
    (λ zero. drop_all at bytes (omega (arith, zero)), λ none. omega (arith, length-drop at bytes, ap length none))
