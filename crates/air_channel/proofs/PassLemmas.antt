-- What a packet writes that changes places with the one that was kept.
use Rattle.std.proofs.Common.{◌≡◌, ℕ, ◌-◌, List, [], ◌++◌, replicate, Option, Some, refl, sym, ap, ◌∙◌, subst, append_assoc, append-nil}
use Rattle.std.specs.List.{concat}
use Rattle.ssu_io.specs.Bytes.{GainsPrefix}
use Rattle.ssu_io.specs.SinkBuffer.{MovesOn}
use Rattle.ssu_io.proofs.BufferLemmas.{MovesOn_join, MovesOn_failed, GainsPrefix_longer}
use Rattle.ts_input.proofs.Pieces.{concat_append}
use Rattle.air_channel.specs.Aired.{copies}
use Rattle.air_channel.specs.Passing.{changed, written_at}
use Rattle.air_channel.specs.Scripts.{ScriptData}

-- so many copies of the packet that came, and so many of the one that was kept
both : (script : ScriptData) (n a b : ℕ) (was : Option (List ℕ)) (kept packet now : List ℕ) → was ≡ Some kept → now ≡ changed script.changes n packet → a ≡ copies script (n - 1) → b ≡ copies script n
    → concat (replicate a now) ++ concat (replicate b kept) ≡ concat (written_at script n was packet)
both script n a b was kept packet now some made first second =
    sym (concat_append (replicate a now) (replicate b kept))
    ∙ ap (λ (m : ℕ). concat (replicate m now ++ replicate b kept)) first
    ∙ ap (λ (m : ℕ). concat (replicate (copies script (n - 1)) now ++ replicate m kept)) second
    ∙ ap (λ (p : List ℕ). concat (replicate (copies script (n - 1)) p ++ replicate (copies script n) kept)) made
    ∙ ap (λ (w : Option (List ℕ)). concat (written_at script n w packet)) (sym some)

pub both_moved : (script : ScriptData) (n a b : ℕ) (was : Option (List ℕ)) (kept packet now : List ℕ) → was ≡ Some kept → now ≡ changed script.changes n packet → a ≡ copies script (n - 1) → b ≡ copies script n
    → (before between after : Option (List ℕ)) (waited waits waiting : List ℕ) → MovesOn before between waited (concat (replicate a now)) waits → MovesOn between after waits (concat (replicate b kept)) waiting
    → MovesOn before after waited (concat (written_at script n was packet)) waiting
both_moved script n a b was kept packet now some made first second before between after waited waits waiting one other =
    let P : List ℕ → Type 0 = λ piece. MovesOn before after waited piece waiting in
    subst P (both script n a b was kept packet now some made first second)
    (MovesOn_join before between after waited (concat (replicate a now)) waits (concat (replicate b kept)) waiting one other)

pub first_failed : (script : ScriptData) (n a : ℕ) (was : Option (List ℕ)) (kept packet now : List ℕ) → was ≡ Some kept → now ≡ changed script.changes n packet → a ≡ copies script (n - 1)
    → (before after : Option (List ℕ)) (waited : List ℕ) → GainsPrefix before after (waited ++ concat (replicate a now))
    → GainsPrefix before after (waited ++ concat (written_at script n was packet))
first_failed script n a was kept packet now some made first before after waited failed =
    let P : List ℕ → Type 0 = λ piece. GainsPrefix before after piece in
    let others = concat (replicate (copies script n) kept) in
    subst P
    (append_assoc waited (concat (replicate a now)) others
    ∙ ap (λ (piece : List ℕ). waited ++ piece) (both script n a (copies script n) was kept packet now some made first refl))
    (GainsPrefix_longer before after (waited ++ concat (replicate a now)) others failed)

pub second_failed : (script : ScriptData) (n a b : ℕ) (was : Option (List ℕ)) (kept packet now : List ℕ) → was ≡ Some kept → now ≡ changed script.changes n packet → a ≡ copies script (n - 1) → b ≡ copies script n
    → (before between after : Option (List ℕ)) (waited waits : List ℕ) → MovesOn before between waited (concat (replicate a now)) waits → GainsPrefix between after (waits ++ concat (replicate b kept))
    → GainsPrefix before after (waited ++ concat (written_at script n was packet))
second_failed script n a b was kept packet now some made first second before between after waited waits one failed =
    let P : List ℕ → Type 0 = λ piece. GainsPrefix before after (waited ++ piece) in
    subst P (both script n a b was kept packet now some made first second)
    (MovesOn_failed before between after waited (concat (replicate a now)) waits (concat (replicate b kept)) one failed)

-- a write of what waits failed
pub flush_failed : (before between after : Option (List ℕ)) (waited piece waits : List ℕ) → MovesOn before between waited piece waits → GainsPrefix between after waits → GainsPrefix before after (waited ++ piece)
flush_failed before between after waited piece waits moves failed =
    let P : List ℕ → Type 0 = λ all. GainsPrefix before after (waited ++ all) in
    let Q : List ℕ → Type 0 = λ all. GainsPrefix between after all in
    subst P (append-nil piece) (MovesOn_failed before between after waited piece waits [] moves (subst Q (sym (append-nil waits)) failed))
