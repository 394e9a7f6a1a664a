-- What the laws of parts ask of the levels.
use Rattle.std.proofs.Common.{◌≡◌, ℕ, Bool, true, false, List, [], ◌∷◌, Option, Some, None, refl, ap, ◌∙◌, sym, arith}
use Rattle.std.specs.Prelude.{IsSome, ◌==◌, if◌then◌else◌, is_some, length}
use Rattle.std.specs.List.{find}
use Rattle.std.specs.Option.{option_and_then}
use Rattle.route_part.specs.Said.{Fits}
use Rattle.si_desc.specs.declared.linkages.ServiceRef.{ServiceRef}
use Rattle.ssu_unt.specs.Table.{UntFields}
use Rattle.route_tables.specs.Values.{Receiver}
use Rattle.route_tables.specs.Said.{program_said, service_said, number_said, entries_said, notice_in, entries_for, number_if_entries, entries_under}

passes_by : {X : Type 0} (p : X → Bool) (y x : X) (rest : Option X) (b : Bool) → p y ≡ b → (rest ≡ Some x → p x ≡ true)
    → (if b then Some y else rest) ≡ Some x → p x ≡ true
passes_by p y x rest true e later h = ap p (some_equal (sym h)) ∙ e
  where
    some_equal : Some x ≡ Some y → x ≡ y
    some_equal e = cc
passes_by p y x rest false e later h = later h

find_passes : {X : Type 0} (p : X → Bool) (xs : List X) (x : X) → find p xs ≡ Some x → p x ≡ true
find_passes p [] x h = cc
find_passes p (y ∷ ys) x h = passes_by p y x (find p ys) (p y) refl (find_passes p ys x) h

-- A PAT that fixes a service tells the PID of its PMT.
pub program_fits : (services : List ServiceRef) → Fits (service_said services) program_said
unfolding service_said
program_fits services item service h = find_passes (λ s. is_some (program_said s item)) services service h

-- A notification table that fixes a section number has entries under it.
pub notice_fits : (me : Receiver) (pid : ℕ) → Fits (number_said me pid) (entries_said me pid)
unfolding number_said entries_said
notice_fits me pid item number h = of_table (notice_in me pid item) h
  where
    same_number : (u : UntFields) (number : ℕ) (b : Bool) → (if b then None else Some u.number) ≡ Some number → (u.number == number) ≡ true
    same_number u number true h = cc
    same_number u number false h = grind (arith, h)

    of_table : (t : Option UntFields) → option_and_then (number_if_entries me) t ≡ Some number → IsSome (option_and_then (entries_under me number) t)
    of_table None h = cc
    of_table (Some u) h = rw (same_number u number (length (entries_for me u) == 0) h) refl
