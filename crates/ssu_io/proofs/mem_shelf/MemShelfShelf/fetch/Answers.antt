-- A call fails where its number is listed and the name was found.
use Rattle.std.proofs.Common.{◌≡◌, ◌↔◌, ℕ, Bool, List, Contains, rules, refl, subst}
use Rattle.std.specs.Prelude.{IsTrue}
use Rattle.ssu_io.specs.Faults.{raised}
use Rattle.ssu_io.proofs.mem_shelf.MemShelfShelf.fetch.Goals as goal

listed_call : (result : Bool) (fails held : List ℕ) (number call : ℕ) → (IsTrue result ↔ Contains fails number) → IsTrue result → fails ≡ held → number ≡ call → Contains held call
listed_call result fails held number call listed is same called =
    subst (λ (n : ℕ). Contains held n) called (subst (λ (l : List ℕ). Contains l number) same (listed.0 is))

pub returns-then-is_listed-clause-fails : goal.returns-then-is_listed-clause-fails
returns-then-is_listed-clause-fails c =
    let listed : Contains c.args.self.now.fails (raised c.args.self.now.calls) =
    listed_call c.is_listed.result c.deref-2.result.now c.args.self.now.fails c.one_more-self-inside.result (raised c.args.self.now.calls) c.is_listed.ensures (search rules) (search rules) (search rules) in
    (λ failed. (listed, search rules), λ both. refl)
