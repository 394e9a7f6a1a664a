use Rattle.std.proofs.Common.{◌≡◌, ℕ, List, ◌∷◌, ◌++◌, length, subst, ◌∙◌}
use Rattle.due_wheel.specs.Lists.{LinkedLists, items_of, beside_of}
use Rattle.due_wheel.proofs.LinkLaws.{beside_is}
use Rattle.due_wheel.proofs.links.Links.beside.Goals as goal

pub returns-clause-beside : goal.returns-clause-beside
returns-clause-beside g c =
    let len : c.len.result ≡ length c.self.inside.dues.items = c.len.ensures ∙ c.self.inside.dues.ok.0 in
    let P : LinkedLists → Type 0 = λ v. (slot : ℕ) (before behind : List ℕ) → items_of v.lists slot ≡ before ++ c.args.item ∷ behind
    → c.neighbour.result ≡ beside_of c.args.back before behind in
    subst P c.self.view_is
    (λ slot before behind cut. rw (c.neighbour.ensures, c.deref.ensures.value, c.deref-2.ensures.value, len)
    (beside_is _ _ _ _ c.self.invariant slot c.args.item before behind cut c.args.back))
