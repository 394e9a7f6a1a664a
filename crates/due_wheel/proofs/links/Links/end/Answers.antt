use Rattle.std.proofs.Common.{◌≡◌, ◌<◌, length, subst, ◌∙◌}
use Rattle.due_wheel.specs.Lists.{LinkedLists, items_of, end_of}
use Rattle.due_wheel.proofs.LinkLaws.{end_is}
use Rattle.due_wheel.proofs.links.Links.end.Goals as goal

pub returns-clause-end : goal.returns-clause-end
returns-clause-end g c =
    let len : c.len-items.result ≡ length c.self.inside.dues.items = c.len-items.ensures ∙ c.self.inside.dues.ok.0 in
    let P : LinkedLists → Type 0 = λ v. c.args.slot < length v.lists → c.neighbour.result ≡ end_of c.args.back (items_of v.lists c.args.slot) in
    subst P c.self.view_is
    (λ h. rw (c.neighbour.ensures, c.deref.ensures.value, c.deref-2.ensures.value, len) (end_is _ _ _ _ c.self.invariant c.args.slot h c.args.back))
    c.requires
