use Rattle.std.proofs.Common.{◌≡◌, ◌<◌, ◌==◌, not, map, filter, length, set, None, IsSome, subst}
use Rattle.due_wheel.specs.Due.{due_of}
use Rattle.due_wheel.specs.Lists.{LinkedLists}
use Rattle.due_wheel.specs.Rings.{lists_of}
use Rattle.due_wheel.proofs.LinkLaws.{some_of, unlink_within, unlinked_rings, unlinked_lists}
use Rattle.due_wheel.proofs.links.Links.unlink.Goals as goal

pub join-requires-clause-front : goal.join-requires-clause-front
join-requires-clause-front c =
    let P : LinkedLists → Type 0 = λ v. IsSome (due_of v.dues c.args.item) → c.index-front.result.now < length c.self.inside.next.items in
    subst P c.self.view_is
    (λ h. (unlink_within _ _ _ _ c.self.invariant c.args.item _ _ (some_of _ h) c.index-front.ensures c.index-behind.ensures).0)
    c.requires

pub join-requires-clause-behind : goal.join-requires-clause-behind
join-requires-clause-behind c =
    let P : LinkedLists → Type 0 = λ v. IsSome (due_of v.dues c.args.item) → c.index-behind.result.now < length c.self.inside.previous.items in
    subst P c.self.view_is
    (λ h. (unlink_within _ _ _ _ c.self.invariant c.args.item _ _ (some_of _ h) c.index-front.ensures c.index-behind.ensures).1)
    c.requires

pub invariant_of-self : goal.invariant_of-self
invariant_of-self c =
    let some : due_of c.self.inside.dues.items c.args.item ≡ None → ⊥ =
    let P : LinkedLists → Type 0 = λ v. IsSome (due_of v.dues c.args.item) → due_of c.self.inside.dues.items c.args.item ≡ None → ⊥ in
    subst P c.self.view_is (λ h. some_of _ h) c.requires in
    rw (c.join.ensures.next, c.join.ensures.previous)
    (unlinked_rings _ _ _ _ c.self.invariant c.args.item _ _ some c.index-front.ensures c.index-behind.ensures)

pub returns-clause-lists : goal.returns-clause-lists
returns-clause-lists c =
    let P : LinkedLists → Type 0 = λ v. IsSome (due_of v.dues c.args.item)
    → lists_of c.join.new.next.items (length (set c.self.inside.dues.items c.args.item None)) ≡ map (filter (λ other. not (other == c.args.item))) v.lists in
    subst P c.self.view_is
    (λ h. rw c.join.ensures.next (unlinked_lists _ _ _ _ c.self.invariant c.args.item _ _ (some_of _ h) c.index-front.ensures c.index-behind.ensures))
    c.requires
