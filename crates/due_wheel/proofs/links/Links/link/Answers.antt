use Rattle.std.proofs.Common.{◌≡◌, ℕ, ◌+◌, ◌<◌, List, ◌∷◌, ◌++◌, length, set, Option, Some, unwrap_or, ap, subst, sym, ◌∙◌}
use Rattle.std.proofs.lemmas.List.{length-set}
use Rattle.due_wheel.specs.Lists.{LinkedLists, items_of, last_of}
use Rattle.due_wheel.specs.Rings.{lists_of, AreRings}
use Rattle.due_wheel.proofs.LinkLaws.{MayLink, link_within, link_front_within, linked_after, linked_lists}
use Rattle.due_wheel.proofs.links.Links.link.Goals as goal

-- the number of items, as the code reads it
at : {items : ℕ} (after : Option ℕ) (front len slot : ℕ) → len ≡ items → front ≡ unwrap_or after (len + slot) → front ≡ unwrap_or after (items + slot)
at after front len slot e p = p ∙ ap (λ (n : ℕ). unwrap_or after (n + slot)) e

pub index-behind-requires : goal.index-behind-requires
index-behind-requires c =
    let P : LinkedLists → Type 0 = λ v. MayLink v c.args.item c.args.slot c.args.after → c.node_of-front.result < length c.self.inside.next.items in
    let within : c.node_of-front.result < length c.self.inside.next.items =
    subst P c.self.view_is
    (λ m. link_front_within _ _ _ _ c.self.invariant c.args.item c.args.due c.args.slot c.node_of-front.result c.args.after m.not_linked m.item m.slot (at c.args.after c.node_of-front.result c.len.result c.args.slot (c.len.ensures ∙ c.self.inside.dues.ok.0) c.node_of-front.ensures) m.after)
    (record { item = c.requires.item; not_linked = c.requires.not_linked; slot = c.requires.slot; after = c.requires.after }) in
    subst (λ (n : ℕ). c.node_of-front.result < n) (sym c.self.inside.next.ok.0) within

pub join-requires-clause-front : goal.join-requires-clause-front
join-requires-clause-front c =
    let P : LinkedLists → Type 0 = λ v. MayLink v c.args.item c.args.slot c.args.after → c.node_of-front.result < length c.self.inside.next.items in
    subst P c.self.view_is
    (λ m. link_front_within _ _ _ _ c.self.invariant c.args.item c.args.due c.args.slot c.node_of-front.result c.args.after m.not_linked m.item m.slot (at c.args.after c.node_of-front.result c.len.result c.args.slot (c.len.ensures ∙ c.self.inside.dues.ok.0) c.node_of-front.ensures) m.after)
    (record { item = c.requires.item; not_linked = c.requires.not_linked; slot = c.requires.slot; after = c.requires.after })

pub join-requires-2-clause-behind : goal.join-requires-2-clause-behind
join-requires-2-clause-behind c =
    let P : LinkedLists → Type 0 = λ v. MayLink v c.args.item c.args.slot c.args.after → c.index-behind.result.now < length c.join.new.previous.items in
    subst P c.self.view_is
    (λ m. rw (c.join.ensures.previous, length-set c.self.inside.previous.items c.args.item c.node_of-front.result)
    (link_within _ _ _ _ c.self.invariant c.args.item c.args.due c.args.slot c.node_of-front.result _ c.args.after m.not_linked m.item m.slot (at c.args.after c.node_of-front.result c.len.result c.args.slot (c.len.ensures ∙ c.self.inside.dues.ok.0) c.node_of-front.ensures) c.index-behind.ensures m.after).1)
    (record { item = c.requires.item; not_linked = c.requires.not_linked; slot = c.requires.slot; after = c.requires.after })

pub invariant_of-self : goal.invariant_of-self
invariant_of-self c =
    let P : LinkedLists → Type 0 = λ v. MayLink v c.args.item c.args.slot c.args.after
    → AreRings c.join-2.new.next.items c.join-2.new.previous.items (set c.self.inside.dues.items c.args.item (Some c.args.due))
    (lists_of c.join-2.new.next.items (length (set c.self.inside.dues.items c.args.item (Some c.args.due)))) in
    subst P c.self.view_is
    (λ m. rw (c.join-2.ensures.next, c.join-2.ensures.previous, c.join.ensures.next, c.join.ensures.previous)
    (linked_after _ _ _ _ c.self.invariant c.args.item c.args.due c.args.slot c.node_of-front.result _ c.args.after m.not_linked m.item m.slot (at c.args.after c.node_of-front.result c.len.result c.args.slot (c.len.ensures ∙ c.self.inside.dues.ok.0) c.node_of-front.ensures) c.index-behind.ensures m.after))
    (record { item = c.requires.item; not_linked = c.requires.not_linked; slot = c.requires.slot; after = c.requires.after })

pub returns-clause-lists : goal.returns-clause-lists
returns-clause-lists c =
    let P : LinkedLists → Type 0 = λ v. MayLink v c.args.item c.args.slot c.args.after → (before behind : List ℕ)
    → items_of v.lists c.args.slot ≡ before ++ behind → last_of before ≡ c.args.after
    → lists_of c.join-2.new.next.items (length (set c.self.inside.dues.items c.args.item (Some c.args.due))) ≡ set v.lists c.args.slot (before ++ c.args.item ∷ behind) in
    subst P c.self.view_is
    (λ m before behind cut last. rw (c.join-2.ensures.next, c.join.ensures.next)
    (linked_lists _ _ _ _ c.self.invariant c.args.item c.args.due c.args.slot c.node_of-front.result _ c.args.after m.not_linked m.item m.slot (at c.args.after c.node_of-front.result c.len.result c.args.slot (c.len.ensures ∙ c.self.inside.dues.ok.0) c.node_of-front.ensures) c.index-behind.ensures before behind cut last))
    (record { item = c.requires.item; not_linked = c.requires.not_linked; slot = c.requires.slot; after = c.requires.after })
