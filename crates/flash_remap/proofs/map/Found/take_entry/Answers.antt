use Rattle.std.proofs.Common.{◌+◌, ◌≤◌, ◌∙◌, sym, subst, ℕ, List, arith}
use Rattle.flash_remap.specs.Map.{IsNextOf}
use Rattle.flash_remap.specs.Shape.{geometry}
use Rattle.flash_remap.proofs.MapLemmas.{counts, next_more}
use Rattle.flash_remap.proofs.map.Found.take_entry.Goals as goal
use Rattle.flash_remap.specs.declared.entry.Entry.{Entry}

pub returns-then-self-spare-clause-next_is : goal.returns-then-self-spare-clause-next_is
returns-then-self-spare-clause-next_is c =
    let old = c.args.self.now in
    let le : old.next.spare ≤ c.args.entry.spare = omega arith in
    let more = next_more old.entries.items c.args.entry old.next.spare c.requires.next_is le in
    subst (λ (n : ℕ). IsNextOf c.push.new.self.items (n + 1)) (sym c.from-spare.ensures)
    (subst (λ (es : List Entry). IsNextOf es (c.args.entry.spare + 1)) (sym c.push.ensures.items) more)

pub returns-then-self-spare-clause-entries : goal.returns-then-self-spare-clause-entries
returns-then-self-spare-clause-entries c =
    let old = c.args.self.now in
    c.push.ensures.items ∙ sym (counts (geometry c.args.layout) old.entries.items c.args.entry old.next.spare c.requires.next_is (omega arith) (omega arith) (omega arith))
