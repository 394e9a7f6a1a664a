use Rattle.std.proofs.Common.{◌≡◌, ◌<◌, length, arith, sym, ◌∙◌}
use Rattle.section_kind.proofs.NoKind.{if_none, kind_at_front, kind_of_empty, of_no_kind}
use Rattle.section_kind.proofs.by_table.kind.Goals as goal

pub returns-then-is_empty-clause-kind : goal.returns-then-is_empty-clause-kind
returns-then-is_empty-clause-kind c =
    let empty : length c.args.section.now ≡ 0 = search (arith, c.if-is_empty.true, c.is_empty.ensures) in
    sym (kind_of_empty c.args.section.now empty)

pub returns-then-is_empty-clause-none : goal.returns-then-is_empty-clause-none
returns-then-is_empty-clause-none c =
    let empty : length c.args.section.now ≡ 0 = search (arith, c.if-is_empty.true, c.is_empty.ensures) in
    of_no_kind c.args.section.now (kind_of_empty c.args.section.now empty)

pub returns-clause-kind : goal.returns-clause-kind
returns-clause-kind c =
    let filled : 0 < length c.args.section.now = search (arith, c.if-is_empty.false, c.is_empty.ensures) in
    c.kind_in.ensures ∙ sym (kind_at_front c.args.section.now filled)

pub returns-clause-none : goal.returns-clause-none
returns-clause-none c =
    let filled : 0 < length c.args.section.now = search (arith, c.if-is_empty.false, c.is_empty.ensures) in
    if_none c.args.section.now c.kind_in.result (c.kind_in.ensures ∙ sym (kind_at_front c.args.section.now filled))
