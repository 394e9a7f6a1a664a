use Rattle.std.proofs.Common.{◌≡◌, ℕ, ◌+◌, List, true, false, map, drop, sym, ap, ◌∙◌}
use Rattle.std.proofs.lemmas.List.{drop_all}
use Rattle.std.specs.Option.{is_some}
use Rattle.ssu_audit.specs.declared.kept.Kept.{Kept}
use Rattle.ssu_audit.specs.Ending.{is_apart}
use Rattle.ssu_audit.specs.Kept.{first_kept, kept_of}
use Rattle.ssu_audit.specs.Said.{notice_with}
use Rattle.ssu_audit.proofs.Beginning.{first_kept-none, kept-dropped, kept-first, kept-passed}
use Rattle.ssu_audit.proofs.ending.first_apart.Goals as goal

pub returns-then-is_notice_apart : goal.returns-then-is_notice_apart
returns-then-is_notice_apart c =
    let test = is_apart c.args.dsi.now.groups in
    let k = c.kept-item.result in
    let passes : is_some (notice_with test k.bytes.items) ≡ true = ap (λ (xs : List ℕ). is_some (notice_with test xs)) (sym c.as_slice.ensures.value) ∙ sym c.is_notice_apart.ensures ∙ c.if-is_notice_apart.true in
    sym (sym c.loop-kept.invariant ∙ kept-dropped test c.args.notices.now c.loop-kept.kept-index k c.loop-kept-test.true c.kept-item.is ∙ kept-first test k (drop (c.loop-kept.kept-index + 1) c.args.notices.now) passes)

pub loop-kept-preserved : goal.loop-kept-preserved
loop-kept-preserved c =
    let test = is_apart c.args.dsi.now.groups in
    let k = c.kept-item.result in
    let fails : is_some (notice_with test k.bytes.items) ≡ false = ap (λ (xs : List ℕ). is_some (notice_with test xs)) (sym c.as_slice.ensures.value) ∙ sym c.is_notice_apart.ensures ∙ c.if-is_notice_apart.false in
    sym (kept-dropped test c.args.notices.now c.loop-kept.kept-index k c.loop-kept-test.true c.kept-item.is ∙ kept-passed test k (drop (c.loop-kept.kept-index + 1) c.args.notices.now) fails) ∙ c.loop-kept.invariant

pub returns : goal.returns
returns c =
    let test = is_apart c.args.dsi.now.groups in
    sym (ap (λ (ks : List Kept). first_kept test (map kept_of ks)) (drop_all c.loop-kept.kept-index c.args.notices.now c.loop-kept-test.false) ∙ first_kept-none test) ∙ c.loop-kept.invariant
