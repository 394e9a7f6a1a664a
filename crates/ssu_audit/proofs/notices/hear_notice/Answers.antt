use Rattle.std.proofs.Common.{◌≡◌, not, false, map, sym, ap, ◌∙◌}
use Rattle.std.specs.List.{list_any}
use Rattle.std.specs.Option.{is_some, option_map, option_or}
use Rattle.ssu_unt.specs.Table.{UntFields, unt}
use Rattle.ssu_unt.specs.Views.{unt_view}
use Rattle.ssu_audit.specs.Kept.{first_kept, has_bytes, kept_of}
use Rattle.ssu_audit.specs.Said.{notice_with}
use Rattle.ssu_audit.proofs.Beginning.{kept-again, kept-pushed, kept-silent, notice-none, reads-none}
use Rattle.ssu_audit.proofs.notices.hear_notice.Goals as goal
use Rattle.ssu_audit.proofs.notices.hear_notice.Goals.{then-is_none-via-then-is_none, then-is_none-via-else-is_none+then-is_kept}

pub returns-then-is_none-clause-kept : goal.returns-then-is_none-clause-kept
returns-then-is_none-clause-kept c = λ test.
    let ks = c.args.notices.now.items in
    let section = c.args.section.now in
    elim c.then-is_none.branch as (λ _. first_kept test (map kept_of ks) ≡ option_or (first_kept test (map kept_of ks)) (option_map (λ (u : UntFields). c.args.number) (notice_with test section))) [
      | then-is_none-via-then-is_none w ↦
          let none : is_some c.read.result ≡ false = c.is_none.ensures ∙ ap not w.if-is_none.true in
          kept-silent test (map kept_of ks) c.args.number section
          (notice-none test section (reads-none unt_view c.read.result (unt.of section) c.read.ensures.reads none))
      | then-is_none-via-else-is_none+then-is_kept w ↦
          kept-again test ks c.args.number section
          (ap (list_any (has_bytes section)) (sym w.as_slice.ensures.value) ∙ sym w.is_kept.ensures ∙ w.if-is_kept.true)
    ]

pub returns-clause-kept : goal.returns-clause-kept
returns-clause-kept c = λ test.
    kept-pushed test c.args.notices.now.items c.push.new.self.items c.in_ok-kept.kept c.args.number c.args.section.now c.in_ok-push.ensures.items c.in_ok-kept.ensures
