use Rattle.std.proofs.Common.{◌≡◌, Bool, false, true, refl, ◌∙◌, ap, Some}
use Rattle.std.specs.Prelude.{map, not, is_some}
use Rattle.ssu_group.specs.Refusal.{refusal}
use Rattle.ssu_route.specs.declared.kept.Kept.{Kept}
use Rattle.ssu_route.specs.Kept.{mark_if}
use Rattle.ssu_route.specs.Route.{Takes, is_first}
use Rattle.ssu_route.proofs.TakingLaws.{first_refused, take_other, take_chosen}
use Rattle.ssu_route.proofs.kept.Kept.plan_dii.Goals as goal

pub returns-in-Err : goal.returns-in-Err
returns-in-Err c = record {
  takes = λ planned other.
      let d = c.args.dii.now in
      let mid : Kept = record { groups = c.mark.new.groups; choice = c.args.self.now.choice } in
      let marks : mid.groups.items ≡ map (mark_if d.transaction false) c.args.self.now.groups.items =
      c.mark.ensures ∙ ap (λ g. map (mark_if g false) c.args.self.now.groups.items) c.group_of.ensures in
      let says : false ≡ not (is_some (refusal d c.args.bank_len)) = rw c.in-Err.ensures.refused refl in
      let first : is_first d.transaction mid.groups.items ≡ false = ap (is_first d.transaction) marks ∙ first_refused d.transaction c.args.self.now.groups.items in
      take_other c.args.bank_len d false c.args.self.now mid c.end_lapsed.new.self c.end_lapsed.result marks refl says first c.end_lapsed.ensures planned;
}

pub returns-in-Ok : goal.returns-in-Ok
returns-in-Ok c = record {
  takes = λ planned other.
      let d = c.args.dii.now in
      let mid : Kept = record { groups = c.mark-in-Ok.new.groups; choice = c.args.self.now.choice } in
      let marks : mid.groups.items ≡ map (mark_if d.transaction true) c.args.self.now.groups.items =
      c.mark-in-Ok.ensures ∙ ap (λ g. map (mark_if g true) c.args.self.now.groups.items) c.group_of-in-Ok.ensures in
      let says : true ≡ not (is_some (refusal d c.args.bank_len)) = rw c.in-Ok.ensures.usable.0 refl in
      let by_first : (b : Bool) → is_first d.transaction mid.groups.items ≡ b → Takes c.args.bank_len (Some d) c.args.self.now c.choose_if_wanted.new.self c.choose_if_wanted.result =
      elim [
        | true ↦ λ e. take_chosen c.args.bank_len d c.in-Ok.plan c.args.self.now mid c.choose_if_wanted.new.self c.choose_if_wanted.result marks c.in-Ok.ensures.usable.0 c.in-Ok.ensures.usable.1
            e c.requires.read other (c.choose_if_wanted.ensures.first e)
        | false ↦ λ e. take_other c.args.bank_len d true c.args.self.now mid c.choose_if_wanted.new.self c.choose_if_wanted.result marks refl says e (c.choose_if_wanted.ensures.other e) planned
      ] in
      by_first (is_first d.transaction mid.groups.items) refl;
}
