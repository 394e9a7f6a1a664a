use Rattle.std.proofs.Common.{◌≡◌, sym, false, true, ◌∙◌, ap}
use Rattle.std.specs.List.{list_any}
use Rattle.ssu_route.specs.Kept.{has_group}
use Rattle.ssu_route.specs.Route.{is_held}
use Rattle.ssu_route.proofs.TakingLaws.{take_held, take_unlisted}
use Rattle.ssu_route.proofs.kept.Kept.take_dii.Goals as goal

pub returns-then-holds : goal.returns-then-holds
returns-then-holds c = record {
  takes = λ usable offers groups planned.
      let is : is_held c.args.dii.now.message c.args.self.now ≡ true =
      ap (λ m. is_held m c.args.self.now) (sym c.message.ensures) ∙ sym c.holds.ensures ∙ c.if-holds.true in
      take_held c.args.bank_len c.args.dii.now c.args.self.now usable offers groups planned c.requires.read is;
}

pub returns-then-not-lists : goal.returns-then-not-lists
returns-then-not-lists c = record {
  takes = λ usable offers groups planned.
      let unlisted : list_any (has_group c.args.dii.now.transaction) c.args.self.now.groups.items ≡ false =
      ap (λ g. list_any (has_group g) c.args.self.now.groups.items) (sym c.group_of.ensures)
      ∙ ap (list_any (has_group c.group_of.result)) (sym c.as_slice.ensures.value) ∙ sym c.lists.ensures ∙ c.if-not-lists.true in
      take_unlisted c.args.bank_len c.args.dii.now c.args.self.now unlisted planned;
}
