use Rattle.ssu_loader.proofs.OpenedLaws.{group_opened, opened_group, opened_place, place_opened}
use Rattle.ssu_loader.proofs.life.opening_is_what_is_staged.Goals as goal

pub returns : goal.returns
returns c = record {
  message = λ keeps g x b limits boots. opened_group g x b limits boots keeps;
  bytes = λ keeps g x b limits boots. opened_place g x b limits boots keeps;
  told_message = group_opened;
  told_bytes = place_opened;
}
