use Rattle.flash_kept.proofs.HeaderLaws.{held_one}
use Rattle.flash_kept.proofs.ToldLaws.{bytes_told, message_told, staged_gives, staged_told}
use Rattle.flash_kept.proofs.laws.contents_tell_what_is_staged.Goals as goal

pub returns : goal.returns
returns c = record {
  one_message = λ area contents first second a b one two. held_one area contents first second a b one two;
  held = λ area contents message n bytes staged. staged.held;
  message = λ area contents message dii order staged. (staged_told area contents order message dii staged).1;
  told_message = message_told;
  bytes = λ area contents message n bytes order staged. staged_gives area contents order message n bytes staged;
  told_bytes = bytes_told;
}
