use Rattle.ssu_loader.proofs.LifeLaws.{boots_after, held_after}
use Rattle.ssu_loader.proofs.life.life_holds.Goals as goal

pub returns : goal.returns
returns c = record {
  boot = λ g x y replays b. boots_after g x y replays b;
  held = λ g x y replays. held_after g x replays y;
}
