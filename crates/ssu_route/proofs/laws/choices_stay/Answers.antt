use Rattle.std.proofs.Common.{◌∙◌}
use Rattle.ssu_route.proofs.LevelSteps.{wanted_is}
use Rattle.ssu_route.proofs.OwnGroup.{choice_same, is_own}
use Rattle.ssu_route.proofs.laws.choices_stay.Goals as goal

pub returns : goal.returns
returns c = record {
  own = λ me heard message h.
      let own = is_own me heard message h in
      record { dii = own.dii; read = own.read; own = wanted_is me heard ∙ own.first; usable = own.usable };
  stays = choice_same;
}
