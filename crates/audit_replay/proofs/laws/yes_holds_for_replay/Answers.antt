use Rattle.std.proofs.Common.{◌++◌}
use Rattle.audit_replay.proofs.Collecting.{one_image}
use Rattle.audit_replay.proofs.laws.yes_holds_for_replay.Goals as goal

pub returns : goal.returns
returns c = λ calls counts undecided ends me left left_after g x y chosen t pid audited.
    record {
      taken = t.hears.earlier ++ t.hears.packet;
      takes = t.hears.takes;
      image = t.image;
      reaches = t.hears.now;
      installs = t.installs;
      one = λ dii collects listed.
          one_image calls counts undecided ends me _ chosen t.image pid dii collects (audited (t.hears.earlier ++ t.hears.packet) t.hears.takes) listed;
    }
