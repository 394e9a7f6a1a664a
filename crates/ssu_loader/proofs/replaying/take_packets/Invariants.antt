use Rattle.std.proofs.Common.{◌≤◌, ◌-◌}
use Rattle.ts_input.specs.Packets.{most_packets}
use Rattle.ssu_loader.proofs.TakingLaws.{SoFar}
use Rattle.ssu_loader.proofs.replaying.take_packets.Given as goal

abbrev pub invariant-loop-loader : goal.invariant-loop-loader
invariant-loop-loader g l = record {
  so_far : SoFar g.S.Stage g.F.Flash l.input.count l.fn.loader l.loader l.fn.flash l.flash (g.A.Source.left l.fn.air) (g.A.Source.left l.air);
  within : l.input.count ≤ most_packets;
  air_later : g.A.Source.faults l.fn.air ≤ g.A.Source.faults l.air;
  flash_later : g.F.Flash.faults l.fn.flash ≤ g.F.Flash.faults l.flash;
}

abbrev pub decreases-loop-loader : goal.decreases-loop-loader
decreases-loop-loader g l = most_packets - l.input.count
