use Rattle.std.proofs.Common.{arith, subst}
use Rattle.broadcast_laws.specs.Planned.{IsGroupInRange}
use Rattle.broadcast.proofs.ranges.read_group.Goals as goal

pub returns : goal.returns
returns c =
    let count = c.count-files.ensures.value in
    let few = c.count-files.ensures.few in
    subst IsGroupInRange c.group.view_is (record {
      model = c.half-model.ensures.range;
      version = c.half-version.ensures.range;
      software_model = c.half-software_model.ensures.range;
      software_version = c.half-software_version.ensures.range;
      block_some = c.group.invariant.block_some;
      block_most = c.group.invariant.block_most;
      module_version = c.byte-module_version.ensures.range;
      few_modules = omega (arith, count, few);
    })
