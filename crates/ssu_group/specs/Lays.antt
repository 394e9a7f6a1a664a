-- The plan that a DII gives.
use Rattle.std.specs.Prelude.{◌≡◌}
use Rattle.dsmcc_msg.specs.Control.{DiiFields}
use Rattle.ssu_group.specs.Plan.{laid_out}
use Rattle.ssu_group.specs.declared.group_plan.GroupPlan.{GroupPlan}

pub record IsPlanOf (dii : DiiFields) (plan : GroupPlan) : Type 0 where
  pub download : plan.download ≡ dii.download
  pub block_size : plan.block_size ≡ dii.block_size
  pub modules : plan.modules.items ≡ laid_out dii.block_size 0 0 dii.modules
