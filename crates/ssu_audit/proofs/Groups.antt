-- What stands against groups, one after the other.
use Rattle.std.proofs.Common.{List, [], ◌∷◌, Option, Some, None, refl}
use Rattle.audit_answer.specs.declared.answers.AuditNo.{AuditNo}
use Rattle.dsmcc_msg.specs.Control.{GroupFields}
use Rattle.ssu_audit.specs.Calls.{Call}
use Rattle.ssu_audit.specs.Ending.{AgainstGroup, AgainstGroups}

pub groups-none : (calls : List Call) → AgainstGroups calls [] None
unfolding AgainstGroups
groups-none calls = refl

pub groups-found : (calls : List Call) (g : GroupFields) (later : List GroupFields) (fact : AuditNo) → AgainstGroup calls g.id g.size (Some fact)
    → AgainstGroups calls (g ∷ later) (Some fact)
unfolding AgainstGroups
groups-found calls g later fact own = (Some fact, (own, refl))

pub groups-later : (calls : List Call) (g : GroupFields) (later : List GroupFields) (answer : Option AuditNo) → AgainstGroup calls g.id g.size None
    → AgainstGroups calls later answer → AgainstGroups calls (g ∷ later) answer
unfolding AgainstGroups
groups-later calls g later answer own others = (None, (own, others))
