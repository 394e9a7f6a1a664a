use Rattle.std.proofs.Common.{arith}
use Rattle.wire.proofs.Laws.{only_exact, whole_such_exact}
use Rattle.dsmcc_msg.specs.Message.{has_id}
use Rattle.dsmcc_msg.specs.Control.{dii_id}
use Rattle.dsmcc_msg.proofs.Exact.{message_exact, dii_payload_exact}
use Rattle.dsmcc_msg.proofs.Few.{message_long, payload_long}
use Rattle.dsmcc_msg.proofs.dii.message_of.Goals as goal

pub invariant_of-result : goal.invariant_of-result
invariant_of-result c =
    let message = message_long _ _ ((whole_such_exact (has_id dii_id) (only_exact message_exact)).takes _ _ (c.in_ok-message.ensures {u = tt})).1 in
    let payload = payload_long _ _ (dii_payload_exact.takes _ _ (c.in_ok-payload.ensures {u = tt})) in
    omega arith
