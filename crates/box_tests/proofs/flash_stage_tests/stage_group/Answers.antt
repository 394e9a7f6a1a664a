use Rattle.std.proofs.Common.{◌≡◌, ℕ, None, subst}
use Rattle.dsmcc_msg.proofs.Exact.{dii_message_exact}
use Rattle.ssu_group.specs.Refusal.{refusal}
use Rattle.box_tests.proofs.flash_stage_tests.stage_group.Goals as goal

pub start-requires-clause-of_message : goal.start-requires-clause-of_message
start-requires-clause-of_message g c = record {
  dii = c.in-Some.dii;
  reads = dii_message_exact.again c.in-Some.dii c.args.message.now c.in-Some.ensures.found;
  usable = subst (λ (n : ℕ). refusal c.in-Some.dii n ≡ None) c.bank_len.ensures.value c.in-Ok.ensures.usable.0;
  lays = c.in-Ok.ensures.usable.1;
}
