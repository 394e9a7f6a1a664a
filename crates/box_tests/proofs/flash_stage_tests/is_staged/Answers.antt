use Rattle.std.proofs.Common.{◌≡◌, ℕ, None, subst}
use Rattle.dsmcc_msg.proofs.Exact.{dii_message_exact}
use Rattle.ssu_group.specs.Refusal.{refusal}
use Rattle.box_tests.proofs.flash_stage_tests.is_staged.Goals as goal

pub staged-requires-clause-usable : goal.staged-requires-clause-usable
staged-requires-clause-usable g c = record {
  dii = c.in-Some.dii;
  reads = dii_message_exact.again c.in-Some.dii c.args.message.now c.in-Some.ensures.found;
  usable = subst (λ (n : ℕ). refusal c.in-Some.dii n ≡ None) c.bank_len.ensures.value c.in-Ok.ensures.usable.0;
}
