use Rattle.std.specs.Prelude.{◌↔◌, IfOk, IsTrue}
use Rattle.std.proofs.Common.{◌+◌, List, ℕ, subst}
use Rattle.flash_bank.specs.Bank.{spare_journal}
use Rattle.flash_dev.specs.Changes.{Holds}
use Rattle.flash_journal.proofs.header.pairs_stand.Goals as goal

pub returns-clause-found : goal.returns-clause-found
returns-clause-found g c tells =
    subst (λ (w : List ℕ). IfOk c.bytes_stand.result (λ yes. IsTrue yes ↔ Holds (g.F.Flash.contents c.args.flash.now) (spare_journal c.args.bank.now + c.args.at) w)) c.put_pairs.ensures (c.bytes_stand.ensures.found tells)
