use Rattle.flash_bank.proofs.LeavingLemmas.{keeps_boot_joined, keeps_boot_same, keeps_then_installs}
use Rattle.flash_stage.proofs.LeavingLaws.{finish_joined}
use Rattle.flash_stage.proofs.laws.calls_go_on.Goals as goal

pub returns : goal.returns
returns c = record { none = keeps_boot_same; more = keeps_boot_joined; finish = finish_joined; installs = keeps_then_installs }
