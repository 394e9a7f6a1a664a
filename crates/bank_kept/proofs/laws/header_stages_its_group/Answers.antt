use Rattle.bank_kept.proofs.CallLaws.{headed_free, headed_group, headed_lost, headed_none}
use Rattle.bank_kept.proofs.laws.header_stages_its_group.Goals as goal

pub returns : goal.returns
returns c = record { torn = headed_none; done = headed_group; none_lost = headed_lost; all_free = headed_free }
