use Rattle.bank_kept.proofs.BankLaws.{bank_area, committed_area, headed_done, headed_place, resumed_area, spared_done, spared_head, spared_slot}
use Rattle.bank_kept.proofs.laws.calls_change_their_part.Goals as goal

pub returns : goal.returns
returns c = record {
  area = bank_area;
  spared = spared_slot;
  spared_done = spared_done;
  spared_head = spared_head;
  headed = headed_place;
  headed_done = headed_done;
  resumed = resumed_area;
  committed = committed_area;
}
