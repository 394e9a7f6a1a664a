use Rattle.ssu_route.proofs.heap.HeapRoute.new.Goals as goal

pub returns : goal.returns
returns c = record {
  stands = λ box file len. rw c.in_ok-route.ensures.ok (c.new.ensures.stands box file len);
}
