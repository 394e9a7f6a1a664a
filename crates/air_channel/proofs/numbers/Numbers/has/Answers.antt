use Rattle.std.proofs.Common.{◌≡◌, ◌∙◌, rules}
use Rattle.air_channel.proofs.Rising.{is_ok_searched}
use Rattle.air_channel.proofs.numbers.Numbers.has.Goals as goal

pub returns : goal.returns
returns c =
    rw (← c.self.view_is, ← c.as_slice.ensures.value)
    (c.is_ok.ensures.value ∙ is_ok_searched c.as_slice.result.now c.args.number c.binary_search.result c.binary_search.ensures.position (rw c.as_slice.ensures.value c.self.invariant.ascending))
