use Rattle.std.proofs.Common.{◌<◌, arith}
use Rattle.std.proofs.lemmas.List.Elements.{All-push, All-same}
use Rattle.head_carousel.specs.WellMade.{IsReady}
use Rattle.head_carousel.proofs.listing.add.Goals as goal

pub returns-clause-ready : goal.returns-clause-ready
returns-clause-ready c =
    let pid : c.args.pid < 8192 = omega (arith, c.get.ensures.number, c.get.ensures.bound) in
    λ all. All-same IsReady _ _ c.in_ok-push.ensures.items (All-push IsReady _ _ all (record { made = c.requires.made; period = c.requires.period; pid = pid }))
