use Rattle.std.proofs.Common.{List, sym, subst}
use Rattle.ts_section.specs.Events.{Heard}
use Rattle.ssu_route.specs.Route.{Stands}
use Rattle.ssu_route.proofs.Following.{after_one_more}
use Rattle.tool_find.proofs.walk.hear_each.Goals as goal

pub loop-k-preserved : goal.loop-k-preserved
loop-k-preserved c = record {
  stands = λ me heard runs stands.
      let P : List Heard → Type 0 = λ items. Stands me items c.hear-change.new.self in
      subst P (sym (after_one_more c.args.pid c.args.each.now c.loop-k.k c.get.result.now heard c.get.ensures.bytes))
      (c.hear-change.ensures.stands me _ (c.loop-k.invariant.stands me heard runs stands) runs);
}
