use Rattle.std.proofs.Common.{◌≡◌, Option, Some, None, true, sym, ap, ◌∙◌, arith}
use Rattle.std.specs.Option.{option_map}
use Rattle.dsmcc_msg.specs.declared.ddb.Ddb.{Ddb}
use Rattle.dsmcc_msg.specs.Block.{DdbFields, ddb}
use Rattle.dsmcc_msg.specs.View.{ddb_view}
use Rattle.ssu_group.specs.Place.{place_of}
use Rattle.group_image.specs.Image.{is_there}
use Rattle.group_image.proofs.ImageLaws.{place_inside, placed_len}
use Rattle.ssu_group.proofs.Filling.{brings_no_block, brings_no_place}
use Rattle.tool_load.specs.Growing.{Fills}
use Rattle.tool_load.proofs.BlocksLaws.{holds_same, holds_more, holds_again}
use Rattle.tool_load.proofs.GrowingLaws.{kept_at, own_at, reaches_more}
use Rattle.tool_load.proofs.blocks.Blocks.take.Goals as goal

abbrev seen : Option Ddb → Option DdbFields
seen o = option_map ddb_view o

pub returns-in_default-clause-holds : goal.returns-in_default-clause-holds
returns-in_default-clause-holds c = λ window holds.
    let no_block : ddb.of c.args.section.now ≡ None = sym c.ddb_of.ensures.reads ∙ ap seen c.in_default.is in
    holds_same c.args.self.now.plan c.args.self.now.image window c.args.section.now (λ n. brings_no_block c.args.self.now.plan n c.args.section.now no_block) holds

pub put-requires-clause-length : goal.put-requires-clause-length
put-requires-clause-length c = placed_len c.args.self.now.plan (ddb_view c.in-Some.ddb) c.in-Some-place.place (sym c.place.ensures.exact ∙ c.in-Some-place.is)

pub take-requires-clause-small : goal.take-requires-clause-small
take-requires-clause-small c =
    let plan = c.args.self.now.plan in
    let inside = place_inside plan c.in-Some-place.place c.in-Some-place.ensures.of_the_plan in
    let most = plan.planned.most_bytes in
    omega (arith, inside, most)

pub invariant_of-self : goal.invariant_of-self
invariant_of-self c =
    let plan = c.args.self.now.plan in
    let old = c.args.self.now.image in
    let new = c.put.new.self in
    let place = c.in-Some-place.place in
    let bytes = c.in-Some.ddb.bytes.now in
    let fills : Fills plan old place bytes new = record {
      is_place = c.in-Some-place.ensures.of_the_plan;
      long = placed_len plan (ddb_view c.in-Some.ddb) place (sym c.place.ensures.exact ∙ c.in-Some-place.is);
      missing = sym c.has.ensures ∙ c.if-not-has.true;
      there = c.put.ensures.there;
      filled = c.put.ensures.bytes;
    } in
    record {
      is_for = c.put.ensures.plan plan c.args.self.now.is_for;
      reaches = reaches_more plan old new place bytes fills c.args.self.now.reaches;
      summed = c.take.ensures plan old new fills c.args.self.now.summed;
    }

pub returns-then-not-has-clause-holds : goal.returns-then-not-has-clause-holds
returns-then-not-has-clause-holds c = λ window holds.
    let plan = c.args.self.now.plan in
    let old = c.args.self.now.image in
    let new = c.put.new.self in
    let place = c.in-Some-place.place in
    let d = ddb_view c.in-Some.ddb in
    let block : ddb.of c.args.section.now ≡ Some d = sym c.ddb_of.ensures.reads ∙ ap seen c.in-Some.is in
    let placed : place_of plan d ≡ Some place = sym c.place.ensures.exact ∙ c.in-Some-place.is in
    let fills : Fills plan old place d.bytes new = record {
      is_place = c.in-Some-place.ensures.of_the_plan;
      long = placed_len plan d place placed;
      missing = sym c.has.ensures ∙ c.if-not-has.true;
      there = c.put.ensures.there;
      filled = c.put.ensures.bytes;
    } in
    holds_more plan old new window c.args.section.now d place block placed c.put.ensures.there
    (λ n same none. own_at plan old new place d.bytes fills n same)
    (λ n there. kept_at plan old new place d.bytes fills c.args.self.now.reaches n there) holds

pub returns-else-not-has-clause-holds : goal.returns-else-not-has-clause-holds
returns-else-not-has-clause-holds c = λ window holds.
    let plan = c.args.self.now.plan in
    let place = c.in-Some-place.place in
    let d = ddb_view c.in-Some.ddb in
    let block : ddb.of c.args.section.now ≡ Some d = sym c.ddb_of.ensures.reads ∙ ap seen c.in-Some.is in
    let placed : place_of plan d ≡ Some place = sym c.place.ensures.exact ∙ c.in-Some-place.is in
    let there : is_there c.args.self.now.image place.number ≡ true = sym c.has.ensures ∙ c.if-not-has.false in
    holds_again plan c.args.self.now.image window c.args.section.now d place block placed there holds

pub returns-in_default-place-clause-holds : goal.returns-in_default-place-clause-holds
returns-in_default-place-clause-holds c = λ window holds.
    let plan = c.args.self.now.plan in
    let d = ddb_view c.in-Some.ddb in
    let block : ddb.of c.args.section.now ≡ Some d = sym c.ddb_of.ensures.reads ∙ ap seen c.in-Some.is in
    let no_place : place_of plan d ≡ None = sym c.place.ensures.exact ∙ c.in_default-place.is in
    holds_same plan c.args.self.now.image window c.args.section.now (λ n. brings_no_place plan n c.args.section.now d block no_place) holds
