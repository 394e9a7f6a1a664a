use Rattle.std.proofs.Common.{◌≡◌, Option, Some, None, sym, ap, ◌∙◌}
use Rattle.std.specs.Option.{option_map, is_some}
use Rattle.bank_kept.specs.Leaving.{KeepsStaged}
use Rattle.bank_kept.proofs.CallLaws.{kept_weaker}
use Rattle.dsmcc_msg.specs.declared.ddb.Ddb.{Ddb}
use Rattle.dsmcc_msg.specs.Block.{DdbFields, ddb}
use Rattle.dsmcc_msg.specs.View.{ddb_view}
use Rattle.flash_bank.proofs.LeavingLemmas.{keeps_boot_same}
use Rattle.flash_bank.specs.Bank.{geometry_of}
use Rattle.flash_bank.specs.Leaving.{KeepsBoot}
use Rattle.flash_dev.proofs.Moments.{weaker}
use Rattle.flash_stage.specs.Keeping.{HoldsOffered}
use Rattle.ssu_group.specs.Place.{place_of}
use Rattle.group_image.proofs.ImageLaws.{placed_len}
use Rattle.group_image.proofs.LengthLaws.{brought_len, either_len}
use Rattle.ssu_group.specs.Carried.{brings}
use Rattle.ssu_loader.proofs.AnsweringLaws.{both_at_ok, inside_ok}
use Rattle.ssu_loader.proofs.LeftLaws.{left_now}
use Rattle.ssu_group.proofs.Filling.{brings_no_block, brings_no_place}
use Rattle.ssu_loader.proofs.FillingLaws.{filling_same, has_more, includes_more, text_more}
use Rattle.ssu_loader.proofs.StagedLaws.{holds_offered, holds_same, staged_same}
use Rattle.ssu_loader.specs.Staging.{HoldsWithSection}
use Rattle.ssu_loader.proofs.blocks.take_block.Goals as goal

abbrev seen : Option Ddb → Option DdbFields
seen o = option_map ddb_view o

pub returns-in_default-clause-filled : goal.returns-in_default-clause-filled
returns-in_default-clause-filled g c = λ fills filled n below.
    let plan = c.args.plan.now in
    let no_block : ddb.of c.args.section.now ≡ None = sym c.ddb_of.ensures ∙ ap seen c.in_default.is in
    filled n below ∙ sym (ap is_some (filling_same plan fills c.args.section.now (λ k. brings_no_block plan k c.args.section.now no_block) n))

pub returns-in_default-clause-bytes : goal.returns-in_default-clause-bytes
returns-in_default-clause-bytes g c = λ tells fills filled holds.
    let plan = c.args.plan.now in
    let no_block : ddb.of c.args.section.now ≡ None = sym c.ddb_of.ensures ∙ ap seen c.in_default.is in
    let same = filling_same plan fills c.args.section.now (λ k. brings_no_block plan k c.args.section.now no_block) in
    record {
      lengths = λ n q b at e. holds.lengths n q b at (sym (same n) ∙ e);
      texts = λ n b below e. holds.texts n b below (sym (same n) ∙ e);
    }

pub returns-in_default-place-clause-filled : goal.returns-in_default-place-clause-filled
returns-in_default-place-clause-filled g c = λ fills filled n below.
    let plan = c.args.plan.now in
    let block : ddb.of c.args.section.now ≡ Some (ddb_view c.in-Some.ddb) = sym c.ddb_of.ensures ∙ ap seen c.in-Some.is in
    let no_place : place_of plan (ddb_view c.in-Some.ddb) ≡ None = sym c.place.ensures.exact ∙ c.in_default-place.is in
    filled n below ∙ sym (ap is_some (filling_same plan fills c.args.section.now (λ k. brings_no_place plan k c.args.section.now (ddb_view c.in-Some.ddb) block no_place) n))

pub returns-in_default-place-clause-bytes : goal.returns-in_default-place-clause-bytes
returns-in_default-place-clause-bytes g c = λ tells fills filled holds.
    let plan = c.args.plan.now in
    let block : ddb.of c.args.section.now ≡ Some (ddb_view c.in-Some.ddb) = sym c.ddb_of.ensures ∙ ap seen c.in-Some.is in
    let no_place : place_of plan (ddb_view c.in-Some.ddb) ≡ None = sym c.place.ensures.exact ∙ c.in_default-place.is in
    let same = filling_same plan fills c.args.section.now (λ k. brings_no_place plan k c.args.section.now (ddb_view c.in-Some.ddb) block no_place) in
    record {
      lengths = λ n q b at e. holds.lengths n q b at (sym (same n) ∙ e);
      texts = λ n b below e. holds.texts n b below (sym (same n) ∙ e);
    }

pub returns-in_default-clause-left : goal.returns-in_default-clause-left
returns-in_default-clause-left g c = λ tells.
    let f = g.F.Flash in
    let x = f.contents c.args.flash.now in
    left_now f g.met.F.Flash.only_now c.args.flash.now (KeepsBoot (geometry_of c.args.bank.now) x)
    (keeps_boot_same (geometry_of c.args.bank.now) x (c.requires.works.lent.fits tells).sound)

pub returns-in_default-place-clause-left : goal.returns-in_default-place-clause-left
returns-in_default-place-clause-left g c = λ tells.
    let f = g.F.Flash in
    let x = f.contents c.args.flash.now in
    left_now f g.met.F.Flash.only_now c.args.flash.now (KeepsBoot (geometry_of c.args.bank.now) x)
    (keeps_boot_same (geometry_of c.args.bank.now) x (c.requires.works.lent.fits tells).sound)

pub offer-requires-clause-length : goal.offer-requires-clause-length
offer-requires-clause-length g c = placed_len c.args.plan.now (ddb_view c.in-Some.ddb) c.in-Some-place.place (sym c.place.ensures.exact ∙ c.in-Some-place.is)

pub returns-clause-filled : goal.returns-clause-filled
returns-clause-filled g c =
    let s = g.S.Stage in
    let plan = c.args.plan.now in
    let p = c.in-Some-place.place in
    let block : ddb.of c.args.section.now ≡ Some (ddb_view c.in-Some.ddb) = sym c.ddb_of.ensures ∙ ap seen c.in-Some.is in
    let placed : place_of plan (ddb_view c.in-Some.ddb) ≡ Some p = sym c.place.ensures.exact ∙ c.in-Some-place.is in
    both_at_ok _ _ _ c.offer.result (λ added others fills filled.
    has_more plan c.args.section.now (ddb_view c.in-Some.ddb) p block placed (s.has c.args.stage.now) (s.has c.offer.new.self) fills added others filled)
    c.offer.ensures.added c.offer.ensures.others

pub returns-clause-bytes : goal.returns-clause-bytes
returns-clause-bytes g c = λ tells.
    let s = g.S.Stage in
    let plan = c.args.plan.now in
    let p = c.in-Some-place.place in
    let block : ddb.of c.args.section.now ≡ Some (ddb_view c.in-Some.ddb) = sym c.ddb_of.ensures ∙ ap seen c.in-Some.is in
    let placed : place_of plan (ddb_view c.in-Some.ddb) ≡ Some p = sym c.place.ensures.exact ∙ c.in-Some-place.is in
    let x = g.F.Flash.contents c.args.flash.now in
    let y = g.F.Flash.contents c.offer.new.flash in
    both_at_ok _ _ _ c.offer.result (λ old new fills filled holds.
    record {
      lengths = λ n q b at e. either_len plan n (fills n) (brings plan n c.args.section.now) (λ r d is some. holds.lengths n r d is some) (brought_len plan n c.args.section.now) q b at e;
      texts = text_more plan c.args.section.now (ddb_view c.in-Some.ddb) p block placed (s.has c.args.stage.now)
          (s.bytes_at c.args.stage.now c.args.bank.now x) (s.bytes_at c.offer.new.self c.offer.new.bank y) fills new old filled holds.texts;
    })
    (c.offer.ensures.old_bytes tells) (inside_ok _ _ c.offer.result (c.offer.ensures.new_bytes tells))

pub returns-in_default-clause-includes : goal.returns-in_default-clause-includes
returns-in_default-clause-includes g c = λ fills includes n below some.
    let plan = c.args.plan.now in
    let no_block : ddb.of c.args.section.now ≡ None = sym c.ddb_of.ensures ∙ ap seen c.in_default.is in
    let same = filling_same plan fills c.args.section.now (λ k. brings_no_block plan k c.args.section.now no_block) in
    includes n below (sym (ap is_some (same n)) ∙ some)

pub returns-in_default-clause-one_more : goal.returns-in_default-clause-one_more
returns-in_default-clause-one_more g c = λ tells.
    holds_same g.S.Stage.KEEPS (geometry_of c.args.bank.now) (g.S.Stage.message_of c.args.stage.now) c.args.plan.now c.args.section.now (g.F.Flash.contents c.args.flash.now)

pub returns-in_default-clause-one_more_left : goal.returns-in_default-clause-one_more_left
returns-in_default-clause-one_more_left g c = λ tells.
    let f = g.F.Flash in
    let s = g.S.Stage in
    let x = f.contents c.args.flash.now in
    let blocks = geometry_of c.args.bank.now in
    let message = s.message_of c.args.stage.now in
    left_now f g.met.F.Flash.only_now c.args.flash.now (HoldsWithSection s.KEEPS blocks message c.args.plan.now c.args.section.now x)
    (holds_same s.KEEPS blocks message c.args.plan.now c.args.section.now x)

pub returns-in_default-clause-staged : goal.returns-in_default-clause-staged
returns-in_default-clause-staged g c = λ tells keeps. staged_same (geometry_of c.args.bank.now) (g.F.Flash.contents c.args.flash.now)

pub returns-in_default-clause-staged_held : goal.returns-in_default-clause-staged_held
returns-in_default-clause-staged_held g c = λ tells keeps.
    let x = g.F.Flash.contents c.args.flash.now in
    let blocks = geometry_of c.args.bank.now in
    kept_weaker blocks 1 1 x x (staged_same blocks x)

pub returns-in_default-clause-staged_left : goal.returns-in_default-clause-staged_left
returns-in_default-clause-staged_left g c = λ tells keeps.
    let f = g.F.Flash in
    let x = f.contents c.args.flash.now in
    let blocks = geometry_of c.args.bank.now in
    left_now f g.met.F.Flash.only_now c.args.flash.now (KeepsStaged blocks 1 1 x) (kept_weaker blocks 1 1 x x (staged_same blocks x))

pub returns-in_default-place-clause-includes : goal.returns-in_default-place-clause-includes
returns-in_default-place-clause-includes g c = λ fills includes n below some.
    let plan = c.args.plan.now in
    let block : ddb.of c.args.section.now ≡ Some (ddb_view c.in-Some.ddb) = sym c.ddb_of.ensures ∙ ap seen c.in-Some.is in
    let no_place : place_of plan (ddb_view c.in-Some.ddb) ≡ None = sym c.place.ensures.exact ∙ c.in_default-place.is in
    let same = filling_same plan fills c.args.section.now (λ k. brings_no_place plan k c.args.section.now (ddb_view c.in-Some.ddb) block no_place) in
    includes n below (sym (ap is_some (same n)) ∙ some)

pub returns-in_default-place-clause-one_more : goal.returns-in_default-place-clause-one_more
returns-in_default-place-clause-one_more g c = λ tells.
    holds_same g.S.Stage.KEEPS (geometry_of c.args.bank.now) (g.S.Stage.message_of c.args.stage.now) c.args.plan.now c.args.section.now (g.F.Flash.contents c.args.flash.now)

pub returns-in_default-place-clause-one_more_left : goal.returns-in_default-place-clause-one_more_left
returns-in_default-place-clause-one_more_left g c = λ tells.
    let f = g.F.Flash in
    let s = g.S.Stage in
    let x = f.contents c.args.flash.now in
    let blocks = geometry_of c.args.bank.now in
    let message = s.message_of c.args.stage.now in
    left_now f g.met.F.Flash.only_now c.args.flash.now (HoldsWithSection s.KEEPS blocks message c.args.plan.now c.args.section.now x)
    (holds_same s.KEEPS blocks message c.args.plan.now c.args.section.now x)

pub returns-in_default-place-clause-staged : goal.returns-in_default-place-clause-staged
returns-in_default-place-clause-staged g c = λ tells keeps. staged_same (geometry_of c.args.bank.now) (g.F.Flash.contents c.args.flash.now)

pub returns-in_default-place-clause-staged_held : goal.returns-in_default-place-clause-staged_held
returns-in_default-place-clause-staged_held g c = λ tells keeps.
    let x = g.F.Flash.contents c.args.flash.now in
    let blocks = geometry_of c.args.bank.now in
    kept_weaker blocks 1 1 x x (staged_same blocks x)

pub returns-in_default-place-clause-staged_left : goal.returns-in_default-place-clause-staged_left
returns-in_default-place-clause-staged_left g c = λ tells keeps.
    let f = g.F.Flash in
    let x = f.contents c.args.flash.now in
    let blocks = geometry_of c.args.bank.now in
    left_now f g.met.F.Flash.only_now c.args.flash.now (KeepsStaged blocks 1 1 x) (kept_weaker blocks 1 1 x x (staged_same blocks x))

pub returns-clause-includes : goal.returns-clause-includes
returns-clause-includes g c =
    let s = g.S.Stage in
    let plan = c.args.plan.now in
    let p = c.in-Some-place.place in
    let block : ddb.of c.args.section.now ≡ Some (ddb_view c.in-Some.ddb) = sym c.ddb_of.ensures ∙ ap seen c.in-Some.is in
    let placed : place_of plan (ddb_view c.in-Some.ddb) ≡ Some p = sym c.place.ensures.exact ∙ c.in-Some-place.is in
    both_at_ok _ _ _ c.offer.result (λ added others fills includes.
    includes_more plan c.args.section.now (ddb_view c.in-Some.ddb) p block placed (s.has c.args.stage.now) (s.has c.offer.new.self) fills added others includes)
    c.offer.ensures.added c.offer.ensures.others

pub returns-clause-one_more : goal.returns-clause-one_more
returns-clause-one_more g c = λ tells.
    let s = g.S.Stage in
    let f = g.F.Flash in
    let block : ddb.of c.args.section.now ≡ Some (ddb_view c.in-Some.ddb) = sym c.ddb_of.ensures ∙ ap seen c.in-Some.is in
    let placed : place_of c.args.plan.now (ddb_view c.in-Some.ddb) ≡ Some c.in-Some-place.place = sym c.place.ensures.exact ∙ c.in-Some-place.is in
    holds_offered s.KEEPS (geometry_of c.args.bank.now) (s.message_of c.args.stage.now) c.args.plan.now c.args.section.now (ddb_view c.in-Some.ddb) c.in-Some-place.place
    (f.contents c.args.flash.now) (f.contents c.offer.new.flash) block placed (c.offer.ensures.one_more tells)

pub returns-clause-one_more_left : goal.returns-clause-one_more_left
returns-clause-one_more_left g c = λ tells.
    let s = g.S.Stage in
    let f = g.F.Flash in
    let x = f.contents c.args.flash.now in
    let blocks = geometry_of c.args.bank.now in
    let message = s.message_of c.args.stage.now in
    let plan = c.args.plan.now in
    let d = ddb_view c.in-Some.ddb in
    let p = c.in-Some-place.place in
    let block : ddb.of c.args.section.now ≡ Some d = sym c.ddb_of.ensures ∙ ap seen c.in-Some.is in
    let placed : place_of plan d ≡ Some p = sym c.place.ensures.exact ∙ c.in-Some-place.is in
    weaker f.moment f.left_since c.args.flash.now c.offer.new.flash (HoldsOffered s.KEEPS blocks message p.number d.bytes x) (HoldsWithSection s.KEEPS blocks message plan c.args.section.now x)
    (λ y offered. holds_offered s.KEEPS blocks message plan c.args.section.now d p x y block placed offered) (c.offer.ensures.one_more_left tells)
