use Rattle.std.proofs.Common.{refl, sym, subst, ◌∙◌}
use Rattle.std.proofs.lemmas.Bool.{eq-eqb}
use Rattle.flash_dev.proofs.Moments.{started}
use Rattle.group_image.specs.Image.{bytes_at}
use Rattle.flash_stage.specs.Ram.{bytes_in}
use Rattle.flash_bank.proofs.LeavingLemmas.{keeps_boot_same}
use Rattle.flash_bank.specs.Bank.{geometry_of}
use Rattle.flash_bank.specs.Leaving.{KeepsBoot}
use Rattle.flash_stage.proofs.RamLemmas.{new_text, old_text, plan_in, still_outline, still_started}
use Rattle.bank_kept.specs.Leaving.{HoldsNoMore}
use Rattle.flash_stage.proofs.KeptLaws.{same_no_more}
use Rattle.flash_stage.proofs.ram_stage.RamStageStage.offer.Goals as goal

pub offer-requires-clause-place : goal.offer-requires-clause-place
offer-requires-clause-place g c = record {
  plan = plan_in c.args.self.now c.args._bank.now c.requires.ready;
  is_for = record { places = refl; total = refl };
  is_place = c.requires.place;
}

pub invariant_of-self : goal.invariant_of-self
invariant_of-self g c = record { room = λ plan fits. c.offer.ensures.room plan (c.args.self.now.room plan fits); kept = c.args.self.now.kept }

pub returns-clause-ready : goal.returns-clause-ready
returns-clause-ready g c = still_started c.args.self.now _ c.args._bank.now c.requires.ready refl refl (c.offer.ensures.plan (plan_in c.args.self.now c.args._bank.now c.requires.ready) (record { places = refl; total = refl }))

pub returns-clause-plan : goal.returns-clause-plan
returns-clause-plan g c = still_outline c.args.self.now c.offer.new.self c.args._bank.now c.requires.ready (c.offer.ensures.plan (plan_in c.args.self.now c.args._bank.now c.requires.ready) (record { places = refl; total = refl }))

pub returns-clause-new_bytes : goal.returns-clause-new_bytes
unfolding bytes_in bytes_at
returns-clause-new_bytes g c tells free =
    c.offer.ensures.bytes (plan_in c.args.self.now c.args._bank.now c.requires.ready) c.requires.place c.args.place.number
    ∙ new_text _ _ _ _ (eq-eqb c.args.place.number c.args.place.number refl) free

pub returns-clause-old_bytes : goal.returns-clause-old_bytes
unfolding bytes_in bytes_at
returns-clause-old_bytes g c tells number there =
    c.offer.ensures.bytes (plan_in c.args.self.now c.args._bank.now c.requires.ready) c.requires.place number
    ∙ old_text _ _ _ _ there

pub returns-clause-left : goal.returns-clause-left
returns-clause-left g c tells =
    let F = g.F.Flash in
    let b = c.args._bank.now in
    let f = c.args._flash.now in
    let P = KeepsBoot (geometry_of b) (F.contents f) in
    started F.moment F.left_since f P (λ y left. subst P (sym (g.met.F.Flash.only_now f y left)) (keeps_boot_same (geometry_of b) (F.contents f) (c.requires.lent.fits tells).sound))

pub returns-clause-one_more_left : goal.returns-clause-one_more_left
returns-clause-one_more_left g c tells =
    let F = g.F.Flash in
    let b = c.args._bank.now in
    let f = c.args._flash.now in
    let P = HoldsNoMore (geometry_of b) (F.contents f) in
    started F.moment F.left_since f P (λ y left. subst P (sym (g.met.F.Flash.only_now f y left)) (same_no_more (geometry_of b) (F.contents f)))
