use Rattle.std.proofs.Common.{◌≡◌, ◌<◌, ◌≤◌, ◌+◌, inl, ℕ, Bool, List, Option, Some, false, true, length, refl, sym, ap, subst, ◌∙◌, arith}
use Rattle.std.specs.Prelude.{OnOk}
use Rattle.bank_kept.specs.Bank.{area_of_bank}
use Rattle.bank_kept.specs.Leaving.{HoldsNoMoreBut, KeepsStaged}
use Rattle.dsmcc_msg.specs.Control.{DiiFields}
use Rattle.flash_bank.proofs.LeavingLemmas.{filled_keeps_boot, keeps_boot_same}
use Rattle.flash_bank.specs.Bank.{LeavesFilled, geometry_of, spare_bank}
use Rattle.flash_bank.specs.Leaving.{KeepsBoot}
use Rattle.flash_dev.proofs.Moments.{started, weaker}
use Rattle.flash_dev.specs.Changes.{IsBlank}
use Rattle.flash_kept.specs.Offering.{Offers}
use Rattle.flash_stage.proofs.InBankLemmas.{inside_plan, plan_in_bank}
use Rattle.flash_stage.proofs.KeptLaws.{filled_no_more}
use Rattle.flash_stage.specs.Keeping.{IsKeptIn}
use Rattle.flash_stage.specs.Leaving.{SameBank}
use Rattle.group_image.proofs.ImageLaws.{place_below}
use Rattle.ssu_group.proofs.PlaceLaws.{fill_image}
use Rattle.ssu_group.specs.Map.{marked}
use Rattle.flash_journal.specs.InJournal.{IsBegunFor, has_in_journal, without_journal}
use Rattle.flash_journal.specs.StageLaws.{kept_from}
use Rattle.flash_journal.specs.Storing.{LeavesStored}
use Rattle.flash_journal.specs.Texts.{keeps_places}
use Rattle.flash_journal.specs.declared.journal_stage.JournalStage.{JournalStage}
use Rattle.flash_bank.specs.declared.bank.Bank.{Bank}
use Rattle.flash_journal.proofs.KeptLaws.{kept_same, none_kept, stage_offers}
use Rattle.flash_journal.proofs.OfferLaws.{bytes_same, filled_agrees, filled_new, filled_old, new_text, old_text, stored_agrees, stored_kept, stored_more, stored_staged}
use Rattle.flash_journal.proofs.PlainLaws.{never_kept}
use Rattle.flash_journal.proofs.journal_stage.JournalStageStage.offer.Goals as goal

kept_is : (s : JournalStage) (b : Bank) → IsBegunFor s b → s.keeps ≡ true → IsKeptIn b s.map.places
kept_is s b ready is = kept_from b s.map.places (sym ready.keeps ∙ is)

kept_not : (s : JournalStage) (b : Bank) → IsBegunFor s b → s.keeps ≡ false → IsKeptIn b s.map.places → ⊥
kept_not s b ready is = never_kept b s.map.places (sym ready.keeps ∙ is)

pub has-requires : goal.has-requires
has-requires g c =
    let F = g.F.Flash in
    let s = c.args.self.now in
    let b = c.args.bank.now in
    let p = c.args.place in
    let bytes = c.args.bytes.now in
    let x = F.contents c.args.flash.now in
    let ready = c.requires.ready in
    place_below (plan_in_bank (without_journal s) b ready.begun) p.number p c.requires.place

pub mark-requires : goal.mark-requires
mark-requires g c =
    let F = g.F.Flash in
    let s = c.args.self.now in
    let b = c.args.bank.now in
    let p = c.args.place in
    let bytes = c.args.bytes.now in
    let x = F.contents c.args.flash.now in
    let ready = c.requires.ready in
    place_below (plan_in_bank (without_journal s) b ready.begun) p.number p c.requires.place

pub mark-requires-2 : goal.mark-requires-2
mark-requires-2 g c =
    let F = g.F.Flash in
    let s = c.args.self.now in
    let b = c.args.bank.now in
    let p = c.args.place in
    let bytes = c.args.bytes.now in
    let x = F.contents c.args.flash.now in
    let ready = c.requires.ready in
    place_below (plan_in_bank (without_journal s) b ready.begun) p.number p c.requires.place

pub returns-then-has-clause-held : goal.returns-then-has-clause-held
returns-then-has-clause-held g c tells =
    let F = g.F.Flash in
    let s = c.args.self.now in
    let b = c.args.bank.now in
    let p = c.args.place in
    let bytes = c.args.bytes.now in
    let x = F.contents c.args.flash.now in
    let ready = c.requires.ready in
    keeps_boot_same (geometry_of b) x (c.requires.lent.fits tells).sound

pub returns-then-has-clause-left : goal.returns-then-has-clause-left
returns-then-has-clause-left g c tells =
    let F = g.F.Flash in
    let s = c.args.self.now in
    let b = c.args.bank.now in
    let p = c.args.place in
    let bytes = c.args.bytes.now in
    let x = F.contents c.args.flash.now in
    let ready = c.requires.ready in
    let f = c.args.flash.now in
    let P = KeepsBoot (geometry_of b) x in
    started F.moment F.left_since f P (λ y left. subst P (sym (g.met.F.Flash.only_now f y left)) (keeps_boot_same (geometry_of b) x (c.requires.lent.fits tells).sound))

pub returns-then-has-clause-one_more_left : goal.returns-then-has-clause-one_more_left
returns-then-has-clause-one_more_left g c tells =
    let F = g.F.Flash in
    let s = c.args.self.now in
    let b = c.args.bank.now in
    let p = c.args.place in
    let bytes = c.args.bytes.now in
    let x = F.contents c.args.flash.now in
    let ready = c.requires.ready in
    let f = c.args.flash.now in
    let P = HoldsNoMoreBut (geometry_of b) s.message.items p.number bytes x in
    started F.moment F.left_since f P (λ y left. subst P (sym (g.met.F.Flash.only_now f y left)) (λ other n v holds. inl holds))

pub returns-then-has-clause-staged_left : goal.returns-then-has-clause-staged_left
returns-then-has-clause-staged_left g c tells is =
    let F = g.F.Flash in
    let s = c.args.self.now in
    let b = c.args.bank.now in
    let p = c.args.place in
    let bytes = c.args.bytes.now in
    let x = F.contents c.args.flash.now in
    let ready = c.requires.ready in
    let f = c.args.flash.now in
    let P = KeepsStaged (geometry_of b) 1 1 x in
    started F.moment F.left_since f P (λ y left. subst P (sym (g.met.F.Flash.only_now f y left)) (kept_same (geometry_of b) x 1 1))

pub store-requires-clause-inside : goal.store-requires-clause-inside
store-requires-clause-inside g c =
    let F = g.F.Flash in
    let s = c.args.self.now in
    let b = c.args.bank.now in
    let p = c.args.place in
    let bytes = c.args.bytes.now in
    let x = F.contents c.args.flash.now in
    let ready = c.requires.ready in
    let inside = inside_plan (plan_in_bank (without_journal s) b ready.begun) p.number p c.requires.place in
    omega (arith, inside, ready.begun.fits)

pub store-requires-clause-some : goal.store-requires-clause-some
store-requires-clause-some g c =
    let F = g.F.Flash in
    let s = c.args.self.now in
    let b = c.args.bank.now in
    let p = c.args.place in
    let bytes = c.args.bytes.now in
    let x = F.contents c.args.flash.now in
    let ready = c.requires.ready in
    let size = (fill_image s.block_size s.modules.items s.map.places s.total ready.begun.planned).not_empty p.number p c.requires.place in let some = size.0 in omega (arith, some)

pub store-requires-clause-few : goal.store-requires-clause-few
store-requires-clause-few g c =
    let F = g.F.Flash in
    let s = c.args.self.now in
    let b = c.args.bank.now in
    let p = c.args.place in
    let bytes = c.args.bytes.now in
    let x = F.contents c.args.flash.now in
    let ready = c.requires.ready in
    let size = (fill_image s.block_size s.modules.items s.map.places s.total ready.begun.planned).not_empty p.number p c.requires.place in let few = size.1 in let most = ready.begun.planned.most in omega (arith, few, most)

pub store-requires-clause-mark : goal.store-requires-clause-mark
store-requires-clause-mark g c =
    let F = g.F.Flash in
    let s = c.args.self.now in
    let b = c.args.bank.now in
    let p = c.args.place in
    let bytes = c.args.bytes.now in
    let x = F.contents c.args.flash.now in
    let ready = c.requires.ready in
    let kept = kept_is s b ready c.if-self.true in
    let below = place_below (plan_in_bank (without_journal s) b ready.begun) p.number p c.requires.place in let few = kept.few in omega (arith, below, few)

pub store-requires-clause-offered : goal.store-requires-clause-offered
store-requires-clause-offered g c tells =
    let F = g.F.Flash in
    let s = c.args.self.now in
    let b = c.args.bank.now in
    let p = c.args.place in
    let bytes = c.args.bytes.now in
    let x = F.contents c.args.flash.now in
    let ready = c.requires.ready in
    let fits = c.requires.lent.fits tells in
    let agrees = c.requires.agrees tells in
    let kept = kept_is s b ready c.if-self.true in
    let free : has_in_journal s p.number ≡ false = sym c.has.ensures ∙ c.if-has.false in
    let is = stage_offers s b x ready fits kept agrees p bytes c.requires.place c.requires.length free in
    record { dii = ready.dii; message = s.message.items; is = is }

pub returns-in_err-store-clause-held : goal.returns-in_err-store-clause-held
returns-in_err-store-clause-held g c tells =
    let F = g.F.Flash in
    let s = c.args.self.now in
    let b = c.args.bank.now in
    let p = c.args.place in
    let bytes = c.args.bytes.now in
    let x = F.contents c.args.flash.now in
    let ready = c.requires.ready in
    let fits = c.requires.lent.fits tells in
    let agrees = c.requires.agrees tells in
    let kept = kept_is s b ready c.if-self.true in
    let free : has_in_journal s p.number ≡ false = sym c.has.ensures ∙ c.if-has.false in
    let is = stage_offers s b x ready fits kept agrees p bytes c.requires.place c.requires.length free in
    let leaves = c.store.ensures.held tells ready.dii s.message.items is in
    leaves.keeps

pub returns-in_err-store-clause-left : goal.returns-in_err-store-clause-left
returns-in_err-store-clause-left g c tells =
    let F = g.F.Flash in
    let s = c.args.self.now in
    let b = c.args.bank.now in
    let p = c.args.place in
    let bytes = c.args.bytes.now in
    let x = F.contents c.args.flash.now in
    let ready = c.requires.ready in
    let fits = c.requires.lent.fits tells in
    let agrees = c.requires.agrees tells in
    let kept = kept_is s b ready c.if-self.true in
    let free : has_in_journal s p.number ≡ false = sym c.has.ensures ∙ c.if-has.false in
    let is = stage_offers s b x ready fits kept agrees p bytes c.requires.place c.requires.length free in
    weaker F.moment F.left_since c.args.flash.now c.store.new.flash (LeavesStored (geometry_of b) (area_of_bank b) ready.dii s.message.items p.number bytes x) _
    (λ y leaves. leaves.keeps) (c.store.ensures.left tells ready.dii s.message.items is)

pub returns-in_err-store-clause-one_more : goal.returns-in_err-store-clause-one_more
returns-in_err-store-clause-one_more g c tells =
    let F = g.F.Flash in
    let s = c.args.self.now in
    let b = c.args.bank.now in
    let p = c.args.place in
    let bytes = c.args.bytes.now in
    let x = F.contents c.args.flash.now in
    let ready = c.requires.ready in
    let fits = c.requires.lent.fits tells in
    let agrees = c.requires.agrees tells in
    let kept = kept_is s b ready c.if-self.true in
    let free : has_in_journal s p.number ≡ false = sym c.has.ensures ∙ c.if-has.false in
    let is = stage_offers s b x ready fits kept agrees p bytes c.requires.place c.requires.length free in
    let leaves = c.store.ensures.held tells ready.dii s.message.items is in
    stored_more s b x _ ready fits kept agrees leaves.keeps.keeps p bytes leaves.offered

pub returns-in_err-store-clause-one_more_left : goal.returns-in_err-store-clause-one_more_left
returns-in_err-store-clause-one_more_left g c tells =
    let F = g.F.Flash in
    let s = c.args.self.now in
    let b = c.args.bank.now in
    let p = c.args.place in
    let bytes = c.args.bytes.now in
    let x = F.contents c.args.flash.now in
    let ready = c.requires.ready in
    let fits = c.requires.lent.fits tells in
    let agrees = c.requires.agrees tells in
    let kept = kept_is s b ready c.if-self.true in
    let free : has_in_journal s p.number ≡ false = sym c.has.ensures ∙ c.if-has.false in
    let is = stage_offers s b x ready fits kept agrees p bytes c.requires.place c.requires.length free in
    weaker F.moment F.left_since c.args.flash.now c.store.new.flash (LeavesStored (geometry_of b) (area_of_bank b) ready.dii s.message.items p.number bytes x) _
    (λ y leaves. stored_more s b x y ready fits kept agrees leaves.keeps.keeps p bytes leaves.offered) (c.store.ensures.left tells ready.dii s.message.items is)

pub returns-in_err-store-clause-staged_held : goal.returns-in_err-store-clause-staged_held
returns-in_err-store-clause-staged_held g c tells keeping =
    let F = g.F.Flash in
    let s = c.args.self.now in
    let b = c.args.bank.now in
    let p = c.args.place in
    let bytes = c.args.bytes.now in
    let x = F.contents c.args.flash.now in
    let ready = c.requires.ready in
    let fits = c.requires.lent.fits tells in
    let agrees = c.requires.agrees tells in
    let kept = kept_is s b ready c.if-self.true in
    let free : has_in_journal s p.number ≡ false = sym c.has.ensures ∙ c.if-has.false in
    let is = stage_offers s b x ready fits kept agrees p bytes c.requires.place c.requires.length free in
    let leaves = c.store.ensures.held tells ready.dii s.message.items is in
    stored_staged s b x _ ready fits kept agrees leaves.keeps.keeps p bytes leaves.offered

pub returns-in_err-store-clause-staged_left : goal.returns-in_err-store-clause-staged_left
returns-in_err-store-clause-staged_left g c tells keeping =
    let F = g.F.Flash in
    let s = c.args.self.now in
    let b = c.args.bank.now in
    let p = c.args.place in
    let bytes = c.args.bytes.now in
    let x = F.contents c.args.flash.now in
    let ready = c.requires.ready in
    let fits = c.requires.lent.fits tells in
    let agrees = c.requires.agrees tells in
    let kept = kept_is s b ready c.if-self.true in
    let free : has_in_journal s p.number ≡ false = sym c.has.ensures ∙ c.if-has.false in
    let is = stage_offers s b x ready fits kept agrees p bytes c.requires.place c.requires.length free in
    weaker F.moment F.left_since c.args.flash.now c.store.new.flash (LeavesStored (geometry_of b) (area_of_bank b) ready.dii s.message.items p.number bytes x) _
    (λ y leaves. stored_staged s b x y ready fits kept agrees leaves.keeps.keeps p bytes leaves.offered) (c.store.ensures.left tells ready.dii s.message.items is)

pub returns-then-self-clause-held : goal.returns-then-self-clause-held
returns-then-self-clause-held g c tells =
    let F = g.F.Flash in
    let s = c.args.self.now in
    let b = c.args.bank.now in
    let p = c.args.place in
    let bytes = c.args.bytes.now in
    let x = F.contents c.args.flash.now in
    let ready = c.requires.ready in
    let fits = c.requires.lent.fits tells in
    let agrees = c.requires.agrees tells in
    let kept = kept_is s b ready c.if-self.true in
    let free : has_in_journal s p.number ≡ false = sym c.has.ensures ∙ c.if-has.false in
    let is = stage_offers s b x ready fits kept agrees p bytes c.requires.place c.requires.length free in
    let leaves = c.store.ensures.held tells ready.dii s.message.items is in
    leaves.keeps

pub returns-then-self-clause-left : goal.returns-then-self-clause-left
returns-then-self-clause-left g c tells =
    let F = g.F.Flash in
    let s = c.args.self.now in
    let b = c.args.bank.now in
    let p = c.args.place in
    let bytes = c.args.bytes.now in
    let x = F.contents c.args.flash.now in
    let ready = c.requires.ready in
    let fits = c.requires.lent.fits tells in
    let agrees = c.requires.agrees tells in
    let kept = kept_is s b ready c.if-self.true in
    let free : has_in_journal s p.number ≡ false = sym c.has.ensures ∙ c.if-has.false in
    let is = stage_offers s b x ready fits kept agrees p bytes c.requires.place c.requires.length free in
    weaker F.moment F.left_since c.args.flash.now c.store.new.flash (LeavesStored (geometry_of b) (area_of_bank b) ready.dii s.message.items p.number bytes x) _
    (λ y leaves. leaves.keeps) (c.store.ensures.left tells ready.dii s.message.items is)

pub returns-then-self-clause-one_more : goal.returns-then-self-clause-one_more
returns-then-self-clause-one_more g c tells =
    let F = g.F.Flash in
    let s = c.args.self.now in
    let b = c.args.bank.now in
    let p = c.args.place in
    let bytes = c.args.bytes.now in
    let x = F.contents c.args.flash.now in
    let ready = c.requires.ready in
    let fits = c.requires.lent.fits tells in
    let agrees = c.requires.agrees tells in
    let kept = kept_is s b ready c.if-self.true in
    let free : has_in_journal s p.number ≡ false = sym c.has.ensures ∙ c.if-has.false in
    let is = stage_offers s b x ready fits kept agrees p bytes c.requires.place c.requires.length free in
    let leaves = c.store.ensures.held tells ready.dii s.message.items is in
    stored_more s b x _ ready fits kept agrees leaves.keeps.keeps p bytes leaves.offered

pub returns-then-self-clause-one_more_left : goal.returns-then-self-clause-one_more_left
returns-then-self-clause-one_more_left g c tells =
    let F = g.F.Flash in
    let s = c.args.self.now in
    let b = c.args.bank.now in
    let p = c.args.place in
    let bytes = c.args.bytes.now in
    let x = F.contents c.args.flash.now in
    let ready = c.requires.ready in
    let fits = c.requires.lent.fits tells in
    let agrees = c.requires.agrees tells in
    let kept = kept_is s b ready c.if-self.true in
    let free : has_in_journal s p.number ≡ false = sym c.has.ensures ∙ c.if-has.false in
    let is = stage_offers s b x ready fits kept agrees p bytes c.requires.place c.requires.length free in
    weaker F.moment F.left_since c.args.flash.now c.store.new.flash (LeavesStored (geometry_of b) (area_of_bank b) ready.dii s.message.items p.number bytes x) _
    (λ y leaves. stored_more s b x y ready fits kept agrees leaves.keeps.keeps p bytes leaves.offered) (c.store.ensures.left tells ready.dii s.message.items is)

pub returns-then-self-clause-staged_held : goal.returns-then-self-clause-staged_held
returns-then-self-clause-staged_held g c tells keeping =
    let F = g.F.Flash in
    let s = c.args.self.now in
    let b = c.args.bank.now in
    let p = c.args.place in
    let bytes = c.args.bytes.now in
    let x = F.contents c.args.flash.now in
    let ready = c.requires.ready in
    let fits = c.requires.lent.fits tells in
    let agrees = c.requires.agrees tells in
    let kept = kept_is s b ready c.if-self.true in
    let free : has_in_journal s p.number ≡ false = sym c.has.ensures ∙ c.if-has.false in
    let is = stage_offers s b x ready fits kept agrees p bytes c.requires.place c.requires.length free in
    let leaves = c.store.ensures.held tells ready.dii s.message.items is in
    stored_staged s b x _ ready fits kept agrees leaves.keeps.keeps p bytes leaves.offered

pub returns-then-self-clause-staged_left : goal.returns-then-self-clause-staged_left
returns-then-self-clause-staged_left g c tells keeping =
    let F = g.F.Flash in
    let s = c.args.self.now in
    let b = c.args.bank.now in
    let p = c.args.place in
    let bytes = c.args.bytes.now in
    let x = F.contents c.args.flash.now in
    let ready = c.requires.ready in
    let fits = c.requires.lent.fits tells in
    let agrees = c.requires.agrees tells in
    let kept = kept_is s b ready c.if-self.true in
    let free : has_in_journal s p.number ≡ false = sym c.has.ensures ∙ c.if-has.false in
    let is = stage_offers s b x ready fits kept agrees p bytes c.requires.place c.requires.length free in
    weaker F.moment F.left_since c.args.flash.now c.store.new.flash (LeavesStored (geometry_of b) (area_of_bank b) ready.dii s.message.items p.number bytes x) _
    (λ y leaves. stored_staged s b x y ready fits kept agrees leaves.keeps.keeps p bytes leaves.offered) (c.store.ensures.left tells ready.dii s.message.items is)

pub returns-then-self-clause-staged : goal.returns-then-self-clause-staged
returns-then-self-clause-staged g c tells keeping =
    let F = g.F.Flash in
    let s = c.args.self.now in
    let b = c.args.bank.now in
    let p = c.args.place in
    let bytes = c.args.bytes.now in
    let x = F.contents c.args.flash.now in
    let ready = c.requires.ready in
    let fits = c.requires.lent.fits tells in
    let agrees = c.requires.agrees tells in
    let kept = kept_is s b ready c.if-self.true in
    let free : has_in_journal s p.number ≡ false = sym c.has.ensures ∙ c.if-has.false in
    let is = stage_offers s b x ready fits kept agrees p bytes c.requires.place c.requires.length free in
    let leaves = c.store.ensures.held tells ready.dii s.message.items is in
    let offers = c.in_ok-store.ensures.stored tells ready.dii s.message.items is in
    stored_kept s b x _ ready fits kept agrees leaves.keeps.keeps p bytes offers

pub returns-then-self-clause-agrees : goal.returns-then-self-clause-agrees
returns-then-self-clause-agrees g c tells =
    let F = g.F.Flash in
    let s = c.args.self.now in
    let b = c.args.bank.now in
    let p = c.args.place in
    let bytes = c.args.bytes.now in
    let x = F.contents c.args.flash.now in
    let ready = c.requires.ready in
    let fits = c.requires.lent.fits tells in
    let agrees = c.requires.agrees tells in
    let kept = kept_is s b ready c.if-self.true in
    let free : has_in_journal s p.number ≡ false = sym c.has.ensures ∙ c.if-has.false in
    let is = stage_offers s b x ready fits kept agrees p bytes c.requires.place c.requires.length free in
    let leaves = c.store.ensures.held tells ready.dii s.message.items is in
    let offers = c.in_ok-store.ensures.stored tells ready.dii s.message.items is in
    stored_agrees s _ b c.store.new.bank x _ ready fits kept agrees leaves.keeps.keeps p bytes offers (record { block_size = refl; modules = refl; places = c.mark.ensures.places; message = refl }) c.store.ensures.same_bank c.mark.ensures.marked

pub returns-then-self-clause-new_bytes : goal.returns-then-self-clause-new_bytes
returns-then-self-clause-new_bytes g c tells none =
    let F = g.F.Flash in
    let s = c.args.self.now in
    let b = c.args.bank.now in
    let p = c.args.place in
    let bytes = c.args.bytes.now in
    let x = F.contents c.args.flash.now in
    let ready = c.requires.ready in
    let fits = c.requires.lent.fits tells in
    let agrees = c.requires.agrees tells in
    let kept = kept_is s b ready c.if-self.true in
    let free : has_in_journal s p.number ≡ false = sym c.has.ensures ∙ c.if-has.false in
    let is = stage_offers s b x ready fits kept agrees p bytes c.requires.place c.requires.length free in
    let leaves = c.store.ensures.held tells ready.dii s.message.items is in
    let offers = c.in_ok-store.ensures.stored tells ready.dii s.message.items is in
    bytes_same s _ b c.store.new.bank _ p.number (record { block_size = refl; modules = refl; places = c.mark.ensures.places; message = refl }) c.store.ensures.same_bank
    ∙ new_text s b x _ ready fits kept agrees leaves.keeps.keeps p bytes offers

pub returns-then-self-clause-old_bytes : goal.returns-then-self-clause-old_bytes
returns-then-self-clause-old_bytes g c tells number set =
    let F = g.F.Flash in
    let s = c.args.self.now in
    let b = c.args.bank.now in
    let p = c.args.place in
    let bytes = c.args.bytes.now in
    let x = F.contents c.args.flash.now in
    let ready = c.requires.ready in
    let fits = c.requires.lent.fits tells in
    let agrees = c.requires.agrees tells in
    let kept = kept_is s b ready c.if-self.true in
    let free : has_in_journal s p.number ≡ false = sym c.has.ensures ∙ c.if-has.false in
    let is = stage_offers s b x ready fits kept agrees p bytes c.requires.place c.requires.length free in
    let leaves = c.store.ensures.held tells ready.dii s.message.items is in
    let offers = c.in_ok-store.ensures.stored tells ready.dii s.message.items is in
    bytes_same s _ b c.store.new.bank _ number (record { block_size = refl; modules = refl; places = c.mark.ensures.places; message = refl }) c.store.ensures.same_bank
    ∙ old_text s b x _ ready fits kept agrees leaves.keeps.keeps p bytes offers number set

pub fill-requires-clause-inside : goal.fill-requires-clause-inside
fill-requires-clause-inside g c =
    let F = g.F.Flash in
    let s = c.args.self.now in
    let b = c.args.bank.now in
    let p = c.args.place in
    let bytes = c.args.bytes.now in
    let x = F.contents c.args.flash.now in
    let ready = c.requires.ready in
    let inside = inside_plan (plan_in_bank (without_journal s) b ready.begun) p.number p c.requires.place in
    omega (arith, inside, c.requires.length, ready.begun.fits)

pub fill-requires-clause-blank : goal.fill-requires-clause-blank
fill-requires-clause-blank g c tells =
    let F = g.F.Flash in
    let s = c.args.self.now in
    let b = c.args.bank.now in
    let p = c.args.place in
    let bytes = c.args.bytes.now in
    let x = F.contents c.args.flash.now in
    let ready = c.requires.ready in
    let fits = c.requires.lent.fits tells in
    let agrees = c.requires.agrees tells in
    let never = kept_not s b ready c.if-self.false in
    let inside = inside_plan (plan_in_bank (without_journal s) b ready.begun) p.number p c.requires.place in
    let free : has_in_journal s p.number ≡ false = sym c.has.ensures ∙ c.if-has.false in
    subst (λ (n : ℕ). IsBlank x (spare_bank b + p.at) n) (sym c.requires.length) ((agrees.plain never).places p.number p c.requires.place free)

pub returns-in_err-fill-clause-held : goal.returns-in_err-fill-clause-held
returns-in_err-fill-clause-held g c tells =
    let F = g.F.Flash in
    let s = c.args.self.now in
    let b = c.args.bank.now in
    let p = c.args.place in
    let bytes = c.args.bytes.now in
    let x = F.contents c.args.flash.now in
    let ready = c.requires.ready in
    let fits = c.requires.lent.fits tells in
    let agrees = c.requires.agrees tells in
    let never = kept_not s b ready c.if-self.false in
    let inside = inside_plan (plan_in_bank (without_journal s) b ready.begun) p.number p c.requires.place in
    filled_keeps_boot b x fits p.at bytes _ (omega (arith, inside, c.requires.length, ready.begun.fits)) (c.fill.ensures.held tells)

pub returns-in_err-fill-clause-left : goal.returns-in_err-fill-clause-left
returns-in_err-fill-clause-left g c tells =
    let F = g.F.Flash in
    let s = c.args.self.now in
    let b = c.args.bank.now in
    let p = c.args.place in
    let bytes = c.args.bytes.now in
    let x = F.contents c.args.flash.now in
    let ready = c.requires.ready in
    let fits = c.requires.lent.fits tells in
    let agrees = c.requires.agrees tells in
    let never = kept_not s b ready c.if-self.false in
    let inside = inside_plan (plan_in_bank (without_journal s) b ready.begun) p.number p c.requires.place in
    weaker F.moment F.left_since c.args.flash.now c.fill.new.flash (LeavesFilled b p.at bytes x) _
    (λ y. filled_keeps_boot b x fits p.at bytes y (omega (arith, inside, c.requires.length, ready.begun.fits))) (c.fill.ensures.left tells)

pub returns-in_err-fill-clause-one_more : goal.returns-in_err-fill-clause-one_more
returns-in_err-fill-clause-one_more g c tells other n v holds =
    let F = g.F.Flash in
    let s = c.args.self.now in
    let b = c.args.bank.now in
    let p = c.args.place in
    let bytes = c.args.bytes.now in
    let x = F.contents c.args.flash.now in
    let ready = c.requires.ready in
    let fits = c.requires.lent.fits tells in
    let agrees = c.requires.agrees tells in
    let never = kept_not s b ready c.if-self.false in
    let inside = inside_plan (plan_in_bank (without_journal s) b ready.begun) p.number p c.requires.place in
    inl (filled_no_more b p.at bytes x x _ fits (omega (arith, inside, c.requires.length, ready.begun.fits)) (agrees.plain never).journal (c.fill.ensures.held tells) other n v holds)

pub returns-in_err-fill-clause-one_more_left : goal.returns-in_err-fill-clause-one_more_left
returns-in_err-fill-clause-one_more_left g c tells =
    let F = g.F.Flash in
    let s = c.args.self.now in
    let b = c.args.bank.now in
    let p = c.args.place in
    let bytes = c.args.bytes.now in
    let x = F.contents c.args.flash.now in
    let ready = c.requires.ready in
    let fits = c.requires.lent.fits tells in
    let agrees = c.requires.agrees tells in
    let never = kept_not s b ready c.if-self.false in
    let inside = inside_plan (plan_in_bank (without_journal s) b ready.begun) p.number p c.requires.place in
    weaker F.moment F.left_since c.args.flash.now c.fill.new.flash (LeavesFilled b p.at bytes x) _
    (λ y leaves other n v holds. inl (filled_no_more b p.at bytes x x y fits (omega (arith, inside, c.requires.length, ready.begun.fits)) (agrees.plain never).journal leaves other n v holds)) (c.fill.ensures.left tells)

pub returns-in_err-fill-clause-staged_held : goal.returns-in_err-fill-clause-staged_held
returns-in_err-fill-clause-staged_held g c tells keeping =
    let F = g.F.Flash in
    let s = c.args.self.now in
    let b = c.args.bank.now in
    let p = c.args.place in
    let bytes = c.args.bytes.now in
    let x = F.contents c.args.flash.now in
    let ready = c.requires.ready in
    let fits = c.requires.lent.fits tells in
    let agrees = c.requires.agrees tells in
    let never = kept_not s b ready c.if-self.false in
    let inside = inside_plan (plan_in_bank (without_journal s) b ready.begun) p.number p c.requires.place in
    none_kept (geometry_of b) x _ 1 1 (agrees.none never)

pub returns-in_err-fill-clause-staged_left : goal.returns-in_err-fill-clause-staged_left
returns-in_err-fill-clause-staged_left g c tells keeping =
    let F = g.F.Flash in
    let s = c.args.self.now in
    let b = c.args.bank.now in
    let p = c.args.place in
    let bytes = c.args.bytes.now in
    let x = F.contents c.args.flash.now in
    let ready = c.requires.ready in
    let fits = c.requires.lent.fits tells in
    let agrees = c.requires.agrees tells in
    let never = kept_not s b ready c.if-self.false in
    let inside = inside_plan (plan_in_bank (without_journal s) b ready.begun) p.number p c.requires.place in
    weaker F.moment F.left_since c.args.flash.now c.fill.new.flash (LeavesFilled b p.at bytes x) _
    (λ y leaves. none_kept (geometry_of b) x y 1 1 (agrees.none never)) (c.fill.ensures.left tells)

pub returns-clause-held : goal.returns-clause-held
returns-clause-held g c tells =
    let F = g.F.Flash in
    let s = c.args.self.now in
    let b = c.args.bank.now in
    let p = c.args.place in
    let bytes = c.args.bytes.now in
    let x = F.contents c.args.flash.now in
    let ready = c.requires.ready in
    let fits = c.requires.lent.fits tells in
    let agrees = c.requires.agrees tells in
    let never = kept_not s b ready c.if-self.false in
    let inside = inside_plan (plan_in_bank (without_journal s) b ready.begun) p.number p c.requires.place in
    filled_keeps_boot b x fits p.at bytes _ (omega (arith, inside, c.requires.length, ready.begun.fits)) (c.fill.ensures.held tells)

pub returns-clause-left : goal.returns-clause-left
returns-clause-left g c tells =
    let F = g.F.Flash in
    let s = c.args.self.now in
    let b = c.args.bank.now in
    let p = c.args.place in
    let bytes = c.args.bytes.now in
    let x = F.contents c.args.flash.now in
    let ready = c.requires.ready in
    let fits = c.requires.lent.fits tells in
    let agrees = c.requires.agrees tells in
    let never = kept_not s b ready c.if-self.false in
    let inside = inside_plan (plan_in_bank (without_journal s) b ready.begun) p.number p c.requires.place in
    weaker F.moment F.left_since c.args.flash.now c.fill.new.flash (LeavesFilled b p.at bytes x) _
    (λ y. filled_keeps_boot b x fits p.at bytes y (omega (arith, inside, c.requires.length, ready.begun.fits))) (c.fill.ensures.left tells)

pub returns-clause-one_more : goal.returns-clause-one_more
returns-clause-one_more g c tells other n v holds =
    let F = g.F.Flash in
    let s = c.args.self.now in
    let b = c.args.bank.now in
    let p = c.args.place in
    let bytes = c.args.bytes.now in
    let x = F.contents c.args.flash.now in
    let ready = c.requires.ready in
    let fits = c.requires.lent.fits tells in
    let agrees = c.requires.agrees tells in
    let never = kept_not s b ready c.if-self.false in
    let inside = inside_plan (plan_in_bank (without_journal s) b ready.begun) p.number p c.requires.place in
    inl (filled_no_more b p.at bytes x x _ fits (omega (arith, inside, c.requires.length, ready.begun.fits)) (agrees.plain never).journal (c.fill.ensures.held tells) other n v holds)

pub returns-clause-one_more_left : goal.returns-clause-one_more_left
returns-clause-one_more_left g c tells =
    let F = g.F.Flash in
    let s = c.args.self.now in
    let b = c.args.bank.now in
    let p = c.args.place in
    let bytes = c.args.bytes.now in
    let x = F.contents c.args.flash.now in
    let ready = c.requires.ready in
    let fits = c.requires.lent.fits tells in
    let agrees = c.requires.agrees tells in
    let never = kept_not s b ready c.if-self.false in
    let inside = inside_plan (plan_in_bank (without_journal s) b ready.begun) p.number p c.requires.place in
    weaker F.moment F.left_since c.args.flash.now c.fill.new.flash (LeavesFilled b p.at bytes x) _
    (λ y leaves other n v holds. inl (filled_no_more b p.at bytes x x y fits (omega (arith, inside, c.requires.length, ready.begun.fits)) (agrees.plain never).journal leaves other n v holds)) (c.fill.ensures.left tells)

pub returns-clause-staged_held : goal.returns-clause-staged_held
returns-clause-staged_held g c tells keeping =
    let F = g.F.Flash in
    let s = c.args.self.now in
    let b = c.args.bank.now in
    let p = c.args.place in
    let bytes = c.args.bytes.now in
    let x = F.contents c.args.flash.now in
    let ready = c.requires.ready in
    let fits = c.requires.lent.fits tells in
    let agrees = c.requires.agrees tells in
    let never = kept_not s b ready c.if-self.false in
    let inside = inside_plan (plan_in_bank (without_journal s) b ready.begun) p.number p c.requires.place in
    none_kept (geometry_of b) x _ 1 1 (agrees.none never)

pub returns-clause-staged_left : goal.returns-clause-staged_left
returns-clause-staged_left g c tells keeping =
    let F = g.F.Flash in
    let s = c.args.self.now in
    let b = c.args.bank.now in
    let p = c.args.place in
    let bytes = c.args.bytes.now in
    let x = F.contents c.args.flash.now in
    let ready = c.requires.ready in
    let fits = c.requires.lent.fits tells in
    let agrees = c.requires.agrees tells in
    let never = kept_not s b ready c.if-self.false in
    let inside = inside_plan (plan_in_bank (without_journal s) b ready.begun) p.number p c.requires.place in
    weaker F.moment F.left_since c.args.flash.now c.fill.new.flash (LeavesFilled b p.at bytes x) _
    (λ y leaves. none_kept (geometry_of b) x y 1 1 (agrees.none never)) (c.fill.ensures.left tells)

pub returns-clause-staged : goal.returns-clause-staged
returns-clause-staged g c tells keeping =
    let F = g.F.Flash in
    let s = c.args.self.now in
    let b = c.args.bank.now in
    let p = c.args.place in
    let bytes = c.args.bytes.now in
    let x = F.contents c.args.flash.now in
    let ready = c.requires.ready in
    let fits = c.requires.lent.fits tells in
    let agrees = c.requires.agrees tells in
    let never = kept_not s b ready c.if-self.false in
    let inside = inside_plan (plan_in_bank (without_journal s) b ready.begun) p.number p c.requires.place in
    none_kept (geometry_of b) x _ 0 0 (agrees.none never)

pub returns-clause-agrees : goal.returns-clause-agrees
returns-clause-agrees g c tells =
    let F = g.F.Flash in
    let s = c.args.self.now in
    let b = c.args.bank.now in
    let p = c.args.place in
    let bytes = c.args.bytes.now in
    let x = F.contents c.args.flash.now in
    let ready = c.requires.ready in
    let fits = c.requires.lent.fits tells in
    let agrees = c.requires.agrees tells in
    let never = kept_not s b ready c.if-self.false in
    let inside = inside_plan (plan_in_bank (without_journal s) b ready.begun) p.number p c.requires.place in
    let same : SameBank b c.fill.new.self = record { geometry = c.fill.ensures.geometry; current = c.fill.ensures.current; block = c.fill.ensures.block } in
    filled_agrees s _ b c.fill.new.self x _ ready never agrees (record { block_size = refl; modules = refl; places = c.mark-2.ensures.places; message = refl }) same p bytes c.requires.place c.requires.length (c.in_ok-fill.ensures.lent.fits tells) (c.in_ok-fill.ensures.filled tells) c.mark-2.ensures.marked

pub returns-clause-new_bytes : goal.returns-clause-new_bytes
returns-clause-new_bytes g c tells none =
    let F = g.F.Flash in
    let s = c.args.self.now in
    let b = c.args.bank.now in
    let p = c.args.place in
    let bytes = c.args.bytes.now in
    let x = F.contents c.args.flash.now in
    let ready = c.requires.ready in
    let fits = c.requires.lent.fits tells in
    let agrees = c.requires.agrees tells in
    let never = kept_not s b ready c.if-self.false in
    let inside = inside_plan (plan_in_bank (without_journal s) b ready.begun) p.number p c.requires.place in
    let same : SameBank b c.fill.new.self = record { geometry = c.fill.ensures.geometry; current = c.fill.ensures.current; block = c.fill.ensures.block } in
    filled_new s _ b c.fill.new.self x _ ready never agrees (record { block_size = refl; modules = refl; places = c.mark-2.ensures.places; message = refl }) same p bytes c.requires.place c.requires.length (c.in_ok-fill.ensures.lent.fits tells) (c.in_ok-fill.ensures.filled tells)

pub returns-clause-old_bytes : goal.returns-clause-old_bytes
returns-clause-old_bytes g c tells number set =
    let F = g.F.Flash in
    let s = c.args.self.now in
    let b = c.args.bank.now in
    let p = c.args.place in
    let bytes = c.args.bytes.now in
    let x = F.contents c.args.flash.now in
    let ready = c.requires.ready in
    let fits = c.requires.lent.fits tells in
    let agrees = c.requires.agrees tells in
    let never = kept_not s b ready c.if-self.false in
    let inside = inside_plan (plan_in_bank (without_journal s) b ready.begun) p.number p c.requires.place in
    let same : SameBank b c.fill.new.self = record { geometry = c.fill.ensures.geometry; current = c.fill.ensures.current; block = c.fill.ensures.block } in
    let free : has_in_journal s p.number ≡ false = sym c.has.ensures ∙ c.if-has.false in
    filled_old s _ b c.fill.new.self x _ ready never agrees (record { block_size = refl; modules = refl; places = c.mark-2.ensures.places; message = refl }) same p bytes c.requires.place c.requires.length (c.in_ok-fill.ensures.lent.fits tells) (c.in_ok-fill.ensures.filled tells) number set free
