use Rattle.std.proofs.Common.{◌≡◌, ℕ, ◌+◌, ◌≤◌, length, false, sym, subst, ◌∙◌, arith}
use Rattle.flash_dev.specs.Changes.{Changes, IsProgrammed}
use Rattle.flash_dev.proofs.Moments.{started, weaker}
use Rattle.flash_bank.specs.Bank.{LeavesFilled, geometry_of, spare_bank}
use Rattle.group_image.proofs.ImageLaws.{place_below}
use Rattle.ssu_group.specs.Map.{marked}
use Rattle.flash_stage.specs.InBank.{bytes_in_bank}
use Rattle.flash_stage.specs.Leaving.{SameBank}
use Rattle.flash_stage.proofs.InBankLemmas.{inside_plan, new_bytes, other_number, plan_in_bank, same_journal, still_blank, still_bytes, unmarked}
use Rattle.flash_bank.proofs.BankLemmas.{still_blank_journal}
use Rattle.flash_bank.proofs.LeavingLemmas.{filled_keeps_boot, keeps_boot_same}
use Rattle.flash_bank.specs.Leaving.{KeepsBoot}
use Rattle.flash_stage.proofs.LeavingLaws.{len_same}
use Rattle.bank_kept.specs.Leaving.{HoldsNoMore}
use Rattle.flash_stage.proofs.KeptLaws.{filled_no_more, same_no_more}
use Rattle.flash_stage.proofs.bank_stage.BankStageStage.offer.Goals as goal

pub has-requires : goal.has-requires
has-requires g c = place_below (plan_in_bank c.args.self.now c.args.bank.now c.requires.ready) c.args.place.number c.args.place c.requires.place

pub mark-requires : goal.mark-requires
mark-requires g c = place_below (plan_in_bank c.args.self.now c.args.bank.now c.requires.ready) c.args.place.number c.args.place c.requires.place

pub fill-requires-clause-inside : goal.fill-requires-clause-inside
fill-requires-clause-inside g c =
    let inside = inside_plan (plan_in_bank c.args.self.now c.args.bank.now c.requires.ready) c.args.place.number c.args.place c.requires.place in
    omega (arith, inside, c.requires.length, c.requires.ready.fits)

pub returns-then-has-clause-held : goal.returns-then-has-clause-held
returns-then-has-clause-held g c tells = keeps_boot_same (geometry_of c.args.bank.now) _ (c.requires.lent.fits tells).sound

pub returns-then-has-clause-left : goal.returns-then-has-clause-left
returns-then-has-clause-left g c tells =
    let F = g.F.Flash in
    let b = c.args.bank.now in
    let f = c.args.flash.now in
    let P = KeepsBoot (geometry_of b) (F.contents f) in
    started F.moment F.left_since f P (λ y left. subst P (sym (g.met.F.Flash.only_now f y left)) (keeps_boot_same (geometry_of b) (F.contents f) (c.requires.lent.fits tells).sound))

pub returns-in_err-fill-clause-held : goal.returns-in_err-fill-clause-held
returns-in_err-fill-clause-held g c tells =
    let inside = inside_plan (plan_in_bank c.args.self.now c.args.bank.now c.requires.ready) c.args.place.number c.args.place c.requires.place in
    filled_keeps_boot c.args.bank.now _ (c.requires.lent.fits tells) c.args.place.at c.args.bytes.now _ (omega (arith, inside, c.requires.length, c.requires.ready.fits)) (c.fill.ensures.held tells)

pub returns-in_err-fill-clause-left : goal.returns-in_err-fill-clause-left
returns-in_err-fill-clause-left g c tells =
    let x = g.F.Flash.contents c.args.flash.now in
    let inside = inside_plan (plan_in_bank c.args.self.now c.args.bank.now c.requires.ready) c.args.place.number c.args.place c.requires.place in
    weaker g.F.Flash.moment g.F.Flash.left_since c.args.flash.now c.fill.new.flash (LeavesFilled c.args.bank.now c.args.place.at c.args.bytes.now x) _
    (λ y. filled_keeps_boot c.args.bank.now x (c.requires.lent.fits tells) c.args.place.at c.args.bytes.now y (omega (arith, inside, c.requires.length, c.requires.ready.fits))) (c.fill.ensures.left tells)

pub returns-clause-held : goal.returns-clause-held
returns-clause-held g c tells =
    let inside = inside_plan (plan_in_bank c.args.self.now c.args.bank.now c.requires.ready) c.args.place.number c.args.place c.requires.place in
    filled_keeps_boot c.args.bank.now _ (c.requires.lent.fits tells) c.args.place.at c.args.bytes.now _ (omega (arith, inside, c.requires.length, c.requires.ready.fits)) (c.fill.ensures.held tells)

pub returns-clause-left : goal.returns-clause-left
returns-clause-left g c tells =
    let x = g.F.Flash.contents c.args.flash.now in
    let inside = inside_plan (plan_in_bank c.args.self.now c.args.bank.now c.requires.ready) c.args.place.number c.args.place c.requires.place in
    weaker g.F.Flash.moment g.F.Flash.left_since c.args.flash.now c.fill.new.flash (LeavesFilled c.args.bank.now c.args.place.at c.args.bytes.now x) _
    (λ y. filled_keeps_boot c.args.bank.now x (c.requires.lent.fits tells) c.args.place.at c.args.bytes.now y (omega (arith, inside, c.requires.length, c.requires.ready.fits))) (c.fill.ensures.left tells)

pub returns-clause-agrees : goal.returns-clause-agrees
returns-clause-agrees g c tells =
    let s = c.args.self.now in
    let b = c.args.bank.now in
    let x = g.F.Flash.contents c.args.flash.now in
    let y = g.F.Flash.contents c.fill.new.flash in
    let same : SameBank b c.fill.new.self = record { geometry = c.fill.ensures.geometry; current = c.fill.ensures.current; block = c.fill.ensures.block } in
    let filled = c.in_ok-fill.ensures.filled tells in
    let changes = subst (λ (n : ℕ). Changes (spare_bank b + c.args.place.at) n (IsProgrammed c.args.bytes.now) x y) c.requires.length filled in
    let inside = inside_plan (plan_in_bank s b c.requires.ready) c.args.place.number c.args.place c.requires.place in
    record {
      places = λ number p at free.
          let was = unmarked number c.args.place.number (marked s.map number) (marked c.mark.new.self number) (c.mark.ensures.marked number) free in
          still_blank (plan_in_bank s b c.requires.ready) b c.fill.new.self (IsProgrammed c.args.bytes.now) x y number c.args.place.number p c.args.place same at c.requires.place was.0 changes
          ((c.requires.agrees tells).places number p at was.1);
      journal = same_journal b c.fill.new.self y same (λ two. still_blank_journal b two c.args.place.at (length c.args.bytes.now) (IsProgrammed c.args.bytes.now) x y
          (omega (arith, inside, c.requires.length, c.requires.ready.fits)) filled ((c.requires.agrees tells).journal two));
    }

pub returns-clause-new_bytes : goal.returns-clause-new_bytes
unfolding bytes_in_bank
returns-clause-new_bytes g c tells free =
    let s = c.args.self.now in
    let b = c.args.bank.now in
    let x = g.F.Flash.contents c.args.flash.now in
    let y = g.F.Flash.contents c.fill.new.flash in
    let same : SameBank b c.fill.new.self = record { geometry = c.fill.ensures.geometry; current = c.fill.ensures.current; block = c.fill.ensures.block } in
    let short = subst (λ (n : ℕ). s.total ≤ n) (sym (len_same b c.fill.new.self same)) c.requires.ready.fits in
    new_bytes (plan_in_bank s b c.requires.ready) b c.fill.new.self x y c.args.bytes.now c.args.place.number c.args.place same c.requires.place c.requires.length (c.in_ok-fill.ensures.lent.fits tells) short (c.in_ok-fill.ensures.filled tells)

pub returns-clause-old_bytes : goal.returns-clause-old_bytes
unfolding bytes_in_bank
returns-clause-old_bytes g c tells number there =
    let s = c.args.self.now in
    let b = c.args.bank.now in
    let x = g.F.Flash.contents c.args.flash.now in
    let y = g.F.Flash.contents c.fill.new.flash in
    let same : SameBank b c.fill.new.self = record { geometry = c.fill.ensures.geometry; current = c.fill.ensures.current; block = c.fill.ensures.block } in
    let free : marked s.map c.args.place.number ≡ false = sym c.has.ensures ∙ c.if-has.false in
    let changes = subst (λ (n : ℕ). Changes (spare_bank b + c.args.place.at) n (IsProgrammed c.args.bytes.now) x y) c.requires.length (c.in_ok-fill.ensures.filled tells) in
    still_bytes (plan_in_bank s b c.requires.ready) b c.fill.new.self (IsProgrammed c.args.bytes.now) x y number c.args.place.number c.args.place same c.requires.place
    (other_number (marked s.map) number c.args.place.number there free) changes

pub returns-then-has-clause-one_more_left : goal.returns-then-has-clause-one_more_left
returns-then-has-clause-one_more_left g c tells =
    let F = g.F.Flash in
    let b = c.args.bank.now in
    let f = c.args.flash.now in
    let P = HoldsNoMore (geometry_of b) (F.contents f) in
    started F.moment F.left_since f P (λ y left. subst P (sym (g.met.F.Flash.only_now f y left)) (same_no_more (geometry_of b) (F.contents f)))

pub returns-in_err-fill-clause-one_more : goal.returns-in_err-fill-clause-one_more
returns-in_err-fill-clause-one_more g c tells =
    let inside = inside_plan (plan_in_bank c.args.self.now c.args.bank.now c.requires.ready) c.args.place.number c.args.place c.requires.place in
    filled_no_more c.args.bank.now c.args.place.at c.args.bytes.now _ _ _ (c.requires.lent.fits tells) (omega (arith, inside, c.requires.length, c.requires.ready.fits))
    (c.requires.agrees tells).journal (c.fill.ensures.held tells)

pub returns-in_err-fill-clause-one_more_left : goal.returns-in_err-fill-clause-one_more_left
returns-in_err-fill-clause-one_more_left g c tells =
    let x = g.F.Flash.contents c.args.flash.now in
    let inside = inside_plan (plan_in_bank c.args.self.now c.args.bank.now c.requires.ready) c.args.place.number c.args.place c.requires.place in
    weaker g.F.Flash.moment g.F.Flash.left_since c.args.flash.now c.fill.new.flash (LeavesFilled c.args.bank.now c.args.place.at c.args.bytes.now x) _
    (λ y. filled_no_more c.args.bank.now c.args.place.at c.args.bytes.now x x y (c.requires.lent.fits tells) (omega (arith, inside, c.requires.length, c.requires.ready.fits))
    (c.requires.agrees tells).journal) (c.fill.ensures.left tells)

pub returns-clause-one_more : goal.returns-clause-one_more
returns-clause-one_more g c tells =
    let inside = inside_plan (plan_in_bank c.args.self.now c.args.bank.now c.requires.ready) c.args.place.number c.args.place c.requires.place in
    filled_no_more c.args.bank.now c.args.place.at c.args.bytes.now _ _ _ (c.requires.lent.fits tells) (omega (arith, inside, c.requires.length, c.requires.ready.fits))
    (c.requires.agrees tells).journal (c.fill.ensures.held tells)

pub returns-clause-one_more_left : goal.returns-clause-one_more_left
returns-clause-one_more_left g c tells =
    let x = g.F.Flash.contents c.args.flash.now in
    let inside = inside_plan (plan_in_bank c.args.self.now c.args.bank.now c.requires.ready) c.args.place.number c.args.place c.requires.place in
    weaker g.F.Flash.moment g.F.Flash.left_since c.args.flash.now c.fill.new.flash (LeavesFilled c.args.bank.now c.args.place.at c.args.bytes.now x) _
    (λ y. filled_no_more c.args.bank.now c.args.place.at c.args.bytes.now x x y (c.requires.lent.fits tells) (omega (arith, inside, c.requires.length, c.requires.ready.fits))
    (c.requires.agrees tells).journal) (c.fill.ensures.left tells)
