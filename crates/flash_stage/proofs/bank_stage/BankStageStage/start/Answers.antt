use Rattle.std.proofs.Common.{◌≡◌, List, Some, subst, ◌∙◌, arith}
use Rattle.ssu_group.specs.Place.{place_at}
use Rattle.ssu_group.specs.declared.module_plan.ModulePlan.{ModulePlan}
use Rattle.flash_dev.proofs.Moments.{weaker}
use Rattle.flash_bank.specs.Bank.{LeavesBegun, geometry_of}
use Rattle.flash_bank.proofs.BankLemmas.{blank_bank, blank_journal}
use Rattle.flash_stage.specs.Leaving.{SameBank}
use Rattle.flash_stage.proofs.InBankLemmas.{blank_place, few_places, same_journal}
use Rattle.flash_stage.proofs.KeptLaws.{begun_no_more}
use Rattle.flash_stage.proofs.bank_stage.BankStageStage.start.Goals as goal

pub clear-requires : goal.clear-requires
clear-requires g c = few_places c.args.plan.now c.args.self.now.most c.args.self.now.map.most c.args.self.now.room (omega (arith, c.requires.inside, c.requires.made_for))

pub returns-in_err-begin-clause-held : goal.returns-in_err-begin-clause-held
returns-in_err-begin-clause-held g c tells = (c.begin.ensures.held tells).keeps

pub returns-in_err-begin-clause-left : goal.returns-in_err-begin-clause-left
returns-in_err-begin-clause-left g c tells =
    let x = g.F.Flash.contents c.args.flash.now in
    weaker g.F.Flash.moment g.F.Flash.left_since c.args.flash.now c.begin.new.flash (LeavesBegun (geometry_of c.args.bank.now) x) _ (λ y leaves. leaves.keeps) (c.begin.ensures.left tells)

pub returns-clause-held : goal.returns-clause-held
returns-clause-held g c tells = (c.begin.ensures.held tells).keeps

pub returns-clause-left : goal.returns-clause-left
returns-clause-left g c tells =
    let x = g.F.Flash.contents c.args.flash.now in
    weaker g.F.Flash.moment g.F.Flash.left_since c.args.flash.now c.begin.new.flash (LeavesBegun (geometry_of c.args.bank.now) x) _ (λ y leaves. leaves.keeps) (c.begin.ensures.left tells)

pub returns-clause-agrees : goal.returns-clause-agrees
returns-clause-agrees g c tells =
    let plan = c.args.plan.now in
    let b = c.args.bank.now in
    let y = g.F.Flash.contents c.begin.new.flash in
    let same : SameBank b c.begin.new.self = record { geometry = c.begin.ensures.geometry; current = c.begin.ensures.current; block = c.begin.ensures.block } in
    let erased = c.in_ok-begin.ensures.erased_area tells in
    record {
      places = λ number p at free.
          let there : place_at plan.block_size plan.modules.items number ≡ Some p =
          subst (λ (ms : List ModulePlan). place_at plan.block_size ms number ≡ Some p) (c.replace.ensures.items ∙ c.as_slice.ensures.value) at in
          blank_place plan b c.begin.new.self y number p same c.requires.inside (blank_bank b y erased) there;
      journal = same_journal b c.begin.new.self y same (λ two. blank_journal b two y erased);
    }

pub returns-in_err-begin-clause-no_more : goal.returns-in_err-begin-clause-no_more
returns-in_err-begin-clause-no_more g c tells = begun_no_more c.args.bank.now _ _ (c.requires.lent.fits tells) (c.begin.ensures.held tells)

pub returns-in_err-begin-clause-no_more_left : goal.returns-in_err-begin-clause-no_more_left
returns-in_err-begin-clause-no_more_left g c tells =
    let x = g.F.Flash.contents c.args.flash.now in
    weaker g.F.Flash.moment g.F.Flash.left_since c.args.flash.now c.begin.new.flash (LeavesBegun (geometry_of c.args.bank.now) x) _
    (λ y. begun_no_more c.args.bank.now x y (c.requires.lent.fits tells)) (c.begin.ensures.left tells)

pub returns-clause-no_more : goal.returns-clause-no_more
returns-clause-no_more g c tells = begun_no_more c.args.bank.now _ _ (c.requires.lent.fits tells) (c.begin.ensures.held tells)

pub returns-clause-no_more_left : goal.returns-clause-no_more_left
returns-clause-no_more_left g c tells =
    let x = g.F.Flash.contents c.args.flash.now in
    weaker g.F.Flash.moment g.F.Flash.left_since c.args.flash.now c.begin.new.flash (LeavesBegun (geometry_of c.args.bank.now) x) _
    (λ y. begun_no_more c.args.bank.now x y (c.requires.lent.fits tells)) (c.begin.ensures.left tells)
