use Rattle.std.specs.Prelude.{◌↔◌, IfOk, IsTrue, ℕ, ◌≤◌, List}
use Rattle.std.proofs.Common.{◌≡◌, sym, subst, ◌∙◌, arith}
use Rattle.bank_kept.specs.Bank.{area_of_bank}
use Rattle.bank_kept.specs.Contents.{StagesGroup}
use Rattle.dsmcc_msg.specs.Control.{DiiFields}
use Rattle.flash_bank.specs.Bank.{geometry_of, len_of}
use Rattle.flash_kept.specs.Slots.{free_slots}
use Rattle.flash_kept.specs.SpareArea.{SpareArea}
use Rattle.flash_layout.specs.Layout.{Geometry, mark_count}
use Rattle.flash_stage.proofs.LeavingLaws.{if_ok}
use Rattle.flash_journal.specs.Planned.{SlotsFitPlan, lost_in_plan}
use Rattle.flash_journal.specs.declared.side.Side.TheVariants.{InBank}
use Rattle.flash_journal.proofs.FitLaws.{plan_fits, staged_from, staged_to}
use Rattle.flash_journal.proofs.LooksLaws.{looks_joined, side_len_same}
use Rattle.flash_journal.proofs.MessageLaws.{message_few}
use Rattle.flash_journal.proofs.ReadingLaws.{area_same}
use Rattle.flash_journal.proofs.staged.is_staged.Goals as goal

pub header_stands-requires-clause-few : goal.header_stands-requires-clause-few
header_stands-requires-clause-few g c = message_few c.args.message.now c.requires.of_message.dii c.requires.of_message.reads

pub returns-then-not-headed-clause-found : goal.returns-then-not-headed-clause-found
returns-then-not-headed-clause-found g c tells =
    let x = g.F.Flash.contents c.args.flash.now in (
      λ never. absurd (cc never),
      λ stages. sym c.if-not-headed.true ∙ (c.in_ok-headed.ensures.found tells).1
          (staged_to c.args.bank.now x c.args.message.now c.args.plan.now (c.requires.lent.fits tells) c.requires.two c.requires.of_message c.requires.few (g.met.F.Flash.are_bytes tells c.args.flash.now) stages).0,
    )

pub is_in_order-requires-clause-inside : goal.is_in_order-requires-clause-inside
is_in_order-requires-clause-inside g c =
    let looks = c.header_stands.ensures.looks in
    let len : len_of c.header_stands.new.bank ≡ len_of c.args.bank.now = side_len_same InBank c.args.bank.now c.header_stands.new.bank looks.geometry looks.current in
    let fits = plan_fits (len_of c.args.bank.now) c.args.message.now c.args.plan.now c.requires.of_message in
    omega (arith, len, fits)

pub is_in_order-requires-clause-few : goal.is_in_order-requires-clause-few
is_in_order-requires-clause-few g c = subst (λ (s : Geometry). c.args.plan.now.places ≤ mark_count s) (sym c.header_stands.ensures.looks.geometry) c.requires.few

pub returns-clause-looks : goal.returns-clause-looks
returns-clause-looks g c =
    let F = g.F.Flash in
    looks_joined F.tells F.contents F.block_count F.block_len F.moment F.left_since c.args.flash.now c.header_stands.new.flash c.is_in_order.new.flash c.args.bank.now c.header_stands.new.bank c.is_in_order.new.bank
    c.header_stands.ensures.looks c.is_in_order.ensures.looks

pub returns-clause-found : goal.returns-clause-found
returns-clause-found g c tells =
    let F = g.F.Flash in
    let b = c.args.bank.now in
    let x = F.contents c.args.flash.now in
    let looks = c.header_stands.ensures.looks in
    let plan = c.args.plan.now in
    let m = c.args.message.now in
    let fits = c.requires.lent.fits tells in
    let stands = (c.in_ok-headed.ensures.found tells).0 c.if-not-headed.false in
    if_ok (λ t. IsTrue t ↔ (SlotsFitPlan (area_of_bank b) plan x × (lost_in_plan (area_of_bank b) plan x ≤ free_slots (area_of_bank b) x)))
    (λ t. IsTrue t ↔ ((dii : DiiFields) × StagesGroup (geometry_of b) x m dii)) c.is_in_order.result
    (λ t is. (
      λ yes. let both = is.0 yes in staged_from b x m plan fits c.requires.two c.requires.of_message c.requires.few c.requires.next_fits (λ i lt. omega (arith, c.type_inv.message i)) stands both.0 both.1,
      λ stages. is.1 (staged_to b x m plan fits c.requires.two c.requires.of_message c.requires.few (g.met.F.Flash.are_bytes tells c.args.flash.now) stages).1,
    ))
    (subst (λ (a : SpareArea). IfOk c.is_in_order.result (λ t. IsTrue t ↔ (SlotsFitPlan a plan x × (lost_in_plan a plan x ≤ free_slots a x)))) (area_same b c.header_stands.new.bank looks.geometry looks.current)
    (subst (λ (l : List ℕ). IfOk c.is_in_order.result (λ t. IsTrue t ↔ (SlotsFitPlan (area_of_bank c.header_stands.new.bank) plan l × (lost_in_plan (area_of_bank c.header_stands.new.bank) plan l ≤ free_slots (area_of_bank c.header_stands.new.bank) l))))
    (looks.reads.same tells) (c.is_in_order.ensures.found tells)))
