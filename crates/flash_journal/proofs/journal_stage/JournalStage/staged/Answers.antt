use Rattle.std.specs.Prelude.{◌↔◌, IsTrue}
use Rattle.std.proofs.Common.{◌≡◌, Bool, false, true, List, ℕ, None, Option, Some, sym, ap, subst, ◌∙◌}
use Rattle.bank_kept.specs.Contents.{StagesGroup}
use Rattle.dsmcc_msg.proofs.Exact.{dii_message_exact}
use Rattle.dsmcc_msg.specs.Control.{DiiFields, dii_message}
use Rattle.flash_bank.specs.Bank.{geometry_of, len_of}
use Rattle.flash_bank.specs.declared.bank.Bank.{Bank}
use Rattle.flash_bank.specs.declared.record.Record.{Record}
use Rattle.flash_kept.proofs.Cases.{some_one}
use Rattle.flash_stage.specs.Keeping.{IsPlanOfMessage}
use Rattle.ssu_group.specs.Lays.{IsPlanOf}
use Rattle.ssu_group.specs.Refusal.{refusal}
use Rattle.ssu_group.specs.declared.group_plan.GroupPlan.{GroupPlan}
use Rattle.ssu_group.specs.declared.unusable.Unusable.{Unusable}
use Rattle.flash_journal.proofs.PlainLaws.{last_none, never_kept}
use Rattle.flash_journal.proofs.StartLaws.{plain_none}
use Rattle.flash_journal.specs.Beginning.{SpellsUsable}
use Rattle.flash_journal.proofs.journal_stage.JournalStage.staged.Goals as goal

-- what a usable message reads as
read_as : (bank : Bank) (message : List ℕ) (usable : SpellsUsable bank message) (result : Option DiiFields) → ((d : DiiFields) → dii_message.Spells d message → result ≡ Some d) → result ≡ Some usable.dii
read_as bank message usable result only = only usable.dii (dii_message_exact.takes message usable.dii usable.reads)

absurd_none : {A : Type 0} {B : Type 0} (o : Option A) (a : A) → o ≡ Some a → o ≡ None → B
absurd_none o a some none = let both : Some a ≡ None = sym some ∙ none in absurd cc

plan_of_message : (bank : Bank) (message : List ℕ) (usable : SpellsUsable bank message) (d : DiiFields) (plan : GroupPlan) → d ≡ usable.dii → IsPlanOf d plan → IsPlanOfMessage (len_of bank) message plan
plan_of_message bank message usable d plan same lays = record { dii = usable.dii; reads = usable.reads; usable = usable.usable; lays = subst (λ (q : DiiFields). IsPlanOf q plan) same lays }

pub returns-in_default-clause-found : goal.returns-in_default-clause-found
returns-in_default-clause-found g c tells =
    absurd_none c.read_message.result c.requires.usable.dii (read_as c.args.bank.now c.args.message.now c.requires.usable c.read_message.result c.read_message.ensures.only) c.in_default.is

pub returns-in_default-of-clause-found : goal.returns-in_default-of-clause-found
returns-in_default-of-clause-found g c tells =
    let u = c.requires.usable in
    let own = some_one c.in-Some.dii u.dii (sym c.in-Some.is ∙ read_as c.args.bank.now c.args.message.now u c.read_message.result c.read_message.ensures.only) in
    absurd_none (refusal c.in-Some.dii c.bank_len.result) c.in_default-of.field-0 c.in_default-of.ensures.refused
    ((λ i. refusal (own i) (c.bank_len.ensures.value i)) ∙ u.usable)

pub returns-then-not-keeps_places-clause-found : goal.returns-then-not-keeps_places-clause-found
returns-then-not-keeps_places-clause-found g c tells =
    let u = c.requires.usable in
    let b = c.args.bank.now in
    let own = some_one c.in-Some.dii u.dii (sym c.in-Some.is ∙ read_as b c.args.message.now u c.read_message.result c.read_message.ensures.only) in
    let of = plan_of_message b c.args.message.now u c.in-Some.dii c.in-Ok.plan own c.in-Ok.ensures.usable.1 in
    let never = never_kept b c.in-Ok.plan.places (sym c.keeps_places.ensures ∙ c.if-not-keeps_places.true) in
    (λ false_true. absurd (let off : false ≡ true = false_true in cc), λ staged. absurd (plain_none b (g.F.Flash.contents c.args.flash.now) c.args.message.now c.in-Ok.plan (c.requires.lent.fits tells) of never staged.0 staged.1))

pub returns-then-current-eq4294967295-clause-found : goal.returns-then-current-eq4294967295-clause-found
returns-then-current-eq4294967295-clause-found g c tells =
    let b = c.args.bank.now in
    let last = ap (λ (h : Record). h.number) (sym c.current.ensures.value) ∙ c.if-current-eq4294967295.true in
    (λ false_true. absurd (let off : false ≡ true = false_true in cc), λ staged. absurd (last_none b (g.F.Flash.contents c.args.flash.now) c.args.message.now (c.requires.lent.fits tells) last staged.0 staged.1))

pub is_staged-requires-clause-of_message : goal.is_staged-requires-clause-of_message
is_staged-requires-clause-of_message g c =
    let u = c.requires.usable in
    let own = some_one c.in-Some.dii u.dii (sym c.in-Some.is ∙ read_as c.args.bank.now c.args.message.now u c.read_message.result c.read_message.ensures.only) in
    plan_of_message c.args.bank.now c.args.message.now u c.in-Some.dii c.in-Ok.plan own c.in-Ok.ensures.usable.1
