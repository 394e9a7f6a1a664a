use Rattle.std.proofs.Common.{◌≡◌, ◌≢◌, ℕ, List, Option, Some, None, inl, inr, refl, sym, ap, subst, ◌∙◌}
use Rattle.std.specs.Option.{option_copied, option_map}
use Rattle.audit_answer.specs.declared.answers.AuditNo.TheVariants.{Unusable}
use Rattle.dsmcc_msg.specs.Control.{DiiFields, dii_message}
use Rattle.ssu_answer.specs.BankLen.{bank_len}
use Rattle.ssu_group.specs.Lays.{IsPlanOf}
use Rattle.ssu_group.specs.Refusal.{refusal}
use Rattle.ssu_audit.specs.Calls.{carousel}
use Rattle.ssu_audit.specs.Ending.{AgainstDii, against_plan}
use Rattle.ssu_audit.specs.Filled.{Blocks, against_kept}
use Rattle.ssu_audit.specs.Hearing.{first_block}
use Rattle.ssu_audit.specs.Kept.{block_at, dii_at, kept_of}
use Rattle.ssu_audit.proofs.FoundDii.{found}
use Rattle.ssu_audit.proofs.Filling.{against_is}
use Rattle.ssu_audit.proofs.against.against_group.Goals as goal

pub returns-in_default-dii_in : goal.returns-in_default-dii_in
returns-in_default-dii_in c = λ calls h.
    let k = c.in-Some.kept.now in
    let at : dii_at c.args.diis.now c.args.group ≡ Some (kept_of k) = ap (option_map kept_of) (sym c.get.ensures.value ∙ ap option_copied c.in-Some.is) in
    let f = found calls (dii_at c.args.diis.now) (block_at c.args.blocks.now) c.args.group k.number k.bytes.items h at in
    let none : dii_message.of k.bytes.items ≡ None = ap (λ (xs : List ℕ). dii_message.of xs) (sym c.as_slice.ensures.value) ∙ sym c.dii_in.ensures ∙ c.in_default-dii_in.is in
    let some = f.again in
    cc

pub returns-in-Ok : goal.returns-in-Ok
returns-in-Ok c = λ calls h.
    let k = c.in-Some.kept.now in
    let group = c.args.group in
    let size = c.args.size in
    let plan = c.in-Ok.plan in
    let kept = block_at c.args.blocks.now in
    let at : dii_at c.args.diis.now group ≡ Some (kept_of k) = ap (option_map kept_of) (sym c.get.ensures.value ∙ ap option_copied c.in-Some.is) in
    let f = found calls (dii_at c.args.diis.now) kept group k.number k.bytes.items h at in
    let read : dii_message.of k.bytes.items ≡ Some c.in-Some-dii_in.dii = ap (λ (xs : List ℕ). dii_message.of xs) (sym c.as_slice.ensures.value) ∙ sym c.dii_in.ensures ∙ c.in-Some-dii_in.is in
    let again = f.again in
    let one : c.in-Some-dii_in.dii ≡ f.first.1 = cc in
    let usable : refusal f.first.1 bank_len ≡ None = ap (λ (d : DiiFields). refusal d bank_len) (sym one) ∙ c.in-Ok.ensures.usable.0 in
    let is_plan : IsPlanOf f.first.1 plan = subst (λ (d : DiiFields). IsPlanOf d plan) one c.in-Ok.ensures.usable.1 in
    let firsts : Blocks = λ key. first_block key calls in
    let same : kept ≡ firsts = (λ i key. h.first_with key i) in
    let is : c.against_plan.result ≡ against_plan group size plan (carousel calls) =
    c.against_plan.ensures ∙ ap (λ (b : Blocks). against_kept group size plan b) same ∙ against_is plan calls h.undecided group size in
    subst (λ (o : Option (ℕ × DiiFields)). AgainstDii group size (carousel calls) o c.against_plan.result) (sym f.is) (inr (usable, (plan, (is_plan, is))))

pub returns-in-Err : goal.returns-in-Err
returns-in-Err c = λ calls h.
    let k = c.in-Some.kept.now in
    let group = c.args.group in
    let size = c.args.size in
    let at : dii_at c.args.diis.now group ≡ Some (kept_of k) = ap (option_map kept_of) (sym c.get.ensures.value ∙ ap option_copied c.in-Some.is) in
    let f = found calls (dii_at c.args.diis.now) (block_at c.args.blocks.now) group k.number k.bytes.items h at in
    let read : dii_message.of k.bytes.items ≡ Some c.in-Some-dii_in.dii = ap (λ (xs : List ℕ). dii_message.of xs) (sym c.as_slice.ensures.value) ∙ sym c.dii_in.ensures ∙ c.in-Some-dii_in.is in
    let again = f.again in
    let one : c.in-Some-dii_in.dii ≡ f.first.1 = cc in
    let refused = c.in-Err.ensures.refused in
    let unusable : refusal f.first.1 bank_len ≢ None = λ none. let all : refusal c.in-Some-dii_in.dii bank_len ≡ None = ap (λ (d : DiiFields). refusal d bank_len) one ∙ none in cc in
    subst (λ (o : Option (ℕ × DiiFields)). AgainstDii group size (carousel calls) o (Some (Unusable group))) (sym f.is) (inl (unusable, refl))
