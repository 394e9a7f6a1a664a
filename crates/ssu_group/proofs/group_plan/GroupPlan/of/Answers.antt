use Rattle.std.proofs.Common.{◌≡◌, ℕ, ◌*◌, ◌^◌, ◌<◌, ◌≤◌, List, length, None, sym, ap, subst, arith}
use Rattle.std.specs.Prelude.{sum_by}
use Rattle.dsmcc_msg.specs.Control.{DiiFields}
use Rattle.ssu_group.specs.declared.module_plan.ModulePlan.{ModulePlan}
use Rattle.ssu_group.specs.Plan.{IsPlan, laid_out, blocks_of}
use Rattle.ssu_group.specs.Refusal.{refusal, total_of}
use Rattle.ssu_group.proofs.LayoutLaws.{not_refused, blocks_few, laid_plan}
use Rattle.ssu_group.proofs.group_plan.GroupPlan.of.Goals as goal

blocks_fit : (b : ℕ) (dii : DiiFields) (bank_len : ℕ) → b ≡ dii.block_size → length dii.modules ≤ 506 → refusal dii bank_len ≡ None → sum_by (blocks_of b) dii.modules < 4294967296
blocks_fit b dii bank_len size short none =
    let few : sum_by (blocks_of dii.block_size) dii.modules ≤ 65536 * length dii.modules = blocks_few dii.block_size dii.modules (not_refused dii bank_len none).few in
    subst (λ (n : ℕ). sum_by (blocks_of n) dii.modules < 4294967296) (sym size) (omega (arith, few))

planned : (b : ℕ) (dii : DiiFields) (bank_len : ℕ) (modules : List ModulePlan) (places total : ℕ) → b ≡ dii.block_size → length dii.modules ≤ 506 → refusal dii bank_len ≡ None → bank_len < 2 ^ 32 →
    modules ≡ laid_out b 0 0 dii.modules → places ≡ sum_by (blocks_of b) dii.modules → total ≡ total_of dii.modules → IsPlan b modules places total
planned b dii bank_len modules places total size short none small m p t =
    let plan = laid_plan dii bank_len none short small in
    let here : IsPlan b (laid_out b 0 0 dii.modules) (sum_by (blocks_of b) dii.modules) (total_of dii.modules) =
    subst (λ (n : ℕ). IsPlan n (laid_out n 0 0 dii.modules) (sum_by (blocks_of n) dii.modules) (total_of dii.modules)) (sym size) plan in
    rw (m, p, t) here

pub lay-places-requires-clause-some : goal.lay-places-requires-clause-some
lay-places-requires-clause-some c =
    let least = (not_refused c.args.dii.now c.args.bank_len c.in-Ok.ensures.0).least in
    let size = ap (λ (d : DiiFields). d.block_size) c.dii.view_is in
    omega (arith, least, size)

pub lay-places-requires-clause-blocks : goal.lay-places-requires-clause-blocks
lay-places-requires-clause-blocks c =
    blocks_fit c.dii.inside.block_size c.args.dii.now c.args.bank_len (ap (λ (d : DiiFields). d.block_size) c.dii.view_is)
    (subst (λ (d : DiiFields). length d.modules ≤ 506) c.dii.view_is c.dii.invariant) c.in-Ok.ensures.0

pub invariant_of-result : goal.invariant_of-result
invariant_of-result c = record {
  planned =
      planned c.dii.inside.block_size c.args.dii.now c.args.bank_len c.lay-places.new.modules.items c.lay-places.result.places c.lay-places.result.total
      (ap (λ (d : DiiFields). d.block_size) c.dii.view_is) (subst (λ (d : DiiFields). length d.modules ≤ 506) c.dii.view_is c.dii.invariant) c.in-Ok.ensures.0 (omega arith)
      c.lay-places.ensures.modules c.lay-places.ensures.places c.lay-places.ensures.total;
}

pub returns-in-Ok-clause-fits : goal.returns-in-Ok-clause-fits
returns-in-Ok-clause-fits c =
    let fits = (not_refused c.args.dii.now c.args.bank_len c.in-Ok.ensures.0).fits in
    let total = c.lay-places.ensures.total in
    omega (arith, fits, total)
