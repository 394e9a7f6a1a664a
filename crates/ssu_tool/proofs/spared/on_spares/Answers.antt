use Rattle.std.proofs.Common.{◌≡◌, ◌<◌, ◌≤◌, ℕ, List, false, inl, inr, refl, sym, subst, ◌∙◌, arith, rules}
use Rattle.flash_dev.specs.Changes.{IsErased, IsTornErase}
use Rattle.flash_remap.specs.Layout.{IsInLimits, geometry_in, left_from}
use Rattle.flash_remap.specs.Map.{next_slot, next_spare}
use Rattle.flash_remap.specs.Reads.{ChangesNothing}
use Rattle.flash_remap.specs.Seen.{faults_of, geometry_of, inner_of, left_of, worn_of}
use Rattle.flash_remap.specs.declared.fault.RemapFault.TheVariants as remap_fault
use Rattle.flash_remap.specs.declared.remap.Remap.{Remap}
use Rattle.ssu_io.specs.Faults.{Rose}
use Rattle.ssu_status.specs.Words.{task_of}
use Rattle.ssu_tool.specs.Spared.{IsReadied, IsRefusedAtOnce, opening}
use Rattle.ssu_tool.proofs.SparedLemmas.{fault_of, kept_at_any_moment, limits_met, moved_at_any_moment, readied_on, refused_cause}
use Rattle.ssu_tool.proofs.spared.on_spares.Goals as goal

pub returns-in-Err-clause-does : goal.returns-in-Err-clause-does
returns-in-Err-clause-does g c =
    let F = g.F.Flash in
    let flash = c.args.flash in
    let new = c.prepare_for.new.flash in
    let fault = c.in-Err.fault in
    let task = task_of c.args.command in
    let small : fault ≡ remap_fault.Geometry → F.block_count flash < 6 = search rules in
    let rose : fault ≡ remap_fault.Flash → Rose (F.faults flash) (F.faults new) = search rules in
    let refuses : fault ≡ remap_fault.Geometry → IsRefusedAtOnce task (F.block_count flash) c.args.spares = search rules in
    let is_geometry : IsRefusedAtOnce task (F.block_count flash) c.args.spares → fault ≡ remap_fault.Geometry = search rules in
    inl (record {
      cause = refused_cause fault c.refused.result c.refused.ensures.geometry c.refused.ensures.flash
          (λ is inside. omega (arith, small is, inside.some, inside.least))
          rose;
      at_once = λ now. (c.refused.ensures.geometry (is_geometry now), c.prepare_for.ensures.at_once c.args.spares now);
      readied = c.prepare_for.ensures.held;
      not_at_once = λ is not. absurd (not (refuses (fault_of fault c.refused.result c.refused.ensures.flash is)));
      shelf_same = refl;
      air_same = refl;
      made_same = refl;
      out_same = refl;
    })

pub returns-in-Err-open-clause-does : goal.returns-in-Err-open-clause-does
returns-in-Err-open-clause-does g c =
    let F = g.F.Flash in
    let flash = c.args.flash in
    let mid = c.prepare_for.new.flash in
    let new = c.in-Err-open.flash in
    let fault = c.in-Err-open.fault in
    let task = task_of c.args.command in
    let reads : ChangesNothing F mid new = search rules in
    let missed : fault ≡ remap_fault.Geometry → IsInLimits (F.block_count mid) c.args.spares → ⊥ = search rules in
    let rose : fault ≡ remap_fault.Flash → Rose (F.faults mid) (F.faults new) = search rules in
    let outside : IsRefusedAtOnce task (F.block_count flash) c.args.spares → IsInLimits (F.block_count flash) c.args.spares → ⊥ = search rules in
    let is_geometry : (IsInLimits (F.block_count mid) c.args.spares → ⊥) → fault ≡ remap_fault.Geometry = search rules in
    let unchanged : fault ≡ remap_fault.Geometry → new ≡ mid = search rules in
    let erased : IsReadied F IsErased task flash mid = search rules in
    let here = λ (now : IsRefusedAtOnce task (F.block_count flash) c.args.spares). is_geometry (λ inside. outside now (subst (λ (n : ℕ). IsInLimits n c.args.spares) c.prepare_for.ensures.blocks inside)) in
    inl (record {
      cause = refused_cause fault c.refused-in-Err-open.result c.refused-in-Err-open.ensures.geometry c.refused-in-Err-open.ensures.flash
          (λ is inside. missed is (subst (λ (n : ℕ). IsInLimits n c.args.spares) (sym c.prepare_for.ensures.blocks) inside))
          (λ is. let risen : Rose (F.faults flash) (F.faults new) = omega (arith, rose is, c.prepare_for.ensures.later) in risen);
      at_once = λ now. (c.refused-in-Err-open.ensures.geometry (here now), unchanged (here now) ∙ c.prepare_for.ensures.at_once c.args.spares now);
      readied = readied_on F IsTornErase task flash mid new c.prepare_for.ensures.held c.prepare_for.ensures.held reads;
      not_at_once = λ is not. readied_on F IsErased task flash mid new erased c.prepare_for.ensures.held reads;
      shelf_same = refl;
      air_same = refl;
      made_same = refl;
      out_same = refl;
    })

pub returns-in-Ok-clause-does : goal.returns-in-Ok-clause-does
returns-in-Ok-clause-does g c =
    let F = g.F.Flash in
    let flash = c.args.flash in
    let mid = c.prepare_for.new.flash in
    let remap = c.in-Ok.remap in
    let task = task_of c.args.command in
    let reads : ChangesNothing F mid (inner_of remap) = search rules in
    let fresh : faults_of remap ≡ 0 = search rules in
    let goes : worn_of remap ≡ false = search rules in
    let met : (IsInLimits (F.block_count mid) c.args.spares → ⊥) → ⊥ = search rules in
    let parted : geometry_of remap ≡ geometry_in (F.block_count mid) c.args.spares (F.block_len mid) = search rules in
    let left = λ (tells : F.tells). let told : left_of remap ≡ left_from (geometry_of remap) (next_spare (geometry_of remap) (F.contents mid)) (next_slot (geometry_of remap) (F.contents mid)) = search rules in told in
    let erased : IsReadied F IsErased task flash mid = search rules in
    let later : F.faults mid ≤ F.faults (inner_of remap) = search rules in
    let readied = readied_on F IsErased task flash mid (inner_of remap) erased c.prepare_for.ensures.held reads in
    let done = c.served.ensures.does in
    inr (record {
      limits = subst (λ (n : ℕ). IsInLimits n c.args.spares) c.prepare_for.ensures.blocks (limits_met (F.block_count mid) c.args.spares met);
      remap = remap;
      readied = readied;
      parted = subst (λ (n : ℕ). geometry_of remap ≡ geometry_in n c.args.spares (F.block_len flash)) c.prepare_for.ensures.blocks
          (subst (λ (z : ℕ). geometry_of remap ≡ geometry_in (F.block_count mid) c.args.spares z) c.prepare_for.ensures.block_size parted);
      left = λ tells. subst (λ (x : List ℕ). left_of remap ≡ left_from (geometry_of remap) (next_spare (geometry_of remap) x) (next_slot (geometry_of remap) x)) (sym (reads.same tells)) (left tells);
      fresh = fresh;
      goes = goes;
      done = done;
      at_any_moment = kept_at_any_moment F (opening F remap) task c.served.result.1 flash c.served.result.0 done.before done.after _ _ _ _
          (subst (λ (r : Remap _ F). IsReadied F IsErased task flash (inner_of r)) (sym done.opened) readied) done.does done.back;
      moved_at_any_moment = moved_at_any_moment F (opening F remap) task c.served.result.1 flash c.served.result.0 done.before done.after _ _ _ _
          (subst (λ (r : Remap _ F). IsReadied F IsErased task flash (inner_of r)) (sym done.opened) readied) done.does done.back;
      cause = λ fault. let rose : Rose (F.faults flash) (F.faults c.served.result.0) = omega (arith, done.cause fault, later, c.prepare_for.ensures.later) in rose;
    })
