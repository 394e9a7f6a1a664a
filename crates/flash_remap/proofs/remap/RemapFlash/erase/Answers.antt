use Rattle.std.proofs.Common.{◌≡◌, ◌⊎◌, ◌+◌, ◌*◌, ℕ, sym, subst, arith}
use Rattle.flash_dev.specs.Changes.{Changes, IsErased, IsTornErase}
use Rattle.flash_dev.specs.Moments.{Elapses}
use Rattle.flash_remap.specs.Logical.{IsLeft, logical}
use Rattle.flash_remap.specs.Shape.{geometry}
use Rattle.flash_remap.proofs.LeavingLemmas.{err_map, ok_map}
use Rattle.flash_remap.proofs.remap.RemapFlash.erase.Goals as goal

pub returns-clause-done : goal.returns-clause-done
returns-clause-done g c tells =
    let F = g.F.Flash in
    let me = c.args.self.now in
    let new = c.change.new.self in
    let z = me.layout.block_size in
    let b = c.args.block in
    let x = logical (geometry me.layout) (F.contents me.inner) in
    let y = logical (geometry new.layout) (F.contents new.inner) in
    let place : b * z + 0 ≡ b * z = omega arith in
    ok_map c.change.result (λ changes. subst (λ (p : ℕ). Changes p z IsErased x y) place changes) (c.change.ensures.done tells)

pub returns-clause-torn : goal.returns-clause-torn
returns-clause-torn g c tells =
    let F = g.F.Flash in
    let me = c.args.self.now in
    let new = c.change.new.self in
    let z = me.layout.block_size in
    let b = c.args.block in
    let x = logical (geometry me.layout) (F.contents me.inner) in
    let y = logical (geometry new.layout) (F.contents new.inner) in
    let place : b * z + 0 ≡ b * z = omega arith in
    err_map c.change.result (λ changes. subst (λ (p : ℕ). Changes p z IsTornErase x y) place changes) (c.change.ensures.torn tells)

pub returns-clause-time : goal.returns-clause-time
returns-clause-time g c =
    let F = g.F.Flash in
    let me = c.args.self.now in
    let new = c.change.new.self in
    let z = me.layout.block_size in
    let b = c.args.block in
    let x = logical (geometry me.layout) (F.contents me.inner) in
    let y = logical (geometry new.layout) (F.contents new.inner) in
    let place : b * z + 0 ≡ b * z = omega arith in
    subst (λ (p : ℕ). Elapses (F.moment me.inner) (F.moment new.inner) (IsLeft F (geometry me.layout) me.inner) (IsLeft F (geometry new.layout) new.inner) (λ c. Changes p z IsTornErase x c ⊎ (c ≡ y))) place c.change.ensures.time

pub returns-clause-counts : goal.returns-clause-counts
returns-clause-counts g c both goes t left le torn =
    let F = g.F.Flash in
    let me = c.args.self.now in
    let new = c.change.new.self in
    let z = me.layout.block_size in
    let b = c.args.block in
    let x = logical (geometry me.layout) (F.contents me.inner) in
    let y = logical (geometry new.layout) (F.contents new.inner) in
    let place : b * z + 0 ≡ b * z = omega arith in
    c.change.ensures.counts both.0 both.1 goes t left le (subst (λ (p : ℕ). Changes p z IsTornErase x left) (sym place) torn)
