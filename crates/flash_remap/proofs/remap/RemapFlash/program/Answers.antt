use Rattle.std.proofs.Common.{◌≡◌, ◌⊎◌, length, ℕ, sym, subst, arith}
use Rattle.flash_dev.specs.Changes.{Changes, IsBlank, IsProgrammed, IsTornProgram}
use Rattle.flash_dev.specs.Moments.{Elapses}
use Rattle.flash_remap.specs.Logical.{IsLeft, logical}
use Rattle.flash_remap.specs.Seen.{Places}
use Rattle.flash_remap.specs.Shape.{geometry}
use Rattle.flash_remap.proofs.LeavingLemmas.{err_map, ok_map}
use Rattle.flash_remap.proofs.RemapLemmas.{lies_in_block}
use Rattle.flash_remap.proofs.remap.RemapFlash.program.Goals as goal

pub change-requires-clause-inside : goal.change-requires-clause-inside
change-requires-clause-inside g c =
    let F = g.F.Flash in
    let me = c.args.self.now in
    let z = me.layout.block_size in
    let bytes = c.args.bytes.now in
    let n = length bytes in
    let x = logical (geometry me.layout) (F.contents me.inner) in
    (c.requires.some, c.requires.few, lies_in_block z c.args.at n c.parts-block.result.0 c.parts-block.result.1 c.parts-block.ensures.is c.parts-block.ensures.within c.requires.some c.requires.one_block)

pub change-requires-clause-bytes : goal.change-requires-clause-bytes
change-requires-clause-bytes g c =
    let F = g.F.Flash in
    let me = c.args.self.now in
    let z = me.layout.block_size in
    let bytes = c.args.bytes.now in
    let n = length bytes in
    let x = logical (geometry me.layout) (F.contents me.inner) in
    λ k. omega (arith, c.type_inv.bytes k)

pub change-requires-clause-finds : goal.change-requires-clause-finds
change-requires-clause-finds g c tells =
    let F = g.F.Flash in
    let me = c.args.self.now in
    let z = me.layout.block_size in
    let bytes = c.args.bytes.now in
    let n = length bytes in
    let x = logical (geometry me.layout) (F.contents me.inner) in
    subst (λ (p : ℕ). IsBlank x p n) c.parts-block.ensures.is (c.requires.blank tells)

pub returns-clause-done : goal.returns-clause-done
returns-clause-done g c tells =
    let F = g.F.Flash in
    let me = c.args.self.now in
    let new = c.change.new.self in
    let z = me.layout.block_size in
    let bytes = c.args.bytes.now in
    let n = length bytes in
    let x = logical (geometry me.layout) (F.contents me.inner) in
    let y = logical (geometry new.layout) (F.contents new.inner) in
    let place = sym c.parts-block.ensures.is in
    ok_map c.change.result (λ changes. subst (λ (p : ℕ). Changes p n (IsProgrammed bytes) x y) place changes) (c.change.ensures.done tells)

pub returns-clause-torn : goal.returns-clause-torn
returns-clause-torn g c tells =
    let F = g.F.Flash in
    let me = c.args.self.now in
    let new = c.change.new.self in
    let z = me.layout.block_size in
    let bytes = c.args.bytes.now in
    let n = length bytes in
    let x = logical (geometry me.layout) (F.contents me.inner) in
    let y = logical (geometry new.layout) (F.contents new.inner) in
    let place = sym c.parts-block.ensures.is in
    err_map c.change.result (λ changes. subst (λ (p : ℕ). Changes p n (IsTornProgram bytes) x y) place changes) (c.change.ensures.torn tells)

pub returns-clause-time : goal.returns-clause-time
returns-clause-time g c =
    let F = g.F.Flash in
    let me = c.args.self.now in
    let new = c.change.new.self in
    let z = me.layout.block_size in
    let bytes = c.args.bytes.now in
    let n = length bytes in
    let x = logical (geometry me.layout) (F.contents me.inner) in
    let y = logical (geometry new.layout) (F.contents new.inner) in
    let place = sym c.parts-block.ensures.is in
    subst (λ (p : ℕ). Elapses (F.moment me.inner) (F.moment new.inner) (IsLeft F (geometry me.layout) me.inner) (IsLeft F (geometry new.layout) new.inner) (λ c. Changes p n (IsTornProgram bytes) x c ⊎ (c ≡ y))) place c.change.ensures.time

pub returns-clause-counts : goal.returns-clause-counts
returns-clause-counts g c both goes t left le torn =
    let F = g.F.Flash in
    let me = c.args.self.now in
    let new = c.change.new.self in
    let z = me.layout.block_size in
    let bytes = c.args.bytes.now in
    let n = length bytes in
    let x = logical (geometry me.layout) (F.contents me.inner) in
    let y = logical (geometry new.layout) (F.contents new.inner) in
    let place = sym c.parts-block.ensures.is in
    c.change.ensures.counts both.0 both.1 goes t left le (subst (λ (p : ℕ). Changes p n (IsTornProgram bytes) x left) (sym place) torn)

pub returns-clause-places : goal.returns-clause-places
returns-clause-places g c =
    let me = c.args.self.now in
    subst (λ (b : ℕ). Places b me c.change.new.self c.change.result) c.parts-block.ensures.block_is c.change.ensures.places
