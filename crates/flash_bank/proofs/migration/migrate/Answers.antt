use Rattle.std.proofs.Common.{◌≡◌, ℕ, List, sym, subst}
use Rattle.std.specs.Prelude.{IfOk}
use Rattle.flash_dev.specs.Moments.{LeavesOnly}
use Rattle.flash_layout.specs.Layout.{Geometry, IsInLimits, blocks_of}
use Rattle.flash_layout.specs.Shape.{geometry}
use Rattle.flash_bank.specs.Find.{Finds}
use Rattle.flash_bank.specs.Migrate.{IsExact, IsMigrated, IsWornOut, LacksRoom, LeavesMoved, Migrates, OnAlready, OnNow}
use Rattle.flash_bank.specs.Runs.{OnlyReads}
use Rattle.flash_bank.specs.Sound.{IsSound}
use Rattle.flash_bank.proofs.MigrateLemmas.{if_already_map, leaves_after, leaves_none, leaves_read, leaves_same, on_err_map}
use Rattle.flash_bank.proofs.ReadsLemmas.{reads_none}
use Rattle.flash_bank.proofs.migration.migrate.Goals as goal

pub returns-in_default-clause-held : goal.returns-in_default-clause-held
returns-in_default-clause-held g c = λ tells sound.
    leaves_same (blocks_of g.F.Flash c.args.flash.now) (g.F.Flash.contents c.args.flash.now) sound

pub returns-in_default-clause-left : goal.returns-in_default-clause-left
returns-in_default-clause-left g c = λ tells sound.
    let F = g.F.Flash in
    leaves_none F.contents F.moment F.left_since (blocks_of F c.args.flash.now) c.args.flash.now (g.met.F.Flash.only_now c.args.flash.now) sound

pub returns-in_default-clause-unsound : goal.returns-in_default-clause-unsound
returns-in_default-clause-unsound g c = λ tells none.
    let F = g.F.Flash in
    reads_none F.tells F.contents F.block_count F.block_len F.moment F.left_since c.args.flash.now (g.met.F.Flash.only_now c.args.flash.now)

pub returns-in-Err-clause-held : goal.returns-in-Err-clause-held
returns-in-Err-clause-held g c = λ tells sound.
    let F = g.F.Flash in
    let x = F.contents c.args.flash.now in
    subst (λ (y : List ℕ). LeavesMoved (blocks_of F c.args.flash.now) x y) (sym (c.find_current.ensures.reads.same tells)) (leaves_same (blocks_of F c.args.flash.now) x sound)

pub returns-in-Err-clause-left : goal.returns-in-Err-clause-left
returns-in-Err-clause-left g c = λ tells sound.
    let F = g.F.Flash in
    leaves_read F.contents F.moment F.left_since (blocks_of F c.args.flash.now) c.args.flash.now c.find_current.new.flash sound (c.find_current.ensures.reads.left tells)

pub returns-in-Err-clause-unsound : goal.returns-in-Err-clause-unsound
returns-in-Err-clause-unsound g c = λ tells none.
    c.find_current.ensures.reads

pub returns-in-Ok-None-clause-held : goal.returns-in-Ok-None-clause-held
returns-in-Ok-None-clause-held g c = λ tells sound.
    let F = g.F.Flash in
    let x = F.contents c.args.flash.now in
    subst (λ (y : List ℕ). LeavesMoved (blocks_of F c.args.flash.now) x y) (sym (c.find_current.ensures.reads.same tells)) (leaves_same (blocks_of F c.args.flash.now) x sound)

pub returns-in-Ok-None-clause-left : goal.returns-in-Ok-None-clause-left
returns-in-Ok-None-clause-left g c = λ tells sound.
    let F = g.F.Flash in
    leaves_read F.contents F.moment F.left_since (blocks_of F c.args.flash.now) c.args.flash.now c.find_current.new.flash sound (c.find_current.ensures.reads.left tells)

pub returns-in-Ok-None-clause-unsound : goal.returns-in-Ok-None-clause-unsound
returns-in-Ok-None-clause-unsound g c = λ tells none.
    c.find_current.ensures.reads

pub migrate_found-requires-clause-found : goal.migrate_found-requires-clause-found
migrate_found-requires-clause-found g c tells =
    let F = g.F.Flash in
    let found = rw c.in-Ok-Some.field-0-is at (c.in-Ok-Some.ensures.found tells) in
    subst (λ (y : List ℕ). Finds (geometry c.in-Some.shape) y c.in-Ok-Some.current) (sym (c.find_current.ensures.reads.same tells)) found

pub returns-in-Ok-Some-clause-now : goal.returns-in-Ok-Some-clause-now
returns-in-Ok-Some-clause-now g c tells =
    let F = g.F.Flash in
    let x = F.contents c.args.flash.now in
    let shape = geometry c.in-Some.shape in
    let is : shape ≡ record { blocks = F.block_count c.args.flash.now; block_len = F.block_len c.args.flash.now } = (λ i. record { blocks = c.in-Some.ensures.blocks i; block_len = c.in-Some.ensures.block_size i }) in
    let same = c.find_current.ensures.reads.same tells in
    let y = F.contents c.migrate_found.new.flash in
    subst (λ (G : Geometry). IfOk c.migrate_found.result (λ migrated. OnNow migrated (λ new. Migrates G new x y))) is
    (subst (λ (z : List ℕ). IfOk c.migrate_found.result (λ migrated. OnNow migrated (λ new. Migrates shape new z y))) same (c.migrate_found.ensures.now tells))

pub returns-in-Ok-Some-clause-already : goal.returns-in-Ok-Some-clause-already
returns-in-Ok-Some-clause-already g c tells =
    let F = g.F.Flash in
    let x = F.contents c.args.flash.now in
    let shape = geometry c.in-Some.shape in
    let is : shape ≡ record { blocks = F.block_count c.args.flash.now; block_len = F.block_len c.args.flash.now } = (λ i. record { blocks = c.in-Some.ensures.blocks i; block_len = c.in-Some.ensures.block_size i }) in
    let same = c.find_current.ensures.reads.same tells in
    let y = F.contents c.migrate_found.new.flash in
    subst (λ (G : Geometry). IfOk c.migrate_found.result (λ migrated. OnAlready migrated (λ head. IsMigrated G x head))) is
    (subst (λ (z : List ℕ). IfOk c.migrate_found.result (λ migrated. OnAlready migrated (λ head. IsMigrated shape z head))) same (c.migrate_found.ensures.already tells))

pub returns-in-Ok-Some-clause-geometry : goal.returns-in-Ok-Some-clause-geometry
returns-in-Ok-Some-clause-geometry g c =
    let F = g.F.Flash in
    let shape = geometry c.in-Some.shape in
    let is : shape ≡ record { blocks = F.block_count c.args.flash.now; block_len = F.block_len c.args.flash.now } = (λ i. record { blocks = c.in-Some.ensures.blocks i; block_len = c.in-Some.ensures.block_size i }) in
    (λ e. absurd (c.migrate_found.ensures.no_geometry e), λ no. absurd (no (subst IsInLimits is c.in-Some.ensures.limits)))

pub returns-in-Ok-Some-clause-foreign : goal.returns-in-Ok-Some-clause-foreign
returns-in-Ok-Some-clause-foreign g c = λ tells e sound.
    absurd (c.migrate_found.ensures.no_foreign e)

pub returns-in-Ok-Some-clause-worn : goal.returns-in-Ok-Some-clause-worn
returns-in-Ok-Some-clause-worn g c = λ tells e.
    let F = g.F.Flash in
    let x = F.contents c.args.flash.now in
    let shape = geometry c.in-Some.shape in
    let is : shape ≡ record { blocks = F.block_count c.args.flash.now; block_len = F.block_len c.args.flash.now } = (λ i. record { blocks = c.in-Some.ensures.blocks i; block_len = c.in-Some.ensures.block_size i }) in
    let same = c.find_current.ensures.reads.same tells in
    let head = c.in-Ok-Some.current.head in
    (head, subst (λ (G : Geometry). IsWornOut G x head) is (subst (λ (z : List ℕ). IsWornOut shape z head) same (c.migrate_found.ensures.worn tells e)))

pub returns-in-Ok-Some-clause-no_fit : goal.returns-in-Ok-Some-clause-no_fit
returns-in-Ok-Some-clause-no_fit g c = λ tells e.
    let F = g.F.Flash in
    let x = F.contents c.args.flash.now in
    let shape = geometry c.in-Some.shape in
    let is : shape ≡ record { blocks = F.block_count c.args.flash.now; block_len = F.block_len c.args.flash.now } = (λ i. record { blocks = c.in-Some.ensures.blocks i; block_len = c.in-Some.ensures.block_size i }) in
    let same = c.find_current.ensures.reads.same tells in
    let head = c.in-Ok-Some.current.head in
    (head, subst (λ (G : Geometry). LacksRoom G x head) is (subst (λ (z : List ℕ). LacksRoom shape z head) same (c.migrate_found.ensures.no_fit tells e)))

pub returns-in-Ok-Some-clause-held : goal.returns-in-Ok-Some-clause-held
returns-in-Ok-Some-clause-held g c = λ tells sound.
    let F = g.F.Flash in
    let x = F.contents c.args.flash.now in
    let shape = geometry c.in-Some.shape in
    let is : shape ≡ record { blocks = F.block_count c.args.flash.now; block_len = F.block_len c.args.flash.now } = (λ i. record { blocks = c.in-Some.ensures.blocks i; block_len = c.in-Some.ensures.block_size i }) in
    let same = c.find_current.ensures.reads.same tells in
    let y = F.contents c.migrate_found.new.flash in
    subst (λ (G : Geometry). LeavesMoved G x y) is
    (subst (λ (z : List ℕ). LeavesMoved shape z y) same (c.migrate_found.ensures.held tells))

pub returns-in-Ok-Some-clause-left : goal.returns-in-Ok-Some-clause-left
returns-in-Ok-Some-clause-left g c = λ tells sound.
    let F = g.F.Flash in
    let shape = geometry c.in-Some.shape in
    let is : shape ≡ record { blocks = F.block_count c.args.flash.now; block_len = F.block_len c.args.flash.now } = (λ i. record { blocks = c.in-Some.ensures.blocks i; block_len = c.in-Some.ensures.block_size i }) in
    let mid = c.find_current.new.flash in
    let new = c.migrate_found.new.flash in
    let reads = c.find_current.ensures.reads in
    leaves_after F.contents F.moment F.left_since (blocks_of F c.args.flash.now) c.args.flash.now mid new sound (reads.left tells) (reads.same tells)
    (subst (λ (G : Geometry). LeavesOnly F.moment F.left_since mid new (LeavesMoved G (F.contents mid))) is (c.migrate_found.ensures.left tells))

pub returns-in-Ok-Some-clause-refused : goal.returns-in-Ok-Some-clause-refused
returns-in-Ok-Some-clause-refused g c = λ no_fault.
    let F = g.F.Flash in
    on_err_map c.migrate_found.result _ (OnlyReads F.tells F.contents F.block_count F.block_len F.moment F.left_since c.args.flash.now c.migrate_found.new.flash)
    (λ same. subst (λ flash. OnlyReads F.tells F.contents F.block_count F.block_len F.moment F.left_since c.args.flash.now flash) (sym same) c.find_current.ensures.reads) (c.migrate_found.ensures.refused no_fault)

pub returns-in-Ok-Some-clause-unchanged : goal.returns-in-Ok-Some-clause-unchanged
returns-in-Ok-Some-clause-unchanged g c =
    let F = g.F.Flash in
    if_already_map c.migrate_found.result _ (OnlyReads F.tells F.contents F.block_count F.block_len F.moment F.left_since c.args.flash.now c.migrate_found.new.flash)
    (λ same. subst (λ flash. OnlyReads F.tells F.contents F.block_count F.block_len F.moment F.left_since c.args.flash.now flash) (sym same) c.find_current.ensures.reads) c.migrate_found.ensures.unchanged

pub returns-in-Ok-Some-clause-unsound : goal.returns-in-Ok-Some-clause-unsound
returns-in-Ok-Some-clause-unsound g c = λ tells none.
    let F = g.F.Flash in
    let x = F.contents c.args.flash.now in
    let shape = geometry c.in-Some.shape in
    let is : shape ≡ record { blocks = F.block_count c.args.flash.now; block_len = F.block_len c.args.flash.now } = (λ i. record { blocks = c.in-Some.ensures.blocks i; block_len = c.in-Some.ensures.block_size i }) in
    let found = rw c.in-Ok-Some.field-0-is at (c.in-Ok-Some.ensures.found tells) in
    absurd (none (subst (λ (G : Geometry). IsSound G x) is found.sound))

pub returns-in_default-clause-exact : goal.returns-in_default-clause-exact
returns-in_default-clause-exact g c = λ tells limits. absurd (c.in_default.ensures.none limits)

pub returns-in-Err-clause-exact : goal.returns-in-Err-clause-exact
returns-in-Err-clause-exact g c = λ tells limits. record { foreign = λ none. tt; already = λ head is. tt; worn = λ head is. tt; no_fit = λ head is. tt; now = λ head is. tt }

pub returns-in-Ok-None-clause-exact : goal.returns-in-Ok-None-clause-exact
returns-in-Ok-None-clause-exact g c = λ tells limits.
    let F = g.F.Flash in
    let x = F.contents c.args.flash.now in
    let shape = geometry c.in-Some.shape in
    let is : shape ≡ record { blocks = F.block_count c.args.flash.now; block_len = F.block_len c.args.flash.now } = (λ i. record { blocks = c.in-Some.ensures.blocks i; block_len = c.in-Some.ensures.block_size i }) in
    let found = rw c.in-Ok-None.field-0-is at (c.in-Ok-None.ensures.found tells) in
    let none : IsSound (blocks_of F c.args.flash.now) x → ⊥ = λ sound. found (subst (λ (G : Geometry). IsSound G x) (sym is) sound) in
    record {
      foreign = λ not_sound. tt;
      already = λ head is. absurd (none is.has.sound);
      worn = λ head is. absurd (none is.has.sound);
      no_fit = λ head is. absurd (none is.has.sound);
      now = λ head is. absurd (none is.has.sound);
    }

pub returns-in-Ok-Some-clause-exact : goal.returns-in-Ok-Some-clause-exact
returns-in-Ok-Some-clause-exact g c = λ tells limits.
    let F = g.F.Flash in
    let x = F.contents c.args.flash.now in
    let shape = geometry c.in-Some.shape in
    let is : shape ≡ record { blocks = F.block_count c.args.flash.now; block_len = F.block_len c.args.flash.now } = (λ i. record { blocks = c.in-Some.ensures.blocks i; block_len = c.in-Some.ensures.block_size i }) in
    let same = c.find_current.ensures.reads.same tells in
    subst (λ (G : Geometry). IsExact G x c.migrate_found.result) is (subst (λ (z : List ℕ). IsExact shape z c.migrate_found.result) same (c.migrate_found.ensures.exact tells))
