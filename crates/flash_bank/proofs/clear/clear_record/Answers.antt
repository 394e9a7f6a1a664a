use Rattle.std.specs.Prelude.{true, false}
use Rattle.std.proofs.Common.{◌≡◌, ◌*◌, ℕ, List, refl, subst, arith}
use Rattle.flash_dev.specs.Changes.{Changes, IsBlank, IsErased}
use Rattle.flash_dev.proofs.Moments.{joined, weaker}
use Rattle.flash_layout.specs.Layout.{record_place}
use Rattle.flash_layout.specs.Shape.{geometry}
use Rattle.flash_layout.proofs.Places.{record_within}
use Rattle.flash_bank.specs.Runs.{IsRaised}
use Rattle.flash_bank.proofs.ClearLemmas.{on_ok_map}
use Rattle.flash_bank.proofs.ClearRecordLemmas.{blank_front, clears_erased, clears_same, front_blank, raised_same}
use Rattle.flash_bank.proofs.ReadsLemmas.{reads_one}
use Rattle.flash_bank.proofs.clear.clear_record.Goals as goal

pub read-requires : goal.read-requires
read-requires g c =
    let s = geometry c.args.shape in
    let total : g.F.Flash.block_count c.args.flash.now * g.F.Flash.block_len c.args.flash.now ≡ s.blocks * s.block_len =
    (λ i. c.requires.blocks i * c.requires.block_size i) in
    omega (arith, total, record_within s c.requires.limits c.args.block c.requires.block, c.requires.limits.least_len, c.record_place.ensures)

pub erase_block-requires-clause-inside : goal.erase_block-requires-clause-inside
erase_block-requires-clause-inside g c = omega (arith, c.requires.block, c.requires.limits.least_blocks)

-- a read changes nothing

pub returns-in_err-read-clause-held : goal.returns-in_err-read-clause-held
returns-in_err-read-clause-held g c tells = raised_same _ _ _ _ (c.read.ensures.same tells)

pub returns-in_err-read-clause-left : goal.returns-in_err-read-clause-left
returns-in_err-read-clause-left g c tells =
    let F = g.F.Flash in
    let x = F.contents c.args.flash.now in
    let reads = reads_one F.tells F.contents F.block_count F.block_len F.moment F.left_since c.args.flash.now c.read.new.self (g.met.F.Flash.only_now c.args.flash.now)
    c.read.ensures.same c.read.ensures.blocks c.read.ensures.block_size c.read.ensures.time in
    weaker F.moment F.left_since c.args.flash.now c.read.new.self _ (Changes (record_place (geometry c.args.shape) c.args.block) c.args.shape.block_size IsRaised x)
    (λ y is. raised_same _ _ x y is) (reads.left tells)

pub returns-then-blank-clause-held : goal.returns-then-blank-clause-held
returns-then-blank-clause-held g c tells = raised_same _ _ _ _ (c.read.ensures.same tells)

pub returns-then-blank-clause-left : goal.returns-then-blank-clause-left
returns-then-blank-clause-left g c tells =
    let F = g.F.Flash in
    let x = F.contents c.args.flash.now in
    let reads = reads_one F.tells F.contents F.block_count F.block_len F.moment F.left_since c.args.flash.now c.read.new.self (g.met.F.Flash.only_now c.args.flash.now)
    c.read.ensures.same c.read.ensures.blocks c.read.ensures.block_size c.read.ensures.time in
    weaker F.moment F.left_since c.args.flash.now c.read.new.self _ (Changes (record_place (geometry c.args.shape) c.args.block) c.args.shape.block_size IsRaised x)
    (λ y is. raised_same _ _ x y is) (reads.left tells)

pub returns-then-blank-clause-cleared : goal.returns-then-blank-clause-cleared
returns-then-blank-clause-cleared g c tells =
    let F = g.F.Flash in
    let x = F.contents c.args.flash.now in
    clears_same _ _ x (F.contents c.read.new.self) (c.read.ensures.same tells)
    (front_blank x c.read.new.buf c.record_place.result (record_place (geometry c.args.shape) c.args.block) c.record_place.ensures (omega arith)
    (c.in_ok-read.ensures.bytes tells) (c.if-blank.ensures.0 refl))

-- an erase

pub returns-else-blank-clause-held : goal.returns-else-blank-clause-held
returns-else-blank-clause-held g c tells =
    let F = g.F.Flash in
    subst (λ (x : List ℕ). Changes (record_place (geometry c.args.shape) c.args.block) c.args.shape.block_size IsRaised x (F.contents c.erase_block.new.flash))
    (c.read.ensures.same tells) (c.erase_block.ensures.held tells)

pub returns-else-blank-clause-left : goal.returns-else-blank-clause-left
returns-else-blank-clause-left g c tells =
    let F = g.F.Flash in
    let x = F.contents c.args.flash.now in
    let P : List ℕ → Type 0 = Changes (record_place (geometry c.args.shape) c.args.block) c.args.shape.block_size IsRaised x in
    let reads = reads_one F.tells F.contents F.block_count F.block_len F.moment F.left_since c.args.flash.now c.read.new.self (g.met.F.Flash.only_now c.args.flash.now)
    c.read.ensures.same c.read.ensures.blocks c.read.ensures.block_size c.read.ensures.time in
    joined F.moment F.left_since c.args.flash.now c.read.new.self c.erase_block.new.flash P
    (weaker F.moment F.left_since c.args.flash.now c.read.new.self _ P (λ y is. raised_same _ _ x y is) (reads.left tells))
    (weaker F.moment F.left_since c.read.new.self c.erase_block.new.flash _ P
    (λ y h. subst (λ (z : List ℕ). Changes (record_place (geometry c.args.shape) c.args.block) c.args.shape.block_size IsRaised z y) (c.read.ensures.same tells) h)
    (c.erase_block.ensures.left tells))

pub returns-else-blank-clause-cleared : goal.returns-else-blank-clause-cleared
returns-else-blank-clause-cleared g c tells =
    let F = g.F.Flash in
    let x = F.contents c.args.flash.now in
    let y = F.contents c.erase_block.new.flash in
    let place = record_place (geometry c.args.shape) c.args.block in
    let torn : IsBlank x place 256 → ⊥ =
    λ blank. let no_way : false ≡ true = c.if-blank.ensures.1 (blank_front x c.read.new.buf c.record_place.result place c.record_place.ensures (omega arith) (c.in_ok-read.ensures.bytes tells) blank) in cc no_way in
    on_ok_map c.erase_block.result _ _ (λ done. clears_erased place c.args.shape.block_size x y c.requires.limits.least_len torn
    (subst (λ (z : List ℕ). Changes place c.args.shape.block_size IsErased z y) (c.read.ensures.same tells) done))
    (c.erase_block.ensures.done tells)
