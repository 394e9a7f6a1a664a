-- The flash of a sample.
use Rattle.std.proofs.Common.{◌≡◌, ◌∙◌, ℕ, List, ap, arith, refl, replicate, subst, sym}
use Rattle.std.specs.Prelude.{Err, IfOk, Ok, Result}
use Rattle.flash_bank.specs.Format.{Formats, first_record, layout_for}
use Rattle.flash_layout.specs.Layout.{Geometry, IsInLimits, bank_len, blocks_of}
use Rattle.flash_bank.specs.Sound.{Boot, IsWorn, boot_in}
use Rattle.flash_bank.specs.declared.record.Record.{Record}
use Rattle.flash_bank.proofs.SoundLemmas.{one_boot}
use Rattle.flash_dev.specs.Sure.{sure_block_count, sure_block_len, sure_contents}
use Rattle.flash_dev.specs.contracts.sure.SureFlashFlash.TheImpl.{ghosts}
use Rattle.flash_dev.specs.declared.sure.SureFlash.{SureFlash}
use Rattle.ssu_io.specs.declared.error.NoMemory.{NoMemory}
use Rattle.tool_sample.specs.Does.{IsBlankFlash, IsFormatted, blank_contents}
use Rattle.tool_sample.specs.Sample.{first_image, running, the_blocks}

pub limits : IsInLimits the_blocks
limits = record {
  page = refl;
  least_len = omega arith;
  most_len = omega arith;
  least_blocks = omega arith;
  most_blocks = omega arith;
  most_bytes = omega arith;
}

-- the first record is not worn out
pub fresh : (before : SureFlash) → IsFormatted before → IsWorn the_blocks (sure_contents before) → ⊥
fresh before formatted worn =
    let contents = sure_contents before in
    let first : Boot = record { head = first_record 1 16 running; image = first_image } in
    let current = boot_in the_blocks contents worn.block in
    let same = one_boot the_blocks contents first current formatted.contents.boot (record { block = worn.block; current = worn.current; is = refl }) in
    omega (arith, ap (λ (b : Boot). b.head.number) same, worn.greatest)

-- the blocks of this number and length
pub blocks_are : (flash : SureFlash) → sure_block_count flash ≡ the_blocks.blocks → sure_block_len flash ≡ the_blocks.block_len → blocks_of ghosts flash ≡ the_blocks
blocks_are flash count len = λ i. record { blocks = count i; block_len = len i }

pub blank_is : (made : Result SureFlash NoMemory) → IfOk made (λ flash. sure_contents flash ≡ replicate 827392 255) → IfOk made (λ flash. sure_block_count flash ≡ 202)
    → IfOk made (λ flash. sure_block_len flash ≡ 4096) → IfOk made IsBlankFlash
unfolding blank_contents
blank_is (Ok flash) contents count len = record { blocks = blocks_are flash count len; contents = contents }
blank_is (Err none) contents count len = tt

-- a blank one can be formatted, and its banks have room for 409,600 bytes
pub in_limits : (flash : SureFlash) → IsBlankFlash flash → IsInLimits (blocks_of ghosts flash)
in_limits flash blank = subst IsInLimits (sym blank.blocks) limits

pub room : (flash : SureFlash) → IsBlankFlash flash → bank_len (blocks_of ghosts flash) (layout_for (blocks_of ghosts flash)) ≡ 409600
room flash blank = ap (λ (g : Geometry). bank_len g (layout_for g)) blank.blocks

-- A flash that was blank was formatted.
pub formatted_is : (old new : SureFlash) (head : Record) (image : List ℕ) → IsBlankFlash old → sure_block_count new ≡ sure_block_count old
    → sure_block_len new ≡ sure_block_len old → head ≡ first_record (layout_for (blocks_of ghosts old)) 16 running → image ≡ first_image
    → Formats (blocks_of ghosts old) head image (sure_contents old) (sure_contents new) → IsFormatted new
formatted_is old new head image blank count len head_is image_is formats = record {
  blocks = blocks_are new (count ∙ ap (λ (g : Geometry). g.blocks) blank.blocks) (len ∙ ap (λ (g : Geometry). g.block_len) blank.blocks);
  contents =
      let is : head ≡ first_record 1 16 running = head_is ∙ ap (λ (g : Geometry). first_record (layout_for g) 16 running) blank.blocks in
      rw (blank.blocks, blank.contents, is, image_is) at formats;
}
