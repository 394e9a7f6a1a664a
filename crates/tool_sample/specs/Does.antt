-- What `sample N` does: it prints what came of the sample of that number.
use Rattle.std.specs.Prelude.{◌≡◌, ◌≤◌, ◌*◌, ℕ, ◌++◌, List, length, replicate}
use Rattle.broadcast.specs.Broadcasts.{Concludes}
use Rattle.broadcast.specs.declared.outcome.Outcome.{Outcome}
use Rattle.flash_bank.specs.Format.{Formats, first_record}
use Rattle.flash_layout.specs.Layout.{blocks_of}
use Rattle.flash_bank.specs.Seen.{FlashSeen, flash_seen}
use Rattle.flash_dev.specs.Sure.{sure_contents}
use Rattle.flash_dev.specs.contracts.sure.SureFlashFlash.TheImpl.{ghosts}
use Rattle.flash_dev.specs.declared.sure.SureFlash.{SureFlash}
use Rattle.head_carousel.specs.Sections.{sections_of}
use Rattle.ssu_io.specs.Bytes.{Gains, GainsPrefix}
use Rattle.ssu_io.specs.Faults.{Rose}
use Rattle.ssu_io.specs.Seen.{SinkSeen}
use Rattle.ssu_line.specs.Lines.{booted_line, sampled_line, verdict_line}
use Rattle.ssu_status.specs.Status.{OnDone, OnNoMemory, OnWriteFault}
use Rattle.ssu_status.specs.declared.status.Status.{Status}
use Rattle.ssu_status.specs.declared.status.Status.TheVariants.{Done, NoMemory, WriteFault}
use Rattle.tool_sample.specs.Sample.{broadcast_of, byte_total, first_image, module_count, modules_of, plan_of, running, section_total, the_blocks, the_box}

-- ---- the flash

-- a blank flash
unfoldable pub blank_contents : List ℕ
blank_contents = replicate (the_blocks.blocks * the_blocks.block_len) 255

-- It has the blocks of a sample's flash, and is blank.
pub record IsBlankFlash (flash : SureFlash) : Type 0 where
  pub blocks : blocks_of ghosts flash ≡ the_blocks
  pub contents : sure_contents flash ≡ blank_contents

-- It has the blocks of a sample's flash, and was blank and then formatted.
pub record IsFormatted (flash : SureFlash) : Type 0 where
  pub blocks : blocks_of ghosts flash ≡ the_blocks
  pub contents : Formats the_blocks (first_record 1 16 running) first_image blank_contents (sure_contents flash)

-- the flash before a broadcast and after it
abbrev pub sure_seen : SureFlash → SureFlash → FlashSeen
sure_seen before after = flash_seen ghosts before after

-- ---- the lines

-- what the sample is, its verdict, and the record that boot takes then
unfoldable pub text_of : ℕ → Outcome → List ℕ
text_of number outcome =
    sampled_line number (module_count number) (byte_total number) (section_total number)
    ++ (verdict_line outcome.verdict
    ++ booted_line outcome.booted.bank outcome.booted.number outcome.booted.software outcome.booted.length)

-- ---- the whole

-- This holds of what came of the broadcast of the sample to its box, over its formatted flash.
pub record ForOutcome (number : ℕ) (Fact : Outcome → Type 0) : Type 0 where
  pub before : SureFlash
  pub after : SureFlash
  pub outcome : Outcome
  pub formatted : IsFormatted before
  pub concludes : Concludes (broadcast_of number) the_box (sure_seen before after) outcome
  pub sections : section_total number ≡ length (sections_of (plan_of number) (modules_of number))
  pub fact : Fact outcome

-- what the command answers
abbrev pub IsAnswer : Status → Type 0
IsAnswer Done = Unit {0}
IsAnswer NoMemory = Unit {0}
IsAnswer WriteFault = Unit {0}
IsAnswer other = ⊥

pub record SampleDoes (number : ℕ) (result : Status) (out : SinkSeen) : Type 0 where
  -- Done, whatever the verdict: `out` got the three lines.
  pub done : OnDone result (ForOutcome number (λ outcome. Gains out.got out.got_after (text_of number outcome)))
  -- Memory ran out before the first line.
  pub no_memory : OnNoMemory result out.same
  -- `out` failed: it got a prefix of the lines.
  pub write_fault : OnWriteFault result (ForOutcome number (λ outcome. GainsPrefix out.got out.got_after (text_of number outcome)))
  pub write_cause : OnWriteFault result (Rose out.faults out.faults_after)
  -- There is no other answer.
  pub answers : IsAnswer result
  -- The count of faults never falls.
  pub out_later : out.faults ≤ out.faults_after
