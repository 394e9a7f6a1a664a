-- What `boot` puts out: the image that boot takes, and a line of its record.
use Rattle.std.specs.Prelude.{◌≡◌, ℕ, ◌⊎◌, List, Option}
use Rattle.flash_bank.specs.Seen.{FlashSeen}
use Rattle.flash_bank.specs.Sound.{Boot, BootOf}
use Rattle.flash_bank.specs.declared.record.Record.{Record}
use Rattle.ssu_io.specs.Bytes.{Gains, GainsPrefix}
use Rattle.ssu_io.specs.Faults.{Rose}
use Rattle.ssu_io.specs.Seen.{SinkSeen}
use Rattle.ssu_line.specs.Lines.{booted_line}

abbrev pub record_line : Record → List ℕ
record_line head = booted_line head.bank head.number head.software head.length

-- boot takes this record with an image, and the image was made
abbrev pub Takes : FlashSeen → Record → SinkSeen → Type 0
Takes flash head made = (image : List ℕ) × BootOf flash.blocks flash.contents (record { head = head; image = image })
    × Gains made.got made.got_after image

-- The image was made, and of the line of its record this was printed. Where the flash does not tell its contents, the record
-- is the one that was read.
pub record Boots (Prints : Option (List ℕ) → Option (List ℕ) → List ℕ → Type 0) (flash : FlashSeen) (made out : SinkSeen)
    : Type 0 where
  pub head : Record
  pub takes : flash.tells → Takes flash head made
  pub prints : Prints out.got out.got_after (record_line head)

-- nothing was made, or a prefix of the image
abbrev pub MakesPrefix : FlashSeen → SinkSeen → Type 0
MakesPrefix flash made =
    (made.got_after ≡ made.got)
    ⊎ ((taken : Boot) × BootOf flash.blocks flash.contents taken × GainsPrefix made.got made.got_after taken.image)

-- A part of the image was made, and `made` failed; or all of it, a prefix of the line was printed, and `out` failed.
abbrev pub BootsPart : FlashSeen → SinkSeen → SinkSeen → Type 0
BootsPart flash made out =
    ((flash.tells → MakesPrefix flash made) × (out.same × Rose made.faults made.faults_after))
    ⊎ (Boots GainsPrefix flash made out × Rose out.faults out.faults_after)
