use Rattle.std.proofs.Common.{◌-◌, length}
use Rattle.flash_dev.proofs.buffered_file.BufferedFile.read.Given as goal

abbrev pub decreases-loop-done : goal.decreases-loop-done
decreases-loop-done g l = length l.buf - l.done
