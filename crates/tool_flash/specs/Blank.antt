-- What `blank` makes.
use Rattle.std.specs.Prelude.{ℕ, ◌*◌, List, replicate}

-- blocks of 4,096 bytes 255
abbrev pub blank_bytes : ℕ → List ℕ
blank_bytes blocks = replicate (blocks * 4096) 255
