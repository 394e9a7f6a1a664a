-- How long a bank is where there is no flash.
use Rattle.std.specs.Prelude.{ℕ}

-- 128 MiB
abbrev pub bank_len : ℕ
bank_len = 134217728
