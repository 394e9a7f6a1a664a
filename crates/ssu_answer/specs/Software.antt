-- The software of a group that names none.
use Rattle.ssu_compat.specs.declared.rule.SwId.{SwId}

-- the software of model 0 and version 0
abbrev pub no_software : SwId
no_software = record { model = 0; version = 0 }
