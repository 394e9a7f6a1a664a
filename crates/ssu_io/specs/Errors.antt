-- The only value of each error.
use Rattle.ssu_io.specs.declared.error.Failed.{Failed}
use Rattle.ssu_io.specs.declared.error.NoMemory.{NoMemory}

abbrev pub failed : Failed
failed = record {}

abbrev pub no_memory : NoMemory
no_memory = record {}
