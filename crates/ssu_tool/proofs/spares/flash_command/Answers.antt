use Rattle.ssu_tool.proofs.spares.flash_command.Goals as goal

pub returns-in_default : goal.returns-in_default
returns-in_default c = record { found = tt; only = λ task asks. let is = c.in_default.ensures.only task asks.line in cc }
