-- Why a script was not had.
use Rattle.air_channel.specs.declared.fault.ScriptFault.{ScriptFault}
use Rattle.air_channel.specs.declared.fault.ScriptFault.TheVariants.{Field, Memory}
use Rattle.ssu_status.specs.declared.status.Status.{Status}
use Rattle.ssu_status.specs.declared.status.Status.TheVariants.{NoMemory, PlanRefused}
use Rattle.tool_box.specs.Fetching.{IsFetchRefusal}

-- a script was not had for one of these reasons
abbrev pub IsScriptRefusal : Status → Type 0
IsScriptRefusal (PlanRefused field) = Unit {0}
IsScriptRefusal other = IsFetchRefusal other

-- the text gave no script for one of these reasons
abbrev pub IsTextRefusal : Status → Type 0
IsTextRefusal (PlanRefused field) = Unit {0}
IsTextRefusal NoMemory = Unit {0}
IsTextRefusal other = ⊥

abbrev pub text_refusal : ScriptFault → Status
text_refusal (Field field) = PlanRefused field
text_refusal Memory = NoMemory
