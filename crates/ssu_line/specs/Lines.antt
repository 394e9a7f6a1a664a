-- The printed lines. Each ends with a line feed.
use Rattle.std.specs.Prelude.{ℕ, List, ◌++◌, codes, decimal}
use Rattle.ssu_answer.specs.Levels.{name_of, number_of}
use Rattle.ssu_answer.specs.declared.chosen.Chosen.{Chosen}
use Rattle.ssu_answer.specs.declared.level.Level.{Level}
use Rattle.ssu_answer.specs.declared.verdict.Verdict.{Verdict}
use Rattle.ssu_answer.specs.declared.verdict.Verdict.TheVariants.{Installed, Nothing, Incomplete, BadModule, Unsettled}
use Rattle.ssu_compat.specs.declared.rule.SwId.{SwId}
use Rattle.ssu_line.specs.Digits.{hex_word}

-- loaded group G bytes L
abbrev pub loaded_line : ℕ → ℕ → List ℕ
loaded_line group bytes =
    codes "loaded group " ++ decimal group ++ codes " bytes " ++ decimal bytes ++ codes "\n"

-- M.V
abbrev pub software_text : SwId → List ℕ
software_text software = decimal software.model ++ codes "." ++ decimal software.version

-- installed group G software M.V bytes L
abbrev pub installed_line : Chosen → List ℕ
installed_line chosen =
    codes "installed group " ++ decimal chosen.group ++ codes " software " ++ software_text chosen.software
    ++ codes " bytes " ++ decimal chosen.bytes ++ codes "\n"

-- nothing level K NAME
abbrev pub nothing_line : Level → List ℕ
nothing_line level =
    codes "nothing level " ++ decimal (number_of level) ++ codes " " ++ name_of level ++ codes "\n"

-- incomplete group G missing N
abbrev pub incomplete_line : ℕ → ℕ → List ℕ
incomplete_line group missing =
    codes "incomplete group " ++ decimal group ++ codes " missing " ++ decimal missing ++ codes "\n"

-- bad module I want C found C
abbrev pub bad_module_line : ℕ → ℕ → ℕ → List ℕ
bad_module_line id want found =
    codes "bad module " ++ decimal id ++ codes " want " ++ hex_word want ++ codes " found " ++ hex_word found ++ codes "\n"

-- unsettled
abbrev pub unsettled_line : List ℕ
unsettled_line = codes "unsettled\n"

-- the line of a verdict
abbrev pub verdict_line : Verdict → List ℕ
verdict_line (Installed chosen) = installed_line chosen
verdict_line (Nothing level) = nothing_line level
verdict_line (Incomplete chosen missing) = incomplete_line chosen.group missing
verdict_line (BadModule id want found) = bad_module_line id want found
verdict_line Unsettled = unsettled_line

-- sections N packets P
abbrev pub built_line : ℕ → ℕ → List ℕ
built_line sections packets =
    codes "sections " ++ decimal sections ++ codes " packets " ++ decimal packets ++ codes "\n"

-- packets P
abbrev pub aired_line : ℕ → List ℕ
aired_line packets = codes "packets " ++ decimal packets ++ codes "\n"

-- sample N modules M bytes L sections S
abbrev pub sampled_line : ℕ → ℕ → ℕ → ℕ → List ℕ
sampled_line number modules bytes sections =
    codes "sample " ++ decimal number ++ codes " modules " ++ decimal modules ++ codes " bytes " ++ decimal bytes
    ++ codes " sections " ++ decimal sections ++ codes "\n"

-- blank N
abbrev pub blank_line : ℕ → List ℕ
blank_line blocks = codes "blank " ++ decimal blocks ++ codes "\n"

-- formatted bytes L
abbrev pub formatted_line : ℕ → List ℕ
formatted_line bytes = codes "formatted bytes " ++ decimal bytes ++ codes "\n"

-- migrated bytes L number N
abbrev pub migrated_line : ℕ → ℕ → List ℕ
migrated_line bytes number = codes "migrated bytes " ++ decimal bytes ++ codes " number " ++ decimal number ++ codes "\n"

-- already layout 2 number N
abbrev pub already_line : ℕ → List ℕ
already_line number = codes "already layout 2 number " ++ decimal number ++ codes "\n"

-- boot bank B number N software M.V bytes L
abbrev pub booted_line : ℕ → ℕ → SwId → ℕ → List ℕ
booted_line bank number software bytes =
    codes "boot bank " ++ decimal bank ++ codes " number " ++ decimal number
    ++ codes " software " ++ software_text software ++ codes " bytes " ++ decimal bytes ++ codes "\n"
