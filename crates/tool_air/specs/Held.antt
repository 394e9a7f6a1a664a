-- What a shelf tells of a script. A shelf that does not tell its files tells all of this.
use Rattle.std.specs.Prelude.{◌≡◌, ℕ, List, Option, codes, Ok, Err}
use Rattle.air_channel.specs.ScriptText.{script_of}
use Rattle.air_channel.specs.Scripts.{ScriptData}
use Rattle.ssu_io.specs.Files.{File, Has}

abbrev pub script_name : List ℕ
script_name = codes "script.toml"

-- the shelf has a script.toml that tells of this script
pub record TellsScript (held : Option (List File)) (script : ScriptData) : Type 0 where
  pub text : List ℕ
  pub has : Has held script_name text
  pub read : script_of text ≡ Ok script

-- the shelf has a script.toml whose first bad field is this one, with `script.` before it
pub record RefusesScript (held : Option (List File)) (field : List ℕ) : Type 0 where
  pub text : List ℕ
  pub has : Has held script_name text
  pub read : script_of text ≡ Err field
