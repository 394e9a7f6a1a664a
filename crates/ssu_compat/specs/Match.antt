-- What a compatibility descriptor says to a box: ETSI TS 102 006 9.5.2.
use Rattle.std.specs.Prelude.{ℕ, Bool, true, false, ◌&&◌, ◌==◌, nat_lt, not, List, Option, Some, None}
use Rattle.std.specs.List.{list_any, find}
use Rattle.std.specs.Option.{option_map}
use Rattle.ssu_compat.specs.declared.rule.Rule.{Rule}
use Rattle.ssu_compat.specs.declared.rule.Rule.TheVariants.{Newer, Different, Any}
use Rattle.ssu_compat.specs.declared.rule.SwId.{SwId}
use Rattle.ssu_compat.specs.Compat.{EntryFields}

-- Is it the hardware of this OUI (specifierType 1), model and version?
abbrev pub is_hardware : ℕ → ℕ → ℕ → EntryFields → Bool
is_hardware oui model version e = e.kind == 1 && e.specifier == 1 && e.oui == oui && e.model == model && e.version == version

-- Some entry is the box's hardware.
unfoldable pub matches : ℕ → ℕ → ℕ → List EntryFields → Bool
matches oui model version es = list_any (is_hardware oui model version) es

-- Is it a software of this OUI?
abbrev pub is_software : ℕ → EntryFields → Bool
is_software oui e = e.kind == 2 && e.specifier == 1 && e.oui == oui

abbrev pub software : EntryFields → SwId
software e = record { model = e.model; version = e.version }

-- The offered software is that of the first software entry of the OUI.
unfoldable pub offered : ℕ → List EntryFields → Option SwId
offered oui es = option_map software (find (is_software oui) es)

-- Does the rule admit what is offered to a box that runs this software?
abbrev pub admits : Rule → SwId → Option SwId → Bool
admits Newer running None = false
admits Newer running (Some new) = nat_lt running.version new.version
admits Different running None = false
admits Different running (Some new) = not (new.model == running.model && new.version == running.version)
admits Any running new = true
