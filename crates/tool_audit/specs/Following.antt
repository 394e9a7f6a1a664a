-- What the hearer and the audit stand for after some packets.
use Rattle.std.specs.Prelude.{ℕ, Bool, List, [], ◌∷◌, ◌++◌, map, reverse, Option}
use Rattle.ssu_audit.specs.Calls.{Call}
use Rattle.ssu_audit.specs.Standing.{Stands}
use Rattle.ssu_audit.specs.declared.audit.Audit.{Audit}
use Rattle.tool_audit.specs.Calls.{calls_of, pids_of}
use Rattle.ts_section.specs.Events.{Listen, fed}
use Rattle.ts_section.specs.Hearing.{Hears}
use Rattle.ts_section.specs.declared.hearer.Hearer.{Hearer}

-- a section of a notice, or of the carousel
abbrev pub as_call : Bool → List ℕ → Call
as_call notice section = record { notice = notice; section = section }

-- the calls, and these sections behind them, the oldest first
abbrev pub onto : Bool → List (List ℕ) → List Call → List Call
onto notice sections calls = reverse (map (as_call notice) sections) ++ calls

-- These packets came, the oldest first, and the PIDs are listened to from the first one on. No fact stands against a section.
pub record Follows (pid : ℕ) (notice : Option ℕ) (hearer : Hearer) (audit : Audit) (ps : List (List ℕ)) : Type 0 where
  pub hears : Hears hearer (fed (Listen (pids_of pid notice) ∷ []) ps)
  pub stands : Stands (calls_of pid notice ps) audit
