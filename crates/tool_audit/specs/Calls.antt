-- What an audit hears in the packets of an input.
use Rattle.std.specs.Prelude.{ℕ, not, ◌==◌, List, [], ◌∷◌, map, reverse, Option, Some, None}
use Rattle.std.specs.Option.{option_or}
use Rattle.audit_answer.specs.declared.answers.AuditNo.{AuditNo}
use Rattle.ssu_audit.specs.Calls.{Call}
use Rattle.ssu_audit.specs.Hearing.{answer_to}
use Rattle.ts_section.specs.Events.{Heard, Listen, all_heard, fed}

-- the PIDs that are listened to: that of the carousel, and that of its notice where one is asked for
abbrev pub pids_of : ℕ → Option ℕ → List ℕ
pids_of pid None = pid ∷ []
pids_of pid (Some notice) = pid ∷ notice ∷ []

-- A section that is heard on this PID is one of the carousel, and any other one of its notice.
abbrev pub call_of : ℕ → Heard → Call
call_of pid item = record { notice = not (item.pid == pid); section = item.section }

-- All that is heard in these packets, the oldest first, where the PIDs are listened to from the first one on. The calls have
-- the newest first: sections are numbered in the order of completion, and in one packet in the order of the starts.
unfoldable pub calls_of : ℕ → Option ℕ → List (List ℕ) → List Call
calls_of pid notice ps = reverse (map (call_of pid) (all_heard (fed (Listen (pids_of pid notice) ∷ []) ps)))

-- the first fact against one of the sections, or None where there is none
unfoldable pub first_fact : List Call → Option AuditNo
first_fact [] = None
first_fact (call ∷ earlier) = option_or (first_fact earlier) (answer_to earlier call)
