-- What packets that come one after the other leave of an audit.
use Rattle.std.proofs.Common.{◌≡◌, ℕ, ◌+◌, ◌*◌, ◌<◌, List, [], ◌∷◌, ◌++◌, length, Option, sym, ap, subst, ◌∙◌, arith, length-append}
use Rattle.audit_answer.specs.declared.answers.AuditNo.{AuditNo}
use Rattle.ssu_audit.specs.Calls.{Call}
use Rattle.ssu_audit.specs.Standing.{Stands}
use Rattle.ssu_audit.specs.declared.audit.Audit.{Audit}
use Rattle.ssu_io.specs.Bytes.{Takes}
use Rattle.ssu_io.proofs.BytesLemmas.{Takes_none, Takes_join}
use Rattle.tool_audit.specs.Answers.{OnMore, OnStop}
use Rattle.tool_audit.specs.Calls.{calls_of, pids_of}
use Rattle.tool_audit.specs.Comes.{HearsAtPacket, HearsIn}
use Rattle.tool_audit.specs.Following.{Follows, onto}
use Rattle.tool_audit.specs.declared.hearing.Step.{Step}
use Rattle.tool_audit.specs.declared.hearing.Step.TheVariants.{More, Fact, Full}
use Rattle.tool_audit.proofs.CallsLaws.{calls_more, calls_none, fed_none, is_notice, listening}
use Rattle.ts_input.specs.Input.{TakesPackets}
use Rattle.ts_input.specs.Packets.{packets}
use Rattle.ts_input.proofs.PacketLemmas.{packets_more, packets_of_rest}
use Rattle.ts_section.specs.Events.{Feed, Listen, fed, heard}
use Rattle.ts_section.specs.Hearing.{Hears}
use Rattle.ts_section.specs.declared.hearer.Hearer.{Hearer}
use Rattle.ts_section.proofs.HearSteps.{fed-push}

-- ---- one packet

-- what holds of the calls with the sections of one packet more
pub heard_packet : (pid : ℕ) (notice : Option ℕ) (ps : List (List ℕ)) (packet : List ℕ) (each : List (List ℕ)) (P : List Call → Type 0)
    → each ≡ heard (Feed packet ∷ fed (listening pid notice) ps) → P (onto (is_notice pid packet) each (calls_of pid notice ps))
    → P (calls_of pid notice (ps ++ packet ∷ []))
heard_packet pid notice ps packet each P is p =
    subst P (ap (λ (xs : List (List ℕ)). onto (is_notice pid packet) xs (calls_of pid notice ps)) is ∙ sym (calls_more pid notice ps packet)) p

pub follows_more : (pid : ℕ) (notice : Option ℕ) (hearer : Hearer) (audit : Audit) (ps : List (List ℕ)) (packet : List ℕ)
    → Hears hearer (Feed packet ∷ fed (listening pid notice) ps) → Stands (calls_of pid notice (ps ++ packet ∷ [])) audit
    → Follows pid notice hearer audit (ps ++ packet ∷ [])
follows_more pid notice hearer audit ps packet hears stands = record {
  hears = subst (Hears hearer) (sym (fed-push (listening pid notice) ps packet)) hears;
  stands = stands;
}

pub more_then : (step : Step) (P Q : Type 0) → OnMore step P → (P → Q) → OnMore step Q
more_then More P Q p f = f p
more_then (Fact why) P Q p f = tt
more_then Full P Q p f = tt

pub stop_then : (step : Step) (P Q : AuditNo → Type 0) → OnStop step P → ((why : AuditNo) → P why → Q why) → OnStop step Q
stop_then More P Q p f = tt
stop_then (Fact why) P Q p f = f why p
stop_then Full P Q p f = tt

-- ---- the input so far

-- So many packets were taken, and the audit stands for what was heard in them.
pub record SoFar (pid : ℕ) (notice : Option ℕ) (count : ℕ) (hearer : Hearer) (audit : Audit) (left left_now : Option (List ℕ)) : Type 0 where
  pub taken : List ℕ
  pub takes : Takes left left_now taken
  pub whole : length taken ≡ 188 * count
  pub follows : Follows pid notice hearer audit (packets taken)

pub so_far_none : (pid : ℕ) (notice : Option ℕ) (hearer : Hearer) (audit : Audit) (left : Option (List ℕ)) → Hears hearer (Listen (pids_of pid notice) ∷ [])
    → Stands [] audit → SoFar pid notice 0 hearer audit left left
so_far_none pid notice hearer audit left hears stands =
    let no_packets : packets [] ≡ [] = packets_of_rest [] (omega arith) in
    let no_events : listening pid notice ≡ fed (listening pid notice) (packets []) = sym (ap (fed (listening pid notice)) no_packets ∙ fed_none pid notice) in
    let nothing : [] ≡ calls_of pid notice (packets []) = sym (ap (calls_of pid notice) no_packets ∙ calls_none pid notice) in
    record {
      taken = [];
      takes = Takes_none left;
      whole = omega arith;
      follows = record {
        hears = subst (Hears hearer) no_events hears;
        stands = subst (λ (calls : List Call). Stands calls audit) nothing stands;
      };
    }

pub so_far_more : (pid : ℕ) (notice : Option ℕ) (count : ℕ) (h h' : Hearer) (a a' : Audit) (left left_now left_then : Option (List ℕ)) (packet : List ℕ)
    → (sofar : SoFar pid notice count h a left left_now) → Takes left_now left_then packet → length packet ≡ 188
    → Follows pid notice h' a' (packets sofar.taken ++ packet ∷ []) → SoFar pid notice (count + 1) h' a' left left_then
so_far_more pid notice count h h' a a' left left_now left_then packet sofar takes one follows = record {
  taken = sofar.taken ++ packet;
  takes = Takes_join left left_now left_then sofar.taken packet sofar.takes takes;
  whole = omega (arith, length-append sofar.taken packet, sofar.whole, one);
  follows = subst (Follows pid notice h' a') (sym (packets_more sofar.taken packet count sofar.whole one)) follows;
}

-- an answer at a packet
pub at_packet : (pid : ℕ) (notice : Option ℕ) (count : ℕ) (h : Hearer) (a : Audit) (left left_now left_then : Option (List ℕ)) (packet : List ℕ) (Now Before : List Call → Type 0)
    → (sofar : SoFar pid notice count h a left left_now) → Takes left_now left_then packet → length packet ≡ 188 → count < 16777216
    → Now (calls_of pid notice (packets sofar.taken ++ packet ∷ [])) → Before (calls_of pid notice (packets sofar.taken))
    → HearsAtPacket pid notice left left_then Now Before
at_packet pid notice count h a left left_now left_then packet Now Before sofar takes one few now before = record {
  count = count;
  earlier = sofar.taken;
  packet = packet;
  takes = Takes_join left left_now left_then sofar.taken packet sofar.takes takes;
  whole = sofar.whole;
  within = few;
  one = one;
  now = subst (λ (ps : List (List ℕ)). Now (calls_of pid notice ps)) (sym (packets_more sofar.taken packet count sofar.whole one)) now;
  before = before;
}

-- an answer once no packet came any more
pub at_end : (pid : ℕ) (notice : Option ℕ) (Size : ℕ → Type 0) (left left_then : Option (List ℕ)) (ps : List (List ℕ)) (Now : List Call → Type 0)
    → TakesPackets Size left left_then ps → Now (calls_of pid notice ps) → HearsIn pid notice left left_then Size Now
at_end pid notice Size left left_then ps Now all now = record {
  taken = all.taken;
  takes = all.takes;
  bytes = all.size;
  now = subst (λ (qs : List (List ℕ)). Now (calls_of pid notice qs)) (sym all.all) now;
}

-- what follows of what was heard
pub hears_then : (pid : ℕ) (notice : Option ℕ) (left left_after : Option (List ℕ)) (Length : ℕ → Type 0) (P Q : List Call → Type 0)
    → HearsIn pid notice left left_after Length P → ((calls : List Call) → P calls → Q calls) → HearsIn pid notice left left_after Length Q
hears_then pid notice left left_after Length P Q hears f = record {
  taken = hears.taken;
  takes = hears.takes;
  bytes = hears.bytes;
  now = f (calls_of pid notice (packets hears.taken)) hears.now;
}
