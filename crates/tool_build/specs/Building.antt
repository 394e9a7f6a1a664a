-- What `build` puts: the packets of the plan's turns, and a line that counts them.
use Rattle.std.specs.Prelude.{ℕ, List, Option, length}
use Rattle.std.specs.List.{concat}
use Rattle.head_carousel.specs.Refusal.{IsBuildable}
use Rattle.head_carousel.specs.Sections.{sections_of}
use Rattle.head_mux.specs.Sent.{sent}
use Rattle.head_plan.specs.Plans.{PlanData}
use Rattle.ssu_io.specs.Bytes.{Gains}
use Rattle.ssu_line.specs.Lines.{built_line}
use Rattle.ssu_io.specs.Files.{File}
use Rattle.ssu_io.specs.Seen.{SinkSeen, StopsWriting}
use Rattle.ssu_status.specs.declared.status.Status.{Status}
use Rattle.ssu_status.specs.declared.status.Status.TheVariants.{Done, Absent, ShelfFault, PlanRefused, BuildRefused, WriteFault, NoMemory}
use Rattle.tool_box.specs.Fetching.{IsFetchRefusal}
use Rattle.tool_build.specs.Held.{TellsBroadcast}
use Rattle.head_plan.specs.declared.fault.PlanFault.{PlanFault}
use Rattle.head_plan.specs.declared.fault.PlanFault.TheVariants.{Field, Memory}
use Rattle.ssu_answer.specs.declared.build_fault.BuildFault.{BuildFault}
use Rattle.ssu_answer.specs.declared.build_fault.BuildFault.TheVariants.{ImageTooLong, TooManySections, Memory as BuildMemory}

-- the packets of all turns
abbrev pub packets_of : PlanData → List (List ℕ) → List (List ℕ)
packets_of plan images = sent (sections_of plan images) plan.turns

-- `sections N packets P`
abbrev pub line_of : PlanData → List (List ℕ) → List ℕ
line_of plan images = built_line (length (sections_of plan images)) (length (packets_of plan images))

-- The shelf has a plan and its files, which pass no limit, and this holds of them.
pub record ForBroadcast (held : Option (List File)) (Fact : PlanData → List (List ℕ) → Type 0) : Type 0 where
  pub plan : PlanData
  pub images : List (List ℕ)
  pub broadcast : TellsBroadcast held plan images
  pub buildable : IsBuildable plan images
  pub fact : Fact plan images

-- all packets went out, and the line behind them
abbrev pub PutsAll : SinkSeen → SinkSeen → PlanData → List (List ℕ) → Type 0
PutsAll made out plan images =
    Gains made.got made.got_after (concat (packets_of plan images)) × Gains out.got out.got_after (line_of plan images)

-- a write failed on the way
abbrev pub PutsPart : SinkSeen → SinkSeen → PlanData → List (List ℕ) → Type 0
PutsPart made out plan images = StopsWriting made out (concat (packets_of plan images)) (line_of plan images)

-- what the command answers once the files were read
abbrev pub IsPutAnswer : Status → Type 0
IsPutAnswer Done = Unit {0}
IsPutAnswer (BuildRefused fault) = Unit {0}
IsPutAnswer WriteFault = Unit {0}
IsPutAnswer NoMemory = Unit {0}
IsPutAnswer other = ⊥

-- what the command answers
abbrev pub IsAnswer : Status → Type 0
IsAnswer (Absent name) = Unit {0}
IsAnswer ShelfFault = Unit {0}
IsAnswer (PlanRefused field) = Unit {0}
IsAnswer other = IsPutAnswer other

-- the status comes before the first packet is put
abbrev pub IsEarly : Status → Type 0
IsEarly Done = ⊥
IsEarly WriteFault = ⊥
IsEarly other = Unit {0}

-- the status comes of no fault and of no refusal
abbrev pub IsUnrefused : Status → Type 0
IsUnrefused Done = Unit {0}
IsUnrefused NoMemory = Unit {0}
IsUnrefused other = ⊥

-- ---- why a part of the work was not done

-- a plan was not had for one of these reasons
abbrev pub IsPlanRefusal : Status → Type 0
IsPlanRefusal (PlanRefused field) = Unit {0}
IsPlanRefusal other = IsFetchRefusal other

-- the text gave no plan for one of these reasons
abbrev pub IsTextRefusal : Status → Type 0
IsTextRefusal (PlanRefused field) = Unit {0}
IsTextRefusal NoMemory = Unit {0}
IsTextRefusal other = ⊥

abbrev pub text_refusal : PlanFault → Status
text_refusal (Field field) = PlanRefused field
text_refusal Memory = NoMemory

-- the sections were not made for one of these reasons
abbrev pub IsMakingRefusal : Status → Type 0
IsMakingRefusal (BuildRefused fault) = Unit {0}
IsMakingRefusal NoMemory = Unit {0}
IsMakingRefusal other = ⊥

abbrev pub making_refusal : BuildFault → Status
making_refusal (ImageTooLong name) = BuildRefused (ImageTooLong name)
making_refusal (TooManySections count) = BuildRefused (TooManySections count)
making_refusal BuildMemory = NoMemory

-- the packets were not sent for one of these reasons
abbrev pub IsSendingRefusal : Status → Type 0
IsSendingRefusal WriteFault = Unit {0}
IsSendingRefusal NoMemory = Unit {0}
IsSendingRefusal other = ⊥
