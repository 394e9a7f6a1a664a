-- All sections of a plan, in the order in which they first go out.
use Rattle.std.specs.Prelude.{ℕ, ◌+◌, ◌/◌, List, ◌∷◌, ◌++◌, map, length}
use Rattle.head_plan.specs.Plans.{PlanData}
use Rattle.ts_section.specs.TimedSection.{TimedSection}
use Rattle.head_carousel.specs.Blocks.{all_blocks}
use Rattle.head_carousel.specs.Control.{dii_section, dsi_section}
use Rattle.head_carousel.specs.GroupFiles.{GroupFiles, groups_from}
use Rattle.head_carousel.specs.Signals.{networks, notices, programs, timed}

-- the DSI, and a DII for each group
abbrev pub control_messages : PlanData → List GroupFiles → List TimedSection
control_messages p gs =
    timed p.data_pid p.signal_period (dsi_section p.oui gs)
    ∷ map (λ g. timed p.data_pid p.signal_period (dii_section g)) gs

-- what comes before the data blocks
unfoldable pub signalling : PlanData → List GroupFiles → List TimedSection
signalling p gs = networks p ++ (programs p ++ (notices p ++ control_messages p gs))

-- With n sections in all, a data block comes again after n turns and a quarter of them.
abbrev pub block_period : ℕ → ℕ
block_period n = n + n / 4

-- the groups of a plan, with the images of their files
abbrev pub plan_groups : PlanData → List (List ℕ) → List GroupFiles
plan_groups p images = groups_from 0 p.group images

-- how many sections there are in all
abbrev pub section_count : PlanData → List GroupFiles → ℕ
section_count p gs = length (signalling p gs) + length (all_blocks gs)

-- The signalling, which comes again after signal_period, and the data blocks.
abbrev pub all_sections : PlanData → List GroupFiles → List TimedSection
all_sections p gs = signalling p gs ++ map (timed p.data_pid (block_period (section_count p gs))) (all_blocks gs)

-- the sections of a plan whose files, mention by mention, are these
unfoldable pub sections_of : PlanData → List (List ℕ) → List TimedSection
sections_of p images = all_sections p (plan_groups p images)
