-- The sample of a number: its plan and files, what is lost of its packets, its box, and its flash. All of it is this project's own.
use Rattle.std.specs.Prelude.{ℕ, ◌+◌, ◌*◌, ◌/◌, ◌%◌, false, List, [], ◌∷◌, codes, length, map, take, None, Some}
use Rattle.std.specs.List.{range_with_len, sum_by}
use Rattle.air_channel.specs.Scripts.{ScriptData}
use Rattle.box_file.specs.declared.file.BoxFile.{BoxFile}
use Rattle.broadcast.specs.Packets.{Broadcast}
use Rattle.flash_layout.specs.Layout.{Geometry}
use Rattle.head_carousel.specs.Sections.{sections_of}
use Rattle.head_plan.specs.Plans.{GroupData, PlanData}
use Rattle.ssu_compat.specs.declared.rule.Rule.TheVariants.{Newer}
use Rattle.ssu_compat.specs.declared.rule.SwId.{SwId}

-- ---- the files

-- how many modules there are
abbrev pub module_count : ℕ → ℕ
module_count number = 1 + number % 3

-- how many bytes module k has, from 0
abbrev pub module_len : ℕ → ℕ → ℕ
module_len number k = 50000 + 1000 * ((7 * number + 13 * k) % 50)

-- byte i of it
abbrev pub module_byte : ℕ → ℕ → ℕ → ℕ
module_byte number k i = (i + i / 251 + 31 * k + number) % 256

unfoldable pub module_of : ℕ → ℕ → List ℕ
module_of number k = map (module_byte number k) (range_with_len 0 (module_len number k))

unfoldable pub modules_of : ℕ → List (List ℕ)
modules_of number = map (module_of number) (range_with_len 0 (module_count number))

-- how many bytes all modules have
abbrev pub byte_total : ℕ → ℕ
byte_total number = sum_by length (modules_of number)

-- ---- the plan

-- the names of the files: no packet has them
abbrev pub names : List (List ℕ)
names = codes "a.bin" ∷ codes "b.bin" ∷ codes "c.bin" ∷ []

abbrev pub group_of : ℕ → GroupData
group_of number = record {
  model = 7;
  version = 1;
  software_model = 1;
  software_version = 2;
  block_size = 1024;
  module_version = 0;
  subgroup = None;
  modules = take (module_count number) names;
}

-- a plan of so many turns, whose TDT gives 2024-03-01T02:00:00
abbrev pub plan_in : ℕ → ℕ → PlanData
plan_in number turns = record {
  ts = 1;
  network = 2;
  bouquet = None;
  service = 3;
  oui = 4660;
  time = record { mjd = 60370; second = 7200 };
  pmt_pid = 256;
  data_pid = 258;
  notice_pid = None;
  signal_period = 50;
  turns = turns;
  manual = false;
  schedule = None;
  group = group_of number ∷ [];
}

-- how many sections there are in all, which the turns do not change
abbrev pub section_total : ℕ → ℕ
section_total number = length (sections_of (plan_in number 1) (modules_of number))

-- The turns of a sample of n sections in all: as many that several rounds of the sections are meant to follow the 2,000 packets
-- of which some are lost.
abbrev pub turns_for : ℕ → ℕ
turns_for n = 2000 + 8 * (2 * n + n / 4)

abbrev pub plan_of : ℕ → PlanData
plan_of number = plan_in number (turns_for (section_total number))

-- ---- what is lost of the packets

abbrev pub script_of : ℕ → ScriptData
script_of number = record {
  changes = [];
  swaps = [];
  drops = [];
  repeats = [];
  loss = Some (record { every = 7 + number % 40; until = 2000 });
}

-- the plan with its files, and what is lost
abbrev pub broadcast_of : ℕ → Broadcast
broadcast_of number = record { plan = plan_of number; images = modules_of number; script = script_of number }

-- ---- the box and its flash

abbrev pub running : SwId
running = record { model = 1; version = 1 }

abbrev pub the_box : BoxFile
the_box = record {
  id = record { oui = 4660; model = 7; version = 1; mac = None; serial = None };
  rule = Newer;
  manual = false;
  service = None;
  software = running;
}

abbrev pub the_blocks : Geometry
the_blocks = record { blocks = 202; block_len = 4096 }

-- what it is formatted with: byte i is i
abbrev pub first_image : List ℕ
first_image = range_with_len 0 16
