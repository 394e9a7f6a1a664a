-- What stands at the first five of the seven levels of the way to an update, and when two such values are the same.
use Rattle.std.specs.Prelude.{ℕ, Bool, true, false, ◌&&◌, ◌==◌, List, [], ◌∷◌, Option, Some, None}
use Rattle.box_file.specs.declared.file.BoxFile.{BoxFile}
use Rattle.si_desc.specs.declared.linkages.ServiceRef.{ServiceRef}
use Rattle.ssu_compat.specs.declared.rule.SwId.{SwId}
use Rattle.ssu_unt.specs.Targeting.{TargetFields}

-- What a replay finds in a flash of a group that was begun and not finished: the most places of a group that is kept there, if
-- any is kept; the message of its DII, and the bytes of the places that are there, by their numbers.
pub record Opening : Type 0 where
  pub most : Option ℕ
  pub message : Option (List ℕ)
  pub staged : ℕ → Option (List ℕ)

abbrev pub nothing_open : Opening
nothing_open = record { most = None; message = None; staged = λ n. None }

-- A set-top box that listens: what its box file says, the length of the bank that an image must fit in, the software
-- that runs, and what its flash had kept at the opening.
pub record Receiver : Type 0 where
  pub file : BoxFile
  pub bank_len : ℕ
  pub running : SwId
  pub opening : Opening

-- A service, and the PID of the PMT of its program.
pub record ProgramFound : Type 0 where
  pub service : ServiceRef
  pub pid : ℕ

-- A stream with a component tag.
pub record TaggedStream : Type 0 where
  pub tag : ℕ
  pub pid : ℕ

-- The stream that tells of the update: its PID, the update type, and all streams of the program with a component tag,
-- in the order of the PMT.
pub record ComponentFound : Type 0 where
  pub pid : ℕ
  pub update_type : ℕ
  pub tagged : List TaggedStream

-- What a notification table says: the section number, and the entries for the box.
pub record NoticeFound : Type 0 where
  pub number : ℕ
  pub entries : List TargetFields

-- The PID of a carousel, and the subgroup of its groups to look for, if there is one.
pub record CarouselFound : Type 0 where
  pub pid : ℕ
  pub subgroup : Option ℕ

-- ---- the same value

unfoldable pub same_option : {A : Type 0} → (A → A → Bool) → Option A → Option A → Bool
same_option same None None = true
same_option same (Some x) (Some y) = same x y
same_option same x y = false

unfoldable pub same_list : {A : Type 0} → (A → A → Bool) → List A → List A → Bool
same_list same [] [] = true
same_list same (x ∷ xs) (y ∷ ys) = same x y && same_list same xs ys
same_list same xs ys = false

abbrev pub same_number : ℕ → ℕ → Bool
same_number m n = m == n

abbrev pub same_service : ServiceRef → ServiceRef → Bool
same_service s t = s.ts == t.ts && s.network == t.network && s.service == t.service

abbrev pub same_services : List ServiceRef → List ServiceRef → Bool
same_services = same_list same_service

abbrev pub same_program_found : ProgramFound → ProgramFound → Bool
same_program_found p q = same_service p.service q.service && p.pid == q.pid

abbrev pub same_program : Option ProgramFound → Option ProgramFound → Bool
same_program = same_option same_program_found

abbrev pub same_stream : TaggedStream → TaggedStream → Bool
same_stream s t = s.tag == t.tag && s.pid == t.pid

abbrev pub same_component_found : ComponentFound → ComponentFound → Bool
same_component_found c d = c.pid == d.pid && c.update_type == d.update_type && same_list same_stream c.tagged d.tagged

abbrev pub same_component : Option ComponentFound → Option ComponentFound → Bool
same_component = same_option same_component_found

abbrev pub same_carousel_found : CarouselFound → CarouselFound → Bool
same_carousel_found c d = c.pid == d.pid && same_option same_number c.subgroup d.subgroup

abbrev pub same_carousel : Option CarouselFound → Option CarouselFound → Bool
same_carousel = same_option same_carousel_found
