-- What each section of a plan is.
use Rattle.std.proofs.Common.{◌≡◌, ◌≢◌, ℕ, zero, suc, ◌+◌, ◌-◌, ◌<◌, ◌≤◌, ◌^◌, ◌⊎◌, inl, inr, true, false, List, [], ◌∷◌, ◌++◌, length, get_or, drop, Option, Some, None, refl, sym, ap, subst, ◌∙◌, arith}
use Rattle.std.specs.Prelude.{Contains, map}
use Rattle.std.specs.List.{range_with_len}
use Rattle.std.proofs.lemmas.List.Elements.{Contains-append_cases}
use Rattle.dsmcc_msg.specs.Block.{DdbFields, ddb}
use Rattle.dsmcc_msg.specs.Control.{DiiFields, DsiFields, dii, dsi}
use Rattle.dsmcc_msg.specs.Written.{ddb_bytes, dii_of}
use Rattle.head_carousel.specs.Blocks.{all_blocks, block_count, ddb_fields, group_blocks, module_blocks}
use Rattle.head_carousel.specs.Control.{dii_draft, dii_section, dsi_section}
use Rattle.head_carousel.specs.GroupFiles.{GroupFiles, groups_from, modules_of, numbered}
use Rattle.head_carousel.specs.Notice.{notice_head, notice_section}
use Rattle.head_carousel.specs.Sections.{block_period, control_messages, plan_groups, section_count, sections_of, signalling}
use Rattle.head_carousel.specs.Signals.{bats, net_section, networks, notices, notices_on, pmt_draft, pmt_section, program_of, programs, streams_of, time_of, timed}
use Rattle.head_plan.specs.Plans.{GroupData, PlanData}
use Rattle.section_form.specs.Written.{only_section}
use Rattle.si_desc.specs.Written.{linkage_bytes, service_of}
use Rattle.si_table.specs.Pids.{bat_pid, nit_pid, pat_pid, time_pid}
use Rattle.si_table.specs.Written.{net_body_bytes, net_bytes, pat_bytes, pmt_body_bytes, pmt_bytes, program_bytes, tdt_bytes}
use Rattle.ssu_time.specs.UtcField.{TimeFields}
use Rattle.ts_section.specs.TimedSection.{TimedSection}
use Rattle.broadcast_laws.specs.Planned.{IsPlannedDdb, IsPlannedDii, IsSent, bytes_of_section, dsi_of_plan, sent_sections}
use Rattle.broadcast_laws.proofs.Lists.{first_or_later, here, none_in, of_flat_map, of_map, there}
use Rattle.broadcast_laws.proofs.PlanGroups.{written}
use Rattle.broadcast_laws.proofs.SpelledLaws.{IsNumbered, ddb_read, dii_read, dsi_read}
use Rattle.broadcast_laws.proofs.TableLaws.{ddb_table, dii_table, dsi_table, long_table, not_both}

-- ---- kinds

-- The section is of no table of the carousel.
record IsOther (section : List ℕ) : Type 0 where
  pub no_control : get_or section 0 0 ≢ 59
  pub no_block : get_or section 0 0 ≢ 60

record IsDiiSection (gs : List GroupFiles) (section : List ℕ) : Type 0 where
  pub group : GroupFiles
  pub own : Contains gs group
  pub is : dii_section group ≡ section

record IsBlockSection (gs : List GroupFiles) (section : List ℕ) : Type 0 where
  pub group : GroupFiles
  pub own : Contains gs group
  pub file : ℕ × List ℕ
  pub own_file : Contains (modules_of group) file
  pub number : ℕ
  pub below : number < block_count group.group.block_size file.1
  pub is : ddb_bytes (ddb_fields group file number) (block_count group.group.block_size file.1 - 1) ≡ section

abbrev IsDsiSection : PlanData → List GroupFiles → List ℕ → Type 0
IsDsiSection p gs section = dsi_section p.oui gs ≡ section

abbrev IsKind : PlanData → List GroupFiles → List ℕ → Type 0
IsKind p gs section = IsOther section ⊎ (IsDsiSection p gs section ⊎ (IsDiiSection gs section ⊎ IsBlockSection gs section))

other_of : (section : List ℕ) (n : ℕ) → get_or section 0 0 ≡ n → n ≢ 59 → n ≢ 60 → IsOther section
other_of section n is a b = record { no_control = λ e. a (sym is ∙ e); no_block = λ e. b (sym is ∙ e) }

-- ---- the tables that lead to the carousel

net_other : (p : PlanData) (table id : ℕ) → table < 2 ^ 8 → table ≢ 59 → table ≢ 60 → IsOther (net_section table id p)
unfolding net_bytes
net_other p table id small a b =
    let info = linkage_bytes (service_of p.ts p.network p.service) p.oui in
    other_of (net_section table id p) table (long_table true (only_section table id 0 (net_body_bytes info p.ts p.network)) small) a b

pat_other : (p : PlanData) → IsOther (pat_bytes p.ts (program_of p))
unfolding pat_bytes
pat_other p = other_of (pat_bytes p.ts (program_of p)) 0 (long_table false (only_section 0x00 p.ts 0 (program_bytes (program_of p))) (omega arith)) (λ e. absurd (omega arith)) (λ e. absurd (omega arith))

tdt_other : (t : TimeFields) → IsOther (tdt_bytes t)
tdt_other t = other_of (tdt_bytes t) 0x70 (omega arith) (λ e. absurd (omega arith)) (λ e. absurd (omega arith))

pmt_other : (p : PlanData) → IsOther (pmt_section p)
unfolding pmt_bytes
pmt_other p =
    let d = pmt_draft p.service (streams_of p.oui p.data_pid p.notice_pid) in
    other_of (pmt_section p) 2 (long_table false (only_section 0x02 d.program 0 (pmt_body_bytes d.bytes)) (omega arith)) (λ e. absurd (omega arith)) (λ e. absurd (omega arith))

notice_other : (p : PlanData) → IsOther (notice_section p)
notice_other p =
    other_of (notice_section p) 0x4B (long_table true (notice_head p.oui p.schedule p.manual p.group) (omega arith)) (λ e. absurd (omega arith)) (λ e. absurd (omega arith))

-- ---- where a section stands

as_other : (p : PlanData) (gs : List GroupFiles) (bytes : List ℕ) (s t : TimedSection) → t ≡ s → t.bytes ≡ bytes → IsOther bytes → IsKind p gs s.bytes
as_other p gs bytes s t same is other = inl (subst IsOther (sym is ∙ ap bytes_of_section same) other)

in_bats : (p : PlanData) (gs : List GroupFiles) (o : Option ℕ) (s : TimedSection) → Contains (bats p o) s → IsKind p gs s.bytes
in_bats p gs None s c = absurd (none_in c)
in_bats p gs (Some id) s c = elim (first_or_later (timed bat_pid p.signal_period (net_section 0x4A id p)) [] s c) [
  | inl e ↦ as_other p gs (net_section 0x4A id p) s (timed bat_pid p.signal_period (net_section 0x4A id p)) e refl (net_other p 0x4A id (omega arith) (λ e. absurd (omega arith)) (λ e. absurd (omega arith)))
  | inr none ↦ absurd (none_in none)
]

in_networks : (p : PlanData) (gs : List GroupFiles) (s : TimedSection) → Contains (networks p) s → IsKind p gs s.bytes
unfolding networks
in_networks p gs s c = elim (first_or_later (timed nit_pid p.signal_period (net_section 0x40 p.network p)) (bats p p.bouquet) s c) [
  | inl e ↦ as_other p gs (net_section 0x40 p.network p) s (timed nit_pid p.signal_period (net_section 0x40 p.network p)) e refl (net_other p 0x40 p.network (omega arith) (λ e. absurd (omega arith)) (λ e. absurd (omega arith)))
  | inr later ↦ in_bats p gs p.bouquet s later
]

in_programs : (p : PlanData) (gs : List GroupFiles) (s : TimedSection) → Contains (programs p) s → IsKind p gs s.bytes
unfolding programs
in_programs p gs s c =
    let pat = timed pat_pid p.signal_period (pat_bytes p.ts (program_of p)) in
    let tdt = timed time_pid p.signal_period (tdt_bytes (time_of p)) in
    let pmt = timed p.pmt_pid p.signal_period (pmt_section p) in
    elim (first_or_later pat (tdt ∷ pmt ∷ []) s c) [
      | inl e ↦ as_other p gs (pat_bytes p.ts (program_of p)) s pat e refl (pat_other p)
      | inr later ↦ elim (first_or_later tdt (pmt ∷ []) s later) [
        | inl e ↦ as_other p gs (tdt_bytes (time_of p)) s tdt e refl (tdt_other (time_of p))
        | inr last ↦ elim (first_or_later pmt [] s last) [
          | inl e ↦ as_other p gs (pmt_section p) s pmt e refl (pmt_other p)
          | inr none ↦ absurd (none_in none)
        ]
      ]
    ]

in_notices : (p : PlanData) (gs : List GroupFiles) (o : Option ℕ) (s : TimedSection) → Contains (notices_on p o) s → IsKind p gs s.bytes
in_notices p gs None s c = absurd (none_in c)
in_notices p gs (Some pid) s c = elim (first_or_later (timed pid p.signal_period (notice_section p)) [] s c) [
  | inl e ↦ as_other p gs (notice_section p) s (timed pid p.signal_period (notice_section p)) e refl (notice_other p)
  | inr none ↦ absurd (none_in none)
]

in_control : (p : PlanData) (gs : List GroupFiles) (s : TimedSection) → Contains (control_messages p gs) s → IsKind p gs s.bytes
in_control p gs s c =
    let put = λ (g : GroupFiles). timed p.data_pid p.signal_period (dii_section g) in
    elim (first_or_later (timed p.data_pid p.signal_period (dsi_section p.oui gs)) (map put gs) s c) [
      | inl e ↦ inr (inl (ap bytes_of_section e))
      | inr later ↦ let i = of_map put gs s later in inr (inr (inl (record { group = i.of; own = i.own; is = ap bytes_of_section i.is })))
    ]

in_signalling : (p : PlanData) (gs : List GroupFiles) (s : TimedSection) → Contains (signalling p gs) s → IsKind p gs s.bytes
unfolding signalling notices
in_signalling p gs s c = elim (Contains-append_cases (networks p) (programs p ++ (notices p ++ control_messages p gs)) s c) [
  | inl a ↦ in_networks p gs s a
  | inr b ↦ elim (Contains-append_cases (programs p) (notices p ++ control_messages p gs) s b) [
    | inl a ↦ in_programs p gs s a
    | inr d ↦ elim (Contains-append_cases (notices p) (control_messages p gs) s d) [
      | inl a ↦ in_notices p gs p.notice_pid s a
      | inr a ↦ in_control p gs s a
    ]
  ]
]

-- ---- blocks

range_below : (n count k : ℕ) → Contains (range_with_len n count) k → (n ≤ k) × (k < n + count)
range_below n zero k c = absurd (none_in c)
range_below n (suc count) k c = elim (first_or_later n (range_with_len (n + 1) count) k c) [
  | inl e ↦ (omega arith, omega arith)
  | inr later ↦
      let i = range_below (n + 1) count k later in
      let low = i.0 in
      let high = i.1 in
      (omega arith, omega arith)
]

in_module : (gs : List GroupFiles) (g : GroupFiles) (m : ℕ × List ℕ) (section : List ℕ) → Contains gs g → Contains (modules_of g) m → Contains (module_blocks g m) section → IsBlockSection gs section
unfolding module_blocks
in_module gs g m section own file c =
    let count = block_count g.group.block_size m.1 in
    let i = of_map (λ (k : ℕ). ddb_bytes (ddb_fields g m k) (count - 1)) (range_with_len 0 count) section c in
    let below = (range_below 0 count i.of i.own).1 in
    record { group = g; own = own; file = m; own_file = file; number = i.of; below = omega arith; is = i.is }

in_blocks : (gs : List GroupFiles) (section : List ℕ) → Contains (all_blocks gs) section → IsBlockSection gs section
unfolding group_blocks
in_blocks gs section c =
    let i = of_flat_map group_blocks gs section c in
    let j = of_flat_map (module_blocks i.of) (modules_of i.of) section i.inside in
    in_module gs i.of j.of section i.own j.own j.inside

kind : (p : PlanData) (images : List (List ℕ)) (section : List ℕ) → Contains (sent_sections p images) section → IsKind p (plan_groups p images) section
unfolding sent_sections sections_of
kind p images section c =
    let gs = plan_groups p images in
    let put = timed p.data_pid (block_period (section_count p gs)) in
    let i = of_map bytes_of_section (sections_of p images) section c in
    subst (IsKind p gs) i.is (
    elim (Contains-append_cases (signalling p gs) (map put (all_blocks gs)) i.of i.own) [
      | inl a ↦ in_signalling p gs i.of a
      | inr b ↦
          let j = of_map put (all_blocks gs) i.of b in
          inr (inr (inr (in_blocks gs i.of.bytes (subst (Contains (all_blocks gs)) (ap bytes_of_section j.is) j.own))))
    ])

-- ---- what is read of it

groups_count : (index : ℕ) (gs : List GroupData) (images : List (List ℕ)) → length (groups_from index gs images) ≡ length gs
unfolding groups_from
groups_count index [] images = refl
groups_count index (g ∷ gs) images = ap suc (groups_count (suc index) gs (drop (length g.modules) images))

pub numbered_so : (n : ℕ) (files : List (List ℕ)) (m : ℕ × List ℕ) → Contains (numbered n files) m → IsNumbered n files m
unfolding numbered
numbered_so n [] m c = absurd (none_in c)
numbered_so n (f ∷ fs) m c = elim (first_or_later (n, f) (numbered (n + 1) fs) m c) [
  | inl e ↦ subst (IsNumbered n (f ∷ fs)) e (record { least = omega arith; most = omega arith; own = here f fs })
  | inr later ↦
      let i = numbered_so (n + 1) fs m later in
      let least = i.least in
      let most = i.most in
      record { least = omega arith; most = omega arith; own = there f fs m.1 i.own }
]

block_of_plan : (p : PlanData) (images : List (List ℕ)) (section : List ℕ) → IsSent p images → (is : IsBlockSection (plan_groups p images) section)
    → ddb.of section ≡ Some (ddb_fields is.group is.file is.number)
block_of_plan p images section sent is =
    let w = written p images is.group sent is.own in
    ap ddb.of (sym is.is) ∙ ddb_read is.group is.file is.number (block_count is.group.group.block_size is.file.1 - 1) w (numbered_so 1 is.group.files is.file is.own_file) is.below

dii_of_plan : (p : PlanData) (images : List (List ℕ)) (section : List ℕ) → IsSent p images → (is : IsDiiSection (plan_groups p images) section)
    → dii.of section ≡ Some (dii_of (dii_draft is.group))
dii_of_plan p images section sent is = ap dii.of (sym is.is) ∙ dii_read is.group (written p images is.group sent is.own)

dsi_in_plan : (p : PlanData) (images : List (List ℕ)) (section : List ℕ) → IsSent p images → IsDsiSection p (plan_groups p images) section → dsi.of section ≡ Some (dsi_of_plan p images)
dsi_in_plan p images section sent is =
    let few = sent.few_groups in
    let count = groups_count 0 p.group images in
    ap dsi.of (sym is) ∙ dsi_read p images sent (omega (arith, few, count))

control_apart : (section : List ℕ) → get_or section 0 0 ≡ 59 → get_or section 0 0 ≡ 60 → ⊥
control_apart section a b = absurd (omega (arith, a, b))

pub dsi_planned : (p : PlanData) (images : List (List ℕ)) (section : List ℕ) (d : DsiFields) → IsSent p images → Contains (sent_sections p images) section → dsi.of section ≡ Some d
    → d ≡ dsi_of_plan p images
dsi_planned p images section d sent c e = elim (kind p images section c) [
  | inl other ↦ absurd (other.no_control (dsi_table section d e))
  | inr a ↦ elim a [
    | inl is ↦ let f = sym e ∙ dsi_in_plan p images section sent is in cc
    | inr b ↦ elim b [
      | inl is ↦ absurd (not_both section d (dii_of (dii_draft is.group)) e (dii_of_plan p images section sent is))
      | inr is ↦ absurd (control_apart section (dsi_table section d e) (ddb_table section (ddb_fields is.group is.file is.number) (block_of_plan p images section sent is)))
    ]
  ]
]

pub dii_planned : (p : PlanData) (images : List (List ℕ)) (section : List ℕ) (d : DiiFields) → IsSent p images → Contains (sent_sections p images) section → dii.of section ≡ Some d
    → IsPlannedDii p images d
dii_planned p images section d sent c e = elim (kind p images section c) [
  | inl other ↦ absurd (other.no_control (dii_table section d e))
  | inr a ↦ elim a [
    | inl is ↦ absurd (not_both section (dsi_of_plan p images) d (dsi_in_plan p images section sent is) e)
    | inr b ↦ elim b [
      | inl is ↦ let f = sym e ∙ dii_of_plan p images section sent is in record { group = is.group; own = is.own; is = cc }
      | inr is ↦ absurd (control_apart section (dii_table section d e) (ddb_table section (ddb_fields is.group is.file is.number) (block_of_plan p images section sent is)))
    ]
  ]
]

pub ddb_planned : (p : PlanData) (images : List (List ℕ)) (section : List ℕ) (d : DdbFields) → IsSent p images → Contains (sent_sections p images) section → ddb.of section ≡ Some d
    → IsPlannedDdb p images d
ddb_planned p images section d sent c e = elim (kind p images section c) [
  | inl other ↦ absurd (other.no_block (ddb_table section d e))
  | inr a ↦ elim a [
    | inl is ↦ absurd (control_apart section (dsi_table section (dsi_of_plan p images) (dsi_in_plan p images section sent is)) (ddb_table section d e))
    | inr b ↦ elim b [
      | inl is ↦ absurd (control_apart section (dii_table section (dii_of (dii_draft is.group)) (dii_of_plan p images section sent is)) (ddb_table section d e))
      | inr is ↦
          let f = sym e ∙ block_of_plan p images section sent is in
          record { group = is.group; own = is.own; file = is.file; own_file = is.own_file; number = is.number; below = is.below; is = cc }
    ]
  ]
]
