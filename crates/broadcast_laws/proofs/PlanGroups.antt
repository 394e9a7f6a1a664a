-- The groups of a plan: their ids, their files and the ranges of what is written of them.
use Rattle.std.proofs.Common.{◌≡◌, ℕ, suc, ◌+◌, ◌<◌, ◌≤◌, ◌^◌, ◌⊎◌, inl, inr, List, [], ◌∷◌, length, take, drop, refl, sym, ap, subst, ◌∙◌, arith}
use Rattle.std.specs.Prelude.{Contains}
use Rattle.std.specs.List.{sum_by}
use Rattle.std.proofs.lemmas.List.{length-take}
use Rattle.std.proofs.lemmas.List.Elements.{All-contains}
use Rattle.head_carousel.specs.Blocks.{IsShort, all_blocks}
use Rattle.head_carousel.specs.GroupFiles.{GroupFiles, group_id, groups_from}
use Rattle.head_carousel.specs.Sections.{plan_groups, section_count}
use Rattle.head_carousel.proofs.BlockLaws.{total_small}
use Rattle.head_carousel.proofs.RefusalLaws.{each_short}
use Rattle.head_plan.specs.Plans.{GroupData, PlanData}
use Rattle.broadcast_laws.specs.Planned.{IsGroupInRange, IsSent}
use Rattle.broadcast_laws.proofs.Lists.{first_or_later, here, none_in, there}

-- ---- one of the groups from an index on

pub record IsFrom (index : ℕ) (gs : List GroupData) (g : GroupFiles) : Type 0 where
  pub place : ℕ
  pub below : place < length gs
  pub own_id : g.id ≡ group_id (index + place)
  pub own : Contains gs g.group
  pub few : length g.files ≤ length g.group.modules

pub is_from : (index : ℕ) (gs : List GroupData) (images : List (List ℕ)) (g : GroupFiles) → Contains (groups_from index gs images) g → IsFrom index gs g
unfolding groups_from
is_from index [] images g c = absurd (none_in c)
is_from index (d ∷ gs) images g c =
    let own : GroupFiles = record { id = group_id index; group = d; files = take (length d.modules) images } in
    elim (first_or_later own (groups_from (suc index) gs (drop (length d.modules) images)) g c) [
      | inl same ↦ subst (λ (h : GroupFiles). IsFrom index (d ∷ gs) h) same (record {
        place = 0;
        below = omega arith;
        own_id = ap group_id (omega arith);
        own = here d gs;
        few = omega (arith, length-take (length d.modules) images);
      })
      | inr later ↦
          let i = is_from (suc index) gs (drop (length d.modules) images) g later in
          let below = i.below in
          record {
            place = suc i.place;
            below = omega arith;
            own_id = i.own_id ∙ ap group_id (omega arith);
            own = there d gs g.group i.own;
            few = i.few;
          }
    ]

-- ---- told apart by their ids

apart : (index : ℕ) (gs : List GroupData) (rest : List (List ℕ)) (own x : GroupFiles) → own.id ≡ group_id index → Contains (groups_from (suc index) gs rest) x → own.id ≡ x.id → ⊥
apart index gs rest own x first later same =
    let i = is_from (suc index) gs rest x later in
    let other = i.own_id in
    absurd (omega (arith, first, same, other))

by_places : (index : ℕ) (gs : List GroupData) (rest : List (List ℕ)) (own g h : GroupFiles) → own.id ≡ group_id index → g.id ≡ h.id
    → (Contains (groups_from (suc index) gs rest) g → Contains (groups_from (suc index) gs rest) h → g ≡ h)
    → (own ≡ g) ⊎ Contains (groups_from (suc index) gs rest) g → (own ≡ h) ⊎ Contains (groups_from (suc index) gs rest) h → g ≡ h
by_places index gs rest own g h first e later (inl a) (inl b) = sym a ∙ b
by_places index gs rest own g h first e later (inl a) (inr b) = absurd (apart index gs rest own h first b (ap (λ (x : GroupFiles). x.id) a ∙ e))
by_places index gs rest own g h first e later (inr a) (inl b) = absurd (apart index gs rest own g first a (ap (λ (x : GroupFiles). x.id) b ∙ sym e))
by_places index gs rest own g h first e later (inr a) (inr b) = later a b

pub told_apart : (index : ℕ) (gs : List GroupData) (images : List (List ℕ)) (g h : GroupFiles) → Contains (groups_from index gs images) g → Contains (groups_from index gs images) h
    → g.id ≡ h.id → g ≡ h
unfolding groups_from
told_apart index [] images g h c d e = absurd (none_in c)
told_apart index (first ∷ gs) images g h c d e =
    let own : GroupFiles = record { id = group_id index; group = first; files = take (length first.modules) images } in
    let rest = drop (length first.modules) images in
    let later = groups_from (suc index) gs rest in
    by_places index gs rest own g h refl e (λ a b. told_apart (suc index) gs rest g h a b e) (first_or_later own later g c) (first_or_later own later h d)

-- ---- the ranges of what is written

pub record IsWritten (g : GroupFiles) : Type 0 where
  pub id : g.id < 2 ^ 32
  pub range : IsGroupInRange g.group
  pub few_files : length g.files ≤ 256
  pub short : IsShort g
  pub total : sum_by length g.files < 2 ^ 32

pub written : (p : PlanData) (images : List (List ℕ)) (g : GroupFiles) → IsSent p images → Contains (plan_groups p images) g → IsWritten g
written p images g sent own =
    let i = is_from 0 p.group images g own in
    let range : IsGroupInRange g.group = All-contains IsGroupInRange p.group g.group sent.groups i.own in
    let few : section_count p (plan_groups p images) ≤ 65536 = sent.buildable.few in
    let blocks : length (all_blocks (plan_groups p images)) ≤ 65536 = omega (arith, few) in
    let short : IsShort g = All-contains IsShort (plan_groups p images) g (each_short (plan_groups p images) blocks) own in
    let groups = sent.few_groups in
    let below = i.below in
    let id = i.own_id in
    let few_files = i.few in
    let few_modules = range.few_modules in
    record {
      id = omega (arith, groups, below, id);
      range = range;
      few_files = omega arith;
      short = short;
      total = total_small g range.block_some range.block_most short;
    }
