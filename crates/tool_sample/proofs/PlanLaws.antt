-- The sections of a sample: how many there are, and that they can be made.
use Rattle.std.proofs.Common.{zero, suc, ◌≡◌, ◌∙◌, ℕ, ◌+◌, ◌*◌, ◌≤◌, List, [], ◌∷◌, length, take, ap, append-nil, arith, length-append, refl, subst, sym}
use Rattle.std.specs.Prelude.{None, Some, Option, false, nat_lt}
use Rattle.std.specs.Int.{div_ceil}
use Rattle.std.specs.List.{find, sum_by}
use Rattle.std.proofs.lemmas.Bool.{le-ltb}
use Rattle.std.proofs.lemmas.List.{take_all}
use Rattle.std.proofs.lemmas.List.Sums.{sum_by-cons}
use Rattle.head_carousel.specs.Blocks.{all_blocks, block_count, group_blocks}
use Rattle.head_carousel.specs.GroupFiles.{GroupFiles, group_id, groups_from}
use Rattle.head_carousel.specs.Refusal.{IsCause, first_too_long, group_mentions, is_too_long, mentions_in}
use Rattle.head_carousel.specs.Sections.{plan_groups, section_count, sections_of, signalling}
use Rattle.head_carousel.specs.Signals.{networks, notices, programs}
use Rattle.head_carousel.proofs.BlockLaws.{group_length}
use Rattle.head_carousel.proofs.SignalLaws.{all_length, signalling_length}
use Rattle.head_plan.specs.Plans.{PlanData, mentions}
use Rattle.ssu_answer.specs.declared.build_fault.BuildFault.{BuildFault}
use Rattle.ssu_answer.specs.declared.build_fault.BuildFault.TheVariants.{ImageTooLong, TooManySections, Memory}
use Rattle.tool_sample.specs.Sample.{group_of, module_count, module_len, modules_of, names, plan_in, section_total, turns_for}
use Rattle.tool_sample.proofs.FileLaws.{blocks_more, first_modules, module_len_most, modules_are, modules_len}

-- ---- the group

names_len : (n : ℕ) → n ≤ 3 → length (take n names) ≡ n
names_len zero few = refl
names_len (suc zero) few = refl
names_len (suc (suc zero)) few = refl
names_len (suc (suc (suc zero))) few = refl
names_len (suc (suc (suc (suc n)))) few = absurd (omega (arith, few))

few_modules : (number : ℕ) → module_count number ≤ 3
few_modules number = omega arith

same_count : (number : ℕ) → length (modules_of number) ≡ length (group_of number).modules
same_count number = modules_len number ∙ sym (names_len (module_count number) (few_modules number))

-- there is a file for each name
pub files_for_names : (number turns : ℕ) → length (modules_of number) ≡ length (mentions (plan_in number turns).group)
files_for_names number turns = same_count number ∙ sym (ap length (append-nil (group_of number).modules))

abbrev the_group : ℕ → GroupFiles
the_group number = record { id = group_id 0; group = group_of number; files = take (length (group_of number).modules) (modules_of number) }

groups_are : (number turns : ℕ) → plan_groups (plan_in number turns) (modules_of number) ≡ the_group number ∷ []
unfolding groups_from
groups_are number turns = refl

files_are : (number : ℕ) → (the_group number).files ≡ modules_of number
files_are number = take_all (length (group_of number).modules) (modules_of number) (omega (arith, same_count number))

-- ---- how many sections there are

-- how many blocks all modules have
abbrev blocks_in : ℕ → ℕ
blocks_in number = sum_by (block_count 1024) (modules_of number)

ceil_most : (n : ℕ) → n ≤ 99000 → div_ceil n 1024 ≤ 97
ceil_most n few = omega (arith, few)

blocks_so_far : (number k : ℕ) → sum_by (block_count 1024) (first_modules number k) ≤ 97 * k
blocks_so_far number zero = omega arith
blocks_so_far number (suc k) =
    let more : suc k ≡ k + 1 = omega arith in
    let same = ap (λ (n : ℕ). sum_by (block_count 1024) (first_modules number n)) more in
    let one = ceil_most (module_len number k) (module_len_most number k) in
    omega (arith, same, blocks_more number k, blocks_so_far number k, one)

blocks_few : (number : ℕ) → blocks_in number ≤ 291
blocks_few number =
    let are = ap (sum_by (block_count 1024)) (modules_are number) in
    omega (arith, are, blocks_so_far number (module_count number), few_modules number)

blocks_of_one : (gs : List GroupFiles) (g : GroupFiles) → gs ≡ g ∷ [] → length (all_blocks gs) ≡ length (group_blocks g)
blocks_of_one gs g is = rw is (omega (arith, length-append (group_blocks g) []))

count_of_one : (number turns : ℕ) (gs : List GroupFiles) → gs ≡ the_group number ∷ [] → section_count (plan_in number turns) gs ≡ 6 + blocks_in number
count_of_one number turns gs is =
    let g = the_group number in
    let signals = signalling_length (plan_in number turns) gs in
    let one : length gs ≡ 1 = ap length is in
    let blocks = blocks_of_one gs g is ∙ group_length g ∙ ap (sum_by (block_count 1024)) (files_are number) in
    omega (arith, signals, one, blocks)

count_is : (number turns : ℕ) → section_count (plan_in number turns) (plan_groups (plan_in number turns) (modules_of number)) ≡ 6 + blocks_in number
count_is number turns = count_of_one number turns (plan_groups (plan_in number turns) (modules_of number)) (groups_are number turns)

total_is : (number : ℕ) → section_total number ≡ 6 + blocks_in number
unfolding sections_of
total_is number = all_length (plan_in number 1) (plan_groups (plan_in number 1) (modules_of number)) ∙ count_is number 1

pub total_few : (number : ℕ) → section_total number ≤ 297
total_few number = omega (arith, total_is number, blocks_few number)

pub turns_few : (number : ℕ) → turns_for (section_total number) ≤ 7344
turns_few number = omega (arith, total_few number)

-- the turns do not change the sections
pub same_sections : (number turns : ℕ) → sections_of (plan_in number turns) (modules_of number) ≡ sections_of (plan_in number 1) (modules_of number)
unfolding sections_of signalling networks programs notices
same_sections number turns = refl

-- ---- they can be made

none_long : (size : ℕ) (mentioned files : List (List ℕ)) → sum_by (block_count size) files ≤ 65536 → find is_too_long (mentions_in size mentioned files) ≡ None
unfolding mentions_in
none_long size [] files few = refl
none_long size (name ∷ later) [] few = refl
none_long size (name ∷ later) (file ∷ files) few =
    let sum = sum_by-cons (block_count size) file files in
    let short : nat_lt 65536 (block_count size file) ≡ false = le-ltb 65536 (block_count size file) (omega (arith, few, sum)) in
    rw short (none_long size later files (omega (arith, few, sum)))

one_group_short : (gs : List GroupFiles) (g : GroupFiles) → gs ≡ g ∷ [] → sum_by (block_count g.group.block_size) g.files ≤ 65536 → first_too_long gs ≡ None
unfolding first_too_long
one_group_short gs g is few =
    let mentions = group_mentions g in
    let none = none_long g.group.block_size g.group.modules g.files few in
    rw (is, append-nil mentions, none) refl

not_some : (o : Option (List ℕ)) (name : List ℕ) → o ≡ None → o ≡ Some name → ⊥
not_some o name none is = cc

-- the fault is want of memory
abbrev pub IsWant : BuildFault → Type 0
IsWant Memory = Unit {0}
IsWant other = ⊥

pub can_be_made : (number turns : ℕ) (fault : BuildFault) → IsCause (plan_in number turns) (modules_of number) fault → IsWant fault
can_be_made number turns (ImageTooLong name) cause =
    let gs = plan_groups (plan_in number turns) (modules_of number) in
    let few = ap (sum_by (block_count 1024)) (files_are number) in
    let short = one_group_short gs (the_group number) (groups_are number turns) (omega (arith, few, blocks_few number)) in
    not_some (first_too_long gs) name.bytes short cause
can_be_made number turns (TooManySections n) cause =
    absurd (omega (arith, cause.all, cause.many, count_is number turns, blocks_few number))
can_be_made number turns Memory cause = tt

-- the same of a plan and files that are those of a sample
pub made_of : (number turns : ℕ) (p : PlanData) (images : List (List ℕ)) (fault : BuildFault) → p ≡ plan_in number turns → images ≡ modules_of number
    → IsCause p images fault → IsWant fault
made_of number turns p images fault plan files cause =
    let here = subst (λ (q : PlanData). IsCause q images fault) plan cause in
    can_be_made number turns fault (subst (λ (fs : List (List ℕ)). IsCause (plan_in number turns) fs fault) files here)
