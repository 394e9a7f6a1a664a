-- Calls that only read, and what they read.
use Rattle.std.proofs.Common.{◌≡◌, ⊎_elim, ℕ, ◌+◌, ◌-◌, ◌*◌, ◌<◌, ◌≤◌, ◌↔◌, List, ◌++◌, length, take, get_or, refl, sym, ◌∙◌, ap, arith, get_or-take, length-append}
use Rattle.std.proofs.lemmas.Bool.{cases_lt}
use Rattle.std.proofs.lemmas.List.{get_or-append_right, get_or_append_left, length-take-le, take-append-le, take_all}
use borrow.Rule.Slice.PartMut.{put_mid, post_of}
use Rattle.flash_dev.specs.Changes.{Holds}
use Rattle.flash_dev.specs.Moments.{Elapses}
use Rattle.flash_dev.specs.declared.device.Flash.{Ghosts as FlashGhosts}
use Rattle.flash_dev.proofs.ChangesLemmas.{same_bytes}
use Rattle.flash_remap.specs.Layout.{Geometry, slot_place}
use Rattle.flash_remap.specs.Logical.{byte_in, logical}
use Rattle.flash_remap.specs.Map.{place_of, slot_bytes}
use Rattle.flash_remap.specs.Reads.{ChangesNothing}
use Rattle.flash_remap.proofs.LeavingLemmas.{left_joined, left_more, left_none}
use Rattle.flash_remap.proofs.LogicalLemmas.{at-logical}
use Rattle.flash_remap.proofs.SlotLemmas.{slot_at, slot_len}

module _ {F : Type 0} (f : FlashGhosts F) where
  -- no call
  pub reads_none : (old : F) → ((c : List ℕ) → f.left_since old (f.moment old) c → c ≡ f.contents old) → ChangesNothing f old old
  reads_none old only_now = record {
    same = λ t. refl;
    blocks = refl;
    block_size = refl;
    left = left_none f old (λ c. c ≡ f.contents old) only_now (λ t. refl);
    halt = (λ h. h, λ h. h);
  }

  -- one read
  pub reads_one : (old new : F) → ((c : List ℕ) → f.left_since old (f.moment old) c → c ≡ f.contents old) → (f.tells → f.contents new ≡ f.contents old)
      → f.block_count new ≡ f.block_count old → f.block_len new ≡ f.block_len old
      → Elapses (f.moment old) (f.moment new) (f.left_since old) (f.left_since new) (λ c. c ≡ f.contents new) → f.halted new ↔ f.halted old → ChangesNothing f old new
  reads_one old new only_now same blocks block_size time halt = record {
    same = same;
    blocks = blocks;
    block_size = block_size;
    left = left_more f old old new (λ c. c ≡ f.contents old) (λ c. c ≡ f.contents new) (left_none f old (λ c. c ≡ f.contents old) only_now (λ t. refl)) time (λ tells c is. is ∙ same tells);
    halt = halt;
  }

  -- reads after reads
  pub reads_joined : (old mid new : F) → ChangesNothing f old mid → ChangesNothing f mid new → ChangesNothing f old new
  reads_joined old mid new first second = record {
    same = λ t. second.same t ∙ first.same t;
    blocks = second.blocks ∙ first.blocks;
    block_size = second.block_size ∙ first.block_size;
    left = left_joined f old mid new (λ c. c ≡ f.contents old) (λ c. c ≡ f.contents mid) first.left second.left (λ tells c is. is ∙ first.same tells);
    halt = (λ h. first.halt.0 (second.halt.0 h), λ h. second.halt.1 (first.halt.1 h));
  }

-- what was read is the slot
pub slot_read : (g : Geometry) (x bytes : List ℕ) (slot : ℕ) → length bytes ≡ 16 → slot_place g slot + 16 ≤ length x → Holds x (slot_place g slot) bytes → slot_bytes g x slot ≡ bytes
slot_read g x bytes slot size fits holds = same_bytes (slot_bytes g x slot) bytes (slot_len g x slot fits ∙ sym size) (λ k lt.
    let in_slot : k < 16 = omega (arith, lt, slot_len g x slot fits) in
    slot_at g x slot k in_slot ∙ holds k (omega (arith, in_slot, size)))

-- what was read in the block that stands for a logical one
pub logical_read : (g : Geometry) (x bytes : List ℕ) (b from at n : ℕ) → b < g.logical → at + n ≤ g.block_len → place_of g x b ≡ from → length bytes ≡ n
    → Holds x (from * g.block_len + at) bytes → Holds (logical g x) (b * g.block_len + at) bytes
logical_read g x bytes b from at n block fits stands size holds = λ k lt.
    let above : b * g.block_len + at + k ≡ b * g.block_len + (at + k) = omega arith in
    let beneath : from * g.block_len + (at + k) ≡ from * g.block_len + at + k = omega arith in
    let seen : get_or (logical g x) (b * g.block_len + (at + k)) 0 ≡ byte_in g x b (at + k) = at-logical g x b (at + k) block (omega (arith, lt, size, fits)) in
    let there : byte_in g x b (at + k) ≡ get_or x (from * g.block_len + (at + k)) 0 = ap (λ (p : ℕ). get_or x (p * g.block_len + (at + k)) 0) stands in
    ap (λ (p : ℕ). get_or (logical g x) p 0) above ∙ (seen ∙ (there ∙ (ap (λ (p : ℕ). get_or x p 0) beneath ∙ holds k lt)))

-- bytes that were read behind others
pub held_more : (x buf given : List ℕ) (at done n k : ℕ) → done ≤ length buf → n ≤ length given → ((i : ℕ) → i < done → get_or x (at + i) 0 ≡ get_or buf i 0)
    → Holds x (at + done) (take n given) → (i : ℕ) → i < done + n → get_or x (at + i) 0 ≡ get_or (put_mid done k buf given) i 0
held_more x buf given at done n k inside within so_far here i lt = ⊎_elim before behind (cases_lt i done)
  where
    front : length (take done buf) ≡ done
    front = length-take-le done buf inside

    before : i < done → get_or x (at + i) 0 ≡ get_or (put_mid done k buf given) i 0
    before early = so_far i early ∙ (sym (get_or-take done buf i 0 early) ∙ sym (get_or_append_left (take done buf) (given ++ post_of done k buf) 0 i (omega (arith, early, front))))

    behind : done ≤ i → get_or x (at + i) 0 ≡ get_or (put_mid done k buf given) i 0
    behind late =
        let place : at + done + (i - done) ≡ at + i = omega (arith, late) in
        let few : i - done < n = omega (arith, lt, late) in
        let size : length (take n given) ≡ n = length-take-le n given within in
        let held : get_or x (at + i) 0 ≡ get_or given (i - done) 0 =
        ap (λ (p : ℕ). get_or x p 0) (sym place) ∙ (here (i - done) (omega (arith, few, size)) ∙ get_or-take n given (i - done) 0 few) in
        let last : get_or (given ++ post_of done k buf) (i - done) 0 ≡ get_or given (i - done) 0 = get_or_append_left given (post_of done k buf) 0 (i - done) (omega (arith, few, within)) in
        held ∙ (sym last ∙ sym (get_or-append_right (take done buf) (given ++ post_of done k buf) done i 0 front late))

-- what is in front is no longer than what is there
pub long_more : (done n k : ℕ) (xs ys : List ℕ) → done ≤ length xs → n ≤ length ys → done + n ≤ length (put_mid done k xs ys)
long_more done n k xs ys inside within =
    let rest = post_of done k xs in
    omega (arith, length-append (take done xs) (ys ++ rest), length-append ys rest, length-take-le done xs inside, within)

pub take_front : (n : ℕ) (xs rest : List ℕ) → length xs ≡ n → take n (xs ++ rest) ≡ xs
take_front n xs rest size = take-append-le n xs rest (omega (arith, size)) ∙ take_all n xs (omega (arith, size))
