-- The search for a wrong module, while the stage is read.
use Rattle.std.proofs.Common.{◌≡◌, ℕ, zero, suc, ◌+◌, ◌<◌, ◌≤◌, Bool, true, false, not, List, [], ◌∷◌, length, get_or, Option, Some, None, refl, sym, ap, subst, ◌∙◌, arith, drop}
use Rattle.std.specs.List.{find}
use Rattle.std.specs.Prelude.{MatchOption}
use Rattle.flash_dev.specs.declared.device.Flash.{Ghosts as FlashGhosts}
use Rattle.flash_bank.specs.declared.bank.Bank.{Bank}
use Rattle.flash_bank.proofs.ReadsLemmas.{reads_joined, reads_none}
use Rattle.flash_stage.specs.declared.stage.Stage.{Ghosts as StageGhosts}
use Rattle.flash_stage.proofs.LeavingLaws.{bank_itself, banks_joined}
use Rattle.ssu_group.specs.declared.group_plan.GroupPlan.{GroupPlan}
use Rattle.ssu_group.specs.declared.module_plan.ModulePlan.{ModulePlan}
use Rattle.ssu_group.specs.Carried.{Fills, carried_image, is_right, IsWrong, is_wrong}
use Rattle.ssu_group.specs.Map.{missing_below}
use Rattle.ssu_group.proofs.MapLaws.{missing_same}
use Rattle.ssu_loader.specs.Collecting.{HasFilled, HoldsFilling, Works}
use Rattle.ssu_group.specs.declared.wrong.Wrong.{Wrong}
use Rattle.ssu_loader.specs.Settling.{Stays}

module _ {S F : Type 0} (s : StageGhosts S) (f : FlashGhosts F) where
  -- ---- what is only read

  pub stays_none : ((flash : F) (c : List ℕ) → f.left_since flash (f.moment flash) c → c ≡ f.contents flash)
      → (stage : S) (bank : Bank) (flash : F) → Stays s f stage bank flash stage bank flash
  stays_none only stage bank flash = record {
    has = λ n. refl;
    bytes = λ tells n. refl;
    same_bank = bank_itself bank;
    reads = reads_none f.tells f.contents f.block_count f.block_len f.moment f.left_since flash (only flash);
  }

  pub stays_joined : (stage stage' stage'' : S) (bank bank' bank'' : Bank) (flash flash' flash'' : F)
      → Stays s f stage bank flash stage' bank' flash' → Stays s f stage' bank' flash' stage'' bank'' flash'' → Stays s f stage bank flash stage'' bank'' flash''
  stays_joined stage stage' stage'' bank bank' bank'' flash flash' flash'' first second = record {
    has = λ n. second.has n ∙ first.has n;
    bytes = λ tells n. second.bytes tells n ∙ first.bytes tells n;
    same_bank = banks_joined bank bank' bank'' first.same_bank second.same_bank;
    reads = reads_joined f.tells f.contents f.block_count f.block_len f.moment f.left_since flash flash' flash'' first.reads second.reads;
  }

  pub whole_stays : (plan : GroupPlan) (stage stage' : S) (bank bank' : Bank) (flash flash' : F) → Stays s f stage bank flash stage' bank' flash'
      → missing_below (s.has stage) plan.places ≡ 0 → missing_below (s.has stage') plan.places ≡ 0
  whole_stays plan stage stage' bank bank' flash flash' stays whole = missing_same (s.has stage) (s.has stage') plan.places (λ n below. stays.has n) ∙ whole

  pub filled_stays : (plan : GroupPlan) (fills : Fills) (stage stage' : S) (bank bank' : Bank) (flash flash' : F) → Stays s f stage bank flash stage' bank' flash'
      → HasFilled s plan fills stage → HasFilled s plan fills stage'
  filled_stays plan fills stage stage' bank bank' flash flash' stays filled n below = stays.has n ∙ filled n below

  pub holds_stays : (plan : GroupPlan) (fills : Fills) (stage stage' : S) (bank bank' : Bank) (flash flash' : F) → f.tells → Stays s f stage bank flash stage' bank' flash'
      → HoldsFilling s plan fills stage bank (f.contents flash) → HoldsFilling s plan fills stage' bank' (f.contents flash')
  holds_stays plan fills stage stage' bank bank' flash flash' tells stays holds = record { lengths = holds.lengths; texts = λ n b below e. stays.bytes tells n ∙ holds.texts n b below e }

  -- ---- the search

  -- So many modules were looked at, and none of them is wrong.
  pub record Searched (plan : GroupPlan) (stage : S) (bank : Bank) (flash : F) (stage' : S) (bank' : Bank) (flash' : F) (modules : List ModulePlan) (index : ℕ) : Type 0 where
    pub works : Works s f plan stage' bank' flash'
    pub stays : Stays s f stage bank flash stage' bank' flash'
    pub most : s.most stage' ≡ s.most stage
    pub later : f.faults flash ≤ f.faults flash'
    pub found : f.tells → (fills : Fills) → HasFilled s plan fills stage → HoldsFilling s plan fills stage bank (f.contents flash)
        → find (is_wrong (carried_image plan fills)) (drop index modules) ≡ find (is_wrong (carried_image plan fills)) modules

-- ---- the module that is looked at

drop_next : (p : ModulePlan → Bool) (xs : List ModulePlan) (k : ℕ) (d : ModulePlan) → k < length xs → p (get_or xs k d) ≡ false → find p (drop (k + 1) xs) ≡ find p (drop k xs)
drop_next p [] k d below right = absurd (omega (arith, below))
drop_next p (x ∷ xs) zero d below right = rw right refl
drop_next p (x ∷ xs) (suc k) d below right = let next : suc k + 1 ≡ suc (k + 1) = omega arith in rw next (drop_next p xs k d (omega (arith, below)) right)

drop_found : (p : ModulePlan → Bool) (xs : List ModulePlan) (k : ℕ) (d : ModulePlan) → k < length xs → p (get_or xs k d) ≡ true → find p (drop k xs) ≡ Some (get_or xs k d)
drop_found p [] k d below wrong = absurd (omega (arith, below))
drop_found p (x ∷ xs) zero d below wrong = rw wrong refl
drop_found p (x ∷ xs) (suc k) d below wrong = drop_found p xs k d (omega (arith, below)) wrong

drop_all : (p : ModulePlan → Bool) (xs : List ModulePlan) (k : ℕ) → length xs ≤ k → find p (drop k xs) ≡ None
drop_all p [] zero past = refl
drop_all p [] (suc k) past = refl
drop_all p (x ∷ xs) zero past = absurd (omega (arith, past))
drop_all p (x ∷ xs) (suc k) past = drop_all p xs k (omega (arith, past))

-- it is right, and the search goes on
pub looked_on : (image : List ℕ) (modules : List ModulePlan) (k : ℕ) (d : ModulePlan) (answer : Option Wrong) → k < length modules → answer ≡ None
    → MatchOption answer (is_right image (get_or modules k d) ≡ true) (λ wrong. IsWrong image (get_or modules k d) wrong)
    → find (is_wrong image) (drop (k + 1) modules) ≡ find (is_wrong image) (drop k modules)
looked_on image modules k d None below none right = drop_next (is_wrong image) modules k d below (ap not right)
looked_on image modules k d (Some wrong) below none right = absurd cc

-- it is wrong
pub looked_at : (image : List ℕ) (modules : List ModulePlan) (k : ℕ) (d : ModulePlan) (answer : Option Wrong) (wrong : Wrong) → k < length modules → answer ≡ Some wrong
    → MatchOption answer (is_right image (get_or modules k d) ≡ true) (λ w. IsWrong image (get_or modules k d) w)
    → find (is_wrong image) (drop k modules) ≡ find (is_wrong image) modules
    → (m : ModulePlan) × (find (is_wrong image) modules ≡ Some m) × IsWrong image m wrong
looked_at image modules k d None wrong below some is searched = absurd cc
looked_at image modules k d (Some w) wrong below some is searched =
    let same : w ≡ wrong = cc in (
      get_or modules k d,
      sym searched ∙ drop_found (is_wrong image) modules k d below (ap not is.differs),
      subst (λ (v : Wrong). IsWrong image (get_or modules k d) v) same is,
    )

-- all were looked at
pub looked_through : (image : List ℕ) (modules : List ModulePlan) (k : ℕ) → length modules ≤ k → find (is_wrong image) (drop k modules) ≡ find (is_wrong image) modules → find (is_wrong image) modules ≡ None
looked_through image modules k past searched = sym searched ∙ drop_all (is_wrong image) modules k past
