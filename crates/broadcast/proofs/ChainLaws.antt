-- What a broadcast does to the flash of a box, from its replay to its boot.
use Rattle.std.proofs.Common.{◌≡◌, ◌≢◌, ◌⊎◌, ⊎_elim, inl, inr, ℕ, ◌-◌, ◌<◌, ◌≤◌, true, List, Some, Result, Ok, Err, refl, sym, ap, subst, ◌∙◌, arith}
use Rattle.std.specs.Prelude.{IfErr, IfOk}
use Rattle.std.proofs.lemmas.Bool.{cases_lt}
use Rattle.box_file.specs.declared.file.BoxFile.{BoxFile}
use Rattle.broadcast.specs.Broadcasts.{AreFewSent, Broadcasts, Came, ComesTo, Concludes, IsBrokenAt, IsFault, IsHeadAfter, IsPlannedImage, IsSeenOver, IsTooLong}
use Rattle.broadcast.specs.Making.{IsMakingFault, held_seen, of_boot, of_load}
use Rattle.broadcast.specs.Packets.{Broadcast, IsInstalledFrom, IsUnspoilt}
use Rattle.broadcast.specs.declared.fault.ChainFault.{ChainFault}
use Rattle.broadcast.specs.declared.fault.ChainFault.TheVariants as chain
use Rattle.broadcast.specs.declared.outcome.Outcome.{Outcome}
use Rattle.broadcast_laws.specs.OneOf.{IsGroupForBox}
use Rattle.broadcast.proofs.PlannedLaws.{OpensEmpty}
use Rattle.broadcast.proofs.OpeningLaws.{none_opened}
use Rattle.broadcast.proofs.CameLaws.{IsOnAir, broken_at, bytes_of_air, came, either_left, head_after, left_so, more, seen_over}
use Rattle.flash_layout.specs.Layout.{Geometry, IsInLimits, blocks_of}
use Rattle.flash_bank.specs.Layout.{HoldsRecord}
use Rattle.flash_bank.specs.Leaving.{KeepsBoot}
use Rattle.flash_bank.specs.Runs.{OnlyReads}
use Rattle.flash_bank.specs.Seen.{flash_seen}
use Rattle.flash_bank.specs.Sound.{Boot, BootOf, IsWorn, IsSound, boot_in, number_in}
use Rattle.flash_bank.specs.declared.fault.BootFault.{BootFault}
use Rattle.flash_bank.specs.declared.fault.BootFault.TheVariants as boot_fault
use Rattle.flash_bank.specs.declared.record.Record.{Record}
use Rattle.flash_bank.proofs.LeavingLemmas.{keeps_boot_same}
use Rattle.flash_bank.proofs.ReadsLemmas.{reads_none}
use Rattle.flash_bank.proofs.SoundLemmas.{one_boot}
use Rattle.flash_dev.specs.declared.device.Flash.{Ghosts as FlashGhosts}
use Rattle.flash_dev.proofs.Moments.{joined, started, weaker}
use Rattle.ssu_answer.specs.declared.chosen.Chosen.{Chosen}
use Rattle.ssu_answer.specs.declared.build_fault.BuildFault.{BuildFault}
use Rattle.ssu_answer.specs.declared.build_fault.BuildFault.TheVariants as build_fault
use Rattle.route_tables.specs.Values.{Receiver}
use Rattle.ssu_io.specs.Faults.{Rose}
use Rattle.ssu_io.proofs.BytesLemmas.{Rose_since}
use Rattle.ssu_loader.specs.Opening.{opening_of}
use Rattle.ssu_loader.specs.Replaying.{AsBox, AtAnyMoment, Breaks, Fails, IsKnown, IsReady, ReplaysBox, receiver_under}
use Rattle.ssu_loader.specs.Replays.{EndsWith, ReplayLeaves}
use Rattle.ssu_loader.specs.declared.fault.LoadFault.{LoadFault}
use Rattle.ssu_loader.specs.declared.fault.LoadFault.TheVariants as load_fault
use Rattle.ssu_answer.specs.declared.verdict.Verdict.{Verdict}
use Rattle.flash_stage.specs.Keeping.{StagesNone}
use Rattle.ssu_loader.proofs.FreshLaws.{same_geometry}
use Rattle.ssu_loader.proofs.LeftLaws.{left_read}

-- ---- sound contents are not without a boot

current_one : (g : Geometry) (c : List ℕ) (r : ℕ) → r < 2 → HoldsRecord g c r → (HoldsRecord g c (1 - r) → number_in g c (1 - r) < number_in g c r) → BootOf g c (boot_in g c r)
current_one g c r low own newest = record { block = r; current = record { is_block = low; valid = own; newest = newest }; is = refl }

less : (m n : ℕ) → m ≤ n → m ≢ n → m < n
less m n le apart = omega arith

both_hold : (g : Geometry) (c : List ℕ) → IsSound g c → ((b : Boot) → BootOf g c b → ⊥) → HoldsRecord g c 0 → HoldsRecord g c 1 → ⊥
both_hold g c sound none a b = elim (cases_lt (number_in g c 1) (number_in g c 0)) [
  | inl lt ↦ none (boot_in g c 0) (current_one g c 0 (omega arith) a (λ _. lt))
  | inr le ↦ none (boot_in g c 1) (current_one g c 1 (omega arith) b (λ _. less (number_in g c 0) (number_in g c 1) le (sound.distinct a b)))
]

some_boot : (g : Geometry) (c : List ℕ) → IsSound g c → ((b : Boot) → BootOf g c b → ⊥) → ⊥
some_boot g c sound none = ⊎_elim
    (λ a. none (boot_in g c 0) (current_one g c 0 (omega arith) a (λ b. absurd (both_hold g c sound none a b))))
    (λ b. none (boot_in g c 1) (current_one g c 1 (omega arith) b (λ a. absurd (both_hold g c sound none a b))))
    sound.some

rose_none : Rose 0 0 → ⊥
rose_none rose = absurd (omega (arith, rose))

-- what the boot of a flash says at a fault
pub record BootSays {F : Type 0} (f : FlashGhosts F) (mid new : F) (fault : BootFault) : Type 0 where
  pub geometry : fault ≡ boot_fault.Geometry → IsInLimits (blocks_of f mid) → ⊥
  pub foreign : f.tells → fault ≡ boot_fault.Foreign → IsSound (blocks_of f mid) (f.contents mid) → ⊥
  pub flash : fault ≡ boot_fault.Flash → Rose (f.faults mid) (f.faults new)

module _ {F : Type 0} (f : FlashGhosts F) (b : Broadcast) (box_file : BoxFile) where
  -- the box, where this record is the current one
  abbrev box_at : F → Record → Receiver
  box_at old head = receiver_under box_file (blocks_of f old) head (opening_of true (blocks_of f old) head (f.contents old))

  abbrev Leaves : F → Boot → List ℕ → Type 0
  Leaves old former left =
      KeepsBoot (blocks_of f old) (f.contents old) left
      ⊎ ((chosen : Chosen) × IsInstalledFrom b (box_at old former.head) (blocks_of f old) former.head (f.contents old) left chosen)

  -- ---- before the replay

  pub not_begun : (flash : F) (result : Result Outcome ChainFault) → ((c : List ℕ) → f.left_since flash (f.moment flash) c → c ≡ f.contents flash)
      → IfOk result (Concludes b box_file (flash_seen f flash flash)) → IfErr result (IsFault b box_file (flash_seen f flash flash)) → Broadcasts b box_file result (flash_seen f flash flash)
  not_begun flash result only_now ok err = record {
    at_any_moment = λ tells sound former boots.
        let same : Leaves flash former (f.contents flash) = inl (keeps_boot_same (blocks_of f flash) (f.contents flash) sound) in
        record { left = started f.moment f.left_since flash (Leaves flash former) (λ c now. subst (Leaves flash former) (sym (only_now c now)) same); held = same };
    ok = ok;
    err = err;
    refused = λ tells which. reads_none f.tells f.contents f.block_count f.block_len f.moment f.left_since flash only_now;
    blocks = refl;
    flash_later = omega arith;
  }

  making_build : (flash : F) (fault : BuildFault) → IsMakingFault b (chain.Build fault) → IsFault b box_file (flash_seen f flash flash) (chain.Build fault)
  making_build flash (build_fault.ImageTooLong name) is = (is, refl)
  making_build flash (build_fault.TooManySections n) is = (is, refl)
  making_build flash build_fault.Memory is = absurd is

  making_load : (flash : F) (fault : LoadFault) → IsMakingFault b (chain.Load fault) → IsFault b box_file (flash_seen f flash flash) (chain.Load fault)
  making_load flash load_fault.Geometry is = absurd is
  making_load flash load_fault.FlashFault is = absurd is
  making_load flash load_fault.Foreign is = absurd is
  making_load flash load_fault.Worn is = absurd is
  making_load flash load_fault.Memory is = absurd is
  making_load flash load_fault.ReadFault is = absurd is
  making_load flash load_fault.TooLong is = (is.0, inl (is.1, refl))

  pub making_fault : (flash : F) (fault : ChainFault) → ((c : List ℕ) → f.left_since flash (f.moment flash) c → c ≡ f.contents flash) → IsMakingFault b fault
      → IsFault b box_file (flash_seen f flash flash) fault
  making_fault flash (chain.Build fault) only_now is = making_build flash fault is
  making_fault flash (chain.Load fault) only_now is = making_load flash fault is
  making_fault flash (chain.Boot fault) only_now is = absurd is
  making_fault flash chain.Memory only_now is = inl (reads_none f.tells f.contents f.block_count f.block_len f.moment f.left_since flash only_now)

  -- ---- the replay

  -- where no group is staged, nothing is found at the opening
  opens_empty : (old : F) (former : Boot) → IsInLimits (blocks_of f old) → BootOf (blocks_of f old) (f.contents old) former → StagesNone (blocks_of f old) (f.contents old)
      → OpensEmpty (box_at old former.head)
  opens_empty old former limits boots none = none_opened (blocks_of f old) (f.contents old) former limits boots none

  -- A replay over a flash out of the limits only reads it.
  limits_or_reads : (old new : F) (rest : List ℕ) (result : Result Verdict LoadFault) → ReplaysBox true true box_file result (held_seen (bytes_of_air b) rest) (flash_seen f old new)
      → IsInLimits (blocks_of f old) ⊎ OnlyReads f.tells f.contents f.block_count f.block_len f.moment f.left_since old new
  limits_or_reads old new rest (Ok verdict) r = inl r.ends.ready.limits
  limits_or_reads old new rest (Err load_fault.Geometry) r = inr r.fails.1.1
  limits_or_reads old new rest (Err load_fault.FlashFault) r = inl r.fails.0
  limits_or_reads old new rest (Err load_fault.Foreign) r = inl r.fails.0
  limits_or_reads old new rest (Err load_fault.Worn) r = inl r.fails.0
  limits_or_reads old new rest (Err load_fault.Memory) r = inl r.fails.0.limits
  limits_or_reads old new rest (Err load_fault.ReadFault) r = inl r.fails.1.ready.limits
  limits_or_reads old new rest (Err load_fault.TooLong) r = inl r.fails.ready.limits

  replay_leaves : (old new : F) (rest : List ℕ) (result : Result Verdict LoadFault) → IsOnAir b → ReplaysBox true true box_file result (held_seen (bytes_of_air b) rest) (flash_seen f old new)
      → f.tells → IsSound (blocks_of f old) (f.contents old) → (former : Boot) → BootOf (blocks_of f old) (f.contents old) former → AtAnyMoment (flash_seen f old new) (Leaves old former)
  replay_leaves old new rest result air r tells sound former boots = elim (limits_or_reads old new rest result r) [
    | inl limits ↦
        let me = box_at old former.head in
        let x = f.contents old in
        let g = blocks_of f old in
        let at = r.at_any_moment tells sound former boots in
        let opens = opens_empty old former limits boots in
        record {
          left = weaker f.moment f.left_since old new (ReplayLeaves me (Some (bytes_of_air b)) (Some rest) g x) (Leaves old former)
              (λ c left. left_so b me rest g former x c opens air boots left) at.left;
          held = left_so b me rest g former x (f.contents new) opens air boots at.held;
        }
    | inr reads ↦
        let same : Leaves old former (f.contents old) = inl (keeps_boot_same (blocks_of f old) (f.contents old) sound) in
        record { left = left_read f old new (Leaves old former) tells reads same; held = subst (Leaves old former) (sym (reads.same tells)) same }
  ]

  -- ---- without a verdict

  too_long : (old new : F) (rest : List ℕ) → IsOnAir b → AreFewSent b → Fails true box_file (held_seen (bytes_of_air b) rest) (flash_seen f old new) load_fault.TooLong
      → IsTooLong b box_file (flash_seen f old new)
  too_long old new rest air few fails =
      let is = fails.reaches in
      let m = more (IsKnown true (flash_seen f old new)) b (box_at old is.current) rest air is.fact in
      inr (few, (fails.ready, (m.many, (record { current = is.current; boots = is.boots; fact = m.undecided }, fails.keeps))))

  breaks_so : (old new : F) (rest : List ℕ) → IsOnAir b → Breaks true box_file (held_seen (bytes_of_air b) rest) (flash_seen f old new)
      → OnlyReads f.tells f.contents f.block_count f.block_len f.moment f.left_since old new ⊎ (IsReady (flash_seen f old new) × AsBox true box_file (flash_seen f old new) (IsBrokenAt (IsKnown true (flash_seen f old new)) b))
  breaks_so old new rest air breaks = elim breaks [
    | inl none ↦ inl none.1
    | inr at ↦
        let is = at.1 in
        let fact = broken_at (IsKnown true (flash_seen f old new)) b (box_at old is.current) rest air is.fact in
        inr (at.0, record { current = is.current; boots = is.boots; fact = fact })
  ]

  fails_so : (old new : F) (rest : List ℕ) (fault : LoadFault) → IsOnAir b → AreFewSent b
      → Fails true box_file (held_seen (bytes_of_air b) rest) (flash_seen f old new) fault → IsFault b box_file (flash_seen f old new) (of_load fault)
  fails_so old new rest load_fault.Geometry air few fails = (air.sent.buildable, (few, (fails.0, fails.1.1)))
  fails_so old new rest load_fault.FlashFault air few fails = (air.sent.buildable, (few, (fails.0, (fails.1.0, breaks_so old new rest air fails.1.1))))
  fails_so old new rest load_fault.Foreign air few fails = (air.sent.buildable, (few, (fails.0, (fails.1.0, fails.1.1.1))))
  fails_so old new rest load_fault.Worn air few fails = (air.sent.buildable, (few, (fails.0, (fails.1.0, fails.1.1.1))))
  fails_so old new rest load_fault.Memory air few fails = inl fails.1.1
  fails_so old new rest load_fault.ReadFault air few fails = absurd (rose_none fails.0)
  fails_so old new rest load_fault.TooLong air few fails = (air.sent.buildable, too_long old new rest air few fails)

  pub load_failed : (old new : F) (bytes rest : List ℕ) (fault : LoadFault) → IsOnAir b → AreFewSent b → bytes ≡ bytes_of_air b
      → ReplaysBox true true box_file (Err fault) (held_seen bytes rest) (flash_seen f old new) → Broadcasts b box_file (Err (of_load fault)) (flash_seen f old new)
  load_failed old new bytes rest fault air few is replays =
      let r : ReplaysBox true true box_file (Err fault) (held_seen (bytes_of_air b) rest) (flash_seen f old new) =
      subst (λ (l : List ℕ). ReplaysBox true true box_file (Err fault) (held_seen l rest) (flash_seen f old new)) is replays in
      record {
        at_any_moment = replay_leaves old new rest (Err fault) air r;
        ok = tt;
        err = fails_so old new rest fault air few r.fails;
        refused = λ tells which. (r.refused tells which).1;
        blocks = r.blocks;
        flash_later = r.flash_later;
      }

  -- the bytes that the box was given are those of the broadcast
  pub replayed : (old mid : F) (bytes rest : List ℕ) (result : Result Verdict LoadFault) → bytes ≡ bytes_of_air b
      → ReplaysBox true true box_file result (held_seen bytes rest) (flash_seen f old mid) → ReplaysBox true true box_file result (held_seen (bytes_of_air b) rest) (flash_seen f old mid)
  replayed old mid bytes rest result is replays = subst (λ (l : List ℕ). ReplaysBox true true box_file result (held_seen l rest) (flash_seen f old mid)) is replays

  -- ---- with one

  module _ (old mid new : F) (rest : List ℕ) (verdict : Verdict) (air : IsOnAir b) (few : AreFewSent b)
      (r : ReplaysBox true true box_file (Ok verdict) (held_seen (bytes_of_air b) rest) (flash_seen f old mid))
      (reads : OnlyReads f.tells f.contents f.block_count f.block_len f.moment f.left_since mid new) where
    held_same : f.tells → f.contents new ≡ f.contents mid
    held_same tells = reads.same tells

    came_to : f.tells → (former : Boot) → BootOf (blocks_of f old) (f.contents old) former
        → Came b (box_at old former.head) (blocks_of f old) former.head (f.contents old) (f.contents mid) verdict
    came_to tells former boots =
        let comes = r.ends.comes in
        let me = box_at old former.head in
        let ends = subst (λ (h : Record). EndsWith true true (box_at old h) (Some (bytes_of_air b)) (Some rest) (blocks_of f old) (f.contents old) (f.contents mid) verdict)
        (sym (comes.boots tells former boots)) (comes.fact.1 tells) in
        came true b me rest (blocks_of f old) former (f.contents old) (f.contents mid) verdict (opens_empty old former r.ends.ready.limits boots) refl air boots ends

    came_then : f.tells → (former : Boot) → BootOf (blocks_of f old) (f.contents old) former
        → Came b (box_at old former.head) (blocks_of f old) former.head (f.contents old) (f.contents new) verdict
    came_then tells former boots =
        subst (λ (y : List ℕ). Came b (box_at old former.head) (blocks_of f old) former.head (f.contents old) y verdict) (sym (held_same tells)) (came_to tells former boots)

    seen_so : AsBox true box_file (flash_seen f old new) (λ me. IsSeenOver (IsKnown true (flash_seen f old new)) b me verdict)
    seen_so =
        let is = r.ends.comes in
        record { current = is.current; boots = is.boots; fact = seen_over (IsKnown true (flash_seen f old new)) b (box_at old is.current) rest verdict air is.fact.0 }

    pub comes_to : ComesTo b box_file (flash_seen f old new) verdict
    comes_to = record {
      built = air.sent.buildable;
      few = few;
      ready = record { limits = r.ends.ready.limits; sound = r.ends.ready.sound; fresh = r.ends.ready.fresh };
      seen = seen_so;
      came = came_then;
    }

    not_refused : f.tells → (IsSound (blocks_of f old) (f.contents old) → ⊥) ⊎ IsWorn (blocks_of f old) (f.contents old) → ⊥
    not_refused tells which = ⊎_elim (λ not_sound. not_sound (r.ends.ready.sound tells)) (λ worn. r.ends.ready.fresh tells worn) which

    leaves : f.tells → IsSound (blocks_of f old) (f.contents old) → (former : Boot) → BootOf (blocks_of f old) (f.contents old) former → AtAnyMoment (flash_seen f old new) (Leaves old former)
    leaves tells sound former boots =
        let at = replay_leaves old mid rest (Ok verdict) air r tells sound former boots in
        record {
          left = joined f.moment f.left_since old mid new (Leaves old former) at.left (left_read f mid new (Leaves old former) tells reads at.held);
          held = subst (Leaves old former) (sym (held_same tells)) at.held;
        }

    blocks_still : blocks_of f new ≡ blocks_of f old
    blocks_still = same_geometry (blocks_of f new) (blocks_of f mid) reads.blocks reads.block_size ∙ r.blocks

    -- the contents that boot reads are sound
    pub still_sound : f.tells → (IsSound (blocks_of f mid) (f.contents mid) → ⊥) → ⊥
    still_sound tells not_sound =
        some_boot (blocks_of f old) (f.contents old) (r.ends.ready.sound tells) (λ former boots. not_sound (
        subst (λ (g : Geometry). IsSound g (f.contents mid)) (sym r.blocks) (elim (either_left b (box_at old former.head) (blocks_of f old) former.head (f.contents old) (f.contents mid) verdict (came_to tells former boots).left) [
          | inl keeps ↦ keeps.keeps.sound
          | inr t ↦ t.1.installs.commits.sound
        ])))

    planned_image : f.tells → (taken : Boot) → BootOf (blocks_of f old) (f.contents mid) taken → IsUnspoilt b → StagesNone (blocks_of f old) (f.contents old) → (former : Boot) → BootOf (blocks_of f old) (f.contents old) former
        → (former ≡ taken) ⊎ IsPlannedImage b (box_at old former.head) taken.image
    planned_image tells taken boots unspoilt none former before =
        elim (either_left b (box_at old former.head) (blocks_of f old) former.head (f.contents old) (f.contents mid) verdict (came_to tells former before).left) [
          | inl keeps ↦ inl (one_boot (blocks_of f old) (f.contents mid) former taken (keeps.keeps.boot former before) boots)
          | inr t ↦
              let i = t.1 in
              let same = one_boot (blocks_of f old) (f.contents mid) _ taken i.installs.commits.boot boots in
              inr (
                t.0,
                subst (λ (image : List ℕ). IsGroupForBox b.plan b.images (box_at old former.head) t.0.group t.0.software image)
                    (ap (λ (x : Boot). x.image) same) (i.planned unspoilt none),
              )
        ]

    pub concludes : (outcome : Outcome) → outcome.verdict ≡ verdict → f.faults mid ≤ f.faults new
        → (f.tells → BootOf (blocks_of f mid) (f.contents mid) (record { head = outcome.booted; image = outcome.image.items })) → Broadcasts b box_file (Ok outcome) (flash_seen f old new)
    concludes outcome same later boots =
        let first = r.flash_later in
        let taken : Boot = record { head = outcome.booted; image = outcome.image.items } in
        let at_old : f.tells → BootOf (blocks_of f old) (f.contents mid) taken = λ tells. subst (λ (g : Geometry). BootOf g (f.contents mid) taken) r.blocks (boots tells) in
        record {
          at_any_moment = leaves;
          ok = record {
            comes = subst (ComesTo b box_file (flash_seen f old new)) (sym same) comes_to;
            boots = λ tells. subst (λ (y : List ℕ). BootOf (blocks_of f old) y taken) (sym (held_same tells)) (at_old tells);
            head = λ tells former before.
                subst (IsHeadAfter former.head outcome.booted) (sym same)
                (head_after b (box_at old former.head) (blocks_of f old) former taken (f.contents old) (f.contents mid) verdict before (at_old tells) (came_to tells former before).left);
            planned = λ tells unspoilt none former before. planned_image tells taken (at_old tells) unspoilt none former before;
          };
          err = tt;
          refused = λ tells which. absurd (not_refused tells which);
          blocks = blocks_still;
          flash_later = omega (arith, first, later);
        }

    boot_fault_is : (fault : BootFault) → BootSays f mid new fault → IsFault b box_file (flash_seen f old new) (of_boot fault)
    boot_fault_is boot_fault.Geometry says = absurd (says.geometry refl (subst IsInLimits (sym r.blocks) r.ends.ready.limits))
    boot_fault_is boot_fault.Flash says = (Rose_since (f.faults old) (f.faults mid) (f.faults new) r.flash_later (says.flash refl), (verdict, comes_to))
    boot_fault_is boot_fault.Foreign says = (λ tells. still_sound tells (says.foreign tells refl), (verdict, comes_to))
    boot_fault_is boot_fault.Write says = inr (verdict, comes_to)

    pub boot_failed : (fault : BootFault) → BootSays f mid new fault → f.faults mid ≤ f.faults new → Broadcasts b box_file (Err (of_boot fault)) (flash_seen f old new)
    boot_failed fault says later =
        let first = r.flash_later in
        record { at_any_moment = leaves; ok = tt; err = boot_fault_is fault says; refused = λ tells which. absurd (not_refused tells which); blocks = blocks_still; flash_later = omega (arith, first, later) }
