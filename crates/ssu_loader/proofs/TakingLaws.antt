-- What a loader knows, and what it left, after the packets that it took of a source one after another.
use Rattle.std.proofs.Common.{◌≡◌, inl, inr, ⊎_elim, ℕ, ◌+◌, ◌*◌, ◌<◌, List, [], ◌∷◌, ◌++◌, length, reverse, Bool, true, Option, Some, refl, sym, ap, subst, ◌∙◌, arith, length-append}
use Rattle.std.proofs.lemmas.List.{append-nil, reverse-append}
use Rattle.std.specs.Prelude.{Ok}
use Rattle.ssu_io.specs.Bytes.{Takes}
use Rattle.ssu_io.proofs.BytesLemmas.{Takes_none, Takes_join}
use Rattle.ts_input.specs.Input.{TakesOne, TakesPackets, TakesRest}
use Rattle.ts_input.specs.Packets.{packets, most_packets, IsAtEnd, IsOneMore, IsWithin}
use Rattle.ts_input.proofs.InputLemmas.{byte_taken, nothing_taken, rest_taken}
use Rattle.ts_input.proofs.PacketLemmas.{packets_more, packets_of_rest}
use Rattle.ts_section.specs.Events.{Heard}
use Rattle.flash_dev.specs.declared.device.Flash.{Ghosts as FlashGhosts}
use Rattle.flash_dev.specs.Moments.{LeavesOnly}
use Rattle.flash_dev.proofs.Moments.{joined, weaker}
use Rattle.flash_bank.specs.Bank.{Fits, geometry_of}
use Rattle.flash_layout.specs.Layout.{Geometry, blocks_of}
use Rattle.flash_stage.specs.declared.stage.Stage.{Ghosts as StageGhosts}
use Rattle.flash_bank.specs.Leaving.{KeepsBoot}
use Rattle.flash_bank.proofs.LeavingLemmas.{keeps_boot_same}
use Rattle.flash_stage.specs.Keeping.{StagesNone}
use Rattle.flash_stage.specs.Leaving.{SameBank}
use Rattle.flash_stage.proofs.LeavingLaws.{bank_itself, banks_joined}
use Rattle.ssu_answer.specs.declared.chosen.Chosen.{Chosen}
use Rattle.route_tables.specs.Values.{Receiver}
use Rattle.ssu_route.specs.Queries.{heard_by}
use Rattle.ssu_route.specs.Windows.{beginnings}
use Rattle.ssu_loader.specs.declared.loader.Loader.{Loader}
use Rattle.ssu_answer.specs.declared.verdict.Verdict.{Verdict}
use Rattle.ssu_answer.specs.declared.verdict.Verdict.TheVariants.{Installed, Nothing, Incomplete, BadModule, Unsettled}
use Rattle.ssu_loader.specs.Decisions.{IsOpen, Reaches, TooMany, Whole, Wrong}
use Rattle.ssu_loader.specs.Collecting.{StopsBefore}
use Rattle.ssu_loader.specs.Leaving.{Ends, IfBadModule, IfUnsettled, InstallsChosen, SectionsLeave}
use Rattle.ssu_loader.specs.Loading.{Follows, IsUsable, KnowsPackets, KnowsPacketsHeard, bank_of}
use Rattle.ssu_loader.specs.Remaining.{StagesBefore, StagesLast, StagesStanding}
use Rattle.ssu_loader.specs.Replays.{ComesSeen, EndsWith, HearsAtPacket, HearsIn, ReplayLeaves, TakesAndInstalls, heard_in}
use Rattle.ssu_loader.specs.Life.{HoldsHeard, StepsTo}
use Rattle.ssu_loader.specs.Lasting.{BreaksLasting, IsNoDecision, KeepsMargin, Lasts, TakesLasting}
use Rattle.ssu_loader.specs.Starting.{KnowsKept}
use Rattle.ssu_loader.specs.Stepping.{TakesStep}
use Rattle.ssu_loader.specs.Storing.{HasNoPrev, Stores, StoresBefore}
use Rattle.ssu_loader.specs.Verdicts.{IsLastSeen, IsReached, IsSeen, IsUndecided, IsVerdict}
use Rattle.ssu_loader.proofs.FrontLaws.{none_before, packet_later, taken_is}
use Rattle.ssu_loader.proofs.KeepingLaws.{installs_after, installs_of, leaves_after, leaves_moved}
use Rattle.ssu_loader.proofs.FreshLaws.{same_geometry}
use Rattle.ssu_loader.proofs.LastingLaws.{lasts_joined, lasts_more, lasts_same, lasts_weaker}
use Rattle.ssu_loader.proofs.LeftLaws.{left_now}
use Rattle.ssu_loader.proofs.MarginLaws.{margin_joined, margin_same}
use Rattle.ssu_loader.proofs.CollectingLaws.{undecided_of}
use Rattle.ssu_loader.proofs.HoldingLaws.{holds_itself}
use Rattle.ssu_loader.proofs.StagedLaws.{both_left}
use Rattle.ssu_loader.proofs.StepLaws.{holds_joined, holds_more, steps_install, steps_keep}
use Rattle.ssu_loader.proofs.StoringLaws.{InBank, staged_before, staged_of, stores_before, stores_of}

-- ---- what is heard in the bytes that were taken

-- the packets of these bytes, the newest first
abbrev pub newest_packets : List ℕ → List (List ℕ)
newest_packets taken = reverse (packets taken)

newest_none : newest_packets [] ≡ []
newest_none = ap reverse (packets_of_rest [] (omega arith))

newest_more : (taken packet : List ℕ) (count : ℕ) → length taken ≡ 188 * count → length packet ≡ 188 → newest_packets (taken ++ packet) ≡ packet ∷ newest_packets taken
newest_more taken packet count whole one = ap reverse (packets_more taken packet count whole one) ∙ reverse-append (packets taken) (packet ∷ [])

pub heard_is : (me : Receiver) (taken : List ℕ) → heard_in me taken ≡ heard_by me (newest_packets taken)
unfolding heard_in
heard_is me taken = refl

-- ---- what the loader knows

-- nothing is decided by the packets that it took
pub is_undecided : {S F : Type 0} (s : StageGhosts S) (f : FlashGhosts F) (me : Receiver) (ps : List (List ℕ)) (loader : Loader S) (flash : F)
    → Follows s f me ps loader flash → IsUndecided (KnowsKept s f) me (heard_by me ps)
is_undecided s f me ps loader flash follows = undecided_of s f me (heard_by me ps) loader.collector flash follows.collects.gathers

pub knows_heard : {S F : Type 0} (s : StageGhosts S) (f : FlashGhosts F) (me : Receiver) (ps : List (List ℕ)) (loader : Loader S) (flash : F)
    → Follows s f me ps loader flash → KnowsPacketsHeard s me ps loader
knows_heard s f me ps loader flash follows = record {
  stands = follows.collects.stands;
  hears = follows.collects.gathers.hears;
}

pub knows_packets : {S F : Type 0} (s : StageGhosts S) (f : FlashGhosts F) (me : Receiver) (ps : List (List ℕ)) (loader : Loader S) (flash : F)
    → Follows s f me ps loader flash → KnowsKept s f → KnowsPackets s me ps loader
knows_packets s f me ps loader flash follows known = record {
  heard = knows_heard s f me ps loader flash follows;
  knows = follows.collects.gathers.knows known;
}

pub fits_it : {S F : Type 0} (s : StageGhosts S) (f : FlashGhosts F) (loader : Loader S) (flash : F) → f.tells → IsUsable s f loader flash → Fits (bank_of loader) (f.contents flash)
fits_it s f loader flash tells usable = usable.follows.collects.gathers.lent.fits tells

-- ---- the packets so far

-- So many packets were taken of the source. No verdict was reached in them, and the flash holds what boot took before.
pub record SoFar {S F : Type 0} (s : StageGhosts S) (f : FlashGhosts F) (count : ℕ) (first now : Loader S) (old new : F) (input input_now : Option (List ℕ)) : Type 0 where
  pub taken : List ℕ
  pub takes : Takes input input_now taken
  pub whole : length taken ≡ 188 * count
  pub usable : IsUsable s f now new
  pub follows : (me : Receiver) → Follows s f me [] first old → Follows s f me (newest_packets taken) now new
  pub same : SameBank (bank_of first) (bank_of now)
  pub fits : f.tells → Fits (bank_of first) (f.contents old)
  pub held : f.tells → KeepsBoot (geometry_of (bank_of first)) (f.contents old) (f.contents new)
  pub left : f.tells → LeavesOnly f.moment f.left_since old new (KeepsBoot (geometry_of (bank_of first)) (f.contents old))
  pub holds : f.tells → (me : Receiver) → Follows s f me [] first old
      → HoldsHeard (geometry_of (bank_of first)) me (heard_by me (newest_packets taken)) (f.contents old) (f.contents new)
  pub holds_left : f.tells → (me : Receiver) → Follows s f me [] first old
      → LeavesOnly f.moment f.left_since old new (HoldsHeard (geometry_of (bank_of first)) me (heard_by me (newest_packets taken)) (f.contents old))
  pub lasts : s.KEEPS ≡ true → f.tells → (me : Receiver) → Follows s f me [] first old
      → Lasts 0 (geometry_of (bank_of first)) me (heard_by me (newest_packets taken)) [] (f.contents old) (f.contents new)
  pub lasts_left : s.KEEPS ≡ true → f.tells → (me : Receiver) → Follows s f me [] first old
      → LeavesOnly f.moment f.left_since old new (Lasts 1 (geometry_of (bank_of first)) me (heard_by me (newest_packets taken)) [] (f.contents old))
  pub margin : s.KEEPS ≡ true → f.tells → (me : Receiver) → Follows s f me [] first old → KeepsMargin (geometry_of (bank_of first)) (f.contents old) (f.contents new)
  pub untouched : (me : Receiver) → Follows s f me [] first old → beginnings me (heard_by me (newest_packets taken)) ≡ 0 → new ≡ old
  pub blocks : f.block_count new ≡ f.block_count old
  pub block_size : f.block_len new ≡ f.block_len old

pub so_far_none : {S F : Type 0} (s : StageGhosts S) (f : FlashGhosts F) (loader : Loader S) (flash : F) (left : Option (List ℕ))
    → ((flash : F) (c : List ℕ) → f.left_since flash (f.moment flash) c → c ≡ f.contents flash) → IsUsable s f loader flash
    → SoFar s f 0 loader loader flash flash left left
so_far_none s f loader flash left only usable =
    let fits = λ (tells : f.tells). fits_it s f loader flash tells usable in
    let same = λ (tells : f.tells). keeps_boot_same (geometry_of (bank_of loader)) (f.contents flash) (fits tells).sound in
    record {
      taken = [];
      takes = Takes_none left;
      whole = omega arith;
      usable = usable;
      follows = λ me follows. subst (λ (ps : List (List ℕ)). Follows s f me ps loader flash) (sym newest_none) follows;
      same = bank_itself (bank_of loader);
      fits = fits;
      held = same;
      left = λ tells. left_now f only flash (KeepsBoot (geometry_of (bank_of loader)) (f.contents flash)) (same tells);
      holds = λ tells me follows. holds_itself (geometry_of (bank_of loader)) me (heard_by me (newest_packets [])) (f.contents flash);
      holds_left = λ tells me follows.
          left_now f only flash (HoldsHeard (geometry_of (bank_of loader)) me (heard_by me (newest_packets [])) (f.contents flash))
          (holds_itself (geometry_of (bank_of loader)) me (heard_by me (newest_packets [])) (f.contents flash));
      lasts = λ keeps tells me follows. lasts_same 0 (geometry_of (bank_of loader)) me (heard_by me (newest_packets [])) [] (f.contents flash);
      lasts_left = λ keeps tells me follows.
          left_now f only flash (Lasts 1 (geometry_of (bank_of loader)) me (heard_by me (newest_packets [])) [] (f.contents flash))
          (lasts_same 1 (geometry_of (bank_of loader)) me (heard_by me (newest_packets [])) [] (f.contents flash));
      margin = λ keeps tells me follows. margin_same (geometry_of (bank_of loader)) (f.contents flash);
      untouched = λ me follows none. refl;
      blocks = refl;
      block_size = refl;
    }

-- ---- one packet more

-- What the loader says of a packet at which no verdict is reached.
pub record GoesOnWith {S F : Type 0} (s : StageGhosts S) (f : FlashGhosts F) (packet : List ℕ) (now then : Loader S) (mid new : F) : Type 0 where
  pub follows : (me : Receiver) (ps : List (List ℕ)) → Follows s f me ps now mid → Follows s f me (packet ∷ ps) then new
  pub held : f.tells → (me : Receiver) (ps : List (List ℕ)) → Follows s f me ps now mid → KeepsBoot (geometry_of (bank_of now)) (f.contents mid) (f.contents new)
  pub left : f.tells → (me : Receiver) (ps : List (List ℕ)) → Follows s f me ps now mid
      → LeavesOnly f.moment f.left_since mid new (SectionsLeave me (heard_by me (packet ∷ ps)) (bank_of now) (f.contents mid))
  pub holds : f.tells → (me : Receiver) (ps : List (List ℕ)) → Follows s f me ps now mid
      → HoldsHeard (geometry_of (bank_of now)) me (heard_by me (packet ∷ ps)) (f.contents mid) (f.contents new)
  pub holds_left : f.tells → (me : Receiver) (ps : List (List ℕ)) → Follows s f me ps now mid
      → LeavesOnly f.moment f.left_since mid new (HoldsHeard (geometry_of (bank_of now)) me (heard_by me (packet ∷ ps)) (f.contents mid))
  pub lasts : s.KEEPS ≡ true → f.tells → (me : Receiver) (ps : List (List ℕ)) → Follows s f me ps now mid
      → Lasts 0 (geometry_of (bank_of now)) me (heard_by me (packet ∷ ps)) (heard_by me ps) (f.contents mid) (f.contents new)
  pub lasts_left : s.KEEPS ≡ true → f.tells → (me : Receiver) (ps : List (List ℕ)) → Follows s f me ps now mid
      → LeavesOnly f.moment f.left_since mid new (Lasts 1 (geometry_of (bank_of now)) me (heard_by me (packet ∷ ps)) (heard_by me ps) (f.contents mid))
  pub margin : s.KEEPS ≡ true → f.tells → (me : Receiver) (ps : List (List ℕ)) → Follows s f me ps now mid
      → KeepsMargin (geometry_of (bank_of now)) (f.contents mid) (f.contents new)
  pub untouched : (me : Receiver) (ps : List (List ℕ)) → Follows s f me ps now mid → beginnings me (heard_by me (packet ∷ ps)) ≡ 0 → new ≡ mid
  pub same_bank : SameBank (bank_of now) (bank_of then)
  pub blocks : f.block_count new ≡ f.block_count mid
  pub block_size : f.block_len new ≡ f.block_len mid

module _ {S F : Type 0} (s : StageGhosts S) (f : FlashGhosts F) (count : ℕ) (first now : Loader S) (old mid : F) (left left_now : Option (List ℕ))
    (so_far : SoFar s f count first now old mid left left_now) where
  -- what is left while nothing is decided
  undecided_left : (me : Receiver) (heard : List Heard) → f.tells → IsOpen me heard → (c : List ℕ)
      → SectionsLeave me heard (bank_of now) (f.contents mid) c → KeepsBoot (geometry_of (bank_of first)) (f.contents old) c
  undecided_left me heard tells undecided c =
      ⊎_elim (λ leaves. leaves_after (bank_of first) (bank_of now) (f.contents old) (f.contents mid) c so_far.same (so_far.held tells) leaves)
      (λ installs. absurd (undecided (Whole installs.0 installs.1.image) installs.1.reached))

  -- Before any choice begins the flash is as it was.
  pub untouched_more : (me : Receiver) (packet : List ℕ) (new : F) → Follows s f me [] first old
      → (beginnings me (heard_by me (packet ∷ newest_packets so_far.taken)) ≡ 0 → new ≡ mid) → beginnings me (heard_by me (packet ∷ newest_packets so_far.taken)) ≡ 0 → new ≡ old
  untouched_more me packet new follows now none = now none ∙ so_far.untouched me follows (none_before me packet (newest_packets so_far.taken) none)

  -- Of places no more is held than was, but those that were heard.
  abbrev with_packet : Receiver → List ℕ → List Heard
  with_packet me packet = heard_by me (packet ∷ newest_packets so_far.taken)

  holds_earlier : (me : Receiver) (packet : List ℕ) (z : List ℕ) → HoldsHeard (geometry_of (bank_of first)) me (heard_by me (newest_packets so_far.taken)) (f.contents old) z
      → HoldsHeard (geometry_of (bank_of first)) me (with_packet me packet) (f.contents old) z
  holds_earlier me packet z was =
      let more = packet_later me packet (newest_packets so_far.taken) in
      subst (λ (items : List Heard). HoldsHeard (geometry_of (bank_of first)) me items (f.contents old) z) (sym more.is)
      (holds_more (geometry_of (bank_of first)) me more.newer (heard_by me (newest_packets so_far.taken)) (f.contents old) z was)

  pub holds_packet : f.tells → (me : Receiver) (packet : List ℕ) → Follows s f me [] first old → (y : List ℕ) → HoldsHeard (geometry_of (bank_of now)) me (with_packet me packet) (f.contents mid) y
      → HoldsHeard (geometry_of (bank_of first)) me (with_packet me packet) (f.contents old) y
  holds_packet tells me packet follows y call =
      holds_joined (geometry_of (bank_of first)) me (with_packet me packet) (f.contents old) (f.contents mid) y
      (holds_earlier me packet (f.contents mid) (so_far.holds tells me follows))
      (subst (λ (blocks : Geometry). HoldsHeard blocks me (with_packet me packet) (f.contents mid) y) so_far.same.geometry call)

  pub holds_packet_left : f.tells → (me : Receiver) (packet : List ℕ) (new : F) → Follows s f me [] first old
      → LeavesOnly f.moment f.left_since mid new (HoldsHeard (geometry_of (bank_of now)) me (with_packet me packet) (f.contents mid))
      → LeavesOnly f.moment f.left_since old new (HoldsHeard (geometry_of (bank_of first)) me (with_packet me packet) (f.contents old))
  holds_packet_left tells me packet new follows call =
      joined f.moment f.left_since old mid new (HoldsHeard (geometry_of (bank_of first)) me (with_packet me packet) (f.contents old))
      (weaker f.moment f.left_since old mid (HoldsHeard (geometry_of (bank_of first)) me (heard_by me (newest_packets so_far.taken)) (f.contents old))
      (HoldsHeard (geometry_of (bank_of first)) me (with_packet me packet) (f.contents old)) (holds_earlier me packet) (so_far.holds_left tells me follows))
      (weaker f.moment f.left_since mid new (HoldsHeard (geometry_of (bank_of now)) me (with_packet me packet) (f.contents mid))
      (HoldsHeard (geometry_of (bank_of first)) me (with_packet me packet) (f.contents old)) (holds_packet tells me packet follows) call)

  -- What was staged stays staged.
  abbrev without_packet : Receiver → List Heard
  without_packet me = heard_by me (newest_packets so_far.taken)

  lasts_earlier : (me : Receiver) (packet : List ℕ) (z : List ℕ) → Lasts 1 (geometry_of (bank_of first)) me (heard_by me (newest_packets so_far.taken)) [] (f.contents old) z
      → Lasts 1 (geometry_of (bank_of first)) me (with_packet me packet) [] (f.contents old) z
  lasts_earlier me packet z was =
      let more = packet_later me packet (newest_packets so_far.taken) in
      subst (λ (items : List Heard). Lasts 1 (geometry_of (bank_of first)) me items [] (f.contents old) z) (sym more.is)
      (lasts_more 1 (geometry_of (bank_of first)) me more.newer (without_packet me) [] (f.contents old) z was)

  pub lasts_packet : (n : ℕ) → s.KEEPS ≡ true → f.tells → (me : Receiver) (packet : List ℕ) → Follows s f me [] first old → (y : List ℕ)
      → Lasts n (geometry_of (bank_of now)) me (with_packet me packet) (without_packet me) (f.contents mid) y
      → Lasts n (geometry_of (bank_of first)) me (with_packet me packet) [] (f.contents old) y
  lasts_packet n keeps tells me packet follows y call =
      let more = packet_later me packet (newest_packets so_far.taken) in
      let was = without_packet me in
      subst (λ (items : List Heard). Lasts n (geometry_of (bank_of first)) me items [] (f.contents old) y) (sym more.is)
      (lasts_joined n (geometry_of (bank_of first)) me more.newer was was [] (f.contents old) (f.contents mid) y (sym (append-nil was)) (so_far.held tells).keeps (so_far.lasts keeps tells me follows)
      (subst (λ (items : List Heard). Lasts n (geometry_of (bank_of first)) me items was (f.contents mid) y) more.is
      (subst (λ (blocks : Geometry). Lasts n blocks me (with_packet me packet) was (f.contents mid) y) so_far.same.geometry call)))

  pub lasts_packet_left : s.KEEPS ≡ true → f.tells → (me : Receiver) (packet : List ℕ) (new : F) → Follows s f me [] first old
      → LeavesOnly f.moment f.left_since mid new (Lasts 1 (geometry_of (bank_of now)) me (with_packet me packet) (without_packet me) (f.contents mid))
      → LeavesOnly f.moment f.left_since old new (Lasts 1 (geometry_of (bank_of first)) me (with_packet me packet) [] (f.contents old))
  lasts_packet_left keeps tells me packet new follows call =
      let Now : List ℕ → Type 0 = Lasts 1 (geometry_of (bank_of first)) me (with_packet me packet) [] (f.contents old) in
      joined f.moment f.left_since old mid new Now
      (weaker f.moment f.left_since old mid (Lasts 1 (geometry_of (bank_of first)) me (without_packet me) [] (f.contents old)) Now (lasts_earlier me packet) (so_far.lasts_left keeps tells me follows))
      (weaker f.moment f.left_since mid new (Lasts 1 (geometry_of (bank_of now)) me (with_packet me packet) (without_packet me) (f.contents mid)) Now
      (lasts_packet 1 keeps tells me packet follows) call)

  pub so_far_more : (then : Loader S) (new : F) (left_then : Option (List ℕ)) (packet : List ℕ)
      → Takes left_now left_then packet → length packet ≡ 188 → GoesOnWith s f packet now then mid new → SoFar s f (count + 1) first then old new left left_then
  so_far_more then new left_then packet takes one goes =
      let me = so_far.usable.me in
      let ps = so_far.usable.ps in
      let own = so_far.usable.follows in
      let after = goes.follows me ps own in
      record {
        taken = so_far.taken ++ packet;
        takes = Takes_join left left_now left_then so_far.taken packet so_far.takes takes;
        whole = omega (arith, length-append so_far.taken packet, so_far.whole, one);
        usable = record { me = me; ps = packet ∷ ps; follows = after };
        follows = λ you follows. subst (λ (qs : List (List ℕ)). Follows s f you qs then new) (sym (newest_more so_far.taken packet count so_far.whole one))
            (goes.follows you (newest_packets so_far.taken) (so_far.follows you follows));
        same = banks_joined (bank_of first) (bank_of now) (bank_of then) so_far.same goes.same_bank;
        fits = so_far.fits;
        held = λ tells. leaves_after (bank_of first) (bank_of now) (f.contents old) (f.contents mid) (f.contents new) so_far.same (so_far.held tells) (goes.held tells me ps own);
        left = λ tells. joined f.moment f.left_since old mid new (KeepsBoot (geometry_of (bank_of first)) (f.contents old)) (so_far.left tells)
            (weaker f.moment f.left_since mid new (SectionsLeave me (heard_by me (packet ∷ ps)) (bank_of now) (f.contents mid)) (KeepsBoot (geometry_of (bank_of first)) (f.contents old))
            (undecided_left me (heard_by me (packet ∷ ps)) tells ((is_undecided s f me (packet ∷ ps) then new after).exact (inr tells)))
            (goes.left tells me ps own));
        holds = λ tells you follows.
            subst (λ (qs : List (List ℕ)). HoldsHeard (geometry_of (bank_of first)) you (heard_by you qs) (f.contents old) (f.contents new)) (sym (newest_more so_far.taken packet count so_far.whole one))
            (holds_packet tells you packet follows (f.contents new) (goes.holds tells you (newest_packets so_far.taken) (so_far.follows you follows)));
        holds_left = λ tells you follows.
            subst (λ (qs : List (List ℕ)). LeavesOnly f.moment f.left_since old new (HoldsHeard (geometry_of (bank_of first)) you (heard_by you qs) (f.contents old))) (sym (newest_more so_far.taken packet count so_far.whole one))
            (holds_packet_left tells you packet new follows (goes.holds_left tells you (newest_packets so_far.taken) (so_far.follows you follows)));
        lasts = λ keeps tells you follows.
            subst (λ (qs : List (List ℕ)). Lasts 0 (geometry_of (bank_of first)) you (heard_by you qs) [] (f.contents old) (f.contents new)) (sym (newest_more so_far.taken packet count so_far.whole one))
            (lasts_packet 0 keeps tells you packet follows (f.contents new) (goes.lasts keeps tells you (newest_packets so_far.taken) (so_far.follows you follows)));
        lasts_left = λ keeps tells you follows.
            subst (λ (qs : List (List ℕ)). LeavesOnly f.moment f.left_since old new (Lasts 1 (geometry_of (bank_of first)) you (heard_by you qs) [] (f.contents old))) (sym (newest_more so_far.taken packet count so_far.whole one))
            (lasts_packet_left keeps tells you packet new follows (goes.lasts_left keeps tells you (newest_packets so_far.taken) (so_far.follows you follows)));
        margin = λ keeps tells you follows.
            let before = so_far.follows you follows in
            let taken = newest_packets so_far.taken in
            margin_joined (geometry_of (bank_of first)) (f.contents old) (f.contents mid) (f.contents new) (so_far.held tells).keeps
            (leaves_moved (bank_of first) (bank_of now) (f.contents mid) (f.contents new) so_far.same (goes.held tells you taken before)).keeps (so_far.margin keeps tells you follows)
            (subst (λ (blocks : Geometry). KeepsMargin blocks (f.contents mid) (f.contents new)) so_far.same.geometry (goes.margin keeps tells you taken before));
        untouched = λ you follows none.
            untouched_more you packet new follows (goes.untouched you (newest_packets so_far.taken) (so_far.follows you follows))
            (ap (λ (qs : List (List ℕ)). beginnings you (heard_by you qs)) (sym (newest_more so_far.taken packet count so_far.whole one)) ∙ none);
        blocks = goes.blocks ∙ so_far.blocks;
        block_size = goes.block_size ∙ so_far.block_size;
      }

  -- ---- an answer without a verdict

  pub kept : f.tells → KeepsBoot (geometry_of (bank_of first)) (f.contents old) (f.contents mid)
  kept tells = so_far.held tells

  pub left_kept : (me : Receiver) (left_then : Option (List ℕ)) → f.tells
      → LeavesOnly f.moment f.left_since old mid (ReplayLeaves me left left_then (geometry_of (bank_of first)) (f.contents old))
  left_kept me left_then tells =
      weaker f.moment f.left_since old mid (KeepsBoot (geometry_of (bank_of first)) (f.contents old)) (ReplayLeaves me left left_then (geometry_of (bank_of first)) (f.contents old))
      (λ c leaves. inl leaves) (so_far.left tells)

  -- the places of the choice that stands
  pub stored_now : InBank s → s.IN_BANK ≡ true → f.tells → (me : Receiver) → Follows s f me [] first old
      → Stores (geometry_of (bank_of first)) (f.contents mid) me (heard_by me (newest_packets so_far.taken))
  stored_now law in_bank tells me follows =
      let sections = heard_by me (newest_packets so_far.taken) in
      subst (λ (blocks : Geometry). Stores blocks (f.contents mid) me sections) so_far.same.geometry
      (stores_of s f law in_bank tells me sections now.collector mid (so_far.follows me follows).collects)

  -- those that it keeps
  pub staged_now : s.KEEPS ≡ true → f.tells → (me : Receiver) → Follows s f me [] first old
      → StagesStanding (geometry_of (bank_of first)) (f.contents mid) me (heard_by me (newest_packets so_far.taken))
  staged_now keeps tells me follows =
      let sections = heard_by me (newest_packets so_far.taken) in
      subst (λ (blocks : Geometry). StagesStanding blocks (f.contents mid) me sections) so_far.same.geometry
      (staged_of s f keeps tells me sections now.collector mid (so_far.follows me follows).collects)

  pub last_now : s.KEEPS ≡ true → f.tells → (me : Receiver) → Follows s f me [] first old
      → StagesLast me (heard_by me (newest_packets so_far.taken)) (geometry_of (bank_of first)) (f.contents mid)
  last_now keeps tells me follows =
      let sections = heard_by me (newest_packets so_far.taken) in
      subst (λ (blocks : Geometry). StagesLast me sections blocks (f.contents mid)) so_far.same.geometry
      ((so_far.follows me follows).collects.gathers.staged keeps tells)

  pub undecided_now : (me : Receiver) → Follows s f me [] first old → IsUndecided (KnowsKept s f) me (heard_by me (newest_packets so_far.taken))
  undecided_now me follows = is_undecided s f me (newest_packets so_far.taken) now mid (so_far.follows me follows)

  pub open_now : f.tells → (me : Receiver) → Follows s f me [] first old → IsOpen me (heard_by me (newest_packets so_far.taken))
  open_now tells me follows = (undecided_now me follows).exact (inr tells)

  -- No packet came any more, and then nothing: these packets were taken.
  pub ended_within : (left_then left_last : Option (List ℕ)) → TakesRest count left_now left_then → Takes left_then left_last []
      → TakesPackets IsWithin left left_last (packets so_far.taken)
  ended_within left_then left_last rest nothing =
      nothing_taken IsWithin left left_then left_last (packets so_far.taken)
      (rest_taken count left left_now left_then so_far.taken so_far.takes so_far.whole rest) nothing

  -- the greatest number of packets, and one byte behind them
  pub ended_too_long : (left_then left_last : Option (List ℕ)) → TakesRest count left_now left_then → count ≡ most_packets → TakesOne left_then left_last
      → TakesPackets IsOneMore left left_last (packets so_far.taken)
  ended_too_long left_then left_last rest most last =
      byte_taken count left left_now left_then left_last so_far.taken so_far.takes so_far.whole rest most last

  -- where no packet comes any more
  pub at_end : (me : Receiver) (left_last : Option (List ℕ)) (Length : ℕ → Type 0) (Now : List Heard → Type 0) → TakesPackets Length left left_last (packets so_far.taken)
      → Now (heard_by me (newest_packets so_far.taken)) → HearsIn me left left_last Length Now
  at_end me left_last Length Now all now = record {
    taken = all.taken;
    takes = all.takes;
    bytes = all.size;
    now = subst Now (sym (heard_is me all.taken ∙ ap (λ (ps : List (List ℕ)). heard_by me (reverse ps)) all.all)) now;
  }

  -- what is held then is a step, and so is all that was left
  step_kept : (me : Receiver) (left_last : Option (List ℕ)) (taken : List ℕ) → Takes left left_last taken → heard_in me taken ≡ heard_by me (newest_packets so_far.taken) → (y : List ℕ)
      → KeepsBoot (geometry_of (bank_of first)) (f.contents old) y → HoldsHeard (geometry_of (bank_of first)) me (heard_by me (newest_packets so_far.taken)) (f.contents old) y
      → TakesStep me left left_last (geometry_of (bank_of first)) (f.contents old) y
  step_kept me left_last taken takes is y keeps holds = record {
    taken = taken;
    takes = takes;
    step = λ former boot.
        steps_keep (geometry_of (bank_of first)) me (heard_in me taken) former (f.contents old) y boot keeps
        (subst (λ (items : List Heard). HoldsHeard (geometry_of (bank_of first)) me items (f.contents old) y) (sym is) holds);
  }

  module _ (me : Receiver) (left_last : Option (List ℕ)) (Length : ℕ → Type 0) (all : TakesPackets Length left left_last (packets so_far.taken)) (tells : f.tells) (follows : Follows s f me [] first old) where
    sections_are : heard_in me all.taken ≡ heard_by me (newest_packets so_far.taken)
    sections_are = heard_is me all.taken ∙ ap (λ (ps : List (List ℕ)). heard_by me (reverse ps)) all.all

    pub step_end : TakesStep me left left_last (geometry_of (bank_of first)) (f.contents old) (f.contents mid)
    step_end = step_kept me left_last all.taken all.takes sections_are (f.contents mid) (so_far.held tells) (so_far.holds tells me follows)

    pub step_end_left : LeavesOnly f.moment f.left_since old mid (TakesStep me left left_last (geometry_of (bank_of first)) (f.contents old))
    step_end_left =
        let g = geometry_of (bank_of first) in
        let x = f.contents old in
        let Holds : List ℕ → Type 0 = HoldsHeard g me (heard_by me (newest_packets so_far.taken)) x in
        weaker f.moment f.left_since old mid (λ y. KeepsBoot g x y × Holds y) (TakesStep me left left_last g x)
        (λ y is. step_kept me left_last all.taken all.takes sections_are y is.0 is.1)
        (both_left f old mid (KeepsBoot g x) Holds (so_far.left tells) (so_far.holds_left tells me follows))

    -- and what was staged at the opening stays staged
    pub lasts_end : (n : ℕ) → s.KEEPS ≡ true → TakesLasting n me left left_last (geometry_of (bank_of first)) (f.contents old) (f.contents mid)
    lasts_end n keeps = record {
      taken = all.taken;
      takes = all.takes;
      lasts = subst (λ (items : List Heard). Lasts n (geometry_of (bank_of first)) me items [] (f.contents old) (f.contents mid)) (sym sections_are)
          (lasts_weaker n (geometry_of (bank_of first)) me (heard_by me (newest_packets so_far.taken)) [] (f.contents old) (f.contents mid) (so_far.lasts keeps tells me follows));
    }

    pub lasts_end_left : s.KEEPS ≡ true → LeavesOnly f.moment f.left_since old mid (TakesLasting 1 me left left_last (geometry_of (bank_of first)) (f.contents old))
    lasts_end_left keeps =
        let g = geometry_of (bank_of first) in
        let x = f.contents old in
        weaker f.moment f.left_since old mid (Lasts 1 g me (heard_by me (newest_packets so_far.taken)) [] x) (TakesLasting 1 me left left_last g x)
        (λ y is. record { taken = all.taken; takes = all.takes; lasts = subst (λ (items : List Heard). Lasts 1 g me items [] x y) (sym sections_are) is })
        (so_far.lasts_left keeps tells me follows)

  -- ---- an answer at a packet

  pub at_packet : (me : Receiver) (left_then : Option (List ℕ)) (packet : List ℕ) (Now Before : List Heard → Type 0) → Takes left_now left_then packet → length packet ≡ 188 → count < 16777216
      → Now (heard_by me (packet ∷ newest_packets so_far.taken)) → Before (heard_by me (newest_packets so_far.taken)) → HearsAtPacket me left left_then Now Before
  at_packet me left_then packet Now Before takes one few now before = record {
    count = count;
    earlier = so_far.taken;
    packet = packet;
    takes = Takes_join left left_now left_then so_far.taken packet so_far.takes takes;
    whole = so_far.whole;
    within = few;
    one = one;
    now = subst Now (sym (heard_is me (so_far.taken ++ packet) ∙ ap (heard_by me) (newest_more so_far.taken packet count so_far.whole one))) now;
    before = subst Before (sym (heard_is me so_far.taken)) before;
  }

  -- the verdict that it brings, whether or not contents are told
  pub seen_at : (me : Receiver) (left_then : Option (List ℕ)) (packet : List ℕ) → Takes left_now left_then packet → length packet ≡ 188 → count < 16777216
      → Follows s f me [] first old → (v : Verdict) → IsSeen (KnowsKept s f) me (heard_by me (packet ∷ newest_packets so_far.taken)) (Some v) → ComesSeen (KnowsKept s f) me left left_then v
  seen_at me left_then packet takes one few follows (Installed chosen) is =
      at_packet me left_then packet (λ heard. IsSeen (KnowsKept s f) me heard (Some (Installed chosen))) (IsUndecided (KnowsKept s f) me) takes one few is (undecided_now me follows)
  seen_at me left_then packet takes one few follows (Nothing level) is = absurd is
  seen_at me left_then packet takes one few follows (Incomplete chosen missing) is = absurd is
  seen_at me left_then packet takes one few follows (BadModule id want found) is =
      at_packet me left_then packet (λ heard. IsSeen (KnowsKept s f) me heard (Some (BadModule id want found))) (IsUndecided (KnowsKept s f) me) takes one few is (undecided_now me follows)
  seen_at me left_then packet takes one few follows Unsettled is =
      at_packet me left_then packet (λ heard. IsSeen (KnowsKept s f) me heard (Some Unsettled)) (IsUndecided (KnowsKept s f) me) takes one few is (undecided_now me follows)

  module _ (me : Receiver) (left_then : Option (List ℕ)) (packet : List ℕ) (takes : Takes left_now left_then packet) (one : length packet ≡ 188) (few : count < 16777216)
      (tells : f.tells) (follows : Follows s f me [] first old) where
    abbrev heard : List Heard
    heard = heard_by me (packet ∷ newest_packets so_far.taken)

    abbrev g : Geometry
    g = geometry_of (bank_of first)

    installs_at : (chosen : Chosen) (y : List ℕ) → InstallsChosen me heard (bank_of now) (f.contents mid) y chosen → TakesAndInstalls me left left_then g (f.contents old) y chosen
    installs_at chosen y installs = record {
      image = installs.image;
      hears = at_packet me left_then packet (λ sections. Reaches me sections (Whole chosen installs.image)) (IsOpen me) takes one few installs.reached (open_now tells me follows);
      installs = installs_of (bank_of first) chosen installs.image (f.contents old) y (so_far.fits tells)
          (installs_after (bank_of first) (bank_of now) chosen installs.image (f.contents old) (f.contents mid) y (so_far.fits tells) so_far.same (so_far.held tells) installs.installs);
    }

    keeps_at : (y : List ℕ) → KeepsBoot (geometry_of (bank_of now)) (f.contents mid) y → KeepsBoot g (f.contents old) y
    keeps_at y leaves = leaves_after (bank_of first) (bank_of now) (f.contents old) (f.contents mid) y so_far.same (so_far.held tells) leaves

    -- what the packet may leave
    pub leaves_at : (y : List ℕ) → SectionsLeave me heard (bank_of now) (f.contents mid) y → ReplayLeaves me left left_then g (f.contents old) y
    leaves_at y = ⊎_elim (λ leaves. inl (keeps_at y leaves)) (λ installs. inr (installs.0, installs_at installs.0 y installs.1))

    pub left_at : (new : F) → LeavesOnly f.moment f.left_since mid new (SectionsLeave me heard (bank_of now) (f.contents mid))
        → LeavesOnly f.moment f.left_since old new (ReplayLeaves me left left_then g (f.contents old))
    left_at new during =
        joined f.moment f.left_since old mid new (ReplayLeaves me left left_then g (f.contents old)) (left_kept me left_then tells)
        (weaker f.moment f.left_since mid new (SectionsLeave me heard (bank_of now) (f.contents mid)) (ReplayLeaves me left left_then g (f.contents old)) leaves_at during)

    -- a step of a life
    sections_now : heard_in me (so_far.taken ++ packet) ≡ heard
    sections_now = heard_is me (so_far.taken ++ packet) ∙ ap (heard_by me) (newest_more so_far.taken packet count so_far.whole one)

    step_of : (y : List ℕ) → SectionsLeave me heard (bank_of now) (f.contents mid) y → HoldsHeard g me heard (f.contents old) y → TakesStep me left left_then g (f.contents old) y
    step_of y leaves holds = record {
      taken = so_far.taken ++ packet;
      takes = Takes_join left left_now left_then so_far.taken packet so_far.takes takes;
      step = λ former boot.
          subst (λ (items : List Heard). StepsTo g me items former (f.contents old) y) (sym sections_now)
          (⊎_elim (λ kept. steps_keep g me heard former (f.contents old) y boot (keeps_at y kept) holds)
          (λ installs.
          let is = installs.1 in
          steps_install g me heard former installs.0 is.image (f.contents old) y is.reached
          (installs_of (bank_of first) installs.0 is.image (f.contents old) y (so_far.fits tells)
          (installs_after (bank_of first) (bank_of now) installs.0 is.image (f.contents old) (f.contents mid) y (so_far.fits tells) so_far.same (so_far.held tells) is.installs) former boot) holds) leaves);
    }

    pub step_at : (y : List ℕ) → SectionsLeave me heard (bank_of now) (f.contents mid) y → HoldsHeard (geometry_of (bank_of now)) me heard (f.contents mid) y
        → TakesStep me left left_then g (f.contents old) y
    step_at y leaves holds = step_of y leaves (holds_packet tells me packet follows y holds)

    step_before : (y : List ℕ) → KeepsBoot g (f.contents old) y → HoldsHeard g me (heard_by me (newest_packets so_far.taken)) (f.contents old) y → TakesStep me left left_then g (f.contents old) y
    step_before y keeps holds = record {
      taken = so_far.taken ++ packet;
      takes = Takes_join left left_now left_then so_far.taken packet so_far.takes takes;
      step = λ former boot.
          subst (λ (items : List Heard). StepsTo g me items former (f.contents old) y) (sym sections_now)
          (steps_keep g me heard former (f.contents old) y boot keeps (holds_earlier me packet y holds));
    }

    pub step_left : (new : F) → LeavesOnly f.moment f.left_since mid new (SectionsLeave me heard (bank_of now) (f.contents mid))
        → LeavesOnly f.moment f.left_since mid new (HoldsHeard (geometry_of (bank_of now)) me heard (f.contents mid))
        → LeavesOnly f.moment f.left_since old new (TakesStep me left left_then g (f.contents old))
    step_left new during holds =
        let x = f.contents old in
        let Step : List ℕ → Type 0 = TakesStep me left left_then g x in
        let Before : List ℕ → Type 0 = HoldsHeard g me (heard_by me (newest_packets so_far.taken)) x in
        let Leaves : List ℕ → Type 0 = SectionsLeave me heard (bank_of now) (f.contents mid) in
        let Holds : List ℕ → Type 0 = HoldsHeard (geometry_of (bank_of now)) me heard (f.contents mid) in
        joined f.moment f.left_since old mid new Step
        (weaker f.moment f.left_since old mid (λ y. KeepsBoot g x y × Before y) Step (λ y is. step_before y is.0 is.1) (both_left f old mid (KeepsBoot g x) Before (so_far.left tells) (so_far.holds_left tells me follows)))
        (weaker f.moment f.left_since mid new (λ y. Leaves y × Holds y) Step (λ y is. step_at y is.0 is.1) (both_left f mid new Leaves Holds during holds))

    -- what was staged at the opening stays staged
    lasts_of : (n : ℕ) (y : List ℕ) → Lasts n g me heard [] (f.contents old) y → TakesLasting n me left left_then g (f.contents old) y
    lasts_of n y is = record {
      taken = so_far.taken ++ packet;
      takes = Takes_join left left_now left_then so_far.taken packet so_far.takes takes;
      lasts = subst (λ (items : List Heard). Lasts n g me items [] (f.contents old) y) (sym sections_now) is;
    }

    pub lasts_at : (n : ℕ) → s.KEEPS ≡ true → (y : List ℕ) → Lasts n (geometry_of (bank_of now)) me heard (heard_by me (newest_packets so_far.taken)) (f.contents mid) y
        → TakesLasting n me left left_then g (f.contents old) y
    lasts_at n keeps y call = lasts_of n y (lasts_packet n keeps tells me packet follows y call)

    pub lasts_at_left : s.KEEPS ≡ true → (new : F)
        → LeavesOnly f.moment f.left_since mid new (Lasts 1 (geometry_of (bank_of now)) me heard (heard_by me (newest_packets so_far.taken)) (f.contents mid))
        → LeavesOnly f.moment f.left_since old new (TakesLasting 1 me left left_then g (f.contents old))
    lasts_at_left keeps new call =
        weaker f.moment f.left_since old new (Lasts 1 g me heard [] (f.contents old)) (TakesLasting 1 me left left_then g (f.contents old)) (lasts_of 1)
        (lasts_packet_left keeps tells me packet new follows call)

    -- and so does what was staged before the packet
    pub lasts_broken : s.KEEPS ≡ true → (y : List ℕ) → Lasts 1 (geometry_of (bank_of now)) me heard (heard_by me (newest_packets so_far.taken)) (f.contents mid) y
        → BreaksLasting me left left_then g (f.contents old) y
    lasts_broken keeps y call = record {
      count = count;
      earlier = so_far.taken;
      packet = packet;
      takes = Takes_join left left_now left_then so_far.taken packet so_far.takes takes;
      whole = so_far.whole;
      one = one;
      before = f.contents mid;
      keeps = so_far.held tells;
      margin = so_far.margin keeps tells me follows;
      staged = subst (λ (items : List Heard). StagesLast me items g (f.contents mid)) (sym (heard_is me so_far.taken)) (last_now keeps tells me follows);
      lasts = subst (λ (items : List Heard). Lasts 1 g me items (heard_in me so_far.taken) (f.contents mid) y) (sym sections_now)
          (subst (λ (items : List Heard). Lasts 1 g me heard items (f.contents mid) y) (sym (heard_is me so_far.taken))
          (subst (λ (blocks : Geometry). Lasts 1 blocks me heard (heard_by me (newest_packets so_far.taken)) (f.contents mid) y) so_far.same.geometry call));
    }

    -- the verdict that it brings
    pub ends_at : (law : InBank s) (v : Verdict) (new : F) → Ends me heard (bank_of now) (f.contents mid) (f.contents new) v → IfUnsettled (Some v) (StopsBefore s f me heard new)
        → (s.IN_BANK ≡ true → IfBadModule (Some v) (HasNoPrev (geometry_of (bank_of now)) (f.contents new)))
        → (s.KEEPS ≡ true → IfBadModule (Some v) (StagesNone (geometry_of (bank_of now)) (f.contents new))) → f.block_count new ≡ f.block_count mid → f.block_len new ≡ f.block_len mid → EndsWith s.IN_BANK s.KEEPS me left left_then g (f.contents old) (f.contents new) v
    ends_at law (Installed chosen) new installs stops none forgotten blocks lens = installs_at chosen (f.contents new) installs
    ends_at law (Nothing level) new ends stops none forgotten blocks lens = absurd ends.0
    ends_at law (Incomplete chosen missing) new ends stops none forgotten blocks lens = absurd ends.0
    ends_at law (BadModule id want found) new ends stops none forgotten blocks lens = (
      at_packet me left_then packet (λ sections. IsReached me sections (BadModule id want found)) (IsOpen me) takes one few ends.0 (open_now tells me follows),
      (
        keeps_at (f.contents new) ends.1,
        λ is. subst (λ (blocks : Geometry). HasNoPrev blocks (f.contents new)) so_far.same.geometry (none is),
        λ is. subst (λ (blocks : Geometry). StagesNone blocks (f.contents new)) so_far.same.geometry (forgotten is),
      ),
    )
    ends_at law Unsettled new ends stops none forgotten blocks lens =
        let lent = follows.collects.gathers.lent in
        let own : blocks_of f new ≡ g = same_geometry (blocks_of f new) g (blocks ∙ (so_far.blocks ∙ lent.blocks)) (lens ∙ (so_far.block_size ∙ lent.block_size)) in
        let y = f.contents new in (
          at_packet me left_then packet (λ sections. IsReached me sections Unsettled × (s.IN_BANK ≡ true → StoresBefore g y me sections) × (s.KEEPS ≡ true → StagesBefore me sections g y)) (IsOpen me) takes one few (
            ends.0,
            λ is. subst (λ (blocks : Geometry). StoresBefore blocks y me heard) own (stores_before s f law is tells me heard new stops),
            λ keeps. subst (λ (blocks : Geometry). StagesBefore me heard blocks y) own (staged_before s f keeps tells me heard new stops),
          )
              (open_now tells me follows),
          keeps_at y ends.1,
        )

-- the verdict of a packet is a decision
pub decides_something : (known : Type 0) (me : Receiver) (heard : List Heard) (v : Verdict) → IsSeen known me heard (Some v) → IsNoDecision (Ok v) → ⊥
decides_something known me heard (Installed chosen) seen none = none
decides_something known me heard (Nothing level) seen none = seen
decides_something known me heard (Incomplete chosen count) seen none = seen
decides_something known me heard (BadModule id want found) seen none = none
decides_something known me heard Unsettled seen none = none

-- ---- where no choice began

abbrev pub KeepsWhereNone : {F : Type 0} → Receiver → F → F → List Heard → Type 0
KeepsWhereNone me old new heard = beginnings me heard ≡ 0 → new ≡ old

pub untouched_in : {F : Type 0} (me : Receiver) (left left_then : Option (List ℕ)) (Length : ℕ → Type 0) (old new : F) → HearsIn me left left_then Length (KeepsWhereNone me old new)
    → (taken rest : List ℕ) → left ≡ Some (taken ++ rest) → left_then ≡ Some rest → beginnings me (heard_in me taken) ≡ 0 → new ≡ old
untouched_in me left left_then Length old new hears taken rest told told_then none =
    let own : hears.taken ≡ taken = taken_is left left_then hears.taken taken rest told told_then hears.takes in
    hears.now (ap (λ (bytes : List ℕ). beginnings me (heard_in me bytes)) own ∙ none)

pub untouched_at : {F : Type 0} (me : Receiver) (left left_then : Option (List ℕ)) (Before : List Heard → Type 0) (old new : F) → HearsAtPacket me left left_then (KeepsWhereNone me old new) Before
    → (taken rest : List ℕ) → left ≡ Some (taken ++ rest) → left_then ≡ Some rest → beginnings me (heard_in me taken) ≡ 0 → new ≡ old
untouched_at me left left_then Before old new hears taken rest told told_then none =
    let own : hears.earlier ++ hears.packet ≡ taken = taken_is left left_then (hears.earlier ++ hears.packet) taken rest told told_then hears.takes in
    hears.now (ap (λ (bytes : List ℕ). beginnings me (heard_in me bytes)) own ∙ none)

-- ---- the verdict at the end of the input

-- Nothing is decided, and this comes of the sections.
abbrev pub ComesLast : Type 0 → Receiver → Verdict → List Heard → Type 0
ComesLast known me v heard = IsLastSeen known me heard v

pub seen_last : (known : Type 0) (me : Receiver) (v : Verdict) (left left_then : Option (List ℕ)) → HearsIn me left left_then IsWithin (ComesLast known me v) → IsAtEnd left_then
    → ComesSeen known me left left_then v
seen_last known me (Installed chosen) left left_then hears end = absurd hears.now.partial
seen_last known me (Nothing level) left left_then hears end = record { hears = hears; end = end }
seen_last known me (Incomplete chosen missing) left left_then hears end = record { hears = hears; end = end }
seen_last known me (BadModule id want found) left left_then hears end = absurd hears.now.partial
seen_last known me Unsettled left left_then hears end = absurd hears.now.partial

-- What is known at the end, where a stage in the bank has the places of the choice that stands, and what boot took before is gone, and a stage
-- that keeps its places has left them staged.
abbrev pub EndsLast : Bool → Bool → Geometry → List ℕ → Receiver → Verdict → List Heard → Type 0
EndsLast in_bank keeps g y me v heard =
    IsVerdict me heard v × IsOpen me heard × (in_bank ≡ true → Stores g y me heard) × (keeps ≡ true → StagesStanding g y me heard)
    × (keeps ≡ true → StagesLast me heard g y)

pub ends_last : (in_bank keeping : Bool) (me : Receiver) (v : Verdict) (left left_then : Option (List ℕ)) (g : Geometry) (x y : List ℕ)
    → HearsIn me left left_then IsWithin (EndsLast in_bank keeping g y me v) → IsAtEnd left_then → KeepsBoot g x y → EndsWith in_bank keeping me left left_then g x y v
ends_last in_bank keeping me (Installed chosen) left left_then g x y hears end keeps = absurd (hears.now.1 (Whole chosen hears.now.0.0) hears.now.0.1)
ends_last in_bank keeping me (Nothing level) left left_then g x y hears end keeps =
    (record { hears = record { taken = hears.taken; takes = hears.takes; bytes = hears.bytes; now = (hears.now.0, λ staged. (hears.now.2 staged).gone, hears.now.4) }; end = end }, keeps)
ends_last in_bank keeping me (Incomplete chosen missing) left left_then g x y hears end keeps =
    (record { hears = record { taken = hears.taken; takes = hears.takes; bytes = hears.bytes; now = (hears.now.0, hears.now.2, hears.now.3) }; end = end }, keeps)
ends_last in_bank keeping me (BadModule id want found) left left_then g x y hears end keeps = absurd (hears.now.1 (Wrong id want found) hears.now.0)
ends_last in_bank keeping me Unsettled left left_then g x y hears end keeps = absurd (hears.now.1 TooMany hears.now.0)
