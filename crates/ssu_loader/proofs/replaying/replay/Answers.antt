use Rattle.std.proofs.Common.{◌≡◌, ◌⊎◌, ⊎_elim, inl, inr, ℕ, List, [], ap, refl, subst, sym, ◌∙◌, arith}
use Rattle.std.proofs.lemmas.Result.{err_from_is_err_and}
use Rattle.std.specs.Prelude.{Err, IfErr, IfOk, IsErrOf, Result}
use Rattle.flash_bank.specs.Bank.{geometry_of}
use Rattle.flash_layout.specs.Layout.{Geometry, blocks_of}
use Rattle.flash_bank.specs.Leaving.{KeepsBoot}
use Rattle.flash_bank.specs.Runs.{OnlyReads}
use Rattle.flash_bank.proofs.LeavingLemmas.{keeps_boot_same}
use Rattle.flash_bank.specs.Seen.{flash_seen}
use Rattle.flash_dev.specs.Moments.{LeavesOnly}
use Rattle.flash_dev.proofs.Moments.{joined, weaker}
use Rattle.ssu_io.proofs.BytesLemmas.{Rose_since, Takes_none}
use Rattle.ssu_io.specs.Seen.{source_seen}
use Rattle.ts_input.specs.Packets.{IsOneMore, IsWithin}
use Rattle.ssu_loader.specs.Replaying.{Ends, Fails, IsReady, receiver_at}
use Rattle.ssu_loader.specs.Remaining.{StagesLast}
use Rattle.ssu_loader.specs.Replays.{BeginsNone, BreaksAtPacket, ComesSeen, EndsWith, HearsIn, ReachesNone, ReplayLeaves}
use Rattle.ssu_loader.specs.Starting.{KnowsKept}
use Rattle.ssu_loader.specs.declared.fault.LoadFault.{LoadFault}
use Rattle.ssu_loader.specs.declared.fault.LoadFault.TheVariants.{ReadFault, TooLong}
use Rattle.ssu_answer.specs.declared.verdict.Verdict.{Verdict}
use Rattle.ssu_loader.specs.declared.loader.Loader.{Loader}
use Rattle.ssu_loader.specs.Loading.{bank_of, receiver_in}
use Rattle.ssu_loader.specs.Lasting.{BreaksLasting, KeepsMargin, TakesLasting}
use Rattle.ssu_loader.specs.Life.{LeavesStep}
use Rattle.ssu_loader.specs.Stepping.{TakesStep}
use Rattle.ssu_loader.proofs.ReplayStepLaws.{leaves_step, same_step}
use Rattle.ssu_loader.proofs.CarriedLaws.{taking_installs}
use Rattle.ssu_loader.proofs.FreshLaws.{same_geometry}
use Rattle.ssu_loader.proofs.LastingLaws.{same_lasting}
use Rattle.ssu_loader.proofs.LeftLaws.{left_read}
use Rattle.ssu_loader.proofs.MarginLaws.{margin_same}
use Rattle.ssu_loader.proofs.OpeningLaws.{as_box, left_opened, of_former, of_opened}
use Rattle.ssu_loader.proofs.ReplayLaws.{opening_ends, opening_fails, taking_fails, with_premise}
use Rattle.ssu_loader.proofs.replaying.replay.Goals as goal

pub returns-in_err-loader : goal.returns-in_err-loader
returns-in_err-loader g c =
    let f = g.F.Flash in
    let me = c.args.me.now in
    let old = c.args.flash.now in
    let opened = c.open.new.flash in
    let fault = c.in_err-loader.field-0.0 in
    let o = c.in_err-loader.ensures in
    let left = g.A.Source.left c.args.air.now in
    let air = source_seen g.A.Source c.args.air.now c.args.air.now in
    let flash = flash_seen f old opened in
    let x = f.contents old in
    let blocks = blocks_of f old in
    let p = err_from_is_err_and c.from_residual.result c.from_residual.ensures.1 in
    let is : c.from_residual.result ≡ Err fault = p.1 ∙ ap (λ (e : LoadFault). Err e) p.2 in
    let fails : Fails g.S.Stage.KEEPS me air flash fault = opening_fails g.S.Stage.KEEPS me air flash {T = Loader g.row.S.Denot} (Err fault) o.geometry o.in_limits o.foreign o.sound o.worn o.next_fits o.fault o.answer (refl, o.reads) in
    record {
      replays = record {
        at_any_moment = λ tells sound former boot.
            let P : List ℕ → Type 0 = ReplayLeaves (receiver_at g.S.Stage.KEEPS me flash former) left left blocks x in
            let same : P x = inl (keeps_boot_same blocks x sound) in
            record { left = left_read f old opened P tells o.reads same; held = subst P (sym (o.reads.same tells)) same };
        carried = λ tells ready former boot air_well flash_well memory front rest chosen image told within first.
            absurd (opening_ends g.S.Stage.KEEPS me air flash fault o.answer fails tells ready flash_well (λ e. memory (is ∙ ap (λ (e : LoadFault). Err e) e)));
        ends = subst (λ (r : Result Verdict LoadFault). IfOk r (Ends g.S.Stage.IN_BANK g.S.Stage.KEEPS me air flash)) (sym is) tt;
        fails = subst (λ (r : Result Verdict LoadFault). IfErr r (Fails g.S.Stage.KEEPS me air flash)) (sym is) fails;
        lasts = λ keeps tells sound former boot.
            let P : List ℕ → Type 0 = TakesLasting 1 (receiver_at g.S.Stage.KEEPS me flash former) left left blocks x in
            let same : P x = same_lasting 1 (receiver_at g.S.Stage.KEEPS me flash former) left left blocks x [] (Takes_none left) in
            record { left = left_read f old opened P tells o.reads same; held = subst P (sym (o.reads.same tells)) same };
        lasts_unfailed = λ unfailed keeps tells sound former boot.
            subst (TakesLasting 0 (receiver_at g.S.Stage.KEEPS me flash former) left left blocks x) (sym (o.reads.same tells))
            (same_lasting 0 (receiver_at g.S.Stage.KEEPS me flash former) left left blocks x [] (Takes_none left));
        margin = λ none keeps tells sound former boot. subst (KeepsMargin blocks x) (sym (o.reads.same tells)) (margin_same blocks x);
        faulted = λ fault keeps tells. inl (refl, o.reads);
        untouched = λ tells former boot taken rest told told_then none. o.reads;
        refused = λ tells which. (refl, o.reads);
        blocks = same_geometry _ _ o.reads.blocks o.reads.block_size;
        air_later = omega arith;
        flash_later = o.faults;
      };
      steps = λ tells sound former boot.
          subst (LeavesStep me g.S.Stage.KEEPS left left blocks former x) (sym (o.reads.same tells)) (same_step me g.S.Stage.KEEPS left left blocks former x boot [] (Takes_none left) sound);
      steps_left = λ tells sound former boot.
          left_read f old opened (LeavesStep me g.S.Stage.KEEPS left left blocks former x) tells o.reads (same_step me g.S.Stage.KEEPS left left blocks former x boot [] (Takes_none left) sound);
    }

pub returns : goal.returns
returns g c =
    let s = g.S.Stage in
    let f = g.F.Flash in
    let me = c.args.me.now in
    let loader = c.in_ok-loader.loader in
    let old = c.args.flash.now in
    let opened = c.open.new.flash in
    let new = c.take_packets.new.flash in
    let t = c.take_packets.ensures in
    let result = c.take_packets.result in
    let o = c.in_ok-loader.ensures in
    let left = g.A.Source.left c.args.air.now in
    let left_after = g.A.Source.left c.take_packets.new.air in
    let air = source_seen g.A.Source c.args.air.now c.take_packets.new.air in
    let flash = flash_seen f old new in
    let x = f.contents old in
    let y = f.contents new in
    let blocks = blocks_of f old in
    let ready : IsReady flash = record { limits = o.in_limits; sound = o.sound; fresh = o.next_fits } in
    let you = receiver_in s.KEEPS me loader x in
    let later = Rose_since (f.faults old) (f.faults opened) (f.faults new) o.faults in
    let Reads = OnlyReads f.tells f.contents f.block_count f.block_len f.moment f.left_since old in
    let kept : f.tells → IsErrOf result ReadFault ⊎ IsErrOf result TooLong → KeepsBoot blocks x y =
    λ tells which. of_opened s f me loader old opened new o.follows o.geometry_is o.reads tells (λ (g : Geometry) (z : List ℕ). KeepsBoot g z y) (t.kept tells which) in
    record {
      replays = record {
        at_any_moment = λ tells sound former boot. record {
          left = left_opened s f me loader old opened new o.follows o.geometry_is o.reads left left_after tells sound former boot (t.left tells);
          held = of_former s f me loader old opened new o.follows o.geometry_is o.reads tells former boot (λ you g z. ReplayLeaves you left left_after g z y) (t.held tells);
        };
        carried = λ tells can former boot air_well flash_well memory front rest chosen image told within reached.
            taking_installs (KnowsKept s f) (inr tells) s.IN_BANK s.KEEPS (receiver_at s.KEEPS me flash former) left left_after front rest chosen image told reached blocks x y former boot within result
            (of_former s f me loader old opened new o.follows o.geometry_is o.reads tells former boot
            (λ you g z. IfOk result (EndsWith s.IN_BANK s.KEEPS you left left_after g z y)) (t.ends tells))
            (λ is. of_former s f me loader old opened new o.follows o.geometry_is o.reads tells former boot
            (λ you g z. ReachesNone (KnowsKept s f) you left left_after IsOneMore) (λ you follows. t.too_long you follows is))
            t.answer (λ is. air_well (t.read_cause is)) (λ is. flash_well (later (t.flash_cause is)));
        ends = with_premise f.tells (ComesSeen (KnowsKept s f) you left left_after) (EndsWith s.IN_BANK s.KEEPS you left left_after (geometry_of (bank_of loader)) (f.contents opened) y) (Ends s.IN_BANK s.KEEPS me air flash) result
            (λ v seen ends. record {
              ready = ready;
              comes = as_box s f me loader old opened new o.follows o.geometry_is o.reads (λ own. ComesSeen (KnowsKept s f) own left left_after v × (f.tells → EndsWith s.IN_BANK s.KEEPS own left left_after blocks x y v))
                  (seen, λ tells. of_opened s f me loader old opened new o.follows o.geometry_is o.reads tells (λ (g : Geometry) (z : List ℕ). EndsWith s.IN_BANK s.KEEPS you left left_after g z y v) (ends tells));
            })
            (t.seen you o.follows) (λ tells. t.ends tells you o.follows);
        fails = taking_fails s.KEEPS me air flash result t.answer ready t.read_cause (λ is. later (t.flash_cause is))
            (λ is. record {
              ready = ready;
              reaches = as_box s f me loader old opened new o.follows o.geometry_is o.reads (λ own. ReachesNone (KnowsKept s f) own left left_after IsWithin) (t.read_fault you o.follows is);
              keeps = λ tells. kept tells (inl is);
              staged = λ keeps tells. as_box s f me loader old opened new o.follows o.geometry_is o.reads (λ own. HearsIn own left left_after IsWithin (λ heard. StagesLast own heard blocks y))
                  (subst (λ (g : Geometry). HearsIn you left left_after IsWithin (λ heard. StagesLast you heard g y)) o.geometry_is (t.read_staged keeps tells you o.follows is));
            })
            (λ is. record {
              ready = ready;
              reaches = as_box s f me loader old opened new o.follows o.geometry_is o.reads (λ own. ReachesNone (KnowsKept s f) own left left_after IsOneMore) (t.too_long you o.follows is);
              keeps = λ tells. kept tells (inr is);
              staged = λ keeps tells. as_box s f me loader old opened new o.follows o.geometry_is o.reads (λ own. HearsIn own left left_after IsOneMore (λ heard. StagesLast own heard blocks y))
                  (subst (λ (g : Geometry). HearsIn you left left_after IsOneMore (λ heard. StagesLast you heard g y)) o.geometry_is (t.long_staged keeps tells you o.follows is));
            })
            (λ is. inr (ready, as_box s f me loader old opened new o.follows o.geometry_is o.reads (λ own. BreaksAtPacket (KnowsKept s f) own left left_after) (t.flash_fault you o.follows is)));
        lasts = λ keeps tells sound former boot.
            let box = receiver_at s.KEEPS me flash former in
            let Lasting : List ℕ → Type 0 = TakesLasting 1 box left left_after blocks x in
            let taken = of_former s f me loader old opened new o.follows o.geometry_is o.reads tells former boot (λ you g z. TakesLasting 1 you left left_after g z y) (t.lasts keeps tells) in
            record {
              left = joined f.moment f.left_since old opened new Lasting
                  (left_read f old opened Lasting tells o.reads (same_lasting 1 box left left_after blocks x taken.taken taken.takes))
                  (of_former s f me loader old opened new o.follows o.geometry_is o.reads tells former boot
                  (λ you g z. LeavesOnly f.moment f.left_since opened new (TakesLasting 1 you left left_after g z)) (t.lasts_left keeps tells));
              held = taken;
            };
        lasts_unfailed = λ unfailed keeps tells sound former boot.
            of_former s f me loader old opened new o.follows o.geometry_is o.reads tells former boot (λ you g z. TakesLasting 0 you left left_after g z y)
            (λ you follows. t.lasts_unfailed keeps tells you follows unfailed);
        margin = λ none keeps tells sound former boot.
            of_opened s f me loader old opened new o.follows o.geometry_is o.reads tells (λ (g : Geometry) (z : List ℕ). KeepsMargin g z y) (t.margin keeps tells you o.follows none);
        faulted = λ fault keeps tells. inr (as_box s f me loader old opened new o.follows o.geometry_is o.reads (λ own. BreaksLasting own left left_after blocks x y)
            (of_opened s f me loader old opened new o.follows o.geometry_is o.reads tells (λ (g : Geometry) (z : List ℕ). BreaksLasting you left left_after g z y) (t.fault_lasts keeps tells you o.follows fault)));
        untouched = λ tells former boot taken rest told told_then none.
            let same : new ≡ opened = of_former s f me loader old opened new o.follows o.geometry_is o.reads tells former boot
            (λ you g z. BeginsNone you taken → new ≡ opened) (λ you follows. t.untouched you follows taken rest told told_then) none in
            subst Reads (sym same) o.reads;
        refused = λ tells. ⊎_elim (λ foreign. absurd (foreign (o.sound tells))) (λ worn. absurd (o.next_fits tells worn));
        blocks = same_geometry _ _ (t.blocks ∙ o.reads.blocks) (t.block_size ∙ o.reads.block_size);
        air_later = t.air_later;
        flash_later = omega (arith, o.faults, t.flash_later);
      };
      steps = λ tells sound former boot. leaves_step me s.KEEPS left left_after blocks former x boot y
          (of_former s f me loader old opened new o.follows o.geometry_is o.reads tells former boot (λ you g z. TakesStep you left left_after g z y) (t.steps tells));
      steps_left = λ tells sound former boot.
          let Step : List ℕ → Type 0 = LeavesStep me s.KEEPS left left_after blocks former x in
          let Takes : List ℕ → Type 0 = TakesStep (receiver_at s.KEEPS me flash former) left left_after blocks x in
          let taken = of_former s f me loader old opened new o.follows o.geometry_is o.reads tells former boot (λ you g z. TakesStep you left left_after g z y) (t.steps tells) in
          joined f.moment f.left_since old opened new Step
          (left_read f old opened Step tells o.reads (same_step me s.KEEPS left left_after blocks former x boot taken.taken taken.takes sound))
          (weaker f.moment f.left_since opened new Takes Step (leaves_step me s.KEEPS left left_after blocks former x boot)
          (of_former s f me loader old opened new o.follows o.geometry_is o.reads tells former boot
          (λ you g z. LeavesOnly f.moment f.left_since opened new (TakesStep you left left_after g z)) (t.steps_left tells)));
    }
