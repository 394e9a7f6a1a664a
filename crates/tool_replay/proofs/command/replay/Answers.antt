use Rattle.std.proofs.Common.{inl, inr, ap, refl, sym, ◌∙◌, arith}
use Rattle.flash_bank.proofs.ReadsLemmas.{reads_none}
use Rattle.flash_bank.specs.Seen.{flash_seen}
use Rattle.ssu_io.specs.Seen.{shelf_seen, sink_seen, source_seen}
use Rattle.ssu_loader.specs.Remaining.{StagesStanding}
use Rattle.ssu_loader.specs.Replaying.{receiver_at}
use Rattle.ssu_loader.specs.Replays.{BeginsNone, CarriesFirst, heard_in}
use Rattle.ssu_loader.specs.Storing.{Stores}
use Rattle.ssu_status.specs.Status.{OnIncomplete, status_of}
use Rattle.tool_replay.proofs.CarriedLaws.{box_is_had, fault_of_flash, flash_status, for_box, no_flash_fault, not_memory, of_box}
use Rattle.tool_replay.proofs.KeptLaws.{breaks_for, lasts_for, lasts_now, lasts_same, leaves_for, leaves_same, steps_for, steps_same}
use Rattle.tool_replay.proofs.StoredLaws.{fault_margin, fault_stages, fault_stores, refusal_margin, refusal_stages, refusal_stores, verdict_keeps, verdict_margin, verdict_stages, verdict_stores}
use Rattle.tool_replay.proofs.ToldLaws.{has_failed, no_box_failed, no_box_is_absent, no_fault, none_absent, reads_fault, reads_verdict, reads_written, says_fault, says_no_box, says_verdict}
use Rattle.tool_replay.proofs.command.replay.Goals as goal

pub returns-in-Err : goal.returns-in-Err
returns-in-Err g c =
    let f = g.F.Flash in
    let same = c.args.flash.now in
    let shelf = shelf_seen g.H.Shelf c.args.shelf.now c.read_box.new.shelf in
    let air = source_seen g.A.Source c.args.air.now c.args.air.now in
    let flash = flash_seen f same same in
    let out = sink_seen g.T.Sink c.args.out.now c.args.out.now in
    let b = c.in-Err.ensures in
    let s = c.in-Err.status in
    let only_now = g.met.F.Flash.only_now same in
    let reads = reads_none f.tells f.contents f.block_count f.block_len f.moment f.left_since same only_now in
    record {
      replays = record {
        at_any_moment = λ tells sound former boot. leaves_same g.S.Stage.KEEPS f shelf air same former only_now sound;
        steps = λ tells sound former boot. steps_same g.S.Stage.KEEPS f shelf air same former only_now;
        lasts = λ tells keeping sound former boot. lasts_same g.S.Stage.KEEPS f shelf air same former only_now;
        lasts_unfailed = λ tells keeping sound former boot unfailed. inl refl;
        faulted = λ tells keeping is. inl (refl, reads);
        margin = λ tells keeping sound former boot. refusal_margin s _ b.refusals;
        carried = λ tells ready former boot box_file holds well memory front rest chosen image left within first.
            absurd (box_is_had _ shelf.held box_file s holds b.refusals b.absent b.refused b.fault_cause well.shelf_well memory);
        answers = says_no_box g.S.Stage.IN_BANK g.S.Stage.KEEPS shelf air flash out _ s b.refusals b.absent b.absent_name b.refused (refl, (refl, refl)) (refl, reads);
        files = record { absent_cause = b.absent_cause; fault_cause = b.fault_cause; held = b.unchanged; faults_later = b.faults; absences_later = b.absences };
        no_box = no_box_is_absent _ shelf.held s b.refusals b.absent b.absent_name;
        complete = no_box_failed g.S.Stage.IN_BANK g.S.Stage.KEEPS shelf air flash out s b.refusals b.fault_cause;
        untouched = λ tells former boot box_file holds taken rest left left_after none. reads;
        stored = λ tells staged former boot box_file holds taken rest left left_after. refusal_stores s _ b.refusals;
        staged = λ tells keeping former boot box_file holds taken rest left left_after. refusal_stores s _ b.refusals;
        forgotten = λ tells keeping. refusal_stages s _ b.refusals;
        refused = λ tells which. (refl, reads);
        blocks = refl;
        air_later = omega arith;
        flash_later = omega arith;
        out_later = omega arith;
      };
    }

pub returns-in-Err-replay : goal.returns-in-Err-replay
returns-in-Err-replay g c =
    let f = g.F.Flash in
    let file = c.in-Ok.file in
    let told = c.in-Ok.ensures.found in
    let old = c.args.flash.now in
    let new = c.replay.new.flash in
    let shelf = shelf_seen g.H.Shelf c.args.shelf.now c.read_box.new.shelf in
    let air = source_seen g.A.Source c.args.air.now c.replay.new.air in
    let flash = flash_seen f old new in
    let out = sink_seen g.T.Sink c.args.out.now c.args.out.now in
    let b = c.read_box.ensures in
    let r = c.replay.ensures.replays in
    let fault = c.in-Err-replay.fault in
    let status = c.status_of_fault.ensures in
    let fails = c.in-Err-replay.ensures.replays.fails in
    record {
      replays = record {
        at_any_moment = λ tells sound former boot. leaves_for g.S.Stage.KEEPS f shelf air old new former file told (r.at_any_moment tells sound former boot);
        steps = λ tells sound former boot. steps_for g.S.Stage.KEEPS f shelf air old new former file told (c.replay.ensures.steps tells sound former boot) (c.replay.ensures.steps_left tells sound former boot);
        lasts = λ tells keeping sound former boot. lasts_for g.S.Stage.KEEPS f shelf air old new former file told (r.lasts keeping tells sound former boot);
        lasts_unfailed = λ tells keeping sound former boot unfailed.
            inr (record { box_file = file; told = told; takes = c.in-Err-replay.ensures.replays.lasts_unfailed (λ is. unfailed (status ∙ flash_status fault is)) keeping tells sound former boot });
        margin = λ tells keeping sound former boot. rw status (fault_margin fault _ (λ none. c.in-Err-replay.ensures.replays.margin none keeping tells sound former boot));
        faulted = λ tells keeping is. breaks_for g.S.Stage.KEEPS shelf air flash file told (c.in-Err-replay.ensures.replays.faulted (fault_of_flash fault (sym status ∙ is)) keeping tells);
        carried = λ tells ready former boot box_file holds well memory front rest chosen image left within first.
            absurd (c.in-Err-replay.ensures.replays.carried tells ready former boot well.air_well well.flash_well (not_memory fault (λ is. memory (status ∙ is)))
            front rest chosen image left within (for_box shelf.held box_file file (λ own. CarriesFirst (receiver_at g.S.Stage.KEEPS own flash former) front chosen image) holds told first));
        answers = rw status (says_fault g.S.Stage.IN_BANK g.S.Stage.KEEPS shelf air flash out fault (record { box_file = file; told = told; fails = fails; unprinted = refl }));
        files = rw status (reads_fault g.S.Stage.IN_BANK g.S.Stage.KEEPS shelf air flash out b.unchanged b.faults b.absences fault);
        no_box = λ none. absurd (none_absent shelf.held file told none);
        complete = rw status (has_failed g.S.Stage.IN_BANK g.S.Stage.KEEPS shelf air flash out file fault fails);
        untouched = λ tells former boot box_file holds taken rest left left_after none.
            r.untouched tells former boot taken rest left left_after (for_box shelf.held box_file file (λ own. BeginsNone (receiver_at g.S.Stage.KEEPS own flash former) taken) holds told none);
        stored = λ tells staged former boot box_file holds taken rest left left_after. rw status (fault_stores fault _);
        staged = λ tells keeping former boot box_file holds taken rest left left_after. rw status (fault_stores fault _);
        forgotten = λ tells keeping. rw status (fault_stages fault _);
        refused = r.refused;
        blocks = r.blocks;
        air_later = r.air_later;
        flash_later = r.flash_later;
        out_later = omega arith;
      };
    }

pub returns-in-Ok-put_line : goal.returns-in-Ok-put_line
returns-in-Ok-put_line g c =
    let f = g.F.Flash in
    let file = c.in-Ok.file in
    let told = c.in-Ok.ensures.found in
    let old = c.args.flash.now in
    let new = c.replay.new.flash in
    let shelf = shelf_seen g.H.Shelf c.args.shelf.now c.read_box.new.shelf in
    let air = source_seen g.A.Source c.args.air.now c.replay.new.air in
    let flash = flash_seen f old new in
    let out = sink_seen g.T.Sink c.args.out.now c.put_line.new.out in
    let b = c.read_box.ensures in
    let r = c.replay.ensures.replays in
    let v = c.in-Ok-replay.verdict in
    let status = c.of.ensures in
    let ends = c.in-Ok-replay.ensures.replays.ends in
    record {
      replays = record {
        at_any_moment = λ tells sound former boot. leaves_for g.S.Stage.KEEPS f shelf air old new former file told (r.at_any_moment tells sound former boot);
        steps = λ tells sound former boot. steps_for g.S.Stage.KEEPS f shelf air old new former file told (c.replay.ensures.steps tells sound former boot) (c.replay.ensures.steps_left tells sound former boot);
        lasts = λ tells keeping sound former boot. lasts_for g.S.Stage.KEEPS f shelf air old new former file told (r.lasts keeping tells sound former boot);
        lasts_unfailed = λ tells keeping sound former boot unfailed.
            inr (record { box_file = file; told = told; takes = c.in-Ok-replay.ensures.replays.lasts_unfailed (λ is. cc) keeping tells sound former boot });
        margin = λ tells keeping sound former boot. rw status (verdict_margin v _ (λ none. c.in-Ok-replay.ensures.replays.margin none keeping tells sound former boot));
        faulted = λ tells keeping is. absurd (no_flash_fault v (sym status ∙ is));
        carried = λ tells ready former boot box_file holds well memory front rest chosen image left within first.
            let installed = c.in-Ok-replay.ensures.replays.carried tells ready former boot well.air_well well.flash_well (λ is. cc)
            front rest chosen image left within (for_box shelf.held box_file file (λ own. CarriesFirst (receiver_at g.S.Stage.KEEPS own flash former) front chosen image) holds told first) in
            (status ∙ ap status_of installed.0, installed.1);
        answers = rw status (says_verdict g.S.Stage.IN_BANK g.S.Stage.KEEPS shelf air flash out v (record { box_file = file; told = told; ends = ends; prints = c.in-Ok-put_line.ensures.whole }));
        files = rw status (reads_verdict g.S.Stage.IN_BANK g.S.Stage.KEEPS shelf air flash out b.unchanged b.faults b.absences v);
        no_box = λ none. absurd (none_absent shelf.held file told none);
        complete = λ well. rw status (no_fault g.S.Stage.IN_BANK g.S.Stage.KEEPS shelf air flash out v);
        untouched = λ tells former boot box_file holds taken rest left left_after none.
            r.untouched tells former boot taken rest left left_after (for_box shelf.held box_file file (λ own. BeginsNone (receiver_at g.S.Stage.KEEPS own flash former) taken) holds told none);
        stored = λ tells staged former boot box_file holds taken rest left left_after. rw status (of_box shelf.held box_file file
            (λ own. OnIncomplete (status_of v) (λ chosen missing.
            Stores flash.blocks flash.contents_after (receiver_at g.S.Stage.KEEPS own flash former) (heard_in (receiver_at g.S.Stage.KEEPS own flash former) taken))) holds told
            (verdict_stores g.S.Stage.IN_BANK g.S.Stage.KEEPS file air flash tells former boot taken rest left left_after staged v ends));
        staged = λ tells keeping former boot box_file holds taken rest left left_after. rw status (of_box shelf.held box_file file
            (λ own. OnIncomplete (status_of v) (λ chosen missing.
            StagesStanding flash.blocks flash.contents_after (receiver_at g.S.Stage.KEEPS own flash former) (heard_in (receiver_at g.S.Stage.KEEPS own flash former) taken))) holds told
            (verdict_keeps g.S.Stage.IN_BANK g.S.Stage.KEEPS file air flash tells former boot taken rest left left_after keeping v ends));
        forgotten = λ tells keeping. rw status (verdict_stages g.S.Stage.IN_BANK g.S.Stage.KEEPS file air flash tells keeping v ends);
        refused = r.refused;
        blocks = r.blocks;
        air_later = r.air_later;
        flash_later = r.flash_later;
        out_later = c.put_line.ensures.cause.later;
      };
    }

pub returns-in-Err-put_line : goal.returns-in-Err-put_line
returns-in-Err-put_line g c =
    let f = g.F.Flash in
    let file = c.in-Ok.file in
    let told = c.in-Ok.ensures.found in
    let old = c.args.flash.now in
    let new = c.replay.new.flash in
    let shelf = shelf_seen g.H.Shelf c.args.shelf.now c.read_box.new.shelf in
    let air = source_seen g.A.Source c.args.air.now c.replay.new.air in
    let flash = flash_seen f old new in
    let out = sink_seen g.T.Sink c.args.out.now c.put_line.new.out in
    let b = c.read_box.ensures in
    let r = c.replay.ensures.replays in
    let v = c.in-Ok-replay.verdict in
    let ends = c.in-Ok-replay.ensures.replays.ends in
    let failed = c.in-Err-put_line.ensures.cause.failed refl in
    record {
      replays = record {
        at_any_moment = λ tells sound former boot. leaves_for g.S.Stage.KEEPS f shelf air old new former file told (r.at_any_moment tells sound former boot);
        steps = λ tells sound former boot. steps_for g.S.Stage.KEEPS f shelf air old new former file told (c.replay.ensures.steps tells sound former boot) (c.replay.ensures.steps_left tells sound former boot);
        lasts = λ tells keeping sound former boot. lasts_for g.S.Stage.KEEPS f shelf air old new former file told (r.lasts keeping tells sound former boot);
        lasts_unfailed = λ tells keeping sound former boot unfailed.
            inr (record { box_file = file; told = told; takes = c.in-Ok-replay.ensures.replays.lasts_unfailed (λ is. cc) keeping tells sound former boot });
        margin = λ tells keeping sound former boot. tt;
        faulted = λ tells keeping is. absurd cc;
        carried = λ tells ready former boot box_file holds well memory front rest chosen image left within first. absurd (well.out_well failed);
        answers = (failed, (v, record { box_file = file; told = told; ends = ends; prints = c.in-Err-put_line.ensures.prefix }));
        files = reads_written g.S.Stage.IN_BANK g.S.Stage.KEEPS shelf air flash out b.unchanged b.faults b.absences;
        no_box = λ none. absurd (none_absent shelf.held file told none);
        complete = λ well is. well.out_well failed;
        untouched = λ tells former boot box_file holds taken rest left left_after none.
            r.untouched tells former boot taken rest left left_after (for_box shelf.held box_file file (λ own. BeginsNone (receiver_at g.S.Stage.KEEPS own flash former) taken) holds told none);
        stored = λ tells staged former boot box_file holds taken rest left left_after. tt;
        staged = λ tells keeping former boot box_file holds taken rest left left_after. tt;
        forgotten = λ tells keeping. tt;
        refused = r.refused;
        blocks = r.blocks;
        air_later = r.air_later;
        flash_later = r.flash_later;
        out_later = c.put_line.ensures.cause.later;
      };
    }
