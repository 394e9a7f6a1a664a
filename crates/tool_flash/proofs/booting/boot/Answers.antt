use Rattle.std.proofs.Common.{List, ℕ, arith, inl, inr, refl, subst}
use Rattle.std.proofs.lemmas.Grind.{common_steps}
use Rattle.ssu_io.specs.Bytes.{Gains, GainsPrefix}
use Rattle.ssu_io.specs.Faults.{Rose}
use Rattle.ssu_io.specs.Seen.{sink_seen}
use Rattle.tool_flash.proofs.StatusLaws.{booted, no_flash_fault, no_foreign, not_geometry, not_refused, on_done, on_write_faults, printed, taken, unfailed}
use Rattle.tool_flash.proofs.booting.boot.Goals as goal

pub returns-in-Ok : goal.returns-in-Ok
returns-in-Ok g c =
    let s = c.print.result in
    let is = c.print.ensures.answers in
    let out = sink_seen g.T.Sink c.args.out.now c.print.new.out in
    record {
      does = record {
        done = on_done s (λ prints. record {
          head = c.in-Ok.head;
          takes = c.in-Ok.ensures.whole;
          prints = subst (λ (line : List ℕ). Gains out.got out.got_after line) c.line_of.ensures prints;
        }) c.print.ensures.done;
        geometry = (λ e. absurd (not_geometry s is e), λ no. let wrong = c.in-Ok.ensures.geometry.1 no in absurd cc);
        foreign = λ told. no_foreign s _ is;
        sound = λ told. taken s _ (c.in-Ok.ensures.sound told);
        refused = not_refused s _ is;
        flash_fault = no_flash_fault s _ is;
        flash_cause = no_flash_fault s _ is;
        write_fault = on_write_faults s (λ prints rose. inr (
          record {
            head = c.in-Ok.head;
            takes = c.in-Ok.ensures.whole;
            prints = subst (λ (line : List ℕ). GainsPrefix out.got out.got_after line) c.line_of.ensures prints;
          },
          rose,
        )) c.print.ensures.write_fault c.print.ensures.write_cause;
        unprinted = printed s _ is;
        reads = c.in-Ok.ensures.reads;
        answers = booted s is;
        complete = λ _ _ none fault. unfailed s _ is c.print.ensures.write_cause none fault;
        flash_later = c.in-Ok.ensures.faults;
        made_later = c.in-Ok.ensures.sink_faults;
        out_later = c.print.ensures.out_later;
      };
    }

pub returns-in-Err-Write : goal.returns-in-Err-Write
returns-in-Err-Write g c =
    let rose : Rose (g.W.Sink.faults c.args.made.now) (g.W.Sink.faults c.boot.new.sink) = c.in-Err-Write.ensures.write cc in
    record {
      does = record {
        done = tt;
        geometry = grind (arith, common_steps);
        foreign = λ told. tt;
        sound = λ told. c.in-Err-Write.ensures.write_sound told cc;
        refused = tt;
        flash_fault = tt;
        flash_cause = tt;
        write_fault = inl (c.in-Err-Write.ensures.prefix, (refl, rose));
        unprinted = tt;
        reads = c.in-Err-Write.ensures.reads;
        answers = tt;
        complete = λ _ none _ _. none rose;
        flash_later = c.in-Err-Write.ensures.faults;
        made_later = c.in-Err-Write.ensures.sink_faults;
        out_later = omega arith;
      };
    }
