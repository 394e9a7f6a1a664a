use Rattle.std.proofs.Common.{◌≡◌, ap, arith, length}
use Rattle.flash_bank.specs.Seen.{flash_seen}
use Rattle.ssu_io.specs.Bytes.{Gains, GainsPrefix}
use Rattle.ssu_io.specs.Seen.{sink_seen}
use Rattle.ssu_status.specs.Answers.{IsPrinted}
use Rattle.ssu_status.specs.declared.status.Status.{Status}
use Rattle.ssu_status.specs.declared.status.Status.TheVariants.{Done, NoFit, WriteFault}
use Rattle.tool_flash.specs.Formatting.{IsPutAnswer}
use Rattle.tool_flash.proofs.FormatLemmas.{puts}
use Rattle.tool_flash.proofs.StatusLaws.{no_flash_fault, not_geometry, not_untouched, on_done, on_write_fault, printed}
use Rattle.tool_flash.proofs.formatting.put_first.Goals as goal

not_no_fit : (s : Status) → IsPrinted s → s ≡ NoFit → ⊥
not_no_fit Done is e = cc
not_no_fit WriteFault is e = cc
not_no_fit other is e = is

formatted : (s : Status) → IsPrinted s → IsPutAnswer s
formatted Done is = tt
formatted WriteFault is = tt
formatted other is = absurd is

pub returns-in-Ok-clause-done : goal.returns-in-Ok-clause-done
returns-in-Ok-clause-done g c =
    on_done c.print.result
    (puts Gains _ _ _ (flash_seen g.F.Flash c.args.flash.now c.format.new.flash) (sink_seen g.T.Sink c.args.out.now c.print.new.out) c.in-Ok.head _
    c.deref.ensures.value c.in-Ok.ensures.head c.formatted.ensures c.in-Ok.ensures.formatted)
    c.print.ensures.done

pub returns-in-Ok-clause-write_fault : goal.returns-in-Ok-clause-write_fault
returns-in-Ok-clause-write_fault g c =
    on_write_fault c.print.result
    (puts GainsPrefix _ _ _ (flash_seen g.F.Flash c.args.flash.now c.format.new.flash) (sink_seen g.T.Sink c.args.out.now c.print.new.out) c.in-Ok.head _
    c.deref.ensures.value c.in-Ok.ensures.head c.formatted.ensures c.in-Ok.ensures.formatted)
    c.print.ensures.write_fault

pub returns-in-Ok-clause-flash_cause : goal.returns-in-Ok-clause-flash_cause
returns-in-Ok-clause-flash_cause g c = no_flash_fault c.print.result _ c.print.ensures.answers

pub returns-in-Ok-clause-flash_fault : goal.returns-in-Ok-clause-flash_fault
returns-in-Ok-clause-flash_fault g c = no_flash_fault c.print.result _ c.print.ensures.answers

pub returns-in-Ok-clause-untouched : goal.returns-in-Ok-clause-untouched
returns-in-Ok-clause-untouched g c = not_untouched c.print.result _ c.print.ensures.answers

pub returns-in-Ok-clause-unprinted : goal.returns-in-Ok-clause-unprinted
returns-in-Ok-clause-unprinted g c = printed c.print.result _ c.print.ensures.answers

pub returns-in-Ok-clause-answers : goal.returns-in-Ok-clause-answers
returns-in-Ok-clause-answers g c = formatted c.print.result c.print.ensures.answers

pub returns-in-Ok-clause-judged : goal.returns-in-Ok-clause-judged
returns-in-Ok-clause-judged g c =
    let s = c.print.result in
    let is = c.print.ensures.answers in
    record {
      geometry = (λ e. absurd (not_geometry s is e), λ no. let wrong = c.in-Ok.ensures.geometry.1 no in absurd cc);
      no_fit = (λ e. absurd (not_no_fit s is e), λ long. let wrong = c.in-Ok.ensures.no_fit.1 (long.0, omega (arith, long.1, ap length c.deref.ensures.value)) in absurd cc);
    }
