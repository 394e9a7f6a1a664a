use Rattle.std.proofs.Common.{rules}
use Rattle.tool_flash.proofs.StatusLaws.{on_done, on_write_fault}
use Rattle.tool_flash.proofs.formatting.format.Goals as goal

pub returns-in-Ok : goal.returns-in-Ok
returns-in-Ok g c =
    let s = c.put_first.result in
    let files = c.in-Ok.files in
    record {
      does = record {
        done = on_done s (λ puts. record { software = files.software; image = files.image.items; told = c.in-Ok.ensures.found; puts = puts }) c.put_first.ensures.done;
        absent = search rules;
        no_box = search rules;
        box_refused = search rules;
        no_file = search rules;
        files_refused = search rules;
        files_read = search rules;
        untouched = c.put_first.ensures.untouched;
        flash_fault = c.put_first.ensures.flash_fault;
        flash_cause = c.put_first.ensures.flash_cause;
        write_fault = on_write_fault s (λ puts. record { software = files.software; image = files.image.items; told = c.in-Ok.ensures.found; puts = puts }) c.put_first.ensures.write_fault;
        write_cause = c.put_first.ensures.write_cause;
        unprinted = c.put_first.ensures.unprinted;
        answers = search rules;
        complete = search rules;
        files = search rules;
        blocks = c.put_first.ensures.blocks;
        flash_later = c.put_first.ensures.flash_later;
        out_later = c.put_first.ensures.out_later;
      };
    }
