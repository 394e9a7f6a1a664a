use Rattle.std.proofs.Common.{List, ℕ, arith, refl, subst}
use Rattle.std.proofs.lemmas.Grind.{common_steps}
use Rattle.std.specs.Prelude.{Err}
use Rattle.flash_bank.specs.Seen.{flash_seen}
use Rattle.flash_bank.specs.declared.fault.MigrateFault.TheVariants as fault
use Rattle.ssu_io.specs.Bytes.{Gains, GainsPrefix}
use Rattle.ssu_io.specs.Seen.{sink_seen}
use Rattle.ssu_status.specs.declared.status.Status.TheVariants.{FlashFault, Foreign, Geometry, NoFit, Worn}
use Rattle.tool_flash.proofs.MigrateLemmas.{decides}
use Rattle.tool_flash.proofs.StatusLaws.{has_two, migrated, no_flash_fault, no_foreign, no_no_fit, no_worn, not_geometry, not_untouched, on_done, on_write_fault}
use Rattle.tool_flash.proofs.StatusLaws.{printed, unfailed}
use Rattle.tool_flash.proofs.migrating.migrate.Goals as goal

pub returns-in-Ok : goal.returns-in-Ok
returns-in-Ok g c =
    let s = c.print.result in
    let is = c.print.ensures.answers in
    let out = sink_seen g.T.Sink c.args.out.now c.print.new.out in
    let flash = flash_seen g.F.Flash c.args.flash.now c.migrate.new.flash in
    let has = has_two flash c.in-Ok.migrated c.in-Ok.ensures.now c.in-Ok.ensures.already c.in-Ok.ensures.unchanged in
    record {
      does = record {
        done = on_done s (λ prints. record {
          migrated = c.in-Ok.migrated;
          has = has;
          prints = subst (λ (line : List ℕ). Gains out.got out.got_after line) c.line_of.ensures prints;
        }) c.print.ensures.done;
        geometry = (λ e. absurd (not_geometry s is e), λ no. let wrong = c.in-Ok.ensures.geometry.1 no in absurd cc);
        foreign = λ told. no_foreign s _ is;
        worn = λ told. no_worn s _ is;
        no_fit = λ told. no_no_fit s _ is;
        decides = λ told limits. decides flash.blocks flash.contents _ s is (c.in-Ok.ensures.exact told limits);
        untouched = not_untouched s _ is;
        held = c.in-Ok.ensures.held;
        at_any_moment = c.in-Ok.ensures.left;
        unsound = c.in-Ok.ensures.unsound;
        flash_cause = no_flash_fault s _ is;
        write_fault = on_write_fault s (λ prints. record {
          migrated = c.in-Ok.migrated;
          has = has;
          prints = subst (λ (line : List ℕ). GainsPrefix out.got out.got_after line) c.line_of.ensures prints;
        }) c.print.ensures.write_fault;
        write_cause = c.print.ensures.write_cause;
        unprinted = printed s _ is;
        answers = migrated s is;
        complete = λ _ none fault. unfailed s _ is c.print.ensures.write_cause none fault;
        blocks = λ i. record { blocks = c.in-Ok.ensures.blocks i; block_len = c.in-Ok.ensures.block_size i };
        flash_later = c.in-Ok.ensures.faults;
        out_later = c.print.ensures.out_later;
      };
    }

pub returns-in-Err-Geometry : goal.returns-in-Err-Geometry
returns-in-Err-Geometry g c =
    let flash = flash_seen g.F.Flash c.args.flash.now c.migrate.new.flash in
    record {
      does = record {
        done = tt;
        geometry = grind (arith, common_steps);
        foreign = λ told. tt;
        worn = λ told. tt;
        no_fit = λ told. tt;
        decides = λ told limits. decides flash.blocks flash.contents (Err fault.Geometry) Geometry refl (rw c.in-Err-Geometry.field-0-is at (c.in-Err-Geometry.ensures.exact told limits));
        untouched = c.in-Err-Geometry.ensures.refused (λ e. cc);
        held = c.in-Err-Geometry.ensures.held;
        at_any_moment = c.in-Err-Geometry.ensures.left;
        unsound = c.in-Err-Geometry.ensures.unsound;
        flash_cause = tt;
        write_fault = tt;
        write_cause = tt;
        unprinted = refl;
        answers = tt;
        complete = λ _ _ fault. fault;
        blocks = λ i. record { blocks = c.in-Err-Geometry.ensures.blocks i; block_len = c.in-Err-Geometry.ensures.block_size i };
        flash_later = c.in-Err-Geometry.ensures.faults;
        out_later = omega arith;
      };
    }

pub returns-in-Err-Flash : goal.returns-in-Err-Flash
returns-in-Err-Flash g c =
    let flash = flash_seen g.F.Flash c.args.flash.now c.migrate.new.flash in
    record {
      does = record {
        done = tt;
        geometry = grind (arith, common_steps);
        foreign = λ told. tt;
        worn = λ told. tt;
        no_fit = λ told. tt;
        decides = λ told limits. decides flash.blocks flash.contents (Err fault.Flash) FlashFault refl (rw c.in-Err-Flash.field-0-is at (c.in-Err-Flash.ensures.exact told limits));
        untouched = tt;
        held = c.in-Err-Flash.ensures.held;
        at_any_moment = c.in-Err-Flash.ensures.left;
        unsound = c.in-Err-Flash.ensures.unsound;
        flash_cause = c.in-Err-Flash.ensures.fault cc;
        write_fault = tt;
        write_cause = tt;
        unprinted = refl;
        answers = tt;
        complete = λ none _ fault. none (c.in-Err-Flash.ensures.fault cc);
        blocks = λ i. record { blocks = c.in-Err-Flash.ensures.blocks i; block_len = c.in-Err-Flash.ensures.block_size i };
        flash_later = c.in-Err-Flash.ensures.faults;
        out_later = omega arith;
      };
    }

pub returns-in-Err-Foreign : goal.returns-in-Err-Foreign
returns-in-Err-Foreign g c =
    let flash = flash_seen g.F.Flash c.args.flash.now c.migrate.new.flash in
    record {
      does = record {
        done = tt;
        geometry = grind (arith, common_steps);
        foreign = λ told. c.in-Err-Foreign.ensures.foreign told cc;
        worn = λ told. tt;
        no_fit = λ told. tt;
        decides = λ told limits. decides flash.blocks flash.contents (Err fault.Foreign) Foreign refl (rw c.in-Err-Foreign.field-0-is at (c.in-Err-Foreign.ensures.exact told limits));
        untouched = c.in-Err-Foreign.ensures.refused (λ e. cc);
        held = c.in-Err-Foreign.ensures.held;
        at_any_moment = c.in-Err-Foreign.ensures.left;
        unsound = c.in-Err-Foreign.ensures.unsound;
        flash_cause = tt;
        write_fault = tt;
        write_cause = tt;
        unprinted = refl;
        answers = tt;
        complete = λ _ _ fault. fault;
        blocks = λ i. record { blocks = c.in-Err-Foreign.ensures.blocks i; block_len = c.in-Err-Foreign.ensures.block_size i };
        flash_later = c.in-Err-Foreign.ensures.faults;
        out_later = omega arith;
      };
    }

pub returns-in-Err-Worn : goal.returns-in-Err-Worn
returns-in-Err-Worn g c =
    let flash = flash_seen g.F.Flash c.args.flash.now c.migrate.new.flash in
    record {
      does = record {
        done = tt;
        geometry = grind (arith, common_steps);
        foreign = λ told. tt;
        worn = λ told. c.in-Err-Worn.ensures.worn told cc;
        no_fit = λ told. tt;
        decides = λ told limits. decides flash.blocks flash.contents (Err fault.Worn) Worn refl (rw c.in-Err-Worn.field-0-is at (c.in-Err-Worn.ensures.exact told limits));
        untouched = c.in-Err-Worn.ensures.refused (λ e. cc);
        held = c.in-Err-Worn.ensures.held;
        at_any_moment = c.in-Err-Worn.ensures.left;
        unsound = c.in-Err-Worn.ensures.unsound;
        flash_cause = tt;
        write_fault = tt;
        write_cause = tt;
        unprinted = refl;
        answers = tt;
        complete = λ _ _ fault. fault;
        blocks = λ i. record { blocks = c.in-Err-Worn.ensures.blocks i; block_len = c.in-Err-Worn.ensures.block_size i };
        flash_later = c.in-Err-Worn.ensures.faults;
        out_later = omega arith;
      };
    }

pub returns-in-Err-NoFit : goal.returns-in-Err-NoFit
returns-in-Err-NoFit g c =
    let flash = flash_seen g.F.Flash c.args.flash.now c.migrate.new.flash in
    record {
      does = record {
        done = tt;
        geometry = grind (arith, common_steps);
        foreign = λ told. tt;
        worn = λ told. tt;
        no_fit = λ told. c.in-Err-NoFit.ensures.no_fit told cc;
        decides = λ told limits. decides flash.blocks flash.contents (Err fault.NoFit) NoFit refl (rw c.in-Err-NoFit.field-0-is at (c.in-Err-NoFit.ensures.exact told limits));
        untouched = c.in-Err-NoFit.ensures.refused (λ e. cc);
        held = c.in-Err-NoFit.ensures.held;
        at_any_moment = c.in-Err-NoFit.ensures.left;
        unsound = c.in-Err-NoFit.ensures.unsound;
        flash_cause = tt;
        write_fault = tt;
        write_cause = tt;
        unprinted = refl;
        answers = tt;
        complete = λ _ _ fault. fault;
        blocks = λ i. record { blocks = c.in-Err-NoFit.ensures.blocks i; block_len = c.in-Err-NoFit.ensures.block_size i };
        flash_later = c.in-Err-NoFit.ensures.faults;
        out_later = omega arith;
      };
    }
