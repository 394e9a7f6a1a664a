use Rattle.std.proofs.Common.{◌≡◌, ◌∙◌, Err, Ok, Result, ap, refl, subst, sym}
use Rattle.std.proofs.lemmas.Result.{err_from_is_err_and}
use Rattle.std.specs.Prelude.{map}
use Rattle.flash_bank.specs.Seen.{flash_seen}
use Rattle.flash_bank.specs.declared.fault.BootFault.{BootFault}
use Rattle.broadcast.specs.Broadcasts.{Broadcasts}
use Rattle.broadcast.specs.Packets.{Broadcast}
use Rattle.broadcast.specs.declared.fault.ChainFault.{ChainFault}
use Rattle.broadcast.specs.declared.outcome.Outcome.{Outcome}
use Rattle.broadcast.proofs.AiredLaws.{long_sent}
use Rattle.broadcast.proofs.CameLaws.{IsOnAir}
use Rattle.broadcast.proofs.ChainLaws.{BootSays, boot_failed, concludes, load_failed, making_fault, not_begun, replayed}
use Rattle.broadcast.proofs.chain.broadcast_then_boot.Goals as goal

pub returns-in_err-bytes : goal.returns-in_err-bytes
returns-in_err-bytes g c =
    let f = g.F.Flash in
    let old = c.args.flash.now in
    let b : Broadcast = record { plan = c.args.plan.now; images = map (λ i. i.items) c.args.images.now; script = c.args.script.now } in
    let fault = c.in_err-bytes.field-0.0 in
    let p = err_from_is_err_and c.from_residual.result c.from_residual.ensures.1 in
    let is : c.from_residual.result ≡ Err fault = p.1 ∙ ap (λ (e : ChainFault). Err e) p.2 in
    let only_now = g.met.F.Flash.only_now old in
    record {
      broadcasts = subst (λ (r : Result Outcome ChainFault). Broadcasts b c.args.me.now r (flash_seen f old old)) (sym is)
          (not_begun f b c.args.me.now old (Err fault) only_now tt (making_fault f b c.args.me.now old fault only_now c.in_err-bytes.ensures.err));
    }

pub returns-in-Err : goal.returns-in-Err
returns-in-Err g c =
    let f = g.F.Flash in
    let old = c.args.flash.now in
    let new = c.replay.new.flash in
    let b : Broadcast = record { plan = c.args.plan.now; images = map (λ i. i.items) c.args.images.now; script = c.args.script.now } in
    let air : IsOnAir b = record {
      sent = record {
        oui = c.read_ranges.ensures.oui;
        few_groups = c.read_ranges.ensures.few;
        groups = c.read_ranges.ensures.groups;
        buildable = c.in_ok-bytes.ensures.buildable;
      };
      long = long_sent b c.in_ok-bytes.ensures.long;
    } in
    let bytes = c.new-air.ensures ∙ c.in_ok-bytes.ensures.ok in
    record {
      broadcasts = subst (λ (fault : ChainFault). Broadcasts b c.args.me.now (Err fault) (flash_seen f old new)) (sym c.load_fault.ensures)
          (load_failed f b c.args.me.now old new c.new-air.result c.replay.new.air c.in-Err.fault air c.in_ok-bytes.ensures.few bytes c.in-Err.ensures.replays);
    }

pub returns-in-Ok-booted : goal.returns-in-Ok-booted
returns-in-Ok-booted g c =
    let f = g.F.Flash in
    let old = c.args.flash.now in
    let mid = c.replay.new.flash in
    let new = c.booted.new.flash in
    let rest = c.replay.new.air in
    let verdict = c.in-Ok.verdict in
    let b : Broadcast = record { plan = c.args.plan.now; images = map (λ i. i.items) c.args.images.now; script = c.args.script.now } in
    let air : IsOnAir b = record {
      sent = record {
        oui = c.read_ranges.ensures.oui;
        few_groups = c.read_ranges.ensures.few;
        groups = c.read_ranges.ensures.groups;
        buildable = c.in_ok-bytes.ensures.buildable;
      };
      long = long_sent b c.in_ok-bytes.ensures.long;
    } in
    let bytes = c.new-air.ensures ∙ c.in_ok-bytes.ensures.ok in
    let r = replayed f b c.args.me.now old mid c.new-air.result rest (Ok verdict) bytes c.in-Ok.ensures.replays in
    record {
      broadcasts = concludes f b c.args.me.now old mid new rest verdict air c.in_ok-bytes.ensures.few r c.booted.ensures.reads
          (record { verdict = verdict; booted = c.in-Ok-booted.booted; image = c.in-Ok-booted.image }) refl c.booted.ensures.faults c.in-Ok-booted.ensures.whole;
    }

pub returns : goal.returns
returns g c =
    let f = g.F.Flash in
    let old = c.args.flash.now in
    let mid = c.replay.new.flash in
    let new = c.booted.new.flash in
    let rest = c.replay.new.air in
    let verdict = c.in-Ok.verdict in
    let b : Broadcast = record { plan = c.args.plan.now; images = map (λ i. i.items) c.args.images.now; script = c.args.script.now } in
    let air : IsOnAir b = record {
      sent = record {
        oui = c.read_ranges.ensures.oui;
        few_groups = c.read_ranges.ensures.few;
        groups = c.read_ranges.ensures.groups;
        buildable = c.in_ok-bytes.ensures.buildable;
      };
      long = long_sent b c.in_ok-bytes.ensures.long;
    } in
    let bytes = c.new-air.ensures ∙ c.in_ok-bytes.ensures.ok in
    let r = replayed f b c.args.me.now old mid c.new-air.result rest (Ok verdict) bytes c.in-Ok.ensures.replays in
    let e = c.in-Err-booted.ensures in
    let says : BootSays f mid new c.in-Err-booted.fault = record {
      geometry = λ is. e.geometry.0 (ap (λ (x : BootFault). Err x) is);
      foreign = λ tells is. e.foreign tells (ap (λ (x : BootFault). Err x) is);
      flash = λ is. e.fault (ap (λ (x : BootFault). Err x) is);
    } in
    record {
      broadcasts = subst (λ (fault : ChainFault). Broadcasts b c.args.me.now (Err fault) (flash_seen f old new)) (sym c.boot_fault.ensures)
          (boot_failed f b c.args.me.now old mid new rest verdict air c.in_ok-bytes.ensures.few r c.booted.ensures.reads c.in-Err-booted.fault says c.booted.ensures.faults);
    }
