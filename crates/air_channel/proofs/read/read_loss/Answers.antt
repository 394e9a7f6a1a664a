use Rattle.std.proofs.Common.{◌≡◌, ◌∙◌, Ok, ap, sym}
use Rattle.toml_fields.specs.Place.{place}
use Rattle.air_channel.proofs.Fields.{loss_read}
use Rattle.air_channel.proofs.read.read_loss.Goals as goal

pub returns-clause-value : goal.returns-clause-value
returns-clause-value c =
    ap Ok c.loss_of.ensures
    ∙ sym (loss_read (place c.args.fields.now) c.in_ok-every.every c.in_ok-every-2.every c.in_ok-until.until c.in_ok-until-2.until
    (sym c.in_ok-every.ensures.value)
    (rw (← c.has-has_until.ensures) (sym c.in_ok-every-2.ensures))
    (sym c.in_ok-until.ensures.value)
    (rw (← c.has-has_every.ensures) (sym c.in_ok-until-2.ensures)))
