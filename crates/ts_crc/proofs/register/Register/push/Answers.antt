use Rattle.std.proofs.Common.{sym, ap, ◌∙◌}
use Rattle.ts_crc.specs.Crc.{after_bytes}
use Rattle.ts_crc.proofs.CrcLaws.{crc_join}
use Rattle.ts_crc.proofs.register.Register.push.Goals as goal

pub returns-clause-join : goal.returns-clause-join
returns-clause-join c before was =
    c.pushed-self-inside.ensures
    ∙ ap (λ r. after_bytes r c.args.bytes.now) (c.self.view_is ∙ was)
    ∙ sym (crc_join before c.args.bytes.now)
