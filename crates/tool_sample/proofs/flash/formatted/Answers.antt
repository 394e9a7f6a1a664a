use Rattle.std.proofs.Common.{Err, ap, arith, refl}
use Rattle.flash_bank.specs.declared.fault.FormatFault.{FormatFault}
use Rattle.tool_sample.proofs.FlashLaws.{formatted_is, in_limits, room}
use Rattle.tool_sample.proofs.flash.formatted.Goals as goal

pub unreachable-requires : goal.unreachable-requires
unreachable-requires c =
    c.in-Err-Geometry.ensures.geometry.0 (ap (λ (f : FormatFault). Err f) c.in-Err-Geometry.field-0-is)
    (in_limits c.in_ok-flash.flash c.in_ok-flash.ensures)

pub unreachable-requires-in-Err-NoFit : goal.unreachable-requires-in-Err-NoFit
unreachable-requires-in-Err-NoFit c =
    let long = c.in-Err-NoFit.ensures.no_fit.0 (ap (λ (f : FormatFault). Err f) c.in-Err-NoFit.field-0-is) in
    omega (arith, long.1, room c.in_ok-flash.flash c.in_ok-flash.ensures)

pub unreachable-requires-in-Err-Flash : goal.unreachable-requires-in-Err-Flash
unreachable-requires-in-Err-Flash c =
    omega (arith, c.in-Err-Flash.ensures.fault (ap (λ (f : FormatFault). Err f) c.in-Err-Flash.field-0-is))

pub returns : goal.returns
returns c =
    let done = c.in-Ok.ensures in
    formatted_is c.in_ok-flash.flash c.format.new.flash c.in-Ok.field-0 _ c.in_ok-flash.ensures done.blocks done.block_size done.head refl
    (done.formatted tt)
