use Rattle.std.proofs.Common.{length, ap, ◌∙◌, arith, length-append, ℕ}
use Rattle.ssu_unt.specs.Written.{Draft, body_bytes}
use Rattle.head_carousel.proofs.ControlLaws.{one_entry}
use Rattle.head_carousel.proofs.notices.add_platform.Goals as goal

pub begin_platform-requires-clause-short : goal.begin_platform-requires-clause-short
begin_platform-requires-clause-short c =
    let compat = ap length (c.deref.ensures.value ∙ c.in_ok-compat.ensures.made) ∙ one_entry _ in
    omega (arith, compat)

pub add_pair-requires-clause-room : goal.add_pair-requires-clause-room
add_pair-requires-clause-room c =
    let compat = ap length (c.deref.ensures.value ∙ c.in_ok-compat.ensures.made) ∙ one_entry _ in
    omega (arith, ap (λ (w : Draft). length (body_bytes w)) c.in_ok-begin_platform.ensures, length-append {A = ℕ}, compat, c.requires)
