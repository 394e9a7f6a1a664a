use Rattle.std.proofs.Common.{◌≡◌, ℕ, ◌<◌, true, ltb, refl, subst}
use Rattle.std.specs.List.{find}
use Rattle.std.specs.Option.{option_map}
use Rattle.std.specs.Int.{div_ceil}
use Rattle.std.proofs.lemmas.Bool.{lt-ltb}
use Rattle.wire.specs.Items.{items_of}
use Rattle.dsmcc_msg.specs.Control.{module_entry}
use Rattle.ssu_group.specs.Refusal.{first_too_many, has_too_many, id_of}
use Rattle.ssu_group.proofs.module_passes.first_too_many.Goals as goal

pub returns-then-div_ceil-gt65536 : goal.returns-then-div_ceil-gt65536
unfolding first_too_many
returns-then-div_ceil-gt65536 c =
    let same : option_map id_of (find (has_too_many c.args.block_size) (items_of module_entry c.loop-module.module-iterator)) ≡ option_map id_of (find (has_too_many c.args.block_size) c.args.dii.now.modules) = c.loop-module.invariant in
    let count : c.div_ceil.result ≡ div_ceil c.in-Some.module.size c.args.block_size = cc in
    let is : ltb 65536 (div_ceil c.in-Some.module.size c.args.block_size) ≡ true = lt-ltb _ _ (subst (λ (n : ℕ). 65536 < n) count c.if-div_ceil-gt65536.true) in
    rw (← same, c.in-Some.ensures.steps, is) refl
