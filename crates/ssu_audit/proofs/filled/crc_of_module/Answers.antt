use Rattle.std.proofs.Common.{◌≡◌, ℕ, ◌+◌, ◌++◌, List, [], Option, sym, ap, ◌∙◌}
use Rattle.std.specs.Prelude.{unwrap_or}
use Rattle.std.specs.Option.{option_map}
use Rattle.std.proofs.lemmas.List.{append-nil}
use Rattle.ts_crc.specs.Crc.{crc_of}
use Rattle.ssu_group.specs.Carried.{joined}
use Rattle.ssu_audit.specs.Filled.{text_at}
use Rattle.ssu_audit.specs.Kept.{block_at}
use Rattle.ssu_audit.proofs.Missing.{joined-step, joined-zero}
use Rattle.ssu_audit.proofs.filled.crc_of_module.Goals as goal
use Rattle.ssu_audit.proofs.filled.crc_of_module.Goals.{in-Some, in_default}

pub loop-block-init : goal.loop-block-init
loop-block-init c = c.new-register.ensures ∙ ap crc_of (sym (joined-zero (λ k. unwrap_or (text_at (block_at c.args.blocks.now) c.args.plan.now c.args.module.now k) [])))

pub loop-block-preserved : goal.loop-block-preserved
loop-block-preserved c =
    let kept = block_at c.args.blocks.now in
    let plan = c.args.plan.now in
    let m = c.args.module.now in
    let k = c.loop-block.block in
    let f : ℕ → List ℕ = λ k. unwrap_or (text_at kept plan m k) [] in
    elim c.match-text.branch as (λ _. c.match-text.register ≡ crc_of (joined f (k + 1))) [
      | in-Some w ↦
          let own : f k ≡ w.in-Some.bytes.now = ap (λ (o : Option (List ℕ)). unwrap_or o []) (sym c.text.ensures ∙ ap (option_map _) w.in-Some.is) in
          w.register-is
          ∙ w.push.ensures.join (joined f k) c.loop-block.invariant
          ∙ ap (λ (xs : List ℕ). crc_of (joined f k ++ xs)) (sym own)
          ∙ ap crc_of (sym (joined-step f k))
      | in_default w ↦
          let own : f k ≡ [] = ap (λ (o : Option (List ℕ)). unwrap_or o []) (sym c.text.ensures ∙ ap (option_map _) w.in_default.is) in
          w.register-is
          ∙ c.loop-block.invariant
          ∙ ap crc_of (sym (append-nil (joined f k)))
          ∙ ap (λ (xs : List ℕ). crc_of (joined f k ++ xs)) (sym own)
          ∙ ap crc_of (sym (joined-step f k))
    ]
