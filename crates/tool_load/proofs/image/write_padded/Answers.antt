use Rattle.std.proofs.Common.{◌+◌, ℕ, List, ◌++◌, length, take, drop, ap, ◌∙◌}
use Rattle.tool_load.proofs.GrowingLaws.{laid_written}
use Rattle.tool_load.proofs.image.write_padded.Goals as goal

pub returns-else-at-len-clause-bytes : goal.returns-else-at-len-clause-bytes
returns-else-at-len-clause-bytes c =
    let at = c.args.at in
    let bytes = c.args.bytes.now in
    c.write_at.ensures.bytes
    ∙ ap (λ (xs : List ℕ). take at xs ++ bytes ++ drop (at + length bytes) xs) c.fill_up.ensures.bytes
    ∙ laid_written c.args.buffer.now.items bytes at
