use Rattle.std.proofs.Common.{◌≡◌, ℕ, ◌-◌, length, ap, ◌∙◌, arith}
use Rattle.std.specs.Prelude.{map}
use Rattle.std.specs.Int.{div_ceil}
use Rattle.std.specs.List.{range_with_len}
use Rattle.std.proofs.lemmas.List.FromFn.{map-range_with_len_more}
use Rattle.dsmcc_msg.specs.Written.{ddb_bytes}
use Rattle.head_plan.specs.Plans.{GroupData}
use Rattle.head_carousel.specs.Blocks.{block_count, ddb_fields, module_blocks}
use Rattle.head_carousel.specs.GroupFiles.{GroupFiles}
use Rattle.head_carousel.specs.Signals.{timed}
use Rattle.head_carousel.proofs.ListLaws.{grown_to, map_push}
use Rattle.head_carousel.proofs.blocks.add_module_blocks.Goals as goal

pub loop-k-preserved : goal.loop-k-preserved
loop-k-preserved c =
    let g = c.args.group.now in
    let size : c.plan.inside.block_size ≡ g.group.block_size = ap (λ (x : GroupData). x.block_size) c.plan.view_is ∙ ap (λ (x : GroupFiles). x.group.block_size) c.group.view_is in
    let count : c.div_ceil-count.result ≡ block_count g.group.block_size c.args.file.now = c.div_ceil-count.ensures ∙ ap (λ (n : ℕ). div_ceil (length c.args.file.now) n) size in
    let f = λ (k : ℕ). ddb_bytes (ddb_fields g (c.args.id, c.args.file.now) k) (block_count g.group.block_size c.args.file.now - 1) in
    let t = timed c.args.rhythm.now.pid c.args.rhythm.now.period in
    let more = ap (map t) (map-range_with_len_more f 0 c.loop-k.k c.loop-k.k (omega arith)) ∙ map_push t (map f (range_with_len 0 c.loop-k.k)) (f c.loop-k.k) in
    let made = rw count at c.in_ok-section.ensures.made in
    let added = c.in_ok-add.ensures.added in
    record {
      added = grown_to _ _ _ _ _ _ c.loop-k.invariant.added (rw made at added) more;
      ready = λ all. c.in_ok-add.ensures.ready (c.loop-k.invariant.ready all);
    }

pub returns-clause-added : goal.returns-clause-added
unfolding module_blocks
returns-clause-added c =
    let g = c.args.group.now in
    let size : c.plan.inside.block_size ≡ g.group.block_size = ap (λ (x : GroupData). x.block_size) c.plan.view_is ∙ ap (λ (x : GroupFiles). x.group.block_size) c.group.view_is in
    let count : c.div_ceil-count.result ≡ block_count g.group.block_size c.args.file.now = c.div_ceil-count.ensures ∙ ap (λ (n : ℕ). div_ceil (length c.args.file.now) n) size in
    let end : c.loop-k.k ≡ c.div_ceil-count.result = omega arith in
    rw (end ∙ count) at c.loop-k.invariant.added
