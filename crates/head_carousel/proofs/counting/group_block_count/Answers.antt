use Rattle.std.proofs.Common.{◌≡◌, ℕ, ◌<◌, ◌≤◌, List, length, drop, sym, ap, ◌∙◌, arith}
use Rattle.std.specs.Prelude.{option_map}
use Rattle.std.specs.Int.{div_ceil}
use Rattle.std.specs.List.{find, sum_by}
use Rattle.std.proofs.lemmas.List.{drop_all, length-map, take_all}
use Rattle.head_plan.specs.Plans.{GroupData}
use Rattle.head_carousel.specs.Blocks.{block_count}
use Rattle.head_carousel.specs.GroupFiles.{GroupFiles}
use Rattle.head_carousel.specs.Refusal.{is_too_long, mentions_in, name_of}
use Rattle.head_carousel.proofs.BlockLaws.{group_length}
use Rattle.head_carousel.proofs.ListLaws.{get_mapped, sum_more}
use Rattle.head_carousel.proofs.RefusalLaws.{first_here, first_more, mentions_none}
use Rattle.head_carousel.proofs.counting.group_block_count.Goals as goal

pub returns-then-blocks-gt-MOST_BLOCKS-clause-long : goal.returns-then-blocks-gt-MOST_BLOCKS-clause-long
returns-then-blocks-gt-MOST_BLOCKS-clause-long c =
    let g = c.args.group.now in
    let files = ap (λ (x : GroupFiles). x.files) c.group.view_is in
    let size : c.plan.inside.block_size ≡ g.group.block_size = ap (λ (x : GroupData). x.block_size) c.plan.view_is ∙ ap (λ (x : GroupFiles). x.group.block_size) c.group.view_is in
    let many = length-map c.group.inside.files.now (λ f. f.items) in
    let all : length g.files ≡ length c.group.inside.files.now = sym (ap length files) ∙ many in
    let same : length g.group.modules ≡ length g.files = omega (arith, all, c.group.invariant.0, ap (λ (x : GroupFiles). length x.group.modules) c.group.view_is) in
    let low : c.loop-index.index < length g.files = omega (arith, all, c.loop-index-test.true) in
    let raw = get_mapped (λ f. f.items) c.group.inside.files.now c.loop-index.index c.file-item.result c.loop-index-test.true c.file-item.is in
    let is = rw files at raw in
    let count : c.div_ceil-blocks.result ≡ block_count g.group.block_size c.file-item.result.items =
    c.div_ceil-blocks.ensures ∙ ap (λ (u : List ℕ). div_ceil (length u) c.plan.inside.block_size) c.as_slice.ensures.value ∙ ap (div_ceil (length c.file-item.result.items)) size in
    let names = ap (λ (x : GroupData). x.modules) c.plan.view_is ∙ ap (λ (x : GroupFiles). x.group.modules) c.group.view_is in
    let long : 65536 < block_count g.group.block_size c.file-item.result.items = omega (arith, count, c.if-blocks-gt-MOST_BLOCKS.true) in
    let named = rw names at c.name.ensures in
    ap (option_map name_of) c.loop-index.invariant.first ∙ first_here g.group.block_size g.group.modules g.files c.loop-index.index c.file-item.result.items c.name.result.bytes low same is long named

pub loop-index-preserved : goal.loop-index-preserved
loop-index-preserved c =
    let g = c.args.group.now in
    let files = ap (λ (x : GroupFiles). x.files) c.group.view_is in
    let size : c.plan.inside.block_size ≡ g.group.block_size = ap (λ (x : GroupData). x.block_size) c.plan.view_is ∙ ap (λ (x : GroupFiles). x.group.block_size) c.group.view_is in
    let many = length-map c.group.inside.files.now (λ f. f.items) in
    let all : length g.files ≡ length c.group.inside.files.now = sym (ap length files) ∙ many in
    let same : length g.group.modules ≡ length g.files = omega (arith, all, c.group.invariant.0, ap (λ (x : GroupFiles). length x.group.modules) c.group.view_is) in
    let low : c.loop-index.index < length g.files = omega (arith, all, c.loop-index-test.true) in
    let raw = get_mapped (λ f. f.items) c.group.inside.files.now c.loop-index.index c.file-item.result c.loop-index-test.true c.file-item.is in
    let is = rw files at raw in
    let count : c.div_ceil-blocks.result ≡ block_count g.group.block_size c.file-item.result.items =
    c.div_ceil-blocks.ensures ∙ ap (λ (u : List ℕ). div_ceil (length u) c.plan.inside.block_size) c.as_slice.ensures.value ∙ ap (div_ceil (length c.file-item.result.items)) size in
    let few : block_count g.group.block_size c.file-item.result.items ≤ 65536 = omega (arith, count, c.if-blocks-gt-MOST_BLOCKS.false) in
    let more = sum_more (block_count g.group.block_size) g.files c.loop-index.index c.file-item.result.items low is in
    record {
      first = c.loop-index.invariant.first ∙ first_more g.group.block_size g.group.modules g.files c.loop-index.index c.file-item.result.items low same is few;
      count = omega (arith, c.loop-index.invariant.count, more, count);
      room = omega (arith, c.loop-index.invariant.room, c.if-blocks-gt-MOST_BLOCKS.false);
    }

pub returns-clause-all : goal.returns-clause-all
returns-clause-all c =
    let g = c.args.group.now in
    let files = ap (λ (x : GroupFiles). x.files) c.group.view_is in
    let size : c.plan.inside.block_size ≡ g.group.block_size = ap (λ (x : GroupData). x.block_size) c.plan.view_is ∙ ap (λ (x : GroupFiles). x.group.block_size) c.group.view_is in
    let many = length-map c.group.inside.files.now (λ f. f.items) in
    let all : length g.files ≡ length c.group.inside.files.now = sym (ap length files) ∙ many in
    let high : length g.files ≤ c.loop-index.index = omega (arith, all, c.loop-index-test.false) in
    c.loop-index.invariant.count ∙ ap (sum_by (block_count g.group.block_size)) (take_all c.loop-index.index g.files high) ∙ sym (group_length g)

pub returns-clause-short : goal.returns-clause-short
returns-clause-short c =
    let g = c.args.group.now in
    let files = ap (λ (x : GroupFiles). x.files) c.group.view_is in
    let size : c.plan.inside.block_size ≡ g.group.block_size = ap (λ (x : GroupData). x.block_size) c.plan.view_is ∙ ap (λ (x : GroupFiles). x.group.block_size) c.group.view_is in
    let many = length-map c.group.inside.files.now (λ f. f.items) in
    let all : length g.files ≡ length c.group.inside.files.now = sym (ap length files) ∙ many in
    let high : length g.files ≤ c.loop-index.index = omega (arith, all, c.loop-index-test.false) in
    let end = drop_all c.loop-index.index g.files high in
    let none = ap (λ (u : List (List ℕ)). find is_too_long (mentions_in g.group.block_size (drop c.loop-index.index g.group.modules) u)) end
    ∙ ap (find is_too_long) (mentions_none g.group.block_size (drop c.loop-index.index g.group.modules)) in
    c.loop-index.invariant.first ∙ none
