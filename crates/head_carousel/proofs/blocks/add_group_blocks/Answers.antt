use Rattle.std.proofs.Common.{ℕ, ◌+◌, ◌≤◌, List, length, take, sym, ap, ◌∙◌, arith}
use Rattle.std.specs.Prelude.{map}
use Rattle.std.specs.List.{flat_map}
use Rattle.std.proofs.lemmas.List.{length-map, map-append, take_all}
use Rattle.head_carousel.specs.Blocks.{group_blocks, module_blocks}
use Rattle.head_carousel.specs.GroupFiles.{GroupFiles, numbered}
use Rattle.head_carousel.specs.Signals.{timed}
use Rattle.head_carousel.proofs.BlockLaws.{file_short}
use Rattle.head_carousel.proofs.ListLaws.{files_more, flat_push, grown_to, no_more}
use Rattle.head_carousel.proofs.blocks.add_group_blocks.Goals as goal

pub loop-index-init : goal.loop-index-init
unfolding numbered
loop-index-init c = record { added = sym (no_more c.args.list.now.items); ready = λ all. all }

pub add_module_blocks-requires-clause-short : goal.add_module_blocks-requires-clause-short
add_module_blocks-requires-clause-short c =
    let short = file_short (λ f. f.items) c.args.group.now c.group.inside.files.now c.loop-index.index c.file-item.result (ap (λ (g : GroupFiles). g.files) c.group.view_is) c.loop-index-test.true c.file-item.is c.requires.short in
    rw (← c.deref.ensures.value) at short

pub loop-index-preserved : goal.loop-index-preserved
loop-index-preserved c =
    let g = c.args.group.now in
    let i = c.loop-index.index in
    let t = timed c.args.rhythm.now.pid c.args.rhythm.now.period in
    let files = ap (λ (x : GroupFiles). x.files) c.group.view_is in
    let one = files_more (λ f. f.items) 1 c.group.inside.files.now g.files i c.file-item.result files c.loop-index-test.true c.file-item.is in
    let next = rw (← c.deref.ensures.value) at one in
    let more = ap (λ (u : List (ℕ × List ℕ)). map t (flat_map (module_blocks g) u)) next
    ∙ ap (map t) (flat_push (module_blocks g) (numbered 1 (take i g.files)) (1 + i, c.deref.result.now))
    ∙ map-append t (flat_map (module_blocks g) (numbered 1 (take i g.files))) (module_blocks g (1 + i, c.deref.result.now)) in
    record {
      added = grown_to _ _ _ _ _ _ c.loop-index.invariant.added c.in_ok-add_module_blocks.ensures.added more;
      ready = λ all. c.in_ok-add_module_blocks.ensures.ready (c.loop-index.invariant.ready all);
    }

pub returns-clause-added : goal.returns-clause-added
unfolding group_blocks
returns-clause-added c =
    let g = c.args.group.now in
    let t = timed c.args.rhythm.now.pid c.args.rhythm.now.period in
    let files = ap (λ (x : GroupFiles). x.files) c.group.view_is in
    let high : length g.files ≤ c.loop-index.index = omega (arith, ap length files, length-map c.group.inside.files.now (λ f. f.items), c.loop-index-test.false) in
    let all = take_all c.loop-index.index g.files high in
    rw all at c.loop-index.invariant.added
