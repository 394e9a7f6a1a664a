use Rattle.std.proofs.Common.{◌∙◌, [], ◌∷◌, length, take, ap, arith}
use Rattle.std.specs.Prelude.{map}
use Rattle.std.proofs.lemmas.List.{length_push, map-append}
use Rattle.std.proofs.lemmas.Result.{err_from_is_err_and}
use Rattle.head_plan.specs.Plans.{mentions}
use Rattle.std.proofs.lemmas.Grind.{common_steps}
use Rattle.tool_build.specs.Held.{HasEach}
use Rattle.tool_build.proofs.MissingLaws.{all_there, each_more, first_missing, missing_told, take_named}
use Rattle.tool_build.proofs.images.read_images.Goals as goal

pub returns-in_err-image-clause-absent : goal.returns-in_err-image-clause-absent
returns-in_err-image-clause-absent g c =
    let held = g.H.Shelf.held c.args.shelf.now in
    let p = err_from_is_err_and c.from_residual.result c.from_residual.ensures.1 in
    let tells = rw c.loop-k.invariant.same at c.in_err-image.ensures.absent in
    let missing = first_missing _ held (mentions c.args.plan.now.group) _ c.loop-k.k c.file.result.bytes c.in_err-image.field-0.0 c.file.ensures c.loop-k.invariant.each tells c.in_err-image.ensures.absent_name in
    rw (p.1, p.2) missing

pub returns-in_err-image-clause-missing : goal.returns-in_err-image-clause-missing
returns-in_err-image-clause-missing g c = λ name told first.
    let held = g.H.Shelf.held c.args.shelf.now in
    let p = err_from_is_err_and c.from_residual.result c.from_residual.ensures.1 in
    let tells = rw c.loop-k.invariant.same at c.in_err-image.ensures.absent in
    rw (p.1, p.2) (missing_told _ held (mentions c.args.plan.now.group) _ c.loop-k.k c.file.result.bytes name c.in_err-image.field-0.0 c.file.ensures
    c.loop-k.invariant.each c.in_err-image.ensures.refusals tells c.in_err-image.ensures.absent_name told first)

pub returns-clause-missing : goal.returns-clause-missing
returns-clause-missing g c = λ name told first.
    let held = g.H.Shelf.held c.args.shelf.now in
    let names = mentions c.args.plan.now.group in
    let images = map (λ i. i.items) c.loop-k.images.items in
    let each : HasEach held names images = grind (arith, common_steps) in
    absurd (all_there held names images name each told first)

pub loop-k-preserved : goal.loop-k-preserved
loop-k-preserved g c =
    let held = g.H.Shelf.held c.args.shelf.now in
    let names = mentions c.args.plan.now.group in
    let has = rw c.loop-k.invariant.same at c.in_ok-image.ensures.found in
    let taken = take_named names c.loop-k.k c.file.result.bytes c.file.ensures in
    let pushed = c.in_ok-push.ensures.pushed in
    let files = map-append (λ i. i.items) c.loop-k.images.items (c.in_ok-image.image ∷ []) in
    let one = length_push c.loop-k.images.items c.in_ok-image.image in
    record {
      each = rw (taken, pushed, files) (each_more held (take c.loop-k.k names) (map (λ i. i.items) c.loop-k.images.items) c.file.result.bytes c.in_ok-image.image.items c.loop-k.invariant.each has);
      count = omega (arith, ap length pushed, one, c.loop-k.invariant.count);
      same = c.fetch.ensures.unchanged ∙ c.loop-k.invariant.same;
      faults = omega (arith, c.loop-k.invariant.faults, c.fetch.ensures.faults);
      absences = omega (arith, c.loop-k.invariant.absences, c.fetch.ensures.absences);
    }
