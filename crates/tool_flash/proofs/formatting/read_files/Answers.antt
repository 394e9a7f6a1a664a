use Rattle.std.proofs.lemmas.Result.{err_from_is_err_and}
use Rattle.tool_flash.proofs.FormatLemmas.{box_or_fails, file_absent, file_there, is_told}
use Rattle.tool_flash.proofs.formatting.read_files.Goals as goal

pub returns-in_err-file-clause-no_file : goal.returns-in_err-file-clause-no_file
returns-in_err-file-clause-no_file g c = λ box_file tells none.
    let held = g.H.Shelf.held c.args.shelf.now in
    let name = c.args.name.now.bytes in
    let p = err_from_is_err_and c.from_residual.result c.from_residual.ensures.1 in
    rw (p.1, p.2) (box_or_fails box_file name c.in_err-file.field-0.0 (c.in_err-file.ensures.told box_file (is_told held name none) tells))

pub returns-in_err-image-clause-no_file : goal.returns-in_err-image-clause-no_file
returns-in_err-image-clause-no_file g c = λ box_file tells none.
    let held = g.H.Shelf.held c.args.shelf.now in
    let p = err_from_is_err_and c.from_residual-in_err-image.result c.from_residual-in_err-image.ensures.1 in
    let absence = rw c.read_box.ensures.unchanged at c.in_err-image.ensures.absent in
    rw (p.1, p.2) (file_absent _ held c.args.name.now.bytes c.in_err-image.field-0.0 none absence c.in_err-image.ensures.absent_name)

pub returns-clause-no_file : goal.returns-clause-no_file
returns-clause-no_file g c = λ box_file tells none.
    let held = g.H.Shelf.held c.args.shelf.now in
    let absence = rw c.read_box.ensures.unchanged at c.in_ok-image.ensures.absent in
    absurd (file_there held c.args.name.now.bytes c.in_ok-image.image absence none)
