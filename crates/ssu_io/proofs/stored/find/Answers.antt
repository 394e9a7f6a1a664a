-- The file that is looked at is found where it has the name.
use Rattle.std.proofs.Common.{rules, option_map}
use Rattle.ssu_io.proofs.FilesLemmas.{bytes_of_found, bytes_of_passed}
use Rattle.ssu_io.proofs.stored.find.Goals as goal
use Rattle.ssu_io.proofs.stored.find.Goals.{then-eq, else-eq}

pub loop-file-preserved : goal.loop-file-preserved
loop-file-preserved c =
    elim c.if-eq.branch [
      | then-eq w ↦ bytes_of_found c.args.files.now c.loop-file.file-index c.file-item.result c.args.name.now (option_map (λ bytes. bytes.now) c.if-eq.found) (search rules) (search rules) (search rules) (search rules)
      | else-eq w ↦ bytes_of_passed c.args.files.now c.loop-file.file-index c.file-item.result c.args.name.now (option_map (λ bytes. bytes.now) c.if-eq.found) (search rules) (search rules) (search rules) (search rules)
    ]
