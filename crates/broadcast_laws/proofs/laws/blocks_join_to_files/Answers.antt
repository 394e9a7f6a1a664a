use Rattle.broadcast_laws.proofs.FileLaws.{joins_files}
use Rattle.broadcast_laws.proofs.laws.blocks_join_to_files.Goals as goal

pub returns : goal.returns
returns c = joins_files
