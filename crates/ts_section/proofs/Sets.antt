-- The lemmas on texts that several proofs use.
use Rattle.ts_section.proofs.Pieces.{right_of-none, right_of-nil}

pub ruleset texts = (right_of-none, right_of-nil)
