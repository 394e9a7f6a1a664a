-- The message of a DII has bytes, and fits a section.
use Rattle.std.proofs.Common.{◌≡◌, ◌≤◌, Bool, true, false, List, [], ◌∷◌, ℕ, length, Some, None, refl, sym, ◌∙◌, arith}
use Rattle.std.proofs.lemmas.Bool.{leb-true}
use Rattle.dsmcc_msg.specs.Control.{DiiFields, dii_message, fits_a_section}
use Rattle.dsmcc_msg.specs.Message.{message}

-- no DII is spelled by no bytes
none_empty : dii_message.of [] ≡ None
unfolding dii_message message
none_empty = refl

pub message_some : (text : List ℕ) (dii : DiiFields) → dii_message.of text ≡ Some dii → 1 ≤ length text
message_some [] dii reads = let both : None ≡ Some dii = sym none_empty ∙ reads in absurd cc
message_some (b ∷ rest) dii reads = omega arith

-- and it fits a section
pub message_few : (text : List ℕ) (dii : DiiFields) → dii_message.of text ≡ Some dii → length text ≤ 4084
unfolding dii_message
message_few text dii reads = by_test (fits_a_section text) refl
  where
    by_test : (t : Bool) → fits_a_section text ≡ t → length text ≤ 4084
    by_test true is = leb-true (length text) 4084 is
    by_test false is = absurd (let no : dii_message.of text ≡ None = rw is refl in let both : None ≡ Some dii = sym no ∙ reads in cc)
