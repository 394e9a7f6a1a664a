-- When bytes are a document.
use Rattle.std.proofs.Common.{◌≡◌, ℕ, List, None, inl, inr}
use Rattle.std.specs.Str.{IsUtf8, is_utf8}
use Rattle.std.proofs.lemmas.Bool.{cases_Bool}
use Rattle.std.proofs.lemmas.Str.{IsUtf8-from_is_utf8, is_utf8-from_IsUtf8}
use Rattle.toml.specs.Parse.{parse_document}
use Rattle.toml_fields.specs.Reading.{document_of}

pub document_of-utf8 : (bytes text : List ℕ) → text ≡ bytes → IsUtf8 bytes → document_of bytes ≡ parse_document text
document_of-utf8 bytes text same utf8 = rw (is_utf8-from_IsUtf8 bytes utf8, same)

pub document_of-other : (bytes : List ℕ) → (IsUtf8 bytes → ⊥) → document_of bytes ≡ None
document_of-other bytes other =
    elim (cases_Bool (is_utf8 bytes)) [
      | inl valid ↦ absurd (other (IsUtf8-from_is_utf8 bytes valid))
      | inr refused ↦ rw refused
    ]
