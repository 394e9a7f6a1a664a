use Rattle.std.proofs.Common.{arith, ◌++◌, ap, ap₂, sym, subst, ◌∙◌}
use Rattle.ts_crc.specs.Crc.{crc_of}
use Rattle.wire.specs.Number.{bytes_of}
use Rattle.section_form.specs.Long.{long_form, fields}
use Rattle.section_form.specs.Section.{IsRightSection}
use Rattle.section_form.specs.Written.{long_bytes}
use Rattle.section_form.proofs.LongLaws.{Fits, long_again, long_right}
use Rattle.section_form.proofs.writing.long_section.Goals as goal

pub returns-clause-bytes : goal.returns-clause-bytes
unfolding long_bytes
returns-clause-bytes c =
    c.in_ok-put_u32.ensures.put
    ∙ ap₂ (λ xs n. xs ++ bytes_of 4 n) c.in_ok-put_text.ensures
    (c.crc-crc.ensures.value ∙ ap crc_of (c.deref.ensures.value ∙ c.in_ok-put_text.ensures))

fits_here : (c : goal.In_ok-put_u32) → Fits (fields c.args.head)
fits_here c = record {
  table = omega arith;
  extension = omega arith;
  version = c.requires.version;
  number = omega arith;
  last = omega arith;
  body = c.requires.body;
}

pub returns-clause-read_back : goal.returns-clause-read_back
returns-clause-read_back c =
    let fits = fits_here c in
    ap long_form.of (returns-clause-bytes c) ∙ long_again c.args.second_bit (fields c.args.head) fits

pub returns-clause-right : goal.returns-clause-right
returns-clause-right c other =
    subst IsRightSection (sym (returns-clause-bytes c)) (long_right c.args.second_bit (fields c.args.head) (fits_here c) other)
