use Rattle.std.proofs.Common.{ℕ, ◌+◌, ◌*◌, List, ◌++◌, length, ap, ◌∙◌}
use Rattle.wire.specs.Number.{bytes_of}
use Rattle.section_form.specs.Written.{long_text}
use Rattle.section_form.proofs.writing.put_text.Goals as goal

pub returns : goal.returns
unfolding long_text
returns c =
    let head = c.args.head.now in
    let len = 9 + length head.body.now in
    let put = λ (k n : ℕ) (xs : List ℕ). xs ++ bytes_of k n in
    c.in_ok-extend_from_slice.ensures.items
    ∙ ap (λ xs. xs ++ head.body.now)
    (c.in_ok-put_u8-4.ensures.put
    ∙ ap (put 1 head.last) (c.in_ok-put_u8-3.ensures.put
    ∙ ap (put 1 head.number) (c.in_ok-put_u8-2.ensures.put
    ∙ ap (put 1 (0xC1 + 2 * head.version)) (c.in_ok-put_u16-2.ensures.put
    ∙ ap (put 2 head.extension) (c.in_ok-put_u16.ensures.put
    ∙ ap (λ n. put 2 (n + len) c.put_u8.new.out.items) c.bits_of_head-bits.ensures.value
    ∙ ap (put 2 _) (c.in_ok-put_u8.ensures.put
    ∙ ap (put 1 head.table) c.requires.empty))))))
