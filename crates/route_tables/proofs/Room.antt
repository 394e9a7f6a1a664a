-- A PMT has room for at most 201 streams: section_length is at most 1,021, and a stream takes five bytes or more.
use Rattle.std.proofs.Common.{◌≡◌, ℕ, ◌+◌, ◌*◌, ◌-◌, ◌≤◌, take, sym, List, [], ◌∷◌, ◌++◌, length, Option, Some, None, ap, ◌∙◌, arith}
use Rattle.std.specs.Prelude.{IfSome}
use Rattle.std.specs.List.{cons_option, filter_map}
use Rattle.std.proofs.lemmas.List.{length-append, length-take-le}
use Rattle.std.proofs.lemmas.Bool.Decides.{nat_tests}
use Rattle.wire.specs.Format.{SpellsEach}
use Rattle.wire.specs.Read.{Reads}
use Rattle.section_form.specs.Long.{LongFields, long_form, unchecked_form, long_head, behind_length, current_version}
use Rattle.si_desc.specs.Descriptors.{sized_row}
use Rattle.si_table.specs.declared.pmt.Pmt.{Pmt}
use Rattle.si_table.specs.Tables.{PmtFields, StreamFields, stream, pmt, pmt_body}
use Rattle.si_table.proofs.Exact.{pmt_exact}
use Rattle.si_table.specs.Views.{pmt_view}
use Rattle.route_tables.specs.Said.{tagged_stream}

in_two : (p front back : List ℕ) → p ≡ front ++ back → length p ≡ length front + length back
in_two p front back e = ap length e ∙ length-append front back

long_room : (head : LongFields) (section : List ℕ) → long_form.Spells head section → 12 + length head.body ≤ length section
unfolding long_form unchecked_form long_head behind_length current_version
long_room head section s =
    let x = s.1.0 in
    let is = s.1.1 in
    let all = s.1.2 in
    let sized = all.second in
    let a = sized.filled in
    let b = a.second in
    let c = b.second in
    let d = c.second in
    let l0 = in_two section all.front all.back all.parts in
    let l1 = in_two all.back sized.front sized.inside sized.parts in
    let l2 = in_two sized.inside a.front a.back a.parts in
    let l3 = in_two a.back b.front b.back b.parts in
    let l4 = in_two b.back c.front c.back c.parts in
    let l5 = in_two c.back d.front d.back d.parts in
    let n0 = all.first.0 in
    let n1 = sized.len.2.1.0 in
    let n2 = a.first.0 in
    let n3 = b.first.2.1.0 in
    let n4 = c.first.0 in
    let n5 = d.first.0 in
    let few : 4 ≤ length d.back = d.second.0 in
    let body : take (length d.back - 4) d.back ≡ head.body = d.second.1 ∙ ap (λ (h : LongFields). h.body) is in
    let size : length head.body ≡ length d.back - 4 = ap length (sym body) ∙ length-take-le (length d.back - 4) d.back (omega arith) in
    omega arith

streams_room : (xs : List StreamFields) (p : List ℕ) → SpellsEach stream.Spells xs p → 5 * length xs ≤ length p
unfolding stream sized_row
streams_room [] p s = omega arith
streams_room (x ∷ xs) p s =
    let rest = streams_room xs s.back s.second in
    let l0 = in_two p s.front s.back s.parts in
    let one = s.first.2 in
    let l1 = in_two s.front one.front one.back one.parts in
    let two = one.second in
    let l2 = in_two one.back two.front two.back two.parts in
    let three = two.second in
    let l3 = in_two two.back three.front three.inside three.parts in
    let n1 = one.first.0 in
    let n2 = two.first.2.0 in
    let n3 = three.len.2.0 in
    omega arith

few : {A B : Type 0} (h : A → Option B) (xs : List A) → length (filter_map h xs) ≤ length xs
few h [] = omega arith
few {A} {B} h (x ∷ xs) = one (h x) (filter_map h xs) (few h xs)
  where
    one : (o : Option B) (ys : List B) → length ys ≤ length xs → length (cons_option o ys) ≤ length (x ∷ xs)
    one None ys r = omega arith
    one (Some y) ys r = omega arith

pmt_room : (p : PmtFields) (section : List ℕ) → pmt.Spells p section → length (filter_map tagged_stream p.streams) ≤ 201
unfolding pmt pmt_body sized_row
pmt_room p section s =
    let x = s.0 in
    let is = s.1 in
    let fits = s.2.0 in
    let head = s.2.1.0.1 in
    let body = s.2.1.1 in
    let room = long_room x.0 section head in
    let l1 = in_two x.0.body body.front body.back body.parts in
    let inner = body.second in
    let l2 = in_two body.back inner.front inner.back inner.parts in
    let row = inner.first in
    let l3 = in_two inner.front row.front row.inside row.parts in
    let n1 = body.first.2.0 in
    let n2 = row.len.2.0 in
    let streams : length (filter_map tagged_stream x.1.1.1) ≤ length x.1.1.1 = few tagged_stream x.1.1.1 in
    let sum = streams_room x.1.1.1 inner.back inner.second in
    let most : length section ≤ 1024 = grind (arith, nat_tests, fits) in
    let same : length (filter_map tagged_stream x.1.1.1) ≡ length (filter_map tagged_stream p.streams) = ap (λ (q : PmtFields). length (filter_map tagged_stream q.streams)) is in
    omega arith

pub tagged_room : (r : Option Pmt) (section : List ℕ) → Reads pmt_view r (pmt.of section)
    → IfSome r (λ p. length (filter_map tagged_stream (pmt_view p).streams) ≤ 201)
tagged_room None section reads = tt
tagged_room (Some p) section reads = pmt_room (pmt_view p) section (pmt_exact.takes section (pmt_view p) reads)
