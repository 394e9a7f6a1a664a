use Rattle.std.proofs.Common.{◌≡◌, ◌*◌, List, ℕ, length, sym, ◌∙◌, subst, arith}
use Rattle.flash_dev.specs.Changes.{Changes, IsBlank, IsErased, IsProgrammed, IsTornProgram}
use Rattle.flash_layout.specs.Layout.{area_len, area_place}
use Rattle.flash_layout.specs.Shape.{geometry}
use Rattle.flash_bank.specs.Format.{journal_in}
use Rattle.flash_bank.specs.Record.{written}
use Rattle.flash_bank.specs.Runs.{IsRaised}
use Rattle.flash_bank.proofs.FormatLemmas.{area_blank, area_outside, erased_outside, fits_area, outside_joined, place_blank, records_outside}
use Rattle.flash_bank.proofs.RunsLemmas.{changes_moved}
use Rattle.flash_bank.proofs.first_image.put_first.Goals as goal

-- in every answer: x, then the contents after each step
pub program-requires-clause-blank : goal.program-requires-clause-blank
program-requires-clause-blank g c tells =
    let F = g.F.Flash in
    let s = geometry c.args.shape in
    let x = F.contents c.args.flash.now in
    let m1 = F.contents c.erase_blocks.new.flash in
    let m2 = F.contents c.erase_blocks-2.new.flash in
    let m3 = F.contents c.erase_other_journal.new.flash in
    let m4 = F.contents c.program_pieces.new.flash in
    let z = c.requires.block_size in
    let z1 = c.erase_blocks.ensures.block_size ∙ z in
    let e1 = changes_moved _ 0 _ (2 * s.block_len) IsErased x m1 (omega arith) (λ i. 2 * z i) (c.in_ok-erase_blocks.ensures.done tells) in
    let e2 = changes_moved _ (area_place s 0) _ (area_len s) IsErased m1 m2 (λ i. c.area_block.ensures.value i * z1 i) (λ i. c.area_blocks.ensures.value i * z1 i) (c.in_ok-erase_blocks-2.ensures.done tells) in
    let e3 = c.in_ok-erase_other_journal.ensures.done tells in
    let e4 = subst (λ (p : ℕ). Changes p (length c.args.image.now) (IsProgrammed c.args.image.now) m3 m4) c.area_place.ensures.value (c.in_ok-program_pieces.ensures.done tells) in
    subst (λ (bs : List ℕ). IsBlank m4 0 (length bs)) (sym c.encoded.ensures.bytes)
    (place_blank s (area_len s) (journal_in s c.args.head.layout) c.args.image.now x m1 m2 m3 m4 (omega (arith, c.requires.limits.least_len)) e1 e2 e3 e4)

pub returns-clause-done : goal.returns-clause-done
returns-clause-done g c tells =
    let F = g.F.Flash in
    let s = geometry c.args.shape in
    let x = F.contents c.args.flash.now in
    let m1 = F.contents c.erase_blocks.new.flash in
    let m2 = F.contents c.erase_blocks-2.new.flash in
    let m3 = F.contents c.erase_other_journal.new.flash in
    let m4 = F.contents c.program_pieces.new.flash in
    let y = F.contents c.program.new.self in
    let z = c.requires.block_size in
    let z1 = c.erase_blocks.ensures.block_size ∙ z in
    record {
      no_records = m1;
      no_area = m2;
      no_image = m3;
      no_head = m4;
      erases_records = changes_moved _ 0 _ (2 * s.block_len) IsErased x m1 (omega arith) (λ i. 2 * z i) (c.in_ok-erase_blocks.ensures.done tells);
      erases_area = changes_moved _ (area_place s 0) _ (area_len s) IsErased m1 m2 (λ i. c.area_block.ensures.value i * z1 i) (λ i. c.area_blocks.ensures.value i * z1 i) (c.in_ok-erase_blocks-2.ensures.done tells);
      erases_journal = c.in_ok-erase_other_journal.ensures.done tells;
      puts_image = subst (λ (p : ℕ). Changes p (length c.args.image.now) (IsProgrammed c.args.image.now) m3 m4) c.area_place.ensures.value (c.in_ok-program_pieces.ensures.done tells);
      puts_head = subst (λ (bs : List ℕ). Changes 0 (length bs) (IsProgrammed bs) m4 y) c.encoded.ensures.bytes (c.in_ok-program.ensures.done tells);
    }

-- how each step ended, at its place
pub returns-in_err-erase_blocks-clause-outside : goal.returns-in_err-erase_blocks-clause-outside
returns-in_err-erase_blocks-clause-outside g c tells =
    let F = g.F.Flash in
    let s = geometry c.args.shape in
    let x = F.contents c.args.flash.now in
    let m1 = F.contents c.erase_blocks.new.flash in
    let z = c.requires.block_size in
    records_outside s c.args.head.layout (2 * s.block_len) IsRaised x m1 (omega arith) (changes_moved _ 0 _ (2 * s.block_len) IsRaised x m1 (omega arith) (λ i. 2 * z i) (c.erase_blocks.ensures.held tells))

pub returns-in_err-erase_blocks-2-clause-outside : goal.returns-in_err-erase_blocks-2-clause-outside
returns-in_err-erase_blocks-2-clause-outside g c tells =
    let F = g.F.Flash in
    let s = geometry c.args.shape in
    let x = F.contents c.args.flash.now in
    let m1 = F.contents c.erase_blocks.new.flash in
    let m2 = F.contents c.erase_blocks-2.new.flash in
    let z = c.requires.block_size in
    let z1 = c.erase_blocks.ensures.block_size ∙ z in
    outside_joined s c.args.head.layout x m1 m2
    (records_outside s c.args.head.layout (2 * s.block_len) IsRaised x m1 (omega arith) (changes_moved _ 0 _ (2 * s.block_len) IsRaised x m1 (omega arith) (λ i. 2 * z i) (c.erase_blocks.ensures.held tells)))
    (area_outside s c.args.head.layout (area_len s) IsRaised m1 m2 (omega arith)
    (changes_moved _ (area_place s 0) _ (area_len s) IsRaised m1 m2 (λ i. c.area_block.ensures.value i * z1 i) (λ i. c.area_blocks.ensures.value i * z1 i) (c.erase_blocks-2.ensures.held tells)))

pub returns-in_err-erase_other_journal-clause-outside : goal.returns-in_err-erase_other_journal-clause-outside
returns-in_err-erase_other_journal-clause-outside g c tells =
    let F = g.F.Flash in
    let s = geometry c.args.shape in
    let layout = c.args.head.layout in
    let x = F.contents c.args.flash.now in
    let m1 = F.contents c.erase_blocks.new.flash in
    let m2 = F.contents c.erase_blocks-2.new.flash in
    let m3 = F.contents c.erase_other_journal.new.flash in
    let z = c.requires.block_size in
    let z1 = c.erase_blocks.ensures.block_size ∙ z in
    let one = changes_moved _ 0 _ (2 * s.block_len) IsRaised x m1 (omega arith) (λ i. 2 * z i) (c.erase_blocks.ensures.held tells) in
    let two = changes_moved _ (area_place s 0) _ (area_len s) IsRaised m1 m2 (λ i. c.area_block.ensures.value i * z1 i) (λ i. c.area_blocks.ensures.value i * z1 i) (c.erase_blocks-2.ensures.held tells) in
    let erased = erased_outside s layout x m1 m2 m3 IsRaised IsRaised IsRaised one two (c.erase_other_journal.ensures.held tells) in
    erased

pub returns-in_err-program_pieces-clause-outside : goal.returns-in_err-program_pieces-clause-outside
returns-in_err-program_pieces-clause-outside g c tells =
    let F = g.F.Flash in
    let s = geometry c.args.shape in
    let layout = c.args.head.layout in
    let x = F.contents c.args.flash.now in
    let m1 = F.contents c.erase_blocks.new.flash in
    let m2 = F.contents c.erase_blocks-2.new.flash in
    let m3 = F.contents c.erase_other_journal.new.flash in
    let z = c.requires.block_size in
    let z1 = c.erase_blocks.ensures.block_size ∙ z in
    let one = changes_moved _ 0 _ (2 * s.block_len) IsRaised x m1 (omega arith) (λ i. 2 * z i) (c.erase_blocks.ensures.held tells) in
    let two = changes_moved _ (area_place s 0) _ (area_len s) IsRaised m1 m2 (λ i. c.area_block.ensures.value i * z1 i) (λ i. c.area_blocks.ensures.value i * z1 i) (c.erase_blocks-2.ensures.held tells) in
    let erased = erased_outside s layout x m1 m2 m3 IsRaised IsRaised IsRaised one two (c.erase_other_journal.ensures.held tells) in
    let image = c.args.image.now in
    let m4 = F.contents c.program_pieces.new.flash in
    let fits = fits_area s c.requires.limits layout (length image) c.requires.room c.requires.layout c.requires.fits in
    let put = subst (λ (p : ℕ). Changes p (length image) (IsTornProgram image) m3 m4) c.area_place.ensures.value (c.program_pieces.ensures.held tells) in
    outside_joined s layout x m3 m4 erased (area_outside s layout (length image) (IsTornProgram image) m3 m4 fits put)

pub returns-in_err-program-clause-outside : goal.returns-in_err-program-clause-outside
returns-in_err-program-clause-outside g c tells =
    let F = g.F.Flash in
    let s = geometry c.args.shape in
    let layout = c.args.head.layout in
    let x = F.contents c.args.flash.now in
    let m1 = F.contents c.erase_blocks.new.flash in
    let m2 = F.contents c.erase_blocks-2.new.flash in
    let m3 = F.contents c.erase_other_journal.new.flash in
    let z = c.requires.block_size in
    let z1 = c.erase_blocks.ensures.block_size ∙ z in
    let one = changes_moved _ 0 _ (2 * s.block_len) IsRaised x m1 (omega arith) (λ i. 2 * z i) (c.erase_blocks.ensures.held tells) in
    let two = changes_moved _ (area_place s 0) _ (area_len s) IsRaised m1 m2 (λ i. c.area_block.ensures.value i * z1 i) (λ i. c.area_blocks.ensures.value i * z1 i) (c.erase_blocks-2.ensures.held tells) in
    let erased = erased_outside s layout x m1 m2 m3 IsRaised IsRaised IsRaised one two (c.erase_other_journal.ensures.held tells) in
    let image = c.args.image.now in
    let m4 = F.contents c.program_pieces.new.flash in
    let y = F.contents c.program.new.self in
    let fits = fits_area s c.requires.limits layout (length image) c.requires.room c.requires.layout c.requires.fits in
    let put = subst (λ (p : ℕ). Changes p (length image) (IsTornProgram image) m3 m4) c.area_place.ensures.value (c.program_pieces.ensures.held tells) in
    let head = subst (λ (bs : List ℕ). Changes 0 (length bs) (IsTornProgram bs) m4 y) c.encoded.ensures.bytes (c.in_err-program.ensures.torn tells) in
    outside_joined s layout x m4 y (outside_joined s layout x m3 m4 erased (area_outside s layout (length image) (IsTornProgram image) m3 m4 fits put))
    (records_outside s layout 64 (IsTornProgram (written c.args.head)) m4 y (omega (arith, c.requires.limits.least_len)) head)

pub returns-clause-outside : goal.returns-clause-outside
returns-clause-outside g c tells =
    let puts = returns-clause-done g c tells in
    let s = geometry c.args.shape in
    let layout = c.args.head.layout in
    let image = c.args.image.now in
    let x = g.F.Flash.contents c.args.flash.now in
    let y = g.F.Flash.contents c.program.new.self in
    let fits = fits_area s c.requires.limits layout (length image) c.requires.room c.requires.layout c.requires.fits in
    let erased = erased_outside s layout x puts.no_records puts.no_area puts.no_image IsErased IsErased IsErased puts.erases_records puts.erases_area puts.erases_journal in
    outside_joined s layout x puts.no_head y (outside_joined s layout x puts.no_image puts.no_head erased (area_outside s layout (length image) (IsProgrammed image) puts.no_image puts.no_head fits puts.puts_image))
    (records_outside s layout 64 (IsProgrammed (written c.args.head)) puts.no_head y (omega (arith, c.requires.limits.least_len)) puts.puts_head)

-- the image has its place, which is erased
pub program_pieces-requires-clause-inside : goal.program_pieces-requires-clause-inside
program_pieces-requires-clause-inside g c =
    let F = g.F.Flash in
    let s = geometry c.args.shape in
    let b : F.block_count c.erase_other_journal.new.flash ≡ c.args.shape.blocks = c.erase_other_journal.ensures.blocks ∙ (c.erase_blocks-2.ensures.blocks ∙ (c.erase_blocks.ensures.blocks ∙ c.requires.blocks)) in
    let z : F.block_len c.erase_other_journal.new.flash ≡ c.args.shape.block_size = c.erase_other_journal.ensures.block_size ∙ (c.erase_blocks-2.ensures.block_size ∙ (c.erase_blocks.ensures.block_size ∙ c.requires.block_size)) in
    let total : F.block_count c.erase_other_journal.new.flash * F.block_len c.erase_other_journal.new.flash ≡ c.args.shape.blocks * c.args.shape.block_size = (λ i. b i * z i) in
    omega (arith, total, c.area_place.ensures.inside, fits_area s c.requires.limits c.args.head.layout (length c.args.image.now) c.requires.room c.requires.layout c.requires.fits)

pub program_pieces-requires-clause-addressable : goal.program_pieces-requires-clause-addressable
program_pieces-requires-clause-addressable g c =
    omega (arith, c.area_place.ensures.inside, c.requires.limits.most_bytes, fits_area (geometry c.args.shape) c.requires.limits c.args.head.layout (length c.args.image.now) c.requires.room c.requires.layout c.requires.fits)

pub program_pieces-requires-clause-blank : goal.program_pieces-requires-clause-blank
program_pieces-requires-clause-blank g c tells =
    let F = g.F.Flash in
    let s = geometry c.args.shape in
    let image = c.args.image.now in
    let m1 = F.contents c.erase_blocks.new.flash in
    let m2 = F.contents c.erase_blocks-2.new.flash in
    let m3 = F.contents c.erase_other_journal.new.flash in
    let z1 = c.erase_blocks.ensures.block_size ∙ c.requires.block_size in
    let e2 = changes_moved _ (area_place s 0) _ (area_len s) IsErased m1 m2 (λ i. c.area_block.ensures.value i * z1 i) (λ i. c.area_blocks.ensures.value i * z1 i) (c.in_ok-erase_blocks-2.ensures.done tells) in
    let fits = fits_area s c.requires.limits c.args.head.layout (length image) c.requires.room c.requires.layout c.requires.fits in
    subst (λ (p : ℕ). IsBlank m3 p (length image)) (sym c.area_place.ensures.value)
    (area_blank s (journal_in s c.args.head.layout) (length image) m1 m2 m3 fits e2 (c.in_ok-erase_other_journal.ensures.done tells))
