use Rattle.std.specs.Prelude.{OnErr, OnOk, true, false}
use Rattle.std.proofs.Common.{◌≡◌, ◌+◌, ◌*◌, ◌≤◌, List, ℕ, length, ap, sym, ◌∙◌, subst, arith}
use Rattle.flash_layout.specs.Layout.{area_len, area_place, bank_len, journal_place, short_len, slots_at}
use Rattle.flash_layout.specs.Pairs.{part}
use Rattle.flash_layout.specs.Shape.{geometry}
use Rattle.flash_layout.proofs.Places.{area_within}
use Rattle.flash_bank.specs.Laid.{LiesWithin, laid_from, laid_text}
use Rattle.flash_bank.specs.Sound.{image_of}
use Rattle.flash_bank.proofs.ImageLemmas.{fits_area, image_plain}
use Rattle.flash_bank.proofs.OverlayLemmas.{image_laid}
use Rattle.flash_bank.proofs.boot_image.put_taken.Goals as goal
use Rattle.ssu_io.specs.Bytes.{Gains, GainsPrefix}

pub laid_bank-requires-clause-room : goal.laid_bank-requires-clause-room
laid_bank-requires-clause-room g c = c.requires.placed.room (c.is_laid-two.ensures.0 c.if-two.true)

pub put_laid-requires-clause-within : goal.put_laid-requires-clause-within
put_laid-requires-clause-within g c = subst (LiesWithin c.laid_bank.result) (λ i. c.requires.blocks i * c.requires.block_size i) c.laid_bank.ensures.within

pub put_laid-requires-clause-fits : goal.put_laid-requires-clause-fits
put_laid-requires-clause-fits g c =
    let s = geometry c.args.shape in
    let fits : c.args.head.length ≤ short_len s = subst (λ (l : ℕ). c.args.head.length ≤ bank_len s l) (c.is_laid-two.ensures.0 c.if-two.true) c.requires.placed.fits in
    omega (arith, fits, c.laid_bank.ensures.len)

pub put_laid-requires-clause-whole : goal.put_laid-requires-clause-whole
put_laid-requires-clause-whole g c tells = c.requires.whole tells ∙ (λ i. c.requires.blocks i * c.requires.block_size i)

pub returns-then-two-clause-whole : goal.returns-then-two-clause-whole
returns-then-two-clause-whole g c tells =
    let s = geometry c.args.shape in
    let old = g.F.Flash.contents c.args.flash.now in
    let W = g.W.Sink in
    let head = c.args.head in
    let two = c.is_laid-two.ensures.0 c.if-two.true in
    let bank = c.laid_bank.ensures in
    let text : laid_text c.laid_bank.result old ≡ laid_from old (area_place s head.bank) (short_len s) (journal_place s head.bank + slots_at s) 16 = (λ i. laid_from old (bank.place i) (bank.len i) (bank.slots i) 16) in
    let inside : area_place s head.bank + area_len s ≤ length old = omega (arith, area_within s c.requires.limits head.bank c.requires.placed.area, c.requires.whole tells) in
    let image = image_laid s c.requires.limits (c.requires.placed.room two) old head inside two in
    let is : part (laid_text c.laid_bank.result old) 0 head.length ≡ image_of s old head = ap (λ (t : List ℕ). part t 0 head.length) text ∙ sym image in
    subst (λ (l : List ℕ). OnOk c.put_laid.result (Gains (W.contents c.args.sink.now) (W.contents c.put_laid.new.sink) l)) is (c.put_laid.ensures.whole tells)

pub returns-then-two-clause-prefix : goal.returns-then-two-clause-prefix
returns-then-two-clause-prefix g c tells =
    let s = geometry c.args.shape in
    let old = g.F.Flash.contents c.args.flash.now in
    let W = g.W.Sink in
    let head = c.args.head in
    let two = c.is_laid-two.ensures.0 c.if-two.true in
    let bank = c.laid_bank.ensures in
    let text : laid_text c.laid_bank.result old ≡ laid_from old (area_place s head.bank) (short_len s) (journal_place s head.bank + slots_at s) 16 = (λ i. laid_from old (bank.place i) (bank.len i) (bank.slots i) 16) in
    let inside : area_place s head.bank + area_len s ≤ length old = omega (arith, area_within s c.requires.limits head.bank c.requires.placed.area, c.requires.whole tells) in
    let image = image_laid s c.requires.limits (c.requires.placed.room two) old head inside two in
    let is : part (laid_text c.laid_bank.result old) 0 head.length ≡ image_of s old head = ap (λ (t : List ℕ). part t 0 head.length) text ∙ sym image in
    subst (λ (l : List ℕ). OnErr c.put_laid.result (GainsPrefix (W.contents c.args.sink.now) (W.contents c.put_laid.new.sink) l)) is (c.put_laid.ensures.prefix tells)

pub put_image-requires-clause-inside : goal.put_image-requires-clause-inside
put_image-requires-clause-inside g c =
    let F = g.F.Flash in
    let s = geometry c.args.shape in
    let never : c.args.head.layout ≡ 2 → ⊥ = λ two. let no : true ≡ false = sym (c.is_laid-two.ensures.1 two) ∙ c.if-two.false in cc no in
    let total : F.block_count c.args.flash.now * F.block_len c.args.flash.now ≡ c.args.shape.blocks * c.args.shape.block_size = sym (λ i. c.requires.blocks i * c.requires.block_size i) in
    omega (arith, total, c.area_place.ensures.inside, fits_area s (g.F.Flash.contents c.args.flash.now) c.args.head c.requires.placed never)

pub put_image-requires-clause-addressable : goal.put_image-requires-clause-addressable
put_image-requires-clause-addressable g c =
    let s = geometry c.args.shape in
    let never : c.args.head.layout ≡ 2 → ⊥ = λ two. let no : true ≡ false = sym (c.is_laid-two.ensures.1 two) ∙ c.if-two.false in cc no in
    omega (arith, c.area_place.ensures.inside, c.requires.limits.most_bytes, fits_area s (g.F.Flash.contents c.args.flash.now) c.args.head c.requires.placed never)

pub put_image-requires-clause-whole : goal.put_image-requires-clause-whole
put_image-requires-clause-whole g c tells = c.requires.whole tells ∙ (λ i. c.requires.blocks i * c.requires.block_size i)

pub returns-else-two-clause-whole : goal.returns-else-two-clause-whole
returns-else-two-clause-whole g c tells =
    let s = geometry c.args.shape in
    let old = g.F.Flash.contents c.args.flash.now in
    let W = g.W.Sink in
    let head = c.args.head in
    let never : head.layout ≡ 2 → ⊥ = λ two. let no : true ≡ false = sym (c.is_laid-two.ensures.1 two) ∙ c.if-two.false in cc no in
    let is : part old c.area_place.result head.length ≡ image_of s old head = ap (λ (p : ℕ). part old p head.length) c.area_place.ensures.value ∙ sym (image_plain s old head c.requires.placed never) in
    subst (λ (l : List ℕ). OnOk c.put_image.result (Gains (W.contents c.args.sink.now) (W.contents c.put_image.new.sink) l)) is (c.put_image.ensures.whole tells)

pub returns-else-two-clause-prefix : goal.returns-else-two-clause-prefix
returns-else-two-clause-prefix g c tells =
    let s = geometry c.args.shape in
    let old = g.F.Flash.contents c.args.flash.now in
    let W = g.W.Sink in
    let head = c.args.head in
    let never : head.layout ≡ 2 → ⊥ = λ two. let no : true ≡ false = sym (c.is_laid-two.ensures.1 two) ∙ c.if-two.false in cc no in
    let is : part old c.area_place.result head.length ≡ image_of s old head = ap (λ (p : ℕ). part old p head.length) c.area_place.ensures.value ∙ sym (image_plain s old head c.requires.placed never) in
    subst (λ (l : List ℕ). OnErr c.put_image.result (GainsPrefix (W.contents c.args.sink.now) (W.contents c.put_image.new.sink) l)) is (c.put_image.ensures.prefix tells)
