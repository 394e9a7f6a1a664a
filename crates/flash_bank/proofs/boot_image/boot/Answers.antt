use Rattle.std.proofs.Common.{◌≡◌, inr, List, ℕ, subst}
use Rattle.flash_layout.specs.Layout.{Geometry}
use Rattle.flash_layout.specs.Shape.{geometry}
use Rattle.flash_bank.specs.Sound.{Boot, BootOf, boot_of, image_of}
use Rattle.flash_bank.proofs.BootLemmas.{finds_boot, on_err}
use Rattle.flash_bank.proofs.ReadsLemmas.{reads_joined}
use Rattle.flash_bank.proofs.boot_image.boot.Goals as goal
use Rattle.ssu_io.specs.Bytes.{Gains, GainsPrefix}

pub returns-in_ok-put_taken-in-Ok-Some-clause-whole : goal.returns-in_ok-put_taken-in-Ok-Some-clause-whole
returns-in_ok-put_taken-in-Ok-Some-clause-whole g c tells =
    let F = g.F.Flash in
    let W = g.W.Sink in
    let old = F.contents c.args.flash.now in
    let shape = geometry c.in-Some.shape in
    let is : shape ≡ record { blocks = F.block_count c.args.flash.now; block_len = F.block_len c.args.flash.now } = (λ i. record { blocks = c.in-Some.ensures.blocks i; block_len = c.in-Some.ensures.block_size i }) in
    let current = c.in-Ok-Some.current in
    let found = rw c.in-Ok-Some.field-0-is at (c.in-Ok-Some.ensures.found tells) in
    let taken : Boot = boot_of shape old current.head in
    let boots = subst (λ (G : Geometry). BootOf G old taken) is (finds_boot shape old current found) in
    let gains = subst (λ (l : List ℕ). Gains (W.contents c.args.sink.now) (W.contents c.put_taken.new.sink) (image_of shape l current.head)) (c.find_current.ensures.reads.same tells)
    (c.in_ok-put_taken-in-Ok-Some.ensures.whole tells) in
    (taken.image, boots, gains)

pub returns-in_err-put_taken-in-Ok-Some-clause-prefix : goal.returns-in_err-put_taken-in-Ok-Some-clause-prefix
returns-in_err-put_taken-in-Ok-Some-clause-prefix g c tells =
    let F = g.F.Flash in
    let W = g.W.Sink in
    let old = F.contents c.args.flash.now in
    let shape = geometry c.in-Some.shape in
    let is : shape ≡ record { blocks = F.block_count c.args.flash.now; block_len = F.block_len c.args.flash.now } = (λ i. record { blocks = c.in-Some.ensures.blocks i; block_len = c.in-Some.ensures.block_size i }) in
    let current = c.in-Ok-Some.current in
    let found = rw c.in-Ok-Some.field-0-is at (c.in-Ok-Some.ensures.found tells) in
    let taken : Boot = boot_of shape old current.head in
    let boots = subst (λ (G : Geometry). BootOf G old taken) is (finds_boot shape old current found) in
    let gains = subst (λ (l : List ℕ). GainsPrefix (W.contents c.args.sink.now) (W.contents c.put_taken.new.sink) (image_of shape l current.head)) (c.find_current.ensures.reads.same tells)
    (c.in_err-put_taken-in-Ok-Some.ensures.prefix tells) in
    on_err _ _ (inr (taken, boots, gains))

pub returns-in_err-put_taken-in-Ok-Some-clause-reads : goal.returns-in_err-put_taken-in-Ok-Some-clause-reads
returns-in_err-put_taken-in-Ok-Some-clause-reads g c =
    let F = g.F.Flash in
    reads_joined F.tells F.contents F.block_count F.block_len F.moment F.left_since c.args.flash.now c.find_current.new.flash c.put_taken.new.flash c.find_current.ensures.reads c.put_taken.ensures.reads
