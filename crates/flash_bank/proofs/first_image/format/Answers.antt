use Rattle.std.specs.Prelude.{IfOk}
use Rattle.std.proofs.Common.{◌≡◌, ◌<◌, ℕ, length, sym, ◌∙◌, ap, subst}
use Rattle.flash_layout.specs.Layout.{Geometry, IsInLimits, bank_len}
use Rattle.flash_layout.specs.Shape.{geometry}
use Rattle.flash_bank.specs.Format.{Formats, SameOutsideFirst, first_record, layout_for}
use Rattle.flash_bank.specs.declared.record.Record.{Record}
use Rattle.flash_bank.proofs.first_image.format.Goals as goal

pub returns-clause-head : goal.returns-clause-head
returns-clause-head g c =
    let F = g.F.Flash in
    let is : geometry c.in-Some.shape ≡ record { blocks = F.block_count c.args.flash.now; block_len = F.block_len c.args.flash.now } = (λ i. record { blocks = c.in-Some.ensures.blocks i; block_len = c.in-Some.ensures.block_size i }) in
    subst (λ (l : ℕ). IfOk c.format_as.result (λ (head : Record). head ≡ first_record l (length c.args.image.now) c.args.software)) (c.layout_of_shape.ensures.value ∙ ap layout_for is) c.format_as.ensures.head

pub returns-clause-formatted : goal.returns-clause-formatted
returns-clause-formatted g c tells =
    let F = g.F.Flash in
    let is : geometry c.in-Some.shape ≡ record { blocks = F.block_count c.args.flash.now; block_len = F.block_len c.args.flash.now } = (λ i. record { blocks = c.in-Some.ensures.blocks i; block_len = c.in-Some.ensures.block_size i }) in
    subst (λ (G : Geometry). IfOk c.format_as.result (λ (head : Record). Formats G head c.args.image.now (F.contents c.args.flash.now) (F.contents c.format_as.new.flash))) is (c.format_as.ensures.formatted tells)

pub returns-clause-geometry : goal.returns-clause-geometry
returns-clause-geometry g c =
    let F = g.F.Flash in
    let is : geometry c.in-Some.shape ≡ record { blocks = F.block_count c.args.flash.now; block_len = F.block_len c.args.flash.now } = (λ i. record { blocks = c.in-Some.ensures.blocks i; block_len = c.in-Some.ensures.block_size i }) in
    (λ bad. absurd (c.format_as.ensures.no_geometry bad), λ never. absurd (never (subst IsInLimits is c.in-Some.ensures.limits)))

pub returns-clause-no_fit : goal.returns-clause-no_fit
returns-clause-no_fit g c =
    let F = g.F.Flash in
    let is : geometry c.in-Some.shape ≡ record { blocks = F.block_count c.args.flash.now; block_len = F.block_len c.args.flash.now } = (λ i. record { blocks = c.in-Some.ensures.blocks i; block_len = c.in-Some.ensures.block_size i }) in
    let now : Geometry = record { blocks = F.block_count c.args.flash.now; block_len = F.block_len c.args.flash.now } in
    let layout : c.layout_of_shape.result ≡ layout_for now = c.layout_of_shape.ensures.value ∙ ap layout_for is in
    let size : bank_len (geometry c.in-Some.shape) c.layout_of_shape.result ≡ bank_len now (layout_for now) = (λ i. bank_len (is i) (layout i)) in (
      λ bad. (subst IsInLimits is c.in-Some.ensures.limits, subst (λ (n : ℕ). n < length c.args.image.now) size (c.format_as.ensures.no_fit.0 bad)),
      λ both. c.format_as.ensures.no_fit.1 (subst (λ (n : ℕ). n < length c.args.image.now) (sym size) both.1),
    )

pub returns-clause-outside : goal.returns-clause-outside
returns-clause-outside g c tells =
    let F = g.F.Flash in
    let is : geometry c.in-Some.shape ≡ record { blocks = F.block_count c.args.flash.now; block_len = F.block_len c.args.flash.now } = (λ i. record { blocks = c.in-Some.ensures.blocks i; block_len = c.in-Some.ensures.block_size i }) in
    let here = subst (λ (l : ℕ). SameOutsideFirst (geometry c.in-Some.shape) l (F.contents c.args.flash.now) (F.contents c.format_as.new.flash)) c.layout_of_shape.ensures.value (c.format_as.ensures.outside tells) in
    subst (λ (G : Geometry). SameOutsideFirst G (layout_for G) (F.contents c.args.flash.now) (F.contents c.format_as.new.flash)) is here
