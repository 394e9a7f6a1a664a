use Rattle.std.specs.Prelude.{IfOk}
use Rattle.std.proofs.Common.{◌≡◌, ◌<◌, ℕ, length, sym, subst}
use Rattle.flash_layout.specs.Layout.{Geometry, IsInLimits, bank_len}
use Rattle.flash_layout.specs.Shape.{geometry}
use Rattle.flash_bank.specs.Format.{Formats, SameOutsideFirst}
use Rattle.flash_bank.specs.declared.record.Record.{Record}
use Rattle.flash_bank.proofs.first_image.format_one.Goals as goal

pub returns-clause-formatted : goal.returns-clause-formatted
returns-clause-formatted g c tells =
    let F = g.F.Flash in
    let is : geometry c.in-Some.shape ≡ record { blocks = F.block_count c.args.flash.now; block_len = F.block_len c.args.flash.now } = (λ i. record { blocks = c.in-Some.ensures.blocks i; block_len = c.in-Some.ensures.block_size i }) in
    subst (λ (G : Geometry). IfOk c.format_as.result (λ (head : Record). Formats G head c.args.image.now (F.contents c.args.flash.now) (F.contents c.format_as.new.flash))) is (c.format_as.ensures.formatted tells)

pub returns-clause-geometry : goal.returns-clause-geometry
returns-clause-geometry g c =
    let F = g.F.Flash in
    let is : geometry c.in-Some.shape ≡ record { blocks = F.block_count c.args.flash.now; block_len = F.block_len c.args.flash.now } = (λ i. record { blocks = c.in-Some.ensures.blocks i; block_len = c.in-Some.ensures.block_size i }) in
    (λ bad. absurd (c.format_as.ensures.no_geometry bad), λ never. absurd (never (subst IsInLimits is c.in-Some.ensures.limits)))

pub returns-clause-no_fit : goal.returns-clause-no_fit
returns-clause-no_fit g c =
    let F = g.F.Flash in
    let is : geometry c.in-Some.shape ≡ record { blocks = F.block_count c.args.flash.now; block_len = F.block_len c.args.flash.now } = (λ i. record { blocks = c.in-Some.ensures.blocks i; block_len = c.in-Some.ensures.block_size i }) in
    let now : Geometry = record { blocks = F.block_count c.args.flash.now; block_len = F.block_len c.args.flash.now } in
    let size : bank_len (geometry c.in-Some.shape) 1 ≡ bank_len now 1 = (λ i. bank_len (is i) 1) in (
      λ bad. (subst IsInLimits is c.in-Some.ensures.limits, subst (λ (n : ℕ). n < length c.args.image.now) size (c.format_as.ensures.no_fit.0 bad)),
      λ both. c.format_as.ensures.no_fit.1 (subst (λ (n : ℕ). n < length c.args.image.now) (sym size) both.1),
    )

pub returns-clause-outside : goal.returns-clause-outside
returns-clause-outside g c tells =
    let F = g.F.Flash in
    let is : geometry c.in-Some.shape ≡ record { blocks = F.block_count c.args.flash.now; block_len = F.block_len c.args.flash.now } = (λ i. record { blocks = c.in-Some.ensures.blocks i; block_len = c.in-Some.ensures.block_size i }) in
    subst (λ (G : Geometry). SameOutsideFirst G 1 (F.contents c.args.flash.now) (F.contents c.format_as.new.flash)) is (c.format_as.ensures.outside tells)
