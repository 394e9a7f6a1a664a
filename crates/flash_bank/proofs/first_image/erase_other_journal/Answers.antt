use Rattle.std.specs.Prelude.{true, false}
use Rattle.std.proofs.Common.{◌≡◌, ◌*◌, ℕ, sym, ◌∙◌, ap}
use Rattle.flash_dev.specs.Changes.{IsErased}
use Rattle.flash_layout.specs.Layout.{journal_len, journal_place}
use Rattle.flash_layout.specs.Shape.{geometry}
use Rattle.flash_bank.specs.Format.{journal_in}
use Rattle.flash_bank.specs.Runs.{IsRaised}
use Rattle.flash_bank.proofs.ClearLemmas.{on_ok_map}
use Rattle.flash_bank.proofs.FormatLemmas.{none_changed}
use Rattle.flash_bank.proofs.RunsLemmas.{changes_moved}
use Rattle.flash_bank.proofs.first_image.erase_other_journal.Goals as goal

pub journal_block-requires-clause-room : goal.journal_block-requires-clause-room
journal_block-requires-clause-room g c = c.requires.room (c.is_second-two.ensures.0 c.if-two.true)

pub returns-then-two-clause-done : goal.returns-then-two-clause-done
returns-then-two-clause-done g c tells =
    let F = g.F.Flash in
    let s = geometry c.args.shape in
    let z = c.requires.block_size in
    let place : c.journal_block.result * F.block_len c.args.flash.now ≡ journal_place s 1 = ap (λ (w : ℕ). c.journal_block.result * w) z ∙ c.journal_block.ensures.value in
    let len : c.journal_blocks.result * F.block_len c.args.flash.now ≡ journal_len s = (λ i. c.journal_blocks.ensures.value i * z i) in
    let is : journal_len s ≡ journal_in s c.args.layout = sym (ap (journal_in s) (c.is_second-two.ensures.0 c.if-two.true)) in
    on_ok_map c.erase_blocks.result _ _ (λ done. changes_moved _ (journal_place s 1) _ (journal_in s c.args.layout) IsErased (F.contents c.args.flash.now) (F.contents c.erase_blocks.new.flash) place (len ∙ is) done)
    (c.erase_blocks.ensures.done tells)

pub returns-then-two-clause-held : goal.returns-then-two-clause-held
returns-then-two-clause-held g c tells =
    let F = g.F.Flash in
    let s = geometry c.args.shape in
    let z = c.requires.block_size in
    let place : c.journal_block.result * F.block_len c.args.flash.now ≡ journal_place s 1 = ap (λ (w : ℕ). c.journal_block.result * w) z ∙ c.journal_block.ensures.value in
    let len : c.journal_blocks.result * F.block_len c.args.flash.now ≡ journal_len s = (λ i. c.journal_blocks.ensures.value i * z i) in
    let is : journal_len s ≡ journal_in s c.args.layout = sym (ap (journal_in s) (c.is_second-two.ensures.0 c.if-two.true)) in
    changes_moved _ (journal_place s 1) _ (journal_in s c.args.layout) IsRaised (F.contents c.args.flash.now) (F.contents c.erase_blocks.new.flash) place (len ∙ is) (c.erase_blocks.ensures.held tells)

pub returns-else-two-clause-done : goal.returns-else-two-clause-done
returns-else-two-clause-done g c tells =
    let s = geometry c.args.shape in
    let never : c.args.layout ≡ 2 → ⊥ = λ two. let no : true ≡ false = sym (c.is_second-two.ensures.1 two) ∙ c.if-two.false in cc no in
    none_changed s c.args.layout IsErased (g.F.Flash.contents c.args.flash.now) never

pub returns-else-two-clause-held : goal.returns-else-two-clause-held
returns-else-two-clause-held g c tells =
    let s = geometry c.args.shape in
    let never : c.args.layout ≡ 2 → ⊥ = λ two. let no : true ≡ false = sym (c.is_second-two.ensures.1 two) ∙ c.if-two.false in cc no in
    none_changed s c.args.layout IsRaised (g.F.Flash.contents c.args.flash.now) never
