use Rattle.std.proofs.Common.{◌≡◌, List, ℕ, length, sym, subst, ◌∙◌}
use Rattle.std.specs.Prelude.{OnOk}
use Rattle.flash_dev.specs.Moments.{LeavesOnly}
use Rattle.flash_bank.specs.Bank.{current_of, geometry_of}
use Rattle.flash_bank.specs.Leaving.{Installs}
use Rattle.flash_bank.specs.Record.{next_record}
use Rattle.flash_stage.specs.Leaving.{FinishLeaves}
use Rattle.flash_stage.specs.Outline.{group_text}
use Rattle.flash_stage.specs.Ram.{bytes_in, outline_in}
use Rattle.flash_stage.proofs.RamLemmas.{whole_text}
use Rattle.flash_stage.proofs.ram_stage.RamStageStage.finish.Goals as goal

pub returns-clause-done : goal.returns-clause-done
returns-clause-done g c tells =
    let F = g.F.Flash in
    let s = c.args.self.now in
    let b = c.args.bank.now in
    let x = F.contents c.args.flash.now in
    let y = F.contents c.install.new.flash in
    let image : c.bytes.result.now ≡ group_text (bytes_in s b x) (outline_in s) = c.bytes.ensures.image ∙ sym (whole_text s b x c.requires.ready) in
    subst (λ (n : ℕ). OnOk c.install.result (Installs (geometry_of b) (next_record (current_of b) n c.args.software c.args.group) (group_text (bytes_in s b x) (outline_in s)) x y)) c.bytes.ensures.len
    (subst (λ (i : List ℕ). OnOk c.install.result (Installs (geometry_of b) (next_record (current_of b) (length c.bytes.result.now) c.args.software c.args.group) i x y)) image (c.install.ensures.done tells))

pub returns-clause-held : goal.returns-clause-held
returns-clause-held g c tells =
    let F = g.F.Flash in
    let s = c.args.self.now in
    let b = c.args.bank.now in
    let x = F.contents c.args.flash.now in
    let y = F.contents c.install.new.flash in
    let image : c.bytes.result.now ≡ group_text (bytes_in s b x) (outline_in s) = c.bytes.ensures.image ∙ sym (whole_text s b x c.requires.ready) in
    subst (λ (n : ℕ). FinishLeaves (geometry_of b) (next_record (current_of b) n c.args.software c.args.group) (group_text (bytes_in s b x) (outline_in s)) x y) c.bytes.ensures.len
    (subst (λ (i : List ℕ). FinishLeaves (geometry_of b) (next_record (current_of b) (length c.bytes.result.now) c.args.software c.args.group) i x y) image (c.install.ensures.held tells))

pub returns-clause-left : goal.returns-clause-left
returns-clause-left g c tells =
    let F = g.F.Flash in
    let s = c.args.self.now in
    let b = c.args.bank.now in
    let x = F.contents c.args.flash.now in
    let image : c.bytes.result.now ≡ group_text (bytes_in s b x) (outline_in s) = c.bytes.ensures.image ∙ sym (whole_text s b x c.requires.ready) in
    subst (λ (n : ℕ). LeavesOnly F.moment F.left_since c.args.flash.now c.install.new.flash (FinishLeaves (geometry_of b) (next_record (current_of b) n c.args.software c.args.group) (group_text (bytes_in s b x) (outline_in s)) x)) c.bytes.ensures.len
    (subst (λ (i : List ℕ). LeavesOnly F.moment F.left_since c.args.flash.now c.install.new.flash (FinishLeaves (geometry_of b) (next_record (current_of b) (length c.bytes.result.now) c.args.software c.args.group) i x)) image (c.install.ensures.left tells))
