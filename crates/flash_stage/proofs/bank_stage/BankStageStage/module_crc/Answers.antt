use Rattle.std.proofs.Common.{◌≡◌, ◌+◌, ℕ, List, ap, sym, subst, ◌∙◌, arith}
use Rattle.ts_crc.specs.Crc.{crc_of}
use Rattle.flash_dev.specs.Changes.{IsBlank}
use Rattle.flash_layout.specs.Layout.{journal_len}
use Rattle.flash_bank.specs.Bank.{geometry_of, spare_bank, spare_journal}
use Rattle.flash_layout.specs.Pairs.{part}
use Rattle.ssu_group.specs.Place.{place_at}
use Rattle.flash_stage.specs.InBank.{LeavesBlank, bytes_in_bank}
use Rattle.flash_stage.proofs.InBankLemmas.{blank_same, module_in_bank, same_journal, same_place_bytes}
use Rattle.flash_stage.proofs.LeavingLaws.{always_ok, if_ok}
use Rattle.flash_stage.proofs.TextLaws.{module_inside}
use Rattle.flash_stage.proofs.bank_stage.BankStageStage.module_crc.Goals as goal

pub crc_of_range-requires-clause-inside : goal.crc_of_range-requires-clause-inside
crc_of_range-requires-clause-inside g c =
    let s = c.args.self.now in
    let inside = module_inside s.block_size s.modules.items s.map.places s.total c.args.module.now c.requires.ready.planned c.requires.«module» in
    omega (arith, inside, c.requires.ready.fits)

pub returns-clause-agrees : goal.returns-clause-agrees
returns-clause-agrees g c tells =
    always_ok (LeavesBlank c.args.self.now c.crc_of_range.new.bank (g.F.Flash.contents c.crc_of_range.new.flash)) c.crc_of_range.result
    (record {
      places = λ number p at free. blank_same c.args.bank.now c.crc_of_range.new.bank (g.F.Flash.contents c.args.flash.now) (g.F.Flash.contents c.crc_of_range.new.flash) p.at p.len c.crc_of_range.ensures.same_bank
          (c.crc_of_range.ensures.reads.same tells) ((c.requires.agrees tells).places number p at free);
      journal = same_journal c.args.bank.now c.crc_of_range.new.bank (g.F.Flash.contents c.crc_of_range.new.flash) c.crc_of_range.ensures.same_bank
          (λ two. subst (λ (y : List ℕ). IsBlank y (spare_journal c.args.bank.now) (journal_len (geometry_of c.args.bank.now))) (sym (c.crc_of_range.ensures.reads.same tells)) ((c.requires.agrees tells).journal two));
    })

pub returns-clause-crc : goal.returns-clause-crc
returns-clause-crc g c tells =
    let s = c.args.self.now in
    let x = g.F.Flash.contents c.args.flash.now in
    if_ok (λ (crc : ℕ). crc ≡ crc_of (part x (spare_bank c.args.bank.now + c.args.module.now.at) c.args.module.now.size)) _ c.crc_of_range.result
    (λ crc is. is ∙ ap crc_of (module_in_bank s c.args.bank.now x c.args.module.now c.requires.ready c.requires.«module»)) (c.crc_of_range.ensures.crc tells)

pub returns-clause-same_bytes : goal.returns-clause-same_bytes
unfolding bytes_in_bank
returns-clause-same_bytes g c tells number =
    let s = c.args.self.now in
    same_place_bytes c.args.bank.now c.crc_of_range.new.bank (g.F.Flash.contents c.args.flash.now) (g.F.Flash.contents c.crc_of_range.new.flash) (place_at s.block_size s.modules.items number) c.crc_of_range.ensures.same_bank
    (c.crc_of_range.ensures.reads.same tells)
