use Rattle.std.proofs.Common.{ℕ, List, [], sym, ap, ◌∙◌, arith}
use Rattle.flash_stage.proofs.TextLaws.{lies, module_inside}
use Rattle.flash_stage.specs.Leaving.{SameBank}
use Rattle.ts_crc.specs.Crc.{crc_of}
use Rattle.flash_journal.specs.InJournal.{bytes_in_journal}
use Rattle.flash_journal.specs.StageLaws.{kept_from}
use Rattle.flash_journal.proofs.CrcLaws.{agrees_same, module_is, own_group, ready_same}
use Rattle.flash_journal.proofs.OfferLaws.{bytes_same}
use Rattle.flash_journal.proofs.journal_stage.JournalStageStage.module_crc.Goals as goal

pub push_module-requires-clause-two : goal.push_module-requires-clause-two
push_module-requires-clause-two g c keeps =
    let s = c.args.self.now in
    (kept_from c.args.bank.now s.map.places (sym c.requires.ready.keeps ∙ keeps)).two

pub push_module-requires-clause-marks : goal.push_module-requires-clause-marks
push_module-requires-clause-marks g c keeps =
    let s = c.args.self.now in
    let planned = c.requires.ready.begun.planned in
    let few = (kept_from c.args.bank.now s.map.places (sym c.requires.ready.keeps ∙ keeps)).few in
    let last = (lies s.block_size 0 0 s.modules.items c.args.module.now planned.joined c.requires.«module»).inside.last in
    let all = planned.all_places in
    omega (arith, few, last, all)

pub push_module-requires-clause-inside : goal.push_module-requires-clause-inside
push_module-requires-clause-inside g c =
    let s = c.args.self.now in
    let inside = module_inside s.block_size s.modules.items s.map.places s.total c.args.module.now c.requires.ready.begun.planned c.requires.«module» in
    omega (arith, inside, c.requires.ready.begun.fits)

pub push_module-requires-clause-least : goal.push_module-requires-clause-least
push_module-requires-clause-least g c = c.requires.ready.begun.planned.least

pub push_module-requires-clause-most : goal.push_module-requires-clause-most
push_module-requires-clause-most g c = c.requires.ready.begun.planned.most

pub push_module-requires-clause-blocks : goal.push_module-requires-clause-blocks
push_module-requires-clause-blocks g c =
    let s = c.args.self.now in
    (lies s.block_size 0 0 s.modules.items c.args.module.now c.requires.ready.begun.planned.joined c.requires.«module»).inside.count

pub push_module-requires-clause-numbers : goal.push_module-requires-clause-numbers
push_module-requires-clause-numbers g c =
    let s = c.args.self.now in
    let planned = c.requires.ready.begun.planned in
    let last = (lies s.block_size 0 0 s.modules.items c.args.module.now planned.joined c.requires.«module»).inside.last in
    let all = planned.all_places in
    let most = planned.most_places in
    omega (arith, last, all, most)

pub push_module-requires-clause-bytes : goal.push_module-requires-clause-bytes
push_module-requires-clause-bytes g c =
    let s = c.args.self.now in
    let planned = c.requires.ready.begun.planned in
    let inside = module_inside s.block_size s.modules.items s.map.places s.total c.args.module.now planned c.requires.«module» in
    let most = planned.most_bytes in
    omega (arith, inside, most)

pub returns-in_err-push_module-clause-same_bytes : goal.returns-in_err-push_module-clause-same_bytes
returns-in_err-push_module-clause-same_bytes g c tells number =
    let s = c.args.self.now in
    let b = c.args.bank.now in
    let looks = c.push_module.ensures.looks in
    let same : SameBank b c.push_module.new.bank = record { geometry = looks.geometry; current = looks.current; block = looks.block } in
    ap (λ (l : List ℕ). bytes_in_journal s c.push_module.new.bank l number) (looks.reads.same tells) ∙ bytes_same s s b c.push_module.new.bank (g.F.Flash.contents c.args.flash.now) number (own_group s) same

pub returns-clause-same_bytes : goal.returns-clause-same_bytes
returns-clause-same_bytes g c tells number =
    let s = c.args.self.now in
    let b = c.args.bank.now in
    let looks = c.push_module.ensures.looks in
    let same : SameBank b c.push_module.new.bank = record { geometry = looks.geometry; current = looks.current; block = looks.block } in
    ap (λ (l : List ℕ). bytes_in_journal s c.push_module.new.bank l number) (looks.reads.same tells) ∙ bytes_same s s b c.push_module.new.bank (g.F.Flash.contents c.args.flash.now) number (own_group s) same

pub returns-clause-ready : goal.returns-clause-ready
returns-clause-ready g c =
    let looks = c.push_module.ensures.looks in
    ready_same c.args.self.now c.args.bank.now c.push_module.new.bank (record { geometry = looks.geometry; current = looks.current; block = looks.block }) looks.begun c.requires.ready

pub returns-clause-agrees : goal.returns-clause-agrees
returns-clause-agrees g c tells =
    let looks = c.push_module.ensures.looks in
    agrees_same c.args.self.now c.args.bank.now c.push_module.new.bank (g.F.Flash.contents c.args.flash.now) (g.F.Flash.contents c.push_module.new.flash)
    (record { geometry = looks.geometry; current = looks.current; block = looks.block }) (looks.reads.same tells) (c.requires.agrees tells)

pub returns-clause-crc : goal.returns-clause-crc
returns-clause-crc g c tells =
    let s = c.args.self.now in
    let x = g.F.Flash.contents c.args.flash.now in
    c.value.ensures ∙ (c.in_ok-push_module.ensures.join tells [] c.new-register.ensures ∙ ap (λ (l : List ℕ). crc_of l) (module_is s c.args.bank.now x c.args.module.now c.requires.ready c.requires.«module»))
