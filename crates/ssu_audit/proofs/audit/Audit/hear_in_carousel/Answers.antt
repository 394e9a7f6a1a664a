use Rattle.std.proofs.Common.{◌≡◌, true, false, Option, Some, None, map, refl, sym, ◌∙◌}
use Rattle.std.specs.Prelude.{IsTrue}
use Rattle.std.specs.HashMap.{hash_map_len}
use Rattle.std.specs.Option.{is_some, option_map}
use Rattle.dsmcc_msg.specs.Block.{ddb}
use Rattle.dsmcc_msg.specs.Control.{DsiFields, dii, dsi}
use Rattle.dsmcc_msg.specs.View.{ddb_view}
use Rattle.ssu_audit.specs.Kept.{block_at, dii_at, kept_of}
use Rattle.ssu_audit.proofs.Answering.{if_ok_then, if_ok_two, if_ok_three, read_as, read_none}
use Rattle.ssu_audit.proofs.Holding.{answer-block, answer-dii, answer-dsi, holds-block, holds-dii, holds-dsi, holds-other, other_answers}
use Rattle.ssu_audit.proofs.audit.Audit.hear_in_carousel.Goals as goal

pub returns-in-Some-clause-answer : goal.returns-in-Some-clause-answer
returns-in-Some-clause-answer c = λ calls stands.
    let a = c.args.self.now in
    let d = ddb_view c.in-Some.ddb in
    let is : ddb.of c.args.section.now ≡ Some d = read_as ddb_view c.args.block _ c.in-Some.ddb c.requires.block c.in-Some.is in
    if_ok_then c.hear_block.result _ _ (λ answer says. says
    ∙ answer-block calls a.heard (option_map kept_of a.dsi) (dii_at a.diis) (block_at a.blocks) (hash_map_len a.blocks) (map kept_of a.notices.items) stands c.args.section.now d is)
    c.hear_block.ensures.answer

pub returns-in-Some-clause-stands : goal.returns-in-Some-clause-stands
returns-in-Some-clause-stands c = λ calls stands.
    let a = c.args.self.now in
    let d = ddb_view c.in-Some.ddb in
    let is : ddb.of c.args.section.now ≡ Some d = read_as ddb_view c.args.block _ c.in-Some.ddb c.requires.block c.in-Some.is in
    if_ok_three c.hear_block.result _ _ _ _ (λ answer says kept keys none.
    holds-block calls a.heard (option_map kept_of a.dsi) (dii_at a.diis) (block_at a.blocks) (hash_map_len a.blocks) (map kept_of a.notices.items) stands
    c.args.section.now d (block_at c.hear_block.new.blocks) (hash_map_len c.hear_block.new.blocks) is (sym says ∙ none) (kept none) (keys none))
    c.hear_block.ensures.answer c.hear_block.ensures.kept c.hear_block.ensures.keys

pub returns-in-Some-dii_of-clause-answer : goal.returns-in-Some-dii_of-clause-answer
returns-in-Some-dii_of-clause-answer c = λ calls stands.
    let a = c.args.self.now in
    let no_block = read_none ddb_view c.args.block (ddb.of c.args.section.now) c.requires.block c.in_default.is in
    let is : dii.of c.args.section.now ≡ Some c.in-Some-dii_of.dii = sym c.dii_of.ensures ∙ c.in-Some-dii_of.is in
    if_ok_then c.hear_dii.result _ _ (λ answer says. says
    ∙ answer-dii calls a.heard (option_map kept_of a.dsi) (dii_at a.diis) (block_at a.blocks) (hash_map_len a.blocks) (map kept_of a.notices.items) stands c.args.section.now c.in-Some-dii_of.dii no_block is)
    c.hear_dii.ensures.answer

pub returns-in-Some-dii_of-clause-stands : goal.returns-in-Some-dii_of-clause-stands
returns-in-Some-dii_of-clause-stands c = λ calls stands.
    let a = c.args.self.now in
    let no_block = read_none ddb_view c.args.block (ddb.of c.args.section.now) c.requires.block c.in_default.is in
    let is : dii.of c.args.section.now ≡ Some c.in-Some-dii_of.dii = sym c.dii_of.ensures ∙ c.in-Some-dii_of.is in
    if_ok_two c.hear_dii.result _ _ _ (λ answer says kept none.
    holds-dii calls a.heard (option_map kept_of a.dsi) (dii_at a.diis) (block_at a.blocks) (hash_map_len a.blocks) (map kept_of a.notices.items) stands
    c.args.section.now c.in-Some-dii_of.dii (dii_at c.hear_dii.new.diis) no_block is (sym says ∙ none) (kept none))
    c.hear_dii.ensures.answer c.hear_dii.ensures.kept

some_of : (o : Option DsiFields) → IsTrue (is_some o) → (d : DsiFields) × (o ≡ Some d)
some_of (Some d) is = (d, refl)
some_of None is = absurd cc

none_of : (o : Option DsiFields) → is_some o ≡ false → o ≡ None
none_of None is = refl
none_of (Some d) is = cc

pub returns-then-is_some-clause-answer : goal.returns-then-is_some-clause-answer
returns-then-is_some-clause-answer c = λ calls stands.
    let a = c.args.self.now in
    let no_block = read_none ddb_view c.args.block (ddb.of c.args.section.now) c.requires.block c.in_default.is in
    let no_dii : dii.of c.args.section.now ≡ None = sym c.dii_of.ensures ∙ c.in_default-dii_of.is in
    let some : is_some c.dsi_of.result ≡ true = sym c.is_some.ensures ∙ c.if-is_some.true in
    let d = some_of c.dsi_of.result some in
    let is : dsi.of c.args.section.now ≡ Some d.0 = sym c.dsi_of.ensures ∙ d.1 in
    if_ok_then c.hear_dsi.result _ _ (λ answer says. says
    ∙ answer-dsi calls a.heard (option_map kept_of a.dsi) (dii_at a.diis) (block_at a.blocks) (hash_map_len a.blocks) (map kept_of a.notices.items) stands c.args.section.now d.0 no_block no_dii is)
    c.hear_dsi.ensures.answer

pub returns-then-is_some-clause-stands : goal.returns-then-is_some-clause-stands
returns-then-is_some-clause-stands c = λ calls stands.
    let a = c.args.self.now in
    let no_block = read_none ddb_view c.args.block (ddb.of c.args.section.now) c.requires.block c.in_default.is in
    let no_dii : dii.of c.args.section.now ≡ None = sym c.dii_of.ensures ∙ c.in_default-dii_of.is in
    let some : is_some c.dsi_of.result ≡ true = sym c.is_some.ensures ∙ c.if-is_some.true in
    let d = some_of c.dsi_of.result some in
    let is : dsi.of c.args.section.now ≡ Some d.0 = sym c.dsi_of.ensures ∙ d.1 in
    if_ok_two c.hear_dsi.result _ _ _ (λ answer says kept none.
    holds-dsi calls a.heard (option_map kept_of a.dsi) (dii_at a.diis) (block_at a.blocks) (hash_map_len a.blocks) (map kept_of a.notices.items) stands
    c.args.section.now d.0 (option_map kept_of c.hear_dsi.new.first) no_block no_dii is (sym says ∙ none) (kept none))
    c.hear_dsi.ensures.answer c.hear_dsi.ensures.kept

pub returns-clause-answer : goal.returns-clause-answer
returns-clause-answer c = λ calls stands.
    let no_block = read_none ddb_view c.args.block (ddb.of c.args.section.now) c.requires.block c.in_default.is in
    let no_dii : dii.of c.args.section.now ≡ None = sym c.dii_of.ensures ∙ c.in_default-dii_of.is in
    let none : is_some c.dsi_of.result ≡ false = sym c.is_some.ensures ∙ c.if-is_some.false in
    sym (other_answers calls c.args.section.now no_block no_dii (sym c.dsi_of.ensures ∙ none_of c.dsi_of.result none))

pub returns-clause-stands : goal.returns-clause-stands
returns-clause-stands c = λ calls stands same.
    let a = c.args.self.now in
    let no_block = read_none ddb_view c.args.block (ddb.of c.args.section.now) c.requires.block c.in_default.is in
    let no_dii : dii.of c.args.section.now ≡ None = sym c.dii_of.ensures ∙ c.in_default-dii_of.is in
    let none : is_some c.dsi_of.result ≡ false = sym c.is_some.ensures ∙ c.if-is_some.false in
    holds-other calls a.heard (option_map kept_of a.dsi) (dii_at a.diis) (block_at a.blocks) (hash_map_len a.blocks) (map kept_of a.notices.items) stands
    c.args.section.now no_block no_dii (sym c.dsi_of.ensures ∙ none_of c.dsi_of.result none)
