use Rattle.std.specs.Prelude.{IfOk, IsSome, true, ◌↔◌}
use Rattle.std.proofs.Common.{◌≡◌, ◌+◌, List, ℕ, length, refl, ap, sym, ◌∙◌, subst, arith, rules}
use Rattle.flash_layout.specs.Pairs.{half_at, part, word_at}
use Rattle.flash_layout.proofs.PartLemmas.{part_held}
use Rattle.flash_bank.specs.Scan.{ArePairs, IsFixedPart}
use Rattle.flash_bank.proofs.ReadsLemmas.{reads_joined, reads_one}
use Rattle.flash_bank.proofs.ScanLemmas.{header_some, number_some}
use Rattle.flash_bank.proofs.scan.header_in.Goals as goal

pub returns-in-None-clause-found : goal.returns-in-None-clause-found
returns-in-None-clause-found g c tells =
    let old = g.F.Flash.contents c.args.flash.now in
    let bytes = c.read.new.buf in
    let size : length bytes ≡ 32 = search rules in
    let is : part old c.args.place 32 ≡ bytes = part_held old bytes c.args.place 32 size (omega (arith, c.requires.inside, c.requires.whole tells)) (c.in_ok-read.ensures.bytes tells) in
    (λ none. absurd (cc none), λ has. c.in-None.ensures.valid.1 (subst IsFixedPart is has.fixed))

pub returns-in-None-clause-reads : goal.returns-in-None-clause-reads
returns-in-None-clause-reads g c =
    let F = g.F.Flash in
    reads_one F.tells F.contents F.block_count F.block_len F.moment F.left_since c.args.flash.now c.read.new.self (g.met.F.Flash.only_now c.args.flash.now)
    c.read.ensures.same c.read.ensures.blocks c.read.ensures.block_size c.read.ensures.time

pub returns-in-Some-clause-found : goal.returns-in-Some-clause-found
returns-in-Some-clause-found g c tells =
    let F = g.F.Flash in
    let old = F.contents c.args.flash.now in
    let place = c.args.place in
    let bytes = c.read.new.buf in
    let fixed = c.in-Some.fixed in
    let size : length bytes ≡ 32 = search rules in
    let is : part old place 32 ≡ bytes = part_held old bytes place 32 size (omega (arith, c.requires.inside, c.requires.whole tells)) (c.in_ok-read.ensures.bytes tells) in
    let there : IsFixedPart (part old place 32) = subst IsFixedPart (sym is) (c.in-Some.ensures.valid.0 refl) in
    let len : fixed.len ≡ half_at (part old place 32) 8 = c.in-Some.ensures.number.1 ∙ ap (λ (b : List ℕ). half_at b 8) (sym is) in
    let pairs = subst (λ (l : List ℕ). IfOk c.with_message.result (λ o. IsSome o ↔ ArePairs true l (place + 256) fixed.len)) (c.read.ensures.same tells) (c.with_message.ensures.found tells) in
    header_some c.with_message.result old place fixed.len there len pairs

pub returns-in-Some-clause-number : goal.returns-in-Some-clause-number
returns-in-Some-clause-number g c tells =
    let old = g.F.Flash.contents c.args.flash.now in
    let bytes = c.read.new.buf in
    let size : length bytes ≡ 32 = search rules in
    let is : part old c.args.place 32 ≡ bytes = part_held old bytes c.args.place 32 size (omega (arith, c.requires.inside, c.requires.whole tells)) (c.in_ok-read.ensures.bytes tells) in
    number_some c.with_message.result c.in-Some.fixed.number (word_at (part old c.args.place 32) 4) (c.in-Some.ensures.number.0 ∙ ap (λ (b : List ℕ). word_at b 4) (sym is)) c.with_message.ensures.number

pub returns-in-Some-clause-reads : goal.returns-in-Some-clause-reads
returns-in-Some-clause-reads g c =
    let F = g.F.Flash in
    reads_joined F.tells F.contents F.block_count F.block_len F.moment F.left_since c.args.flash.now c.read.new.self c.with_message.new.flash
    (reads_one F.tells F.contents F.block_count F.block_len F.moment F.left_since c.args.flash.now c.read.new.self (g.met.F.Flash.only_now c.args.flash.now)
    c.read.ensures.same c.read.ensures.blocks c.read.ensures.block_size c.read.ensures.time)
    c.with_message.ensures.reads
