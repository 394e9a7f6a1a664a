use Rattle.std.proofs.Common.{rules, ◌≤◌, length, arith, string_bytes}
use Rattle.std.proofs.lemmas.List.{length-map}
use Rattle.ssu_status.specs.Words.{words_of}
use Rattle.ssu_status.proofs.WordsLaws.{line_has_few_words, two_behind}
use Rattle.ssu_status.proofs.command.Command.parse.Goals as goal

pub returns-in-len3-clause-only : goal.returns-in-len3-clause-only
returns-in-len3-clause-only c = λ t line.
    let behind = two_behind string_bytes c.args.words.now c.command-item-then-words-lt4.result c.argument-item.result line.folder (words_of t)
    c.in-len3.len_at_least c.in-len3.len_below c.command-item-then-words-lt4.is c.argument-item.is line.spelled in
    c.with_argument.ensures.only t line.in_range (rw (c.deref-in-len3.ensures, c.deref-in-len3-2.ensures) behind)

pub returns-in_default-clause-only : goal.returns-in_default-clause-only
returns-in_default-clause-only c = λ t line.
    let few = line_has_few_words _ t line in
    let count = length-map c.args.words.now string_bytes in
    let least : 2 ≤ length c.args.words.now = omega (arith, few.least, count) in
    let most : length c.args.words.now ≤ 4 = omega (arith, few.most, count) in
    search rules
