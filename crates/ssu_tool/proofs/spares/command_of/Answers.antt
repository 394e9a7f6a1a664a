use Rattle.std.proofs.Common.{map}
use Rattle.std.specs.Prelude.{string_bytes}
use Rattle.ssu_tool.proofs.SparesLemmas.{none_spared}
use Rattle.ssu_tool.proofs.spares.command_of.Goals as goal

pub returns-in-Some-parse-clause-line : goal.returns-in-Some-parse-clause-line
returns-in-Some-parse-clause-line c = λ t line. let none = c.in-None.ensures.only t line in cc

pub returns-in-Some-parse-clause-none : goal.returns-in-Some-parse-clause-none
returns-in-Some-parse-clause-none c = λ line spared.
    let ends = c.in-Some-parse.ensures.ends in
    let command = c.in-Some-parse.ensures.only ends.0 c.in-Some-parse.spared.spares ends.1 in
    none_spared (map string_bytes c.args.words.now) ends.0 c.in-Some-parse.spared.spares c.in-Some-parse.spared.command ends.1 command.1 spared

pub returns-in-Some-parse-clause-spared : goal.returns-in-Some-parse-clause-spared
returns-in-Some-parse-clause-spared c = λ t asks. (c.in-Some-parse.ensures.only asks.front asks.spares asks.ends).1.only t asks.asks
