use Rattle.std.proofs.Common.{◌<◌, ◌^◌, arith}
use Rattle.std.proofs.lemmas.Fmt.{parse-decimal}
use Rattle.ssu_tool.proofs.spares.parsed.Goals as goal

pub returns : goal.returns
returns c = λ n small written.
    let narrow : n < 2 ^ 8 = omega (arith, small) in
    let wide : n < 2 ^ 64 = omega (arith, small) in
    let read = parse-decimal 8 n c.args.word.now c.parse.result narrow wide written c.parse.ensures.value.0 in
    rw read at c.ok.ensures.value
