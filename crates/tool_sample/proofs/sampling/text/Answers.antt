use Rattle.std.proofs.Common.{◌∙◌, ℕ, ap}
use Rattle.ssu_line.specs.Lines.{booted_line, sampled_line, verdict_line}
use Rattle.tool_sample.specs.Does.{text_of}
use Rattle.tool_sample.specs.Sample.{byte_total, module_count, section_total}
use Rattle.tool_sample.proofs.TellingLaws.{joined}
use Rattle.tool_sample.proofs.sampling.text.Goals as goal

pub returns : goal.returns
unfolding text_of
returns c =
    let number = c.args.number in
    let outcome = c.args.findings.now.outcome in
    let head = outcome.booted in
    let first = c.sampled-first.ensures
    ∙ ap (λ (n : ℕ). sampled_line number n c.byte_total.result c.args.findings.now.sections) c.module_count-count.ensures.value
    ∙ ap (λ (n : ℕ). sampled_line number (module_count number) n c.args.findings.now.sections) c.byte_total.ensures
    ∙ ap (sampled_line number (module_count number) (byte_total number)) c.requires.sections in
    joined c.new-text.result.bytes c.push_line.new.text.bytes c.push_line-2.new.text.bytes c.push_line-3.new.text.bytes c.sampled-first.result.bytes
    c.verdict.result.bytes c.booted.result.bytes (sampled_line number (module_count number) (byte_total number) (section_total number))
    (verdict_line outcome.verdict) (booted_line head.bank head.number head.software head.length) c.new-text.ensures c.push_line.ensures.bytes
    c.push_line-2.ensures.bytes c.push_line-3.ensures.bytes first c.verdict.ensures c.booted.ensures
