use Rattle.std.proofs.Common.{inl}
use Rattle.std.specs.Prelude.{Result, Err}
use Rattle.audit_answer.specs.declared.answers.AuditNo.{AuditNo}
use Rattle.audit_answer.specs.declared.answers.AuditYes.{AuditYes}
use Rattle.tool_audit.specs.Comes.{ComesOf}
use Rattle.tool_audit.proofs.EndLaws.{comes_at_end}
use Rattle.tool_audit.proofs.ToldLaws.{answered, done_of, no_memory_fault, no_read_fault, not_too_long, refused_of, some_answer, unfailed, write_fault_of}
use Rattle.ts_input.specs.Packets.{packets}
use Rattle.tool_audit.specs.Calls.{calls_of}
use Rattle.tool_audit.proofs.command.audit.Goals as goal

pub end-requires : goal.end-requires
end-requires g c =
    let input = c.in-Input.ensures.input in
    record { usable = (calls_of c.args.pid c.args.notice (packets input.taken), input.now) }

pub returns-in-Fact : goal.returns-in-Fact
returns-in-Fact g c =
    let left = g.A.Source.left in
    let got = g.T.Sink.contents in
    let d = c.tell in
    let s = d.result in
    let is = d.ensures.answers in
    let answer : Result AuditYes AuditNo = Err c.in-Fact.no in
    let Comes : Result AuditYes AuditNo → Type 0 = ComesOf c.args.pid c.args.notice (left c.args.air.now) (left c.hear_all.new.air) in
    let comes : Comes answer = inl c.in-Fact.ensures.fact in
    record {
      does = record {
        done = done_of s answer (got c.args.out.now) (got d.new.out) Comes d.ensures.told comes;
        refused = refused_of s answer (got c.args.out.now) (got d.new.out) Comes d.ensures.told comes;
        no_memory = no_memory_fault s _ is;
        read_fault = no_read_fault s _ is;
        read_cause = no_read_fault s _ is;
        too_long = not_too_long s _ is;
        write_fault = write_fault_of s answer (got c.args.out.now) (got d.new.out) Comes d.ensures.write_fault comes;
        write_cause = d.ensures.write_cause;
        unprinted = some_answer s _ is;
        answers = answered s is;
        complete = λ _ out_none fault. unfailed s _ is d.ensures.write_cause out_none fault;
        air_later = c.hear_all.ensures.later;
        out_later = d.ensures.later;
      };
    }

pub returns-in-Input : goal.returns-in-Input
returns-in-Input g c =
    let left = g.A.Source.left in
    let got = g.T.Sink.contents in
    let d = c.tell-in-Input in
    let s = d.result in
    let is = d.ensures.answers in
    let answer : Result AuditYes AuditNo = c.end.result in
    let Comes : Result AuditYes AuditNo → Type 0 = ComesOf c.args.pid c.args.notice (left c.args.air.now) (left c.hear_all.new.air) in
    let comes : Comes answer = comes_at_end c.args.pid c.args.notice (left c.args.air.now) (left c.hear_all.new.air) c.hear_all.new.audit answer
    c.in-Input.ensures.input c.in-Input.ensures.end c.end.ensures.ends c.end.ensures.one_image in
    record {
      does = record {
        done = done_of s answer (got c.args.out.now) (got d.new.out) Comes d.ensures.told comes;
        refused = refused_of s answer (got c.args.out.now) (got d.new.out) Comes d.ensures.told comes;
        no_memory = no_memory_fault s _ is;
        read_fault = no_read_fault s _ is;
        read_cause = no_read_fault s _ is;
        too_long = not_too_long s _ is;
        write_fault = write_fault_of s answer (got c.args.out.now) (got d.new.out) Comes d.ensures.write_fault comes;
        write_cause = d.ensures.write_cause;
        unprinted = some_answer s _ is;
        answers = answered s is;
        complete = λ _ out_none fault. unfailed s _ is d.ensures.write_cause out_none fault;
        air_later = c.hear_all.ensures.later;
        out_later = d.ensures.later;
      };
    }
