use Rattle.std.proofs.Common.{◌≡◌, ◌∙◌, refl, arith}
use Rattle.si_table.specs.Tables.{ProgramFields}
use Rattle.si_table.specs.Written.{program_bytes}
use Rattle.si_table.proofs.Back.{pat_put}
use Rattle.si_table.proofs.writing.write_pat.Goals as goal

pub returns-clause-read_back : goal.returns-clause-read_back
returns-clause-read_back c =
    let p : ProgramFields = record { number = c.args.program; pid = c.args.pmt } in
    let body : c.deref.result.now ≡ program_bytes p = c.deref.ensures.value ∙ rw ((c.in_ok-put_u16-2.ensures {u = tt}).put, (c.in_ok-put_u16.ensures {u = tt}).put, c.new-body.ensures.items, c.get.ensures.number) refl in
    pat_put c.args.ts p c.in_ok-section.section.items (omega arith) (omega arith) (omega (arith, c.get.ensures.bound, c.get.ensures.number)) (rw body at (c.in_ok-section.ensures {u = tt}).bytes)
