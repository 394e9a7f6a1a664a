use Rattle.std.proofs.Common.{◌≡◌, ◌∙◌, take, sym, refl}
use Rattle.std.proofs.lemmas.List.{take_all}
use Rattle.ssu_compat.specs.Written.{spelling}
use Rattle.ssu_compat.proofs.Spelled.{is_read_back, spelling-some, spelling-none, none_fit}
use Rattle.ssu_compat.proofs.plain.write.Goals as goal

none_written : (c : goal.In_ok-put_u16) → c.put_u16.new.out.items ≡ spelling c.args.entries.now
none_written c = (c.in_ok-put_u16.ensures {u = tt}).put ∙ rw c.new-out.ensures.items refl ∙ sym (spelling-none c.args.entries.now (sym (c.if-is_empty.ensures {u = tt})))

pub returns-then-is_empty-clause-written : goal.returns-then-is_empty-clause-written
returns-then-is_empty-clause-written c = none_written c

pub returns-then-is_empty-clause-read_back : goal.returns-then-is_empty-clause-read_back
returns-then-is_empty-clause-read_back c = is_read_back c.args.entries.now c.put_u16.new.out.items c.requires (none_fit c.args.entries.now (sym (c.if-is_empty.ensures {u = tt}))) (none_written c)

all_of : (c : goal.After-loop-plain) → take c.loop-plain.plain-index c.args.entries.now ≡ c.args.entries.now
all_of c = take_all c.loop-plain.plain-index c.args.entries.now c.loop-plain-test.false

some_written : (c : goal.After-loop-plain) → c.loop-plain.out.items ≡ spelling c.args.entries.now
some_written c = let all = all_of c in (rw all at c.loop-plain.invariant.items) ∙ sym (spelling-some c.args.entries.now (sym (c.if-is_empty.ensures {u = tt})))

pub returns-clause-written : goal.returns-clause-written
returns-clause-written c = some_written c

pub returns-clause-read_back : goal.returns-clause-read_back
returns-clause-read_back c = let all = all_of c in is_read_back c.args.entries.now c.loop-plain.out.items c.requires (rw all at c.loop-plain.invariant.fits) (some_written c)
