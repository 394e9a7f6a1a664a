use Rattle.std.proofs.Common.{◌≡◌, ℕ, Some, subst}
use Rattle.std.specs.Prelude.{IfSome, Option, option_map}
use Rattle.ssu_io.specs.Seen.{shelf_seen, sink_seen, source_seen}
use Rattle.ssu_status.specs.Words.{Task, task_of}
use Rattle.ssu_status.specs.declared.command.Command.{Command}
use Rattle.ssu_tool.specs.Spared.{DoesSpared}
use Rattle.ssu_tool.specs.Spares.{AsksOfFlash}
use Rattle.ssu_tool.proofs.SparesLemmas.{some_same}
use Rattle.ssu_tool.proofs.spared.run_spared.Goals as goal

pub returns-in-Some-command-clause-spared : goal.returns-in-Some-command-clause-spared
returns-in-Some-command-clause-spared g c = λ front n task ends asks.
    let F = g.F.Flash in
    let flash = c.args.flash in
    let of = c.in-Some.ensures.only front n ends in
    let only = subst (λ (o : Option Command). option_map task_of o ≡ Some task) c.in-Some-command.is (of.1.only task asks) in
    let same = some_same (task_of c.in-Some-command.command) task only in
    let Does = λ (t : Task) (s : ℕ). DoesSpared F t s flash c.on_spares.result.0 c.on_spares.result.1
    (shelf_seen g.H.Shelf c.args.shelf.now c.on_spares.new.shelf) (source_seen g.A.Source c.args.air.now c.on_spares.new.air)
    (sink_seen g.W.Sink c.args.made.now c.on_spares.new.made) (sink_seen g.T.Sink c.args.out.now c.on_spares.new.out) in
    subst (λ (s : ℕ). Does task s) of.0 (subst (λ (t : Task). Does t c.in-Some.spared.spares) same c.on_spares.ensures.does)

pub on_spares-requires-clause-range : goal.on_spares-requires-clause-range
on_spares-requires-clause-range g c =
    let ends = c.in-Some.ensures.ends in
    let of = c.in-Some.ensures.only ends.0 c.in-Some.spared.spares ends.1 in
    let asks = subst (λ (o : Option Command). IfSome o (λ command. AsksOfFlash ends.0 (task_of command))) c.in-Some-command.is of.1.found in
    asks.line.in_range
