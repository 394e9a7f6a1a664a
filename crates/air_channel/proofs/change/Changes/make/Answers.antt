use Rattle.std.proofs.Common.{◌≡◌, ◌∙◌, ◌<◌, ℕ, ap, arith, List, get_or, length, length-set, set, sym, take}
use Rattle.air_channel.specs.Passing.{changed}
use Rattle.air_channel.specs.Scripts.{AreChanges}
use Rattle.air_channel.specs.declared.change.Change.{Change}
use Rattle.air_channel.proofs.Changing.{changed_before, changed_end, changed_step}
use Rattle.air_channel.proofs.change.Changes.make.Goals as goal

abbrev nothing : Change
nothing = record { packet = 0; offset = 0; byte = 0 }

pub loop-changes-init : goal.loop-changes-init
loop-changes-init c =
    let first = c.first_of-next.ensures in
    record {
      made = sym (changed_before c.as_slice-changes.result.now c.args.number c.args.packet.now c.first_of-next.result first.within first.before);
      whole = c.requires;
      behind = first.behind;
    }

pub loop-changes-smaller : goal.loop-changes-smaller
loop-changes-smaller c = omega (arith, c.is_of.ensures.within c.loop-changes-test.true)

pub loop-changes-preserved : goal.loop-changes-preserved
loop-changes-preserved c =
    let cs = c.as_slice-changes.result.now in
    let at = c.loop-changes.next in
    let change = get_or cs at nothing in
    let kept = c.loop-changes.invariant in
    let low = c.is_of.ensures.within c.loop-changes-test.true in
    let own = c.is_of.ensures.own c.loop-changes-test.true nothing in
    record {
      made =
          ap (λ (p : List ℕ). set p change.offset change.byte) kept.made
          ∙ sym (changed_step cs c.args.number c.args.packet.now at nothing low own);
      whole = length-set c.loop-changes.packet change.offset change.byte ∙ kept.whole;
      behind = λ k d high inside. kept.behind k d (omega (arith, high)) inside;
    }

pub returns : goal.returns
returns c =
    let cs = c.as_slice-changes.result.now in
    let kept = c.loop-changes.invariant in
    let are : AreChanges cs = rw c.as_slice-changes.ensures.value c.self.invariant in
    let end : changed (take c.loop-changes.next cs) c.args.number c.args.packet.now ≡ changed cs c.args.number c.args.packet.now =
    changed_end cs c.args.number c.args.packet.now c.loop-changes.next are kept.behind (c.is_of.ensures.other c.loop-changes-test.false) in
    rw (← c.self.view_is, ← c.as_slice-changes.ensures.value) (kept.made ∙ end)
