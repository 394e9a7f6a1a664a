-- What comes of the broadcast of a sample, as it is called.
use Rattle.std.proofs.Common.{◌≡◌, ◌∙◌, ℕ, List, length, ap, refl, subst, sym}
use Rattle.air_channel.specs.Scripts.{ScriptData}
use Rattle.box_file.specs.declared.file.BoxFile.{BoxFile}
use Rattle.broadcast.specs.Broadcasts.{Concludes, IsFault}
use Rattle.broadcast.specs.Packets.{Broadcast}
use Rattle.broadcast.specs.declared.fault.ChainFault.{ChainFault}
use Rattle.broadcast.specs.declared.outcome.Outcome.{Outcome}
use Rattle.flash_dev.specs.declared.sure.SureFlash.{SureFlash}
use Rattle.head_plan.specs.Plans.{PlanData}
use Rattle.tool_sample.specs.Does.{ForOutcome, IsFormatted, sure_seen}
use Rattle.tool_sample.specs.Sample.{broadcast_of, modules_of, plan_in, script_of, section_total, the_box, turns_for}
use Rattle.tool_sample.proofs.EndLaws.{AreSendable, IsMemory, memory_alone}
use Rattle.tool_sample.proofs.PlanLaws.{same_sections}

-- a plan with its files and a script
abbrev pub called_with : PlanData → List (List ℕ) → ScriptData → Broadcast
called_with p images script = record { plan = p; images = images; script = script }

pub broadcast_is : (number sections turns : ℕ) (p : PlanData) (images : List (List ℕ)) (script : ScriptData) → p ≡ plan_in number turns → turns ≡ turns_for sections
    → sections ≡ section_total number → images ≡ modules_of number → script ≡ script_of number → called_with p images script ≡ broadcast_of number
broadcast_is number sections turns p images script plan turns_are count files lost =
    let whole = plan ∙ ap (plan_in number) (turns_are ∙ ap turns_for count) in
    λ i. record { plan = whole i; images = files i; script = lost i }

pub concluded : (number : ℕ) (b : Broadcast) (me : BoxFile) (before after : SureFlash) (outcome : Outcome) → b ≡ broadcast_of number → me ≡ the_box
    → IsFormatted before → Concludes b me (sure_seen before after) outcome → ForOutcome number (λ o. o ≡ outcome)
concluded number b me before after outcome is box formatted concludes =
    let here = subst (λ (m : BoxFile). Concludes b m (sure_seen before after) outcome) box concludes in
    record {
      before = before;
      after = after;
      outcome = outcome;
      formatted = formatted;
      concludes = subst (λ (c : Broadcast). Concludes c the_box (sure_seen before after) outcome) is here;
      sections = sym (ap length (same_sections number (turns_for (section_total number))));
      fact = refl;
    }

pub no_fault : (number : ℕ) (b : Broadcast) (me : BoxFile) (before after : SureFlash) (fault : ChainFault) → b ≡ broadcast_of number → me ≡ the_box
    → IsFormatted before → AreSendable number → IsFault b me (sure_seen before after) fault → IsMemory fault
no_fault number b me before after fault is box formatted sendable says =
    let here = subst (λ (m : BoxFile). IsFault b m (sure_seen before after) fault) box says in
    memory_alone number before after fault formatted sendable (subst (λ (c : Broadcast). IsFault c the_box (sure_seen before after) fault) is here)
