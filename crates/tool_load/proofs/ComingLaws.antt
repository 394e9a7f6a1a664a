-- Which verdict comes where: one that is reached at its packet, and one that is not at the end of the input.
use Rattle.std.proofs.Common.{◌≡◌, ℕ, List, Option, ap, ◌∙◌, arith}
use Rattle.ts_input.specs.Packets.{IsAtEnd, IsWithin}
use Rattle.ssu_answer.specs.declared.level.Level.{Level}
use Rattle.ssu_answer.specs.declared.level.Level.TheVariants.{Linkage, Program, Component, Notice, Window, Group, Modules}
use Rattle.ssu_answer.specs.declared.chosen.Chosen.{Chosen}
use Rattle.ssu_group.specs.Carried.{filling, missing_places}
use Rattle.tool_load.specs.declared.progress.Progress.{Progress}
use Rattle.ssu_answer.specs.declared.verdict.Verdict.{Verdict}
use Rattle.ssu_answer.specs.declared.verdict.Verdict.TheVariants.{Installed, Nothing, Incomplete, BadModule, Unsettled}
use Rattle.tool_load.specs.Load.{IsReached, IsOpen, IsNothing, IsIncomplete, IsVerdict, HearsIn, HearsAtPacket, ComesOf}
use Rattle.tool_load.specs.Progress.{StandsFor}
use Rattle.tool_load.proofs.SearchLaws.{no_group_chosen, wanted_chosen}
use Rattle.ssu_group.proofs.SamePlans.{same_filling, same_missing}
use Rattle.tool_load.proofs.PlanLaws.{one_choice}

reached_nothing : (sections : List (List ℕ)) (level : Level) → IsReached sections → IsNothing sections level → ⊥
reached_nothing sections Linkage is none = none
reached_nothing sections Program is none = none
reached_nothing sections Component is none = none
reached_nothing sections Notice is none = none
reached_nothing sections Window is none = none
reached_nothing sections Group is none = no_group_chosen sections is.group is.plan is.window none is.chooses
reached_nothing sections Modules is none = wanted_chosen sections none.0 is.group is.plan is.window none.1 is.chooses

reached_incomplete : (sections : List (List ℕ)) (chosen : Chosen) (missing : ℕ) → IsReached sections → IsIncomplete sections chosen missing → ⊥
reached_incomplete sections chosen missing is other =
    let one = one_choice sections is.group chosen.group is.plan other.plan is.window other.window is.chooses other.chooses in
    let none : missing ≡ 0 = other.count ∙ same_missing other.plan is.plan (filling other.plan other.window) (filling is.plan other.window) one.is_plan
    (λ n. same_filling other.plan is.plan other.window n one.is_plan) ∙ ap (λ (w : List (List ℕ)). missing_places is.plan (filling is.plan w)) one.is_window ∙ is.filled in
    absurd (omega (arith, none, other.some))

abbrev Tells : Verdict → (List (List ℕ) → Type 0) → Type 0
Tells v Now = (sections : List (List ℕ)) → Now sections → (image : List ℕ) × IsVerdict sections v image

now_at_packet : (pid : ℕ) (left left_after : Option (List ℕ)) (Then Now : List (List ℕ) → Type 0) → HearsAtPacket pid left left_after Then IsOpen
    → ((sections : List (List ℕ)) → Then sections → Now sections) → HearsAtPacket pid left left_after Now IsOpen
now_at_packet pid left left_after Then Now h f = record {
  count = h.count;
  earlier = h.earlier;
  packet = h.packet;
  takes = h.takes;
  whole = h.whole;
  within = h.within;
  one = h.one;
  now = f _ h.now;
  before = h.before;
}

now_in : (pid : ℕ) (left left_after : Option (List ℕ)) (Then Now : List (List ℕ) → Type 0) → HearsIn pid left left_after IsWithin Then
    → ((sections : List (List ℕ)) → Then sections → Now sections) → HearsIn pid left left_after IsWithin Now
now_in pid left left_after Then Now h f = record { taken = h.taken; takes = h.takes; bytes = h.bytes; now = f _ h.now }

pub comes_at_packet : (pid : ℕ) (left left_after : Option (List ℕ)) (progress : Progress) (v : Verdict) (Now : List (List ℕ) → Type 0)
    → HearsAtPacket pid left left_after (λ sections. StandsFor progress sections × IsReached sections) IsOpen
    → ((sections : List (List ℕ)) → StandsFor progress sections → Now sections) → Tells v Now → ComesOf pid left left_after v Now
comes_at_packet pid left left_after progress (Installed chosen) Now h now tells = now_at_packet pid left left_after _ Now h (λ sections p. now sections p.0)
comes_at_packet pid left left_after progress (BadModule id want found) Now h now tells = now_at_packet pid left left_after _ Now h (λ sections p. now sections p.0)
comes_at_packet pid left left_after progress (Nothing level) Now h now tells =
    absurd (reached_nothing _ level h.now.1 (tells _ (now _ h.now.0)).1)
comes_at_packet pid left left_after progress (Incomplete chosen missing) Now h now tells =
    absurd (reached_incomplete _ chosen missing h.now.1 (tells _ (now _ h.now.0)).1)
comes_at_packet pid left left_after progress Unsettled Now h now tells = absurd (tells _ (now _ h.now.0)).1

pub comes_at_end : (pid : ℕ) (left left_after : Option (List ℕ)) (progress : Progress) (v : Verdict) (Now : List (List ℕ) → Type 0)
    → HearsIn pid left left_after IsWithin (λ sections. StandsFor progress sections × IsOpen sections) → IsAtEnd left_after
    → ((sections : List (List ℕ)) → StandsFor progress sections → Now sections) → Tells v Now → ComesOf pid left left_after v Now
comes_at_end pid left left_after progress (Installed chosen) Now h end now tells =
    let is = (tells _ (now _ h.now.0)).1 in
    absurd (h.now.1 (record { group = chosen.group; plan = is.plan; window = is.window; chooses = is.chooses; filled = is.whole.filled }))
comes_at_end pid left left_after progress (BadModule id want found) Now h end now tells =
    let is = (tells _ (now _ h.now.0)).1 in
    absurd (h.now.1 (record { group = is.group; plan = is.plan; window = is.window; chooses = is.chooses; filled = is.wrong.filled }))
comes_at_end pid left left_after progress (Nothing level) Now h end now tells = (now_in pid left left_after _ _ h (λ sections p. (now sections p.0, p.1)), end)
comes_at_end pid left left_after progress (Incomplete chosen missing) Now h end now tells = (now_in pid left left_after _ _ h (λ sections p. (now sections p.0, p.1)), end)
comes_at_end pid left left_after progress Unsettled Now h end now tells = absurd (tells _ (now _ h.now.0)).1
