-- What a box hears with one packet more.
use Rattle.std.proofs.Common.{◌≡◌, ℕ, List, ◌∷◌, Option, Some, None, sym, ap, subst, ◌∙◌}
use Rattle.flash_bank.specs.declared.bank.Bank.{Bank}
use Rattle.ssu_answer.specs.declared.chosen.Chosen.{Chosen}
use Rattle.ts_packet.specs.Packet.{pid_of}
use Rattle.ts_section.specs.Events.{Feed, Heard, heard as heard_now}
use Rattle.route_tables.specs.Values.{Receiver}
use Rattle.ssu_route.specs.Queries.{after_all, followed, heard_by}
use Rattle.ssu_route.proofs.Following.{heard_more}
use Rattle.ssu_answer.specs.declared.verdict.Verdict.{Verdict}
use Rattle.ssu_answer.specs.declared.verdict.Verdict.TheVariants.{Installed, Nothing, Incomplete, BadModule, Unsettled}
use Rattle.ssu_loader.specs.Collecting.{BeginsTooMany}
use Rattle.ssu_loader.specs.Decisions.{Reaches, TooMany, Whole, Wrong}
use Rattle.ssu_loader.specs.Leaving.{GoesOn}
use Rattle.ssu_loader.specs.Verdicts.{IsSeen}
use Rattle.ssu_loader.proofs.OneDecisionLaws.{reaches_one}

pub packet_heard : (me : Receiver) (packet : List ℕ) (ps : List (List ℕ)) (each : List (List ℕ)) (pid : ℕ) → pid ≡ pid_of packet → each ≡ heard_now (Feed packet ∷ followed me ps)
    → after_all pid each (heard_by me ps) ≡ heard_by me (packet ∷ ps)
packet_heard me packet ps each pid own is = ap (λ (n : ℕ). after_all n each (heard_by me ps)) own ∙ sym (heard_more me packet ps each is)

-- where the first section that it brings would begin a choice too many
pub packet_alone : (me : Receiver) (packet : List ℕ) (ps : List (List ℕ)) (each : List (List ℕ)) (pid : ℕ) → pid ≡ pid_of packet → each ≡ heard_now (Feed packet ∷ followed me ps)
    → BeginsTooMany me (pid_of packet) (heard_now (Feed packet ∷ followed me ps)) (heard_by me ps) → BeginsTooMany me pid each (heard_by me ps)
packet_alone me packet ps each pid own is many =
    subst (λ (n : ℕ). BeginsTooMany me n each (heard_by me ps)) (sym own)
    (subst (λ (sections : List (List ℕ)). BeginsTooMany me (pid_of packet) sections (heard_by me ps)) (sym is) many)

-- ---- a group that is carried whole

-- the answer, where that is what is decided
pub answer_carried : (known : Type 0) → known → (me : Receiver) (heard : List Heard) (bank : Bank) (x y : List ℕ) (chosen : Chosen) (image : List ℕ) (answer : Option Verdict) → Reaches me heard (Whole chosen image)
    → IsSeen known me heard answer → GoesOn me heard bank x y answer → answer ≡ Some (Installed chosen)
answer_carried known kept me heard bank x y chosen image None reached seen goes = absurd (seen.exact kept (Whole chosen image) reached)
answer_carried known kept me heard bank x y chosen image (Some (Installed c)) reached seen goes =
    let same : Whole c goes.image ≡ Whole chosen image = reaches_one me heard (Whole c goes.image) (Whole chosen image) goes.reached reached in
    let group : c ≡ chosen = cc in
    ap (λ (o : Chosen). Some (Installed o)) group
answer_carried known kept me heard bank x y chosen image (Some (BadModule id want found)) reached seen goes =
    let same : Wrong id want found ≡ Whole chosen image = reaches_one me heard (Wrong id want found) (Whole chosen image) goes.0 reached in
    absurd cc
answer_carried known kept me heard bank x y chosen image (Some Unsettled) reached seen goes =
    let same : TooMany ≡ Whole chosen image = reaches_one me heard TooMany (Whole chosen image) goes.0 reached in
    absurd cc
answer_carried known kept me heard bank x y chosen image (Some (Nothing level)) reached seen goes = absurd seen
answer_carried known kept me heard bank x y chosen image (Some (Incomplete c n)) reached seen goes = absurd seen
