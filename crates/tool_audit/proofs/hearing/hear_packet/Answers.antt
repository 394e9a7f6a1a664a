use Rattle.std.proofs.Common.{◌≡◌, ◌∙◌, ℕ, ap, eqb, not, List, [], ◌∷◌, ◌++◌}
use Rattle.ssu_audit.specs.Calls.{Call}
use Rattle.ssu_audit.specs.Standing.{Stands}
use Rattle.tool_audit.specs.Calls.{calls_of}
use Rattle.tool_audit.specs.Comes.{HasFact}
use Rattle.tool_audit.proofs.CallsLaws.{is_notice, listening}
use Rattle.tool_audit.proofs.PacketLaws.{follows_more, heard_packet, more_then, stop_then}
use Rattle.ts_section.specs.Events.{Feed, fed, heard}
use Rattle.tool_audit.proofs.hearing.hear_packet.Goals as goal

pub returns-clause-more : goal.returns-clause-more
returns-clause-more c = more_then c.hear_each.result _ _ c.hear_each.ensures.more (λ more. λ notice ps follows.
    let pid = c.args.pid in
    let packet = c.args.packet.now in
    let each = c.feed.new.each in
    let audit = c.hear_each.new.audit in
    let events = fed (listening pid notice) ps in
    let same : c.ne.result ≡ is_notice pid packet = c.ne.ensures ∙ ap (λ (n : ℕ). not (eqb n pid)) c.pid_of.ensures in
    let is : each ≡ heard (Feed packet ∷ events) = c.feed.ensures.heard events follows.hears in
    let stands : Stands (calls_of pid notice (ps ++ packet ∷ [])) audit =
    heard_packet pid notice ps packet each (λ (calls : List Call). Stands calls audit) is (rw (← same) (more (calls_of pid notice ps) follows.stands)) in
    follows_more pid notice c.feed.new.self audit ps packet (c.feed.ensures.stands events follows.hears) stands)

pub returns-clause-fact : goal.returns-clause-fact
returns-clause-fact c = stop_then c.hear_each.result _ _ c.hear_each.ensures.fact (λ why fact. λ notice ps follows.
    let pid = c.args.pid in
    let packet = c.args.packet.now in
    let each = c.feed.new.each in
    let same : c.ne.result ≡ is_notice pid packet = c.ne.ensures ∙ ap (λ (n : ℕ). not (eqb n pid)) c.pid_of.ensures in
    let is : each ≡ heard (Feed packet ∷ fed (listening pid notice) ps) = c.feed.ensures.heard (fed (listening pid notice) ps) follows.hears in
    heard_packet pid notice ps packet each (HasFact why) is (rw (← same) (fact (calls_of pid notice ps) follows.stands)))
