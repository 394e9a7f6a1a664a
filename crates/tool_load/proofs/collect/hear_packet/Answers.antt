use Rattle.std.proofs.Common.{◌≡◌, [], ◌∷◌, ◌++◌}
use Rattle.ts_section.specs.Events.{Listen, Feed, heard, fed}
use Rattle.tool_load.specs.Load.{IsChosen, sections_of}
use Rattle.tool_load.specs.Progress.{StandsFor}
use Rattle.tool_load.proofs.PacketLaws.{heard_packet, follows_more}
use Rattle.tool_load.proofs.collect.hear_packet.Goals as goal

pub returns-in-Err-clause-full : goal.returns-in-Err-clause-full
returns-in-Err-clause-full c = λ _ pid ps follows.
    let packet = c.args.packet.now in
    let each = c.feed.new.each in
    let is : each ≡ heard (Feed packet ∷ fed (Listen (pid ∷ []) ∷ []) ps) = c.feed.ensures.heard (fed (Listen (pid ∷ []) ∷ []) ps) follows.hears in
    let h = c.in-Err.ensures.no_memory (sections_of pid ps) follows.stands in
    (h.0, heard_packet pid ps packet each IsChosen is h.1)

pub returns-in-Ok-clause-more : goal.returns-in-Ok-clause-more
returns-in-Ok-clause-more c = λ more pid ps follows.
    let packet = c.args.packet.now in
    let each = c.feed.new.each in
    let events = fed (Listen (pid ∷ []) ∷ []) ps in
    let is : each ≡ heard (Feed packet ∷ events) = c.feed.ensures.heard events follows.hears in
    let stands : StandsFor c.hear_each.new.progress (sections_of pid (ps ++ packet ∷ [])) =
    heard_packet pid ps packet each (StandsFor c.hear_each.new.progress) is (c.in-Ok.ensures.stands (sections_of pid ps) follows.stands) in
    follows_more pid c.feed.new.self c.hear_each.new.progress ps packet (c.feed.ensures.stands events follows.hears) stands
    (c.next_step.ensures.more more (sections_of pid (ps ++ packet ∷ [])) stands)

pub returns-in-Ok-clause-reached : goal.returns-in-Ok-clause-reached
returns-in-Ok-clause-reached c = λ reached pid ps follows.
    let packet = c.args.packet.now in
    let each = c.feed.new.each in
    let events = fed (Listen (pid ∷ []) ∷ []) ps in
    let is : each ≡ heard (Feed packet ∷ events) = c.feed.ensures.heard events follows.hears in
    let stands : StandsFor c.hear_each.new.progress (sections_of pid (ps ++ packet ∷ [])) =
    heard_packet pid ps packet each (StandsFor c.hear_each.new.progress) is (c.in-Ok.ensures.stands (sections_of pid ps) follows.stands) in
    (stands, c.next_step.ensures.reached reached (sections_of pid (ps ++ packet ∷ [])) stands)

pub returns-in-Ok-clause-full : goal.returns-in-Ok-clause-full
returns-in-Ok-clause-full c = λ full. absurd (c.next_step.ensures.not_full full)
