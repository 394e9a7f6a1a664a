use Rattle.std.proofs.Common.{◌≡◌, ◌∙◌, ◌<◌, ℕ, List, [], ◌∷◌, length, refl, sym, arith}
use Rattle.ssu_io.specs.Bytes.{Takes}
use Rattle.ts_section.specs.Events.{Listen}
use Rattle.ts_section.specs.Hearing.{Hears}
use Rattle.ts_input.specs.Packets.{packets, IsOneMore, IsWithin}
use Rattle.ts_input.proofs.InputLemmas.{byte_taken, nothing_taken, rest_taken}
use Rattle.tool_load.specs.Load.{IsReached, IsChosen, IsOpen, IsUnchosen}
use Rattle.tool_load.specs.Progress.{StandsFor}
use Rattle.tool_load.proofs.PacketLaws.{so_far_none, so_far_more, at_packet, at_end}
use Rattle.tool_load.proofs.collect.collect.Goals as goal

pub loop-alloc-init : goal.loop-alloc-init
loop-alloc-init g c =
    let hears : Hears c.listen.new.self (Listen (c.args.pid ∷ []) ∷ []) = rw (← c.only.ensures) (c.listen.ensures.stands [] c.requires.fresh) in
    record {
      so_far = rw c.new-input.ensures (so_far_none c.args.pid c.listen.new.self c.args.progress.now (g.A.Source.left c.args.air.now) hears c.requires.none);
      within = omega (arith, c.new-input.ensures);
      later = omega arith;
    }

pub returns-in-Reached-clause-reached : goal.returns-in-Reached-clause-reached
returns-in-Reached-clause-reached g c = λ _.
    let left = g.A.Source.left in
    let l = c.loop-alloc in
    let takes : Takes (left l.air) (left c.next.new.air) c.packet.result.now = rw c.packet.ensures (c.loop-alloc-test.ensures.packet refl) in
    let one : length c.packet.result.now ≡ 188 = rw c.packet.ensures c.next.ensures.len in
    let few : l.input.count < 16777216 = omega (arith, c.next.ensures.within, (c.loop-alloc-test.ensures.count refl)) in
    let Now : List (List ℕ) → Type 0 = λ sections. StandsFor c.hear_packet.new.progress sections × IsReached sections in
    at_packet c.args.pid l.input.count l.hearer l.progress (left c.args.air.now) (left l.air) (left c.next.new.air) c.packet.result.now Now IsOpen
    l.invariant.so_far takes one few
    (c.in-Reached.ensures.reached refl c.args.pid (packets l.invariant.so_far.taken) l.invariant.so_far.follows)
    l.invariant.so_far.follows.not_reached

pub returns-in-Full-clause-no_memory : goal.returns-in-Full-clause-no_memory
returns-in-Full-clause-no_memory g c = λ _.
    let left = g.A.Source.left in
    let l = c.loop-alloc in
    let takes : Takes (left l.air) (left c.next.new.air) c.packet.result.now = rw c.packet.ensures (c.loop-alloc-test.ensures.packet refl) in
    let one : length c.packet.result.now ≡ 188 = rw c.packet.ensures c.next.ensures.len in
    let few : l.input.count < 16777216 = omega (arith, c.next.ensures.within, (c.loop-alloc-test.ensures.count refl)) in
    let full = c.in-Full.ensures.full refl c.args.pid (packets l.invariant.so_far.taken) l.invariant.so_far.follows in
    at_packet c.args.pid l.input.count l.hearer l.progress (left c.args.air.now) (left l.air) (left c.next.new.air) c.packet.result.now IsChosen IsUnchosen
    l.invariant.so_far takes one few full.1 full.0

pub loop-alloc-preserved : goal.loop-alloc-preserved
loop-alloc-preserved g c =
    let left = g.A.Source.left in
    let l = c.loop-alloc in
    let takes : Takes (left l.air) (left c.next.new.air) c.packet.result.now = rw c.packet.ensures (c.loop-alloc-test.ensures.packet refl) in
    let one : length c.packet.result.now ≡ 188 = rw c.packet.ensures c.next.ensures.len in
    record {
      so_far = rw (c.loop-alloc-test.ensures.count refl)
          (so_far_more c.args.pid l.input.count l.hearer c.hear_packet.new.hearer l.progress c.hear_packet.new.progress
          (left c.args.air.now) (left l.air) (left c.next.new.air) c.packet.result.now l.invariant.so_far takes one
          (c.in-More.ensures.more refl c.args.pid (packets l.invariant.so_far.taken) l.invariant.so_far.follows));
      within = c.next.ensures.within;
      later = omega (arith, l.invariant.later, c.next.ensures.later);
    }

pub returns-in-End-clause-input : goal.returns-in-End-clause-input
returns-in-End-clause-input g c = λ _.
    let left = g.A.Source.left in
    let so_far = c.loop-alloc.invariant.so_far in
    let ps = packets so_far.taken in
    let Now : List (List ℕ) → Type 0 = λ sections. StandsFor c.loop-alloc.progress sections × IsOpen sections in
    at_end c.args.pid IsWithin (left c.args.air.now) (left c.ended.new.air) ps Now
    (nothing_taken IsWithin (left c.args.air.now) (left c.next.new.air) (left c.ended.new.air) ps
    (rest_taken c.loop-alloc.input.count (left c.args.air.now) (left c.loop-alloc.air) (left c.next.new.air) so_far.taken so_far.takes so_far.whole (c.loop-alloc-test.ensures.rest refl))
    c.in-End.ensures.nothing)
    (so_far.follows.stands, so_far.follows.not_reached)

pub returns-in-Failed-clause-fault : goal.returns-in-Failed-clause-fault
returns-in-Failed-clause-fault g c = λ _.
    let left = g.A.Source.left in
    let so_far = c.loop-alloc.invariant.so_far in
    let ps = packets so_far.taken in
    at_end c.args.pid IsWithin (left c.args.air.now) (left c.ended.new.air) ps IsOpen
    (nothing_taken IsWithin (left c.args.air.now) (left c.next.new.air) (left c.ended.new.air) ps
    (rest_taken c.loop-alloc.input.count (left c.args.air.now) (left c.loop-alloc.air) (left c.next.new.air) so_far.taken so_far.takes so_far.whole (c.loop-alloc-test.ensures.rest refl))
    c.in-Failed.ensures.nothing)
    so_far.follows.not_reached

pub returns-in-TooLong-clause-too_long : goal.returns-in-TooLong-clause-too_long
returns-in-TooLong-clause-too_long g c = λ _.
    let left = g.A.Source.left in
    let so_far = c.loop-alloc.invariant.so_far in
    at_end c.args.pid IsOneMore (left c.args.air.now) (left c.ended.new.air) (packets so_far.taken) IsOpen
    (byte_taken c.loop-alloc.input.count (left c.args.air.now) (left c.loop-alloc.air) (left c.next.new.air) (left c.ended.new.air) so_far.taken so_far.takes so_far.whole
    (c.loop-alloc-test.ensures.rest refl) (sym (c.loop-alloc-test.ensures.same refl) ∙ c.in-TooLong.ensures.most) c.in-TooLong.ensures.too_long)
    so_far.follows.not_reached
