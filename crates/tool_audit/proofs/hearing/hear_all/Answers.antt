use Rattle.std.proofs.Common.{◌≡◌, ◌∙◌, ◌<◌, List, [], ◌∷◌, length, refl, sym, arith}
use Rattle.ssu_audit.specs.Calls.{Call}
use Rattle.ssu_audit.specs.Hearing.{IsOpen}
use Rattle.ssu_audit.specs.Standing.{Stands}
use Rattle.ssu_io.specs.Bytes.{Takes}
use Rattle.tool_audit.specs.Calls.{calls_of, pids_of}
use Rattle.tool_audit.specs.Comes.{HasFact}
use Rattle.tool_audit.proofs.PacketLaws.{at_end, at_packet, so_far_more, so_far_none}
use Rattle.ts_input.specs.Packets.{packets, IsOneMore, IsWithin}
use Rattle.ts_input.proofs.InputLemmas.{byte_taken, nothing_taken, rest_taken}
use Rattle.ts_section.specs.Events.{Listen}
use Rattle.ts_section.specs.Hearing.{Hears}
use Rattle.tool_audit.proofs.hearing.hear_all.Goals as goal

pub loop-pid-init : goal.loop-pid-init
loop-pid-init g c =
    let hears : Hears c.listen.new.self (Listen (pids_of c.args.pid c.args.notice) ∷ []) = rw (← c.listened.ensures) (c.listen.ensures.stands [] c.requires.fresh) in
    record {
      so_far = rw c.new-input.ensures (so_far_none c.args.pid c.args.notice c.listen.new.self c.args.audit.now (g.A.Source.left c.args.air.now) hears c.requires.none);
      within = omega (arith, c.new-input.ensures);
      later = omega arith;
    }

pub hear_packet-requires : goal.hear_packet-requires
hear_packet-requires g c =
    let so_far = c.loop-pid.invariant.so_far in
    record { usable = (calls_of c.args.pid c.args.notice (packets so_far.taken), so_far.follows.stands) }

pub loop-pid-preserved : goal.loop-pid-preserved
loop-pid-preserved g c =
    let left = g.A.Source.left in
    let l = c.loop-pid in
    let takes : Takes (left l.air) (left c.next.new.air) c.packet.result.now = rw c.packet.ensures (c.loop-pid-test.ensures.packet refl) in
    let one : length c.packet.result.now ≡ 188 = rw c.packet.ensures c.next.ensures.len in
    record {
      so_far = rw (c.loop-pid-test.ensures.count refl)
          (so_far_more c.args.pid c.args.notice l.input.count l.hearer c.hear_packet.new.hearer l.audit c.hear_packet.new.audit (left c.args.air.now) (left l.air) (left c.next.new.air) c.packet.result.now
          l.invariant.so_far takes one (c.in-More.ensures.more c.args.notice (packets l.invariant.so_far.taken) l.invariant.so_far.follows));
      within = c.next.ensures.within;
      later = omega (arith, l.invariant.later, c.next.ensures.later);
    }

pub returns-in-Fact-clause-fact : goal.returns-in-Fact-clause-fact
returns-in-Fact-clause-fact g c =
    let left = g.A.Source.left in
    let l = c.loop-pid in
    let takes : Takes (left l.air) (left c.next.new.air) c.packet.result.now = rw c.packet.ensures (c.loop-pid-test.ensures.packet refl) in
    let one : length c.packet.result.now ≡ 188 = rw c.packet.ensures c.next.ensures.len in
    let few : l.input.count < 16777216 = omega (arith, c.next.ensures.within, (c.loop-pid-test.ensures.count refl)) in
    at_packet c.args.pid c.args.notice l.input.count l.hearer l.audit (left c.args.air.now) (left l.air) (left c.next.new.air) c.packet.result.now (HasFact c.in-Fact.no) IsOpen
    l.invariant.so_far takes one few
    (c.in-Fact.ensures.fact c.args.notice (packets l.invariant.so_far.taken) l.invariant.so_far.follows)
    l.invariant.so_far.follows.stands.undecided

pub returns-in-Full-clause-no_memory : goal.returns-in-Full-clause-no_memory
returns-in-Full-clause-no_memory g c =
    let left = g.A.Source.left in
    let l = c.loop-pid in
    let takes : Takes (left l.air) (left c.next.new.air) c.packet.result.now = rw c.packet.ensures (c.loop-pid-test.ensures.packet refl) in
    let one : length c.packet.result.now ≡ 188 = rw c.packet.ensures c.next.ensures.len in
    let few : l.input.count < 16777216 = omega (arith, c.next.ensures.within, (c.loop-pid-test.ensures.count refl)) in
    at_packet c.args.pid c.args.notice l.input.count l.hearer l.audit (left c.args.air.now) (left l.air) (left c.next.new.air) c.packet.result.now (λ (calls : List Call). Unit {0}) IsOpen
    l.invariant.so_far takes one few tt l.invariant.so_far.follows.stands.undecided

pub returns-in-End-clause-input : goal.returns-in-End-clause-input
returns-in-End-clause-input g c =
    let left = g.A.Source.left in
    let l = c.loop-pid in
    let so_far = l.invariant.so_far in
    let ps = packets so_far.taken in
    at_end c.args.pid c.args.notice IsWithin (left c.args.air.now) (left c.ended.new.air) ps (λ (calls : List Call). Stands calls l.audit)
    (nothing_taken IsWithin (left c.args.air.now) (left c.next.new.air) (left c.ended.new.air) ps
    (rest_taken l.input.count (left c.args.air.now) (left l.air) (left c.next.new.air) so_far.taken so_far.takes so_far.whole (c.loop-pid-test.ensures.rest refl))
    c.in-End.ensures.nothing)
    so_far.follows.stands

pub returns-in-Failed-clause-fault : goal.returns-in-Failed-clause-fault
returns-in-Failed-clause-fault g c =
    let left = g.A.Source.left in
    let l = c.loop-pid in
    let so_far = l.invariant.so_far in
    let ps = packets so_far.taken in
    at_end c.args.pid c.args.notice IsWithin (left c.args.air.now) (left c.ended.new.air) ps IsOpen
    (nothing_taken IsWithin (left c.args.air.now) (left c.next.new.air) (left c.ended.new.air) ps
    (rest_taken l.input.count (left c.args.air.now) (left l.air) (left c.next.new.air) so_far.taken so_far.takes so_far.whole (c.loop-pid-test.ensures.rest refl))
    c.in-Failed.ensures.nothing)
    so_far.follows.stands.undecided

pub returns-in-TooLong-clause-too_long : goal.returns-in-TooLong-clause-too_long
returns-in-TooLong-clause-too_long g c =
    let left = g.A.Source.left in
    let l = c.loop-pid in
    let so_far = l.invariant.so_far in
    at_end c.args.pid c.args.notice IsOneMore (left c.args.air.now) (left c.ended.new.air) (packets so_far.taken) IsOpen
    (byte_taken l.input.count (left c.args.air.now) (left l.air) (left c.next.new.air) (left c.ended.new.air) so_far.taken so_far.takes so_far.whole
    (c.loop-pid-test.ensures.rest refl) (sym (c.loop-pid-test.ensures.same refl) ∙ c.in-TooLong.ensures.most) c.in-TooLong.ensures.too_long)
    so_far.follows.stands.undecided
