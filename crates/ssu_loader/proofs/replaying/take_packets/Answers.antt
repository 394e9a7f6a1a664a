use Rattle.std.proofs.Common.{◌≡◌, ◌<◌, List, inl, inr, length, arith, refl, sym, ◌∙◌}
use Rattle.ssu_io.specs.Bytes.{Takes}
use Rattle.flash_bank.specs.Bank.{geometry_of}
use Rattle.ts_section.specs.Events.{Heard}
use Rattle.ssu_loader.specs.Loading.{bank_of}
use Rattle.ts_input.specs.Packets.{IsWithin, IsOneMore}
use Rattle.ssu_loader.specs.Remaining.{StagesLast}
use Rattle.ssu_loader.specs.Replays.{HearsIn}
use Rattle.ssu_loader.specs.Starting.{KnowsKept}
use Rattle.ssu_loader.specs.Verdicts.{IsUndecided}
use Rattle.ssu_loader.proofs.TakingLaws.{ComesLast, EndsLast, at_end, at_packet, decides_something, ended_too_long, ended_within, ends_at, ends_last, kept, knows_heard, knows_packets, last_now, lasts_at, lasts_at_left, lasts_broken, lasts_end, lasts_end_left, leaves_at, left_at, left_kept, newest_packets, open_now, seen_at, seen_last, so_far_more, so_far_none, staged_now, step_at, step_end, step_end_left, step_left, stored_now, undecided_now, KeepsWhereNone, untouched_at, untouched_in, untouched_more}
use Rattle.ssu_loader.proofs.replaying.take_packets.Goals as goal

pub loop-loader-init : goal.loop-loader-init
loop-loader-init g c = record {
  so_far = rw c.new-input.ensures (so_far_none g.S.Stage g.F.Flash c.args.loader.now c.args.flash.now (g.A.Source.left c.args.air.now) g.met.F.Flash.only_now c.requires.usable);
  within = omega (arith, c.new-input.ensures);
  air_later = omega arith;
  flash_later = omega arith;
}

pub returns-in-End-clause-seen : goal.returns-in-End-clause-seen
returns-in-End-clause-seen g c = λ me follows.
    let left = g.A.Source.left in
    let l = c.loop-loader in
    let follows_now = l.invariant.so_far.follows me follows in
    let ps = newest_packets l.invariant.so_far.taken in
    let hears : HearsIn me (left c.args.air.now) (left c.ended.new.air) IsWithin (ComesLast (KnowsKept g.S.Stage g.F.Flash) me c.end.result) =
    at_end g.S.Stage g.F.Flash l.input.count c.args.loader.now l.loader c.args.flash.now l.flash (left c.args.air.now) (left l.air) l.invariant.so_far me (left c.ended.new.air) IsWithin (ComesLast (KnowsKept g.S.Stage g.F.Flash) me c.end.result) (ended_within g.S.Stage g.F.Flash l.input.count c.args.loader.now l.loader c.args.flash.now l.flash (left c.args.air.now) (left l.air) l.invariant.so_far (left c.next.new.air) (left c.ended.new.air) (c.loop-loader-test.ensures.rest refl) c.in-End.ensures.nothing)
    (record {
      undecided = undecided_now g.S.Stage g.F.Flash l.input.count c.args.loader.now l.loader c.args.flash.now l.flash (left c.args.air.now) (left l.air) l.invariant.so_far me follows;
      partial = c.end.ensures.partial me ps (knows_heard g.S.Stage g.F.Flash me ps l.loader l.flash follows_now);
      exact = λ kept. c.end.ensures.verdict me ps (knows_packets g.S.Stage g.F.Flash me ps l.loader l.flash follows_now kept);
    }) in
    seen_last (KnowsKept g.S.Stage g.F.Flash) me c.end.result (left c.args.air.now) (left c.ended.new.air) hears (c.in-End.ensures.end c.loop-loader-test.ensures.end)

pub returns-in-End-clause-ends : goal.returns-in-End-clause-ends
returns-in-End-clause-ends g c = λ tells me follows.
    let left = g.A.Source.left in
    let l = c.loop-loader in
    let s = g.S.Stage in
    let f = g.F.Flash in
    let blocks = geometry_of (bank_of c.args.loader.now) in
    let y = f.contents l.flash in
    let ps = newest_packets l.invariant.so_far.taken in
    let now = EndsLast s.IN_BANK s.KEEPS blocks y me c.end.result in
    ends_last s.IN_BANK s.KEEPS me c.end.result (left c.args.air.now) (left c.ended.new.air) blocks (f.contents c.args.flash.now) y
    (at_end g.S.Stage g.F.Flash l.input.count c.args.loader.now l.loader c.args.flash.now l.flash (left c.args.air.now) (left l.air) l.invariant.so_far me (left c.ended.new.air) IsWithin now (ended_within g.S.Stage g.F.Flash l.input.count c.args.loader.now l.loader c.args.flash.now l.flash (left c.args.air.now) (left l.air) l.invariant.so_far (left c.next.new.air) (left c.ended.new.air) (c.loop-loader-test.ensures.rest refl) c.in-End.ensures.nothing) (
      c.end.ensures.verdict me ps (knows_packets s f me ps l.loader l.flash (l.invariant.so_far.follows me follows) (inr tells)),
      open_now g.S.Stage g.F.Flash l.input.count c.args.loader.now l.loader c.args.flash.now l.flash (left c.args.air.now) (left l.air) l.invariant.so_far tells me follows,
      λ in_bank. stored_now g.S.Stage g.F.Flash l.input.count c.args.loader.now l.loader c.args.flash.now l.flash (left c.args.air.now) (left l.air) l.invariant.so_far g.met.S.Stage.in_bank in_bank tells me follows,
      λ keeps. staged_now g.S.Stage g.F.Flash l.input.count c.args.loader.now l.loader c.args.flash.now l.flash (left c.args.air.now) (left l.air) l.invariant.so_far keeps tells me follows,
      λ keeps. last_now g.S.Stage g.F.Flash l.input.count c.args.loader.now l.loader c.args.flash.now l.flash (left c.args.air.now) (left l.air) l.invariant.so_far keeps tells me follows,
    ))
    (c.in-End.ensures.end c.loop-loader-test.ensures.end)
    (kept g.S.Stage g.F.Flash l.input.count c.args.loader.now l.loader c.args.flash.now l.flash (left c.args.air.now) (left l.air) l.invariant.so_far tells)

pub returns-in-End-clause-held : goal.returns-in-End-clause-held
returns-in-End-clause-held g c = λ tells me follows.
    let left = g.A.Source.left in
    let l = c.loop-loader in
    inl (kept g.S.Stage g.F.Flash l.input.count c.args.loader.now l.loader c.args.flash.now l.flash (left c.args.air.now) (left l.air) l.invariant.so_far tells)

pub returns-in-End-clause-left : goal.returns-in-End-clause-left
returns-in-End-clause-left g c = λ tells me follows.
    let left = g.A.Source.left in
    let l = c.loop-loader in
    left_kept g.S.Stage g.F.Flash l.input.count c.args.loader.now l.loader c.args.flash.now l.flash (left c.args.air.now) (left l.air) l.invariant.so_far me (left c.ended.new.air) tells

pub returns-in-End-clause-untouched : goal.returns-in-End-clause-untouched
returns-in-End-clause-untouched g c = λ me follows.
    let left = g.A.Source.left in
    let l = c.loop-loader in
    untouched_in me (left c.args.air.now) (left c.ended.new.air) IsWithin c.args.flash.now l.flash
    (at_end g.S.Stage g.F.Flash l.input.count c.args.loader.now l.loader c.args.flash.now l.flash (left c.args.air.now) (left l.air) l.invariant.so_far me (left c.ended.new.air) IsWithin (KeepsWhereNone me c.args.flash.now l.flash) (ended_within g.S.Stage g.F.Flash l.input.count c.args.loader.now l.loader c.args.flash.now l.flash (left c.args.air.now) (left l.air) l.invariant.so_far (left c.next.new.air) (left c.ended.new.air) (c.loop-loader-test.ensures.rest refl) c.in-End.ensures.nothing) (l.invariant.so_far.untouched me follows))

pub returns-in-Failed-clause-held : goal.returns-in-Failed-clause-held
returns-in-Failed-clause-held g c = λ tells me follows.
    let left = g.A.Source.left in
    let l = c.loop-loader in
    inl (kept g.S.Stage g.F.Flash l.input.count c.args.loader.now l.loader c.args.flash.now l.flash (left c.args.air.now) (left l.air) l.invariant.so_far tells)

pub returns-in-Failed-clause-left : goal.returns-in-Failed-clause-left
returns-in-Failed-clause-left g c = λ tells me follows.
    let left = g.A.Source.left in
    let l = c.loop-loader in
    left_kept g.S.Stage g.F.Flash l.input.count c.args.loader.now l.loader c.args.flash.now l.flash (left c.args.air.now) (left l.air) l.invariant.so_far me (left c.ended.new.air) tells

pub returns-in-Failed-clause-kept : goal.returns-in-Failed-clause-kept
returns-in-Failed-clause-kept g c = λ tells which.
    let left = g.A.Source.left in
    let l = c.loop-loader in
    kept g.S.Stage g.F.Flash l.input.count c.args.loader.now l.loader c.args.flash.now l.flash (left c.args.air.now) (left l.air) l.invariant.so_far tells

pub returns-in-Failed-clause-untouched : goal.returns-in-Failed-clause-untouched
returns-in-Failed-clause-untouched g c = λ me follows.
    let left = g.A.Source.left in
    let l = c.loop-loader in
    untouched_in me (left c.args.air.now) (left c.ended.new.air) IsWithin c.args.flash.now l.flash
    (at_end g.S.Stage g.F.Flash l.input.count c.args.loader.now l.loader c.args.flash.now l.flash (left c.args.air.now) (left l.air) l.invariant.so_far me (left c.ended.new.air) IsWithin (KeepsWhereNone me c.args.flash.now l.flash) (ended_within g.S.Stage g.F.Flash l.input.count c.args.loader.now l.loader c.args.flash.now l.flash (left c.args.air.now) (left l.air) l.invariant.so_far (left c.next.new.air) (left c.ended.new.air) (c.loop-loader-test.ensures.rest refl) c.in-Failed.ensures.nothing) (l.invariant.so_far.untouched me follows))

pub returns-in-TooLong-clause-held : goal.returns-in-TooLong-clause-held
returns-in-TooLong-clause-held g c = λ tells me follows.
    let left = g.A.Source.left in
    let l = c.loop-loader in
    inl (kept g.S.Stage g.F.Flash l.input.count c.args.loader.now l.loader c.args.flash.now l.flash (left c.args.air.now) (left l.air) l.invariant.so_far tells)

pub returns-in-TooLong-clause-left : goal.returns-in-TooLong-clause-left
returns-in-TooLong-clause-left g c = λ tells me follows.
    let left = g.A.Source.left in
    let l = c.loop-loader in
    left_kept g.S.Stage g.F.Flash l.input.count c.args.loader.now l.loader c.args.flash.now l.flash (left c.args.air.now) (left l.air) l.invariant.so_far me (left c.ended.new.air) tells

pub returns-in-TooLong-clause-kept : goal.returns-in-TooLong-clause-kept
returns-in-TooLong-clause-kept g c = λ tells which.
    let left = g.A.Source.left in
    let l = c.loop-loader in
    kept g.S.Stage g.F.Flash l.input.count c.args.loader.now l.loader c.args.flash.now l.flash (left c.args.air.now) (left l.air) l.invariant.so_far tells

pub returns-in-TooLong-clause-untouched : goal.returns-in-TooLong-clause-untouched
returns-in-TooLong-clause-untouched g c = λ me follows.
    let left = g.A.Source.left in
    let l = c.loop-loader in
    untouched_in me (left c.args.air.now) (left c.ended.new.air) IsOneMore c.args.flash.now l.flash
    (at_end g.S.Stage g.F.Flash l.input.count c.args.loader.now l.loader c.args.flash.now l.flash (left c.args.air.now) (left l.air) l.invariant.so_far me (left c.ended.new.air) IsOneMore (KeepsWhereNone me c.args.flash.now l.flash) (ended_too_long g.S.Stage g.F.Flash l.input.count c.args.loader.now l.loader c.args.flash.now l.flash (left c.args.air.now) (left l.air) l.invariant.so_far (left c.next.new.air) (left c.ended.new.air) (c.loop-loader-test.ensures.rest refl) (sym (c.loop-loader-test.ensures.same refl) ∙ c.in-TooLong.ensures.most) c.in-TooLong.ensures.too_long) (l.invariant.so_far.untouched me follows))

pub returns-in-Failed-clause-read_fault : goal.returns-in-Failed-clause-read_fault
returns-in-Failed-clause-read_fault g c = λ me follows is.
    let left = g.A.Source.left in
    let l = c.loop-loader in
    at_end g.S.Stage g.F.Flash l.input.count c.args.loader.now l.loader c.args.flash.now l.flash (left c.args.air.now) (left l.air) l.invariant.so_far me (left c.ended.new.air) IsWithin (IsUndecided (KnowsKept g.S.Stage g.F.Flash) me) (ended_within g.S.Stage g.F.Flash l.input.count c.args.loader.now l.loader c.args.flash.now l.flash (left c.args.air.now) (left l.air) l.invariant.so_far (left c.next.new.air) (left c.ended.new.air) (c.loop-loader-test.ensures.rest refl) c.in-Failed.ensures.nothing) (undecided_now g.S.Stage g.F.Flash l.input.count c.args.loader.now l.loader c.args.flash.now l.flash (left c.args.air.now) (left l.air) l.invariant.so_far me follows)

pub returns-in-TooLong-clause-too_long : goal.returns-in-TooLong-clause-too_long
returns-in-TooLong-clause-too_long g c = λ me follows is.
    let left = g.A.Source.left in
    let l = c.loop-loader in
    at_end g.S.Stage g.F.Flash l.input.count c.args.loader.now l.loader c.args.flash.now l.flash (left c.args.air.now) (left l.air) l.invariant.so_far me (left c.ended.new.air) IsOneMore (IsUndecided (KnowsKept g.S.Stage g.F.Flash) me) (ended_too_long g.S.Stage g.F.Flash l.input.count c.args.loader.now l.loader c.args.flash.now l.flash (left c.args.air.now) (left l.air) l.invariant.so_far (left c.next.new.air) (left c.ended.new.air) (c.loop-loader-test.ensures.rest refl) (sym (c.loop-loader-test.ensures.same refl) ∙ c.in-TooLong.ensures.most) c.in-TooLong.ensures.too_long) (undecided_now g.S.Stage g.F.Flash l.input.count c.args.loader.now l.loader c.args.flash.now l.flash (left c.args.air.now) (left l.air) l.invariant.so_far me follows)

pub returns-in-Ok-Some-clause-ends : goal.returns-in-Ok-Some-clause-ends
returns-in-Ok-Some-clause-ends g c = λ tells me follows.
    let left = g.A.Source.left in
    let l = c.loop-loader in
    let takes : Takes (left l.air) (left c.next.new.air) c.packet.result.now = rw c.packet.ensures (c.loop-loader-test.ensures.packet refl) in
    let one : length c.packet.result.now ≡ 188 = rw c.packet.ensures c.next.ensures.len in
    let few : l.input.count < 16777216 = omega (arith, c.next.ensures.within, (c.loop-loader-test.ensures.count refl)) in
    let follows_now = l.invariant.so_far.follows me follows in
    let ps = newest_packets l.invariant.so_far.taken in
    let is = c.in-Ok-Some.field-0-is in
    ends_at g.S.Stage g.F.Flash l.input.count c.args.loader.now l.loader c.args.flash.now l.flash (left c.args.air.now) (left l.air) l.invariant.so_far me (left c.next.new.air) c.packet.result.now takes one few tells follows
    g.met.S.Stage.in_bank c.in-Ok-Some.verdict c.packet-in-loop-loader.new.flash (rw is at (c.in-Ok-Some.ensures.goes_on tells me ps follows_now)) (rw is at (c.in-Ok-Some.ensures.too_many me ps follows_now))
    (λ in_bank. rw is at (c.in-Ok-Some.ensures.no_prev in_bank tells)) (λ keeps. rw is at (c.in-Ok-Some.ensures.forgotten keeps tells))
    c.in-Ok-Some.ensures.blocks c.in-Ok-Some.ensures.block_size

pub returns-in-Ok-Some-clause-held : goal.returns-in-Ok-Some-clause-held
returns-in-Ok-Some-clause-held g c = λ tells me follows.
    let left = g.A.Source.left in
    let l = c.loop-loader in
    let takes : Takes (left l.air) (left c.next.new.air) c.packet.result.now = rw c.packet.ensures (c.loop-loader-test.ensures.packet refl) in
    let one : length c.packet.result.now ≡ 188 = rw c.packet.ensures c.next.ensures.len in
    let few : l.input.count < 16777216 = omega (arith, c.next.ensures.within, (c.loop-loader-test.ensures.count refl)) in
    let follows_now = l.invariant.so_far.follows me follows in
    let ps = newest_packets l.invariant.so_far.taken in
    leaves_at g.S.Stage g.F.Flash l.input.count c.args.loader.now l.loader c.args.flash.now l.flash (left c.args.air.now) (left l.air) l.invariant.so_far me (left c.next.new.air) c.packet.result.now takes one few tells follows (g.F.Flash.contents c.packet-in-loop-loader.new.flash) (c.in-Ok-Some.ensures.held tells me ps follows_now)

pub returns-in-Ok-Some-clause-left : goal.returns-in-Ok-Some-clause-left
returns-in-Ok-Some-clause-left g c = λ tells me follows.
    let left = g.A.Source.left in
    let l = c.loop-loader in
    let takes : Takes (left l.air) (left c.next.new.air) c.packet.result.now = rw c.packet.ensures (c.loop-loader-test.ensures.packet refl) in
    let one : length c.packet.result.now ≡ 188 = rw c.packet.ensures c.next.ensures.len in
    let few : l.input.count < 16777216 = omega (arith, c.next.ensures.within, (c.loop-loader-test.ensures.count refl)) in
    let follows_now = l.invariant.so_far.follows me follows in
    let ps = newest_packets l.invariant.so_far.taken in
    left_at g.S.Stage g.F.Flash l.input.count c.args.loader.now l.loader c.args.flash.now l.flash (left c.args.air.now) (left l.air) l.invariant.so_far me (left c.next.new.air) c.packet.result.now takes one few tells follows c.packet-in-loop-loader.new.flash (c.in-Ok-Some.ensures.left tells me ps follows_now)

pub returns-in-Ok-Some-clause-untouched : goal.returns-in-Ok-Some-clause-untouched
returns-in-Ok-Some-clause-untouched g c = λ me follows.
    let left = g.A.Source.left in
    let l = c.loop-loader in
    let takes : Takes (left l.air) (left c.next.new.air) c.packet.result.now = rw c.packet.ensures (c.loop-loader-test.ensures.packet refl) in
    let one : length c.packet.result.now ≡ 188 = rw c.packet.ensures c.next.ensures.len in
    let few : l.input.count < 16777216 = omega (arith, c.next.ensures.within, (c.loop-loader-test.ensures.count refl)) in
    let follows_now = l.invariant.so_far.follows me follows in
    let ps = newest_packets l.invariant.so_far.taken in
    untouched_at me (left c.args.air.now) (left c.next.new.air) (IsUndecided (KnowsKept g.S.Stage g.F.Flash) me) c.args.flash.now c.packet-in-loop-loader.new.flash
    (at_packet g.S.Stage g.F.Flash l.input.count c.args.loader.now l.loader c.args.flash.now l.flash (left c.args.air.now) (left l.air) l.invariant.so_far me (left c.next.new.air) c.packet.result.now (KeepsWhereNone me c.args.flash.now c.packet-in-loop-loader.new.flash) (IsUndecided (KnowsKept g.S.Stage g.F.Flash) me) takes one few
    (untouched_more g.S.Stage g.F.Flash l.input.count c.args.loader.now l.loader c.args.flash.now l.flash (left c.args.air.now) (left l.air) l.invariant.so_far me c.packet.result.now c.packet-in-loop-loader.new.flash follows (c.in-Ok-Some.ensures.untouched me ps follows_now))
    (undecided_now g.S.Stage g.F.Flash l.input.count c.args.loader.now l.loader c.args.flash.now l.flash (left c.args.air.now) (left l.air) l.invariant.so_far me follows))

pub returns-in-Err-clause-held : goal.returns-in-Err-clause-held
returns-in-Err-clause-held g c = λ tells me follows.
    let left = g.A.Source.left in
    let l = c.loop-loader in
    let takes : Takes (left l.air) (left c.next.new.air) c.packet.result.now = rw c.packet.ensures (c.loop-loader-test.ensures.packet refl) in
    let one : length c.packet.result.now ≡ 188 = rw c.packet.ensures c.next.ensures.len in
    let few : l.input.count < 16777216 = omega (arith, c.next.ensures.within, (c.loop-loader-test.ensures.count refl)) in
    let follows_now = l.invariant.so_far.follows me follows in
    let ps = newest_packets l.invariant.so_far.taken in
    leaves_at g.S.Stage g.F.Flash l.input.count c.args.loader.now l.loader c.args.flash.now l.flash (left c.args.air.now) (left l.air) l.invariant.so_far me (left c.next.new.air) c.packet.result.now takes one few tells follows (g.F.Flash.contents c.packet-in-loop-loader.new.flash) (c.in-Err.ensures.held tells me ps follows_now)

pub returns-in-Err-clause-left : goal.returns-in-Err-clause-left
returns-in-Err-clause-left g c = λ tells me follows.
    let left = g.A.Source.left in
    let l = c.loop-loader in
    let takes : Takes (left l.air) (left c.next.new.air) c.packet.result.now = rw c.packet.ensures (c.loop-loader-test.ensures.packet refl) in
    let one : length c.packet.result.now ≡ 188 = rw c.packet.ensures c.next.ensures.len in
    let few : l.input.count < 16777216 = omega (arith, c.next.ensures.within, (c.loop-loader-test.ensures.count refl)) in
    let follows_now = l.invariant.so_far.follows me follows in
    let ps = newest_packets l.invariant.so_far.taken in
    left_at g.S.Stage g.F.Flash l.input.count c.args.loader.now l.loader c.args.flash.now l.flash (left c.args.air.now) (left l.air) l.invariant.so_far me (left c.next.new.air) c.packet.result.now takes one few tells follows c.packet-in-loop-loader.new.flash (c.in-Err.ensures.left tells me ps follows_now)

pub returns-in-Err-clause-untouched : goal.returns-in-Err-clause-untouched
returns-in-Err-clause-untouched g c = λ me follows.
    let left = g.A.Source.left in
    let l = c.loop-loader in
    let takes : Takes (left l.air) (left c.next.new.air) c.packet.result.now = rw c.packet.ensures (c.loop-loader-test.ensures.packet refl) in
    let one : length c.packet.result.now ≡ 188 = rw c.packet.ensures c.next.ensures.len in
    let few : l.input.count < 16777216 = omega (arith, c.next.ensures.within, (c.loop-loader-test.ensures.count refl)) in
    let follows_now = l.invariant.so_far.follows me follows in
    let ps = newest_packets l.invariant.so_far.taken in
    untouched_at me (left c.args.air.now) (left c.next.new.air) (IsUndecided (KnowsKept g.S.Stage g.F.Flash) me) c.args.flash.now c.packet-in-loop-loader.new.flash
    (at_packet g.S.Stage g.F.Flash l.input.count c.args.loader.now l.loader c.args.flash.now l.flash (left c.args.air.now) (left l.air) l.invariant.so_far me (left c.next.new.air) c.packet.result.now (KeepsWhereNone me c.args.flash.now c.packet-in-loop-loader.new.flash) (IsUndecided (KnowsKept g.S.Stage g.F.Flash) me) takes one few
    (untouched_more g.S.Stage g.F.Flash l.input.count c.args.loader.now l.loader c.args.flash.now l.flash (left c.args.air.now) (left l.air) l.invariant.so_far me c.packet.result.now c.packet-in-loop-loader.new.flash follows (c.in-Err.ensures.untouched me ps follows_now))
    (undecided_now g.S.Stage g.F.Flash l.input.count c.args.loader.now l.loader c.args.flash.now l.flash (left c.args.air.now) (left l.air) l.invariant.so_far me follows))

pub returns-in-Ok-Some-clause-seen : goal.returns-in-Ok-Some-clause-seen
returns-in-Ok-Some-clause-seen g c = λ me follows.
    let left = g.A.Source.left in
    let l = c.loop-loader in
    let takes : Takes (left l.air) (left c.next.new.air) c.packet.result.now = rw c.packet.ensures (c.loop-loader-test.ensures.packet refl) in
    let one : length c.packet.result.now ≡ 188 = rw c.packet.ensures c.next.ensures.len in
    let few : l.input.count < 16777216 = omega (arith, c.next.ensures.within, (c.loop-loader-test.ensures.count refl)) in
    let follows_now = l.invariant.so_far.follows me follows in
    let ps = newest_packets l.invariant.so_far.taken in
    seen_at g.S.Stage g.F.Flash l.input.count c.args.loader.now l.loader c.args.flash.now l.flash (left c.args.air.now) (left l.air) l.invariant.so_far me (left c.next.new.air) c.packet.result.now takes one few follows c.in-Ok-Some.verdict
    (rw c.in-Ok-Some.field-0-is at (c.in-Ok-Some.ensures.seen me ps follows_now))

pub returns-in-Err-clause-flash_fault : goal.returns-in-Err-clause-flash_fault
returns-in-Err-clause-flash_fault g c = λ me follows is.
    let left = g.A.Source.left in
    let l = c.loop-loader in
    let takes : Takes (left l.air) (left c.next.new.air) c.packet.result.now = rw c.packet.ensures (c.loop-loader-test.ensures.packet refl) in
    let one : length c.packet.result.now ≡ 188 = rw c.packet.ensures c.next.ensures.len in
    let few : l.input.count < 16777216 = omega (arith, c.next.ensures.within, (c.loop-loader-test.ensures.count refl)) in
    let anything : List Heard → Type 0 = λ heard. Unit {0} in
    at_packet g.S.Stage g.F.Flash l.input.count c.args.loader.now l.loader c.args.flash.now l.flash (left c.args.air.now) (left l.air) l.invariant.so_far me (left c.next.new.air) c.packet.result.now anything (IsUndecided (KnowsKept g.S.Stage g.F.Flash) me) takes one few tt (undecided_now g.S.Stage g.F.Flash l.input.count c.args.loader.now l.loader c.args.flash.now l.flash (left c.args.air.now) (left l.air) l.invariant.so_far me follows)

pub loop-loader-preserved : goal.loop-loader-preserved
loop-loader-preserved g c =
    let left = g.A.Source.left in
    let l = c.loop-loader in
    let takes : Takes (left l.air) (left c.next.new.air) c.packet.result.now = rw c.packet.ensures (c.loop-loader-test.ensures.packet refl) in
    let one : length c.packet.result.now ≡ 188 = rw c.packet.ensures c.next.ensures.len in
    let is = c.in-Ok-None.field-0-is in
    record {
      so_far = rw (c.loop-loader-test.ensures.count refl)
          (so_far_more g.S.Stage g.F.Flash l.input.count c.args.loader.now l.loader c.args.flash.now l.flash (left c.args.air.now) (left l.air) l.invariant.so_far c.packet-in-loop-loader.new.self c.packet-in-loop-loader.new.flash (left c.next.new.air) c.packet.result.now takes one
          (record {
            follows = λ me ps follows. rw is at (c.in-Ok-None.ensures.follows me ps follows);
            held = λ tells me ps follows. rw is at (c.in-Ok-None.ensures.goes_on tells me ps follows);
            left = c.in-Ok-None.ensures.left;
            holds = c.in-Ok-None.ensures.holds;
            holds_left = c.in-Ok-None.ensures.holds_left;
            lasts = c.in-Ok-None.ensures.lasts;
            lasts_left = c.in-Ok-None.ensures.lasts_left;
            margin = λ keeps tells me ps follows. rw is at (c.in-Ok-None.ensures.margin keeps tells me ps follows);
            untouched = c.in-Ok-None.ensures.untouched;
            same_bank = rw is at c.in-Ok-None.ensures.same_bank;
            blocks = c.in-Ok-None.ensures.blocks;
            block_size = c.in-Ok-None.ensures.block_size;
          }));
      within = c.next.ensures.within;
      air_later = omega (arith, l.invariant.air_later, c.next.ensures.later);
      flash_later = omega (arith, l.invariant.flash_later, c.in-Ok-None.ensures.cause.later);
    }

pub returns-in-End-clause-steps : goal.returns-in-End-clause-steps
returns-in-End-clause-steps g c = λ tells me follows.
    let left = g.A.Source.left in
    let l = c.loop-loader in
    step_end g.S.Stage g.F.Flash l.input.count c.args.loader.now l.loader c.args.flash.now l.flash (left c.args.air.now) (left l.air) l.invariant.so_far me (left c.ended.new.air) IsWithin (ended_within g.S.Stage g.F.Flash l.input.count c.args.loader.now l.loader c.args.flash.now l.flash (left c.args.air.now) (left l.air) l.invariant.so_far (left c.next.new.air) (left c.ended.new.air) (c.loop-loader-test.ensures.rest refl) c.in-End.ensures.nothing) tells follows

pub returns-in-End-clause-steps_left : goal.returns-in-End-clause-steps_left
returns-in-End-clause-steps_left g c = λ tells me follows.
    let left = g.A.Source.left in
    let l = c.loop-loader in
    step_end_left g.S.Stage g.F.Flash l.input.count c.args.loader.now l.loader c.args.flash.now l.flash (left c.args.air.now) (left l.air) l.invariant.so_far me (left c.ended.new.air) IsWithin (ended_within g.S.Stage g.F.Flash l.input.count c.args.loader.now l.loader c.args.flash.now l.flash (left c.args.air.now) (left l.air) l.invariant.so_far (left c.next.new.air) (left c.ended.new.air) (c.loop-loader-test.ensures.rest refl) c.in-End.ensures.nothing) tells follows

pub returns-in-Failed-clause-steps : goal.returns-in-Failed-clause-steps
returns-in-Failed-clause-steps g c = λ tells me follows.
    let left = g.A.Source.left in
    let l = c.loop-loader in
    step_end g.S.Stage g.F.Flash l.input.count c.args.loader.now l.loader c.args.flash.now l.flash (left c.args.air.now) (left l.air) l.invariant.so_far me (left c.ended.new.air) IsWithin (ended_within g.S.Stage g.F.Flash l.input.count c.args.loader.now l.loader c.args.flash.now l.flash (left c.args.air.now) (left l.air) l.invariant.so_far (left c.next.new.air) (left c.ended.new.air) (c.loop-loader-test.ensures.rest refl) c.in-Failed.ensures.nothing) tells follows

pub returns-in-Failed-clause-steps_left : goal.returns-in-Failed-clause-steps_left
returns-in-Failed-clause-steps_left g c = λ tells me follows.
    let left = g.A.Source.left in
    let l = c.loop-loader in
    step_end_left g.S.Stage g.F.Flash l.input.count c.args.loader.now l.loader c.args.flash.now l.flash (left c.args.air.now) (left l.air) l.invariant.so_far me (left c.ended.new.air) IsWithin (ended_within g.S.Stage g.F.Flash l.input.count c.args.loader.now l.loader c.args.flash.now l.flash (left c.args.air.now) (left l.air) l.invariant.so_far (left c.next.new.air) (left c.ended.new.air) (c.loop-loader-test.ensures.rest refl) c.in-Failed.ensures.nothing) tells follows

pub returns-in-TooLong-clause-steps : goal.returns-in-TooLong-clause-steps
returns-in-TooLong-clause-steps g c = λ tells me follows.
    let left = g.A.Source.left in
    let l = c.loop-loader in
    step_end g.S.Stage g.F.Flash l.input.count c.args.loader.now l.loader c.args.flash.now l.flash (left c.args.air.now) (left l.air) l.invariant.so_far me (left c.ended.new.air) IsOneMore (ended_too_long g.S.Stage g.F.Flash l.input.count c.args.loader.now l.loader c.args.flash.now l.flash (left c.args.air.now) (left l.air) l.invariant.so_far (left c.next.new.air) (left c.ended.new.air) (c.loop-loader-test.ensures.rest refl) (sym (c.loop-loader-test.ensures.same refl) ∙ c.in-TooLong.ensures.most) c.in-TooLong.ensures.too_long) tells follows

pub returns-in-TooLong-clause-steps_left : goal.returns-in-TooLong-clause-steps_left
returns-in-TooLong-clause-steps_left g c = λ tells me follows.
    let left = g.A.Source.left in
    let l = c.loop-loader in
    step_end_left g.S.Stage g.F.Flash l.input.count c.args.loader.now l.loader c.args.flash.now l.flash (left c.args.air.now) (left l.air) l.invariant.so_far me (left c.ended.new.air) IsOneMore (ended_too_long g.S.Stage g.F.Flash l.input.count c.args.loader.now l.loader c.args.flash.now l.flash (left c.args.air.now) (left l.air) l.invariant.so_far (left c.next.new.air) (left c.ended.new.air) (c.loop-loader-test.ensures.rest refl) (sym (c.loop-loader-test.ensures.same refl) ∙ c.in-TooLong.ensures.most) c.in-TooLong.ensures.too_long) tells follows

pub returns-in-Ok-Some-clause-steps : goal.returns-in-Ok-Some-clause-steps
returns-in-Ok-Some-clause-steps g c = λ tells me follows.
    let left = g.A.Source.left in
    let l = c.loop-loader in
    let takes : Takes (left l.air) (left c.next.new.air) c.packet.result.now = rw c.packet.ensures (c.loop-loader-test.ensures.packet refl) in
    let one : length c.packet.result.now ≡ 188 = rw c.packet.ensures c.next.ensures.len in
    let few : l.input.count < 16777216 = omega (arith, c.next.ensures.within, (c.loop-loader-test.ensures.count refl)) in
    let follows_now = l.invariant.so_far.follows me follows in
    let ps = newest_packets l.invariant.so_far.taken in
    step_at g.S.Stage g.F.Flash l.input.count c.args.loader.now l.loader c.args.flash.now l.flash (left c.args.air.now) (left l.air) l.invariant.so_far me (left c.next.new.air) c.packet.result.now takes one few tells follows (g.F.Flash.contents c.packet-in-loop-loader.new.flash)
    (c.in-Ok-Some.ensures.held tells me ps follows_now) (c.in-Ok-Some.ensures.holds tells me ps follows_now)

pub returns-in-Ok-Some-clause-steps_left : goal.returns-in-Ok-Some-clause-steps_left
returns-in-Ok-Some-clause-steps_left g c = λ tells me follows.
    let left = g.A.Source.left in
    let l = c.loop-loader in
    let takes : Takes (left l.air) (left c.next.new.air) c.packet.result.now = rw c.packet.ensures (c.loop-loader-test.ensures.packet refl) in
    let one : length c.packet.result.now ≡ 188 = rw c.packet.ensures c.next.ensures.len in
    let few : l.input.count < 16777216 = omega (arith, c.next.ensures.within, (c.loop-loader-test.ensures.count refl)) in
    let follows_now = l.invariant.so_far.follows me follows in
    let ps = newest_packets l.invariant.so_far.taken in
    step_left g.S.Stage g.F.Flash l.input.count c.args.loader.now l.loader c.args.flash.now l.flash (left c.args.air.now) (left l.air) l.invariant.so_far me (left c.next.new.air) c.packet.result.now takes one few tells follows c.packet-in-loop-loader.new.flash
    (c.in-Ok-Some.ensures.left tells me ps follows_now) (c.in-Ok-Some.ensures.holds_left tells me ps follows_now)

pub returns-in-Err-clause-steps : goal.returns-in-Err-clause-steps
returns-in-Err-clause-steps g c = λ tells me follows.
    let left = g.A.Source.left in
    let l = c.loop-loader in
    let takes : Takes (left l.air) (left c.next.new.air) c.packet.result.now = rw c.packet.ensures (c.loop-loader-test.ensures.packet refl) in
    let one : length c.packet.result.now ≡ 188 = rw c.packet.ensures c.next.ensures.len in
    let few : l.input.count < 16777216 = omega (arith, c.next.ensures.within, (c.loop-loader-test.ensures.count refl)) in
    let follows_now = l.invariant.so_far.follows me follows in
    let ps = newest_packets l.invariant.so_far.taken in
    step_at g.S.Stage g.F.Flash l.input.count c.args.loader.now l.loader c.args.flash.now l.flash (left c.args.air.now) (left l.air) l.invariant.so_far me (left c.next.new.air) c.packet.result.now takes one few tells follows (g.F.Flash.contents c.packet-in-loop-loader.new.flash)
    (c.in-Err.ensures.held tells me ps follows_now) (c.in-Err.ensures.holds tells me ps follows_now)

pub returns-in-Err-clause-steps_left : goal.returns-in-Err-clause-steps_left
returns-in-Err-clause-steps_left g c = λ tells me follows.
    let left = g.A.Source.left in
    let l = c.loop-loader in
    let takes : Takes (left l.air) (left c.next.new.air) c.packet.result.now = rw c.packet.ensures (c.loop-loader-test.ensures.packet refl) in
    let one : length c.packet.result.now ≡ 188 = rw c.packet.ensures c.next.ensures.len in
    let few : l.input.count < 16777216 = omega (arith, c.next.ensures.within, (c.loop-loader-test.ensures.count refl)) in
    let follows_now = l.invariant.so_far.follows me follows in
    let ps = newest_packets l.invariant.so_far.taken in
    step_left g.S.Stage g.F.Flash l.input.count c.args.loader.now l.loader c.args.flash.now l.flash (left c.args.air.now) (left l.air) l.invariant.so_far me (left c.next.new.air) c.packet.result.now takes one few tells follows c.packet-in-loop-loader.new.flash
    (c.in-Err.ensures.left tells me ps follows_now) (c.in-Err.ensures.holds_left tells me ps follows_now)

-- ---- what stays staged

pub returns-in-End-clause-lasts : goal.returns-in-End-clause-lasts
returns-in-End-clause-lasts g c = λ keeps tells me follows.
    let left = g.A.Source.left in
    let l = c.loop-loader in
    lasts_end g.S.Stage g.F.Flash l.input.count c.args.loader.now l.loader c.args.flash.now l.flash (left c.args.air.now) (left l.air) l.invariant.so_far me (left c.ended.new.air) IsWithin (ended_within g.S.Stage g.F.Flash l.input.count c.args.loader.now l.loader c.args.flash.now l.flash (left c.args.air.now) (left l.air) l.invariant.so_far (left c.next.new.air) (left c.ended.new.air) (c.loop-loader-test.ensures.rest refl) c.in-End.ensures.nothing) tells follows 1 keeps

pub returns-in-End-clause-lasts_left : goal.returns-in-End-clause-lasts_left
returns-in-End-clause-lasts_left g c = λ keeps tells me follows.
    let left = g.A.Source.left in
    let l = c.loop-loader in
    lasts_end_left g.S.Stage g.F.Flash l.input.count c.args.loader.now l.loader c.args.flash.now l.flash (left c.args.air.now) (left l.air) l.invariant.so_far me (left c.ended.new.air) IsWithin (ended_within g.S.Stage g.F.Flash l.input.count c.args.loader.now l.loader c.args.flash.now l.flash (left c.args.air.now) (left l.air) l.invariant.so_far (left c.next.new.air) (left c.ended.new.air) (c.loop-loader-test.ensures.rest refl) c.in-End.ensures.nothing) tells follows keeps

pub returns-in-Failed-clause-lasts : goal.returns-in-Failed-clause-lasts
returns-in-Failed-clause-lasts g c = λ keeps tells me follows.
    let left = g.A.Source.left in
    let l = c.loop-loader in
    lasts_end g.S.Stage g.F.Flash l.input.count c.args.loader.now l.loader c.args.flash.now l.flash (left c.args.air.now) (left l.air) l.invariant.so_far me (left c.ended.new.air) IsWithin (ended_within g.S.Stage g.F.Flash l.input.count c.args.loader.now l.loader c.args.flash.now l.flash (left c.args.air.now) (left l.air) l.invariant.so_far (left c.next.new.air) (left c.ended.new.air) (c.loop-loader-test.ensures.rest refl) c.in-Failed.ensures.nothing) tells follows 1 keeps

pub returns-in-Failed-clause-lasts_left : goal.returns-in-Failed-clause-lasts_left
returns-in-Failed-clause-lasts_left g c = λ keeps tells me follows.
    let left = g.A.Source.left in
    let l = c.loop-loader in
    lasts_end_left g.S.Stage g.F.Flash l.input.count c.args.loader.now l.loader c.args.flash.now l.flash (left c.args.air.now) (left l.air) l.invariant.so_far me (left c.ended.new.air) IsWithin (ended_within g.S.Stage g.F.Flash l.input.count c.args.loader.now l.loader c.args.flash.now l.flash (left c.args.air.now) (left l.air) l.invariant.so_far (left c.next.new.air) (left c.ended.new.air) (c.loop-loader-test.ensures.rest refl) c.in-Failed.ensures.nothing) tells follows keeps

pub returns-in-TooLong-clause-lasts : goal.returns-in-TooLong-clause-lasts
returns-in-TooLong-clause-lasts g c = λ keeps tells me follows.
    let left = g.A.Source.left in
    let l = c.loop-loader in
    lasts_end g.S.Stage g.F.Flash l.input.count c.args.loader.now l.loader c.args.flash.now l.flash (left c.args.air.now) (left l.air) l.invariant.so_far me (left c.ended.new.air) IsOneMore (ended_too_long g.S.Stage g.F.Flash l.input.count c.args.loader.now l.loader c.args.flash.now l.flash (left c.args.air.now) (left l.air) l.invariant.so_far (left c.next.new.air) (left c.ended.new.air) (c.loop-loader-test.ensures.rest refl) (sym (c.loop-loader-test.ensures.same refl) ∙ c.in-TooLong.ensures.most) c.in-TooLong.ensures.too_long) tells follows 1 keeps

pub returns-in-TooLong-clause-lasts_left : goal.returns-in-TooLong-clause-lasts_left
returns-in-TooLong-clause-lasts_left g c = λ keeps tells me follows.
    let left = g.A.Source.left in
    let l = c.loop-loader in
    lasts_end_left g.S.Stage g.F.Flash l.input.count c.args.loader.now l.loader c.args.flash.now l.flash (left c.args.air.now) (left l.air) l.invariant.so_far me (left c.ended.new.air) IsOneMore (ended_too_long g.S.Stage g.F.Flash l.input.count c.args.loader.now l.loader c.args.flash.now l.flash (left c.args.air.now) (left l.air) l.invariant.so_far (left c.next.new.air) (left c.ended.new.air) (c.loop-loader-test.ensures.rest refl) (sym (c.loop-loader-test.ensures.same refl) ∙ c.in-TooLong.ensures.most) c.in-TooLong.ensures.too_long) tells follows keeps

pub returns-in-Ok-Some-clause-lasts : goal.returns-in-Ok-Some-clause-lasts
returns-in-Ok-Some-clause-lasts g c = λ keeps tells me follows.
    let left = g.A.Source.left in
    let l = c.loop-loader in
    let takes : Takes (left l.air) (left c.next.new.air) c.packet.result.now = rw c.packet.ensures (c.loop-loader-test.ensures.packet refl) in
    let one : length c.packet.result.now ≡ 188 = rw c.packet.ensures c.next.ensures.len in
    let few : l.input.count < 16777216 = omega (arith, c.next.ensures.within, (c.loop-loader-test.ensures.count refl)) in
    let follows_now = l.invariant.so_far.follows me follows in
    let ps = newest_packets l.invariant.so_far.taken in
    lasts_at g.S.Stage g.F.Flash l.input.count c.args.loader.now l.loader c.args.flash.now l.flash (left c.args.air.now) (left l.air) l.invariant.so_far me (left c.next.new.air) c.packet.result.now takes one few tells follows 1 keeps (g.F.Flash.contents c.packet-in-loop-loader.new.flash)
    (c.in-Ok-Some.ensures.lasts_held keeps tells me ps follows_now)

pub returns-in-Ok-Some-clause-lasts_left : goal.returns-in-Ok-Some-clause-lasts_left
returns-in-Ok-Some-clause-lasts_left g c = λ keeps tells me follows.
    let left = g.A.Source.left in
    let l = c.loop-loader in
    let takes : Takes (left l.air) (left c.next.new.air) c.packet.result.now = rw c.packet.ensures (c.loop-loader-test.ensures.packet refl) in
    let one : length c.packet.result.now ≡ 188 = rw c.packet.ensures c.next.ensures.len in
    let few : l.input.count < 16777216 = omega (arith, c.next.ensures.within, (c.loop-loader-test.ensures.count refl)) in
    let follows_now = l.invariant.so_far.follows me follows in
    let ps = newest_packets l.invariant.so_far.taken in
    lasts_at_left g.S.Stage g.F.Flash l.input.count c.args.loader.now l.loader c.args.flash.now l.flash (left c.args.air.now) (left l.air) l.invariant.so_far me (left c.next.new.air) c.packet.result.now takes one few tells follows keeps c.packet-in-loop-loader.new.flash
    (c.in-Ok-Some.ensures.lasts_left keeps tells me ps follows_now)

pub returns-in-Err-clause-lasts : goal.returns-in-Err-clause-lasts
returns-in-Err-clause-lasts g c = λ keeps tells me follows.
    let left = g.A.Source.left in
    let l = c.loop-loader in
    let takes : Takes (left l.air) (left c.next.new.air) c.packet.result.now = rw c.packet.ensures (c.loop-loader-test.ensures.packet refl) in
    let one : length c.packet.result.now ≡ 188 = rw c.packet.ensures c.next.ensures.len in
    let few : l.input.count < 16777216 = omega (arith, c.next.ensures.within, (c.loop-loader-test.ensures.count refl)) in
    let follows_now = l.invariant.so_far.follows me follows in
    let ps = newest_packets l.invariant.so_far.taken in
    lasts_at g.S.Stage g.F.Flash l.input.count c.args.loader.now l.loader c.args.flash.now l.flash (left c.args.air.now) (left l.air) l.invariant.so_far me (left c.next.new.air) c.packet.result.now takes one few tells follows 1 keeps (g.F.Flash.contents c.packet-in-loop-loader.new.flash)
    (c.in-Err.ensures.lasts_held keeps tells me ps follows_now)

pub returns-in-Err-clause-lasts_left : goal.returns-in-Err-clause-lasts_left
returns-in-Err-clause-lasts_left g c = λ keeps tells me follows.
    let left = g.A.Source.left in
    let l = c.loop-loader in
    let takes : Takes (left l.air) (left c.next.new.air) c.packet.result.now = rw c.packet.ensures (c.loop-loader-test.ensures.packet refl) in
    let one : length c.packet.result.now ≡ 188 = rw c.packet.ensures c.next.ensures.len in
    let few : l.input.count < 16777216 = omega (arith, c.next.ensures.within, (c.loop-loader-test.ensures.count refl)) in
    let follows_now = l.invariant.so_far.follows me follows in
    let ps = newest_packets l.invariant.so_far.taken in
    lasts_at_left g.S.Stage g.F.Flash l.input.count c.args.loader.now l.loader c.args.flash.now l.flash (left c.args.air.now) (left l.air) l.invariant.so_far me (left c.next.new.air) c.packet.result.now takes one few tells follows keeps c.packet-in-loop-loader.new.flash
    (c.in-Err.ensures.lasts_left keeps tells me ps follows_now)

pub returns-in-Failed-clause-read_staged : goal.returns-in-Failed-clause-read_staged
returns-in-Failed-clause-read_staged g c = λ keeps tells me follows is.
    let left = g.A.Source.left in
    let l = c.loop-loader in
    let Now : List Heard → Type 0 = λ heard. StagesLast me heard (geometry_of (bank_of c.args.loader.now)) (g.F.Flash.contents l.flash) in
    at_end g.S.Stage g.F.Flash l.input.count c.args.loader.now l.loader c.args.flash.now l.flash (left c.args.air.now) (left l.air) l.invariant.so_far me (left c.ended.new.air) IsWithin Now
    (ended_within g.S.Stage g.F.Flash l.input.count c.args.loader.now l.loader c.args.flash.now l.flash (left c.args.air.now) (left l.air) l.invariant.so_far (left c.next.new.air) (left c.ended.new.air) (c.loop-loader-test.ensures.rest refl) c.in-Failed.ensures.nothing) (last_now g.S.Stage g.F.Flash l.input.count c.args.loader.now l.loader c.args.flash.now l.flash (left c.args.air.now) (left l.air) l.invariant.so_far keeps tells me follows)

pub returns-in-TooLong-clause-long_staged : goal.returns-in-TooLong-clause-long_staged
returns-in-TooLong-clause-long_staged g c = λ keeps tells me follows is.
    let left = g.A.Source.left in
    let l = c.loop-loader in
    let Now : List Heard → Type 0 = λ heard. StagesLast me heard (geometry_of (bank_of c.args.loader.now)) (g.F.Flash.contents l.flash) in
    at_end g.S.Stage g.F.Flash l.input.count c.args.loader.now l.loader c.args.flash.now l.flash (left c.args.air.now) (left l.air) l.invariant.so_far me (left c.ended.new.air) IsOneMore Now
    (ended_too_long g.S.Stage g.F.Flash l.input.count c.args.loader.now l.loader c.args.flash.now l.flash (left c.args.air.now) (left l.air) l.invariant.so_far (left c.next.new.air) (left c.ended.new.air) (c.loop-loader-test.ensures.rest refl) (sym (c.loop-loader-test.ensures.same refl) ∙ c.in-TooLong.ensures.most) c.in-TooLong.ensures.too_long) (last_now g.S.Stage g.F.Flash l.input.count c.args.loader.now l.loader c.args.flash.now l.flash (left c.args.air.now) (left l.air) l.invariant.so_far keeps tells me follows)

pub returns-in-Err-clause-fault_lasts : goal.returns-in-Err-clause-fault_lasts
returns-in-Err-clause-fault_lasts g c = λ keeps tells me follows is.
    let left = g.A.Source.left in
    let l = c.loop-loader in
    let takes : Takes (left l.air) (left c.next.new.air) c.packet.result.now = rw c.packet.ensures (c.loop-loader-test.ensures.packet refl) in
    let one : length c.packet.result.now ≡ 188 = rw c.packet.ensures c.next.ensures.len in
    let few : l.input.count < 16777216 = omega (arith, c.next.ensures.within, (c.loop-loader-test.ensures.count refl)) in
    let follows_now = l.invariant.so_far.follows me follows in
    let ps = newest_packets l.invariant.so_far.taken in
    lasts_broken g.S.Stage g.F.Flash l.input.count c.args.loader.now l.loader c.args.flash.now l.flash (left c.args.air.now) (left l.air) l.invariant.so_far me (left c.next.new.air) c.packet.result.now takes one few tells follows keeps (g.F.Flash.contents c.packet-in-loop-loader.new.flash)
    (c.in-Err.ensures.lasts_held keeps tells me ps follows_now)

pub returns-in-End-clause-lasts_unfailed : goal.returns-in-End-clause-lasts_unfailed
returns-in-End-clause-lasts_unfailed g c = λ keeps tells me follows unfailed.
    let left = g.A.Source.left in
    let l = c.loop-loader in
    lasts_end g.S.Stage g.F.Flash l.input.count c.args.loader.now l.loader c.args.flash.now l.flash (left c.args.air.now) (left l.air) l.invariant.so_far me (left c.ended.new.air) IsWithin (ended_within g.S.Stage g.F.Flash l.input.count c.args.loader.now l.loader c.args.flash.now l.flash (left c.args.air.now) (left l.air) l.invariant.so_far (left c.next.new.air) (left c.ended.new.air) (c.loop-loader-test.ensures.rest refl) c.in-End.ensures.nothing) tells follows 0 keeps

pub returns-in-Failed-clause-lasts_unfailed : goal.returns-in-Failed-clause-lasts_unfailed
returns-in-Failed-clause-lasts_unfailed g c = λ keeps tells me follows unfailed.
    let left = g.A.Source.left in
    let l = c.loop-loader in
    lasts_end g.S.Stage g.F.Flash l.input.count c.args.loader.now l.loader c.args.flash.now l.flash (left c.args.air.now) (left l.air) l.invariant.so_far me (left c.ended.new.air) IsWithin (ended_within g.S.Stage g.F.Flash l.input.count c.args.loader.now l.loader c.args.flash.now l.flash (left c.args.air.now) (left l.air) l.invariant.so_far (left c.next.new.air) (left c.ended.new.air) (c.loop-loader-test.ensures.rest refl) c.in-Failed.ensures.nothing) tells follows 0 keeps

pub returns-in-TooLong-clause-lasts_unfailed : goal.returns-in-TooLong-clause-lasts_unfailed
returns-in-TooLong-clause-lasts_unfailed g c = λ keeps tells me follows unfailed.
    let left = g.A.Source.left in
    let l = c.loop-loader in
    lasts_end g.S.Stage g.F.Flash l.input.count c.args.loader.now l.loader c.args.flash.now l.flash (left c.args.air.now) (left l.air) l.invariant.so_far me (left c.ended.new.air) IsOneMore (ended_too_long g.S.Stage g.F.Flash l.input.count c.args.loader.now l.loader c.args.flash.now l.flash (left c.args.air.now) (left l.air) l.invariant.so_far (left c.next.new.air) (left c.ended.new.air) (c.loop-loader-test.ensures.rest refl) (sym (c.loop-loader-test.ensures.same refl) ∙ c.in-TooLong.ensures.most) c.in-TooLong.ensures.too_long) tells follows 0 keeps

pub returns-in-Ok-Some-clause-lasts_unfailed : goal.returns-in-Ok-Some-clause-lasts_unfailed
returns-in-Ok-Some-clause-lasts_unfailed g c = λ keeps tells me follows unfailed.
    let left = g.A.Source.left in
    let l = c.loop-loader in
    let takes : Takes (left l.air) (left c.next.new.air) c.packet.result.now = rw c.packet.ensures (c.loop-loader-test.ensures.packet refl) in
    let one : length c.packet.result.now ≡ 188 = rw c.packet.ensures c.next.ensures.len in
    let few : l.input.count < 16777216 = omega (arith, c.next.ensures.within, (c.loop-loader-test.ensures.count refl)) in
    let follows_now = l.invariant.so_far.follows me follows in
    let ps = newest_packets l.invariant.so_far.taken in
    lasts_at g.S.Stage g.F.Flash l.input.count c.args.loader.now l.loader c.args.flash.now l.flash (left c.args.air.now) (left l.air) l.invariant.so_far me (left c.next.new.air) c.packet.result.now takes one few tells follows 0 keeps (g.F.Flash.contents c.packet-in-loop-loader.new.flash)
    (c.in-Ok-Some.ensures.lasts keeps tells me ps follows_now)

pub returns-in-Err-clause-lasts_unfailed : goal.returns-in-Err-clause-lasts_unfailed
returns-in-Err-clause-lasts_unfailed g c = λ keeps tells me follows unfailed. absurd (unfailed refl)

pub returns-in-End-clause-margin : goal.returns-in-End-clause-margin
returns-in-End-clause-margin g c = λ keeps tells me follows none. c.loop-loader.invariant.so_far.margin keeps tells me follows

pub returns-in-Failed-clause-margin : goal.returns-in-Failed-clause-margin
returns-in-Failed-clause-margin g c = λ keeps tells me follows none. c.loop-loader.invariant.so_far.margin keeps tells me follows

pub returns-in-TooLong-clause-margin : goal.returns-in-TooLong-clause-margin
returns-in-TooLong-clause-margin g c = λ keeps tells me follows none. c.loop-loader.invariant.so_far.margin keeps tells me follows

pub returns-in-Ok-Some-clause-margin : goal.returns-in-Ok-Some-clause-margin
returns-in-Ok-Some-clause-margin g c = λ keeps tells me follows none.
    let l = c.loop-loader in
    let ps = newest_packets l.invariant.so_far.taken in
    absurd (decides_something (KnowsKept g.S.Stage g.F.Flash) me _ c.in-Ok-Some.verdict
    (rw c.in-Ok-Some.field-0-is at (c.in-Ok-Some.ensures.seen me ps (l.invariant.so_far.follows me follows))) none)

pub returns-in-Err-clause-margin : goal.returns-in-Err-clause-margin
returns-in-Err-clause-margin g c = λ keeps tells me follows none. absurd none
