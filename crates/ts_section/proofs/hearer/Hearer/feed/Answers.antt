use Rattle.std.proofs.Common.{◌≡◌, ◌<◌, length, arith, sym, ◌∙◌, Some, None, false}
use Rattle.ts_packet.specs.Packet.{usable, pid_of, shown}
use Rattle.ts_section.specs.Events.{is_among, span}
use Rattle.ts_section.specs.Hearing.{IsFirst, Follows}
use Rattle.ts_section.proofs.PidPlaces.{is_among-first}
use Rattle.ts_section.proofs.Spans.{usable-pid, only_of-unusable, is_listened-feed, heard-unusable, heard-usable, heard-unlistened, follows_next, follows_heard}
use Rattle.ts_section.proofs.Hearers.{unchanged, none_of, taken}
use Rattle.ts_section.proofs.hearer.Hearer.feed.Goals as goal

pub returns-in_default-clause-stands : goal.returns-in_default-clause-stands
returns-in_default-clause-stands c events stands =
    let packet = c.args.packet.now in
    let gone : is_among (pid_of packet) c.args.self.now.pids.items ≡ false = rw (← (c.get.ensures.number ∙ c.pid_of.ensures)) c.in_default.ensures.among in
    record {
      listens = λ pid. is_listened-feed pid packet events ∙ stands.listens pid;
      streams = unchanged c.args.self.now.pids.items c.args.self.now.streams.items events packet stands.listens stands.streams
          (none_of c.args.self.now.pids.items packet gone);
    }

pub returns-in_default-clause-heard : goal.returns-in_default-clause-heard
returns-in_default-clause-heard c events stands =
    let packet = c.args.packet.now in
    let gone : is_among (pid_of packet) c.args.self.now.pids.items ≡ false = rw (← (c.get.ensures.number ∙ c.pid_of.ensures)) c.in_default.ensures.among in
    c.clear.ensures ∙ sym (heard-unlistened packet events (stands.listens (pid_of packet) ∙ gone))

pub returns-in_default-read-clause-stands : goal.returns-in_default-read-clause-stands
returns-in_default-read-clause-stands c events stands =
    let packet = c.args.packet.now in
    let lost : usable packet ≡ None = sym c.in_default-read.ensures.view in
    record {
      listens = λ pid. is_listened-feed pid packet events ∙ stands.listens pid;
      streams = unchanged c.args.self.now.pids.items c.args.self.now.streams.items events packet stands.listens stands.streams
          (λ pid _. only_of-unusable packet pid lost);
    }

pub returns-in_default-read-clause-heard : goal.returns-in_default-read-clause-heard
returns-in_default-read-clause-heard c events stands =
    c.clear.ensures ∙ sym (heard-unusable c.args.packet.now events (sym c.in_default-read.ensures.view))

pub returns-clause-stands : goal.returns-clause-stands
returns-clause-stands c events stands =
    let packet = c.args.packet.now in
    let y = shown c.in-Some-read.view in
    let pids = c.args.self.now.pids.items in
    let old = c.index_mut-stream.result.now in
    let carried : usable packet ≡ Some y = sym c.in-Some-read.ensures.view in
    let own : IsFirst pids y.pid c.in-Some.at = rw (usable-pid packet y carried ∙ sym (c.get.ensures.number ∙ c.pid_of.ensures)) c.in-Some.ensures.found in
    let within : c.in-Some.at < length c.args.self.now.streams.items = omega (arith, c.args.self.now.streams.ok, c.in-Some.ensures.within) in
    let follows : Follows old (span y.pid events) = rw c.index_mut-stream.ensures.value (stands.streams y.pid c.in-Some.at old own) in
    record {
      listens = λ pid. is_listened-feed pid packet events ∙ stands.listens pid;
      streams = taken pids c.args.self.now.streams.items events packet y c.in-Some.at c.take.new.self stands.listens stands.streams
          carried own within (follows_next old c.take.new.self (span y.pid events) y follows c.take.ensures.last c.take.ensures.text);
    }

pub returns-clause-heard : goal.returns-clause-heard
returns-clause-heard c events stands =
    let packet = c.args.packet.now in
    let y = shown c.in-Some-read.view in
    let pids = c.args.self.now.pids.items in
    let old = c.index_mut-stream.result.now in
    let carried : usable packet ≡ Some y = sym c.in-Some-read.ensures.view in
    let own : IsFirst pids y.pid c.in-Some.at = rw (usable-pid packet y carried ∙ sym (c.get.ensures.number ∙ c.pid_of.ensures)) c.in-Some.ensures.found in
    let follows : Follows old (span y.pid events) = rw c.index_mut-stream.ensures.value (stands.streams y.pid c.in-Some.at old own) in
    c.take.ensures.heard
    ∙ follows_heard old (span y.pid events) y follows
    ∙ sym (heard-usable packet events y carried (stands.listens y.pid ∙ is_among-first pids y.pid c.in-Some.at own))
