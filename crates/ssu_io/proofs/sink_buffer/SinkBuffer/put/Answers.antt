use Rattle.std.proofs.Common.{◌≡◌, List, ℕ, [], ◌++◌, Option, ap, sym, ◌∙◌, append-nil}
use Rattle.std.proofs.lemmas.Result.{on_ok_weaker, on_err_weaker}
use Rattle.ssu_io.specs.Bytes.{Gains}
use Rattle.ssu_io.specs.SinkBuffer.{MovesOn}
use Rattle.ssu_io.proofs.BytesLemmas.{Gains_join, GainsPrefix_join}
use Rattle.ssu_io.proofs.sink_buffer.SinkBuffer.put.Goals as goal

-- all that waited went, and the piece too
all_moved : (before between after : Option (List ℕ)) (waited piece waiting : List ℕ) → waiting ≡ [] → Gains before between waited → Gains between after piece → MovesOn before after waited piece waiting
all_moved before between after waited piece waiting empty first second = record {
  moved = waited ++ piece;
  gains = Gains_join before between after waited piece first second;
  none_lost = sym (append-nil (waited ++ piece)) ∙ ap (λ (more : List ℕ). waited ++ piece ++ more) (sym empty);
}

pub returns-then-piece-gt-ROOM-clause-ok : goal.returns-then-piece-gt-ROOM-clause-ok
returns-then-piece-gt-ROOM-clause-ok g c =
    let got = g.W.Sink.contents in
    on_ok_weaker c.put.result
    (all_moved (got c.args.sink.now) (got c.flush.new.sink) (got c.put.new.self) c.args.self.now c.args.piece.now c.flush.new.self c.flush.ensures.empty c.in_ok-flush.ensures.ok)
    c.put.ensures.whole

pub returns-then-piece-gt-ROOM-clause-failed : goal.returns-then-piece-gt-ROOM-clause-failed
returns-then-piece-gt-ROOM-clause-failed g c =
    let got = g.W.Sink.contents in
    on_err_weaker c.put.result
    (GainsPrefix_join (got c.args.sink.now) (got c.flush.new.sink) (got c.put.new.self) c.args.self.now c.args.piece.now c.in_ok-flush.ensures.ok)
    c.put.ensures.prefix
