use Rattle.std.proofs.Common.{◌≡◌, ◌≢◌, ℕ, ◌<◌, false, slice_index_or, slice_index, vec_len}
use Rattle.ts_section.specs.declared.stream.Stream.{Stream}
use Rattle.ts_section.specs.Hearing.{IsFirst, IsFresh}
use Rattle.ts_section.specs.Events.{is_among}
use Rattle.ts_section.proofs.kept.move_kept.Given as goal

-- The places below this one are done, and what is kept of each other PID has not moved.
abbrev pub invariant-loop-at : goal.invariant-loop-at
invariant-loop-at l = record {
  kept : (pid at from : ℕ) (other : Stream) → at < l.at → IsFirst l.pids.items pid at → IsFirst l.known.items pid from
      → slice_index_or l.spare.items at other ≡ slice_index_or l.initial.streams.items from other;
  fresh : (pid at : ℕ) (other : Stream) → at < l.at → IsFirst l.pids.items pid at → is_among pid l.known.items ≡ false
      → IsFresh (slice_index_or l.spare.items at other);
  waiting : (k : ℕ) (other : Stream) → ((j : ℕ) → j < l.at → slice_index l.pids.items j ≢ slice_index l.known.items k)
      → slice_index_or l.streams.items k other ≡ slice_index_or l.initial.streams.items k other;
  sixteen : vec_len l.streams ≡ 16;
  sixteen_spare : vec_len l.spare ≡ 16;
}
