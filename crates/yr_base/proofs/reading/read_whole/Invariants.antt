use Rattle.std.proofs.Common.{◌≡◌, ◌+◌, ◌-◌, ◌≤◌, vec_len}
use Rattle.std.specs.Io.KnownBytes.{Consumes}
use Rattle.yr_base.proofs.reading.read_whole.Given as goal

-- no more is read than there is room, and all of it came from the reader
abbrev pub invariant-loop-buffer : goal.invariant-loop-buffer
invariant-loop-buffer g l = record {
  within : vec_len l.into ≤ l.limit + 1;
  room : l.room ≡ l.limit + 1;
  faults : l.faults ≡ l.fn.faults;
  given : Consumes (g.R.Read.remaining l.fn.reader) (g.R.Read.remaining l.reader) l.into.items;
}

abbrev pub decreases-loop-buffer : goal.decreases-loop-buffer
decreases-loop-buffer g l = l.room - vec_len l.into
