use Rattle.std.proofs.Common.{◌≡◌, ◌-◌, length, true}
use Rattle.yr_regex.specs.Parts.{bytes_read}
use Rattle.yr_regex.specs.Reading.{members_at, no_bytes}
use Rattle.yr_regex.proofs.class.members.Given as goal

abbrev pub invariant-loop-turn : goal.invariant-loop-turn
invariant-loop-turn l = members_at (length l.fn.text) true no_bytes l.fn.text ≡ members_at (l._turn-end - l._turn) l.first (bytes_read l.all) l.text
