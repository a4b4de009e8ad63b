use Rattle.std.proofs.Common.{◌+◌, ◌≡◌, ◌≤◌, ◌<◌, ◌^◌, false, drop, length}
use Rattle.std.specs.Fmt.{digits_onto}
use Rattle.yr_base.specs.Digits.{hexadecimal}
use Rattle.yr_report.proofs.number.write_hexadecimal.Given as goal

-- what is written and what is left are the digits, and what is left fits before them
abbrev pub invariant-loop-left : goal.invariant-loop-left
invariant-loop-left l = record {
  some : 0 < l.start;
  within : l.start ≤ 16;
  room : length l.buffer ≡ 16;
  fits : l.left < 16 ^ l.start;
  so_far : digits_onto (l.start + 48) 16 false l.left (drop l.start l.buffer) ≡ hexadecimal l.n;
}

abbrev pub decreases-loop-left : goal.decreases-loop-left
decreases-loop-left l = l.left
