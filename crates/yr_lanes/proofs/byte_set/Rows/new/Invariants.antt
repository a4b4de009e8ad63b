use Rattle.std.proofs.Common.{ℕ, IsTrue, ◌↔◌, ◌≡◌, length, take}
use Rattle.std.specs.List.{Contains}
use Rattle.yr_lanes.specs.Rows.{in_rows}
use Rattle.yr_lanes.proofs.byte_set.Rows.new.Given as goal

abbrev pub invariant-loop-byte : goal.invariant-loop-byte
invariant-loop-byte l = record {
  front_long : length l.front ≡ 16;
  back_long : length l.back ≡ 16;
  held : (b : ℕ) → IsTrue (in_rows l.front l.back b) ↔ Contains (take l.byte-index l.set) b;
}
