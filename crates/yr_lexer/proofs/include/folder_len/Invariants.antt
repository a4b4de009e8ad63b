use Rattle.std.proofs.Common.{◌≡◌, ◌≤◌, length, take}
use Rattle.yr_lexer.specs.Includes.{folder_of}
use Rattle.yr_lexer.proofs.include.folder_len.Given as goal

-- no `/` stands behind the end
abbrev pub invariant-loop-end : goal.invariant-loop-end
invariant-loop-end l = record {
  bytes : l.bytes ≡ l.name;
  within : l.end ≤ length l.bytes;
  folder : folder_of (take l.end l.bytes) ≡ folder_of l.bytes;
}

abbrev pub decreases-loop-end : goal.decreases-loop-end
decreases-loop-end l = l.end
