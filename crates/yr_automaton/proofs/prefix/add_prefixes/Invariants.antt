use Rattle.std.proofs.Common.{◌≡◌, ◌≤◌, ℕ, ◌<◌, ◌++◌, drop, get_or}
use Rattle.yr_automaton.specs.Keys.{key_after, prefix_keys}
use Rattle.yr_automaton.specs.Atoms.{word}
use Rattle.yr_automaton.proofs.prefix.add_prefixes.Given as goal

abbrev pub invariant-loop-byte : goal.invariant-loop-byte
invariant-loop-byte l = record {
  items : l.byte-items ≡ word l.atom;
  key : key_after l.key (drop l.byte-index l.byte-items) ≡ key_after 0 l.byte-items;
  added : l.keys.items ++ prefix_keys l.key (drop l.byte-index l.byte-items) ≡ l.initial.keys.items ++ prefix_keys 0 l.byte-items;
  read : (k : ℕ) → k < l.byte-index → get_or l.byte-items k 0 < 256;
  none : l.byte-index ≤ 0 → l.key ≤ 0;
  one : l.byte-index ≤ 1 → l.key ≤ 256;
  two : l.byte-index ≤ 2 → l.key ≤ 65792;
  three : l.byte-index ≤ 3 → l.key ≤ 16843008;
  four : l.byte-index ≤ 4 → l.key ≤ 4311810304;
}
