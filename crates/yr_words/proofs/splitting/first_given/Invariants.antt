use Rattle.std.proofs.Common.{◌≡◌, ◌≤◌, true, length, drop}
use Rattle.std.specs.List.{list_all}
use Rattle.yr_words.specs.Values.{gives}
use Rattle.yr_words.specs.Shown.{lent_words}
use Rattle.yr_words.proofs.splitting.first_given.Given as goal

abbrev pub invariant-loop-at : goal.invariant-loop-at
invariant-loop-at l = record {
  within : l.at ≤ length l.words;
  giving : list_all gives (drop l.at (lent_words l.words)) ≡ true;
}

abbrev pub decreases-loop-at : goal.decreases-loop-at
decreases-loop-at l = l.at
