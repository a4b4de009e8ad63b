use Rattle.std.proofs.Common.{◌≡◌, ◌+◌, ◌≤◌, length}
use Rattle.yr_answer.specs.Reported.{reported_of}
use Rattle.yr_answer.specs.Truths.{truths_shown}
use Rattle.yr_image.specs.Views.{image_of}
use Rattle.yr_machine.specs.Listing.{listed_rules}
use Rattle.yr_report.proofs.JudgedLemmas.{count_from}
use Rattle.yr_report.proofs.counting.count_reported.Given as goal

-- the rules from rule k on are to be counted
abbrev pub invariant-loop-k : goal.invariant-loop-k
invariant-loop-k l = record {
  few : l.count ≤ l.k;
  counted : length (reported_of l.scene.options.negate (listed_rules (image_of l.scene.view)) (truths_shown l.scene.results.now)) ≡ l.count + count_from l.scene l.k;
}
