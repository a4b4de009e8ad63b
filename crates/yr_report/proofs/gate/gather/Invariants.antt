use Rattle.std.proofs.Common.{◌≡◌, ◌≤◌, ◌||◌, ℕ, List, take, length}
use Rattle.std.specs.List.{list_any}
use Rattle.yr_answer.specs.Reported.{shuts}
use Rattle.yr_report.specs.Scenes.{judged_of, is_text}
use Rattle.yr_report.proofs.JudgedLemmas.{shut_from}
use Rattle.yr_report.proofs.gate.gather.Given as goal

-- a namespace is shut if it is among the names so far, or a rule from rule k on shuts it
abbrev pub invariant-loop-k : goal.invariant-loop-k
invariant-loop-k l = record {
  few : l.count ≤ l.k;
  len : length l.names ≡ 65536;
  same : (name : List ℕ) → list_any (shuts name) (judged_of l.scene) ≡ (list_any (is_text name) (take l.count l.names) || shut_from l.scene name l.k);
}
