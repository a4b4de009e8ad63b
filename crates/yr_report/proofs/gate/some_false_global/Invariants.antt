use Rattle.std.proofs.Common.{◌≡◌, ℕ, List}
use Rattle.std.specs.List.{list_any}
use Rattle.yr_answer.specs.Reported.{shuts}
use Rattle.yr_report.specs.Scenes.{judged_of}
use Rattle.yr_report.proofs.JudgedLemmas.{shut_from}
use Rattle.yr_report.proofs.gate.some_false_global.Given as goal

-- no rule before rule k shuts a namespace
abbrev pub invariant-loop-k : goal.invariant-loop-k
invariant-loop-k l = (name : List ℕ) → list_any (shuts name) (judged_of l.scene) ≡ shut_from l.scene name l.k
