-- A run that can come to its end ends with a whole answer.
use Rattle.std.proofs.Common.{◌≡◌, ℕ, List, take, ◌+◌, cond, refl, ap, ◌∙◌}
use Rattle.yr_base.specs.Store.{Files}
use Rattle.yr_rules.specs.Rules.{PlainRules}
use Rattle.yr_image.specs.Sections.{most_bytes}
use Rattle.yr_workload.specs.Workload.{workload_of}
use Rattle.yr_words.specs.Values.{Given}
use Rattle.yr_words.specs.Commands.{Source, Command, Scan, ScanImage, Compile, Check, Work}
use Rattle.yr_outcome.specs.declared.status.Status.TheVariants as status
use Rattle.yr_outcome.specs.Texts.{too_long}
use Rattle.yr_outcome.specs.Front.{Reading, refusal, rules_of}
use Rattle.yr_outcome.specs.Answers.{Setting}
use Rattle.yr_outcome.specs.Outcome.{Ending, Found, refused, on_target, from_rules, with_image, with_verified, with_externals, worked, with_names, with_command, run, ending_of}
use Rattle.yr_outcome.specs.Complete.{HasTarget, GivesRules, CanRun, CanFinish}

-- with a target, the answer on it
target_done : (files : Files) (target : List ℕ) (answer : List ℕ → Ending) → ((file : List ℕ) → (answer file).outcome.status ≡ status.Done)
    → (has : HasTarget files target) → (on_target files target answer (files target)).outcome.status ≡ status.Done
target_done files target answer done has =
    ap (λ content. (on_target files target answer content).outcome.status) has.there
    ∙ ap (λ fits. (cond fits (answer has.file) (refused files (refusal status.LongTarget (too_long target)))).outcome.status) has.fits
    ∙ done has.file

-- with rules, what follows from them
rules_done : (setting : Setting) (reading : Reading) (found : Found) (files : Files) (sources : List Source) (givens : List Given) (next : PlainRules → Ending)
    → ((rules : PlainRules) → (next rules).outcome.status ≡ status.Done) → (gives : GivesRules setting reading files sources givens)
    → (from_rules setting reading found files (rules_of reading setting.modules files sources givens) next).outcome.status ≡ status.Done
rules_done setting reading found files sources givens next done gives =
    ap (λ answer. (from_rules setting reading found files answer next).outcome.status) gives.checked ∙ done gives.rules

-- each command
run_done : (setting : Setting) (reading : Reading) (found : Found) (files : Files) (c : Command)
    → CanRun setting reading files c → (run setting reading found files c).outcome.status ≡ status.Done
run_done setting reading found files (Scan flags sources target givens) can =
    rules_done setting reading found files sources givens _ (λ rules. target_done files target _ (λ file. refl) can.1) can.0
run_done setting reading found files (ScanImage flags image target givens) can =
    ap (λ content. (with_image setting reading found files flags image target givens content).outcome.status) can.0.there
    ∙ ap (λ fault. (with_verified setting reading found files flags image target (take (most_bytes + 1) can.0.bytes) givens fault).outcome.status) can.0.wellformed
    ∙ ap (λ misfit. (with_externals setting reading found files flags target (take (most_bytes + 1) can.0.bytes) givens misfit).outcome.status) can.0.fits
    ∙ target_done files target _ (λ file. refl) can.1
run_done setting reading found files (Compile sources output givens) can =
    rules_done setting reading found files sources givens _ (λ rules. refl) can
run_done setting reading found files (Check sources givens) can = rules_done setting reading found files sources givens _ (λ rules. refl) can
run_done setting reading found files (Work number size) can =
    ap (λ answer. (worked setting reading found files (workload_of number size) answer).outcome.status) can.checked

pub ending_done : (setting : Setting) (reading : Reading) (found : Found) (words : List (List ℕ)) (files : Files)
    → CanFinish setting reading words files → (ending_of setting reading found files words).outcome.status ≡ status.Done
ending_done setting reading found words files can =
    ap (λ command. (with_command setting reading found files command).outcome.status) can.spelled
    ∙ ap (λ twice. (with_names setting reading found files can.command twice).outcome.status) can.different
    ∙ run_done setting reading found files can.command can.runs
