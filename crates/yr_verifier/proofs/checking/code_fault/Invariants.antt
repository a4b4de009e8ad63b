use Rattle.std.proofs.Common.{◌≡◌, drop}
use Rattle.yr_machine.specs.CodeWalk.{code_fault, fault_from}
use Rattle.yr_verifier.specs.Rows.{rows_shown, image_shown}
use Rattle.yr_verifier.specs.Steps.{Agrees}
use Rattle.yr_verifier.proofs.checking.code_fault.Given as goal

abbrev pub invariant-loop-place : goal.invariant-loop-place
invariant-loop-place l = record {
  rest : fault_from (image_shown l.code) l.code.rule (rows_shown l.code) (drop l.place (rows_shown l.code)) l.place l.walk.kinds l.walk.blocks
      ≡ code_fault (image_shown l.code) l.code.rule (rows_shown l.code);
  agrees : Agrees l.walk;
}
