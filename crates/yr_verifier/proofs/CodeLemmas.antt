-- The check of code, rule by rule.
use Rattle.std.proofs.Common.{◌≡◌, ℕ, ◌≤◌, length, Option, Some, None, sym, ap, ◌∙◌, arith}
use Rattle.std.specs.Prelude.{slice_get}
use Rattle.std.proofs.lemmas.Option.{slice_get_past}
use Rattle.yr_image.specs.declared.rows.RuleRow.{RuleRow}
use Rattle.yr_image.specs.Image.{Image, code_of}
use Rattle.yr_machine.specs.CodeWalk.{code_fault}
use Rattle.yr_machine.specs.Wellformed.{CodePasses}
use Rattle.yr_verifier.specs.Firsts.{Finds}

module _ (image : Image) (rule : ℕ) where
  -- the first failing place of a rule's code is the first that does not pass
  pub code_found : (row : RuleRow) (o : Option ℕ) → slice_get image.rules rule ≡ Some row → o ≡ code_fault image rule (code_of image row) → Finds (λ place. CodePasses image rule place) o
  code_found row None at e = λ place other there same.
      let is : other ≡ row = cc (at, there) in
      let bad : None ≡ Some place = e ∙ ap (λ r. code_fault image rule (code_of image r)) (sym is) ∙ same in
      cc bad
  code_found row (Some p) at e = (
    λ passes. passes row at (sym e),
    λ j lt other there same.
        let is : other ≡ row = cc (at, there) in
        let bad : Some p ≡ Some j = e ∙ ap (λ r. code_fault image rule (code_of image r)) (sym is) ∙ same in
        let n : p ≡ j = cc bad in
        absurd (omega (arith, n, lt)),
  )

  pub code_beyond : (place : ℕ) → length image.rules ≤ rule → CodePasses image rule place
  code_beyond place le row at = let none = slice_get_past image.rules rule le in cc (none, at)
