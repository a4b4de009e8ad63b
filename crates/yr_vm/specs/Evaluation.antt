-- The truths of an image's rules, and the steps that they took.
use Rattle.std.specs.Prelude.{◌≡◌, ℕ, ℤ, ◌+◌, ◌≤◌, Bool, List, length}
use Rattle.std.specs.List.{sum}
use Rattle.yr_values.specs.Values.{Value}
use Rattle.yr_answer.specs.MatchList.{Match}
use Rattle.yr_image.specs.Image.{Image}
use Rattle.yr_machine.specs.Operations.{Context}
use Rattle.yr_machine.specs.Budget.{code_budget}
use Rattle.yr_machine.specs.Counts.{AreCountedTruths}
use Rattle.yr_machine.specs.ImageRun.{AreImageTruths, KnowsPrograms}

-- The truths are those of the machine, each after so many rows. The count of steps rose by at least the rows that were
-- run, and by at most the code's part of the budget.
pub record IsEvaluation (context : Context) (truths : List Bool) (before now : ℕ) : Type 0 where
  pub truths_are : AreImageTruths context truths
  pub counts : List ℕ
  pub counted : AreCountedTruths context truths counts
  pub least : before + sum counts ≤ now
  pub most : now ≤ before + code_budget context.image (length context.file) context.externals

-- the context has this image, file, match lists and values, and knows the image's programs
pub record IsContextOf (image : Image) (file : List ℕ) (lists : List (List Match)) (externals : List Value)
    (fields : ℕ → ℤ → Value) (calls : ℕ → ℤ → ℤ → Value) (context : Context) : Type 0 where
  pub same_image : context.image ≡ image
  pub same_file : context.file ≡ file
  pub same_lists : context.lists ≡ lists
  pub same_externals : context.externals ≡ externals
  pub same_fields : context.fields ≡ fields
  pub same_calls : context.calls ≡ calls
  pub programs : KnowsPrograms context
