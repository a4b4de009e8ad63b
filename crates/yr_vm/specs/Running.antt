-- What a rule's code comes to.
use Rattle.std.specs.Prelude.{ℕ, ◌+◌, ◌≤◌, Bool, List, length}
use Rattle.yr_image.specs.declared.rows.CodeRow.{CodeRow}
use Rattle.yr_machine.specs.Operations.{Context}
use Rattle.yr_machine.specs.Machine.{EndsAfter}
use Rattle.yr_machine.specs.Budget.{text_bound, code_cost}

-- the longest text that code can meet
abbrev pub longest_text : Context → ℕ
longest_text context = text_bound context.image (length context.file) context.externals

-- the code ends with a truth. The count of steps rose by at least the rows that were run, and by at most what they cost.
pub record IsTruth (context : Context) (truths : List Bool) (rows : List CodeRow) (truth : Bool) (before now : ℕ) : Type 0 where
  pub count : ℕ
  pub ends : EndsAfter context truths rows count truth
  pub least : before + count ≤ now
  pub most : now ≤ before + code_cost context.image (longest_text context) rows
