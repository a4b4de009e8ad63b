-- A function value that reads what stands between brackets.
use Rattle.std.specs.Prelude.{ℕ, Result}
use Rattle.std.specs.declared.alloc.Global.{Global}
use denote.Ref.{MutBor}
use Rattle.yr_syntax.specs.declared.condition.Cond.{Cond}
use Rattle.yr_syntax.specs.Condition.{Condition, tree_of}
use Rattle.yr_parser.specs.declared.level.Entry.{Entry}
use Rattle.yr_parser.specs.declared.fault.Fault.{Fault}
use Rattle.yr_parser.specs.Terminals.{Terminals}
use Rattle.yr_parser.specs.Input.{Parser, Gives}
use Rattle.yr_parser.specs.Reading.{cond_at}

-- it reads to a depth
pub record Nests (depth : ℕ) (pre : Global → MutBor Terminals → ℕ → Entry → Type 0)
    (post : Global → MutBor Terminals → ℕ → Entry → Result Cond Fault → MutBor Terminals → Type 0) : Type 0 where
  pub callable : (alloc : Global) (old : MutBor Terminals) (e : Entry) → pre alloc old depth e
  pub reads : (alloc : Global) (old new : MutBor Terminals) (e : Entry) (r : Result Cond Fault) → post alloc old depth e r new
      → Gives tree_of (cond_at depth e old.now) r new.now

-- it reads an operand
pub record Parses (p : Parser Condition) (pre : MutBor Terminals → Type 0) (post : MutBor Terminals → Result Cond Fault → MutBor Terminals → Type 0) : Type 0 where
  pub callable : (old : MutBor Terminals) → pre old
  pub reads : (old new : MutBor Terminals) (r : Result Cond Fault) → post old r new → Gives tree_of (p old.now) r new.now
