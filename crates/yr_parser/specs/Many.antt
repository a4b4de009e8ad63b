-- A list whose items are read one by one by a function value.
use Rattle.std.specs.Prelude.{◌≡◌, ℕ, zero, suc, List, [], ◌∷◌, Option, Some, None, Result, Ok, Err, Vec}
use Rattle.std.specs.declared.alloc.Global.{Global}
use denote.Ref.{MutBor}
use Rattle.yr_parser.specs.declared.fault.Fault.{Fault}
use Rattle.yr_parser.specs.declared.fault.Fault.TheVariants as fault
use Rattle.yr_parser.specs.Terminals.{Terminals}

-- what one call of it may do
abbrev pub Turn : Type 0 → Type 1
Turn T = MutBor Terminals → Result (Option T) Fault → MutBor Terminals → Type 0

-- at most so many calls, one after another, read these items or come to this fault
pub data Ran {T : Type 0} (turn : MutBor Terminals → Result (Option T) Fault → MutBor Terminals → Type 0) : ℕ → Terminals → Result (List T) Fault → Terminals → Type 0 where
  out : {k : Terminals} → Ran turn zero k (Ok []) k
  stop : {n : ℕ} {k rest : Terminals} (old new : MutBor Terminals) → old.now ≡ k → new.now ≡ rest → turn old (Ok None) new → Ran turn (suc n) k (Ok []) rest
  more : {n : ℕ} {k rest : Terminals} {x : T} {xs : List T} (old new : MutBor Terminals) → old.now ≡ k → turn old (Ok (Some x)) new
      → Ran turn n new.now (Ok xs) rest → Ran turn (suc n) k (Ok (x ∷ xs)) rest
  fails : {n : ℕ} {k rest : Terminals} {f : Fault} (old new : MutBor Terminals) → old.now ≡ k → turn old (Err f) new → Ran turn (suc n) k (Err f) rest
  later : {n : ℕ} {k rest : Terminals} {x : T} {f : Fault} (old new : MutBor Terminals) → old.now ≡ k → turn old (Ok (Some x)) new
      → Ran turn n new.now (Err f) rest → Ran turn (suc n) k (Err f) rest
  memory : {n : ℕ} {k rest : Terminals} → Ran turn n k (Err fault.NoMemory) rest

abbrev pub items_in : {T : Type 0} → Result (Vec T Global) Fault → Result (List T) Fault
items_in (Ok v) = Ok v.items
items_in (Err f) = Err f

-- every call may be made
pub record Runs (pre : MutBor Terminals → Type 0) : Type 0 where
  pub callable : (old : MutBor Terminals) → pre old
