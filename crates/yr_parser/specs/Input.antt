-- The steps that every reading function is made of.
use Rattle.std.specs.Prelude.{◌≡◌, ℕ, zero, suc, Bool, false, if◌then◌else◌, List, [], ◌∷◌, Option, Some, None, Result, Ok, Err}
use denote.Enum.Bare.{sameb}
use Rattle.yr_parser.specs.contracts.sign.Sign.{the_type}
use Rattle.yr_parser.specs.declared.sign.Sign.{Sign as SignType}
use Rattle.yr_parser.specs.declared.fault.Fault.{Fault}
use Rattle.yr_parser.specs.declared.fault.Fault.TheVariants.{NoMemory, Syntax}
use Rattle.yr_parser.specs.Terminals.{Terminal, Terminals, Sign}

-- `==` on signs
unfoldable pub same_sign : SignType → SignType → Bool
same_sign = sameb the_type

abbrev pub Outcome : Type 0 → Type 0
Outcome A = Option (A × Terminals)

abbrev pub Parser : Type 0 → Type 0
Parser A = Terminals → Outcome A

abbrev pub and_then : {A B : Type 0} → Outcome A → (A → Parser B) → Outcome B
and_then (Some p) f = f p.0 p.1
and_then None f = None

infixl 10 ◌>>=◌
abbrev pub ◌>>=◌ : {A B : Type 0} → Parser A → (A → Parser B) → Parser B
p >>= f = λ k. and_then (p k) f

infixl 10 ◌>>◌
abbrev pub ◌>>◌ : {A B : Type 0} → Parser A → Parser B → Parser B
p >> q = p >>= (λ _. q)

abbrev pub pure : {A : Type 0} → A → Parser A
pure a = λ k. Some (a, k)

infixr 11 ◌<$>◌
abbrev pub ◌<$>◌ : {A B : Type 0} → (A → B) → Parser A → Parser B
f <$> p = p >>= (λ x. pure (f x))

abbrev pub first : Terminals → Option Terminal
first [] = None
first (t ∷ k) = Some t

abbrev pub tail : Terminals → Terminals
tail [] = []
tail (t ∷ k) = k

abbrev pub is_sign : SignType → Option Terminal → Bool
is_sign s (Some (Sign t)) = same_sign t s
is_sign s _ = false

-- the next terminal is this sign
unfoldable pub sees : SignType → Terminals → Bool
sees s k = is_sign s (first k)

unfoldable pub after : SignType → Terminals → Terminals
after s k = if sees s k then tail k else k

-- takes the next terminal, if it is this sign
abbrev pub eat : SignType → Parser Bool
eat s = λ k. Some (sees s k, after s k)

unfoldable pub expect : SignType → Parser (Unit {0})
expect s = λ k. if sees s k then Some (tt, tail k) else None

-- what one turn of a list gives: one more, or the end
abbrev pub many_by : {A : Type 0} → Outcome (Option A) → Parser (List A) → Outcome (List A)
many_by None more = None
many_by (Some (None, k)) more = Some ([], k)
many_by (Some (Some a, k)) more = and_then (more k) (λ xs. pure (a ∷ xs))

-- as often as `next` gives one more, at most so many times
unfoldable pub many : {A : Type 0} → Parser (Option A) → ℕ → Parser (List A)
many next zero k = Some ([], k)
many next (suc n) k = many_by (next k) (many next n)

-- what a function that parses ensures: the parser's outcome, seen by `view`, unless memory fails
abbrev pub Gives : {X A : Type 0} → (X → A) → Outcome A → Result X Fault → Terminals → Type 0
Gives view outcome (Ok x) new = outcome ≡ Some (view x, new)
Gives view outcome (Err Syntax) new = outcome ≡ None
Gives view outcome (Err NoMemory) new = Unit {0}
