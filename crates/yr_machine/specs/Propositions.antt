-- To be wellformed is a proposition: it has at most one proof.
use Rattle.std.proofs.Common.{◌≡◌, ℕ, List, Some, sym, ◌∙◌, subst}
use Rattle.std.proofs.Props.{props}
use Rattle.yr_rows.specs.Moves.{row_of, NamesAmong, IsWellformedMove}
use Rattle.yr_rows.proofs.MoveLemmas.{wellformed_says}
use Rattle.yr_rows.specs.declared.moves.MoveRow.{MoveRow}
use Rattle.yr_rows.specs.declared.moves.Move.{Move}
use Rattle.yr_rows.specs.declared.moves.Move.TheVariants.{Accept, Set, Fork, Test}
use Rattle.yr_image.specs.declared.fault.ImageFault.{ImageFault}
use Rattle.yr_image.specs.declared.fault.ImageFault.TheVariants.{TooShort, Magic, Version, Length, Section, Index, Name, Code, ProgramBad, Node}
use Rattle.yr_machine.specs.Wellformed.{Passes, IsWellformed}

names-prop : (n sets : ℕ) (v : Move) → IsProp (NamesAmong n sets v)
names-prop n sets Accept = Prim.hlevel props
names-prop n sets (Set next set) = Prim.hlevel props
names-prop n sets (Fork next other) = Prim.hlevel props
names-prop n sets (Test assertion next) = Prim.hlevel props

row-prop : (row other : MoveRow) → IsProp (row ≡ other)
row-prop row other = Prim.hlevel props

move-prop : (n sets : ℕ) (row : MoveRow) → IsProp (IsWellformedMove n sets row)
move-prop n sets row x y =
    let both : Some x.0 ≡ Some y.0 = sym (wellformed_says n sets row x) ∙ wellformed_says n sets row y in
    let same : x.0 ≡ y.0 = Prim.cc both in
    subst (λ w. (f : row ≡ row_of w) (g : NamesAmong n sets w) → x ≡ (w, f, g)) same
    (λ f g i. (x.0, row-prop row (row_of x.0) x.1 f i, names-prop n sets x.0 x.2 g i)) y.1 y.2

passes-prop : (bytes : List ℕ) (fault : ImageFault) → IsProp (Passes bytes fault)
passes-prop bytes TooShort = Prim.hlevel props
passes-prop bytes Magic = Prim.hlevel props
passes-prop bytes Version = Prim.hlevel props
passes-prop bytes Length = Prim.hlevel props
passes-prop bytes (Section k) = Prim.hlevel props
passes-prop bytes (Index section k) = Prim.hlevel props
passes-prop bytes (Name section k) = Prim.hlevel props
passes-prop bytes (Code rule place) = Prim.hlevel props
passes-prop bytes (ProgramBad k) = Prim.hlevel (props, move-prop)
passes-prop bytes (Node n) = Prim.hlevel props

pub wellformed-prop : (bytes : List ℕ) → IsProp (IsWellformed bytes)
wellformed-prop bytes = Prim.hlevel (passes-prop)
