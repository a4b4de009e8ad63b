-- One part of a path: its forms, its height, and what is written last behind it.
use Rattle.std.specs.Prelude.{ℕ, Bool, List, [], ◌∷◌, Option}
use Rattle.yr_rules.specs.NodeTree.{NodeTree}
use Rattle.yr_syntax.specs.Condition.{OneStep, Name, Index, Call, items_of}
use Rattle.yr_syntax.specs.Forms.{HasForms, ItemsHaveForms}
use Rattle.yr_syntax.specs.Height.{height, items_height}
use Rattle.yr_conditions.specs.Meanings.{Around, Scope}
use Rattle.yr_conditions.specs.Readers.{Readers}
use Rattle.yr_conditions.specs.Shapes.{shape_of, each_shape}

abbrev pub OneHasForms : OneStep → Type 0
OneHasForms (Name w) = Unit {0}
OneHasForms (Index c) = HasForms c
OneHasForms (Call cs) = ItemsHaveForms (items_of cs)

abbrev pub one_height : OneStep → ℕ
one_height (Name w) = 0
one_height (Index c) = height c
one_height (Call cs) = items_height (items_of cs)

abbrev pub one_written : Bool → Readers → Around → OneStep → List (Option NodeTree) → List Scope → List (Option NodeTree)
one_written exact readers around (Name w) written scopes = written
one_written exact readers around (Index c) written scopes = shape_of exact readers around c scopes ∷ []
one_written exact readers around (Call cs) written scopes = each_shape exact readers around (items_of cs) scopes
