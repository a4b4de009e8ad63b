-- Runs of prefix operators.
use Rattle.std.specs.Prelude.{List, [], ◌∷◌}
use Rattle.yr_syntax.specs.declared.operator.PrefixOp.{PrefixOp}
use Rattle.yr_rules.specs.NodeTree.{NodeTree, Prefix}
use Rattle.yr_image.specs.declared.rows.CodeRow.{CodeRow}
use Rattle.yr_image.specs.Image.{Image}
use Rattle.yr_emission.specs.Parts.{Part, IsSized, one, both, prefix_row}
use Rattle.yr_emission.specs.Written.{Written}

-- the condition under these operators, the first of which is the outermost
abbrev pub prefixed : List PrefixOp → NodeTree → NodeTree
prefixed [] c = c
prefixed (o ∷ os) c = Prefix o (prefixed os c)

-- the same of a part
abbrev pub part_under : List PrefixOp → Part → Part
part_under [] x = x
part_under (o ∷ os) x = both (part_under os x) (one (prefix_row o))

-- whatever part ends the rows before, that part under the operators ends the rows after
abbrev pub PutUnder : List PrefixOp → (before after : List CodeRow) → Type 0
PutUnder ops before after =
    (x : Part) (first : List CodeRow) (old new : Image) → IsSized x → Written x first before old new → Written (part_under ops x) first after old new
