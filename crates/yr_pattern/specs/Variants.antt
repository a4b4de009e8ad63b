-- A variant of a string as plain data: a text as it is compared, or a pattern, and what must stand beside it.
use Rattle.std.specs.Prelude.{◌≡◌, ℕ, ◌<◌, Bool, true, List, length}
use Rattle.yr_base.specs.declared.border.Border.{Border}
use Rattle.yr_pattern.specs.declared.variant.Variant.{Variant}
use Rattle.yr_pattern.specs.declared.variant.VariantBody as code
use Rattle.yr_pattern.specs.declared.variant.VariantBody.TheVariants as code_body
use Rattle.yr_pattern.specs.Tree.{Tree, tree_of}
use Rattle.yr_pattern.specs.Sizes.{size_of}

-- bytes under a key, in either case of letters where it folds; or a pattern
pub data Body : Type 0 where
  Literal : (bytes : List ℕ) → (key : ℕ) → (fold : Bool) → Body
  Shape : Tree → Body

-- a body, and what must stand beside a span of it
pub record PlainVariant : Type 0 where
  pub body : Body
  pub border : Border

-- the plain body that a body stands for
abbrev pub body_of : code.VariantBody → Body
body_of (code_body.Literal bytes key fold) = Literal bytes.items key fold
body_of (code_body.Shape pattern) = Shape (tree_of pattern)

-- the plain variant that a variant stands for
abbrev pub variant_of : Variant → PlainVariant
variant_of v = record { body = body_of v.body; border = v.border }

-- the length of a literal, the size of a pattern
abbrev pub body_size : Body → ℕ
body_size (Literal bytes key fold) = length bytes
body_size (Shape tree) = size_of tree

-- the size of its body
abbrev pub variant_size : PlainVariant → ℕ
variant_size v = body_size v.body

-- a literal has a byte, and where it folds its key is 0
abbrev pub IsSoundBody : Body → Type 0
IsSoundBody (Literal bytes key fold) = (0 < length bytes) × (fold ≡ true → key ≡ 0)
IsSoundBody (Shape tree) = Unit {0}
