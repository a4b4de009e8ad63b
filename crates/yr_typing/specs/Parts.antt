-- The kinds and the weights of forms with an optional part.
use Rattle.std.specs.Option.{option_or}
use Rattle.std.specs.Prelude.{ℕ, ◌+◌, List, Option, Some, None}
use Rattle.yr_base.specs.declared.value.Kind.{Kind}
use Rattle.yr_base.specs.declared.value.Kind.TheVariants as kind
use Rattle.yr_rules.specs.Kinds.{kind_of, of_number, of_numbers, own_index}
use Rattle.yr_rules.specs.Loops.{Loop}
use Rattle.yr_rules.specs.Weight.{node_weight}
use Rattle.yr_rules.specs.NodeTree.{NodeTree, Bounds}
use Rattle.yr_rules.specs.Rules.{PlainExternal}

-- of a count, in a range or without one
abbrev pub range_kind : List PlainExternal → Option Bounds → List Loop → Option Kind
range_kind externals None loops = Some kind.Number
range_kind externals (Some r) loops = of_numbers (kind_of externals r.low loops) (kind_of externals r.high loops) kind.Number

-- of an offset or a length, with an index or without one
abbrev pub index_kind : List PlainExternal → Option NodeTree → List Loop → Option Kind
index_kind externals None loops = Some kind.Number
index_kind externals (Some i) loops = of_number (kind_of externals i loops) kind.Number

-- of a field with a kind, with an index or without one
abbrev pub field_kind : List PlainExternal → Kind → Option NodeTree → List Loop → Option Kind
field_kind externals k None loops = Some k
field_kind externals k (Some i) loops = of_number (option_or (own_index i loops) (kind_of externals i loops)) k

-- the weights of the same
abbrev pub range_weight : Option Bounds → List Loop → ℕ
range_weight None loops = 16
range_weight (Some r) loops = 16 + node_weight r.low loops + node_weight r.high loops

abbrev pub index_weight : Option NodeTree → List Loop → ℕ
index_weight None loops = 16
index_weight (Some i) loops = 16 + node_weight i loops
