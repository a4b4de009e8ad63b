-- The parts of a checked condition that the code makes, as plain data.
use Rattle.std.specs.Prelude.{ℕ, ◌<◌, List, [], ◌∷◌, map, Option}
use Rattle.std.specs.Option.{option_map}
use Rattle.yr_syntax.specs.declared.operator.PrefixOp.{PrefixOp}
use Rattle.yr_rules.specs.declared.node.Node.{Node}
use Rattle.yr_rules.specs.NodeTree.{NodeTree, NodeLinks, NodeItems, OneLink, Bounds, Prefix, link, item, tree_of}
use Rattle.yr_conditions.specs.Meanings as meaning
use Rattle.yr_conditions.specs.Meanings.{Meaning, Index, NoIndex, OfLoop, Written}

-- prefix operators before a condition, the first one outermost
abbrev pub wrapped : List PrefixOp → NodeTree → NodeTree
wrapped [] n = n
wrapped (op ∷ ops) n = Prefix op (wrapped ops n)

-- operators and conditions before others
abbrev pub linked : List OneLink → NodeLinks → NodeLinks
linked [] rest = rest
linked (l ∷ ls) rest = link l.op l.operand (linked ls rest)

abbrev pub listed : List NodeTree → NodeItems → NodeItems
listed [] rest = rest
listed (n ∷ ns) rest = item n (listed ns rest)

abbrev pub bounds : NodeTree → NodeTree → Bounds
bounds low high = record { low = low; high = high }

abbrev pub written_of : List (Option Node) → List (Option NodeTree)
written_of written = map (option_map tree_of) written

-- a variable's number is below the number of open loops, and so is that of a loop whose entry is meant; an external is there
abbrev pub IsLowIndex : ℕ → Index → Type 0
IsLowIndex n NoIndex = Unit {0}
IsLowIndex n (OfLoop k) = k < n
IsLowIndex n Written = Unit {0}

abbrev pub IsLow : ℕ → ℕ → Meaning → Type 0
IsLow n externals meaning.Unknown = Unit {0}
IsLow n externals meaning.Wrong = Unit {0}
IsLow n externals (meaning.Module m) = Unit {0}
IsLow n externals (meaning.Array m path count) = Unit {0}
IsLow n externals (meaning.Entry m path i) = IsLowIndex n i
IsLow n externals (meaning.Function id kind) = Unit {0}
IsLow n externals (meaning.Constant z) = Unit {0}
IsLow n externals (meaning.Field id kind i) = IsLowIndex n i
IsLow n externals (meaning.Result id kind) = Unit {0}
IsLow n externals (meaning.Variable k) = k < n
IsLow n externals (meaning.External k) = k < externals
IsLow n externals (meaning.RuleTruth k) = Unit {0}
