-- The kind that the form of a checked condition tells is its kind.
use Rattle.std.proofs.Common.{◌≡◌, List, ◌∷◌, Option, Some, None, ap}
use Rattle.yr_base.specs.declared.value.Kind.{Kind}
use Rattle.yr_base.specs.declared.value.Kind.TheVariants as kind
use Rattle.yr_syntax.specs.declared.operator.PrefixOp.{PrefixOp}
use Rattle.yr_syntax.specs.declared.operator.PrefixOp.TheVariants as prefix
use Rattle.yr_rules.specs.NodeTree.{NodeTree, Number, Text, Flag, FileSize, External, RuleTruth, Var, Field, FieldAt, Call, Found, Count, CountIn, Offset, OffsetAt, Length, LengthAt, Read, Prefix, Chain, Matches, Of, ForOf, ForIn}
use Rattle.yr_rules.specs.Rules.{PlainExternal}
use Rattle.yr_rules.specs.Loops.{Loop, Members, Numbers, Entries, loop_at, loop_over}
use Rattle.yr_rules.specs.Kinds.{of_numbers, of_value, both, prefix_kind, variable_kind, place_fits, loop_fits, kind_of, place_kind, asked_kind, loop_asked_kind, domain_kind}
use Rattle.yr_emission.specs.Parts.{known_kind, prefix_answer, value_kind}
use Rattle.yr_emission.proofs.KindFacts.{same, nothing, second, number_makes, numbers_make, text_makes, value_makes, where_made}
use Rattle.yr_emission.proofs.OperatorFacts.{links_make}

variable_makes : (o : Option Loop) (k : Kind) → variable_kind o ≡ Some k → kind.Number ≡ k
variable_makes None k h = absurd (nothing k h)
variable_makes (Some Members) k h = absurd (nothing k h)
variable_makes (Some Entries) k h = absurd (nothing k h)
variable_makes (Some Numbers) k h = same kind.Number k h

prefix_makes : (o : PrefixOp) (j : Option Kind) (k : Kind) → prefix_kind o j ≡ Some k → prefix_answer o ≡ k
prefix_makes prefix.Minus j k h = number_makes j kind.Number k h
prefix_makes prefix.Flip j k h = number_makes j kind.Number k h
prefix_makes prefix.Not j k h = value_makes j k h
prefix_makes prefix.Defined j k h = value_makes j k h

module _ (externals : List PlainExternal) where
  pub value_known : (c : NodeTree) (loops : List Loop) (k : Kind) → kind_of externals c loops ≡ Some k → value_kind externals c ≡ k
  value_known (Number n) loops k h = same kind.Number k h
  value_known (Text t) loops k h = same kind.Text k h
  value_known (Flag b) loops k h = same kind.Flag k h
  value_known FileSize loops k h = same kind.Number k h
  value_known (External n) loops k h = ap known_kind h
  value_known (RuleTruth n) loops k h = same kind.Flag k h
  value_known (Var d) loops k h = variable_makes (loop_at d loops) k h
  value_known (Field id kd) loops k h = same kd k h
  value_known (FieldAt id kd index) loops k h = number_makes _ kd k h
  value_known (Call id kd from size) loops k h = numbers_make _ _ kd k h
  value_known (Found string place) loops k h = number_makes _ kind.Flag k h
  value_known (Count string) loops k h = same kind.Number k h
  value_known (CountIn string low high) loops k h = numbers_make _ _ kind.Number k h
  value_known (Offset string) loops k h = same kind.Number k h
  value_known (OffsetAt string index) loops k h = number_makes _ kind.Number k h
  value_known (Length string) loops k h = same kind.Number k h
  value_known (LengthAt string index) loops k h = number_makes _ kind.Number k h
  value_known (Read reader at) loops k h = number_makes _ kind.Number k h
  value_known (Prefix o inner) loops k h = prefix_makes o (kind_of externals inner loops) k h
  value_known (Chain first rest) loops k h =
      links_make externals rest (kind_of externals first loops) (value_kind externals first) loops k (λ j q. value_known first loops j q) h
  value_known (Matches text regex) loops k h = text_makes _ kind.Flag k h
  value_known (Of asked set place) loops k h =
      numbers_make _ _ kind.Flag k (where_made (place_fits set place) (of_numbers (asked_kind externals asked loops) (place_kind externals place loops) kind.Flag) k h)
  value_known (ForOf asked set body) loops k h =
      let inner = of_value (kind_of externals body (Members ∷ loops)) in
      value_makes _ k (second (loop_asked_kind externals asked loops) inner k (where_made (loop_fits set) (both (loop_asked_kind externals asked loops) inner) k h))
  value_known (ForIn asked name domain body) loops k h =
      let inner = of_value (kind_of externals body (loop_over domain ∷ loops)) in
      value_makes _ k (second (domain_kind externals domain loops) inner k (second (loop_asked_kind externals asked loops) (both (domain_kind externals domain loops) inner) k h))
