-- Small conditions, on which the grammar is tried.
use Rattle.std.specs.Prelude.{pos, [], ◌∷◌, codes}
use Rattle.yr_syntax.specs.declared.operator.Infix.TheVariants as op
use Rattle.yr_syntax.specs.declared.operator.PrefixOp.TheVariants as prefix
use Rattle.yr_syntax.specs.declared.operator.Reader.TheVariants as reader
use Rattle.yr_syntax.specs.Condition.{Condition}
use Rattle.yr_syntax.specs.Condition as tree
use Rattle.yr_parser.specs.declared.sign.Sign.TheVariants as sign
use Rattle.yr_parser.specs.declared.level.Level.TheVariants as levels
use Rattle.yr_parser.specs.Terminals.{Terminals, Word, Number, Text, StringName, StringWild, CountName, PlaceName, Read, Operator, Sign}
use Rattle.yr_parser.specs.Levels.{level}
use Rattle.yr_parser.specs.Conditions.{Reads, named_by_front}

-- the terminals, up to a closing brace, spell the condition
abbrev pub Spells : Terminals → Condition → Type 0
Spells k c = Reads (level levels.Or) k c (Sign sign.CloseBrace ∷ [])

-- no front of the terminals up to the brace is a condition
abbrev pub IsNoCondition : Terminals → Type 0
IsNoCondition k = (c : Condition) → Spells k c → ⊥

abbrev pub brace : Terminals
brace = Sign sign.CloseBrace ∷ []

-- 2 of ($s*) or any of ($h*)
abbrev pub two_of : Terminals
two_of =
    Number (pos 2) ∷ Sign sign.Of ∷ Sign sign.Open ∷ StringWild (codes "s") ∷ Sign sign.Close ∷ Operator op.Or ∷ Sign sign.Any ∷ Sign sign.Of
    ∷ Sign sign.Open ∷ StringWild (codes "h") ∷ Sign sign.Close ∷ brace

abbrev pub two_of_tree : Condition
two_of_tree =
    tree.Chain (tree.Of (tree.AtLeast (tree.Number (pos 2))) (tree.Strings (named_by_front (codes "s") ∷ [])) tree.Anywhere)
    (tree.link op.Or (tree.Of tree.Any (tree.Strings (named_by_front (codes "h") ∷ [])) tree.Anywhere) tree.no_link)

-- 50% of them at 7
abbrev pub percent_of : Terminals
percent_of = Number (pos 50) ∷ Operator op.Remainder ∷ Sign sign.Of ∷ Sign sign.Them ∷ Sign sign.At ∷ Number (pos 7) ∷ brace

abbrev pub percent_of_tree : Condition
percent_of_tree = tree.Of (tree.Percent (tree.Number (pos 50))) tree.Them (tree.At (tree.Number (pos 7)))

-- for any s in elf.sections : ( s.name == ".text" )
abbrev pub sections : Terminals
sections =
    Sign sign.For ∷ Sign sign.Any ∷ Word (codes "s") ∷ Sign sign.In ∷ Word (codes "elf") ∷ Sign sign.Dot ∷ Word (codes "sections") ∷ Sign sign.Colon
    ∷ Sign sign.Open ∷ Word (codes "s") ∷ Sign sign.Dot ∷ Word (codes "name") ∷ Operator op.Equal ∷ Text (codes ".text") ∷ Sign sign.Close ∷ brace

abbrev pub sections_tree : Condition
sections_tree =
    tree.ForIn tree.Any (codes "s") (tree.OverPath (tree.name_step (codes "elf") (tree.name_step (codes "sections") tree.no_step)))
    (tree.Chain (tree.Path (tree.name_step (codes "s") (tree.name_step (codes "name") tree.no_step))) (tree.link op.Equal (tree.Text (codes ".text")) tree.no_link))

-- not $a in (0..#b) and @c[1] + 2 * 3 < uint16(0)
abbrev pub mixed : Terminals
mixed =
    Sign sign.Not ∷ StringName (codes "a") ∷ Sign sign.In ∷ Sign sign.Open ∷ Number (pos 0) ∷ Sign sign.DotDot ∷ CountName (codes "b") ∷ Sign sign.Close
    ∷ Operator op.And ∷ PlaceName (codes "c") ∷ Sign sign.OpenBracket ∷ Number (pos 1) ∷ Sign sign.CloseBracket ∷ Operator op.Add ∷ Number (pos 2)
    ∷ Operator op.Multiply ∷ Number (pos 3) ∷ Operator op.Less ∷ Read reader.Uint16 ∷ Sign sign.Open ∷ Number (pos 0) ∷ Sign sign.Close ∷ brace

abbrev pub mixed_tree : Condition
mixed_tree =
    tree.Chain (tree.Prefix prefix.Not (tree.Found (codes "a") (tree.Within (tree.Number (pos 0)) (tree.Count (codes "b")))))
    (tree.link op.And
    (tree.Chain
    (tree.Chain (tree.OffsetAt (codes "c") (tree.Number (pos 1)))
    (tree.link op.Add (tree.Chain (tree.Number (pos 2)) (tree.link op.Multiply (tree.Number (pos 3)) tree.no_link)) tree.no_link))
    (tree.link op.Less (tree.Read reader.Uint16 (tree.Number (pos 0))) tree.no_link))
    tree.no_link)

-- 50% 2 of them
abbrev pub percent_count : Terminals
percent_count = Number (pos 50) ∷ Operator op.Remainder ∷ Number (pos 2) ∷ Sign sign.Of ∷ Sign sign.Them ∷ brace

-- 1 + 1 of them
abbrev pub sum_of : Terminals
sum_of = Number (pos 1) ∷ Operator op.Add ∷ Number (pos 1) ∷ Sign sign.Of ∷ Sign sign.Them ∷ brace

-- $a == 1
abbrev pub string_equal : Terminals
string_equal = StringName (codes "a") ∷ Operator op.Equal ∷ Number (pos 1) ∷ brace

-- 1 < 2 < 3
abbrev pub two_comparisons : Terminals
two_comparisons = Number (pos 1) ∷ Operator op.Less ∷ Number (pos 2) ∷ Operator op.Less ∷ Number (pos 3) ∷ brace

-- for 50% of them : ( $ )
abbrev pub percent_loop : Terminals
percent_loop =
    Sign sign.For ∷ Number (pos 50) ∷ Operator op.Remainder ∷ Sign sign.Of ∷ Sign sign.Them ∷ Sign sign.Colon ∷ Sign sign.Open ∷ StringName [] ∷ Sign sign.Close ∷ brace

pub record Examples : Type 0 where
  pub two_of : Spells two_of two_of_tree
  pub percent_of : Spells percent_of percent_of_tree
  pub sections : Spells sections sections_tree
  pub mixed : Spells mixed mixed_tree
  pub empty : IsNoCondition brace
  pub percent_count : IsNoCondition percent_count
  pub sum_of : IsNoCondition sum_of
  pub string_equal : IsNoCondition string_equal
  pub two_comparisons : IsNoCondition two_comparisons
  pub percent_loop : IsNoCondition percent_loop
