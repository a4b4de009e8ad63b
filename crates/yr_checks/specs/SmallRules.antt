-- Rule files of one line each, on which every check fails once, and their neighbours on which it does not.
use Rattle.std.specs.Prelude.{ℕ, zero, suc, ◌+◌, pos, true, false, List, [], ◌∷◌, ◌++◌, map, length, codes, Option, Some, Ok, Err}
use Rattle.std.specs.List.{range_with_len}
use Rattle.std.specs.Option.{option_map}
use Rattle.yr_pattern.specs.Tree as pattern
use Rattle.yr_syntax.specs.Condition as tree
use Rattle.yr_syntax.specs.Condition.{Condition, Items}
use Rattle.yr_syntax.specs.Declaration as declaration
use Rattle.yr_syntax.specs.Declaration.{Declaration, StringTree, ModifierTree}
use Rattle.yr_values.specs.Values as value
use Rattle.yr_rules.specs.NodeTree.{NodeTree}
use Rattle.yr_name_tables.specs.Names.{Name}
use Rattle.yr_checks.specs.Sources.{UnitTree, items_of}
use Rattle.yr_conditions.specs.Readers.{Readers, HexRefusal, RegexRefusal}
use Rattle.yr_checks.specs.Given.{Given, Finding}
use Rattle.yr_checks.specs.Checked.{checked_rules}
use Rattle.yr_checks.specs.Refusals.{PlainRefusal, first_fault}
use Rattle.yr_checks.specs.Examples.{elf, hash, one, one_unit, rule_with, string_of, equal, word, yes}

-- any byte, so often
abbrev pub repeated : ℕ → pattern.Tree
repeated n = pattern.Rep (pattern.One (λ b. true)) n (Some n)

-- Readers by which a hex string is a byte so often as this, and once more for each byte of its text, and an expression is refused so.
abbrev pub sized : ℕ → RegexRefusal → Readers
sized n refusal = record { hex = λ t. Ok (repeated (n + length t)); regex = λ t nocase dot_all. Err refusal }

-- readers by which nothing is a hex string, and an expression is a byte so often as this
abbrev pub large_regexes : ℕ → Readers
large_regexes n = record { hex = λ t. Err HexRefusal.NoReading; regex = λ t nocase dot_all. Ok (record { pattern = repeated n; greedy = true }) }

-- two small modules and no external, with these readers
abbrev pub given_with : Readers → Given
given_with readers = record { readers = readers; modules = elf ∷ hash ∷ []; externals = [] }

-- what the first check that fails finds
abbrev pub finding_of : PlainRefusal → Finding
finding_of r = record { code = r.code; named = r.named; place = r.place }

abbrev pub found_by : Readers → List UnitTree → Option Finding
found_by readers units = option_map finding_of (first_fault (given_with readers) units)

-- readers of which no rule file here depends
abbrev pub plain : Readers
plain = sized 1 RegexRefusal.NoReading

-- the rule `x` of the namespace `default`, with these strings and this condition
abbrev pub rule_x : List StringTree → Condition → List UnitTree
rule_x strings condition = one_unit (rule_with (codes "x") strings condition ∷ [])

abbrev pub tagged : List Name → List UnitTree
tagged tags = one_unit (declaration.Rule (record {
  name = codes "x";
  global = false;
  hidden = false;
  tags = tags;
  meta = [];
  strings = [];
  condition = yes;
  file = 0;
  line = 1;
}) ∷ [])

-- strings: a text, a text with modifiers, a hex string, an expression
abbrev pub text : Name → StringTree
text name = string_of name (declaration.Text (codes "ab"))

abbrev pub modified : Name → List ModifierTree → StringTree
modified name modifiers = record (text name) { modifiers = modifiers }

abbrev pub hex : Name → StringTree
hex name = string_of name (declaration.Hex [])

abbrev pub regex : Name → StringTree
regex name = string_of name (declaration.Regex (record { text = codes "a"; nocase = false; dot_all = false }))

-- `any of them`, and `any of` one name, and with `*` of its beginning
abbrev pub any_of_them : Condition
any_of_them = tree.Of tree.Any tree.Them tree.Anywhere

abbrev pub any_of : Name → Condition
any_of name = tree.Of tree.Any (tree.Strings (record { name = name; wild = false } ∷ [])) tree.Anywhere

abbrev pub any_like : Name → Condition
any_like name = tree.Of tree.Any (tree.Strings (record { name = name; wild = true } ∷ [])) tree.Anywhere

-- `any of ($a, $*, $a)`
abbrev pub any_repeated : Condition
any_repeated =
    tree.Of tree.Any
    (tree.Strings (record { name = codes "a"; wild = false } ∷ record { name = []; wild = true } ∷ record { name = codes "a"; wild = false } ∷ []))
    tree.Anywhere

-- `"a" matches /a/`
abbrev pub matching : Condition
matching = tree.Matches (tree.Text (codes "a")) (record { text = codes "a"; nocase = false; dot_all = false })

-- so many loops in one another: `for any of them : ( .. for any of them : ( true ) .. )`
abbrev pub loops : ℕ → Condition
loops zero = yes
loops (suc n) = tree.ForOf tree.Any tree.Them (loops n)

-- `for any i in (1, .., 1) : ( true )`, with so many items
abbrev pub ones : ℕ → Items
ones zero = tree.no_item
ones (suc n) = tree.item one (ones n)

abbrev pub over_ones : ℕ → Condition
over_ones n = tree.ForIn tree.Any (codes "i") (tree.OverList (ones n)) yes

-- `1 == "a"`
abbrev pub mixed : Condition
mixed = equal one (tree.Text (codes "a"))

-- Sixteen hex strings `$a` to `$p`, the last four with a byte of text. With a name of 32 bytes and readers that read 65,532 bytes and one for each
-- byte of text, the rule has the greatest weight.
abbrev pub heavy_strings : List StringTree
heavy_strings =
    map (λ k. string_of (k ∷ []) (declaration.Hex [])) (range_with_len 97 12)
    ++ map (λ k. string_of (k ∷ []) (declaration.Hex (48 ∷ []))) (range_with_len 109 4)

abbrev pub heavy : Name → List UnitTree
heavy name = one_unit (rule_with name heavy_strings any_of_them ∷ [])

-- `for any i in (i..1) : ( i == 1 )`
abbrev pub own_variable : Condition
own_variable = tree.ForIn tree.Any (codes "i") (tree.OverRange (word (codes "i") tree.no_step) one) (equal (word (codes "i") tree.no_step) one)

-- the same modules, and externals of these names, which are numbers
abbrev pub given_names : List Name → Given
given_names names = record (given_with plain) { externals = map (λ n. record { name = n; value = value.Number (pos 5) }) names }

-- the conditions of the checked rules, with externals of these names
abbrev pub conditions_with : List Name → List UnitTree → List NodeTree
conditions_with names units = map (λ r. r.condition) (checked_rules (given_names names) (items_of units)).rules
