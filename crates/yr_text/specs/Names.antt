-- The names of modifiers ('Writing YARA rules', 'String modifiers'), and how often each stands in a list.
use Rattle.std.specs.Prelude.{ℕ, Bool, ◌==◌, nat_le, List}
use Rattle.std.specs.List.{count_by, list_any}
use Rattle.yr_syntax.specs.Declaration.{ModifierTree, NoCase, Wide, Ascii, FullWord, Hidden, Xor, Base64, Base64Wide}
use Rattle.yr_text.specs.declared.name.Name.{Name}
use Rattle.yr_text.specs.declared.name.Name.TheVariants as name

-- the name of a modifier, whatever its argument
abbrev pub name_of : ModifierTree → Name
name_of NoCase = name.NoCase
name_of Wide = name.Wide
name_of Ascii = name.Ascii
name_of FullWord = name.FullWord
name_of Hidden = name.Hidden
name_of (Xor low high) = name.Xor
name_of (Base64 alphabet) = name.Base64
name_of (Base64Wide alphabet) = name.Base64Wide

-- names are told apart by their place in the table
abbrev pub place_in_table : Name → ℕ
place_in_table name.NoCase = 0
place_in_table name.Wide = 1
place_in_table name.Ascii = 2
place_in_table name.FullWord = 3
place_in_table name.Hidden = 4
place_in_table name.Xor = 5
place_in_table name.Base64 = 6
place_in_table name.Base64Wide = 7

-- the modifier has this name
abbrev pub is_named : Name → ModifierTree → Bool
is_named wanted m = place_in_table (name_of m) == place_in_table wanted

-- how many modifiers have this name
abbrev pub count_named : Name → List ModifierTree → ℕ
count_named wanted modifiers = count_by (is_named wanted) modifiers

-- a modifier has this name
abbrev pub stands : List ModifierTree → Name → Bool
stands modifiers wanted = nat_le 1 (count_named wanted modifiers)

-- a modifier has one of these names
abbrev pub stands_some : List Name → List ModifierTree → Bool
stands_some names modifiers = list_any (stands modifiers) names

-- two modifiers have this name
abbrev pub is_repeated : List ModifierTree → Name → Bool
is_repeated modifiers wanted = nat_le 2 (count_named wanted modifiers)

-- two modifiers have one of these names
abbrev pub is_some_repeated : List Name → List ModifierTree → Bool
is_some_repeated names modifiers = list_any (is_repeated modifiers) names
