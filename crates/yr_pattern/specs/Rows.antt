-- Small patterns and files that the definitions are tried on.
use Rattle.std.specs.Prelude.{ℕ, ◌%◌, ◌==◌, false, Some, List, [], ◌∷◌}
use Rattle.yr_base.specs.declared.border.Border.TheVariants as border
use Rattle.yr_pattern.specs.Set.{only, any_byte, all_but}
use Rattle.yr_pattern.specs.Tree.{Tree, One, Seq, Alt, Rep, trees_of}
use Rattle.yr_pattern.specs.Variants.{Literal, PlainVariant}

-- { 01 ~?2 ( 03 | 04 [1-2] 05 ) }
abbrev pub hex_tree : Tree
hex_tree =
    Seq (trees_of (One (only 1) ∷ One (all_but (λ b. b % 16 == 2))
    ∷ Alt (trees_of (One (only 3) ∷ Seq (trees_of (One (only 4) ∷ Rep (One any_byte) 1 (Some 2) ∷ One (only 5) ∷ [])) ∷ [])) ∷ []))

abbrev pub hex_file : List ℕ
hex_file = 0x01 ∷ 0x13 ∷ 0x04 ∷ 0x00 ∷ 0x00 ∷ 0x05 ∷ []

-- `a` and `-`, two bytes a letter
abbrev pub wide_file : List ℕ
wide_file = 0x61 ∷ 0x00 ∷ 0x2d ∷ 0x00 ∷ []

-- the wide form of `ab` under the key 01
abbrev pub xor_variant : PlainVariant
xor_variant = record { body = Literal (0x61 ∷ 0x00 ∷ 0x62 ∷ 0x00 ∷ []) 1 false; border = border.Free }

abbrev pub xor_file : List ℕ
xor_file = 0x60 ∷ 0x01 ∷ 0x63 ∷ 0x01 ∷ []
