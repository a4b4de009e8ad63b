-- What a hex string is: a pattern, no hex string, or one with a jump that breaks a rule.
use Rattle.std.specs.Prelude.{◌≡◌, ℕ, ◌+◌, ◌≤◌, length}
use Rattle.yr_pattern.specs.Tree.{Tree}
use Rattle.yr_hex.specs.Gaps.{Text}
use Rattle.yr_hex.specs.Items.{Items}
use Rattle.yr_hex.specs.Grammar.{SpellsHex}
use Rattle.yr_hex.specs.Jumps.{HasBadJump}
use Rattle.yr_hex.specs.Meaning.{meaning}

-- the text has a reading in which no jump breaks a rule, and the tree is its pattern
pub record IsPattern (t : Text) (tree : Tree) : Type 0 where
  pub items : Items
  pub spells : SpellsHex t items
  pub good : (left : ℕ) → ¬ HasBadJump items left
  pub means : tree ≡ meaning items

-- the text has no reading
abbrev pub HasNoReading : Text → Type 0
HasNoReading t = (items : Items) → ¬ SpellsHex t items

-- the text has a reading, and at the place stands the `[` of the first jump that breaks a rule: what stands first has the most bytes left
pub record IsFirstBadJump (t : Text) (place : ℕ) : Type 0 where
  pub items : Items
  pub left : ℕ
  pub spells : SpellsHex t items
  pub bad : HasBadJump items left
  pub first : (other : ℕ) → HasBadJump items other → other ≤ left
  pub at : place + left ≡ length t
