-- The pattern of a hex string.
use Rattle.std.specs.Prelude.{ℕ, ◌/◌, ◌%◌, Bool, true, false, ◌&&◌, ◌==◌, nat_lt, Option, Some, None}
use Rattle.yr_pattern.specs.Set.{all_but, any_byte}
use Rattle.yr_pattern.specs.Tree.{Tree, Trees, One, Seq, Alt, Rep, none}
use Rattle.yr_pattern.specs.Tree as tree
use Rattle.yr_hex.specs.Items.{Item, Items, Branches, Byte, Jump, Group, last, more, only, or}

-- half of a byte agrees with the digit, where one is given
abbrev pub agrees : Option ℕ → ℕ → Bool
agrees None half = true
agrees (Some digit) half = half == digit

-- both halves of a byte agree with their digits
abbrev pub halves_agree : (high low : Option ℕ) → ℕ → Bool
halves_agree high low b = agrees high (b / 16) && agrees low (b % 16)

-- the bytes whose given digits agree
abbrev pub agreeing : (high low : Option ℕ) → ℕ → Bool
agreeing high low b = nat_lt b 256 && halves_agree high low b

-- those, or with `~` all others
abbrev pub class_of : (negated : Bool) → (high low : Option ℕ) → ℕ → Bool
class_of false high low = agreeing high low
class_of true high low = all_but (agreeing high low)

abbrev mutual
  -- a byte, a repetition of any byte, or a group
  pub item_tree : Item → Tree
  item_tree (Byte negated high low) = One (class_of negated high low)
  item_tree (Jump left least most) = Rep (One any_byte) least most
  item_tree (Group branches) = group_tree branches

  -- one branch alone, or a choice
  pub group_tree : Branches → Tree
  group_tree (only is) = Seq (members_of is)
  group_tree (or is bs) = Alt (tree.more (Seq (members_of is)) (branches_of bs))

  -- each branch as a sequence
  pub branches_of : Branches → Trees
  branches_of (only is) = tree.more (Seq (members_of is)) none
  branches_of (or is bs) = tree.more (Seq (members_of is)) (branches_of bs)

  -- each item
  pub members_of : Items → Trees
  members_of (last i) = tree.more (item_tree i) none
  members_of (more i is) = tree.more (item_tree i) (members_of is)

-- the items one after the other
abbrev pub meaning : Items → Tree
meaning is = Seq (members_of is)
