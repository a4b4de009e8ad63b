-- What a hex string says, as it is written ('Writing YARA rules', Hexadecimal strings): bytes with the digits that are given, jumps with numbers of any size.
use Rattle.std.specs.Prelude.{ℕ, Bool, Option}

mutual
  -- one item. A jump keeps how many bytes of the text are left at its `[`, its first number, and its last where it has one.
  pub data Item : Type 0 where
    Byte : (negated : Bool) → (high low : Option ℕ) → Item
    Jump : (left least : ℕ) → (most : Option ℕ) → Item
    Group : Branches → Item

  -- items one after the other, at least one
  pub data Items : Type 0 where
    last : Item → Items
    more : Item → Items → Items

  -- branches of which one is taken, at least one
  pub data Branches : Type 0 where
    only : Items → Branches
    or : Items → Branches → Branches
