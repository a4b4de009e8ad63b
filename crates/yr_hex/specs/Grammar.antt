-- The grammar of hex strings ('Writing YARA rules', Hexadecimal strings). Each relation says that something stands at the front of a text, and what follows it.
use Rattle.std.specs.Prelude.{◌≡◌, ℕ, suc, ◌+◌, ◌-◌, ◌*◌, Bool, true, false, ◌&&◌, ◌==◌, nat_le, if◌then◌else◌, [], ◌∷◌, length, Option, Some, None}
use Rattle.yr_base.specs.Bytes.{is_digit}
use Rattle.yr_hex.specs.Gaps.{Text, Gap}
use Rattle.yr_hex.specs.Items.{Item, Items, Branches, Byte, Jump, Group, last, more, only, or}

-- half of a byte: a hex digit of either case, or `?` for any
abbrev pub half : ℕ → Option (Option ℕ)
half b = if is_digit b then Some (Some (b - 48))
    else if nat_le 65 b && nat_le b 70 then Some (Some (b - 55))
    else if nat_le 97 b && nat_le b 102 then Some (Some (b - 87))
    else if b == 63 then Some None
    else None

-- a digit stands in front
abbrev pub begins_digit : Text → Bool
begins_digit [] = false
begins_digit (b ∷ t) = is_digit b

-- the digits in front, which make of the number before them this one
pub data Digits : ℕ → Text → ℕ → Text → Type 0 where
  end : {n : ℕ} {t : Text} → begins_digit t ≡ false → Digits n t n t
  digit : {n b v : ℕ} {t rest : Text} → is_digit b ≡ true → Digits (10 * n + (b - 48)) t v rest → Digits n (b ∷ t) v rest

-- one or more digits
pub data Number : Text → ℕ → Text → Type 0 where
  number : {b v : ℕ} {t rest : Text} → is_digit b ≡ true → Digits (b - 48) t v rest → Number (b ∷ t) v rest

-- a jump: `[n]`, `[n-m]`, `[n-]` or `[-]`
pub data ReadsJump : Text → ℕ → Option ℕ → Text → Type 0 where
  exactly : {n : ℕ} {t u v rest : Text} → Gap t u → Number u n v → Gap v (93 ∷ rest) → ReadsJump (91 ∷ t) n (Some n) rest
  between : {n m : ℕ} {t u v w x y rest : Text} → Gap t u → Number u n v → Gap v (45 ∷ w) → Gap w x → Number x m y → Gap y (93 ∷ rest)
      → ReadsJump (91 ∷ t) n (Some m) rest
  from : {n : ℕ} {t u v w rest : Text} → Gap t u → Number u n v → Gap v (45 ∷ w) → Gap w (93 ∷ rest) → ReadsJump (91 ∷ t) n None rest
  any : {t w rest : Text} → Gap t (45 ∷ w) → Gap w (93 ∷ rest) → ReadsJump (91 ∷ t) 0 None rest

mutual
  -- an item, with brackets nested no deeper than the number: two halves, `~` and two halves that are not both `?`, a jump, or branches in brackets
  pub data ReadsItem : ℕ → Text → Item → Text → Type 0 where
    byte : {n h l : ℕ} {high low : Option ℕ} {rest : Text} → half h ≡ Some high → half l ≡ Some low → ReadsItem n (h ∷ l ∷ rest) (Byte false high low) rest
    other : {n h l : ℕ} {high low : Option ℕ} {rest : Text} → half h ≡ Some high → half l ≡ Some low → ¬ ((high ≡ None) × (low ≡ None))
        → ReadsItem n (126 ∷ h ∷ l ∷ rest) (Byte true high low) rest
    jump : {n least : ℕ} {most : Option ℕ} {t rest : Text} → ReadsJump t least most rest → ReadsItem n t (Jump (length t) least most) rest
    group : {n : ℕ} {branches : Branches} {t rest : Text} → ReadsBranches n t branches (41 ∷ rest) → ReadsItem (suc n) (40 ∷ t) (Group branches) rest

  -- items, with blanks and comments before and after each
  pub data ReadsItems : ℕ → Text → Items → Text → Type 0 where
    last_item : {n : ℕ} {i : Item} {t u v rest : Text} → Gap t u → ReadsItem n u i v → Gap v rest → ReadsItems n t (last i) rest
    item_then : {n : ℕ} {i : Item} {is : Items} {t u v rest : Text} → Gap t u → ReadsItem n u i v → ReadsItems n v is rest → ReadsItems n t (more i is) rest

  -- branches, with `|` between them
  pub data ReadsBranches : ℕ → Text → Branches → Text → Type 0 where
    last_branch : {n : ℕ} {is : Items} {t rest : Text} → ReadsItems n t is rest → ReadsBranches n t (only is) rest
    branch_then : {n : ℕ} {is : Items} {bs : Branches} {t u rest : Text} → ReadsItems n t is (124 ∷ u) → ReadsBranches n u bs rest → ReadsBranches n t (or is bs) rest

-- the whole text says these items, with brackets nested at most 64 deep
abbrev pub SpellsHex : Text → Items → Type 0
SpellsHex t is = ReadsItems 64 t is []
