-- Stacks as lists from the top down, over an array from the bottom up.
use Rattle.std.proofs.Common.{◌≡◌, ℕ, zero, suc, ◌+◌, ◌-◌, ◌<◌, ◌≤◌, List, [], ◌∷◌, ◌++◌, length, take, drop, reverse, get_or, Option, Some, None, refl, sym, ap, ◌∙◌, arith, true, false, cond}
use Rattle.std.specs.Prelude.{option_map, option_and_then, IfSome}
use Rattle.std.proofs.lemmas.List.{length-reverse, length-take-le, reverse-append, take-append-drop, length-drop, take_more}
use Rattle.std.proofs.lemmas.Grind.{take-set_at}
use Rattle.std.proofs.Math.Seq.{drop-append_seam}
use Rattle.std.proofs.Math.ListN.{set}
use Rattle.yr_base.specs.declared.value.Kind.{Kind}
use Rattle.yr_base.specs.declared.value.Kind.TheVariants as kind
use Rattle.yr_machine.specs.declared.block.Want.{Want}
use Rattle.yr_machine.specs.declared.block.Want.TheVariants as want
use Rattle.yr_machine.specs.CodeWalk.{take_kinds, is_wanted}
use Rattle.yr_verifier.specs.Stacks.{down_to}
use Rattle.yr_verifier.specs.Effects.{copies}

module _ {A : Type 0} where
  pub stack_height : (h : ℕ) (items : List A) → h ≤ length items → length (reverse (take h items)) ≡ h
  stack_height h items le = length-reverse (take h items) ∙ length-take-le h items le

  pub stack_push : (h : ℕ) (items : List A) (x : A) → h < length items → reverse (take (h + 1) (set items h x)) ≡ x ∷ reverse (take h items)
  stack_push h items x lt = ap reverse (take-set_at items h (h + 1) x refl lt) ∙ reverse-append (take h items) (x ∷ [])

  pub take_front : (i j : ℕ) (xs : List A) → i ≤ j → take i (take j xs) ≡ take i xs
  take_front zero j xs le = refl
  take_front (suc i) zero xs le = absurd (omega (arith, le))
  take_front (suc i) (suc j) [] le = refl
  take_front (suc i) (suc j) (x ∷ xs) le = ap (λ l. x ∷ l) (take_front i j xs (omega (arith, le)))

  -- what is left of a stack below a height
  pub stack_front : (h : ℕ) (items : List A) → h ≤ length items → reverse (take h items) ≡ down_to h (reverse items)
  stack_front h items le =
      let front = take h items in
      let above = drop h items in
      let parts : reverse items ≡ reverse above ++ reverse front = ap reverse (sym (take-append-drop h items)) ∙ reverse-append front above in
      let size : length (reverse above) ≡ length items - h = omega (arith, length-reverse above, length-drop h items) in
      let count : length (reverse items) ≡ length items = length-reverse items in
      sym (drop-append_seam (reverse above) (reverse front)) ∙ ap (λ n. drop n (reverse above ++ reverse front)) (size ∙ ap (λ n. n - h) (sym count))
      ∙ ap (drop (length (reverse items) - h)) (sym parts)

  pub stack_cut : (h most : ℕ) (items : List A) → h ≤ most → most ≤ length items →
      reverse (take h items) ≡ down_to h (reverse (take most items))
  stack_cut h most items le fits =
      ap reverse (sym (take_front h most items le)) ∙ stack_front h (take most items) (omega (arith, length-take-le most items fits, le))

  -- the top stands first
  pub stack_top : (h : ℕ) (items : List A) (d : A) → 0 < h → h ≤ length items → reverse (take h items) ≡ get_or items (h - 1) d ∷ reverse (take (h - 1) items)
  stack_top zero items d some le = absurd (omega (arith, some))
  stack_top (suc h) items d some le =
      let one : suc h - 1 ≡ h = omega arith in
      let next : suc h ≡ h + 1 = omega arith in
      ap (λ n. reverse (take n items)) next ∙ ap reverse (take_more items h d (omega (arith, le))) ∙ reverse-append (take h items) (get_or items h d ∷ [])
      ∙ ap (λ n. get_or items n d ∷ reverse (take n items)) (sym one)

-- one value more is taken
pub take_next : (w : Want) (k : Kind) (n m : ℕ) (below : List Want) (kinds : List Kind) → n ≡ suc m → is_wanted w k ≡ true →
    take_kinds (copies w n below) (k ∷ kinds) ≡ take_kinds (copies w m below) kinds
take_next w k n m below kinds e t =
    ap (λ i. take_kinds (copies w i below) (k ∷ kinds)) e ∙ ap (λ b. cond b (take_kinds (copies w m below) kinds) None) t

pub take_other : (w : Want) (k : Kind) (n m : ℕ) (below : List Want) (kinds : List Kind) → n ≡ suc m → is_wanted w k ≡ false →
    take_kinds (copies w n below) (k ∷ kinds) ≡ None
take_other w k n m below kinds e t =
    ap (λ i. take_kinds (copies w i below) (k ∷ kinds)) e ∙ ap (λ b. cond b (take_kinds (copies w m below) kinds) None) t

pub take_empty : (w : Want) (n m : ℕ) (below : List Want) → n ≡ suc m → take_kinds (copies w n below) [] ≡ None
take_empty w n m below e = ap (λ i. take_kinds (copies w i below) []) e

-- the number of a quantifier is taken below the other values
pub take_number : (kinds part : List Kind) (k : ℕ) → part ≡ take k kinds → k ≤ length kinds → (o : Option ℕ) → IfSome o (λ h. h ≤ length part) →
    option_and_then (λ h. take_kinds [] (reverse (take h part))) o ≡ take_kinds (copies (want.Of kind.Number) 1 []) (reverse part) →
    option_map (λ h. reverse (take h kinds)) o ≡ take_kinds (copies (want.Of kind.Number) 1 []) (reverse (take k kinds))
take_number kinds part k is le None small e = e ∙ ap (λ l. take_kinds (copies (want.Of kind.Number) 1 []) (reverse l)) is
take_number kinds part k is le (Some h) small e =
    let low : h ≤ k = omega (arith, small, ap length is, length-take-le k kinds le) in
    ap (λ l. Some (reverse l)) (sym (take_front h k kinds low)) ∙ ap (λ l. Some (reverse (take h l))) (sym is) ∙ e
    ∙ ap (λ l. take_kinds (copies (want.Of kind.Number) 1 []) (reverse l)) is
