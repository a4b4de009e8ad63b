-- What instructions name is there: open loops of their form, and strings that are present in them.
use Rattle.std.proofs.Common.{◌≡◌, ℕ, zero, suc, ◌+◌, ◌<◌, Bool, true, false, cond, eqb, List, [], ◌∷◌, length, map, Option, Some, None, refl, sym, ap, ◌∙◌, subst, arith}
use Rattle.std.specs.Prelude.{nat_lt}
use Rattle.std.specs.Option.{option_map_or}
use Rattle.std.proofs.lemmas.Bool.{eqb-true}
use Rattle.std.proofs.lemmas.Bool.Decides.{nat_tests}
use Rattle.std.proofs.lemmas.List.{length-map}
use Rattle.yr_values.specs.Comparisons.{flag_eq}
use Rattle.yr_answer.specs.Turns.{Turn, Item, Member, turn_at, member_in, current_of}
use Rattle.std.specs.Prelude.{option_and_then}
use Rattle.yr_image.specs.declared.instruction.NamedString.{NamedString}
use Rattle.yr_image.specs.declared.instruction.NamedString.TheVariants.{Known, Current}
use Rattle.yr_image.specs.Image.{Image}
use Rattle.yr_machine.specs.Machine.{is_member}
use Rattle.yr_machine.specs.Named.{loop_at, is_loop, string_there}
use Rattle.yr_vm.specs.Strings.{IsNamed}
use Rattle.yr_vm.specs.Taken.{AreAmong}

less-at : (a b : ℕ) → nat_lt a b ≡ true → a < b
less-at a b e = grind (arith, nat_tests)

-- what a test of a loop says of the first one, where its number is that or another
here : (form b : Bool) (n c : ℕ) (o : Option Bool) (test : Bool) → eqb c n ≡ test →
    option_map_or (flag_eq form) (cond test (Some b) o) false ≡ true → (option_map_or (flag_eq form) o false ≡ true → c < n) → c < suc n
here form b n c o true q e more = let same : c ≡ n = eqb-true c n q in omega (arith, same)
here form b n c o false q e more = omega (arith, more e)

-- a loop that is there has its number
pub loop-inside : (form : Bool) (loops : List Bool) (c : ℕ) → is_loop form loops c ≡ true → c < length loops
loop-inside form [] c e = cc
loop-inside form (b ∷ loops) c e = here form b (length loops) c (loop_at loops c) (eqb c (length loops)) refl e (loop-inside form loops c)

pub variable-inside : (turns : List Turn) (c : ℕ) → is_loop false (map is_member turns) c ≡ true → c < length turns
variable-inside turns c e = omega (arith, loop-inside false (map is_member turns) c e, length-map turns is_member)

-- the string that is present in a loop over strings, among so many
module _ (count : ℕ) where
  abbrev IsPresent : Option Turn → Type 0
  IsPresent o = (k : ℕ) × (option_and_then member_in o ≡ Some k) × (k < count)

  first-among : (t : Turn) (turns : List Turn) → flag_eq true (is_member t) ≡ true → AreAmong count (t ∷ turns) → IsPresent (Some t)
  first-among (Item v) turns e a = cc
  first-among (Member k) turns e a = (k, refl, a.0)

  rest-among : (t : Turn) (turns : List Turn) → AreAmong count (t ∷ turns) → AreAmong count turns
  rest-among (Item v) turns a = a
  rest-among (Member k) turns a = a.1

  by-test : (t : Turn) (turns : List Turn) (test : Bool) (o : Option Bool) (p : Option Turn) →
      option_map_or (flag_eq true) (cond test (Some (is_member t)) o) false ≡ true → AreAmong count (t ∷ turns) →
      (option_map_or (flag_eq true) o false ≡ true → IsPresent p) → IsPresent (cond test (Some t) p)
  by-test t turns true o p e a more = first-among t turns e a
  by-test t turns false o p e a more = more e

  present-among : (turns : List Turn) (c : ℕ) → is_loop true (map is_member turns) c ≡ true → AreAmong count turns → IsPresent (turn_at turns c)
  present-among [] c e a = cc
  present-among (t ∷ turns) c e a =
      let same : length (map is_member turns) ≡ length turns = length-map turns is_member in
      let loops = map is_member turns in
      let h : option_map_or (flag_eq true) (cond (eqb c (length turns)) (Some (is_member t)) (loop_at loops c)) false ≡ true =
      ap (λ n. option_map_or (flag_eq true) (cond (eqb c n) (Some (is_member t)) (loop_at loops c)) false) (sym same) ∙ e in
      by-test t turns (eqb c (length turns)) (loop_at loops c) (turn_at turns c) h a
      (λ d. present-among turns c d (rest-among t turns a))

  pub named-there : (image : Image) (rule : ℕ) (turns : List Turn) (named : NamedString) → count ≡ length image.strings → AreAmong count turns →
      string_there image rule (map is_member turns) named ≡ true → IsNamed count turns named
  named-there image rule turns (Known c) same a e = omega (arith, same, less-at c (length image.strings) e)
  named-there image rule turns (Current c) same a e = present-among turns c e a
