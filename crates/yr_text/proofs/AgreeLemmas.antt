-- Modifiers without faults agree with one another.
use Rattle.std.proofs.Common.{◌≡◌, ℕ, ◌<◌, ◌≤◌, ◌+◌, Bool, true, false, List, [], ◌∷◌, refl, sym, ap, subst, arith, ◌⊎◌, inl, inr}
use Rattle.std.specs.Prelude.{◌||◌, ◌&&◌, nat_le, cond, is_some, unwrap_or, Option, Some, None, Result, Ok, Err, IfOk, if◌then◌else◌}
use Rattle.std.specs.List.{count_by}
use Rattle.std.proofs.lemmas.List.Sums.{sum_by-cons}
use Rattle.std.proofs.lemmas.Bool.{le-leb, leb-true}
use Rattle.yr_syntax.specs.declared.modifier.StringKind.{StringKind}
use Rattle.yr_syntax.specs.Declaration.{ModifierTree, NoCase, Wide, Ascii, FullWord, Hidden, Xor, Base64, Base64Wide}
use Rattle.yr_text.specs.declared.name.Name.TheVariants as name
use Rattle.yr_text.specs.declared.fault.ModifierFault.{ModifierFault}
use Rattle.yr_text.specs.declared.fault.ModifierFault.TheVariants as fault
use Rattle.yr_text.specs.declared.modifiers.Modifiers.{Modifiers}
use Rattle.yr_text.specs.Names.{stands, stands_some, is_some_repeated, count_named, is_named}
use Rattle.yr_text.specs.Arguments.{byte_of, keys_between, keys_in, alphabet_in, wide_alphabet_in, is_wrong, right_one}
use Rattle.yr_text.specs.Checked.{all_names, foreign_names, has_excluded, said_by, checked, Agree}

-- a list whose first modifier passes a test has one that does
counted : (p : ModifierTree → Bool) (m : ModifierTree) (ms : List ModifierTree) → p m ≡ true → 0 < count_by p (m ∷ ms)
counted p m ms h =
    let here : ModifierTree → ℕ = λ x. cond (p x) 1 0 in
    let counts : Bool → ℕ = λ b. cond b 1 0 in
    let sum : count_by p (m ∷ ms) ≡ here m + count_by p ms = sum_by-cons here m ms in
    let one : here m ≡ counts true = ap counts h in
    omega (arith, sum, one)

-- no `xor` stands in a list whose modifiers name no keys
keys-stand : (ms : List ModifierTree) → (keys_in ms ≡ None) ⊎ (0 < count_named name.Xor ms)
keys-stand [] = inl refl
keys-stand (NoCase ∷ ms) = keys-stand ms
keys-stand (Wide ∷ ms) = keys-stand ms
keys-stand (Ascii ∷ ms) = keys-stand ms
keys-stand (FullWord ∷ ms) = keys-stand ms
keys-stand (Hidden ∷ ms) = keys-stand ms
keys-stand (Xor low high ∷ ms) = inr (counted (is_named name.Xor) (Xor low high) ms refl)
keys-stand (Base64 alphabet ∷ ms) = keys-stand ms
keys-stand (Base64Wide alphabet ∷ ms) = keys-stand ms

alphabet-stands : (ms : List ModifierTree) → (alphabet_in ms ≡ None) ⊎ (0 < count_named name.Base64 ms)
alphabet-stands [] = inl refl
alphabet-stands (NoCase ∷ ms) = alphabet-stands ms
alphabet-stands (Wide ∷ ms) = alphabet-stands ms
alphabet-stands (Ascii ∷ ms) = alphabet-stands ms
alphabet-stands (FullWord ∷ ms) = alphabet-stands ms
alphabet-stands (Hidden ∷ ms) = alphabet-stands ms
alphabet-stands (Xor low high ∷ ms) = alphabet-stands ms
alphabet-stands (Base64 alphabet ∷ ms) = inr (counted (is_named name.Base64) (Base64 alphabet) ms refl)
alphabet-stands (Base64Wide alphabet ∷ ms) = alphabet-stands ms

wide_alphabet-stands : (ms : List ModifierTree) → (wide_alphabet_in ms ≡ None) ⊎ (0 < count_named name.Base64Wide ms)
wide_alphabet-stands [] = inl refl
wide_alphabet-stands (NoCase ∷ ms) = wide_alphabet-stands ms
wide_alphabet-stands (Wide ∷ ms) = wide_alphabet-stands ms
wide_alphabet-stands (Ascii ∷ ms) = wide_alphabet-stands ms
wide_alphabet-stands (FullWord ∷ ms) = wide_alphabet-stands ms
wide_alphabet-stands (Hidden ∷ ms) = wide_alphabet-stands ms
wide_alphabet-stands (Xor low high ∷ ms) = wide_alphabet-stands ms
wide_alphabet-stands (Base64 alphabet ∷ ms) = wide_alphabet-stands ms
wide_alphabet-stands (Base64Wide alphabet ∷ ms) = inr (counted (is_named name.Base64Wide) (Base64Wide alphabet) ms refl)

-- an argument that was found has its modifier in the list
found-stands : {A : Type 0} (argument : Option (Option A)) (count : ℕ) → (argument ≡ None) ⊎ (0 < count) → is_some (right_one argument) ≡ true → nat_le 1 count ≡ true
found-stands argument count (inl e) h = let no : false ≡ true = subst (λ a. is_some (right_one a) ≡ true) e h in cc
found-stands argument count (inr more) h = le-leb 1 count (omega (arith, more))

-- where the modifier does not stand in the list, no argument was found
absent-none : {A : Type 0} (argument : Option (Option A)) (count : ℕ) → (argument ≡ None) ⊎ (0 < count) → nat_le 1 count ≡ false → right_one argument ≡ None
absent-none argument count (inl e) h = ap right_one e
absent-none argument count (inr more) h = let yes : nat_le 1 count ≡ true = le-leb 1 count (omega (arith, more)) in cc

-- the three pairs of groups that exclude each other, over flags alone
excluded : (nocase full xor base64 wide : Bool) → Bool
excluded nocase full xor base64 wide =
    nocase && (xor || (base64 || (wide || false))) || full && (base64 || (wide || false)) || xor && (base64 || (wide || false))

xor_excludes : (n f x b w : Bool) → excluded n f x b w ≡ false → x ≡ true → (n ≡ false) × (b ≡ false) × (w ≡ false)
unfolding excluded
xor_excludes n f false b w e h = cc
xor_excludes true f true b w e h = cc
xor_excludes false true true true w e h = cc
xor_excludes false false true true w e h = cc
xor_excludes false true true false true e h = cc
xor_excludes false false true false true e h = cc
xor_excludes false f true false false e h = (refl, refl, refl)

base64_excludes : (n f x b w : Bool) → excluded n f x b w ≡ false → (b || w) ≡ true → (n ≡ false) × (f ≡ false)
unfolding excluded
base64_excludes n f x false false e h = cc
base64_excludes false false x b w e h = (refl, refl)
base64_excludes true f true b w e h = cc
base64_excludes true f false true w e h = cc
base64_excludes true f false false true e h = cc
base64_excludes false true x true w e h = cc
base64_excludes false true x false true e h = cc

-- keys that were read rise
chosen-rises : (t : Bool) (p q : ℕ × ℕ) → (t ≡ true → p.0 ≤ p.1) → (if t then Some p else None) ≡ Some q → q.0 ≤ q.1
chosen-rises true p q rises e =
    let same : p ≡ q = ap (λ (o : Option (ℕ × ℕ)). unwrap_or o p) e in
    subst (λ (r : ℕ × ℕ). r.0 ≤ r.1) same (rises refl)
chosen-rises false p q rises e = cc

between-rise : (first last : Option ℕ) (low high : ℕ) → keys_between first last ≡ Some (low, high) → low ≤ high
between-rise None last low high e = cc
between-rise (Some a) None low high e = cc
between-rise (Some a) (Some b) low high e = chosen-rises (nat_le a b) (a, b) (low, high) (leb-true a b) e

keys-rise : (ms : List ModifierTree) (low high : ℕ) → right_one (keys_in ms) ≡ Some (low, high) → low ≤ high
keys-rise [] low high e = cc
keys-rise (NoCase ∷ ms) low high e = keys-rise ms low high e
keys-rise (Wide ∷ ms) low high e = keys-rise ms low high e
keys-rise (Ascii ∷ ms) low high e = keys-rise ms low high e
keys-rise (FullWord ∷ ms) low high e = keys-rise ms low high e
keys-rise (Hidden ∷ ms) low high e = keys-rise ms low high e
keys-rise (Xor first last ∷ ms) low high e = between-rise (byte_of first) (byte_of last) low high e
keys-rise (Base64 alphabet ∷ ms) low high e = keys-rise ms low high e
keys-rise (Base64Wide alphabet ∷ ms) low high e = keys-rise ms low high e

-- a test that was passed on the way to Ok
passed : (t : Bool) (f : ModifierFault) (rest : Result Modifiers ModifierFault) (m : Modifiers) → (if t then Err f else rest) ≡ Ok m → (t ≡ false) × (rest ≡ Ok m)
passed true f rest m e = cc
passed false f rest m e = (refl, e)

-- one of the two alphabets was found, so one of the two modifiers stands there
either-stands : (p q b w : Bool) → (p ≡ true → b ≡ true) → (q ≡ true → w ≡ true) → (p || q) ≡ true → (b || w) ≡ true
either-stands true q true w h1 h2 e = refl
either-stands true q false w h1 h2 e = let no : false ≡ true = h1 refl in cc
either-stands false true true w h1 h2 e = refl
either-stands false true false true h1 h2 e = refl
either-stands false true false false h1 h2 e = let no : false ≡ true = h2 refl in cc
either-stands false false b w h1 h2 e = cc

said-agree : (ms : List ModifierTree) → has_excluded ms ≡ false → Agree (said_by ms)
unfolding excluded
said-agree ms none =
    let n = stands ms name.NoCase in
    let f = stands ms name.FullWord in
    let x = stands ms name.Xor in
    let b = stands ms name.Base64 in
    let w = stands ms name.Base64Wide in
    record {
      xor_alone = λ h.
          let off = xor_excludes n f x b w none (found-stands (keys_in ms) (count_named name.Xor ms) (keys-stand ms) h) in (
            off.0,
            absent-none (alphabet_in ms) (count_named name.Base64 ms) (alphabet-stands ms) off.1,
            absent-none (wide_alphabet_in ms) (count_named name.Base64Wide ms) (wide_alphabet-stands ms) off.2,
          );
      base64_alone = λ h.
          base64_excludes n f x b w none
          (either-stands (is_some (right_one (alphabet_in ms))) (is_some (right_one (wide_alphabet_in ms))) b w
          (found-stands (alphabet_in ms) (count_named name.Base64 ms) (alphabet-stands ms))
          (found-stands (wide_alphabet_in ms) (count_named name.Base64Wide ms) (wide_alphabet-stands ms)) h);
      rising = keys-rise ms;
    }

checked-agree : (ms : List ModifierTree) (kind : StringKind) (m : Modifiers) → checked ms kind ≡ Ok m → Agree m
checked-agree ms kind m e =
    let once = passed (is_some_repeated all_names ms) fault.Repeated _ m e in
    let suited = passed (stands_some (foreign_names kind) ms) fault.WrongKind _ m once.1 in
    let apart = passed (has_excluded ms) fault.Excluded _ m suited.1 in
    let ranged = passed (is_wrong (keys_in ms)) fault.BadRange _ m apart.1 in
    let whole = passed (is_wrong (alphabet_in ms) || is_wrong (wide_alphabet_in ms)) fault.BadAlphabet _ m ranged.1 in
    let same : said_by ms ≡ m = cc in
    subst Agree same (said-agree ms apart.0)

pub result-agrees : (ms : List ModifierTree) (kind : StringKind) (r : Result Modifiers ModifierFault) → r ≡ checked ms kind → IfOk r Agree
result-agrees ms kind (Ok m) e = checked-agree ms kind m (sym e)
result-agrees ms kind (Err f) e = tt
