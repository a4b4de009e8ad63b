-- What a certified image keeps is a proposition: it has at most one proof.
use Rattle.std.proofs.Common.{◌≡◌, ℕ, ◌<◌, ◌≤◌, List, ◌++◌, length, length-append, take, drop, Option, Some, sym, ap, ◌∙◌, subst, arith}
use Rattle.std.proofs.Props.{props}
use Rattle.std.proofs.Math.Seq.{take-append_seam, drop-append_seam}
use Rattle.yr_automaton.specs.Atoms.{word}
use Rattle.yr_rows.specs.Words.{EndsIn, HasProperSuffix, IsWordOf, times, path}
use Rattle.yr_image.specs.Image.{Image}
use Rattle.yr_cert.specs.Words.{HasLongestSuffix, edge, link, own}
use Rattle.yr_cert.specs.Shape.{IsTrie}
use Rattle.yr_cert.specs.Tries.{SaysHome, HasOutputAt}
use Rattle.yr_cert.specs.Kept.{Keeps}
use Rattle.yr_cert.specs.declared.home.Home.{Home}
use Rattle.yr_cert.specs.declared.home.Home.TheVariants.{NoOutput, OneOutput, ManyOutputs}

list-prop : (xs ys : List ℕ) → IsProp (xs ≡ ys)
list-prop xs ys = Prim.hlevel props

option-prop : (x y : Option ℕ) → IsProp (x ≡ y)
option-prop x y = Prim.hlevel props

number-prop : (x y : ℕ) → IsProp (x ≡ y)
number-prop x y = Prim.hlevel props

less-prop : (x y : ℕ) → IsProp (x < y)
less-prop x y = Prim.hlevel props

at-most-prop : (x y : ℕ) → IsProp (x ≤ y)
at-most-prop x y = Prim.hlevel props

-- two suffixes of one length are equal
pub same_suffix : (text a b : List ℕ) → EndsIn text a → EndsIn text b → length a ≡ length b → a ≡ b
same_suffix text a b x y e =
    let same : length x.0 ≡ length y.0 = omega (arith, e, ap length x.1, ap length y.1, length-append x.0 a, length-append y.0 b) in
    sym (drop-append_seam x.0 a) ∙ ap (drop (length x.0)) x.1 ∙ ap (λ n. drop n text) same ∙ sym (ap (drop (length y.0)) y.1) ∙ drop-append_seam y.0 b

ends-prop : (text a : List ℕ) → IsProp (EndsIn text a)
ends-prop text a x y =
    let long : length x.0 ≡ length y.0 = omega (arith, ap length x.1, ap length y.1, length-append x.0 a, length-append y.0 a) in
    let same : x.0 ≡ y.0 = sym (take-append_seam x.0 a) ∙ ap (take (length x.0)) x.1 ∙ ap (λ n. take n text) long ∙ sym (ap (take (length y.0)) y.1) ∙ take-append_seam y.0 a in
    subst (λ f. (e : f ++ a ≡ text) → x ≡ (f, e)) same (λ e i. (x.0, list-prop (x.0 ++ a) text x.1 e i)) y.1

proper-prop : (text a : List ℕ) → IsProp (HasProperSuffix text a)
proper-prop text a x y i = (ends-prop text a x.0 y.0 i, less-prop (length a) (length text) x.1 y.1 i)

-- the longest suffix is the only one of its length
longest-prop : (edge : ℕ → ℕ → Option ℕ) (text : List ℕ) (n : ℕ) → IsProp (HasLongestSuffix edge text n)
longest-prop edge text n x y =
    let same : x.0 ≡ y.0 = same_suffix text x.0 y.0 x.1.0 y.1.0 (omega (arith, x.3 y.0 n y.1 y.2, y.3 x.0 n x.1 x.2)) in
    subst (λ s. (p : HasProperSuffix text s) (q : IsWordOf edge s n) (m : (other : List ℕ) (k : ℕ) → HasProperSuffix text other → IsWordOf edge other k → length other ≤ length s) → x ≡ (s, p, q, m)) same
    (λ p q m i. (
      x.0,
      proper-prop text x.0 x.1 p i,
      option-prop (path edge 0 x.0) (Some n) x.2 q i,
      λ other k proper is. at-most-prop (length other) (length x.0) (x.3 other k proper is) (m other k proper is) i,
    )) y.1 y.2 y.3

trie-prop : (image : Image) → IsProp (IsTrie image)
trie-prop image x y i = record {
  parents = λ n other lt. number-prop _ 1 (x.parents n other lt) (y.parents n other lt) i;
  links = λ n text other is. longest-prop (edge image) text (link image n) (x.links n text other is) (y.links n text other is) i;
  outputs = λ n. at-most-prop (times n image.outputs) 1 (x.outputs n) (y.outputs n) i;
}

output-prop : (edge : ℕ → ℕ → Option ℕ) (own : ℕ → List ℕ) (split : ℕ) (spelled : List ℕ) → IsProp (HasOutputAt edge own split spelled)
output-prop edge own split spelled x y =
    let both : Some x.0 ≡ Some y.0 = sym x.1 ∙ y.1 in
    let same : x.0 ≡ y.0 = Prim.cc both in
    subst (λ n. (p : IsWordOf edge spelled n) (q : 0 < times split (own n)) → x ≡ (n, p, q)) same
    (λ p q i. (x.0, option-prop (path edge 0 spelled) (Some x.0) x.1 p i, less-prop 0 (times split (own x.0)) x.2 q i)) y.1 y.2

home-prop : (e : ℕ → ℕ → Option ℕ) (o : ℕ → List ℕ) (split c : ℕ) (home : Home) → IsProp (SaysHome e o split c home)
home-prop e o split c NoOutput = Prim.hlevel props
home-prop e o split c (OneOutput atom) = λ x y i. (number-prop c 1 x.0 y.0 i, output-prop e o split (word atom) x.1 y.1 i)
home-prop e o split c ManyOutputs = Prim.hlevel props

pub keeps-prop : (image : Image) (homes : List Home) → IsProp (Keeps image homes)
keeps-prop image homes x y i = record {
  shape = trie-prop image x.shape y.shape i;
  long = number-prop (length homes) (length image.splits) x.long y.long i;
  each = λ m note at. home-prop (edge image) (own image) m (times m (take (length image.outputs) image.outputs)) note (x.each m note at) (y.each m note at) i;
}
