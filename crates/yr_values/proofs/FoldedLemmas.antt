-- The search in either case: its orders, its cuts, and what it finds.
use Rattle.std.proofs.Common.{◌≡◌, ℕ, ◌+◌, ◌-◌, ◌<◌, ◌≤◌, List, length, map, Option, refl, sym, subst, ◌∙◌, arith, inl, inr, ⊎_elim}
use Rattle.std.proofs.lemmas.List.{length-map, get_or-map}
use Rattle.memchr.specs.Find.{IsFirst, FindsNeedle, OccursAt}
use Rattle.memchr.specs.TwoWay.{IsCut}
use Rattle.memchr.specs.declared.arch.all.twoway.Shift.TheVariants.{Small, Large}
use Rattle.memchr.proofs.lemmas.FindLemmas.{IsFirst-agree}
use Rattle.memchr.proofs.lemmas.SearchLemmas.{IsShift-large, IsShift-small, known-next}
use Rattle.yr_base.specs.Bytes.{lowered}
use Rattle.yr_values.specs.Folded.{StandsFolded, Comes, IsCutOf}
use Rattle.yr_values.specs.declared.folded.SuffixOrder.{SuffixOrder}
use Rattle.yr_values.specs.declared.folded.SuffixOrder.TheVariants.{Minimal, Maximal}

pub Comes-trans : (order : SuffixOrder) (a b c : ℕ) → Comes order a b → Comes order b c → Comes order a c
Comes-trans Maximal a b c p q = omega arith
Comes-trans Minimal a b c p q = omega arith

pub Comes-irrefl : (order : SuffixOrder) (a : ℕ) → Comes order a a → ⊥
Comes-irrefl Maximal a p = omega arith
Comes-irrefl Minimal a p = omega arith

pub Comes-opposed : (a b : ℕ) → Comes Maximal a b → Comes Minimal a b → ⊥
Comes-opposed a b p q = omega arith

-- the two sorts of cuts
pub IsCutOf-large : (x : ℕ → ℕ) (m c s : ℕ) → IsCut x m c (Large s) → IsCutOf x m c s 0
IsCutOf-large x m c s cut =
    let parts = IsShift-large c cut.shifts in
    record { below = cut.below; is_critical = cut.critical; some = parts.0; most = parts.1; short = parts.2; knows = inl refl }

pub IsCutOf-small : (x : ℕ → ℕ) (m c p : ℕ) → IsCut x m c (Small p) → IsCutOf x m c p (m - p)
IsCutOf-small x m c p cut =
    let parts = IsShift-small c cut.shifts in
    record { below = cut.below; is_critical = cut.critical; some = parts.0; most = parts.2; short = parts.4; knows = inr (refl, parts.1, parts.3) }

-- what is known after a shift
module _ (x : ℕ → ℕ) (m : ℕ) (h : ℕ → ℕ) (n c s kept : ℕ) (cut : IsCutOf x m c s kept) where
  pub kept-few : kept < m
  kept-few = ⊎_elim (λ none. omega (arith, cut.below)) (λ some. omega (arith, some.0, cut.some, cut.most)) cut.knows

  pub kept-front : (pos : ℕ) → ((k : ℕ) → c ≤ k → k < m → x k ≡ h (pos + k)) → (k : ℕ) → k < kept → x k ≡ h (pos + s + k)
  kept-front pos same k l =
      ⊎_elim
      (λ none. absurd (omega (arith, none)))
      (λ some. known-next x m h n c s some.2 some.1 pos same k (omega (arith, some.0)))
      cut.knows

module _ (text part : List ℕ) where
  -- to stand there in either case is to occur in the small letters
  pub OccursAt-folded : (k : ℕ) → StandsFolded text part k → OccursAt (map lowered text) (map lowered part) k
  OccursAt-folded k h =
      let t = length-map text lowered in
      let p = length-map part lowered in
      let fits = h.fits in
      record {
        fits = omega arith;
        reads = λ j l.
            let below : j < length part = omega arith in
            get_or-map lowered text (k + j) 0 0 (omega arith) ∙ h.reads j below ∙ sym (get_or-map lowered part j 0 0 below);
      }

  pub folded-OccursAt : (k : ℕ) → OccursAt (map lowered text) (map lowered part) k → StandsFolded text part k
  folded-OccursAt k h =
      let t = length-map text lowered in
      let p = length-map part lowered in
      let fits = h.fits in
      record {
        fits = omega arith;
        reads = λ j l.
            sym (get_or-map lowered text (k + j) 0 0 (omega arith)) ∙ h.reads j (omega arith) ∙ get_or-map lowered part j 0 0 l;
      }

  pub FindsNeedle-folded : (r : Option ℕ) → IsFirst (StandsFolded text part) 0 (length text + 1) r → FindsNeedle (map lowered text) (map lowered part) 0 r
  FindsNeedle-folded r h =
      subst (λ (n : ℕ). IsFirst (OccursAt (map lowered text) (map lowered part)) 0 (n + 1) r) (sym (length-map text lowered))
      (IsFirst-agree (StandsFolded text part) (OccursAt (map lowered text) (map lowered part)) 0 (length text + 1) (λ k l p. OccursAt-folded k p) (λ k l q. folded-OccursAt k q) r h)
