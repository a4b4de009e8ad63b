-- Members of a list of moves with their ends, and how such lists grow.
use Rattle.std.proofs.Common.{◌≡◌, ℕ, zero, suc, ◌+◌, ◌<◌, ◌≤◌, ◌⊎◌, inl, inr, Bool, true, false, List, [], ◌∷◌, ◌++◌, length, Some, None, refl, sym, ap, ◌∙◌, subst, arith, append_assoc, le_refl, le_trans}
use Rattle.std.specs.Prelude.{slice_get}
use Rattle.std.proofs.lemmas.List.{append-nil, length-append}
use Rattle.yr_walks.specs.declared.carried.Carried.{Carried}
use Rattle.yr_walks.specs.Carried.{Shown, Holds, Adds, IsNoWorse}
use Rattle.yr_walks.specs.Spreads.{Grows}
use Rattle.yr_walks.proofs.ListLemmas.{get_front, get_within}

pub grows_same : (end : ℕ) (xs : List Carried) → Grows end xs xs
grows_same end xs = ([], sym (append-nil xs), λ q c e. cc)

get_either : (xs ys : List Carried) (q : ℕ) (c : Carried) → slice_get (xs ++ ys) q ≡ Some c → (slice_get xs q ≡ Some c) ⊎ ((p : ℕ) × (q ≡ length xs + p) × (slice_get ys p ≡ Some c))
get_either [] ys q c e = inr (q, omega arith, e)
get_either (x ∷ xs) ys zero c e = inl e
get_either (x ∷ xs) ys (suc q) c e = elim (get_either xs ys q c e) [ inl h ↦ inl h | inr h ↦ inr (h.0, omega (arith, h.1), h.2) ]

-- each member was there, or carries the end
pub grows_cases : (end : ℕ) (xs ys : List Carried) (q : ℕ) (c : Carried) → Grows end xs ys → slice_get ys q ≡ Some c → (slice_get xs q ≡ Some c) ⊎ ((length xs ≤ q) × (c.end ≡ end))
grows_cases end xs ys q c g e = elim (get_either xs g.0 q c (ap (λ l. slice_get l q) (sym g.1) ∙ e)) [
  | inl h ↦ inl h
  | inr h ↦ inr (omega (arith, h.1), g.2 h.0 c h.2)
]

pub grows_trans : (end : ℕ) (xs ys zs : List Carried) → Grows end xs ys → Grows end ys zs → Grows end xs zs
grows_trans end xs ys zs g h =
    (g.0 ++ h.0, h.1 ∙ ap (λ l. l ++ h.0) g.1 ∙ append_assoc xs g.0 h.0, λ q c e. elim (get_either g.0 h.0 q c e) [ inl l ↦ g.2 q c l | inr r ↦ h.2 r.0 c r.2 ])

pub grows_get : (end : ℕ) (xs ys : List Carried) (q : ℕ) (c : Carried) → Grows end xs ys → slice_get xs q ≡ Some c → slice_get ys q ≡ Some c
grows_get end xs ys q c g e = ap (λ l. slice_get l q) g.1 ∙ get_front xs g.0 q (get_within xs q c e) ∙ e

pub grows_has : (end : ℕ) (xs ys : List Carried) (m j : ℕ) → Grows end xs ys → Holds xs m j → Holds ys m j
grows_has end xs ys m j g h = (h.0, grows_get end xs ys h.0 (record { by = m; end = j }) g h.1)

pub grows_length : (end : ℕ) (xs ys : List Carried) → Grows end xs ys → length xs ≤ length ys
grows_length end xs ys g = omega (arith, ap length g.1, length-append xs g.0)

pub grows_old : (end : ℕ) (xs ys : List Carried) (q : ℕ) (c : Carried) → Grows end xs ys → q < length xs → slice_get ys q ≡ Some c → slice_get xs q ≡ Some c
grows_old end xs ys q c g lt e = elim (grows_cases end xs ys q c g e) [ inl h ↦ h | inr h ↦ absurd (omega (arith, h.0, lt)) ]

get_one : (x c : Carried) (q : ℕ) → slice_get (x ∷ []) q ≡ Some c → x ≡ c
get_one x c zero e = cc
get_one x c (suc q) e = cc

pub adds_grows : (old new : Shown) (m j : ℕ) → Adds old new m j → Grows j old.items new.items
adds_grows old new m j a = elim a.1 [
  | inl h ↦ let G : List Carried → Type 0 = λ l. Grows j old.items l in subst G (sym h.2) (grows_same j old.items)
  | inr h ↦ (record { by = m; end = j } ∷ [], h, λ q c e. sym (ap (λ (x : Carried). x.end) (get_one (record { by = m; end = j }) c q e)))
]

at_end : (xs : List Carried) (c : Carried) → slice_get (xs ++ c ∷ []) (length xs) ≡ Some c
at_end [] c = refl
at_end (x ∷ xs) c = at_end xs c

pub adds_has : (old new : Shown) (m j : ℕ) → Adds old new m j → (o : ℕ) × Holds new.items m o
adds_has old new m j a = elim a.1 [
  | inl h ↦ let H : List Carried → Type 0 = λ l. Holds l m h.0 in (h.0, subst H (sym h.2) h.1)
  | inr h ↦ (j, (length old.items, ap (λ l. slice_get l (length old.items)) h ∙ at_end old.items (record { by = m; end = j })))
]

pub adds_only : (old new : Shown) (m j y o : ℕ) → Adds old new m j → Holds new.items y o → Holds old.items y o ⊎ ((m ≡ y) × (o ≡ j))
adds_only old new m j y o a h = elim a.1 [
  | inl s ↦ let H : List Carried → Type 0 = λ l. Holds l y o in inl (subst H s.2 h)
  | inr s ↦
      let c : Carried = record { by = y; end = o } in
      elim (get_either old.items (record { by = m; end = j } ∷ []) h.0 c (ap (λ l. slice_get l h.0) (sym s) ∙ h.1)) [
        | inl was ↦ inl (h.0, was)
        | inr came ↦ let same = get_one (record { by = m; end = j }) c came.0 came.2 in inr (ap (λ (x : Carried). x.by) same, sym (ap (λ (x : Carried). x.end) same))
      ]
]

pub nothing_held : (xs : List Carried) (m j : ℕ) → xs ≡ [] → Holds xs m j → ⊥
nothing_held xs m j none h = let wrong : None ≡ Some (record { by = m; end = j }) = ap (λ l. slice_get l h.0) (sym none) ∙ h.1 in cc wrong

-- a member by its place
pub held_at : (xs : List Carried) (q : ℕ) (c : Carried) → slice_get xs q ≡ Some c → Holds xs c.by c.end
held_at xs q c e = (q, e)

-- of two ends
pub no_worse_same : (greatest : Bool) (j : ℕ) → IsNoWorse greatest j j
no_worse_same true j = le_refl j
no_worse_same false j = le_refl j

pub no_worse_trans : (greatest : Bool) (a b c : ℕ) → IsNoWorse greatest a b → IsNoWorse greatest b c → IsNoWorse greatest a c
no_worse_trans true a b c p q = le_trans q p
no_worse_trans false a b c p q = le_trans p q

pub no_worse_is : (greatest : Bool) (a b : ℕ) → a ≡ b → IsNoWorse greatest a b
no_worse_is true a b e = omega (arith, e)
no_worse_is false a b e = omega (arith, e)
