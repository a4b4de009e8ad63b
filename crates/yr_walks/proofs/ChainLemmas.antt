-- Chains of arcs: how they are built, and how they are walked.
use Rattle.std.proofs.Common.{◌≡◌, ℕ, zero, suc, ◌+◌, ◌*◌, ◌<◌, ◌≤◌, inl, inr, Bool, List, length, Option, Some, None, refl, sym, ap, ◌∙◌, subst, arith, length-set}
use Rattle.std.specs.Prelude.{slice_get, slice_set, replicate}
use Rattle.yr_rows.specs.declared.moves.MoveRow.{MoveRow}
use Rattle.yr_walks.specs.Arcs.{HasChain, AreChained, head_at}
use Rattle.yr_walks.proofs.ListLemmas.{set_same, set_other, same_or_not, below_or_last}

module _ (heads : ℕ → Option ℕ) where
  pub chain_below : (after : List ℕ) (e link x : ℕ) → HasChain heads after e link x → link ≤ e
  chain_below after zero link x h = omega (arith, h)
  chain_below after (suc e) link x (inl h) = omega (arith, h.1)
  chain_below after (suc e) link x (inr h) = omega (arith, chain_below after e link x h.1)

  -- a later arc leaves it as it is
  pub chain_kept : (after : List ℕ) (f v e link x : ℕ) → e ≤ f → HasChain heads after e link x → HasChain heads (slice_set after f v) e link x
  chain_kept after f v zero link x le h = h
  chain_kept after f v (suc e) link x le (inl h) =
      inl (h.0, h.1, h.2, set_other after f e v (λ s. omega (arith, s, le)) ∙ h.3, chain_kept after f v e h.2 x (omega (arith, le)) h.4)
  chain_kept after f v (suc e) link x le (inr h) = inr (h.0, chain_kept after f v e link x (omega (arith, le)) h.1)

  -- no arc is left
  pub chain_end : (after : List ℕ) (e x : ℕ) → HasChain heads after e 0 x → (f : ℕ) → f < e → heads f ≡ Some x → ⊥
  chain_end after zero x h f lt at = omega (arith, lt)
  chain_end after (suc e) x (inl h) f lt at = omega (arith, h.1)
  chain_end after (suc e) x (inr h) f lt at = elim (below_or_last f e (omega (arith, lt))) [
    | inl before ↦ chain_end after e x h.1 f before at
    | inr last ↦ h.0 (ap heads (sym last) ∙ at)
  ]

  -- the next arc, and that none was passed over
  pub record Linked (after : List ℕ) (e x l : ℕ) : Type 0 where
    pub below : l < e
    pub is : heads l ≡ Some x
    pub next : ℕ
    pub at : slice_get after l ≡ Some next
    pub chain : HasChain heads after l next x
    pub none : (f : ℕ) → l < f → f < e → heads f ≡ Some x → ⊥

  pub chain_next : (after : List ℕ) (e link x l : ℕ) → HasChain heads after e link x → link ≡ l + 1 → Linked after e x l
  chain_next after zero link x l h s = absurd (omega (arith, h, s))
  chain_next after (suc e) link x l (inl h) s =
      let same : e ≡ l = omega (arith, h.1, s) in
      let C : ℕ → Type 0 = λ k. HasChain heads after k h.2 x in
      record {
        below = omega (arith, same);
        is = ap heads (sym same) ∙ h.0;
        next = h.2;
        at = ap (slice_get after) (sym same) ∙ h.3;
        chain = subst C same h.4;
        none = λ f lt lt' at. absurd (omega (arith, same, lt, lt'));
      }
  chain_next after (suc e) link x l (inr h) s =
      let r = chain_next after e link x l h.1 s in
      record {
        below = omega (arith, r.below);
        is = r.is;
        next = r.next;
        at = r.at;
        chain = r.chain;
        none = λ f lt lt' at. elim (below_or_last f e (omega (arith, lt'))) [
          | inl before ↦ r.none f lt before at
          | inr last ↦ h.0 (ap heads (sym last) ∙ at)
        ];
      }

  -- one arc more, which is followed from x
  pub chain_add : (after : List ℕ) (e link x : ℕ) → e < length after → heads e ≡ Some x → HasChain heads after e link x → HasChain heads (slice_set after e link) (e + 1) (e + 1) x
  chain_add after e link x lt at h =
      let s : suc e ≡ e + 1 = omega arith in
      let C : ℕ → Type 0 = λ k. HasChain heads (slice_set after e link) k k x in
      subst C s (inl (at, refl, link, set_same after e link lt, chain_kept after e link e link x (omega arith) h))

  -- one arc more, which is not
  pub chain_pass : (after : List ℕ) (e link x : ℕ) → (heads e ≡ Some x → ⊥) → HasChain heads after e link x → HasChain heads after (e + 1) link x
  chain_pass after e link x other h =
      let s : suc e ≡ e + 1 = omega arith in
      let C : ℕ → Type 0 = λ k. HasChain heads after k link x in
      subst C s (inr (other, h))

all_zero : (n x : ℕ) → x < n → slice_get {X = ℕ} (replicate n 0) x ≡ Some 0
all_zero zero x lt = absurd (omega (arith, lt))
all_zero (suc n) zero lt = refl
all_zero (suc n) (suc x) lt = all_zero n x (omega (arith, lt))

pub chained_start : (back : Bool) (moves : List MoveRow) (first after : List ℕ) → first ≡ replicate (length moves + 1) 0 → length first ≡ length moves + 1 → length after ≡ 2 * length moves → AreChained back moves 0 first after
chained_start back moves first after zeros size wide = record {
  firsts = size;
  afters = wide;
  chains = λ x le. (0, ap (λ l. slice_get {X = ℕ} l x) zeros ∙ all_zero (length moves + 1) x (omega (arith, le)), refl);
}

pub chained_add : (back : Bool) (moves : List MoveRow) (e x h : ℕ) (first after : List ℕ) → AreChained back moves e first after → e < 2 * length moves → x ≤ length moves → head_at back moves e ≡ Some x →
    slice_get first x ≡ Some h → AreChained back moves (e + 1) (slice_set first x (e + 1)) (slice_set after e h)
chained_add back moves e x h first after c lt le at is =
    let wide : length (slice_set first x (e + 1)) ≡ length first = simp length-set in
    let long : length (slice_set after e h) ≡ length after = simp length-set in
    let heads = head_at back moves in
    record {
      firsts = wide ∙ c.firsts;
      afters = long ∙ c.afters;
      chains = λ y le'. elim (same_or_not x y) [
        | inl s ↦
            let o = c.chains x le in
            let same : Some o.0 ≡ Some h = sym o.1 ∙ is in
            let link : o.0 ≡ h = cc same in
            let C : ℕ → Type 0 = λ k. HasChain heads after e k x in
            let D : ℕ → Type 0 = λ z. HasChain heads (slice_set after e h) (e + 1) (e + 1) z in (
              e + 1,
              ap (slice_get (slice_set first x (e + 1))) (sym s) ∙ set_same first x (e + 1) (omega (arith, c.firsts, le)),
              subst D s (chain_add heads after e h x (omega (arith, lt, c.afters)) at (subst C link o.2)),
            )
        | inr other ↦
            let o = c.chains y le' in
            let away : head_at back moves e ≡ Some y → ⊥ = λ e'. let both : Some x ≡ Some y = sym at ∙ e' in other (cc both) in
            (o.0, set_other first x y (e + 1) other ∙ o.1, chain_pass heads (slice_set after e h) e o.0 y away (chain_kept heads after e h e o.0 y (omega arith) o.2))
      ];
    }

pub chained_pass : (back : Bool) (moves : List MoveRow) (e : ℕ) (first after : List ℕ) → AreChained back moves e first after → head_at back moves e ≡ None → AreChained back moves (e + 1) first after
chained_pass back moves e first after c at = record {
  firsts = c.firsts;
  afters = c.afters;
  chains = λ x le.
      let o = c.chains x le in
      let away : head_at back moves e ≡ Some x → ⊥ = λ e'. let both : None ≡ Some x = sym at ∙ e' in cc both in
      (o.0, o.1, chain_pass (head_at back moves) after e o.0 x away o.2);
}
