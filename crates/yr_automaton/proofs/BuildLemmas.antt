-- The steps of the build.
use Rattle.std.proofs.Common.{◌≡◌, ◌≢◌, ℕ, zero, suc, ◌+◌, ◌-◌, ◌*◌, ◌/◌, ◌%◌, ◌<◌, ◌≤◌, ◌⊎◌, inl, inr, List, [], ◌∷◌, ◌++◌, length, length-take, take, get_or, refl, sym, ap, ◌∙◌, subst, arith, Contains}
use Rattle.std.proofs.lemmas.List.{take-take}
use Rattle.std.proofs.lemmas.List.Elements.{Contains-push, Contains-push_cases, Contains-append_left}
use Rattle.std.proofs.lemmas.Bool.{cases_lt}
use Rattle.yr_automaton.specs.Keys.{AllBytes, key, AreKeys, IsLongestIn, AreRuns}
use Rattle.yr_automaton.proofs.KeyLemmas.{parent_is, byte_is, bytes_take}
use Rattle.yr_automaton.proofs.ListLemmas.{order3, below_or_at, has_at, at_has, length_push, old_at, new_at, rises_push}

-- depth
pub depth_zero : (r : List ℕ) → key r ≡ 0 → 0 ≡ length r
depth_zero [] e = refl
depth_zero (b ∷ r) e = absurd (omega (arith, e))

pub depth_more : (k d : ℕ) → 0 < k → ((r : List ℕ) → AllBytes r → key r ≡ (k - 1) / 256 → d ≡ length r) → (r : List ℕ) → AllBytes r → key r ≡ k → d + 1 ≡ length r
depth_more k d pos up [] bytes e = absurd (omega (arith, e, pos))
depth_more k d pos up (b ∷ r) bytes e =
    let parent : key r ≡ (k - 1) / 256 = sym (parent_is (key r) b bytes.0) ∙ ap (λ x. (x - 1) / 256) e in
    omega (arith, up r bytes.1 parent)

-- the word without its first byte
pub first_none : (k : ℕ) → k ≤ 256 → (r : List ℕ) → AllBytes r → key r ≡ k → 0 ≡ key (take (length r - 1) r)
first_none k small [] bytes e = refl
first_none k small (b ∷ []) bytes e = refl
first_none k small (b ∷ c ∷ r) bytes e = absurd (omega (arith, e, small))

pub first_more : (k d : ℕ) → 256 < k → ((r : List ℕ) → AllBytes r → key r ≡ (k - 1) / 256 → d ≡ key (take (length r - 1) r))
    → (r : List ℕ) → AllBytes r → key r ≡ k → d * 256 + (k - 1) % 256 + 1 ≡ key (take (length r - 1) r)
first_more k d big up [] bytes e = absurd (omega (arith, e, big))
first_more k d big up (b ∷ []) bytes e = absurd (omega (arith, e, big, bytes.0))
first_more k d big up (b ∷ c ∷ r) bytes e =
    let parent : key (c ∷ r) ≡ (k - 1) / 256 = sym (parent_is (key (c ∷ r)) b bytes.0) ∙ ap (λ x. (x - 1) / 256) e in
    let byte : b ≡ (k - 1) % 256 = sym (byte_is (key (c ∷ r)) b bytes.0) ∙ ap (λ x. (x - 1) % 256) e in
    let rest = up (c ∷ r) bytes.1 parent in
    let cut : length (b ∷ c ∷ r) - 1 ≡ suc (length (c ∷ r) - 1) = omega arith in
    let shown : key (take (length (b ∷ c ∷ r) - 1) (b ∷ c ∷ r)) ≡ key (take (length (c ∷ r) - 1) (c ∷ r)) * 256 + b + 1 = ap (λ n. key (take n (b ∷ c ∷ r))) cut in
    omega (arith, shown, rest, byte)

-- rest is the key of a proper suffix, and longer ones have no place
abbrev pub IsSuffixLeft : List ℕ → ℕ → ℕ → Type 0
IsSuffixLeft keys k rest = (r : List ℕ) → AllBytes r → key r ≡ k → (i : ℕ) × (i < length r) × (rest ≡ key (take i r)) × ((j : ℕ) → j < length r → Contains keys (key (take j r)) → j ≤ i)

pub suffix_start : (keys : List ℕ) (k rest : ℕ) → 0 < k → ((r : List ℕ) → AllBytes r → key r ≡ k → rest ≡ key (take (length r - 1) r)) → IsSuffixLeft keys k rest
suffix_start keys k rest pos is [] bytes e = absurd (omega (arith, pos, e))
suffix_start keys k rest pos is (b ∷ r) bytes e = (length (b ∷ r) - 1, omega arith, is (b ∷ r) bytes e, λ j lt c. omega (arith, lt))

pub suffix_step : (keys : List ℕ) (k rest next : ℕ) → IsSuffixLeft keys k rest → (Contains keys rest → ⊥) → 0 < rest
    → ((r : List ℕ) → AllBytes r → key r ≡ rest → next ≡ key (take (length r - 1) r)) → IsSuffixLeft keys k next
suffix_step keys k rest next left none pos is r bytes e =
    let s = left r bytes e in
    let front = take s.0 r in
    let len : length front ≡ s.0 = omega (arith, length-take s.0 r, s.1) in
    let some : 0 < s.0 = not_none s.0 s.2 in
    let cut : length front - 1 ≤ s.0 = omega (arith, len) in
    let one : length front - 1 ≡ s.0 - 1 = omega (arith, len) in
    let shown : next ≡ key (take (s.0 - 1) r) = is front (bytes_take s.0 r bytes) (sym s.2) ∙ ap key (take-take (length front - 1) s.0 r cut) ∙ ap (λ n. key (take n r)) one in (
      s.0 - 1,
      omega (arith, s.1),
      shown,
      λ j lt c.
          let le = s.3 j lt c in
          let other : j ≢ s.0 = λ same. none (subst (Contains keys) (ap (λ n. key (take n r)) same ∙ sym s.2) c) in
          omega (arith, le, other),
    ) where
      not_none : (i : ℕ) → rest ≡ key (take i r) → 0 < i
      not_none zero e = absurd (omega (arith, e, pos))
      not_none (suc i) e = omega arith

pub suffix_found : (keys : List ℕ) (k rest place : ℕ) → IsSuffixLeft keys k rest → get_or keys place 0 ≡ rest → IsLongestIn keys k place
suffix_found keys k rest place left at r bytes e = let s = left r bytes e in (s.0, s.1, at ∙ s.2, s.3)

-- the sorted numbers, each once
pub record Once (sorted : List ℕ) (i : ℕ) (keys : List ℕ) (last : ℕ) : Type 0 where
  pub are : AreKeys keys
  pub top : get_or keys (length keys - 1) 0 ≡ last
  pub few : length keys ≤ i + 1
  pub all : (k : ℕ) → k < i → Contains keys (get_or sorted k 0)
  pub from : (last ≡ 0) ⊎ ((k : ℕ) × (k < i) × (get_or sorted k 0 ≡ last))
  pub only : (x : ℕ) → Contains keys x → (x ≡ 0) ⊎ (Contains sorted x)

module _ (sorted : List ℕ) (up : (i j : ℕ) → i ≤ j → j < length sorted → get_or sorted i 0 ≤ get_or sorted j 0) where
  pub once_start : Once sorted 0 (0 ∷ []) 0
  once_start = record {
    are = record { some = omega arith; first = refl; rises = λ i j lt le. absurd (omega (arith, lt, le)) };
    top = refl;
    few = omega arith;
    all = λ k lt. absurd (omega (arith, lt));
    from = inl refl;
    only = λ x c. inl (none x c);
  } where
    none : (x : ℕ) → Contains (0 ∷ []) x → x ≡ 0
    none x (zero, lt, e) = sym e
    none x (suc k, lt, e) = absurd (omega (arith, lt))

  pub once_keep : (i last : ℕ) (keys : List ℕ) → i < length sorted → Once sorted i keys last → get_or sorted i 0 ≤ last → Once sorted (i + 1) keys last
  once_keep i last keys inside o le = record {
    are = o.are;
    top = o.top;
    few = omega (arith, o.few);
    only = o.only;
    all = λ k lt. elim (below_or_at k i lt) [
      | inl old ↦ o.all k old
      | inr new ↦
          has_at keys (length keys - 1) (get_or sorted k 0) (omega (arith, o.are.some)) (o.top ∙ (same ∙ ap (λ n. get_or sorted n 0) (sym new)))
    ];
    from = elim o.from [ inl z ↦ inl z | inr f ↦ inr (f.0, omega (arith, f.1), f.2) ];
  } where
    same : last ≡ get_or sorted i 0
    same = elim o.from [ inl z ↦ omega (arith, z, le) | inr f ↦ omega (arith, le, f.2, up f.0 i (omega (arith, f.1)) inside) ]

  pub once_push : (i last : ℕ) (keys : List ℕ) → i < length sorted → Once sorted i keys last → last < get_or sorted i 0 → Once sorted (i + 1) (keys ++ get_or sorted i 0 ∷ []) (get_or sorted i 0)
  once_push i last keys inside o less = let x = get_or sorted i 0 in record {
    are = record {
      some = omega (arith, length_push keys x);
      first = old_at keys x 0 o.are.some ∙ o.are.first;
      rises = rises_push keys x o.are.rises o.are.some (omega (arith, o.top, less));
    };
    top = new_at keys x (length (keys ++ x ∷ []) - 1) (omega (arith, length_push keys x));
    few = omega (arith, length_push keys x, o.few);
    all = λ k lt. elim (below_or_at k i lt) [
      | inl old ↦ Contains-append_left keys (x ∷ []) (get_or sorted k 0) (o.all k old)
      | inr new ↦ subst (λ y. Contains (keys ++ x ∷ []) y) (ap (λ n. get_or sorted n 0) (sym new)) (Contains-push keys x)
    ];
    from = inr (i, omega arith, refl);
    only = λ y c. elim (Contains-push_cases keys x y c) [ inl old ↦ o.only y old | inr new ↦ inr (has_at sorted i y inside new) ];
  }

-- runs
pub record Running (keys xs : List ℕ) (n at : ℕ) (starts : List ℕ) : Type 0 where
  pub count : length starts ≡ n + 1
  pub first : get_or starts 0 0 ≡ 0
  pub last : get_or starts n 0 ≡ at
  pub low : at ≤ length xs
  pub rise : (i : ℕ) → i < n → get_or starts i 0 ≤ get_or starts (i + 1) 0
  pub within : (i : ℕ) → i ≤ n → get_or starts i 0 ≤ length xs
  pub inside : (i k : ℕ) → i < n → get_or starts i 0 ≤ k → k < get_or starts (i + 1) 0 → get_or xs k 0 ≡ get_or keys i 0
  pub outside : (i k : ℕ) → i < n → k < length xs → get_or xs k 0 ≡ get_or keys i 0 → (get_or starts i 0 ≤ k) × (k < get_or starts (i + 1) 0)
  pub before : (k i : ℕ) → k < at → n ≤ i → i < length keys → get_or xs k 0 < get_or keys i 0
  pub after : (k i : ℕ) → at ≤ k → k < length xs → i < n → get_or keys i 0 < get_or xs k 0

module _ (keys xs : List ℕ) (are : AreKeys keys) (up : (i j : ℕ) → i ≤ j → j < length xs → get_or xs i 0 ≤ get_or xs j 0)
    (known : (k : ℕ) → k < length xs → Contains keys (get_or xs k 0)) where
  pub running_start : Running keys xs 0 0 (0 ∷ [])
  running_start = record {
    count = refl;
    first = refl;
    last = refl;
    low = omega arith;
    rise = λ i lt. absurd (omega (arith, lt));
    within = λ i le. zero_in i le;
    inside = λ i k lt a b. absurd (omega (arith, lt));
    outside = λ i k lt a b. absurd (omega (arith, lt));
    before = λ k i lt a b. absurd (omega (arith, lt));
    after = λ k i a b lt. absurd (omega (arith, lt));
  } where
    zero_in : (i : ℕ) → i ≤ 0 → get_or (0 ∷ []) i 0 ≤ length xs
    zero_in zero le = omega arith
    zero_in (suc i) le = absurd (omega (arith, le))

  pub running_step : (n at end : ℕ) (starts : List ℕ) → n < length keys → Running keys xs n at starts → at ≤ end → end ≤ length xs
      → ((k : ℕ) → at ≤ k → k < end → get_or xs k 0 ≡ get_or keys n 0) → (end < length xs → get_or xs end 0 ≢ get_or keys n 0) → Running keys xs (n + 1) end (starts ++ end ∷ [])
  running_step n at end starts lt r le fits run stop = record {
    count = omega (arith, length_push starts end, r.count);
    first = old 0 (omega arith) ∙ r.first;
    last = new;
    low = fits;
    rise = λ i less. elim (below_or_at i n less) [
      | inl o ↦ omega (arith, old i (omega (arith, o)), old (i + 1) (omega (arith, o)), r.rise i o)
      | inr e ↦ omega (arith, old i (omega (arith, e)), ap (λ j. get_or (starts ++ end ∷ []) (j + 1) 0) e, new, ap (λ j. get_or starts j 0) e, r.last, le)
    ];
    within = λ i less. elim (cases_lt n i) [
      | inl o ↦ let e : i ≡ n + 1 = omega (arith, o, less) in omega (arith, ap (λ j. get_or (starts ++ end ∷ []) j 0) e, new, fits)
      | inr o ↦ omega (arith, old i o, r.within i o)
    ];
    inside = λ i k less a b. elim (below_or_at i n less) [
      | inl o ↦ r.inside i k o (omega (arith, a, old i (omega (arith, o)))) (omega (arith, b, old (i + 1) (omega (arith, o))))
      | inr e ↦ run k (omega (arith, a, old i (omega (arith, e)), ap (λ j. get_or starts j 0) e, r.last)) (omega (arith, b, ap (λ j. get_or (starts ++ end ∷ []) (j + 1) 0) e, new))
          ∙ ap (λ j. get_or keys j 0) (sym e)
    ];
    outside = λ i k less inx e. elim (below_or_at i n less) [
      | inl o ↦ let h = r.outside i k o inx e in (omega (arith, h.0, old i (omega (arith, o))), omega (arith, h.1, old (i + 1) (omega (arith, o))))
      | inr same ↦
          let here : get_or xs k 0 ≡ get_or keys n 0 = e ∙ ap (λ j. get_or keys j 0) same in
          let from : at ≤ k = elim (cases_lt k at) [ inl b ↦ absurd (omega (arith, r.before k n b (omega arith) lt, here)) | inr b ↦ b ] in
          let to : k < end = elim (cases_lt k end) [ inl b ↦ b | inr b ↦ absurd (omega (arith, above k b inx, here)) ] in
          (omega (arith, from, old i (omega (arith, same)), ap (λ j. get_or starts j 0) same, r.last), omega (arith, to, ap (λ j. get_or (starts ++ end ∷ []) (j + 1) 0) same, new))
    ];
    before = λ k i b less inside. elim (cases_lt k at) [
      | inl o ↦ r.before k i o (omega (arith, less)) inside
      | inr o ↦ omega (arith, run k o b, are.rises n i (omega (arith, less)) inside)
    ];
    after = λ k i b inx less. elim (below_or_at i n less) [
      | inl o ↦ r.after k i (omega (arith, b, le)) inx o
      | inr e ↦ omega (arith, above k b inx, ap (λ j. get_or keys j 0) e)
    ];
  } where
    old : (i : ℕ) → i ≤ n → get_or (starts ++ end ∷ []) i 0 ≡ get_or starts i 0
    old i le = old_at starts end i (omega (arith, le, r.count))

    new : get_or (starts ++ end ∷ []) (n + 1) 0 ≡ end
    new = new_at starts end (n + 1) (sym r.count)

    above : (k : ℕ) → end ≤ k → k < length xs → get_or keys n 0 < get_or xs k 0
    above k b inx =
        let inend : end < length xs = omega (arith, b, inx) in
        let p = at_has keys (get_or xs end 0) (known end inend) in
        let more : n < p.0 = elim (order3 n p.0) [
          | inl m ↦ m
          | inr o ↦ elim o [
            | inl same ↦ absurd (stop inend (sym p.2 ∙ ap (λ j. get_or keys j 0) (sym same)))
            | inr m ↦ absurd (omega (arith, r.after end p.0 le inend m, p.2))
          ]
        ] in
        omega (arith, are.rises n p.0 more p.1, p.2, up end k b inx)

  pub running_done : (n at : ℕ) (starts : List ℕ) → n ≡ length keys → Running keys xs n at starts → AreRuns keys xs starts
  running_done n at starts e r = let whole = subst (λ i. Running keys xs i at starts) e r in record {
    count = whole.count;
    first = whole.first;
    rise = whole.rise;
    within = whole.within;
    inside = whole.inside;
    outside = whole.outside;
    last = whole.last ∙ (elim (cases_lt at (length xs)) [
      | inl lt ↦ let p = at_has keys (get_or xs at 0) (known at lt) in absurd (omega (arith, whole.after at p.0 (omega arith) lt p.1, p.2))
      | inr ge ↦ omega (arith, ge, whole.low)
    ]);
  }

-- what the failure node of a key's place is
pub node_links : (keys : List ℕ) → AreKeys keys → (n f : ℕ) → n < length keys
    → ((get_or keys n 0 ≡ 0) × (f ≡ 0)) ⊎ ((get_or keys n 0 ≢ 0) × (f < length keys) × (get_or keys f 0 < get_or keys n 0) × IsLongestIn keys (get_or keys n 0) f)
    → (n ≡ 0 → f ≡ 0) × (n ≢ 0 → f < n) × (n ≢ 0 → IsLongestIn keys (get_or keys n 0) f)
node_links keys are n f lt (inl z) = (λ e. z.1, λ other. absurd (some other), λ other. absurd (some other)) where
  some : n ≢ 0 → ⊥
  some other = omega (arith, are.rises 0 n (omega (arith, other)) lt, are.first, z.0)
node_links keys are n f lt (inr s) = (λ e. absurd (s.0 (ap (λ i. get_or keys i 0) e ∙ are.first)), λ other. below, λ other. s.3) where
  below : f < n
  below = elim (order3 f n) [
    | inl less ↦ less
    | inr o ↦ elim o [ inl same ↦ absurd (omega (arith, s.2, ap (λ i. get_or keys i 0) same)) | inr more ↦ absurd (omega (arith, are.rises n f more s.1, s.2)) ]
  ]
