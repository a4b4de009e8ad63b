-- One more atom.
use Rattle.std.proofs.Common.{◌≡◌, ◌≢◌, ℕ, zero, suc, ◌+◌, ◌*◌, ◌<◌, ◌≤◌, inl, inr, List, [], ◌∷◌, ◌++◌, map, length, length-append, take, Some, refl, sym, ap, ◌∙◌, subst, arith, Contains}
use Rattle.std.specs.Prelude.{slice_get}
use Rattle.std.proofs.lemmas.List.{map-append}
use Rattle.std.proofs.lemmas.List.Elements.{All-push, All-nil, Contains-append_left, Contains-append_right, Contains-append_cases}
use Rattle.std.proofs.lemmas.Bool.Decides.{nat_tests}
use Rattle.yr_base.specs.declared.atom.Atom.{Atom}
use Rattle.yr_rows.specs.Words.{times}
use Rattle.yr_automaton.specs.Keys.{AllBytes, key_after, prefix_keys}
use Rattle.yr_automaton.specs.Atoms.{word}
use Rattle.yr_automaton.specs.Prepared.{IsHome, Collected}
use Rattle.yr_automaton.proofs.SuffixLemmas.{times-append}
use Rattle.yr_automaton.proofs.ListLemmas.{below_or_at}

times_same : (i : ℕ) → times i (i ∷ []) ≡ 1
times_same i = grind (arith, nat_tests)

times_other : (i x : ℕ) → x ≢ i → times i (x ∷ []) ≡ 0
times_other i x other = grind (arith, nat_tests)

pub length_prefixes : (k : ℕ) (w : List ℕ) → length (prefix_keys k w) ≡ length w
length_prefixes k [] = refl
length_prefixes k (b ∷ w) = omega (arith, length_prefixes (k * 256 + b + 1) w)

prefix_sound : (k : ℕ) (w : List ℕ) (x : ℕ) → Contains (prefix_keys k w) x → (j : ℕ) × (0 < j) × (j ≤ length w) × (x ≡ key_after k (take j w))
prefix_sound k [] x c = absurd (omega (arith, c.1))
prefix_sound k (b ∷ w) x (zero, lt, e) = (1, omega arith, omega arith, sym e)
prefix_sound k (b ∷ w) x (suc i, lt, e) =
    let r = prefix_sound (k * 256 + b + 1) w x (i, omega (arith, lt), e) in
    (suc r.0, omega arith, omega (arith, r.2), r.3)

prefix_complete : (k : ℕ) (w : List ℕ) (j : ℕ) → 0 < j → j ≤ length w → Contains (prefix_keys k w) (key_after k (take j w))
prefix_complete k w zero pos le = absurd (omega (arith, pos))
prefix_complete k [] (suc j) pos le = absurd (omega (arith, le))
prefix_complete k (b ∷ w) (suc zero) pos le = (0, omega arith, refl)
prefix_complete k (b ∷ w) (suc (suc j)) pos le =
    let r = prefix_complete (k * 256 + b + 1) w (suc j) (omega arith) (omega (arith, le)) in
    (suc r.0, omega (arith, r.1), r.2)

pub collected_none : (atoms : List Atom) → Collected atoms 0 [] []
collected_none atoms = record {
  count = refl;
  few = omega arith;
  ones = λ i lt. absurd (omega (arith, lt));
  zeros = λ i le. refl;
  homes = All-nil (IsHome atoms);
  bytes = λ i a lt at. absurd (omega (arith, lt));
  sound = λ x c. absurd (omega (arith, c.1));
  complete = λ i j a lt at pos le. absurd (omega (arith, lt));
}

pub collected_step : (atoms : List Atom) (n : ℕ) (all : List ℕ) (numbered : List (ℕ × ℕ)) (a : Atom) → slice_get atoms n ≡ Some a → AllBytes (word a) → length (word a) ≤ 4
    → Collected atoms n all numbered → Collected atoms (n + 1) (all ++ prefix_keys 0 (word a)) (numbered ++ (key_after 0 (word a), n) ∷ [])
collected_step atoms n all numbered a at bytes short c = record {
  count = omega (arith, length-append numbered ((key_after 0 (word a), n) ∷ []), c.count);
  few = omega (arith, length-append all (prefix_keys 0 (word a)), length_prefixes 0 (word a), short, c.few);
  ones = λ i lt. elim (below_or_at i n lt) [
    | inl old ↦ omega (arith, split i, c.ones i old, times_other i n (λ same. omega (arith, same, old)))
    | inr new ↦ subst (λ j. times j (map (λ p. p.1) (numbered ++ (key_after 0 (word a), n) ∷ [])) ≡ 1) (sym new) (omega (arith, split n, c.zeros n (omega arith), times_same n))
  ];
  zeros = λ i le. omega (arith, split i, c.zeros i (omega (arith, le)), times_other i n (λ same. omega (arith, same, le)));
  homes = All-push (IsHome atoms) numbered (key_after 0 (word a), n) c.homes (a, at, refl);
  bytes = λ i v lt here. elim (below_or_at i n lt) [
    | inl old ↦ c.bytes i v old here
    | inr new ↦ let same : Some a ≡ Some v = sym at ∙ ap (slice_get atoms) (sym new) ∙ here in let e : a ≡ v = cc same in
        subst (λ (x : Atom). AllBytes (word x) × (length (word x) ≤ 4)) e (bytes, short)
  ];
  sound = λ x h. elim (Contains-append_cases all (prefix_keys 0 (word a)) x h) [
    | inl old ↦ c.sound x old
    | inr new ↦ let p = prefix_sound 0 (word a) x new in (n, a, p.0, at, p.2, p.3)
  ];
  complete = λ i j v lt here pos le. elim (below_or_at i n lt) [
    | inl old ↦ Contains-append_left all (prefix_keys 0 (word a)) (key_after 0 (take j (word v))) (c.complete i j v old here pos le)
    | inr new ↦ let same : Some a ≡ Some v = sym at ∙ ap (slice_get atoms) (sym new) ∙ here in let e : a ≡ v = cc same in
        Contains-append_right all (prefix_keys 0 (word a)) (key_after 0 (take j (word v)))
        (subst (λ (x : Atom). Contains (prefix_keys 0 (word a)) (key_after 0 (take j (word x)))) e (prefix_complete 0 (word a) j pos (omega (arith, le, ap (λ (x : Atom). length (word x)) e))))
  ];
} where
  split : (i : ℕ) → times i (map (λ p. p.1) (numbered ++ (key_after 0 (word a), n) ∷ [])) ≡ times i (map (λ p. p.1) numbered) + times i (n ∷ [])
  split i = ap (times i) (map-append (λ p. p.1) numbered ((key_after 0 (word a), n) ∷ [])) ∙ times-append i (map (λ p. p.1) numbered) (n ∷ [])
