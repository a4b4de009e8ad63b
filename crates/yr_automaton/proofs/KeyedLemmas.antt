-- Nodes that stand for the numbers in a rising list have the right links.
use Rattle.std.proofs.Common.{◌≡◌, ◌≢◌, ℕ, ◌+◌, ◌*◌, ◌<◌, ◌⊎◌, inl, inr, List, [], ◌∷◌, length, take, get_or, Option, Some, refl, sym, ap, ◌∙◌, subst, arith}
use Rattle.std.specs.Option.{option_and_then}
use Rattle.std.proofs.lemmas.List.{get_or_default}
use Rattle.yr_automaton.specs.Keys.{AllBytes, key, AreKeys, IsLongestIn}
use Rattle.yr_automaton.proofs.SuffixLemmas.{node_of, front_node, Links}
use Rattle.yr_automaton.proofs.KeyLemmas.{bytes_take}

pub record IsKeyed (keys : List ℕ) (edge : ℕ → ℕ → Option ℕ) (link : ℕ → ℕ) : Type 0 where
  pub are : AreKeys keys
  pub closed : (n q b : ℕ) → n < length keys → b < 256 → get_or keys n 0 ≡ q * 256 + b + 1 → (p : ℕ) × (p < length keys) × (get_or keys p 0 ≡ q)
  pub to : (n b m : ℕ) → n < length keys → edge n b ≡ Some m → (b < 256) × (m < length keys) × (get_or keys m 0 ≡ get_or keys n 0 * 256 + b + 1)
  pub from : (n b m : ℕ) → n < length keys → b < 256 → m < length keys → get_or keys m 0 ≡ get_or keys n 0 * 256 + b + 1 → edge n b ≡ Some m
  pub fails : (n : ℕ) → n < length keys → n ≢ 0 → (link n < length keys) × IsLongestIn keys (get_or keys n 0) (link n)

module _ (keys : List ℕ) (edge : ℕ → ℕ → Option ℕ) (link : ℕ → ℕ) (good : IsKeyed keys edge link) where
  same_place : (i j : ℕ) → i < length keys → j < length keys → get_or keys i 0 ≡ get_or keys j 0 → i ≡ j
  same_place i j li lj e = elim (order i j) [ inl lt ↦ absurd (omega (arith, good.are.rises i j lt lj, e)) | inr o ↦ elim o [ inl same ↦ same | inr gt ↦ absurd (omega (arith, good.are.rises j i gt li, e)) ] ] where
    order : (i j : ℕ) → (i < j) ⊎ ((i ≡ j) ⊎ (j < i))
    order i j = grind arith

  pub has_key : (r : List ℕ) (n : ℕ) → node_of edge r ≡ Some n → AllBytes r × (n < length keys) × (get_or keys n 0 ≡ key r)
  has_key [] n e = let z : 0 ≡ n = cc e in (tt, subst (λ i. i < length keys) z good.are.some, ap (λ i. get_or keys i 0) (sym z) ∙ good.are.first)
  has_key (b ∷ r) n e =
      let f = front_node edge (node_of edge r) b n e in
      let h = has_key r f.0 f.1 in
      let step : edge f.0 b ≡ Some n = ap (option_and_then (λ n. edge n b)) (sym f.1) ∙ e in
      let t = good.to f.0 b n h.1 step in
      ((t.0, h.0), t.1, t.2 ∙ ap (λ k. k * 256 + b + 1) h.2)

  pub of_key : (r : List ℕ) (n : ℕ) → AllBytes r → n < length keys → get_or keys n 0 ≡ key r → node_of edge r ≡ Some n
  of_key [] n bytes lt e = ap Some (same_place 0 n good.are.some lt (good.are.first ∙ sym e))
  of_key (b ∷ r) n bytes lt e =
      let p = good.closed n (key r) b lt bytes.0 e in
      let h = of_key r p.0 bytes.1 p.1 p.2 in
      ap (option_and_then (λ n. edge n b)) h ∙ good.from p.0 b n p.1 bytes.0 lt (e ∙ ap (λ k. k * 256 + b + 1) (sym p.2))

  pub keyed_links : Links edge link
  keyed_links = record {
    root = λ r e. let h = has_key r 0 e in no_bytes r (sym h.2 ∙ good.are.first);
    links = λ n r other e.
        let h = has_key r n e in
        let f = good.fails n h.1 other in
        let s = f.1 r h.0 (sym h.2) in (
          s.0,
          s.1,
          of_key (take s.0 r) (link n) (bytes_take s.0 r h.0) f.0 s.2,
          λ j m lt at. let g = has_key (take j r) m at in s.3 j lt (m, g.1, get_or_default keys m (key (take j r)) 0 g.1 ∙ g.2),
        );
  } where
    no_bytes : (r : List ℕ) → key r ≡ 0 → length r ≡ 0
    no_bytes [] e = refl
    no_bytes (b ∷ r) e = absurd (omega (arith, e))
