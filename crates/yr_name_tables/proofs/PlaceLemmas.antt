-- Where names stand first.
use Rattle.std.proofs.Common.{◌≡◌, ℕ, suc, ◌+◌, ◌||◌, ◌<◌, Bool, true, false, cond, List, [], ◌∷◌, ◌++◌, map, length, refl, sym, ap, subst, ◌∙◌, arith, Some, None, Option, Bor}
use Rattle.std.specs.Prelude.{if◌then◌else◌, is_some, IfSome}
use Rattle.std.specs.Option.{option_map, option_or}
use Rattle.std.specs.Map.{lookup}
use Rattle.std.specs.Str.{bytes_eq}
use Rattle.std.specs.Cmp.Lexicographic.{bytes_decides}
use Rattle.indexmap.specs.IndexMap.{insert_entry}
use Rattle.yr_name_tables.specs.Names.{Name, has, place_of}
use Rattle.yr_name_tables.specs.Places.{ArePlaces, IsPlaceAdded}
use Rattle.yr_name_tables.proofs.NameLemmas.{map-last}

lookup-last : {K X : Type 0} (t : K → Bool) (es : List (K × X)) (k : K) (x : X) → lookup t (es ++ (k, x) ∷ []) ≡ option_or (lookup t es) (cond (t k) (Some x) None)
lookup-last t [] k x = refl
lookup-last t (e ∷ es) k x =
    elim (t e.0) as (λ b. cond b (Some e.1) (lookup t (es ++ (k, x) ∷ [])) ≡ option_or (cond b (Some e.1) (lookup t es)) (cond (t k) (Some x) None)) [ true ↦ refl | false ↦ lookup-last t es k x ]

shift-or : (p : Option ℕ) (b : Bool) (n : ℕ) → option_map (λ k. k + 1) (option_or p (cond b (Some n) None)) ≡ option_or (option_map (λ k. k + 1) p) (cond b (Some (n + 1)) None)
shift-or (Some k) b n = refl
shift-or None true n = refl
shift-or None false n = refl

place-last : (q : Name) (ns : List Name) (n : Name) → place_of q (ns ++ n ∷ []) ≡ option_or (place_of q ns) (cond (bytes_eq q n) (Some (length ns)) None)
place-last q [] n = refl
place-last q (m ∷ ms) n = grind (arith, place-last q ms n, shift-or (place_of q ms) (bytes_eq q n) (length ms))

pub place-has : (q : Name) (ns : List Name) → is_some (place_of q ns) ≡ has q ns
place-has q [] = refl
place-has q (n ∷ ns) = by (place-has q ns) (bytes_eq q n)
  where
    shifted : (p : Option ℕ) → is_some (option_map (λ k. k + 1) p) ≡ is_some p
    shifted None = refl
    shifted (Some k) = refl

    by : is_some (place_of q ns) ≡ has q ns → (b : Bool) → is_some (if b then Some 0 else option_map (λ k. k + 1) (place_of q ns)) ≡ (b || has q ns)
    by rest true = refl
    by rest false = shifted (place_of q ns) ∙ rest

pub places-new : (es : List (Bor Name × ℕ)) (ks : List (Bor Name)) (k : Bor Name) (n : ℕ) → n ≡ length (map (λ (r : Bor Name). r.now) ks)
    → ArePlaces es (map (λ (r : Bor Name). r.now) ks) → ArePlaces (es ++ (k, n) ∷ []) (map (λ (r : Bor Name). r.now) (ks ++ k ∷ []))
places-new es ks k n e h q =
    lookup-last (λ r. bytes_eq q r.now) es k n
    ∙ ap (λ p. option_or p (cond (bytes_eq q k.now) (Some n) None)) (h q)
    ∙ ap (λ m. option_or (place_of q (map (λ (r : Bor Name). r.now) ks)) (cond (bytes_eq q k.now) (Some m) None)) e
    ∙ sym (ap (place_of q) (map-last (λ (r : Bor Name). r.now) ks k) ∙ place-last q (map (λ (r : Bor Name). r.now) ks) k.now)

pub place-again : (q : Name) (ns : List Name) (n : Name) → is_some (place_of n ns) ≡ true → place_of q (ns ++ n ∷ []) ≡ place_of q ns
place-again q ns n there = place-last q ns n ∙ by (place_of q ns) refl (bytes_eq q n) refl
  where
    by : (p : Option ℕ) → place_of q ns ≡ p → (b : Bool) → bytes_eq q n ≡ b → option_or p (cond b (Some (length ns)) None) ≡ p
    by (Some k) e b f = refl
    by None e false f = refl
    by None e true f = let same : q ≡ n = (bytes_decides q n).0 f in let none : is_some (place_of n ns) ≡ false = ap (λ m. is_some (place_of m ns)) (sym same) ∙ ap is_some e in cc

pub places-again : (es : List (Bor Name × ℕ)) (ks : List (Bor Name)) (k : Bor Name) → is_some (lookup (λ r. bytes_eq k.now r.now) es) ≡ true
    → ArePlaces es (map (λ (r : Bor Name). r.now) ks) → ArePlaces es (map (λ (r : Bor Name). r.now) (ks ++ k ∷ []))
places-again es ks k there h q =
    h q ∙ sym (ap (place_of q) (map-last (λ (r : Bor Name). r.now) ks k) ∙ place-again q (map (λ (r : Bor Name). r.now) ks) k.now (ap is_some (sym (h k.now)) ∙ there))

pub places-added : (es fs : List (Bor Name × ℕ)) (ks : List (Bor Name)) (k : Bor Name) (n : ℕ) → n ≡ length (map (λ (r : Bor Name). r.now) ks)
    → IsPlaceAdded es k n fs → ArePlaces es (map (λ (r : Bor Name). r.now) ks) → ArePlaces fs (map (λ (r : Bor Name). r.now) (ks ++ k ∷ []))
places-added es fs ks k n e added h = let P : List (Bor Name × ℕ) → Type 0 = λ l. ArePlaces l (map (λ (r : Bor Name). r.now) (ks ++ k ∷ [])) in subst P (sym added) (by (is_some (lookup (λ r. bytes_eq k.now r.now) es)) refl)
  where
    by : (b : Bool) → is_some (lookup (λ r. bytes_eq k.now r.now) es) ≡ b → ArePlaces (if b then es else es ++ (k, n) ∷ []) (map (λ (r : Bor Name). r.now) (ks ++ k ∷ []))
    by true there = places-again es ks k there h
    by false none = places-new es ks k n e h

insert-absent : (es : List (Bor Name × ℕ)) (k : Bor Name) (n : ℕ) → is_some (lookup (λ r. bytes_eq k.now r.now) es) ≡ false → insert_entry (λ (a : Bor Name) b. bytes_eq a.now b.now) es k n ≡ es ++ (k, n) ∷ []
insert-absent [] k n h = refl
insert-absent (e ∷ es) k n h = by (insert-absent es k n) (bytes_eq k.now e.0.now) h
  where
    by : (is_some (lookup (λ r. bytes_eq k.now r.now) es) ≡ false → insert_entry (λ (a : Bor Name) b. bytes_eq a.now b.now) es k n ≡ es ++ (k, n) ∷ [])
        → (b : Bool) → is_some (cond b (Some e.1) (lookup (λ r. bytes_eq k.now r.now) es)) ≡ false
        → cond b ((e.0, n) ∷ es) (e ∷ insert_entry (λ (a : Bor Name) b. bytes_eq a.now b.now) es k n) ≡ e ∷ (es ++ (k, n) ∷ [])
    by rest true g = cc
    by rest false g = ap (λ l. e ∷ l) (rest g)

pub place-is-added : (es fs : List (Bor Name × ℕ)) (k : Bor Name) (n : ℕ) → is_some (lookup (λ r. bytes_eq k.now r.now) es) ≡ false
    → fs ≡ insert_entry (λ (a : Bor Name) b. bytes_eq a.now b.now) es k n → IsPlaceAdded es k n fs
place-is-added es fs k n h e = e ∙ insert-absent es k n h ∙ ap (λ b. cond b es (es ++ (k, n) ∷ [])) (sym h)

shifted-within : (p : Option ℕ) (n : ℕ) → IfSome p (λ k. k < n) → IfSome (option_map (λ k. k + 1) p) (λ k. k < suc n)
shifted-within None n h = tt
shifted-within (Some k) n h = omega arith

pub place_within : (q : Name) (ns : List Name) → IfSome (place_of q ns) (λ k. k < length ns)
place_within q [] = tt
place_within q (n ∷ ns) = by (place_within q ns) (bytes_eq q n)
  where
    by : IfSome (place_of q ns) (λ k. k < length ns) → (b : Bool) → IfSome (if b then Some 0 else option_map (λ k. k + 1) (place_of q ns)) (λ k. k < suc (length ns))
    by rest true = omega arith
    by rest false = shifted-within (place_of q ns) (length ns) rest
