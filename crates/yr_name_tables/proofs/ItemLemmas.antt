-- The ranges of several items.
use Rattle.std.proofs.Common.{◌≡◌, ℕ, ◌+◌, ◌<◌, ◌≤◌, ◌||◌, Bool, true, false, List, [], ◌∷◌, ◌++◌, length, map, take, get_or, refl, sym, ap, subst, ◌∙◌}
use Rattle.std.specs.List.{list_any}
use Rattle.std.proofs.lemmas.List.{map_more}
use Rattle.std.proofs.lemmas.List.Elements.{All-nil, All-push, All-same}
use Rattle.std.proofs.lemmas.List.Folds.{list_any-append}
use Rattle.yr_syntax.specs.Condition.{ItemTree}
use Rattle.yr_name_tables.specs.declared.ranges.Range.{Range}
use Rattle.yr_name_tables.specs.Names.{Name, is_meant, means}
use Rattle.yr_name_tables.specs.Order.{AreRanges, IsRange, covers, is_covered, name_at}

any-last : {A : Type 0} (p : A → Bool) (xs : List A) (x : A) → list_any p (xs ++ x ∷ []) ≡ (list_any p xs || p x)
any-last p xs x = list_any-append p xs (x ∷ []) ∙ ap (λ b. list_any p xs || b) (or-false (p x))
  where
    or-false : (b : Bool) → (b || false) ≡ b
    or-false true = refl
    or-false false = refl

meant-none : (n : Name) → is_meant [] n ≡ false
unfolding is_meant
meant-none n = refl

meant-last : (items : List ItemTree) (item : ItemTree) (n : Name) → is_meant (items ++ item ∷ []) n ≡ (is_meant items n || means item.name item.wild n)
unfolding is_meant
meant-last items item n = any-last (λ i. means i.name i.wild n) items item

pub ranges-none : (order : List ℕ) (names : List Name) (ranges : List Range) → ranges ≡ [] → AreRanges order names [] ranges
ranges-none order names ranges e = record {
  within = All-same (λ (range : Range). range.high ≤ length order) ranges [] e (All-nil (λ (range : Range). range.high ≤ length order));
  covered = λ k h. ap (λ l. is_covered l k) e ∙ sym (meant-none (name_at names (get_or order k 0)));
}

ranges-last : (order : List ℕ) (names : List Name) (items : List ItemTree) (ranges : List Range) (item : ItemTree) (range : Range) → AreRanges order names items ranges → IsRange order names item.name item.wild range
    → AreRanges order names (items ++ item ∷ []) (ranges ++ range ∷ [])
ranges-last order names items ranges item range all this = record {
  within = All-push (λ (range : Range). range.high ≤ length order) ranges range all.within this.within;
  covered = λ k h.
      let n = name_at names (get_or order k 0) in
      any-last (λ r. covers r k) ranges range
      ∙ ap (λ b. b || covers range k) (all.covered k h)
      ∙ ap (λ b. is_meant items n || b) (this.covers k h)
      ∙ sym (meant-last items item n);
}

pub ranges-more : {A : Type 0} (tree : A → ItemTree) (order : List ℕ) (names : List Name) (items : List A) (i : ℕ) (item : A) (ranges new : List Range) (range : Range) → i < length items → item ≡ get_or items i item
    → AreRanges order names (map tree (take i items)) ranges → IsRange order names (tree item).name (tree item).wild range → new ≡ ranges ++ range ∷ [] → AreRanges order names (map tree (take (i + 1) items)) new
ranges-more tree order names items i item ranges new range h is all this e =
    let more : map tree (take (i + 1) items) ≡ map tree (take i items) ++ tree item ∷ [] = map_more tree items i item h ∙ ap (λ x. map tree (take i items) ++ tree x ∷ []) (sym is) in
    subst (λ (l : List ItemTree). AreRanges order names l new) (sym more)
    (subst (λ (l : List Range). AreRanges order names (map tree (take i items) ++ tree item ∷ []) l) (sym e) (ranges-last order names (map tree (take i items)) ranges (tree item) range all this))
