-- How lists of matches grow.
use Rattle.std.proofs.Common.{◌≡◌, ℕ, ◌+◌, ◌⊎◌, inl, inr, Bool, List, [], ◌∷◌, ◌++◌, Contains, append_assoc, append-nil, Result, Ok, Err, OnOk, refl, sym, ap, ◌∙◌, subst}
use Rattle.std.proofs.lemmas.List.Elements.{Contains-append_left, Contains-append_right, Contains-append_cases}
use Rattle.yr_answer.specs.MatchList.{Match}
use Rattle.yr_hits.specs.Gathering.{DoesFor, Grows}
use Rattle.yr_hits.proofs.MemberLemmas.{contains_first, contains_none, contains_cases}

module _ (greatest : Bool) where
  pub grows_none : (spans : ℕ → ℕ → Type 0) (list : List Match) → ((i j : ℕ) → spans i j → ⊥) → Grows spans greatest list list
  grows_none spans list none = record {
    added = [];
    is = sym (append-nil list);
    sound = λ i size h. absurd (contains_none (i, size) h);
    complete = λ i j h. absurd (none i j h);
  }

  -- one match, that does for all the spans
  pub grows_one : (spans : ℕ → ℕ → Type 0) (list : List Match) (start size : ℕ) → spans start (start + size)
      → ((i j : ℕ) → spans i j → (i ≡ start) × DoesFor greatest (start + size) j)
      → Grows spans greatest list (list ++ (start, size) ∷ [])
  grows_one spans list start size is does =
      let only : Match = (start, size) in
      let there : Contains (only ∷ []) only = contains_first only [] in
      record {
        added = (start, size) ∷ [];
        is = refl;
        sound = λ i n h. elim (contains_cases (start, size) (i, n) [] h) [
          | inl e ↦ subst (λ (m : Match). spans m.0 (m.0 + m.1)) e is
          | inr later ↦ absurd (contains_none (i, n) later)
        ];
        complete = λ i j h.
            let d = does i j h in
            (size, subst (λ (n : ℕ). Contains {X = Match} ((start, size) ∷ []) (n, size)) (sym d.0) there, subst (λ n. DoesFor greatest (n + size) j) (sym d.0) d.1);
      }

  -- one after another, for spans that are of the first kind or of the second
  pub grows_join : (first second spans : ℕ → ℕ → Type 0) (a b c : List Match) → Grows first greatest a b → Grows second greatest b c
      → ((i j : ℕ) → first i j → spans i j) → ((i j : ℕ) → second i j → spans i j) → ((i j : ℕ) → spans i j → first i j ⊎ second i j)
      → Grows spans greatest a c
  grows_join first second spans a b c g h into_first into_second either = record {
    added = g.added ++ h.added;
    is = h.is ∙ ap (λ l. l ++ h.added) g.is ∙ append_assoc a g.added h.added;
    sound = λ i size at. elim (Contains-append_cases g.added h.added (i, size) at) [
      | inl l ↦ into_first i (i + size) (g.sound i size l)
      | inr r ↦ into_second i (i + size) (h.sound i size r)
    ];
    complete = λ i j s. elim (either i j s) [
      | inl l ↦ let m = g.complete i j l in (m.0, Contains-append_left g.added h.added (i, m.0) m.1, m.2)
      | inr r ↦ let m = h.complete i j r in (m.0, Contains-append_right g.added h.added (i, m.0) m.1, m.2)
    ];
  }

  pub grows_as : (first spans : ℕ → ℕ → Type 0) (a b : List Match) → Grows first greatest a b
      → ((i j : ℕ) → first i j → spans i j) → ((i j : ℕ) → spans i j → first i j) → Grows spans greatest a b
  grows_as first spans a b g into back = record {
    added = g.added;
    is = g.is;
    sound = λ i size at. into i (i + size) (g.sound i size at);
    complete = λ i j s. g.complete i j (back i j s);
  }

-- what follows where there is a value
pub on_ok : {T E : Type 0} {P Q : Type 0} → (r : Result T E) → (P → Q) → OnOk r P → OnOk r Q
on_ok (Ok v) into h = into h
on_ok (Err e) into h = tt
