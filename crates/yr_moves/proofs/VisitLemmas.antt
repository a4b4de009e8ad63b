-- What a move does to the members, a lemma for each kind of move.
use Rattle.std.proofs.Common.{◌≡◌, ℕ, ◌<◌, inl, inr, true, false, IsTrue, List, Option, Some, Contains, refl, sym, subst, true≢false}
use Rattle.std.specs.Prelude.{slice_get}
use Rattle.yr_rows.specs.Accepts.{HasByte, holds}
use Rattle.yr_rows.specs.Moves.{NamesAmong}
use Rattle.yr_rows.specs.declared.moves.Assertion.{Assertion}
use Rattle.yr_rows.specs.declared.moves.Move.{Move}
use Rattle.yr_rows.specs.declared.moves.Move.TheVariants.{Accept, Set, Fork, Test}
use Rattle.yr_moves.specs.Passes.{LeadsHere, LeadsOver, Visits}
use Rattle.yr_moves.proofs.MemberLemmas.{Joins, extends_same, extends_trans, extends_has, joins_extends, joins_has, joins_only}

module _ (sets : List (List ℕ)) (file : List ℕ) (i : ℕ) (byte : Option ℕ) where
  not_true : {A : Type 0} → false ≡ true → A
  not_true e = absurd (true≢false (sym e))

  pub visits_accept : (now on : List ℕ) → Visits sets file i byte Accept now now on on true
  visits_accept now on = record {
    grows = extends_same now;
    grows_on = extends_same on;
    here = λ x d. absurd d;
    over = λ x d. absurd d;
    accepts = λ e. refl;
    only_here = λ x c. inl c;
    only_over = λ x c. inl c;
    only_accepts = λ e. refl;
  }

  -- a move that does nothing here
  pub visits_nothing : (v : Move) (now on : List ℕ) → (v ≡ Accept → ⊥) → ((x : ℕ) → LeadsHere file i v x → ⊥) → ((x : ℕ) → LeadsOver sets byte v x → ⊥) →
      Visits sets file i byte v now now on on false
  visits_nothing v now on other idle idle_over = record {
    grows = extends_same now;
    grows_on = extends_same on;
    here = λ x d. absurd (idle x d);
    over = λ x d. absurd (idle_over x d);
    accepts = λ e. absurd (other e);
    only_here = λ x c. inl c;
    only_over = λ x c. inl c;
    only_accepts = λ e. not_true e;
  }

  pub visits_fork : (a b : ℕ) (now now1 now2 on : List ℕ) → Joins now now1 a → Joins now1 now2 b → Visits sets file i byte (Fork a b) now now2 on on false
  visits_fork a b now now1 now2 on j k =
      let C : ℕ → Type 0 = λ x. Contains now2 x in
      record {
        grows = extends_trans now now1 now2 (joins_extends now now1 a j) (joins_extends now1 now2 b k);
        grows_on = extends_same on;
        here = λ x d. elim d [
          | inl e ↦ subst C (sym e) (extends_has now1 now2 a (joins_extends now1 now2 b k) (joins_has now now1 a j))
          | inr e ↦ subst C (sym e) (joins_has now1 now2 b k)
        ];
        over = λ x d. absurd d;
        accepts = λ e. cc;
        only_here = λ x c. elim (joins_only now1 now2 b x k c) [
          | inl c1 ↦ elim (joins_only now now1 a x j c1) [ inl c0 ↦ inl c0 | inr e ↦ inr (inl (sym e)) ]
          | inr e ↦ inr (inr (sym e))
        ];
        only_over = λ x c. inl c;
        only_accepts = λ e. not_true e;
      }

  pub visits_test : (assertion : Assertion) (next : ℕ) (now now' on : List ℕ) → IsTrue (holds assertion file i) → Joins now now' next →
      Visits sets file i byte (Test assertion next) now now' on on false
  visits_test assertion next now now' on true_here j =
      let C : ℕ → Type 0 = λ x. Contains now' x in
      record {
        grows = joins_extends now now' next j;
        grows_on = extends_same on;
        here = λ x d. subst C (sym d.0) (joins_has now now' next j);
        over = λ x d. absurd d;
        accepts = λ e. cc;
        only_here = λ x c. elim (joins_only now now' next x j c) [ inl c0 ↦ inl c0 | inr e ↦ inr (sym e, true_here) ];
        only_over = λ x c. inl c;
        only_accepts = λ e. not_true e;
      }

  pub visits_no_test : (assertion : Assertion) (next : ℕ) (now on : List ℕ) → (IsTrue (holds assertion file i) → ⊥) →
      Visits sets file i byte (Test assertion next) now now on on false
  visits_no_test assertion next now on no_way = visits_nothing (Test assertion next) now on (λ e. cc) (λ x d. no_way d.1) (λ x d. d)

  pub visits_set : (next set b : ℕ) (bits : List ℕ) (now on on' : List ℕ) → slice_get sets set ≡ Some bits → byte ≡ Some b → HasByte bits b → Joins on on' next →
      Visits sets file i byte (Set next set) now now on on' false
  visits_set next set b bits now on on' at is has j =
      let C : ℕ → Type 0 = λ x. Contains on' x in
      record {
        grows = extends_same now;
        grows_on = joins_extends on on' next j;
        here = λ x d. absurd d;
        over = λ x d. subst C (sym d.0) (joins_has on on' next j);
        accepts = λ e. cc;
        only_here = λ x c. inl c;
        only_over = λ x c. elim (joins_only on on' next x j c) [ inl c0 ↦ inl c0 | inr e ↦ inr (sym e, bits, at, b, is, has) ];
        only_accepts = λ e. not_true e;
      }

  pub visits_no_set : (next set : ℕ) (now on : List ℕ) → ((bits : List ℕ) (b : ℕ) → slice_get sets set ≡ Some bits → byte ≡ Some b → HasByte bits b → ⊥) →
      Visits sets file i byte (Set next set) now now on on false
  visits_no_set next set now on no_way = visits_nothing (Set next set) now on (λ e. cc) (λ x d. d) (λ x d. no_way d.1 d.3 d.2 d.4 d.5)

-- what a move leads to is one of the moves that it names
pub names_here : (n k : ℕ) (file : List ℕ) (i : ℕ) (v : Move) (x : ℕ) → NamesAmong n k v → LeadsHere file i v x → x < n
names_here n k file i Accept x names d = absurd d
names_here n k file i (Set next set) x names d = absurd d
names_here n k file i (Fork next other) x names (inl e) = let B : ℕ → Type 0 = λ y. y < n in subst B (sym e) names.0
names_here n k file i (Fork next other) x names (inr e) = let B : ℕ → Type 0 = λ y. y < n in subst B (sym e) names.1
names_here n k file i (Test assertion next) x names d = let B : ℕ → Type 0 = λ y. y < n in subst B (sym d.0) names

pub names_over : (n k : ℕ) (sets : List (List ℕ)) (byte : Option ℕ) (v : Move) (x : ℕ) → NamesAmong n k v → LeadsOver sets byte v x → x < n
names_over n k sets byte Accept x names d = absurd d
names_over n k sets byte (Set next set) x names d = let B : ℕ → Type 0 = λ y. y < n in subst B (sym d.0) names.0
names_over n k sets byte (Fork next other) x names d = absurd d
names_over n k sets byte (Test assertion next) x names d = absurd d
