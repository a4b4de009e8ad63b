-- One check after another.
use Rattle.std.proofs.Common.{◌≡◌, ℕ, ◌+◌, ◌<◌, ◌≤◌, inl, inr, ⊎_elim, List, Some, refl, sym, ap, ◌∙◌, subst, arith}
use Rattle.std.proofs.lemmas.Bool.{cases_order}
use Rattle.yr_image.specs.declared.fault.ImageFault.{ImageFault}
use Rattle.yr_image.specs.declared.fault.ImageFault.TheVariants.{TooShort, Magic, Version, Length, Section, Index, Name, Code, ProgramBad, Node}
use Rattle.yr_image.specs.Sections.{HasSections}
use Rattle.yr_machine.specs.Wellformed.{Passes, check_of, first_number, second_number, ComesBefore, IsFirstFault, IsWellformed}
use Rattle.yr_verifier.specs.Firsts.{Finds, Reaches}

section_only : (f : ImageFault) → check_of f ≡ 5 → f ≡ Section (first_number f)
section_only (Section k) e = refl
section_only f e = absurd (omega (arith, e))

index_only : (f : ImageFault) → check_of f ≡ 6 → f ≡ Index (first_number f) (second_number f)
index_only (Index s k) e = refl
index_only f e = absurd (omega (arith, e))

name_only : (f : ImageFault) → check_of f ≡ 7 → f ≡ Name (first_number f) (second_number f)
name_only (Name s k) e = refl
name_only f e = absurd (omega (arith, e))

code_only : (f : ImageFault) → check_of f ≡ 8 → f ≡ Code (first_number f) (second_number f)
code_only (Code s k) e = refl
code_only f e = absurd (omega (arith, e))

program_only : (f : ImageFault) → check_of f ≡ 9 → f ≡ ProgramBad (first_number f)
program_only (ProgramBad k) e = refl
program_only f e = absurd (omega (arith, e))

node_only : (f : ImageFault) → check_of f ≡ 10 → f ≡ Node (first_number f)
node_only (Node k) e = refl
node_only f e = absurd (omega (arith, e))

some_check : (f : ImageFault) → (0 < check_of f) × (check_of f < 11)
some_check TooShort = (omega arith, omega arith)
some_check Magic = (omega arith, omega arith)
some_check Version = (omega arith, omega arith)
some_check Length = (omega arith, omega arith)
some_check (Section k) = (omega arith, omega arith)
some_check (Index s k) = (omega arith, omega arith)
some_check (Name s k) = (omega arith, omega arith)
some_check (Code s k) = (omega arith, omega arith)
some_check (ProgramBad k) = (omega arith, omega arith)
some_check (Node k) = (omega arith, omega arith)

-- the faults of a check that has one number, and of a check that has two
pub record IsOne (c : ℕ) (F : ℕ → ImageFault) : Type 0 where
  pub only : (f : ImageFault) → check_of f ≡ c → f ≡ F (first_number f)
  pub check : (k : ℕ) → check_of (F k) ≡ c
  pub first : (k : ℕ) → first_number (F k) ≡ k
  pub second : (k : ℕ) → second_number (F k) ≡ 0

pub record IsTwo (c : ℕ) (F : ℕ → ℕ → ImageFault) : Type 0 where
  pub only : (f : ImageFault) → check_of f ≡ c → f ≡ F (first_number f) (second_number f)
  pub check : (n k : ℕ) → check_of (F n k) ≡ c
  pub first : (n k : ℕ) → first_number (F n k) ≡ n
  pub second : (n k : ℕ) → second_number (F n k) ≡ k

pub sections : IsOne 5 (λ k. Section k)
sections = record { only = section_only; check = λ k. refl; first = λ k. refl; second = λ k. refl }

pub rows : IsTwo 6 (λ n k. Index n k)
rows = record { only = index_only; check = λ n k. refl; first = λ n k. refl; second = λ n k. refl }

pub names : IsTwo 7 (λ n k. Name n k)
names = record { only = name_only; check = λ n k. refl; first = λ n k. refl; second = λ n k. refl }

pub codes : IsTwo 8 (λ n k. Code n k)
codes = record { only = code_only; check = λ n k. refl; first = λ n k. refl; second = λ n k. refl }

pub programs : IsOne 9 (λ k. ProgramBad k)
programs = record { only = program_only; check = λ k. refl; first = λ k. refl; second = λ k. refl }

pub nodes : IsOne 10 (λ k. Node k)
nodes = record { only = node_only; check = λ k. refl; first = λ k. refl; second = λ k. refl }

module _ (bytes : List ℕ) where
  -- one number further
  reach_next : (c n : ℕ) → Reaches bytes c n → ((f : ImageFault) → check_of f ≡ c → first_number f ≡ n → Passes bytes f) → Reaches bytes c (n + 1)
  reach_next c n before here f (inl lt) = before f (inl lt)
  reach_next c n before here f (inr h) =
      ⊎_elim (λ same. here f h.0 same) (⊎_elim (λ lt. before f (inr (h.0, lt))) (λ gt. absurd (omega (arith, gt, h.1)))) (cases_order (first_number f) n)

  -- one check further
  reach_check : (c n : ℕ) → Reaches bytes c n → ((f : ImageFault) → check_of f ≡ c → n ≤ first_number f → Passes bytes f) → Reaches bytes (c + 1) 0
  reach_check c n before here f (inr h) = absurd (omega (arith, h.1))
  reach_check c n before here f (inl lt) =
      ⊎_elim (λ same. ⊎_elim (λ e. here f same (omega (arith, e))) (⊎_elim (λ low. before f (inr (same, low))) (λ gt. here f same (omega (arith, gt)))) (cases_order (first_number f) n))
      (⊎_elim (λ low. before f (inl low)) (λ gt. absurd (omega (arith, gt, lt)))) (cases_order (check_of f) c)

  -- a fault where the walk over the checks stands
  first_here : (f : ImageFault) → Reaches bytes (check_of f) (first_number f) → (Passes bytes f → ⊥)
      → ((g : ImageFault) → check_of g ≡ check_of f → first_number g ≡ first_number f → second_number g < second_number f → Passes bytes g) → IsFirstFault bytes f
  first_here f before fails same = record { fails = fails; first = earlier }
    where
      earlier : (g : ImageFault) → ComesBefore g f → Passes bytes g
      earlier g (inl lt) = before g (inl lt)
      earlier g (inr (c, inl lt)) = before g (inr (c, lt))
      earlier g (inr (c, inr (n, lt))) = same g c n lt

  pub all_pass : Reaches bytes 11 0 → IsWellformed bytes
  all_pass before f = before f (inl (some_check f).1)

  -- past the check of the sections the header and the sections fit
  pub reach_sections : Reaches bytes 6 0 → HasSections bytes
  reach_sections before = record {
    long_enough = before TooShort (inl (omega arith));
    magic_bytes = before Magic (inl (omega arith));
    version = before Version (inl (omega arith));
    whole = before Length (inl (omega arith));
    sections = λ k. before (Section k) (inl (omega arith));
  }

  module _ (c : ℕ) (F : ℕ → ImageFault) (is : IsOne c F) where
    pub one_next : (n : ℕ) → Reaches bytes c n → Passes bytes (F n) → Reaches bytes c (n + 1)
    one_next n before here = reach_next c n before (λ f e first. subst (Passes bytes) (sym (is.only f e ∙ ap F first)) here)

    pub one_check : (n : ℕ) → Reaches bytes c n → ((k : ℕ) → n ≤ k → Passes bytes (F k)) → Reaches bytes (c + 1) 0
    one_check n before rest = reach_check c n before (λ f e le. subst (Passes bytes) (sym (is.only f e)) (rest (first_number f) le))

    pub one_fault : (n : ℕ) → Reaches bytes c n → (Passes bytes (F n) → ⊥) → IsFirstFault bytes (F n)
    one_fault n before fails =
        first_here (F n) (subst (λ m. Reaches bytes m (first_number (F n))) (sym (is.check n)) (subst (Reaches bytes c) (sym (is.first n)) before)) fails
        (λ g e first lt. absurd (omega (arith, lt, is.second n)))

  module _ (c : ℕ) (F : ℕ → ℕ → ImageFault) (is : IsTwo c F) where
    pub two_next : (n : ℕ) → Reaches bytes c n → ((k : ℕ) → Passes bytes (F n k)) → Reaches bytes c (n + 1)
    two_next n before here =
        reach_next c n before (λ f e first. subst (Passes bytes) (sym (is.only f e ∙ ap (λ m. F m (second_number f)) first)) (here (second_number f)))

    pub two_check : (n : ℕ) → Reaches bytes c n → ((m k : ℕ) → n ≤ m → Passes bytes (F m k)) → Reaches bytes (c + 1) 0
    two_check n before rest =
        reach_check c n before (λ f e le. subst (Passes bytes) (sym (is.only f e)) (rest (first_number f) (second_number f) le))

    pub two_fault : (n k : ℕ) → Reaches bytes c n → Finds (λ j. Passes bytes (F n j)) (Some k) → IsFirstFault bytes (F n k)
    two_fault n k before found =
        first_here (F n k) (subst (λ m. Reaches bytes m (first_number (F n k))) (sym (is.check n k)) (subst (Reaches bytes c) (sym (is.first n k)) before)) found.0
        (λ g e first lt. subst (Passes bytes) (sym (is.only g (e ∙ is.check n k) ∙ ap (λ m. F m (second_number g)) (first ∙ is.first n k)))
        (found.1 (second_number g) (omega (arith, lt, is.second n k))))
