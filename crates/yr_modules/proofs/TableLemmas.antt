-- The table of ids has the kinds that the modules' fields and calls have.
use Rattle.std.proofs.Common.{◌≡◌, ◌+◌, ◌<◌, ◌≤◌, ◌==◌, ◌&&◌, ◌⊎◌, ℕ, zero, suc, Bool, true, false, Option, None, Some, refl, sym, ap, subst, ◌∙◌, true≢false, nat_le, arith, inl, inr}
use Rattle.std.specs.Option.{option_map}
use Rattle.std.proofs.Math.Nat.{eq-or-lt_of_le}
use Rattle.std.proofs.lemmas.Bool.{ne_eqb}
use Rattle.yr_base.specs.declared.value.Kind.{Kind}
use Rattle.yr_base.specs.declared.value.Kind.TheVariants as kind
use Rattle.yr_image.specs.ModuleTable.{is_from, field_row_of, call_row_of}
use Rattle.yr_modules.specs.Elf.Fields as elf
use Rattle.yr_modules.specs.Hash.Digests as hash
use Rattle.yr_modules.specs.Pe.Fields as pe

-- kinds are equal where a test says so
abbrev same : Kind → Kind → Bool
same kind.Number kind.Number = true
same kind.Flag kind.Flag = true
same kind.Text kind.Text = true
same k l = false

abbrev same_kinds : Option Kind → Option Kind → Bool
same_kinds None None = true
same_kinds (Some k) (Some l) = same k l
same_kinds k l = false

same-equal : (k l : Kind) → same k l ≡ true → k ≡ l
same-equal kind.Number kind.Number e = refl
same-equal kind.Flag kind.Flag e = refl
same-equal kind.Text kind.Text e = refl
same-equal kind.Number kind.Flag e = absurd (true≢false (sym e))
same-equal kind.Number kind.Text e = absurd (true≢false (sym e))
same-equal kind.Flag kind.Number e = absurd (true≢false (sym e))
same-equal kind.Flag kind.Text e = absurd (true≢false (sym e))
same-equal kind.Text kind.Number e = absurd (true≢false (sym e))
same-equal kind.Text kind.Flag e = absurd (true≢false (sym e))

same_kinds-equal : (k l : Option Kind) → same_kinds k l ≡ true → k ≡ l
same_kinds-equal None None e = refl
same_kinds-equal None (Some l) e = absurd (true≢false (sym e))
same_kinds-equal (Some k) None e = absurd (true≢false (sym e))
same_kinds-equal (Some k) (Some l) e = ap (λ x. Some x) (same-equal k l e)

-- a test that holds for each number below n
all_below : (ℕ → Bool) → ℕ → Bool
all_below test zero = true
all_below test (suc n) = test n && all_below test n

and_left : (a b : Bool) → (a && b) ≡ true → a ≡ true
and_left true b e = refl
and_left false b e = absurd (true≢false (sym e))

and_right : (a b : Bool) → (a && b) ≡ true → b ≡ true
and_right true b e = e
and_right false b e = absurd (true≢false (sym e))

one_below : (test : ℕ → Bool) (n k : ℕ) → k < n → all_below test n ≡ true → test k ≡ true
unfolding all_below
one_below test zero k lt e = absurd (omega arith)
one_below test (suc n) k lt e =
    let low : k ≤ n = omega arith in
    elim (eq-or-lt_of_le low) [
      | inl here ↦ subst (λ m. test m ≡ true) (sym here) (and_left (test n) (all_below test n) e)
      | inr less ↦ one_below test n k less (and_right (test n) (all_below test n) e)
    ]

-- a number is at most a bound, or above it
below_or : (k n : ℕ) → (k ≤ n) ⊎ (n < k)
below_or zero n = inl (omega arith)
below_or (suc k) n =
    elim (below_or k n) [
      | inl low ↦ elim (eq-or-lt_of_le low) [
        | inl here ↦ inr (omega (arith, here))
        | inr less ↦ inl (omega (arith, less))
      ]
      | inr high ↦ inr (omega (arith, high))
    ]

other : (c id : ℕ) → c < id → (id == c) ≡ false
other c id lt = ne_eqb id c (λ e. omega (arith, e, lt))

outside : (first last id : ℕ) → last < id → is_from first last id ≡ false
outside first last id lt = grind arith

-- the fields: those of PE files are found before those of ELF files
abbrev fields_kind : ℕ → Option Kind
fields_kind id = pe.kind_or (pe.field_with id) (elf.elf_kind id)

abbrev listed_kind : ℕ → Option Kind
listed_kind id = option_map (λ row. row.1) (field_row_of id)

fields_low : all_below (λ id. same_kinds (listed_kind id) (fields_kind id)) 102 ≡ true
unfolding all_below
fields_low = refl

listed_high : (id : ℕ) → 101 < id → field_row_of id ≡ None
listed_high id above =
    rw (
      outside 1 5 id (omega (arith, above)),
      other 16 id (omega (arith, above)),
      outside 17 21 id (omega (arith, above)),
      outside 32 39 id (omega (arith, above)),
      outside 80 84 id (omega (arith, above)),
      other 96 id (omega (arith, above)),
      outside 97 101 id (omega (arith, above)),
    ) refl

elf_high : (id : ℕ) → 101 < id → elf.field_with id ≡ None
elf_high id above = rw (other 1 id (omega (arith, above)), other 2 id (omega (arith, above)), other 3 id (omega (arith, above)), other 4 id (omega (arith, above)), other 5 id (omega (arith, above)), other 16 id (omega (arith, above)), other 17 id (omega (arith, above)), other 18 id (omega (arith, above)), other 19 id (omega (arith, above)), other 20 id (omega (arith, above)), other 21 id (omega (arith, above)), other 32 id (omega (arith, above)), other 33 id (omega (arith, above)), other 34 id (omega (arith, above)), other 35 id (omega (arith, above)), other 36 id (omega (arith, above)), other 37 id (omega (arith, above)), other 38 id (omega (arith, above)), other 39 id (omega (arith, above))) refl

pe_high : (id : ℕ) → 101 < id → pe.field_with id ≡ None
pe_high id above = rw (other 80 id (omega (arith, above)), other 81 id (omega (arith, above)), other 82 id (omega (arith, above)), other 83 id (omega (arith, above)), other 84 id (omega (arith, above)), other 96 id (omega (arith, above)), other 97 id (omega (arith, above)), other 98 id (omega (arith, above)), other 99 id (omega (arith, above)), other 100 id (omega (arith, above)), other 101 id (omega (arith, above))) refl

pub field_kinds : (id : ℕ) → listed_kind id ≡ fields_kind id
field_kinds id =
    elim (below_or id 101) [
      | inl low ↦ same_kinds-equal (listed_kind id) (fields_kind id) (one_below (λ k. same_kinds (listed_kind k) (fields_kind k)) 102 id (omega (arith, low)) fields_low)
      | inr high ↦ ap (option_map (λ row. row.1)) (listed_high id high)
          ∙ sym (ap (λ f. pe.kind_or f (elf.elf_kind id)) (pe_high id high) ∙ ap (option_map elf.kind_in) (elf_high id high))
    ]

-- the calls
abbrev calls_kind : ℕ → Option Kind
calls_kind id = hash.kind_or (hash.digest_with id) None

calls_low : all_below (λ id. same_kinds (call_row_of id) (calls_kind id)) 102 ≡ true
unfolding all_below
calls_low = refl

calls_high : (id : ℕ) → 101 < id → call_row_of id ≡ None
calls_high id above = rw (outside 64 66 id (omega (arith, above))) refl

hash_high : (id : ℕ) → 101 < id → hash.digest_with id ≡ None
hash_high id above = rw (other 64 id (omega (arith, above)), other 65 id (omega (arith, above)), other 66 id (omega (arith, above))) refl

pub call_kinds : (id : ℕ) → call_row_of id ≡ calls_kind id
call_kinds id =
    elim (below_or id 101) [
      | inl low ↦ same_kinds-equal (call_row_of id) (calls_kind id) (one_below (λ k. same_kinds (call_row_of k) (calls_kind k)) 102 id (omega (arith, low)) calls_low)
      | inr high ↦ calls_high id high ∙ sym (ap (λ d. hash.kind_or d None) (hash_high id high))
    ]
