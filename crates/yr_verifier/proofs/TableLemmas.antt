-- Searches in the table.
use Rattle.std.proofs.Common.{◌≡◌, ◌≢◌, ℕ, ◌+◌, ◌-◌, ◌<◌, ◌≤◌, ⊎_elim, List, length, sym, ap, ◌∙◌, subst, arith, length-set, get_or-set_other, get_or-set_same}
use Rattle.std.specs.Prelude.{slice_index}
use Rattle.std.proofs.Math.ListN.{set}
use Rattle.std.proofs.lemmas.Bool.{cases_order}
use Rattle.yr_image.specs.Image.{Image}
use Rattle.yr_verifier.specs.Names.{name_at}
use Rattle.yr_verifier.specs.Hashes.{slot_of}
use Rattle.yr_verifier.specs.Tables.{AreFree, Stands, Keeps, Passes}
use Rattle.yr_verifier.specs.Windows.{IsOther, Repeats}

module _ (image : Image) (key : ℕ) where
  -- an empty table keeps an empty range
  pub keeps_none : (table : List ℕ) (from : ℕ) → AreFree table → Keeps image key table from from
  keeps_none table from free = record {
    all = λ j low high. absurd (omega (arith, low, high));
    others = λ v some. absurd (some (free v));
  }

  pub keeps_low : (table : List ℕ) (from to all : ℕ) → Keeps image key table from to → to ≤ all → (v : ℕ) → slice_index table v ≤ all
  keeps_low table from to all keeps le v =
      ⊎_elim (λ none. omega (arith, none)) (⊎_elim (λ lt. absurd (omega (arith, lt)))
      (λ some. omega (arith, (keeps.others v (λ e. omega (arith, e, some))).1, le))) (cases_order (slice_index table v) 0)

  -- a name that the search meets is one of the range
  pub present : (table : List ℕ) (from to k v : ℕ) → Keeps image key table from to → to ≤ k → slice_index table v ≢ 0
      → name_at image (slice_index table v - 1) ≡ name_at image k → Repeats image from k
  present table from to k v keeps le some same =
      let among = keeps.others v some in
      (slice_index table v - 1, omega (arith, among.0), omega (arith, among.0, among.1, le), same)

  module _ (table : List ℕ) (from to k : ℕ) (keeps : Keeps image key table from to) where
    slot : (j : ℕ) → name_at image j ≡ name_at image k → slot_of key (name_at image j) ≡ slot_of key (name_at image k)
    slot j same = ap (slot_of key) same

    met : (j at stop : ℕ) → Passes image table (name_at image k) (slot_of key (name_at image k)) stop → name_at image j ≡ name_at image k
        → slot_of key (name_at image j) ≤ at → slice_index table at ≡ j + 1 → at < stop → ⊥
    met j at stop passes same after here lt =
        let back : slice_index table at - 1 ≡ j = omega (arith, here) in
        (passes at (omega (arith, after, slot j same)) lt).1 (ap (name_at image) back ∙ same)

    -- a name that the search does not meet before a free place is none of the range
    pub absent : (stop : ℕ) → slot_of key (name_at image k) ≤ stop → slice_index table stop ≡ 0
        → Passes image table (name_at image k) (slot_of key (name_at image k)) stop → IsOther image from to k
    absent stop low free passes j first last same =
        let s = keeps.all j first last in
        ⊎_elim (λ e. let h : slice_index table stop ≡ j + 1 = ap (slice_index table) (sym e) ∙ s.here in omega (arith, h, free))
        (⊎_elim (λ lt. met j s.at stop passes same s.after s.here lt) (λ gt. s.before stop (omega (arith, low, slot j same)) gt free))
        (cases_order s.at stop)

    -- nor is one that it does not meet at all
    pub absent_all : Passes image table (name_at image k) (slot_of key (name_at image k)) (length table) → IsOther image from to k
    absent_all passes j first last same = let s = keeps.all j first last in met j s.at (length table) passes same s.after s.here s.inside

  -- one more is put at the free place
  pub inserted : (table : List ℕ) (from k at : ℕ) → from ≤ k → Keeps image key table from k → slot_of key (name_at image k) ≤ at → at < length table → slice_index table at ≡ 0
      → Passes image table (name_at image k) (slot_of key (name_at image k)) at → Keeps image key (set table at (k + 1)) from (k + 1)
  inserted table from k at low keeps after inside free passes = record { all = all; others = others }
    where
      new : List ℕ
      new = set table at (k + 1)

      long : length (set table at (k + 1)) ≡ length table
      long = length-set table at (k + 1)

      put : slice_index (set table at (k + 1)) at ≡ k + 1
      put = get_or-set_same table at (k + 1) 0 inside

      kept : (v : ℕ) → v ≢ at → slice_index (set table at (k + 1)) v ≡ slice_index table v
      kept v ne = get_or-set_other table at v (k + 1) 0 ne

      some : (v : ℕ) → slice_index table v ≢ 0 → slice_index (set table at (k + 1)) v ≢ 0
      some v taken = kept_some (λ e. taken (ap (slice_index table) e ∙ free))
        where
          kept_some : v ≢ at → slice_index (set table at (k + 1)) v ≢ 0
          kept_some ne e = taken (sym (kept v ne) ∙ e)

      old : (j : ℕ) → Stands image key table j → Stands image key (set table at (k + 1)) j
      old j s =
          let ne : s.at ≢ at = λ e. (let h : slice_index table at ≡ j + 1 = ap (slice_index table) (sym e) ∙ s.here in omega (arith, h, free)) in
          record { at = s.at; after = s.after; inside = omega (arith, s.inside, long); here = kept s.at ne ∙ s.here; before = λ v a b. some v (s.before v a b) }

      all : (j : ℕ) → from ≤ j → j < k + 1 → Stands image key (set table at (k + 1)) j
      all j first last =
          ⊎_elim (λ e. subst (λ n. Stands image key (set table at (k + 1)) n) (sym e)
          (record { at = at; after = after; inside = omega (arith, inside, long); here = put; before = λ v a b. some v (passes v a b).0 }))
          (⊎_elim (λ lt. old j (keeps.all j first lt)) (λ gt. absurd (omega (arith, gt, last)))) (cases_order j k)

      others : (v : ℕ) → slice_index (set table at (k + 1)) v ≢ 0 → (from < slice_index (set table at (k + 1)) v) × (slice_index (set table at (k + 1)) v ≤ k + 1)
      others v taken =
          ⊎_elim (λ e. let h : slice_index (set table at (k + 1)) v ≡ k + 1 = ap (slice_index (set table at (k + 1))) e ∙ put in (omega (arith, h, low), omega (arith, h)))
          (λ o. let same = kept v (λ e. ⊎_elim (λ lt. omega (arith, lt, e)) (λ gt. omega (arith, gt, e)) o) in
          let among = keeps.others v (λ e. taken (same ∙ e)) in (omega (arith, same, among.0), omega (arith, same, among.1)))
          (cases_order v at)
