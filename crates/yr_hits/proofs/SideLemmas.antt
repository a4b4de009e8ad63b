-- What the sides of a split's row are, and where they lead.
use Rattle.std.proofs.Common.{◌≡◌, ℕ, zero, suc, ◌+◌, ◌<◌, ◌≤◌, ◌==◌, ◌&&◌, ◌||◌, ◌⊎◌, inl, inr, ◌↔◌, Bool, true, false, cond, nat_lt, nat_le, IfSome, IfNone, List, [], ◌∷◌, length, take, drop, Option, Some, None, refl, sym, ap, ◌∙◌, subst, arith}
use Rattle.std.specs.Prelude.{slice_index}
use Rattle.std.specs.List.{AllZip}
use Rattle.std.specs.Int.Bits.{xor_zero_r}
use Rattle.std.proofs.Math.Seq.{drop-cons}
use Rattle.std.proofs.lemmas.Bool.Decides.{Decides-eqb}
use Rattle.std.proofs.lemmas.Bool.{ltb-true, leb-true}
use Rattle.yr_base.specs.Bytes.{SameLetter}
use Rattle.yr_rows.specs.Accepts.{ReadsForwards, ReadsBackwards, Does, Run, Accepts, AcceptsBackwards}
use Rattle.yr_rows.specs.declared.moves.MoveRow.{MoveRow}
use Rattle.yr_rows.specs.declared.moves.Move.{Move}
use Rattle.yr_rows.specs.declared.moves.Move.TheVariants.{Accept, Set, Fork, Test}
use Rattle.yr_answer.specs.MatchList.{IsBest}
use Rattle.yr_image.specs.declared.rows.SplitRow.{SplitRow}
use Rattle.yr_image.specs.Image.{Image, in_pool, pool_text, moves_of}
use Rattle.yr_machine.specs.Rows.{is_good_side, is_good_split}
use Rattle.yr_machine.specs.ImageMatches.{Side, Nothing, Literal, Program, side_of, SideSpans, IsReadAs, StandsAt}
use Rattle.yr_hits.specs.Spans.{IsBestOf}

-- ---- tests

pub by_test : (b : Bool) (P : Type 0) → (b ≡ true → P) → (b ≡ false → P) → P
by_test true P when_true when_false = when_true refl
by_test false P when_true when_false = when_false refl

pub and_first : (a b : Bool) → (a && b) ≡ true → a ≡ true
and_first true b h = refl
and_first false b h = h

pub and_second : (a b : Bool) → (a && b) ≡ true → b ≡ true
and_second true b h = h
and_second false b h = cc

-- ---- bytes that stand at a place

module _ (same : ℕ → ℕ → Type 0) (file : List ℕ) where
  -- what stands at a place lies in the file
  pub stands_room : (bytes : List ℕ) (at : ℕ) → at ≤ length file → StandsAt same file at bytes → at + length bytes ≤ length file
  stands_room [] at le h = omega (arith, le)
  stands_room (c ∷ cs) at le h = let rest = stands_room cs (at + 1) (omega (arith, h.0)) h.2 in omega (arith, rest)

  cut : (at : ℕ) (cs : List ℕ) → at < length file → take (suc (length cs)) (drop at file) ≡ slice_index file at ∷ take (length cs) (drop (at + 1) file)
  cut at cs lt =
      let one : suc at ≡ at + 1 = omega arith in
      ap (take (suc (length cs))) (drop-cons file at 0 lt) ∙ ap (λ n. slice_index file at ∷ take (length cs) (drop n file)) one

  pub stands_by_zip : (bytes : List ℕ) (at : ℕ) → at + length bytes ≤ length file → AllZip same (take (length bytes) (drop at file)) bytes → StandsAt same file at bytes
  stands_by_zip [] at le z = tt
  stands_by_zip (c ∷ cs) at le z =
      let lt : at < length file = omega (arith, le) in
      let z' = subst (λ there. AllZip same there (c ∷ cs)) (cut at cs lt) z in
      (lt, z'.0, stands_by_zip cs (at + 1) (omega (arith, le)) z'.1)

  pub zip_by_stands : (bytes : List ℕ) (at : ℕ) → StandsAt same file at bytes → AllZip same (take (length bytes) (drop at file)) bytes
  zip_by_stands [] at h = tt
  zip_by_stands (c ∷ cs) at h = subst (λ there. AllZip same there (c ∷ cs)) (sym (cut at cs h.0)) (h.1, zip_by_stands cs (at + 1) h.2)

pub stands_map : (R S : ℕ → ℕ → Type 0) (file : List ℕ) (bytes : List ℕ) (at : ℕ) → ((x y : ℕ) → R x y → S x y) → StandsAt R file at bytes → StandsAt S file at bytes
stands_map R S file [] at into h = tt
stands_map R S file (c ∷ cs) at into h = (h.0, into (slice_index file at) c h.1, stands_map R S file cs (at + 1) into h.2)

-- without a key, letters are read as they stand
pub folded : (key : ℕ) (fold : Bool) (x y : ℕ) → fold ≡ true → key ≡ 0 → (SameLetter x y) ↔ (IsReadAs key fold x y)
folded key fold x y f k =
    let P : Bool → ℕ → Type 0 = λ b n. (SameLetter x y) ↔ (IsReadAs n b x y) in
    let Q : ℕ → Type 0 = λ z. (SameLetter x y) ↔ (SameLetter z y) in
    let here : (SameLetter x y) ↔ (IsReadAs 0 true x y) = subst Q (sym (xor_zero_r x)) (λ h. h, λ h. h) in
    subst (λ b. P b key) (sym f) (subst (P true) (sym k) here)

pub keyed : (key : ℕ) (fold : Bool) (x y : ℕ) → fold ≡ false → (IsReadAs key false x y) ↔ (IsReadAs key fold x y)
keyed key fold x y f =
    let P : Bool → Type 0 = λ b. (IsReadAs key false x y) ↔ (IsReadAs key b x y) in
    subst P (sym f) (λ h. h, λ h. h)

-- ---- the sides of a row

side_cases : (b1 b2 : Bool) (A B C : Bool) → cond b1 A (cond b2 B C) ≡ true
    → ((b1 ≡ true) × (A ≡ true)) ⊎ (((b1 ≡ false) × (b2 ≡ true) × (B ≡ true)) ⊎ ((b1 ≡ false) × (b2 ≡ false) × (C ≡ true)))
side_cases true b2 A B C h = inl (refl, h)
side_cases false true A B C h = inr (inl (refl, refl, h))
side_cases false false A B C h = inr (inr (refl, refl, h))

-- a side is nothing, a literal in the pool, or a program that is there
abbrev pub IsSide : Image → (side place count : ℕ) → Type 0
IsSide image side place count =
    (side ≡ 0) ⊎ (((side ≡ 1) × (in_pool image place count ≡ true)) ⊎ ((side ≡ 2) × (place < length image.programs)))

pub good_side : (image : Image) (side place count : ℕ) → is_good_side image side place count ≡ true → IsSide image side place count
good_side image side place count h =
    elim (side_cases (side == 0) (side == 1) ((place == 0) && (count == 0)) (in_pool image place count) ((side == 2) && (nat_lt place (length image.programs) && (count == 0))) h) [
      | inl a ↦ inl ((Decides-eqb side 0).0 a.0)
      | inr (inl b) ↦ inr (inl ((Decides-eqb side 1).0 b.1, b.2))
      | inr (inr c) ↦
          let two = (Decides-eqb side 2).0 (and_first (side == 2) (nat_lt place (length image.programs) && (count == 0)) c.2) in
          let rest = and_second (side == 2) (nat_lt place (length image.programs) && (count == 0)) c.2 in
          let there : nat_lt place (length image.programs) ≡ true = and_first (nat_lt place (length image.programs)) (count == 0) rest in
          inr (inr (two, ltb-true place (length image.programs) there))
    ]

-- what a wellformed split's row says of its fields
pub record HasGoodFields (image : Image) (row : SplitRow) : Type 0 where
  pub string : row.string < length image.strings
  pub border : row.border ≤ 2
  pub before : IsSide image row.before_kind row.before_place row.before_length
  pub after : IsSide image row.after_kind row.after_place row.after_length
  pub plain : row.fold ≡ 1 → row.key ≡ 0

plain_from : (fold key : ℕ) → ((fold == 0) || (key == 0)) ≡ true → fold ≡ 1 → key ≡ 0
plain_from fold key h one =
    by_test (fold == 0) (key ≡ 0)
    (λ t. let zero : fold ≡ 0 = (Decides-eqb fold 0).0 t in absurd (omega (arith, zero, one)))
    (λ t. (Decides-eqb key 0).0 (ap (λ b. b || (key == 0)) (sym t) ∙ h))

pub good_fields : (image : Image) (unused : ℕ) (row : SplitRow) → is_good_split image unused row ≡ true → HasGoodFields image row
good_fields image unused row h0 =
    let h1 = and_second (nat_lt row.string (length image.strings)) _ h0 in
    let h2 = and_second (nat_le row.border 2) _ h1 in
    let h3 = and_second (is_good_side image row.before_kind row.before_place row.before_length) _ h2 in
    let h4 = and_second (is_good_side image row.after_kind row.after_place row.after_length) _ h3 in
    let h5 = and_second (nat_le row.fold 1) _ h4 in
    record {
      string = ltb-true row.string (length image.strings) (and_first (nat_lt row.string (length image.strings)) _ h0);
      border = leb-true row.border 2 (and_first (nat_le row.border 2) _ h1);
      before = good_side image row.before_kind row.before_place row.before_length (and_first _ _ h2);
      after = good_side image row.after_kind row.after_place row.after_length (and_first _ _ h3);
      plain = plain_from row.fold row.key (and_first ((row.fold == 0) || (row.key == 0)) _ h5);
    }

module _ (image : Image) (file : List ℕ) (backwards : Bool) (row : SplitRow) where
  -- a side of some kind leads from i to j
  abbrev pub Leads : (side place count i j : ℕ) → Type 0
  Leads side place count i j = (s : Side) × (side_of image side place count ≡ Some s) × SideSpans image file backwards row s i j

  same_side : (o : Option Side) (s t : Side) → o ≡ Some s → o ≡ Some t → s ≡ t
  same_side o s t a b = cc

  -- a side that is known leads where it spans
  pub leads_by : (side place count : ℕ) (s : Side) (i j : ℕ) → side_of image side place count ≡ Some s → Leads side place count i j → SideSpans image file backwards row s i j
  leads_by side place count s i j is h =
      subst (λ t. SideSpans image file backwards row t i j) (same_side (side_of image side place count) h.0 s h.1 is) h.2

  pub nothing_is : (side place count : ℕ) → side ≡ 0 → side_of image side place count ≡ Some Nothing
  nothing_is side place count e = ap (λ k. side_of image k place count) e

  pub literal_is : (side place count : ℕ) → side ≡ 1 → side_of image side place count ≡ Some (Literal (pool_text image place count))
  literal_is side place count e = ap (λ k. side_of image k place count) e

  pub program_is : (side place count : ℕ) → side ≡ 2 → side_of image side place count ≡ Some (Program place)
  program_is side place count e = ap (λ k. side_of image k place count) e

-- ---- programs lead up, or down

module _ (sets : List (List ℕ)) (file : List ℕ) (moves : List MoveRow) where
  does_up : (v : Move) (i m j : ℕ) → Does (ReadsForwards file) sets file v i m j → (i ≤ j) × (i ≤ length file → j ≤ length file)
  does_up Accept i m j h = absurd h
  does_up (Set next set) i m j h = (omega (arith, h.3.0), λ le. omega (arith, h.3.0, h.3.1))
  does_up (Fork next other) i m j h = (omega (arith, h.1), λ le. omega (arith, h.1, le))
  does_up (Test assertion next) i m j h = (omega (arith, h.2), λ le. omega (arith, h.2, le))

  run_up : (k m i m' j : ℕ) → Run (ReadsForwards file) sets file moves k m i m' j → (i ≤ j) × (i ≤ length file → j ≤ length file)
  run_up zero m i m' j h = (omega (arith, h.1), λ le. omega (arith, h.1, le))
  run_up (suc k) m i m' j h =
      let one = does_up h.0 i h.1 h.2 h.4 in
      let rest = run_up k h.1 h.2 m' j h.5 in
      (omega (arith, one.0, rest.0), λ le. rest.1 (one.1 le))

  pub accepts_up : (i j : ℕ) → Accepts moves sets file i j → (i ≤ j) × (i ≤ length file → j ≤ length file)
  accepts_up i j h = run_up h.0 0 i h.1 j h.2

  does_down : (v : Move) (i m j : ℕ) → Does (ReadsBackwards file) sets file v i m j → j ≤ i
  does_down Accept i m j h = absurd h
  does_down (Set next set) i m j h = omega (arith, h.3.0)
  does_down (Fork next other) i m j h = omega (arith, h.1)
  does_down (Test assertion next) i m j h = omega (arith, h.2)

  run_down : (k m i m' j : ℕ) → Run (ReadsBackwards file) sets file moves k m i m' j → j ≤ i
  run_down zero m i m' j h = omega (arith, h.1)
  run_down (suc k) m i m' j h =
      let one = does_down h.0 i h.1 h.2 h.4 in
      let rest = run_down k h.1 h.2 m' j h.5 in
      omega (arith, one, rest)

  pub accepts_down : (i j : ℕ) → AcceptsBackwards moves sets file i j → i ≤ j
  accepts_down i j h = run_down h.0 0 j h.1 i h.2

module _ (image : Image) (file : List ℕ) (row : SplitRow) where
  pub side_up : (s : Side) (i j : ℕ) → i ≤ length file → SideSpans image file false row s i j → (i ≤ j) × (j ≤ length file)
  side_up Nothing i j le h = (omega (arith, h), omega (arith, h, le))
  side_up (Literal bytes) i j le h =
      let room = stands_room (IsReadAs row.key (row.fold == 1)) file bytes i le h.1 in (omega (arith, h.0), omega (arith, h.0, room))
  side_up (Program k) i j le h = let up = accepts_up image.sets file (moves_of image h.0) i j h.2 in (up.0, up.1 le)

  pub side_down : (s : Side) (i j : ℕ) → SideSpans image file true row s i j → i ≤ j
  side_down Nothing i j h = omega (arith, h)
  side_down (Literal bytes) i j h = omega (arith, h.0)
  side_down (Program k) i j h = accepts_down image.sets file (moves_of image h.0) i j h.2

-- ---- the best of places

pub best_of : (greatest : Bool) (P Q : ℕ → Type 0) (found : Option ℕ) → ((j : ℕ) → P j → Q j) → ((j : ℕ) → Q j → P j)
    → IfSome found (IsBest greatest P) → IfNone found ((j : ℕ) → P j → ⊥) → IsBestOf greatest Q found
best_of greatest P Q None into back some none = λ j q. none j (back j q)
best_of greatest P Q (Some j) into back some none = (into j some.0, λ o q. some.1 o (back o q))

pub best_as : (greatest : Bool) (P Q : ℕ → Type 0) (found : Option ℕ) → ((j : ℕ) → P j → Q j) → ((j : ℕ) → Q j → P j)
    → IsBestOf greatest P found → IsBestOf greatest Q found
best_as greatest P Q None into back none = λ j q. none j (back j q)
best_as greatest P Q (Some j) into back some = (into j some.0, λ o q. some.1 o (back o q))
