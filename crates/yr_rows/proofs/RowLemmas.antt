-- Rows read from bytes: how many there are, row m, one more row.
use Rattle.std.proofs.Common.{◌≡◌, ℕ, zero, suc, ◌+◌, ◌-◌, ◌*◌, ◌/◌, ◌<◌, ◌≤◌, List, [], ◌∷◌, ◌++◌, length, take, drop, Some, refl, sym, ap, ◌∙◌, arith}
use Rattle.std.specs.Prelude.{slice_get, slice_index}
use Rattle.std.proofs.lemmas.List.{drop-drop, get_or-drop, get_or-take, get_or_append_left, length-drop, length-take-le, drop-append-le, take-append-le, take-append-drop, nil_from_length}
use Rattle.std.proofs.Math.Nat.{mul-le-mul_left}
use Rattle.yr_rows.specs.Rows.{number_at, first_rows, rows_in}
use Rattle.yr_rows.specs.Moves.{move_row, moves_in, sets_in, program_moves}

-- a number in what is left of the bytes
pub number_at-drop : (n : ℕ) (bytes : List ℕ) (i : ℕ) → number_at (drop n bytes) i ≡ number_at bytes (n + i)
number_at-drop n bytes i =
    let at : (k : ℕ) → slice_index (drop n bytes) (i + k) ≡ slice_index bytes (n + i + k) =
    λ k. let same : n + (i + k) ≡ n + i + k = omega arith in get_or-drop n bytes (i + k) 0 ∙ ap (slice_index bytes) same in
    omega (arith, get_or-drop n bytes i 0, at 1, at 2, at 3)

-- a number that lies in a front of the bytes
pub number_at-append : (xs ys : List ℕ) (i : ℕ) → i + 4 ≤ length xs → number_at (xs ++ ys) i ≡ number_at xs i
number_at-append xs ys i le =
    let at : (k : ℕ) → k < length xs → slice_index (xs ++ ys) k ≡ slice_index xs k = λ k lt. get_or_append_left xs ys 0 k lt in
    omega (arith, at i (omega (arith, le)), at (i + 1) (omega (arith, le)), at (i + 2) (omega (arith, le)), at (i + 3) (omega (arith, le)))

module _ {A : Type 0} (width : ℕ) (row : List ℕ → A) where
  pub length-first_rows : (n : ℕ) (bytes : List ℕ) → length (first_rows width row n bytes) ≡ n
  length-first_rows zero bytes = refl
  length-first_rows (suc n) bytes = ap suc (length-first_rows n (drop width bytes))

  pub first_rows-get : (n m : ℕ) (bytes : List ℕ) → m < n → slice_get (first_rows width row n bytes) m ≡ Some (row (drop (width * m) bytes))
  first_rows-get zero m bytes lt = absurd (omega arith)
  first_rows-get (suc n) zero bytes lt = let none : 0 ≡ width * 0 = omega arith in ap (λ k. Some (row (drop k bytes))) none
  first_rows-get (suc n) (suc m) bytes lt =
      let more : width + width * m ≡ width * suc m = omega arith in
      first_rows-get n m (drop width bytes) (omega (arith, lt)) ∙ ap (λ l. Some (row l)) (drop-drop (width * m) width bytes ∙ ap (λ k. drop k bytes) more)

  -- as many rows as the bytes have widths
  pub length-rows_in : (bytes : List ℕ) → length (rows_in width row bytes) ≡ length bytes / width
  length-rows_in bytes = length-first_rows (length bytes / width) bytes

  -- row m begins at m widths
  pub rows_in-get : (bytes : List ℕ) (m : ℕ) → m < length bytes / width → slice_get (rows_in width row bytes) m ≡ Some (row (drop (width * m) bytes))
  rows_in-get bytes m lt = first_rows-get (length bytes / width) m bytes lt

  pub first_rows-drop : (n f : ℕ) (bytes : List ℕ) → drop f (first_rows width row (f + n) bytes) ≡ first_rows width row n (drop (width * f) bytes)
  first_rows-drop n zero bytes =
      let none : 0 ≡ width * 0 = omega arith in
      let all : 0 + n ≡ n = omega arith in
      ap (λ k. first_rows width row k bytes) all ∙ ap (λ k. first_rows width row n (drop k bytes)) none
  first_rows-drop n (suc f) bytes =
      let more : width + width * f ≡ width * suc f = omega arith in
      let one : suc f + n ≡ suc (f + n) = omega arith in
      ap (λ k. drop (suc f) (first_rows width row k bytes)) one ∙ first_rows-drop n f (drop width bytes)
      ∙ ap (first_rows width row n) (drop-drop (width * f) width bytes ∙ ap (λ k. drop k bytes) more)

  pub first_rows-take : (c n : ℕ) (bytes : List ℕ) → c ≤ n → take c (first_rows width row n bytes) ≡ first_rows width row c bytes
  first_rows-take zero n bytes le = refl
  first_rows-take (suc c) zero bytes le = absurd (omega (arith, le))
  first_rows-take (suc c) (suc n) bytes le = ap (λ l. row bytes ∷ l) (first_rows-take c n (drop width bytes) (omega (arith, le)))

  -- one more row at the end; `row` reads no more than one width
  module _ (local : (xs ys : List ℕ) → width ≤ length xs → row (xs ++ ys) ≡ row xs) where
    first_rows-push : (n : ℕ) (bytes new : List ℕ) → length bytes ≡ width * n → length new ≡ width →
        first_rows width row (suc n) (bytes ++ new) ≡ first_rows width row n bytes ++ row new ∷ []
    first_rows-push zero bytes new whole one =
        let none : bytes ≡ [] = nil_from_length bytes (omega (arith, whole)) in ap (λ l. row (l ++ new) ∷ []) none
    first_rows-push (suc n) bytes new whole one =
        let fits : width ≤ length bytes = omega (arith, whole) in
        let rest : length (drop width bytes) ≡ width * n = omega (arith, whole, length-drop width bytes) in
        ap (λ r. r ∷ first_rows width row (suc n) (drop width (bytes ++ new))) (local bytes new fits)
        ∙ ap (λ l. row bytes ∷ first_rows width row (suc n) l) (drop-append-le width bytes new fits)
        ∙ ap (λ l. row bytes ∷ l) (first_rows-push n (drop width bytes) new rest one)

    pub rows_in-push : (n : ℕ) (bytes new : List ℕ) → length bytes / width ≡ n → length (bytes ++ new) / width ≡ suc n → length bytes ≡ width * n → length new ≡ width →
        rows_in width row (bytes ++ new) ≡ rows_in width row bytes ++ row new ∷ []
    rows_in-push n bytes new before after whole one =
        ap (λ k. first_rows width row k (bytes ++ new)) after ∙ first_rows-push n bytes new whole one ∙ ap (λ k. first_rows width row k bytes ++ row new ∷ []) (sym before)

    -- rows that lie in a front of the bytes
    first_rows-front : (c : ℕ) (xs ys : List ℕ) → width * c ≤ length xs → first_rows width row c (xs ++ ys) ≡ first_rows width row c xs
    first_rows-front zero xs ys le = refl
    first_rows-front (suc c) xs ys le =
        let fits : width ≤ length xs = omega (arith, le) in
        let rest : width * c ≤ length (drop width xs) = omega (arith, le, length-drop width xs) in
        ap (λ r. r ∷ first_rows width row c (drop width (xs ++ ys))) (local xs ys fits)
        ∙ ap (λ l. row xs ∷ first_rows width row c l) (drop-append-le width xs ys fits)
        ∙ ap (λ l. row xs ∷ l) (first_rows-front c (drop width xs) ys rest)

    -- a range of the rows
    pub rows_in-range : (n first count : ℕ) (bytes : List ℕ) → first + count ≤ n → width * n ≤ length bytes → width * count / width ≡ count →
        rows_in width row (take (width * count) (drop (width * first) bytes)) ≡ take count (drop first (first_rows width row n bytes))
    rows_in-range n first count bytes fits long whole =
        let left : first + (n - first) ≡ n = omega (arith, fits) in
        let rest = drop (width * first) bytes in
        let back : take (width * count) rest ++ drop (width * count) rest ≡ rest = take-append-drop (width * count) rest in
        let product = mul-le-mul_left width fits in
        let enough : width * count ≤ length rest = omega (arith, product, long, length-drop (width * first) bytes) in
        let size = length-take-le (width * count) rest enough in
        ap (λ k. first_rows width row k (take (width * count) rest)) (ap (λ k. k / width) size ∙ whole)
        ∙ sym (first_rows-front count (take (width * count) rest) (drop (width * count) rest) (omega (arith, size)))
        ∙ ap (first_rows width row count) back
        ∙ sym (first_rows-take count (n - first) rest (omega (arith, fits)))
        ∙ ap (take count) (sym (first_rows-drop (n - first) first bytes))
        ∙ ap (λ k. take count (drop first (first_rows width row k bytes))) left

-- a row of moves lies in the bytes
pub move_inside : (bytes : List ℕ) (m : ℕ) → m < length (moves_in bytes) → m * 16 + 16 ≤ length bytes
move_inside bytes m lt = let rows = length-rows_in 16 move_row bytes in omega (arith, lt, rows)

pub move_read : (bytes : List ℕ) (m : ℕ) → m < length (moves_in bytes) →
    slice_get (moves_in bytes) m
    ≡ Some (record { kind = number_at bytes (m * 16); next = number_at bytes (m * 16 + 4); other = number_at bytes (m * 16 + 8); set = number_at bytes (m * 16 + 12) })
move_read bytes m lt =
    let rows = length-rows_in 16 move_row bytes in
    let at : (k : ℕ) → number_at (drop (16 * m) bytes) k ≡ number_at bytes (m * 16 + k) =
    λ k. let same : 16 * m + k ≡ m * 16 + k = omega arith in number_at-drop (16 * m) bytes k ∙ ap (number_at bytes) same in
    let here : number_at (drop (16 * m) bytes) 0 ≡ number_at bytes (m * 16) = at 0 ∙ ap (number_at bytes) (omega arith) in
    let row : move_row (drop (16 * m) bytes) ≡ record { kind = number_at bytes (m * 16); next = number_at bytes (m * 16 + 4); other = number_at bytes (m * 16 + 8); set = number_at bytes (m * 16 + 12) } =
    cc (here, at 4, at 8, at 12) in
    rows_in-get 16 move_row bytes m (omega (arith, lt, rows)) ∙ ap Some row

-- a set lies in the bytes
pub set_inside : (bytes : List ℕ) (k : ℕ) → k < length (sets_in bytes) → k * 32 + 32 ≤ length bytes
set_inside bytes k lt = let rows = length-rows_in 32 (take 32) bytes in omega (arith, lt, rows)

-- a byte of a set
pub set_byte : (bytes : List ℕ) (k : ℕ) (bits : List ℕ) (q : ℕ) → k < length (sets_in bytes) → slice_get (sets_in bytes) k ≡ Some bits → q < 32 → slice_index bits q ≡ slice_index bytes (k * 32 + q)
set_byte bytes k bits q lt at few =
    let rows = length-rows_in 32 (take 32) bytes in
    let here : slice_get (sets_in bytes) k ≡ Some (take 32 (drop (32 * k) bytes)) = rows_in-get 32 (take 32) bytes k (omega (arith, lt, rows)) in
    let is : bits ≡ take 32 (drop (32 * k) bytes) = cc (at, here) in
    let same : 32 * k + q ≡ k * 32 + q = omega arith in
    ap (λ l. slice_index l q) is ∙ get_or-take 32 (drop (32 * k) bytes) q 0 few ∙ get_or-drop (32 * k) bytes q 0 ∙ ap (slice_index bytes) same

-- a row of moves reads 16 bytes
pub move_row-local : (xs ys : List ℕ) → 16 ≤ length xs → move_row (xs ++ ys) ≡ move_row xs
move_row-local xs ys long =
    let at : (k : ℕ) → k + 4 ≤ 16 → number_at (xs ++ ys) k ≡ number_at xs k = λ k le. number_at-append xs ys k (omega (arith, le, long)) in
    cc (at 0 (omega arith), at 4 (omega arith), at 8 (omega arith), at 12 (omega arith))

-- a set reads 32 bytes
pub set_row-local : (xs ys : List ℕ) → 32 ≤ length xs → take 32 (xs ++ ys) ≡ take 32 xs
set_row-local xs ys long = take-append-le 32 xs ys long

-- the moves of a range of the rows are the rows of a range of the bytes
pub moves_in-range : (bytes : List ℕ) (first count : ℕ) → first + count ≤ length (moves_in bytes) →
    moves_in (take (16 * count) (drop (16 * first) bytes)) ≡ program_moves first count (moves_in bytes)
moves_in-range bytes first count fits =
    let rows = length-rows_in 16 move_row bytes in
    rows_in-range 16 move_row move_row-local (length bytes / 16) first count bytes (omega (arith, fits, rows)) (omega arith) (omega arith)
