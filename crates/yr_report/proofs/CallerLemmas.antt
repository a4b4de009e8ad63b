-- What callers need: how many rules and strings a wellformed image has, and lists of matches that are made by hand.
use Rattle.std.proofs.Common.{◌≡◌, ℕ, ◌+◌, ◌*◌, ◌/◌, ◌<◌, ◌≤◌, ◌^◌, ◌==◌, Bool, true, false, if◌then◌else◌, List, [], ◌∷◌, ◌++◌, length, drop, arith, length-append}
use Rattle.std.specs.Prelude.{slice_index}
use Rattle.std.proofs.lemmas.List.{length-drop, length-take-le}
use Rattle.yr_rows.proofs.RowLemmas.{length-rows_in}
use Rattle.yr_answer.specs.MatchList.{Match, RisesFrom}
use Rattle.yr_image.specs.Reading.{image_in, rule_row, string_row}
use Rattle.yr_image.specs.Sections.{HasSections, widths, rule_width, version_in, rows_of, size_of, place_of, bytes_of}
use Rattle.yr_answer.specs.Found.{IsReadable}
use Rattle.yr_report.specs.Made.{AreBelow}

section_bytes : (bytes : List ℕ) (k : ℕ) → HasSections bytes → k < 14 → length (bytes_of bytes k) ≡ rows_of bytes k * slice_index (widths (version_in bytes)) k
section_bytes bytes k has inside =
    let fits = (has.sections k inside).inside in
    let left = length-drop (place_of bytes k) bytes in
    length-take-le (size_of bytes k) (drop (place_of bytes k) bytes) (omega (arith, fits, left))

-- rows of either width
by_width : (b : Bool) (rows count size : ℕ) → size ≡ rows * (if b then 32 else 40) → count ≡ size / (if b then 32 else 40) → count ≡ rows
by_width true rows count size bytes divided = omega (arith, bytes, divided)
by_width false rows count size bytes divided = omega (arith, bytes, divided)

pub rule_count : (bytes : List ℕ) → HasSections bytes → length (image_in bytes).rules ≡ rows_of bytes 0
rule_count bytes has =
    by_width (version_in bytes == 1) (rows_of bytes 0) (length (image_in bytes).rules) (length (bytes_of bytes 0))
    (section_bytes bytes 0 has (omega arith))
    (length-rows_in (rule_width (version_in bytes)) (rule_row (version_in bytes)) (bytes_of bytes 0))

pub string_count : (bytes : List ℕ) → HasSections bytes → length (image_in bytes).strings ≡ rows_of bytes 3
string_count bytes has =
    let size = section_bytes bytes 3 has (omega arith) in
    omega (arith, size, length-rows_in 16 string_row (bytes_of bytes 3))

-- a list whose offsets rise, and one match more
rises-more : (least most : ℕ) (list : List Match) (m : Match) → least ≤ most → most ≤ m.0 → RisesFrom least list → AreBelow most list → RisesFrom least (list ++ m ∷ [])
rises-more least most [] m a b r below = (omega (arith, a, b), tt)
rises-more least most (x ∷ list) m a b r below = (r.0, rises-more (x.0 + 1) most list m (omega (arith, below.0)) b r.1 below.1)

below-more : (most later : ℕ) (list : List Match) (m : Match) → most ≤ m.0 → m.0 < later → AreBelow most list → AreBelow later (list ++ m ∷ [])
below-more most later [] m a b below = (b, tt)
below-more most later (x ∷ list) m a b below = (omega (arith, below.0, a, b), below-more most later list m a b below.1)

pub readable-more : (most : ℕ) (list : List Match) (m : Match) → most ≤ m.0 → length list < 2 ^ 28 → IsReadable list → AreBelow most list
    → IsReadable (list ++ m ∷ []) × AreBelow (m.0 + 1) (list ++ m ∷ [])
readable-more most list m a short readable below = (
  (
    rises-more 0 most list m (omega arith) a readable.0 below,
    omega (arith, length-append list (m ∷ []), short),
  ),
  below-more most (m.0 + 1) list m a (omega arith) below,
)
