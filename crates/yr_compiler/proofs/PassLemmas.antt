-- Rows that say rules, notes and externals pass the checks of an image.
use Rattle.std.proofs.Common.{◌≡◌, ℕ, zero, suc, ◌+◌, ◌-◌, ◌*◌, ◌<◌, ◌≤◌, ◌==◌, nat_le, nat_lt, ◌&&◌, ◌||◌, ⊎_elim, Bool, true, false, if◌then◌else◌, List, [], ◌∷◌, length, map, take, drop, Option, Some, None, slice_get, refl, sym, ap, ap₂, ◌∙◌, subst, true≢false, arith}
use Rattle.std.specs.Option.{option_map_or}
use Rattle.std.proofs.lemmas.Bool.{le-leb, cases_lt}
use Rattle.std.proofs.lemmas.Bool.Decides.{Decides-eqb, Decides-ltb}
use Rattle.std.proofs.Math.Seq.{take-length}
use Rattle.std.proofs.lemmas.Option.{none-some, same_Some, slice_get_within, slice_get_cases}
use Rattle.yr_values.specs.Values.{Value, Undefined, Number, Flag, Text}
use Rattle.yr_rules.specs.Rules.{PlainExternal, PlainRule, PlainRules}
use Rattle.yr_rules.specs.Weight.{total}
use Rattle.yr_rules.specs.Wellformed.{IsWellformed}
use Rattle.yr_image.specs.declared.rows.NoteRow.{NoteRow}
use Rattle.yr_image.specs.declared.rows.RuleRow.{RuleRow}
use Rattle.yr_image.specs.Image.{Image, in_pool}
use Rattle.yr_machine.specs.Rows.{end_before, notes_end, strings_end, code_end, ends_sections, is_good_rule, is_good_without_rules, is_good_note, is_good_value, is_good_external, row_passes}
use Rattle.yr_compiler.specs.declared.code_range.CodeRange.{CodeRange}
use Rattle.yr_compiler.specs.Notes.{Note, Tag, Entry, IsText, SaysValue, SaysNote, SayNotes, external_note, notes_of, flag_of}
use Rattle.yr_compiler.specs.Rules.{notes_in, SaysRule, SayRules}
use Rattle.yr_compiler.specs.Codes.{range_end, FollowCodes}

pub both : (a b : Bool) → a ≡ true → b ≡ true → (a && b) ≡ true
both a b e f = ap₂ (λ x y. x && y) e f

either_left : (a b : Bool) → a ≡ true → (a || b) ≡ true
either_left a b e = ap (λ x. x || b) e

pub either_right : (a b : Bool) → b ≡ true → (a || b) ≡ true
either_right true b e = refl
either_right false b e = e

flags_low : (a b : Bool) → nat_le (flag_of a + 2 * flag_of b) 3 ≡ true
flags_low true true = refl
flags_low true false = refl
flags_low false true = refl
flags_low false false = refl

flag_low : (b : Bool) → nat_le (flag_of b) 1 ≡ true
flag_low true = refl
flag_low false = refl

taken_at : {X : Type 0} (xs : List X) (count k : ℕ) (x : X) → k < count → slice_get xs k ≡ Some x → slice_get (take count xs) k ≡ Some x
taken_at [] count k x b h = absurd (none-some x h)
taken_at (y ∷ xs) zero k x b h = absurd (omega (arith, b))
taken_at (y ∷ xs) (suc count) zero x b h = h
taken_at (y ∷ xs) (suc count) (suc k) x b h = taken_at xs count k x (omega (arith, b)) h

dropped_at : {X : Type 0} (xs : List X) (first k : ℕ) → slice_get (drop first xs) k ≡ slice_get xs (first + k)
dropped_at xs zero k = ap (λ n. slice_get xs n) (omega arith)
dropped_at [] (suc first) k = refl
dropped_at (y ∷ xs) (suc first) k =
    let e : suc first + k ≡ suc (first + k) = omega arith in dropped_at xs first k ∙ sym (ap (λ n. slice_get (y ∷ xs) n) e)

part_at : {X : Type 0} (xs : List X) (first count k : ℕ) (x : X) → k < count → slice_get xs (first + k) ≡ Some x → slice_get (take count (drop first xs)) k ≡ Some x
part_at xs first count k x b h = taken_at (drop first xs) count k x b (dropped_at xs first k ∙ h)

pub there_too : {X Y : Type 0} (xs : List X) (ys : List Y) (k : ℕ) (x : X) → length xs ≤ length ys → slice_get xs k ≡ Some x → (y : Y) × (slice_get ys k ≡ Some y)
there_too xs ys k x e h =
    let b : k < length xs = slice_get_within xs k x h in
    ⊎_elim (λ g. (g.0, g.2)) (λ g. absurd (omega (arith, e, b, g.0))) (slice_get_cases ys k).1

-- ---- notes

abbrev is_entry : Note → Bool
is_entry (Tag n) = false
is_entry (Entry n v) = true

no_tag : (name : List ℕ) (es : List PlainExternal) (n : ℕ) → slice_get (map external_note es) n ≡ Some (Tag name) → ⊥
no_tag name [] n e = none-some (Tag name) e
no_tag name (x ∷ es) zero e = true≢false (ap is_entry (same_Some (external_note x) (Tag name) e))
no_tag name (x ∷ es) (suc n) e = no_tag name es n e

module _ (image : Image) where
  text_passes : (text : List ℕ) (place count : ℕ) → IsText image text place count → in_pool image place count ≡ true
  text_passes text place count t = le-leb (place + count) (length image.pool) t.inside

  abbrev by_kind : ℕ → NoteRow → Bool
  by_kind k row =
      if k == 0 then (row.value_length == 0) && (row.value == 0)
      else if k == 1 then in_pool image row.value row.value_length
      else if k == 2 then row.value_length == 0
      else (row.value_length == 0) && nat_le row.value 1

  value_passes : (v : Value) (row : NoteRow) → SaysValue image v row → (nat_le 1 row.kind ≡ true) × (nat_le row.kind 3 ≡ true) × (is_good_value image row ≡ true)
  value_passes (Text t) row h =
      (ap (λ k. nat_le 1 k) h.0, ap (λ k. nat_le k 3) h.0, ap (λ k. by_kind k row) h.0 ∙ text_passes t row.value row.value_length h.1)
  value_passes (Number n) row h =
      (ap (λ k. nat_le 1 k) h.0, ap (λ k. nat_le k 3) h.0, ap (λ k. by_kind k row) h.0 ∙ (Decides-eqb row.value_length 0).1 h.1)
  value_passes (Flag b) row h = (
    ap (λ k. nat_le 1 k) h.0,
    ap (λ k. nat_le k 3) h.0,
    ap (λ k. by_kind k row) h.0 ∙ both (row.value_length == 0) (nat_le row.value 1) ((Decides-eqb row.value_length 0).1 h.1) (ap (λ v. nat_le v 1) h.2 ∙ flag_low b),
  )
  value_passes Undefined row h = absurd h

  note_passes : (note : Note) (row : NoteRow) → SaysNote image note row → is_good_note image row ≡ true
  note_passes (Tag name) row h =
      both (in_pool image row.name_place row.name_length) _ (text_passes name row.name_place row.name_length h.0)
      (both (nat_le row.kind 3) (is_good_value image row) (ap (λ k. nat_le k 3) h.1)
      (ap (λ k. by_kind k row) h.1 ∙ both (row.value_length == 0) (row.value == 0) ((Decides-eqb row.value_length 0).1 h.2) ((Decides-eqb row.value 0).1 h.3)))
  note_passes (Entry name value) row h =
      let v = value_passes value row h.1 in
      both (in_pool image row.name_place row.name_length) _ (text_passes name row.name_place row.name_length h.0)
      (both (nat_le row.kind 3) (is_good_value image row) v.1 v.2)

  -- the note that a row among others says
  pub note_at : (notes : List Note) (rows : List NoteRow) (k : ℕ) (row : NoteRow) → SayNotes image notes rows → slice_get rows k ≡ Some row
      → (note : Note) × (slice_get notes k ≡ Some note) × SaysNote image note row
  note_at [] [] k row h g = absurd (none-some row g)
  note_at (note ∷ notes) (first ∷ rows) zero row h g = let P : NoteRow → Type 0 = λ r. SaysNote image note r in (note, refl, subst P (same_Some first row g) h.0)
  note_at (note ∷ notes) (first ∷ rows) (suc k) row h g = note_at notes rows k row h.1 g
  note_at [] (first ∷ rows) k row h g = absurd h
  note_at (note ∷ notes) [] k row h g = absurd h

  pub externals_pass : (externals : List PlainExternal) → SayNotes image (map external_note externals) image.externals → (k : ℕ) → row_passes image (is_good_external image) image.externals k ≡ true
  externals_pass externals say k = at (slice_get image.externals k) refl
    where
      passes : (note : Note) (row : NoteRow) → slice_get (map external_note externals) k ≡ Some note → SaysNote image note row → is_good_external image row ≡ true
      passes (Tag name) row is h = absurd (no_tag name externals k is)
      passes (Entry name value) row is h = both (nat_le 1 row.kind) (is_good_note image row) (value_passes value row h.1).0 (note_passes (Entry name value) row h)

      at : (o : Option NoteRow) → slice_get image.externals k ≡ o → option_map_or (is_good_external image) o true ≡ true
      at None e = refl
      at (Some row) e = let n = note_at (map external_note externals) image.externals k row say e in passes n.0 row n.1 n.2

  -- ---- notes of rules

  -- a note is in the range of some rule
  rule_of_note : (codes : List CodeRange) (rules : List PlainRule) → SayRules image rules codes → (n k : ℕ) → k < end_before notes_end image.rules n
      → (m : ℕ) × (row : RuleRow) × (slice_get image.rules m ≡ Some row) × (row.first_note ≤ k) × (k < row.first_note + row.notes)
  rule_of_note codes rules say zero k h = absurd (omega (arith, h))
  rule_of_note codes rules say (suc n) k h = at (slice_get image.rules n) refl (λ b. rule_of_note codes rules say n k b)
    where
      at : (o : Option RuleRow) → slice_get image.rules n ≡ o
          → (k < end_before notes_end image.rules n → (m : ℕ) × (row : RuleRow) × (slice_get image.rules m ≡ Some row) × (row.first_note ≤ k) × (k < row.first_note + row.notes))
          → (m : ℕ) × (row : RuleRow) × (slice_get image.rules m ≡ Some row) × (row.first_note ≤ k) × (k < row.first_note + row.notes)
      at None e later = let z : end_before notes_end image.rules (suc n) ≡ 0 = ap (λ o. option_map_or notes_end o 0) e in absurd (omega (arith, h, z))
      at (Some row) e later =
          let end : end_before notes_end image.rules (suc n) ≡ row.first_note + row.notes = ap (λ o. option_map_or notes_end o 0) e in
          let first = say.follow n row e in
          ⊎_elim (λ b. later (omega (arith, b, first))) (λ b. (n, row, e, b, omega (arith, h, end))) (cases_lt k row.first_note)

  -- so it says a note of some rule
  pub note_says : (codes : List CodeRange) (rules : List PlainRule) → SayRules image rules codes → (k : ℕ) (row : NoteRow) → slice_get image.notes k ≡ Some row
      → (i : ℕ) × (rule : PlainRule) × (slice_get rules i ≡ Some rule) × (j : ℕ) × (note : Note) × (slice_get (notes_of rule) j ≡ Some note) × SaysNote image note row
  note_says codes rules say k row h =
      let inside : k < length image.notes = slice_get_within image.notes k row h in
      let all = say.whole in
      let m = rule_of_note codes rules say (length image.rules) k (omega (arith, inside, all)) in
      let count = say.count in
      let rule = there_too image.rules rules m.0 m.1 (omega (arith, count)) m.2 in
      let enough = say.enough in
      let code = there_too rules codes m.0 rule.0 enough rule.1 in
      let says = say.each m.0 rule.0 code.0 m.1 rule.1 code.1 m.2 in
      let j : ℕ = k - m.1.first_note in
      let here : slice_get (notes_in image m.1) j ≡ Some row =
      part_at image.notes m.1.first_note m.1.notes j row (omega (arith, m.3, m.4)) (ap (λ n. slice_get image.notes n) (omega (arith, m.3)) ∙ h) in
      let n = note_at (notes_of rule.0) (notes_in image m.1) j row says.notes here in
      (m.0, rule.0, rule.1, j, n.0, n.1, n.2)

  pub notes_pass : (codes : List CodeRange) (rules : List PlainRule) → SayRules image rules codes → (k : ℕ) → row_passes image (is_good_note image) image.notes k ≡ true
  notes_pass codes rules say k = at (slice_get image.notes k) refl
    where
      at : (o : Option NoteRow) → slice_get image.notes k ≡ o → option_map_or (is_good_note image) o true ≡ true
      at None e = refl
      at (Some row) e = let n = note_says codes rules say k row e in note_passes n.4 row n.6

  -- ---- rules

  module _ (rules : PlainRules) (good : IsWellformed rules) (codes : List CodeRange) (say : SayRules image rules.rules codes) (follow : FollowCodes image codes)
      (enough : length codes ≡ length rules.rules) (strings : length image.strings ≡ length rules.strings) where
    abbrev counts : PlainRule → ℕ
    counts rule = rule.string_count

    rule_at : (k : ℕ) (row : RuleRow) → slice_get image.rules k ≡ Some row
        → (rule : PlainRule) × (code : CodeRange) × (slice_get rules.rules k ≡ Some rule) × (slice_get codes k ≡ Some code) × SaysRule image rule code row
    rule_at k row h =
        let count = say.count in
        let rule = there_too image.rules rules.rules k row (omega (arith, count)) h in
        let code = there_too rules.rules codes k rule.0 (omega (arith, enough)) rule.1 in
        (rule.0, code.0, rule.1, code.1, say.each k rule.0 code.0 row rule.1 code.1 h)

    first_string : (k : ℕ) (row : RuleRow) → slice_get image.rules k ≡ Some row → row.first_string ≡ total counts (take k rules.rules)
    first_string k row h = let r = rule_at k row h in r.4.first_string ∙ (good.own_strings k r.0 r.2).first

    total_more : (rs : List PlainRule) (k : ℕ) (rule : PlainRule) → slice_get rs k ≡ Some rule → total counts (take (suc k) rs) ≡ total counts (take k rs) + rule.string_count
    total_more [] k rule h = absurd (none-some rule h)
    total_more (r ∷ rs) zero rule h = let e : r.string_count ≡ rule.string_count = ap counts (same_Some r rule h) in omega (arith, e)
    total_more (r ∷ rs) (suc k) rule h = let rest = total_more rs k rule h in omega (arith, rest)

    strings_before : (k : ℕ) → k ≤ length image.rules → end_before strings_end image.rules k ≡ total counts (take k rules.rules)
    strings_before zero b = refl
    strings_before (suc k) b =
        let row : (row : RuleRow) × (slice_get image.rules k ≡ Some row) = ⊎_elim (λ g. (g.0, g.2)) (λ g. absurd (omega (arith, b, g.0))) (slice_get_cases image.rules k).1 in
        let r = rule_at k row.0 row.1 in
        let first = first_string k row.0 row.1 in
        let count = r.4.strings in
        let more = total_more rules.rules k r.0 r.2 in
        let end : end_before strings_end image.rules (suc k) ≡ row.0.first_string + row.0.strings = ap (λ o. option_map_or strings_end o 0) row.1 in
        omega (arith, end, first, count, more)

    codes_before : (k : ℕ) → k ≤ length image.rules → end_before code_end image.rules k ≡ end_before range_end codes k
    codes_before zero b = refl
    codes_before (suc k) b =
        let row : (row : RuleRow) × (slice_get image.rules k ≡ Some row) = ⊎_elim (λ g. (g.0, g.2)) (λ g. absurd (omega (arith, b, g.0))) (slice_get_cases image.rules k).1 in
        let r = rule_at k row.0 row.1 in
        let first = r.4.first_code in
        let rows = r.4.code_rows in
        let end : end_before code_end image.rules (suc k) ≡ row.0.first_code + row.0.code_rows = ap (λ o. option_map_or code_end o 0) row.1 in
        let range : end_before range_end codes (suc k) ≡ r.1.first + r.1.rows = ap (λ o. option_map_or range_end o 0) r.3 in
        omega (arith, end, first, rows, range)

    all_rules : take (length image.rules) rules.rules ≡ rules.rules
    all_rules = ap (λ n. take n rules.rules) say.count ∙ take-length rules.rules

    strings_whole : end_before strings_end image.rules (length image.rules) ≡ length image.strings
    strings_whole = strings_before (length image.rules) (omega arith) ∙ ap (total counts) all_rules ∙ good.all_strings ∙ sym strings

    codes_whole : end_before code_end image.rules (length image.rules) ≡ length image.code
    codes_whole = codes_before (length image.rules) (omega arith) ∙ ap (λ n. end_before range_end codes n) (say.count ∙ sym enough) ∙ follow.whole

    last_ends : (k : ℕ) (row : RuleRow) → slice_get image.rules k ≡ Some row → length image.rules ≡ suc k → ends_sections image row ≡ true
    last_ends k row h e =
        let at_end : (end : RuleRow → ℕ) → end_before end image.rules (length image.rules) ≡ end row = λ end. ap (λ n. end_before end image.rules n) e ∙ ap (λ o. option_map_or end o 0) h in
        both (notes_end row == length image.notes) _ ((Decides-eqb (notes_end row) (length image.notes)).1 (sym (at_end notes_end) ∙ say.whole))
        (both (strings_end row == length image.strings) (code_end row == length image.code)
        ((Decides-eqb (strings_end row) (length image.strings)).1 (sym (at_end strings_end) ∙ strings_whole))
        ((Decides-eqb (code_end row) (length image.code)).1 (sym (at_end code_end) ∙ codes_whole)))

    rule_passes : (k : ℕ) (row : RuleRow) → slice_get image.rules k ≡ Some row → is_good_rule image k row ≡ true
    rule_passes k row h =
        let r = rule_at k row h in
        let s = r.4 in
        let within : k < length image.rules = slice_get_within image.rules k row h in
        let last : (nat_lt (k + 1) (length image.rules) || ends_sections image row) ≡ true =
        ⊎_elim (λ b. either_left (nat_lt (k + 1) (length image.rules)) (ends_sections image row) ((Decides-ltb (k + 1) (length image.rules)).1 b))
        (λ b. either_right (nat_lt (k + 1) (length image.rules)) (ends_sections image row) (last_ends k row h (omega (arith, within, b)))) (cases_lt (k + 1) (length image.rules)) in
        let code : row.first_code ≡ end_before code_end image.rules k =
        s.first_code ∙ follow.follow k r.1 r.3 ∙ sym (codes_before k (omega (arith, within))) in
        let string : row.first_string ≡ end_before strings_end image.rules k = first_string k row h ∙ sym (strings_before k (omega (arith, within))) in
        let some : 0 < row.code_rows = let a = s.code_rows in let b = follow.some k r.1 r.3 in omega (arith, a, b) in
        both (in_pool image row.name_place row.name_length) _ (text_passes r.0.name row.name_place row.name_length s.name)
        (both (in_pool image row.namespace_place row.namespace_length) _ (text_passes r.0.space row.namespace_place row.namespace_length s.space)
        (both (nat_le row.flags 3) _ (ap (λ n. nat_le n 3) s.flags ∙ flags_low r.0.global r.0.hidden)
        (both (row.first_note == end_before notes_end image.rules k) _ ((Decides-eqb row.first_note (end_before notes_end image.rules k)).1 (say.follow k row h))
        (both (row.first_string == end_before strings_end image.rules k) _ ((Decides-eqb row.first_string (end_before strings_end image.rules k)).1 string)
        (both (row.first_code == end_before code_end image.rules k) _ ((Decides-eqb row.first_code (end_before code_end image.rules k)).1 code)
        (both (nat_lt 0 row.code_rows) _ ((Decides-ltb 0 row.code_rows).1 some) last))))))

    pub rules_pass : (k : ℕ) → row_passes image (is_good_rule image k) image.rules k ≡ true
    rules_pass k = at (slice_get image.rules k) refl
      where
        at : (o : Option RuleRow) → slice_get image.rules k ≡ o → option_map_or (is_good_rule image k) o true ≡ true
        at None e = refl
        at (Some row) e = rule_passes k row e

    pub nothing_without_rules : is_good_without_rules image ≡ true
    nothing_without_rules = at image.rules refl
      where
        at : (rows : List RuleRow) → image.rules ≡ rows → is_good_without_rules image ≡ true
        at [] e =
            let n : length image.rules ≡ 0 = ap length e in
            let notes : length image.notes ≡ 0 = sym say.whole ∙ ap (λ m. end_before notes_end image.rules m) n in
            let strs : length image.strings ≡ 0 = sym strings_whole ∙ ap (λ m. end_before strings_end image.rules m) n in
            let code : length image.code ≡ 0 = sym codes_whole ∙ ap (λ m. end_before code_end image.rules m) n in
            either_right (nat_lt 0 (length image.rules)) _
            (both (length image.notes == 0) _ ((Decides-eqb (length image.notes) 0).1 notes)
            (both (length image.strings == 0) (length image.code == 0) ((Decides-eqb (length image.strings) 0).1 strs) ((Decides-eqb (length image.code) 0).1 code)))
        at (row ∷ rows) e =
            let n : length image.rules ≡ suc (length rows) = ap length e in
            either_left (nat_lt 0 (length image.rules)) _ ((Decides-ltb 0 (length image.rules)).1 (omega (arith, n)))
