-- What reports take of an image whose rows say rules: the same as of the rules.
use Rattle.std.proofs.Common.{◌≡◌, ℕ, zero, suc, ◌+◌, ◌*◌, ◌==◌, ◌<◌, ⊎_elim, not, codes, Bool, true, false, if◌then◌else◌, List, [], ◌∷◌, ◌++◌, length, map, filter, take, drop, Some, slice_get, refl, sym, ap, ap₂, ◌∙◌, arith}
use Rattle.std.specs.Int.{w64, cast_signed}
use Rattle.std.proofs.lemmas.List.{length-take, length-drop}
use Rattle.std.proofs.lemmas.Option.{none-some, slice_get_within, slice_get_cases}
use Rattle.yr_syntax.specs.Declaration.{MetaTree, ValueTree, TextValue, NumberValue, FlagValue}
use Rattle.yr_values.specs.Values.{Value, Undefined, Number, Flag, Text}
use Rattle.yr_answer.specs.Listing.{MetaText, MetaNumber, MetaFlag, ListedMeta, ListedString}
use Rattle.yr_rules.specs.Rules.{PlainExternal, PlainString, PlainRule}
use Rattle.yr_meaning.specs.Listing as plain
use Rattle.yr_image.specs.declared.rows.NoteRow.{NoteRow}
use Rattle.yr_image.specs.declared.rows.RuleRow.{RuleRow}
use Rattle.yr_image.specs.declared.rows.StringRow.{StringRow}
use Rattle.yr_image.specs.Image.{Image, pool_text, namespace_of}
use Rattle.yr_machine.specs.Names.{rule_name, note_name, string_name}
use Rattle.yr_machine.specs.Listing.{has_flag, is_tag, meta_value, listed_meta, listed_strings, notes_of, listed_rule, listed_rules}
use Rattle.yr_machine.specs.ImageRun.{value_of}
use Rattle.yr_compiler.specs.declared.code_range.CodeRange.{CodeRange}
use Rattle.yr_compiler.specs.Notes as note
use Rattle.yr_compiler.specs.Notes.{Note, Tag, Entry, IsText, SaysValue, SaysNote, SayNotes, entry_of, external_note, flag_of}
use Rattle.yr_compiler.specs.Rules.{SaysRule, SayRules, SayNames}

-- ---- values and notes

value_shown : (image : Image) (v : Value) (row : NoteRow) → SaysValue image v row → value_of image row ≡ v
value_shown image (Text t) row h =
    ap (λ k. if k == 1 then Text (pool_text image row.value row.value_length) else if k == 2 then Number (cast_signed w64 row.value) else Flag (row.value == 1)) h.0
    ∙ ap (λ (l : List ℕ). Text l) h.1.reads
value_shown image (Number n) row h =
    ap (λ k. if k == 1 then Text (pool_text image row.value row.value_length) else if k == 2 then Number (cast_signed w64 row.value) else Flag (row.value == 1)) h.0
    ∙ ap (λ z. Number z) h.2
value_shown image (Flag b) row h =
    ap (λ k. if k == 1 then Text (pool_text image row.value row.value_length) else if k == 2 then Number (cast_signed w64 row.value) else Flag (row.value == 1)) h.0
    ∙ ap (λ v. Flag (v == 1)) h.2 ∙ ap (λ c. Flag c) (one b)
  where
    one : (c : Bool) → (flag_of c == 1) ≡ c
    one true = refl
    one false = refl
value_shown image Undefined row h = absurd h

meta_shown : (image : Image) (v : ValueTree) (row : NoteRow) → SaysValue image (note.meta_value v) row → meta_value image row ≡ plain.listed_value v
meta_shown image (TextValue t) row h =
    ap (λ k. if k == 1 then MetaText (pool_text image row.value row.value_length) else if k == 2 then MetaNumber (cast_signed w64 row.value) else MetaFlag (row.value == 1)) h.0
    ∙ ap (λ (l : List ℕ). MetaText l) h.1.reads
meta_shown image (NumberValue n) row h =
    ap (λ k. if k == 1 then MetaText (pool_text image row.value row.value_length) else if k == 2 then MetaNumber (cast_signed w64 row.value) else MetaFlag (row.value == 1)) h.0
    ∙ ap (λ z. MetaNumber z) h.2
meta_shown image (FlagValue b) row h =
    ap (λ k. if k == 1 then MetaText (pool_text image row.value row.value_length) else if k == 2 then MetaNumber (cast_signed w64 row.value) else MetaFlag (row.value == 1)) h.0
    ∙ ap (λ v. MetaFlag (v == 1)) h.2 ∙ ap (λ c. MetaFlag c) (one b)
  where
    one : (c : Bool) → (flag_of c == 1) ≡ c
    one true = refl
    one false = refl

entry_no_tag : (image : Image) (v : Value) (row : NoteRow) → SaysValue image v row → is_tag row ≡ false
entry_no_tag image (Text t) row h = ap (λ k. k == 0) h.0
entry_no_tag image (Number n) row h = ap (λ k. k == 0) h.0
entry_no_tag image (Flag b) row h = ap (λ k. k == 0) h.0
entry_no_tag image Undefined row h = absurd h

-- entries alone: no tags among them, and each is kept
module _ (image : Image) where
  abbrev is_entry : NoteRow → Bool
  is_entry row = not (is_tag row)

  no_tags : (meta : List MetaTree) (rows : List NoteRow) → SayNotes image (map entry_of meta) rows → map (note_name image) (filter is_tag rows) ≡ []
  no_tags [] [] h = refl
  no_tags (m ∷ meta) (row ∷ rows) h =
      let t : is_tag row ≡ false = entry_no_tag image (note.meta_value m.value) row h.0.1 in
      ap (λ b. map (note_name image) (if b then row ∷ filter is_tag rows else filter is_tag rows)) t ∙ no_tags meta rows h.1
  no_tags [] (row ∷ rows) h = absurd h
  no_tags (m ∷ meta) [] h = absurd h

  entries : (meta : List MetaTree) (rows : List NoteRow) → SayNotes image (map entry_of meta) rows → map (listed_meta image) (filter is_entry rows) ≡ map plain.listed_meta meta
  entries [] [] h = refl
  entries (m ∷ meta) (row ∷ rows) h =
      let t : is_tag row ≡ false = entry_no_tag image (note.meta_value m.value) row h.0.1 in
      let key : note_name image row ≡ m.key = h.0.0.reads in
      let value : meta_value image row ≡ plain.listed_value m.value = meta_shown image m.value row h.0.1 in
      let one : listed_meta image row ≡ plain.listed_meta m = λ i. record { key = key i; value = value i } in
      ap (λ b. map (listed_meta image) (if not b then row ∷ filter is_entry rows else filter is_entry rows)) t
      ∙ ap₂ (λ (x : ListedMeta) (xs : List ListedMeta). x ∷ xs) one (entries meta rows h.1)
  entries [] (row ∷ rows) h = absurd h
  entries (m ∷ meta) [] h = absurd h

  tags_shown : (tags : List (List ℕ)) (meta : List MetaTree) (rows : List NoteRow) → SayNotes image (map Tag tags ++ map entry_of meta) rows
      → map (note_name image) (filter is_tag rows) ≡ tags
  tags_shown [] meta rows h = no_tags meta rows h
  tags_shown (tag ∷ tags) meta (row ∷ rows) h =
      let t : is_tag row ≡ true = ap (λ k. k == 0) h.0.1 in
      ap (λ b. map (note_name image) (if b then row ∷ filter is_tag rows else filter is_tag rows)) t
      ∙ ap₂ (λ (x : List ℕ) (xs : List (List ℕ)). x ∷ xs) h.0.0.reads (tags_shown tags meta rows h.1)
  tags_shown (tag ∷ tags) meta [] h = absurd h

  entries_shown : (tags : List (List ℕ)) (meta : List MetaTree) (rows : List NoteRow) → SayNotes image (map Tag tags ++ map entry_of meta) rows
      → map (listed_meta image) (filter is_entry rows) ≡ map plain.listed_meta meta
  entries_shown [] meta rows h = entries meta rows h
  entries_shown (tag ∷ tags) meta (row ∷ rows) h =
      let t : is_tag row ≡ true = ap (λ k. k == 0) h.0.1 in
      ap (λ b. map (listed_meta image) (if not b then row ∷ filter is_entry rows else filter is_entry rows)) t ∙ entries_shown tags meta rows h.1
  entries_shown (tag ∷ tags) meta [] h = absurd h

  -- ---- externals

  abbrev shown_external : NoteRow → PlainExternal
  shown_external row = record { name = note_name image row; value = value_of image row }

  pub externals_shown : (externals : List PlainExternal) (rows : List NoteRow) → SayNotes image (map external_note externals) rows → map shown_external rows ≡ externals
  externals_shown [] [] h = refl
  externals_shown (e ∷ externals) (row ∷ rows) h =
      let name : note_name image row ≡ e.name = h.0.0.reads in
      let value : value_of image row ≡ e.value = value_shown image e.value row h.0.1 in
      let one : shown_external row ≡ e = λ i. record { name = name i; value = value i } in
      ap₂ (λ (x : PlainExternal) (xs : List PlainExternal). x ∷ xs) one (externals_shown externals rows h.1)
  externals_shown [] (row ∷ rows) h = absurd h
  externals_shown (e ∷ externals) [] h = absurd h

-- ---- lists that agree place by place

same_maps : {X Y Z : Type 0} (f : X → Z) (g : Y → Z) (xs : List X) (ys : List Y) → length xs ≡ length ys
    → ((k : ℕ) (x : X) (y : Y) → slice_get xs k ≡ Some x → slice_get ys k ≡ Some y → f x ≡ g y) → map f xs ≡ map g ys
same_maps f g [] [] e h = refl
same_maps f g (x ∷ xs) (y ∷ ys) e h =
    ap₂ (λ a l. a ∷ l) (h 0 x y refl refl) (same_maps f g xs ys (omega (arith, e)) (λ k a b p q. h (suc k) a b p q))
same_maps f g [] (y ∷ ys) e h = absurd (omega (arith, e))
same_maps f g (x ∷ xs) [] e h = absurd (omega (arith, e))

taken_at : {X : Type 0} (xs : List X) (count k : ℕ) (x : X) → slice_get (take count xs) k ≡ Some x → slice_get xs k ≡ Some x
taken_at [] zero k x h = h
taken_at [] (suc count) k x h = h
taken_at (y ∷ xs) zero k x h = absurd (none-some x h)
taken_at (y ∷ xs) (suc count) zero x h = h
taken_at (y ∷ xs) (suc count) (suc k) x h = taken_at xs count k x h

dropped_at : {X : Type 0} (xs : List X) (first k : ℕ) → slice_get (drop first xs) k ≡ slice_get xs (first + k)
dropped_at xs zero k = ap (λ n. slice_get xs n) (omega arith)
dropped_at [] (suc first) k = refl
dropped_at (y ∷ xs) (suc first) k =
    let e : suc first + k ≡ suc (first + k) = omega arith in dropped_at xs first k ∙ sym (ap (λ n. slice_get (y ∷ xs) n) e)

part_at : {X : Type 0} (xs : List X) (first count k : ℕ) (x : X) → slice_get (take count (drop first xs)) k ≡ Some x → slice_get xs (first + k) ≡ Some x
part_at xs first count k x h = sym (dropped_at xs first k) ∙ taken_at (drop first xs) count k x h

same_lengths : {X Y : Type 0} (xs : List X) (ys : List Y) (first count : ℕ) → length xs ≡ length ys → length (take count (drop first xs)) ≡ length (take count (drop first ys))
same_lengths xs ys first count e =
    let a = length-take count (drop first xs) in
    let b = length-take count (drop first ys) in
    let c = length-drop first xs in
    let d = length-drop first ys in omega (arith, a, b, c, d, e)

-- strings
strings_shown : (image : Image) (k : ℕ) (rows : List StringRow) (strings : List PlainString) → length rows ≡ length strings
    → ((i : ℕ) (row : StringRow) (string : PlainString) → slice_get rows i ≡ Some row → slice_get strings i ≡ Some string
    → (string_name image row ≡ string.name) × (has_flag 1 row.flags ≡ string.hidden))
    → listed_strings image k rows ≡ plain.listed_strings k strings
strings_shown image k [] [] e h = refl
strings_shown image k (row ∷ rows) (string ∷ strings) e h =
    let here = h 0 row string refl refl in
    let name = here.0 in
    let hidden = here.1 in
    let first : ListedString = record { number = k; name = string_name image row; hidden = has_flag 1 row.flags } in
    let second : ListedString = record { number = k; name = string.name; hidden = string.hidden } in
    let one : first ≡ second = λ i. record { number = k; name = name i; hidden = hidden i } in
    ap₂ (λ (x : ListedString) (xs : List ListedString). x ∷ xs) one (strings_shown image (k + 1) rows strings (omega (arith, e)) (λ i r s p q. h (suc i) r s p q))
strings_shown image k [] (string ∷ strings) e h = absurd (omega (arith, e))
strings_shown image k (row ∷ rows) [] e h = absurd (omega (arith, e))

first_flag : (a b : Bool) → has_flag 1 (flag_of a + 2 * flag_of b) ≡ a
first_flag true true = refl
first_flag true false = refl
first_flag false true = refl
first_flag false false = refl

second_flag : (a b : Bool) → has_flag 2 (flag_of a + 2 * flag_of b) ≡ b
second_flag true true = refl
second_flag true false = refl
second_flag false true = refl
second_flag false false = refl

module _ (image : Image) (version : image.version ≡ 2) (strings : List PlainString) (named : SayNames image strings) where
  rule_shown : (rule : PlainRule) (code : CodeRange) (row : RuleRow) → SaysRule image rule code row → listed_rule image row ≡ plain.listed_rule strings rule
  rule_shown rule code row r =
      let space : namespace_of image row ≡ rule.space =
      ap (λ v. if v == 1 then codes "default" else pool_text image row.namespace_place row.namespace_length) version ∙ r.space.reads in
      let name : rule_name image row ≡ rule.name = r.name.reads in
      let global : has_flag 1 row.flags ≡ rule.global = ap (λ f. has_flag 1 f) r.flags ∙ first_flag rule.global rule.hidden in
      let hidden : has_flag 2 row.flags ≡ rule.hidden = ap (λ f. has_flag 2 f) r.flags ∙ second_flag rule.global rule.hidden in
      let tags : map (note_name image) (filter is_tag (notes_of image row)) ≡ rule.tags = tags_shown image rule.tags rule.meta (notes_of image row) r.notes in
      let meta : map (listed_meta image) (filter (λ n. not (is_tag n)) (notes_of image row)) ≡ map plain.listed_meta rule.meta =
      entries_shown image rule.tags rule.meta (notes_of image row) r.notes in
      let part : listed_strings image row.first_string (take row.strings (drop row.first_string image.strings)) ≡ plain.listed_strings rule.first_string (take rule.string_count (drop rule.first_string strings)) =
      ap₂ (λ (f c : ℕ). listed_strings image f (take c (drop f image.strings))) r.first_string r.strings
      ∙ strings_shown image rule.first_string (take rule.string_count (drop rule.first_string image.strings)) (take rule.string_count (drop rule.first_string strings))
      (same_lengths image.strings strings rule.first_string rule.string_count named.count)
      (λ i row s p q. named.each (rule.first_string + i) s row (part_at strings rule.first_string rule.string_count i s q) (part_at image.strings rule.first_string rule.string_count i row p)) in
      λ i. record { namespace = space i; name = name i; global = global i; hidden = hidden i; tags = tags i; meta = meta i; strings = part i }

  pub rules_shown : (rules : List PlainRule) (ranges : List CodeRange) → SayRules image rules ranges → listed_rules image ≡ map (plain.listed_rule strings) rules
  rules_shown rules ranges say =
      same_maps (listed_rule image) (plain.listed_rule strings) image.rules rules say.count
      (λ k row rule p q. let c = code_at k (slice_get_within rules k rule q) in rule_shown rule c.0 row (say.each k rule c.0 row q c.1 p))
    where
      code_at : (k : ℕ) → k < length rules → (code : CodeRange) × (slice_get ranges k ≡ Some code)
      code_at k b = let e = say.enough in ⊎_elim (λ g. (g.0, g.2)) (λ g. absurd (omega (arith, b, e, g.0))) (slice_get_cases ranges k).1
