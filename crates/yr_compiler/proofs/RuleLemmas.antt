-- Rows of rules that are put.
use Rattle.std.proofs.Common.{◌≡◌, ℕ, zero, suc, ◌+◌, ◌*◌, ◌≤◌, ◌==◌, Bool, true, false, if◌then◌else◌, ◌⊎◌, inl, inr, List, [], ◌∷◌, ◌++◌, length, map, take, drop, Option, Some, slice_get, refl, sym, ap, ap₂, ◌∙◌, subst, arith}
use Rattle.std.specs.Option.{option_map_or}
use Rattle.std.proofs.lemmas.List.{length-append}
use Rattle.std.proofs.Math.Seq.{drop-append_seam, take-length}
use Rattle.std.proofs.lemmas.Option.{none-some, same_Some, slice_get_within}
use Rattle.yr_syntax.specs.Declaration.{MetaTree, ValueTree, TextValue, NumberValue, FlagValue}
use Rattle.yr_rules.specs.Rules.{PlainRule}
use Rattle.yr_rules.specs.Weight.{total, text_bytes, tag_weight, meta_weight, meta_bytes}
use Rattle.yr_image.specs.declared.rows.NoteRow.{NoteRow}
use Rattle.yr_image.specs.declared.rows.RuleRow.{RuleRow}
use Rattle.yr_image.specs.Sections.{rule_width}
use Rattle.yr_image.specs.Image.{Image}
use Rattle.yr_image.specs.Encoding.{encoded_length}
use Rattle.yr_machine.specs.Rows.{end_before, notes_end}
use Rattle.yr_draft.specs.Growing.{BeginsAs, Grows}
use Rattle.yr_draft.specs.Added.{HasText}
use Rattle.yr_draft.proofs.RunLemmas.{get_left}
use Rattle.yr_draft.proofs.GrowLemmas.{pushed_at}
use Rattle.yr_compiler.specs.declared.code_range.CodeRange.{CodeRange}
use Rattle.yr_compiler.specs.Notes.{Note, Tag, IsText, SayNotes, notes_of, entry_of, meta_value, flag_of}
use Rattle.yr_compiler.specs.Rules.{notes_in, SaysRule, HasShortTexts}
use Rattle.yr_compiler.specs.Putting.{PutsNotes, PutsRules, notes_bytes, listing_weight}
use Rattle.yr_compiler.proofs.TextLemmas.{kept_range, longer, push_place, grows_after, grows_same, other_bytes, in_parts, text_grows, text_cost, text_is, text_stays}
use Rattle.yr_compiler.proofs.NoteLemmas.{notes_stay, say_count, total-push, bytes-append}

-- ---- costs

tags_cost : (tags : List (List ℕ)) → notes_bytes (map Tag tags) ≤ 64 * total tag_weight tags
tags_cost [] = omega arith
tags_cost (tag ∷ tags) = let rest = tags_cost tags in omega (arith, rest)

value_bytes : (v : ValueTree) → text_bytes (meta_value v) ≡ meta_bytes v
value_bytes (TextValue t) = refl
value_bytes (NumberValue n) = refl
value_bytes (FlagValue b) = refl

meta_cost : (meta : List MetaTree) → notes_bytes (map entry_of meta) ≤ 64 * total meta_weight meta
meta_cost [] = omega arith
meta_cost (m ∷ meta) = let rest = meta_cost meta in let v = value_bytes m.value in omega (arith, rest, v)

notes_cost : (rule : PlainRule) → notes_bytes (notes_of rule) ≤ 64 * (total tag_weight rule.tags + total meta_weight rule.meta)
notes_cost rule =
    let a = tags_cost rule.tags in
    let b = meta_cost rule.meta in
    let c = bytes-append (map Tag rule.tags) (map entry_of rule.meta) in omega (arith, a, b, c)

width_low : (v : ℕ) → rule_width v ≤ 40
width_low v = at (v == 1)
  where
    at : (b : Bool) → (if b then 32 else 40) ≤ 40
    at true = omega arith
    at false = omega arith

width_more : (w n : ℕ) → w * (n + 1) ≡ w * n + w
width_more w n = omega arith

-- ---- lists that grow

end_same : (rows : List RuleRow) (row : RuleRow) (k : ℕ) → k ≤ length rows → end_before notes_end (rows ++ row ∷ []) k ≡ end_before notes_end rows k
end_same rows row zero b = refl
end_same rows row (suc k) b = ap (λ (o : Option RuleRow). option_map_or notes_end o 0) (get_left rows (row ∷ []) k (omega (arith, b)))

range_added : {X : Type 0} (xs ys : List X) → take (length ys) (drop (length xs) (xs ++ ys)) ≡ ys
range_added xs ys = ap (λ l. take (length ys) l) (drop-append_seam xs ys) ∙ take-length ys

rule_stays : (old new : Image) (rule : PlainRule) (code : CodeRange) (row : RuleRow) → Grows old new → BeginsAs old.notes new.notes → SaysRule old rule code row → SaysRule new rule code row
rule_stays old new rule code row g b r = record {
  name = text_stays old new rule.name row.name_place row.name_length g r.name;
  space = text_stays old new rule.space row.namespace_place row.namespace_length g r.space;
  flags = r.flags;
  inside = let more = longer old.notes new.notes b in let i = r.inside in omega (arith, more, i);
  notes =
      let P : List NoteRow → Type 0 = λ rows. SayNotes new (notes_of rule) rows in
      subst P (sym (kept_range old.notes new.notes row.first_note row.notes b r.inside)) (notes_stay old new (notes_of rule) (notes_in old row) g r.notes);
  first_string = r.first_string;
  strings = r.strings;
  first_code = r.first_code;
  code_rows = r.code_rows;
}

pub no_rules : (image : Image) (codes : List CodeRange) → image.rules ≡ [] → image.notes ≡ [] → PutsRules image image [] codes
no_rules image codes rules notes = record {
  others = refl;
  grows = grows_same image image refl refl refl refl;
  say = record {
    count = ap length rules;
    enough = omega arith;
    each = λ k rule code row h g f. absurd (none-some rule h);
    follow = λ k row h. absurd (none-some row (sym (ap (λ l. slice_get l k) rules) ∙ h));
    whole = ap (λ l. end_before notes_end l (length l)) rules ∙ sym (ap length notes);
  };
  cost = omega arith;
}

-- the next rule: its notes, its name and namespace, and its row
module _ (start old first second third new : Image) (rules : List PlainRule) (rule : PlainRule) (codes : List CodeRange) (code : CodeRange)
    (name_place space_place : ℕ) (row : RuleRow) (short : HasShortTexts rule)
    (notes : PutsNotes old first (notes_of rule)) (name : HasText first second rule.name name_place) (space : HasText second third rule.space space_place)
    (put : new ≡ record third { rules = third.rules ++ row ∷ [] })
    (name_at : row.name_place ≡ name_place) (name_long : row.name_length ≡ length rule.name)
    (space_at : row.namespace_place ≡ space_place) (space_long : row.namespace_length ≡ length rule.space)
    (flags : row.flags ≡ flag_of rule.global + 2 * flag_of rule.hidden)
    (first_note : row.first_note ≡ length old.notes) (note_count : row.notes ≡ length (notes_of rule))
    (first_string : row.first_string ≡ rule.first_string) (strings : row.strings ≡ rule.string_count)
    (first_code : row.first_code ≡ code.first) (code_rows : row.code_rows ≡ code.rows)
    (coded : slice_get codes (length rules) ≡ Some code) (done : PutsRules start old rules codes) where
  last_grows : Grows third new
  last_grows = grows_same third new (ap (λ (i : Image). i.sets) put) (ap (λ (i : Image). i.programs) put) (ap (λ (i : Image). i.moves) put) (ap (λ (i : Image). i.pool) put)

  second_grows : Grows second new
  second_grows = grows_after second third new (text_grows second third rule.space space_place space) last_grows

  first_grows : Grows first new
  first_grows = grows_after first second new (text_grows first second rule.name name_place name) second_grows

  all_grows : Grows old new
  all_grows = grows_after old first new notes.grows first_grows

  notes_are : new.notes ≡ old.notes ++ notes.rows
  notes_are =
      ap (λ (i : Image). i.notes) put ∙ ap (λ (i : Image). i.notes) space.others ∙ ap (λ (i : Image). i.notes) name.others ∙ notes.pushed

  rules_are : new.rules ≡ old.rules ++ row ∷ []
  rules_are =
      ap (λ (i : Image). i.rules) put ∙ ap (λ (i : Image). i.rules ++ row ∷ []) space.others ∙ ap (λ (i : Image). i.rules ++ row ∷ []) name.others
      ∙ ap (λ (i : Image). i.rules ++ row ∷ []) notes.others

  notes_begin : BeginsAs old.notes new.notes
  notes_begin = (notes.rows, notes_are)

  count_is : row.notes ≡ length notes.rows
  count_is = note_count ∙ sym (say_count first (notes_of rule) notes.rows notes.say)

  range_is : notes_in new row ≡ notes.rows
  range_is = ap₂ (λ (c f : ℕ). take c (drop f new.notes)) count_is first_note ∙ ap (λ (l : List NoteRow). take (length notes.rows) (drop (length old.notes) l)) notes_are ∙ range_added old.notes notes.rows

  long_notes : length new.notes ≡ length old.notes + length notes.rows
  long_notes = ap length notes_are ∙ length-append old.notes notes.rows

  says : SaysRule new rule code row
  says = record {
    name =
        let P : ℕ → Type 0 = λ p. IsText new rule.name p row.name_length in
        subst P (sym name_at) (text_stays second new rule.name name_place row.name_length second_grows (text_is first second rule.name name_place name row.name_length name_long));
    space =
        let P : ℕ → Type 0 = λ p. IsText new rule.space p row.namespace_length in
        subst P (sym space_at) (text_stays third new rule.space space_place row.namespace_length last_grows (text_is second third rule.space space_place space row.namespace_length space_long));
    flags = flags;
    inside = let a = count_is in let b = long_notes in omega (arith, first_note, a, b);
    notes =
        let P : List NoteRow → Type 0 = λ rows. SayNotes new (notes_of rule) rows in
        subst P (sym range_is) (notes_stay first new (notes_of rule) notes.rows first_grows notes.say);
    first_string = first_string;
    strings = strings;
    first_code = first_code;
    code_rows = code_rows;
  }

  whole : end_before notes_end new.rules (length new.rules) ≡ length new.notes
  whole =
      let long : length new.rules ≡ suc (length old.rules) = ap length rules_are ∙ length-append old.rules (row ∷ []) ∙ omega arith in
      let there : slice_get new.rules (length old.rules) ≡ Some row = ap (λ (l : List RuleRow). slice_get l (length old.rules)) rules_are ∙ pushed_at old.rules row in
      let a = count_is in
      let b = long_notes in
      let end : row.first_note + row.notes ≡ length new.notes = omega (arith, first_note, a, b) in
      ap (λ n. end_before notes_end new.rules n) long ∙ ap (λ (o : Option RuleRow). option_map_or notes_end o 0) there ∙ end

  follow : (k : ℕ) (other : RuleRow) → slice_get new.rules k ≡ Some other → other.first_note ≡ end_before notes_end new.rules k
  follow k other h = at (push_place old.rules row k other (ap (λ (l : List RuleRow). slice_get l k) (sym rules_are) ∙ h))
    where
      at : (slice_get old.rules k ≡ Some other) ⊎ ((k ≡ length old.rules) × (row ≡ other)) → other.first_note ≡ end_before notes_end new.rules k
      at (inl g) =
          let b = slice_get_within old.rules k other g in
          done.say.follow k other g ∙ sym (end_same old.rules row k (omega (arith, b))) ∙ ap (λ (l : List RuleRow). end_before notes_end l k) (sym rules_are)
      at (inr g) =
          let low : k ≤ length old.rules = omega (arith, g.0) in
          sym (ap (λ (r : RuleRow). r.first_note) g.1) ∙ first_note ∙ sym done.say.whole ∙ ap (λ n. end_before notes_end old.rules n) (sym g.0)
          ∙ sym (end_same old.rules row k low) ∙ ap (λ (l : List RuleRow). end_before notes_end l k) (sym rules_are)

  each : (k : ℕ) (r : PlainRule) (c : CodeRange) (other : RuleRow) → slice_get (rules ++ rule ∷ []) k ≡ Some r → slice_get codes k ≡ Some c → slice_get new.rules k ≡ Some other → SaysRule new r c other
  each k r c other h f g = at (push_place rules rule k r h) (push_place old.rules row k other (ap (λ (l : List RuleRow). slice_get l k) (sym rules_are) ∙ g))
    where
      at : (slice_get rules k ≡ Some r) ⊎ ((k ≡ length rules) × (rule ≡ r)) → (slice_get old.rules k ≡ Some other) ⊎ ((k ≡ length old.rules) × (row ≡ other)) → SaysRule new r c other
      at (inl a) (inl b) = rule_stays old new r c other all_grows notes_begin (done.say.each k r c other a f b)
      at (inl a) (inr b) = let w = slice_get_within rules k r a in let n = done.say.count in absurd (omega (arith, w, b.0, n))
      at (inr a) (inl b) = let w = slice_get_within old.rules k other b in let n = done.say.count in absurd (omega (arith, w, a.0, n))
      at (inr a) (inr b) =
          let same : code ≡ c = same_Some code c (sym coded ∙ ap (λ n. slice_get codes n) (sym a.0) ∙ f) in
          let P : PlainRule → Type 0 = λ x. SaysRule new x c other in
          let Q : CodeRange → Type 0 = λ x. SaysRule new rule x other in
          let R : RuleRow → Type 0 = λ x. SaysRule new rule code x in
          subst P a.1 (subst Q same (subst R b.1 says))

  others : new ≡ record start { rules = new.rules; notes = new.notes; pool = new.pool }
  others =
      let r : third.rules ++ row ∷ [] ≡ new.rules = sym (ap (λ (i : Image). i.rules) put) in
      let n : first.notes ≡ new.notes = sym (ap (λ (i : Image). i.notes) put ∙ ap (λ (i : Image). i.notes) space.others ∙ ap (λ (i : Image). i.notes) name.others) in
      let p : third.pool ≡ new.pool = sym (ap (λ (i : Image). i.pool) put) in
      let same : record start { rules = third.rules ++ row ∷ []; notes = first.notes; pool = third.pool } ≡ record start { rules = new.rules; notes = new.notes; pool = new.pool } =
      λ i. record start { rules = r i; notes = n i; pool = p i } in
      put ∙ ap (λ (i : Image). record i { rules = third.rules ++ row ∷ [] }) space.others
      ∙ ap (λ (i : Image). record i { rules = third.rules ++ row ∷ []; pool = third.pool }) name.others
      ∙ ap (λ (i : Image). record i { rules = third.rules ++ row ∷ []; pool = third.pool }) notes.others
      ∙ ap (λ (i : Image). record i { rules = third.rules ++ row ∷ []; notes = first.notes; pool = third.pool }) done.others ∙ same

  cost : encoded_length new ≤ encoded_length start + 64 * total listing_weight (rules ++ rule ∷ [])
  cost =
      let a = done.cost in
      let b = notes.cost in
      let c = text_cost first second rule.name name_place name in
      let d = text_cost second third rule.space space_place space in
      let e = in_parts third in
      let f = in_parts new in
      let g : other_bytes new ≡ other_bytes third = ap other_bytes put in
      let h : length new.notes ≡ length third.notes = ap (λ (i : Image). length i.notes) put in
      let i : length new.externals ≡ length third.externals = ap (λ (i : Image). length i.externals) put in
      let j : length new.pool ≡ length third.pool = ap (λ (i : Image). length i.pool) put in
      let k : rule_width new.version * length new.rules ≡ rule_width third.version * length third.rules + rule_width third.version =
      ap (λ (i : Image). rule_width i.version * length i.rules) put
      ∙ ap (λ n. rule_width third.version * n) (length-append third.rules (row ∷ []))
      ∙ width_more (rule_width third.version) (length third.rules) in
      let l = width_low third.version in
      let m = notes_cost rule in
      let n = total-push listing_weight rules rule in
      let o = short.1 in
      omega (arith, a, b, c, d, e, f, g, h, i, j, k, l, m, n, o)

  pub rule_put : PutsRules start new (rules ++ rule ∷ []) codes
  rule_put = record {
    others = others;
    grows = grows_after start old new done.grows all_grows;
    say = record {
      count = ap length rules_are ∙ length-append old.rules (row ∷ []) ∙ ap (λ n. n + 1) done.say.count ∙ sym (length-append rules (rule ∷ []));
      enough = let b = slice_get_within codes (length rules) code coded in let e = length-append rules (rule ∷ []) in omega (arith, b, e);
      each = each;
      follow = follow;
      whole = whole;
    };
    cost = cost;
  }

pub end_at : (old first second third new : Image) (notes : List Note) (name space : List ℕ) (name_place space_place : ℕ) (row : RuleRow) (first_note count end : ℕ)
    → PutsNotes old first notes → HasText first second name name_place → HasText second third space space_place → new ≡ record third { rules = third.rules ++ row ∷ [] }
    → first_note ≡ length old.notes → count ≡ length notes → end ≡ first_note + count → end ≡ length new.notes
end_at old first second third new notes name space name_place space_place row first_note count end puts named spaced put f c e =
    let a : length new.notes ≡ length old.notes + length puts.rows =
    ap (λ (i : Image). length i.notes) put ∙ ap (λ (i : Image). length i.notes) spaced.others ∙ ap (λ (i : Image). length i.notes) named.others
    ∙ ap length puts.pushed ∙ length-append old.notes puts.rows in
    let b = say_count first notes puts.rows puts.say in
    omega (arith, a, b, f, c, e)
