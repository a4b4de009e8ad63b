-- The code of rules that is put, rule after rule.
use Rattle.std.proofs.Common.{◌≡◌, ℕ, zero, suc, ◌+◌, ◌*◌, ◌<◌, ◌≤◌, ◌⊎◌, inl, inr, List, [], ◌∷◌, ◌++◌, length, take, drop, Option, Some, slice_get, refl, sym, ap, ◌∙◌, subst, arith}
use Rattle.std.specs.Option.{option_map_or}
use Rattle.std.proofs.lemmas.List.{length-append, append-nil}
use Rattle.std.proofs.lemmas.Option.{none-some, slice_get_within}
use Rattle.yr_base.specs.declared.value.Kind.{Kind}
use Rattle.yr_rules.specs.Rules.{PlainExternal, PlainRule}
use Rattle.yr_rules.specs.Weight.{total}
use Rattle.yr_rules.specs.Kinds.{kind_of}
use Rattle.yr_rules.specs.Fits.{Rows, Fits}
use Rattle.yr_image.specs.declared.rows.CodeRow.{CodeRow}
use Rattle.yr_image.specs.Sections.{header_length, rule_width}
use Rattle.yr_image.specs.Image.{Image}
use Rattle.yr_image.specs.Encoding.{encoded_length}
use Rattle.yr_machine.specs.Rows.{end_before}
use Rattle.yr_draft.specs.Growing.{BeginsAs, Grows}
use Rattle.yr_draft.proofs.RunLemmas.{get_left}
use Rattle.yr_draft.proofs.GrowLemmas.{pushed_at, grows_after, grows_same}
use Rattle.yr_emission.specs.Parts.{rule_part}
use Rattle.yr_emission.specs.Standing.{Stands}
use Rattle.yr_emission.specs.Emitted.{Emitted, code_bytes}
use Rattle.yr_emission.proofs.WrittenStands.{stands_grows}
use Rattle.yr_emission.proofs.EmittedLemmas.{rule_stands, rule_size, rule_fits}
use Rattle.yr_splits.specs.Programs.{AreProgramRows}
use Rattle.yr_splits.proofs.GrowLemmas.{kept_range}
use Rattle.yr_splits.proofs.PlacedLemmas.{push_place}
use Rattle.yr_compiler.specs.declared.code_range.CodeRange.{CodeRange}
use Rattle.yr_compiler.specs.Codes.{range_end}
use Rattle.yr_compiler.proofs.NoteLemmas.{total-push}
use Rattle.yr_compiler.specs.Built.{HasRuleCode, PutsCodes, condition_weight}

same_begin : {X : Type 0} (xs : List X) → BeginsAs xs xs
same_begin xs = ([], sym (append-nil xs))

-- a rule's code stays as the image grows
pub code_stays : (old new : Image) (externals : List PlainExternal) (rule : PlainRule) (code : CodeRange) → Grows old new → BeginsAs old.code new.code → BeginsAs old.lists new.lists
    → HasRuleCode old externals rule code → HasRuleCode new externals rule code
code_stays old new externals rule code grows rows lists h =
    let kept : take code.rows (drop code.first new.code) ≡ take code.rows (drop code.first old.code) = kept_range old.code new.code code.first code.rows rows h.inside in
    let P : List CodeRow → Type 0 = λ l. length l ≡ (rule_part externals rule.condition).size in
    let Q : List CodeRow → Type 0 = λ l. Stands new l (rule_part externals rule.condition) 0 h.first_list in
    record {
      first_list = h.first_list;
      inside = let i = h.inside in let e : length new.code ≡ length old.code + length rows.0 = ap length rows.1 ∙ length-append old.code rows.0 in omega (arith, i, e);
      size = subst P (sym kept) h.size;
      stands = subst Q (sym kept) (stands_grows old new grows lists (take code.rows (drop code.first old.code)) (rule_part externals rule.condition) 0 h.first_list h.stands);
    }

-- no rule yet
pub no_codes : (image : Image) (externals : List PlainExternal) → image.code ≡ [] → PutsCodes image image externals [] []
no_codes image externals none = record {
  others = refl;
  grows = grows_same image image refl refl refl refl;
  programs = λ h. h;
  count = refl;
  follow = record { some = λ k code h. absurd (none-some code h); follow = λ k code h. absurd (none-some code h); whole = sym (ap length none) };
  code = λ k rule range h g. absurd (none-some rule h);
  cost = omega arith;
}

end_same : (codes : List CodeRange) (code : CodeRange) (k : ℕ) → k ≤ length codes → end_before range_end (codes ++ code ∷ []) k ≡ end_before range_end codes k
end_same codes code zero b = refl
end_same codes code (suc k) b = ap (λ (o : Option CodeRange). option_map_or range_end o 0) (get_left codes (code ∷ []) k (omega (arith, b)))

-- the bytes of the sections that code leaves alone
abbrev other_bytes : Image → ℕ
other_bytes image =
    header_length + rule_width image.version * length image.rules + 24 * length image.notes + 24 * length image.externals + 16 * length image.strings
    + 32 * length image.splits + 24 * length image.nodes + 8 * length image.edges + 4 * length image.outputs

in_parts : (image : Image) → encoded_length image ≡ other_bytes image + code_bytes image
in_parts image = omega arith

-- the code of the next rule
module _ (start old new : Image) (externals : List PlainExternal) (rules : List PlainRule) (codes : List CodeRange) (rule : PlainRule) (range : CodeRange)
    (k : Kind) (bounds : Rows) (kind : kind_of externals rule.condition [] ≡ Some k) (fits : Fits bounds rule.condition [])
    (e : Emitted externals rule.condition old new range.first range.rows) (programs : AreProgramRows old → AreProgramRows new) (done : PutsCodes start old externals rules codes) where
  rows_begin : BeginsAs old.code new.code
  rows_begin = (e.rows, e.code)

  lists_begin : BeginsAs old.lists new.lists
  lists_begin = ((rule_part externals rule.condition).lists, e.lists)

  long : length new.code ≡ length old.code + length e.rows
  long = ap length e.code ∙ length-append old.code e.rows

  here : HasRuleCode new externals rule range
  here = record {
    first_list = length old.lists;
    inside = let a = e.is_first in let b = e.is_count in let c = long in omega (arith, a, b, c);
    size = rule_size externals rule.condition old new new range.first range.rows e (same_begin new.code);
    stands = rule_stands externals rule.condition k bounds old new new range.first range.rows e (grows_same new new refl refl refl refl) (same_begin new.code) (same_begin new.lists) kind fits;
  }

  code_at : (n : ℕ) (r : PlainRule) (c : CodeRange) → slice_get (rules ++ rule ∷ []) n ≡ Some r → slice_get (codes ++ range ∷ []) n ≡ Some c → HasRuleCode new externals r c
  code_at n r c h g = at (push_place rules rule n r h) (push_place codes range n c g)
    where
      at : (slice_get rules n ≡ Some r) ⊎ ((n ≡ length rules) × (rule ≡ r)) → (slice_get codes n ≡ Some c) ⊎ ((n ≡ length codes) × (range ≡ c)) → HasRuleCode new externals r c
      at (inl a) (inl b) = code_stays old new externals r c e.grows rows_begin lists_begin (done.code n r c a b)
      at (inl a) (inr b) = let w = slice_get_within rules n r a in let m = done.count in absurd (omega (arith, w, b.0, m))
      at (inr a) (inl b) = let w = slice_get_within codes n c b in let m = done.count in absurd (omega (arith, w, a.0, m))
      at (inr a) (inr b) =
          let P : PlainRule → Type 0 = λ x. HasRuleCode new externals x c in
          let Q : CodeRange → Type 0 = λ x. HasRuleCode new externals rule x in
          subst P a.1 (subst Q b.1 here)

  some_rows : 0 < range.rows
  some_rows = let a = e.size in let b = e.is_count in omega (arith, a, b)

  follow_at : (n : ℕ) (c : CodeRange) → slice_get (codes ++ range ∷ []) n ≡ Some c → c.first ≡ end_before range_end (codes ++ range ∷ []) n
  follow_at n c h = at (push_place codes range n c h)
    where
      at : (slice_get codes n ≡ Some c) ⊎ ((n ≡ length codes) × (range ≡ c)) → c.first ≡ end_before range_end (codes ++ range ∷ []) n
      at (inl a) = let b = slice_get_within codes n c a in done.follow.follow n c a ∙ sym (end_same codes range n (omega (arith, b)))
      at (inr a) =
          let low : n ≤ length codes = omega (arith, a.0) in
          sym (ap (λ (x : CodeRange). x.first) a.1) ∙ e.is_first ∙ sym done.follow.whole ∙ ap (λ m. end_before range_end codes m) (sym a.0) ∙ sym (end_same codes range n low)

  whole : end_before range_end (codes ++ range ∷ []) (length (codes ++ range ∷ [])) ≡ length new.code
  whole =
      let n : length (codes ++ range ∷ []) ≡ suc (length codes) = length-append codes (range ∷ []) ∙ omega arith in
      let end : range.first + range.rows ≡ length new.code = let a = e.is_first in let b = e.is_count in let c = long in omega (arith, a, b, c) in
      ap (λ m. end_before range_end (codes ++ range ∷ []) m) n ∙ ap (λ (o : Option CodeRange). option_map_or range_end o 0) (pushed_at codes range) ∙ end

  some_at : (n : ℕ) (c : CodeRange) → slice_get (codes ++ range ∷ []) n ≡ Some c → 0 < c.rows
  some_at n c h = at (push_place codes range n c h)
    where
      at : (slice_get codes n ≡ Some c) ⊎ ((n ≡ length codes) × (range ≡ c)) → 0 < c.rows
      at (inl a) = done.follow.some n c a
      at (inr a) = subst (λ (x : CodeRange). 0 < x.rows) a.1 some_rows

  others : new ≡ record start { sets = new.sets; programs = new.programs; moves = new.moves; lists = new.lists; code = new.code; pool = new.pool }
  others =
      ap (λ (i : Image). record i { sets = new.sets; programs = new.programs; moves = new.moves; lists = new.lists; code = new.code; pool = new.pool }) e.others
      ∙ ap (λ (i : Image). record i { sets = new.sets; programs = new.programs; moves = new.moves; lists = new.lists; code = new.code; pool = new.pool }) done.others

  cost : encoded_length new ≤ encoded_length start + 64 * total condition_weight (rules ++ rule ∷ [])
  cost =
      let a = done.cost in
      let b = rule_fits externals rule.condition k old new range.first range.rows e kind in
      let c = in_parts old in
      let d = in_parts new in
      let f : other_bytes new ≡ other_bytes old = ap other_bytes e.others in
      let g = total-push condition_weight rules rule in
      omega (arith, a, b, c, d, f, g)

  pub code_put : PutsCodes start new externals (rules ++ rule ∷ []) (codes ++ range ∷ [])
  code_put = record {
    others = others;
    grows = grows_after start old new done.grows e.grows;
    programs = λ h. programs (done.programs h);
    count = length-append codes (range ∷ []) ∙ ap (λ n. n + 1) done.count ∙ sym (length-append rules (rule ∷ []));
    follow = record { some = some_at; follow = follow_at; whole = whole };
    code = code_at;
    cost = cost;
  }
