-- The bytes of a token have one kind.
use Rattle.std.proofs.Common.{◌≡◌, ℕ, Bool, true, false, [], ◌∷◌, ◌++◌, length, refl, sym, ap, subst, ◌∙◌, ⊎_elim, arith}
use Rattle.std.specs.Prelude.{◌==◌, ◌||◌, ℤ, pos}
use Rattle.std.proofs.lemmas.Bool.{eqb-true, or_cases}
use Rattle.std.proofs.lemmas.List.Elements.{All-head, All-tail}
use Rattle.yr_base.specs.Bytes.{is_word_byte}
use Rattle.yr_base.specs.Words.{IsReserved}
use Rattle.yr_lexer.specs.declared.token.TokenKind.{TokenKind}
use Rattle.yr_lexer.specs.declared.token.TokenKind.TheVariants as kind
use Rattle.yr_lexer.specs.Gaps.{Text}
use Rattle.yr_lexer.specs.Numbers.{IsNumber}
use Rattle.yr_lexer.specs.Forms.{AreWordBytes, AreFlags, no_flag, flag_i, flag_s, flags_is, flags_si}
use Rattle.yr_lexer.specs.Faults.{Fits}
use Rattle.yr_lexer.proofs.Basics.{same-front}
use Rattle.yr_lexer.proofs.NumberLemmas.{number-one}
use Rattle.yr_lexer.proofs.UnitLemmas.{units-one}
use Rattle.yr_lexer.proofs.SignLemmas.{bang-sign}
use Rattle.yr_lexer.proofs.RegexBranch.{regex-units}
use Rattle.yr_lexer.proofs.HexLemmas.{fits-hex, HexEnds-shorter, brace-sign}
use Rattle.yr_lexer.proofs.FirstLemmas.{class_of, may_begin, begins, begins-at, only-word, only-number, only-text, only-string_name, only-count, only-place, only-length, only-regex, only-hex, only-sign, same-head, same-tail}

abbrev IsWordByte : ℕ → Type 0
IsWordByte b = is_word_byte b ≡ true

no-star : (w : Text) → AreWordBytes (w ++ 42 ∷ []) → ⊥
no-star [] h = let i : is_word_byte 42 ≡ true = All-head IsWordByte 42 [] h in cc
no-star (b ∷ w) h = no-star w (All-tail IsWordByte b (w ++ 42 ∷ []) h)

no-equals : (w : Text) → AreWordBytes w → w ≡ 61 ∷ [] → ⊥
no-equals w h e = let i : is_word_byte 61 ≡ true = All-head IsWordByte 61 [] (subst AreWordBytes e h) in cc

is_flag : ℕ → Text → Bool
is_flag x [] = false
is_flag x (b ∷ t) = b == x || is_flag x t

flags-are : {i s : Bool} {w : Text} → AreFlags i s w → (i ≡ is_flag 105 w) × (s ≡ is_flag 115 w)
unfolding is_flag
flags-are no_flag = (refl, refl)
flags-are flag_i = (refl, refl)
flags-are flag_s = (refl, refl)
flags-are flags_is = (refl, refl)
flags-are flags_si = (refl, refl)

regex-kind : (i s i' s' : Bool) → i ≡ i' → s ≡ s' → kind.Regex i s ≡ kind.Regex i' s'
regex-kind i s i' s' e f = ap (λ (x : Bool). kind.Regex x s) e ∙ ap (λ (x : Bool). kind.Regex i' x) f

module _ (a : Bool) where
  same-bytes : (t : Text) (k k' : TokenKind) (rest rest' : Text) → length rest ≡ length rest' → (f : Fits a t k rest) → (g : Fits a t k' rest') → f.bytes ≡ g.bytes
  same-bytes t k k' rest rest' l f g = same-front f.bytes g.bytes rest rest' (sym f.whole ∙ g.whole) l

  abbrev Same : ℕ → Text → Text → Text → TokenKind → TokenKind → Type 0
  Same b t rest rest' k k' = Fits a (b ∷ t) k rest → Fits a (b ∷ t) k' rest' → k ≡ k'

  module _ (b : ℕ) (t rest rest' : Text) (l : length rest ≡ length rest') where
    word-reserved : Same b t rest rest' kind.Word kind.Reserved
    word-reserved f g = absurd (f.form.1 (subst IsReserved (sym (same-bytes (b ∷ t) kind.Word kind.Reserved rest rest' l f g)) g.form))

    reserved-word : Same b t rest rest' kind.Reserved kind.Word
    reserved-word f g = absurd (g.form.1 (subst IsReserved (same-bytes (b ∷ t) kind.Reserved kind.Word rest rest' l f g) f.form))

    name-wild : Same b t rest rest' kind.StringName kind.StringWild
    name-wild f g =
        let e = same-bytes (b ∷ t) kind.StringName kind.StringWild rest rest' l f g in
        let n : f.form.0 ≡ g.form.0 ++ 42 ∷ [] = same-tail 36 36 f.form.0 (g.form.0 ++ 42 ∷ []) (sym f.form.1 ∙ e ∙ g.form.1) in
        absurd (no-star g.form.0 (subst AreWordBytes n f.form.2))

    wild-name : Same b t rest rest' kind.StringWild kind.StringName
    wild-name f g =
        let e = same-bytes (b ∷ t) kind.StringWild kind.StringName rest rest' l f g in
        let n : g.form.0 ≡ f.form.0 ++ 42 ∷ [] = same-tail 36 36 g.form.0 (f.form.0 ++ 42 ∷ []) (sym g.form.1 ∙ sym e ∙ f.form.1) in
        absurd (no-star f.form.0 (subst AreWordBytes n g.form.2))

    numbers : (m n : ℤ) → Same b t rest rest' (kind.Number m) (kind.Number n)
    numbers m n f g =
        let e = same-bytes (b ∷ t) (kind.Number m) (kind.Number n) rest rest' l f g in
        let v = number-one g.bytes f.form.0 g.form.0 (subst (λ (x : Text). IsNumber x f.form.0) e f.form.2) g.form.2 in
        ap (λ (x : ℤ). kind.Number x) (f.form.1 ∙ ap pos v ∙ sym g.form.1)

    regexes : (i s i' s' : Bool) → (b ≡ 47) → Same b t rest rest' (kind.Regex i s) (kind.Regex i' s')
    regexes i s i' s' at f g =
        let c = regex-units a t i s rest (subst (λ (x : ℕ). Fits a (x ∷ t) (kind.Regex i s) rest) at f) in
        let d = regex-units a t i' s' rest' (subst (λ (x : ℕ). Fits a (x ∷ t) (kind.Regex i' s') rest') at g) in
        let after : c.0 ++ rest ≡ d.0 ++ rest' = units-one 47 refl refl t (c.0 ++ rest) (d.0 ++ rest') c.2 d.2 in
        let w : c.0 ≡ d.0 = same-front c.0 d.0 rest rest' after l in
        let p = flags-are c.1 in
        let q = flags-are d.1 in
        regex-kind i s i' s' (p.0 ∙ ap (is_flag 105) w ∙ sym q.0) (p.1 ∙ ap (is_flag 115) w ∙ sym q.1)

  one-short : (name rest : Text) (x : ℕ) (rest' : Text) → name ++ rest ≡ x ∷ rest' → length rest ≡ length rest' → name ≡ x ∷ []
  one-short name rest x rest' e l = same-front name (x ∷ []) rest rest' e l

  length-sign : (t rest rest' : Text) → length rest ≡ length rest' → Fits a (33 ∷ t) kind.LengthName rest → Fits a (33 ∷ t) kind.Sign rest' → ⊥
  length-sign t rest rest' l f g =
      let e : t ≡ f.form.0 ++ rest = same-tail 33 33 t (f.form.0 ++ rest) (f.whole ∙ ap (λ (x : Text). x ++ rest) f.form.1) in
      no-equals f.form.0 f.form.2 (one-short f.form.0 rest 61 rest' (sym e ∙ bang-sign a t rest' g) l)

  hex-sign : (t rest rest' : Text) → length rest ≡ length rest' → Fits a (123 ∷ t) kind.Hex rest → Fits a (123 ∷ t) kind.Sign rest' → ⊥
  hex-sign t rest rest' l f g =
      let s = HexEnds-shorter (fits-hex t a rest f) in
      let e = ap (λ (x : Text). length x) (brace-sign t a rest' g) in
      omega arith

  first-of : (c : ℕ) (w bytes : Text) (b : ℕ) (t rest : Text) → b ∷ t ≡ bytes ++ rest → bytes ≡ c ∷ w → b ≡ c
  first-of c w bytes b t rest e f = same-head b c t (w ++ rest) (e ∙ ap (λ (x : Text). x ++ rest) f)

  length-first : (b : ℕ) (t rest : Text) → Fits a (b ∷ t) kind.LengthName rest → b ≡ 33
  length-first b t rest f = first-of 33 f.form.0 f.bytes b t rest f.whole f.form.1

  hex-first : (b : ℕ) (t rest : Text) → Fits a (b ∷ t) kind.Hex rest → b ≡ 123
  hex-first b t rest f = first-of 123 f.form.1 f.bytes b t rest f.whole f.form.2

  regex-first : (i s : Bool) (b : ℕ) (t rest : Text) → Fits a (b ∷ t) (kind.Regex i s) rest → b ≡ 47
  regex-first i s b t rest f = first-of 47 (f.form.0 ++ 47 ∷ f.form.1) f.bytes b t rest f.whole f.form.2

  no-length_sign : (b : ℕ) (t rest rest' : Text) → length rest ≡ length rest' → Fits a (b ∷ t) kind.LengthName rest → Fits a (b ∷ t) kind.Sign rest' → ⊥
  no-length_sign b t rest rest' l f g =
      let e = length-first b t rest f in
      length-sign t rest rest' l (subst (λ (x : ℕ). Fits a (x ∷ t) kind.LengthName rest) e f) (subst (λ (x : ℕ). Fits a (x ∷ t) kind.Sign rest') e g)

  no-hex_sign : (b : ℕ) (t rest rest' : Text) → length rest ≡ length rest' → Fits a (b ∷ t) kind.Hex rest → Fits a (b ∷ t) kind.Sign rest' → ⊥
  no-hex_sign b t rest rest' l f g =
      let e = hex-first b t rest f in
      hex-sign t rest rest' l (subst (λ (x : ℕ). Fits a (x ∷ t) kind.Hex rest) e f) (subst (λ (x : ℕ). Fits a (x ∷ t) kind.Sign rest') e g)

  module _ (b : ℕ) (t rest rest' : Text) (l : length rest ≡ length rest') where
    abbrev Is : TokenKind → TokenKind → Type 0
    Is k k' = Fits a (b ∷ t) k' rest' → k ≡ k'

    class : (k : TokenKind) (n : ℕ) → (may_begin k (class_of b) ≡ true → (class_of b == n) ≡ true) → Fits a (b ∷ t) k rest → class_of b ≡ n
    class k n h f = eqb-true (class_of b) n (h (begins a b t k rest f))

    sign-class : (k' : TokenKind) → may_begin kind.Sign (class_of b) ≡ true → Fits a (b ∷ t) kind.Sign rest → Is kind.Sign k'
    sign-class k' m f = ⊎_elim six (λ h. ⊎_elim eight nine (or_cases (class_of b == 8) (class_of b == 9) h)) (or_cases (class_of b == 6) (class_of b == 8 || class_of b == 9) m)
      where
        six : (class_of b == 6) ≡ true → Is kind.Sign k'
        six e g = only-length (λ k. Is kind.Sign k) (λ g. absurd (no-length_sign b t rest' rest (sym l) g f)) (λ g. refl) k' (begins-at a b t k' rest' 6 (eqb-true (class_of b) 6 e) g) g

        eight : (class_of b == 8) ≡ true → Is kind.Sign k'
        eight e g = only-hex (λ k. Is kind.Sign k) (λ g. absurd (no-hex_sign b t rest' rest (sym l) g f)) (λ g. refl) k' (begins-at a b t k' rest' 8 (eqb-true (class_of b) 8 e) g) g

        nine : (class_of b == 9) ≡ true → Is kind.Sign k'
        nine e g = only-sign (λ k. Is kind.Sign k) (λ g. refl) k' (begins-at a b t k' rest' 9 (eqb-true (class_of b) 9 e) g) g

    pub fits-one : (k k' : TokenKind) → Fits a (b ∷ t) k rest → Fits a (b ∷ t) k' rest' → k ≡ k'
    fits-one kind.Word k' f g = only-word (λ k. Is kind.Word k) (λ g. refl) (λ g. word-reserved b t rest rest' l f g) k' (begins-at a b t k' rest' 0 (class kind.Word 0 (λ h. h) f) g) g
    fits-one kind.Reserved k' f g = only-word (λ k. Is kind.Reserved k) (λ g. reserved-word b t rest rest' l f g) (λ g. refl) k' (begins-at a b t k' rest' 0 (class kind.Reserved 0 (λ h. h) f) g) g
    fits-one kind.StringName k' f g = only-string_name (λ k. Is kind.StringName k) (λ g. refl) (λ g. name-wild b t rest rest' l f g) k' (begins-at a b t k' rest' 3 (class kind.StringName 3 (λ h. h) f) g) g
    fits-one kind.StringWild k' f g = only-string_name (λ k. Is kind.StringWild k) (λ g. wild-name b t rest rest' l f g) (λ g. refl) k' (begins-at a b t k' rest' 3 (class kind.StringWild 3 (λ h. h) f) g) g
    fits-one kind.CountName k' f g = only-count (λ k. Is kind.CountName k) (λ g. refl) k' (begins-at a b t k' rest' 4 (class kind.CountName 4 (λ h. h) f) g) g
    fits-one kind.PlaceName k' f g = only-place (λ k. Is kind.PlaceName k) (λ g. refl) k' (begins-at a b t k' rest' 5 (class kind.PlaceName 5 (λ h. h) f) g) g
    fits-one kind.LengthName k' f g = only-length (λ k. Is kind.LengthName k) (λ g. refl) (λ g. absurd (no-length_sign b t rest rest' l f g)) k' (begins-at a b t k' rest' 6 (class kind.LengthName 6 (λ h. h) f) g) g
    fits-one (kind.Number m) k' f g = only-number (λ k. Is (kind.Number m) k) (λ n g. numbers b t rest rest' l m n f g) k' (begins-at a b t k' rest' 1 (class (kind.Number m) 1 (λ h. h) f) g) g
    fits-one kind.Text k' f g = only-text (λ k. Is kind.Text k) (λ g. refl) k' (begins-at a b t k' rest' 2 (class kind.Text 2 (λ h. h) f) g) g
    fits-one (kind.Regex i s) k' f g = only-regex (λ k. Is (kind.Regex i s) k) (λ i' s' g. regexes b t rest rest' l i s i' s' (regex-first i s b t rest f) f g) k' (begins-at a b t k' rest' 7 (class (kind.Regex i s) 7 (λ h. h) f) g) g
    fits-one kind.Hex k' f g = only-hex (λ k. Is kind.Hex k) (λ g. refl) (λ g. absurd (no-hex_sign b t rest rest' l f g)) k' (begins-at a b t k' rest' 8 (class kind.Hex 8 (λ h. h) f) g) g
    fits-one kind.Sign k' f g = sign-class k' (begins a b t kind.Sign rest f) f g
