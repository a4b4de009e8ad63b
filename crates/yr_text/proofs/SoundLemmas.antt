-- Each variant of a text that has a byte is sound.
use Rattle.std.proofs.Common.{◌≡◌, ℕ, ◌<◌, ◌+◌, ◌-◌, Bool, true, false, List, [], ◌∷◌, ◌++◌, length, refl, arith, suc}
use Rattle.std.specs.Prelude.{◌||◌, not, nat_lt, is_some, Option, Some, None, if◌then◌else◌}
use Rattle.std.specs.List.{All, flat_map, range_with_len}
use Rattle.std.proofs.lemmas.Bool.{ltb-true}
use Rattle.std.proofs.lemmas.List.Elements.{All-nil, All-cons, All-append, All-map}
use Rattle.yr_base.specs.declared.border.Border.{Border}
use Rattle.yr_text.specs.declared.modifiers.Modifiers.{Modifiers}
use Rattle.yr_text.specs.Forms.{PlainForm, widened, plain_border, wide_border, plain_form, wide_form, forms_of}
use Rattle.yr_text.specs.Encoding.{encoded}
use Rattle.yr_text.specs.Variants.{keyed, literal, literals_of, literals, unless_empty, spread, aligned, alignments, encodings, variants_of, IsSound}

-- a form that has a byte
abbrev pub HasByte : PlainForm → Type 0
HasByte form = 0 < length form.bytes

All-every : {X : Type 0} (P : X → Type 0) (xs : List X) → ((x : X) → P x) → All P xs
All-every P [] every = All-nil P
All-every P (x ∷ xs) every = All-cons P x xs (every x) (All-every P xs every)

All-one : {X : Type 0} (P : X → Type 0) (x : X) → P x → All P (x ∷ [])
All-one P x h = All-cons P x [] h (All-nil P)

All-flat_map : {X A : Type 0} (Q : X → Type 0) (P : A → Type 0) (f : X → List A) (xs : List X) → ((x : X) → Q x → All P (f x)) → All Q xs → All P (flat_map f xs)
All-flat_map Q P f [] each all = All-nil P
All-flat_map Q P f (x ∷ xs) each all =
    All-append P (f x) (flat_map f xs) (each x (all 0 x (omega arith))) (All-flat_map Q P f xs each (λ k d h. all (suc k) d (omega arith)))

widened-byte : (bytes : List ℕ) → 0 < length bytes → 0 < length (widened bytes)
widened-byte [] h = omega (arith, h)
widened-byte (b ∷ bs) h = omega arith

one_if : {X : Type 0} (P : X → Type 0) (b : Bool) (x : X) → (b ≡ true → P x) → All P (if b then x ∷ [] else [])
one_if P true x h = All-one P x (h refl)
one_if P false x h = All-nil P

plain-byte : (bytes : List ℕ) (m : Modifiers) → 0 < length bytes → All HasByte (plain_form bytes m)
plain-byte bytes m h = one_if HasByte (m.ascii || not m.wide) (record { bytes = bytes; border = plain_border m }) (λ e. h)

wide-byte : (bytes : List ℕ) (m : Modifiers) → 0 < length bytes → All HasByte (wide_form bytes m)
wide-byte bytes m h = one_if HasByte m.wide (record { bytes = widened bytes; border = wide_border m }) (λ e. widened-byte bytes h)

forms-byte : (bytes : List ℕ) (m : Modifiers) → 0 < length bytes → All HasByte (forms_of bytes m)
forms-byte bytes m h = All-append HasByte (plain_form bytes m) (wide_form bytes m) (plain-byte bytes m h) (wide-byte bytes m h)

literals_of-sound : (xor : Option (ℕ × ℕ)) (nocase : Bool) (form : PlainForm) → HasByte form → All IsSound (literals_of xor nocase form)
literals_of-sound None nocase form h = All-one IsSound _ (h, λ e. refl)
literals_of-sound (Some keys) nocase form h =
    All-map IsSound (keyed form) (range_with_len keys.0 (keys.1 + 1 - keys.0))
    (All-every (λ key. IsSound (keyed form key)) (range_with_len keys.0 (keys.1 + 1 - keys.0)) (λ key. (h, λ e. cc)))

unless_empty-sound : (text : List ℕ) (border : Border) → All IsSound (unless_empty text border)
unless_empty-sound text border =
    one_if IsSound (nat_lt 0 (length text)) (literal text 0 false border) (λ e. (ltb-true 0 (length text) e, λ folds. refl))

encodings-sound : (alphabet : Option (List ℕ)) (wide : Bool) (forms : List PlainForm) → All IsSound (encodings alphabet wide forms)
encodings-sound None wide forms = All-nil IsSound
encodings-sound (Some alphabet) wide forms =
    All-flat_map (λ form. Unit {0}) IsSound (alignments alphabet wide) forms
    (λ form h. All-append IsSound (aligned alphabet wide form 0 ++ aligned alphabet wide form 1) (aligned alphabet wide form 2)
    (All-append IsSound (aligned alphabet wide form 0) (aligned alphabet wide form 1)
    (unless_empty-sound (spread wide (encoded alphabet form.bytes 0)) form.border)
    (unless_empty-sound (spread wide (encoded alphabet form.bytes 1)) form.border))
    (unless_empty-sound (spread wide (encoded alphabet form.bytes 2)) form.border))
    (λ k d h. tt)

literals-sound : (m : Modifiers) (forms : List PlainForm) → All HasByte forms → All IsSound (literals m forms)
literals-sound m forms h =
    elim (is_some m.base64 || is_some m.base64wide) as (λ b. All IsSound (if b then [] else flat_map (literals_of m.xor m.nocase) forms)) [
      | true ↦ All-nil IsSound
      | false ↦ All-flat_map HasByte IsSound (literals_of m.xor m.nocase) forms (literals_of-sound m.xor m.nocase) h
    ]

pub variants-sound : (bytes : List ℕ) (m : Modifiers) → 0 < length bytes → All IsSound (variants_of bytes m)
variants-sound bytes m h =
    All-append IsSound (literals m (forms_of bytes m) ++ encodings m.base64 false (forms_of bytes m)) (encodings m.base64wide true (forms_of bytes m))
    (All-append IsSound (literals m (forms_of bytes m)) (encodings m.base64 false (forms_of bytes m))
    (literals-sound m (forms_of bytes m) (forms-byte bytes m h)) (encodings-sound m.base64 false (forms_of bytes m)))
    (encodings-sound m.base64wide true (forms_of bytes m))
