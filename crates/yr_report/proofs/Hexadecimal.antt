-- The digits of a number in base 16, one at a time from the last.
use Rattle.std.proofs.Common.{◌≡◌, ℕ, zero, suc, ◌+◌, ◌-◌, ◌*◌, ◌/◌, ◌%◌, ◌^◌, ◌<◌, ◌≤◌, true, false, List, ◌∷◌, length, drop, slice_set, refl, sym, ap, ◌∙◌, arith}
use Rattle.std.specs.Bool.{◌==◌}
use Rattle.std.proofs.Math.Nat.{pow-suc}
use Rattle.std.proofs.lemmas.List.{drop-set, drop_all}
use Rattle.std.specs.Fmt.{digits, digits_onto, digit_glyph}
use Rattle.yr_base.specs.Digits.{hexadecimal}

pub fewer : (left start : ℕ) → 0 < start → left < 16 ^ start → left / 16 < 16 ^ (start - 1)
fewer left zero some fits = absurd (omega arith)
fewer left (suc s) some fits =
    let e : suc s - 1 ≡ s = omega arith in
    let p : 16 ^ suc s ≡ 16 ^ s * 16 = pow-suc 16 s in
    rw e (omega arith)

pub room_left : (left start : ℕ) → 16 ≤ left → left < 16 ^ start → 1 < start
room_left left zero big fits = absurd (omega arith)
room_left left (suc zero) big fits = absurd (omega arith)
room_left left (suc (suc s)) big fits = omega arith

pub all_left : (n : ℕ) (buffer : List ℕ) → length buffer ≡ 16 → digits_onto 64 16 false n (drop 16 buffer) ≡ hexadecimal n
unfolding digits
all_left n buffer e = ap (digits_onto 64 16 false n) (drop_all 16 buffer (omega arith))

pub one_more : (k left : ℕ) (acc : List ℕ) → 16 ≤ left
    → digits_onto (suc k) 16 false left acc ≡ digits_onto k 16 false (left / 16) (digit_glyph false (left % 16) ∷ acc)
one_more k left acc big = let e : left / 16 == 0 ≡ false = grind arith in rw e refl

pub last_one : (k left : ℕ) (acc : List ℕ) → left < 16 → digits_onto (suc k) 16 false left acc ≡ digit_glyph false left ∷ acc
last_one k left acc small =
    let e : left / 16 == 0 ≡ true = grind arith in
    let r : left % 16 ≡ left = omega arith in
    rw (e, r) refl

pub kept : (start left n d : ℕ) (buffer : List ℕ) → 1 < start → start ≤ 16 → length buffer ≡ 16 → 16 ≤ left → d ≡ digit_glyph false (left % 16)
    → digits_onto (start + 48) 16 false left (drop start buffer) ≡ hexadecimal n
    → digits_onto (start - 1 + 48) 16 false (left / 16) (drop (start - 1) (slice_set buffer (start - 1) d)) ≡ hexadecimal n
kept start left n d buffer some within room big e so_far =
    let fuel : start + 48 ≡ suc (start - 1 + 48) = omega arith in
    let one : start - 1 + 1 ≡ start = omega arith in
    rw (drop-set buffer (start - 1) d (omega arith), one, e) (sym (one_more (start - 1 + 48) left (drop start buffer) big) ∙ (rw fuel at so_far))

pub ended : (start left n d : ℕ) (buffer : List ℕ) → 0 < start → start ≤ 16 → length buffer ≡ 16 → left < 16 → d ≡ digit_glyph false left
    → digits_onto (start + 48) 16 false left (drop start buffer) ≡ hexadecimal n
    → drop (start - 1) (slice_set buffer (start - 1) d) ≡ hexadecimal n
ended start left n d buffer some within room small e so_far =
    let fuel : start + 48 ≡ suc (start - 1 + 48) = omega arith in
    let one : start - 1 + 1 ≡ start = omega arith in
    rw (drop-set buffer (start - 1) d (omega arith), one, e) (sym (last_one (start - 1 + 48) left (drop start buffer) small) ∙ (rw fuel at so_far))
