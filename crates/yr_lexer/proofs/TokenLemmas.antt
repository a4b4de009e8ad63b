-- A candidate is the token, unless its name is too long.
use Rattle.std.proofs.Common.{◌≡◌, ◌≢◌, ℕ, ◌-◌, ◌<◌, ◌≤◌, Bool, [], ◌∷◌, length, refl, ap, subst, ◌∙◌, arith, length-append}
use Rattle.yr_lexer.specs.declared.token.TokenKind.{TokenKind}
use Rattle.yr_lexer.specs.declared.fault.FaultRow.{FaultRow}
use Rattle.yr_lexer.specs.declared.fault.FaultRow.TheVariants as row
use Rattle.yr_lexer.specs.Gaps.{Text}
use Rattle.yr_lexer.specs.Forms.{name_length}
use Rattle.yr_lexer.specs.Faults.{Longest, IsLongName, IsFault, IsFirstFault}
use Rattle.yr_lexer.specs.Tokens.{IsToken}
use Rattle.yr_lexer.specs.Candidates.{IsCandidate}
use Rattle.yr_lexer.proofs.KindLemmas.{fits-one}

-- two longest tokens are of one kind and one length
pub longest-length : (a : Bool) (t : Text) (k k' : TokenKind) (rest rest' : Text) → Longest a t k rest → Longest a t k' rest' → length rest ≡ length rest'
longest-length a t k k' rest rest' l m =
    let x = l.greatest k' rest' m.fits in
    let y = m.greatest k rest l.fits in
    omega arith

pub longest-kind : (a : Bool) (b : ℕ) (t : Text) (k k' : TokenKind) (rest rest' : Text) → Longest a (b ∷ t) k rest → Longest a (b ∷ t) k' rest' → k ≡ k'
longest-kind a b t k k' rest rest' l m = fits-one a b t rest rest' (longest-length a (b ∷ t) k k' rest rest' l m) k k' l.fits m.fits

not-long : (a : Bool) (b : ℕ) (t : Text) (k : TokenKind) (rest : Text) → Longest a (b ∷ t) k rest → name_length k (length (b ∷ t) - length rest) ≤ 128 → ¬ IsLongName a (b ∷ t)
not-long a b t k rest l h g =
    let same = longest-kind a b t k g.0 rest g.1 l g.2 in
    let len = longest-length a (b ∷ t) k g.0 rest g.1 l g.2 in
    let n : name_length k (length (b ∷ t) - length rest) ≡ name_length g.0 (length (b ∷ t) - length g.1) =
    ap (λ (x : TokenKind). name_length x (length (b ∷ t) - length rest)) same ∙ ap (λ (x : ℕ). name_length g.0 (length (b ∷ t) - x)) len in
    let more = g.3 in
    omega arith

token-at : (a : Bool) (b : ℕ) (t : Text) (k : TokenKind) (rest : Text) → IsCandidate a (b ∷ t) k rest → name_length k (length (b ∷ t) - length rest) ≤ 128 → IsToken a (b ∷ t) k rest
token-at a b t k rest c h = record { no_fault = none; longest = c.longest }
  where
    none : (f : FaultRow) → ¬ IsFault f a (b ∷ t)
    none row.Unclosed = c.earlier row.Unclosed (omega arith)
    none row.BadEscape = c.earlier row.BadEscape (omega arith)
    none row.Float = c.earlier row.Float (omega arith)
    none row.BadByte = c.earlier row.BadByte (omega arith)
    none row.TooLargeNumber = c.earlier row.TooLargeNumber (omega arith)
    none row.LongName = not-long a b t k rest c.longest h

pub token-is : (a : Bool) (t : Text) (k : TokenKind) (rest : Text) (n : ℕ) → t ≢ [] → IsCandidate a t k rest → n ≡ name_length k (length t - length rest) → n ≤ 128 → IsToken a t k rest
token-is a [] k rest n some c e h = absurd (some refl)
token-is a (b ∷ t) k rest n some c e h = token-at a b t k rest c (subst (λ (x : ℕ). x ≤ 128) e h)

pub name-long : (a : Bool) (t : Text) (k : TokenKind) (rest : Text) (n : ℕ) → IsCandidate a t k rest → n ≡ name_length k (length t - length rest) → 128 < n → IsFirstFault row.LongName a t
name-long a t k rest n c e h = record {
  holds = (k, rest, c.longest, subst (λ (x : ℕ). 128 < x) e h);
  first = λ g r. c.earlier g r;
}

pub fits-within : (a : Bool) (t : Text) (k : TokenKind) (rest : Text) → IsCandidate a t k rest → length rest ≤ length t
fits-within a t k rest c =
    let f = c.longest.fits in
    let l = ap (λ (x : Text). length x) f.whole in
    let m = length-append f.bytes rest in
    omega arith
