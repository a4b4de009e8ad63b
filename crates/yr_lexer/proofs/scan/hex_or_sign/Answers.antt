use Rattle.std.proofs.Common.{Bool, true, sym, subst, ℕ, ◌∷◌, MatchResult}
use Rattle.yr_lexer.specs.Faults.{IsFirstFault}
use Rattle.yr_lexer.specs.Candidates.{IsCandidate}
use Rattle.yr_lexer.proofs.SignLemmas.{other-place, sign-candidate, sign-bad, hex-parts}
use Rattle.yr_lexer.proofs.scan.hex_or_sign.Goals as goal

pub returns-then-begins_hex : goal.returns-then-begins_hex
returns-then-begins_hex c =
    let p = hex-parts _ _ _ c.begins_hex.ensures c.if-begins_hex.true in
    subst (λ (a : Bool). MatchResult c.hex.result (λ x. IsCandidate a (c.args.b ∷ c.args.behind.now) x.0 x.1.now) (λ f. IsFirstFault f a (c.args.b ∷ c.args.behind.now))) (sym p.0)
    (subst (λ (b : ℕ). MatchResult c.hex.result (λ x. IsCandidate true (b ∷ c.args.behind.now) x.0 x.1.now) (λ f. IsFirstFault f true (b ∷ c.args.behind.now))) (sym p.1) c.hex.ensures)

pub returns-in-None : goal.returns-in-None
returns-in-None c = sign-bad _ _ _ (other-place _ _ _ _ c.requires c.begins_hex.ensures c.if-begins_hex.false) c.in-None.ensures

pub returns-in-Some : goal.returns-in-Some
returns-in-Some c = sign-candidate _ _ _ _ (other-place _ _ _ _ c.requires c.begins_hex.ensures c.if-begins_hex.false) c.in-Some.ensures
