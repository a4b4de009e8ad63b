use Rattle.std.proofs.Common.{◌≡◌, ◌++◌, ◌∷◌, [], List, ℕ, length, sym, ap, ◌∙◌, subst, arith}
use Rattle.yr_checking.specs.declared.space.Space.{Space}
use Rattle.yr_checking.specs.Spaces.{IsFirstNamed, found_space}
use Rattle.yr_checking.proofs.SpaceLemmas.{first-pushed, found-empty}
use Rattle.yr_checking.proofs.space.open_space.Goals as goal

pub returns-clause-first : goal.returns-clause-first
returns-clause-first c =
    let ss = c.args.spaces.now.items in
    let value : c.deref.result.now ≡ ss = c.deref.ensures.value in
    let named : IsFirstNamed c.args.name.now ss c.space_place-place.result =
    subst (λ (l : List Space). IsFirstNamed c.args.name.now l c.space_place-place.result) value c.space_place-place.ensures in
    let last : c.space_place-place.result ≡ length ss = omega (arith, named.within, c.if-place-len.false, c.len.ensures) in
    let at_end = subst (λ (k : ℕ). IsFirstNamed c.args.name.now ss k) last named in
    subst (λ (l : List Space). IsFirstNamed c.args.name.now l c.space_place-place.result) (sym c.in_ok-push.ensures.items)
    (subst (λ (k : ℕ). IsFirstNamed c.args.name.now (ss ++ c.new_space.result ∷ []) k) (sym last) (first-pushed c.args.name.now ss c.new_space.result at_end c.new_space.ensures.name))

pub returns-clause-same : goal.returns-clause-same
returns-clause-same c q =
    ap (found_space q) c.in_ok-push.ensures.items ∙ found-empty q c.args.spaces.now.items c.new_space.result c.new_space.ensures.nothing
