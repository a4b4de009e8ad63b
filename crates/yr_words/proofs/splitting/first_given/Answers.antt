use Rattle.std.proofs.Common.{◌≡◌, ◌<◌, ◌-◌, [], get_or, drop, true, false, refl, subst, ◌∙◌, arith, rules}
use Rattle.std.specs.List.{list_all}
use Rattle.yr_words.specs.Values.{gives}
use Rattle.yr_words.specs.Shown.{lent_words}
use Rattle.yr_words.proofs.LentLemmas.{lent_length, more-at, run-at, run-from-front}
use Rattle.yr_words.proofs.splitting.first_given.Goals as goal

pub loop-at-preserved : goal.loop-at-preserved
loop-at-preserved c =
    let i = c.loop-at.invariant in
    let n = lent_length c.args.words.now in
    let some : 0 < c.loop-at.at = search rules in
    let is : gives (get_or (lent_words c.args.words.now) (c.loop-at.at - 1) []) ≡ true = search rules in
    record {
      within = omega (arith, i.within);
      giving = more-at (lent_words c.args.words.now) c.loop-at.at some (omega (arith, i.within, n)) is i.giving;
    }

pub returns-else-gives_at-clause-before : goal.returns-else-gives_at-clause-before
returns-else-gives_at-clause-before c =
    let i = c.loop-at.invariant in
    let n = lent_length c.args.words.now in
    let some : 0 < c.loop-at.at = search rules in
    let is : gives (get_or (lent_words c.args.words.now) (c.loop-at.at - 1) []) ≡ false = search rules in
    (run-at (lent_words c.args.words.now) c.loop-at.at some (omega (arith, i.within, n)) is i.giving).0

pub returns-else-gives_at-clause-last : goal.returns-else-gives_at-clause-last
returns-else-gives_at-clause-last c =
    let i = c.loop-at.invariant in
    let n = lent_length c.args.words.now in
    let some : 0 < c.loop-at.at = search rules in
    let is : gives (get_or (lent_words c.args.words.now) (c.loop-at.at - 1) []) ≡ false = search rules in
    (run-at (lent_words c.args.words.now) c.loop-at.at some (omega (arith, i.within, n)) is i.giving).1

pub returns-after-loop-at-clause-before : goal.returns-after-loop-at-clause-before
returns-after-loop-at-clause-before c =
    let at : c.loop-at.at ≡ 0 = omega (arith, c.loop-at-test.false) in
    let all : list_all gives (lent_words c.args.words.now) ≡ true = subst (λ k. list_all gives (drop k (lent_words c.args.words.now)) ≡ true) at c.loop-at.invariant.giving in
    (run-from-front (lent_words c.args.words.now) all).0 ∙ rw at refl

pub returns-after-loop-at-clause-last : goal.returns-after-loop-at-clause-last
returns-after-loop-at-clause-last c =
    let at : c.loop-at.at ≡ 0 = omega (arith, c.loop-at-test.false) in
    let all : list_all gives (lent_words c.args.words.now) ≡ true = subst (λ k. list_all gives (drop k (lent_words c.args.words.now)) ≡ true) at c.loop-at.invariant.giving in
    (run-from-front (lent_words c.args.words.now) all).1 ∙ rw at refl
