use Rattle.std.proofs.Common.{rules, ◌≡◌, ◌<◌, ℕ, length, sym, subst, Option}
use Rattle.std.specs.Prelude.{IfSome}
use Rattle.yr_name_tables.specs.Names.{place_of}
use Rattle.yr_name_tables.proofs.PlaceLemmas.{place_within}
use Rattle.yr_name_tables.proofs.numbered.Numbered.number.Goals as goal

pub returns-clause-within : goal.returns-clause-within
returns-clause-within c =
    let e : c.copied.result ≡ place_of c.args.name.now c.args.self.now = search rules in
    let P : Option ℕ → Type 0 = λ o. IfSome o (λ k. k < length c.args.self.now) in
    subst P (sym e) (place_within c.args.name.now c.args.self.now)
