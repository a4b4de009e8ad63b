use Rattle.std.proofs.Common.{rules, ◌≡◌, ◌∙◌, ◌-◌, ◌∷◌, ap, sym, arith, true, false, drop, Bor, List, ℕ}
use Rattle.std.specs.Option.{option_map}
use Rattle.yr_name_tables.specs.Names.{first_twice}
use Rattle.yr_name_tables.proofs.TwiceLemmas.{drop-at, twice-later, twice-found}
use Rattle.yr_name_tables.proofs.twice.first_twice.Goals as goal
use Rattle.yr_name_tables.proofs.twice.first_twice.Goals.{then-has, else-has}

pub loop-left-preserved : goal.loop-left-preserved
loop-left-preserved c =
    let all = c.args.all.now in
    let n = c.loop-left.left in
    let x = c.bytes-name.result.now in
    let now = λ (k : Bor (List ℕ)). k.now in
    let d : drop (n - 1) all ≡ x ∷ drop n all = drop-at all n (n - 1) x (omega arith) (omega arith) (search rules) in
    let h1 = c.bytes-name.ensures in let h2 = c.index-all-left.is in
    let found : option_map now c.if-has.found ≡ first_twice (drop (n - 1) all) =
    elim c.if-has.branch [
      | then-has w ↦ twice-found all n (n - 1) x c.loop-left.later (option_map now c.loop-left.found) (option_map now c.if-has.found) true d c.loop-left.invariant.later c.loop-left.invariant.found (sym c.has.ensures ∙ w.if-has.true) (ap (option_map now) w.found-is)
      | else-has w ↦ twice-found all n (n - 1) x c.loop-left.later (option_map now c.loop-left.found) (option_map now c.if-has.found) false d c.loop-left.invariant.later c.loop-left.invariant.found (sym c.has.ensures ∙ w.if-has.false) (ap (option_map now) w.found-is)
    ] in
    record { within = omega arith; later = twice-later all n (n - 1) x c.loop-left.later c.add.new.self d c.in_ok-add.ensures c.loop-left.invariant.later; found = found }
