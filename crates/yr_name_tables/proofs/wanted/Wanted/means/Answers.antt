use Rattle.std.proofs.Common.{◌≡◌, ◌||◌, ◌∙◌, sym, ap, subst, map, Bool, List, Option, Some}
use Rattle.std.specs.Prelude.{IfSome}
use Rattle.yr_syntax.specs.Condition.{ItemTree, item_of}
use Rattle.yr_name_tables.specs.declared.wanted.Apart.{Apart}
use Rattle.yr_name_tables.specs.Names.{Name, has, has_front, is_meant}
use Rattle.yr_name_tables.specs.Wanted.{AreApart}
use Rattle.yr_name_tables.proofs.WantedLemmas.{meant_asked}
use Rattle.yr_name_tables.proofs.wanted.Wanted.means.Goals as goal

looked_up : (items seen : List ItemTree) (apart : Option Apart) (a : Apart) (n : Name) (whole : Bool) → IfSome apart (λ b. AreApart items b.wholes b.fronts) → apart ≡ Some a → items ≡ seen
    → whole ≡ has n a.wholes → (whole || has_front a.fronts n) ≡ is_meant seen n
looked_up items seen apart a n whole h some same e =
    let P : Option Apart → Type 0 = λ o. IfSome o (λ b. AreApart items b.wholes b.fronts) in
    meant_asked items a.wholes a.fronts n whole (subst P some h) e ∙ ap (λ l. is_meant l n) same

pub returns-then-has : goal.returns-then-has
returns-then-has c =
    let a = c.in-Some.apart in
    let n = c.args.name.now in
    c.if-has.true
    ∙ ap (λ b. b || has_front a.fronts n) (sym c.if-has.true)
    ∙ looked_up (map item_of c.self.inside.items.now) c.args.self.now c.self.inside.apart a n c.has.result c.self.invariant c.in-Some.is c.self.view_is c.has.ensures

pub returns-else-has : goal.returns-else-has
returns-else-has c =
    let a = c.in-Some.apart in
    let n = c.args.name.now in
    c.has_front.ensures
    ∙ ap (λ b. b || has_front a.fronts n) (sym c.if-has.false)
    ∙ looked_up (map item_of c.self.inside.items.now) c.args.self.now c.self.inside.apart a n c.has.result c.self.invariant c.in-Some.is c.self.view_is c.has.ensures
