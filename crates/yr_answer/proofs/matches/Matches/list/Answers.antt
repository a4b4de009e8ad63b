use Rattle.std.proofs.Common.{◌<◌, length, ap, sym, ◌∙◌, subst}
use Rattle.std.proofs.Math.ListN.{get_or-map}
use Rattle.yr_answer.specs.Found.{Found, IsReadable, items_of}
use Rattle.yr_answer.proofs.matches.Matches.list.Goals as goal

pub returns-clause-readable : goal.returns-clause-readable
returns-clause-readable c =
    let xs = c.self.inside.lists.items in
    let v = c.index.result.now in
    let h : c.args.string < length (items_of xs) = subst (λ (m : Found). c.args.string < length m.lists) (sym c.self.view_is) c.requires in
    let e = get_or-map (λ w. w.items) xs c.args.string v ∙ ap (λ w. w.items) (sym c.index.ensures) ∙ sym c.deref.ensures.value in
    subst IsReadable e (c.self.invariant c.args.string v.items h)
