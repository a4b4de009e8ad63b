use Rattle.std.proofs.Common.{length, refl, ap, ◌∙◌}
use Rattle.std.proofs.lemmas.Option.{slice_get_read}
use Rattle.yr_checking.specs.declared.space.Space.{Space}
use Rattle.yr_checking.specs.Spaces.{space_shown, with_rule}
use Rattle.yr_checking.proofs.WalkedLemmas.{one-item, rule-same}
use Rattle.yr_checking.proofs.walking.keep.Goals as goal

pub returns : goal.returns
returns c =
    let old = c.args.walk.now in
    let own = c.index_mut-space.result.now in
    let read = slice_get_read old.spaces.items (length old.spaces.items) c.args.number own refl c.requires.within c.index_mut-space.ensures.value in
    let name = c.args.rule.now.name.items in
    let number = length old.rules.items in
    let fronts = c.args.made.fronts.items in
    record {
      spaces = λ s there.
          let same = one-item old.spaces.items c.args.number own s read there in (
            c.add_rule.new.space,
            refl,
            c.in_ok-add_rule.ensures.name ∙ ap (λ (x : Space). x.name) same,
            c.in_ok-add_rule.ensures.shown
                ∙ rule-same c.deref.result.now name c.len.result number c.deref-2.result.now fronts (space_shown own) c.deref.ensures.value (c.len.ensures ∙ old.rules.ok.0) c.deref-2.ensures.value
                ∙ ap (λ (x : Space). with_rule name number fronts (space_shown x)) same,
          );
      rules = c.in_ok-push.ensures.items;
      strings = c.in_ok-append.ensures.items;
      weight = refl;
    }
