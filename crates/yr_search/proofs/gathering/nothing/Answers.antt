use Rattle.std.proofs.Common.{Contains, sym, ◌∙◌, subst, arith}
use Rattle.yr_image.specs.Views.{shown_bytes}
use Rattle.yr_machine.proofs.CallerLemmas.{has_sections}
use Rattle.yr_hits.proofs.SectionLemmas.{string_rows}
use Rattle.yr_hits.proofs.MemberLemmas.{contains_none}
use Rattle.yr_search.proofs.StateLemmas.{all_empty}
use Rattle.yr_search.proofs.TakeLemmas.{items_length}
use Rattle.yr_search.proofs.SceneLemmas.{split_rows}
use Rattle.yr_search.proofs.gathering.nothing.Goals as goal

pub returns-clause-fits : goal.returns-clause-fits
returns-clause-fits c =
    let bytes = shown_bytes c.args.scene.now.view.now in
    let rows = split_rows bytes c.requires.wellformed in
    record {
      lists = c.in_ok-lists.ensures.count ∙ c.rows-strings.ensures ∙ sym (string_rows bytes (has_sections bytes c.requires.wellformed));
      later = c.in_ok-later.ensures.count ∙ c.rows-splits.ensures ∙ sym rows;
      spent = omega (arith, rows, c.rows-splits.ensures, c.in_ok-spent.ensures.len, c.in_ok-spent.spent.ok.0);
      inside = λ s hits at e among. absurd (contains_none e (subst (λ l. Contains l e) (all_empty c.in_ok-later.later.items c.in_ok-later.ensures.empty s hits at) among));
    }

pub returns-clause-empty : goal.returns-clause-empty
returns-clause-empty c =
    let bytes = shown_bytes c.args.scene.now.view.now in
    record {
      count = items_length c.in_ok-lists.lists.items ∙ c.in_ok-lists.ensures.count ∙ c.rows-strings.ensures ∙ sym (string_rows bytes (has_sections bytes c.requires.wellformed));
      lists = λ k list at. all_empty c.in_ok-lists.lists.items c.in_ok-lists.ensures.empty k list at;
      later = λ k hits at. all_empty c.in_ok-later.later.items c.in_ok-later.ensures.empty k hits at;
    }
