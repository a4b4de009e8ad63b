use Rattle.std.proofs.Common.{ℕ, ◌+◌, ◌*◌, List, length, refl, subst, ap, ap₂, ◌∙◌}
use Rattle.yr_rules.specs.Rules.{rule_of}
use Rattle.yr_image.specs.declared.rows.RuleRow.{RuleRow}
use Rattle.yr_draft.specs.Added.{HasText}
use Rattle.yr_compiler.specs.Notes.{notes_of}
use Rattle.yr_compiler.proofs.RuleLemmas.{rule_put, end_at}
use Rattle.yr_compiler.proofs.rule.put_rule.Goals as goal

pub returns-clause-rule : goal.returns-clause-rule
returns-clause-rule c = λ start rules codes coded done.
    let rule = rule_of c.args.rule.now in
    let P : List ℕ → Type 0 = λ l. HasText c.put_notes.new.draft c.put_text.new.self l c.in_ok-name_place.name_place in
    let Q : List ℕ → Type 0 = λ l. HasText c.put_text.new.self c.put_text-2.new.self l c.in_ok-namespace_place.namespace_place in
    let name = subst P c.deref-name.ensures.value c.in_ok-name_place.ensures in
    let space = subst Q c.deref-space.ensures.value c.in_ok-namespace_place.ensures in
    let row : RuleRow = record {
      name_place = c.in_ok-name_place.name_place;
      name_length = length c.deref-name.result.now;
      flags = c.from.result + 2 * c.from-2.result;
      first_note = c.args.first_note;
      notes = c.in_ok-notes.notes;
      first_string = c.args.rule.now.first_string;
      strings = c.args.rule.now.string_count;
      first_code = c.args.code.first;
      code_rows = c.args.code.rows;
      namespace_place = c.in_ok-namespace_place.namespace_place;
      namespace_length = length c.deref-space.result.now;
    } in
    rule_put start c.args.draft.now c.put_notes.new.draft c.put_text.new.self c.put_text-2.new.self c.put_rule.new.self rules rule codes c.args.code
    c.in_ok-name_place.name_place c.in_ok-namespace_place.namespace_place row c.requires.short c.in_ok-notes.ensures.notes name space c.in_ok-put_rule.ensures
    refl (ap length c.deref-name.ensures.value) refl (ap length c.deref-space.ensures.value)
    (ap₂ (λ (a b : ℕ). a + 2 * b) (c.from.ensures ∙ c.one_if.ensures) (c.from-2.ensures ∙ c.one_if-2.ensures))
    c.requires.first c.in_ok-notes.ensures.count refl refl refl refl coded done

pub returns-clause-end : goal.returns-clause-end
returns-clause-end c =
    end_at c.args.draft.now c.put_notes.new.draft c.put_text.new.self c.put_text-2.new.self c.put_rule.new.self (notes_of (rule_of c.args.rule.now))
    c.deref-name.result.now c.deref-space.result.now c.in_ok-name_place.name_place c.in_ok-namespace_place.namespace_place _ c.args.first_note c.in_ok-notes.notes c.in_ok-end.end
    c.in_ok-notes.ensures.notes c.in_ok-name_place.ensures c.in_ok-namespace_place.ensures c.in_ok-put_rule.ensures c.requires.first c.in_ok-notes.ensures.count c.in_ok-end.ensures
