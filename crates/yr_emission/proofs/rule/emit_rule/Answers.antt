use Rattle.std.proofs.Common.{◌≡◌, [], ◌++◌, map, ◌∙◌, subst}
use Rattle.yr_image.specs.declared.instruction.Instruction.TheVariants as i
use Rattle.yr_rules.specs.NodeTree.{tree_of}
use Rattle.yr_rules.specs.Rules.{external_of}
use Rattle.yr_emission.specs.Parts.{one, part_of}
use Rattle.yr_emission.specs.Written.{Written}
use Rattle.yr_emission.proofs.Stands.{sized}
use Rattle.yr_emission.proofs.WrittenLemmas.{written_both, written_one}
use Rattle.yr_emission.proofs.EmittedLemmas.{emitted}
use Rattle.yr_emission.proofs.rule.emit_rule.Goals as goal

pub returns : goal.returns
returns c =
    let ext = map external_of c.args.externals.now in let tree = tree_of c.args.condition.now in let x = part_of ext tree in
    let r1 = c.emit.new.rows.items in let r2 = c.put.new.rows.items in
    let d0 = c.args.draft.now in let d1 = c.emit.new.draft in
    let w = subst (λ r. Written x r r1 d0 d1) c.new-rows.ensures.items c.in_ok-emit.ensures in
    let whole = written_both x (one i.End) [] r1 r2 d0 d1 d1 (sized ext tree) w (written_one i.End r1 r2 d1 c.in_ok-put.ensures) in
    let added = subst (λ l. c.put_code.new.self ≡ record d1 { code = d1.code ++ l }) c.deref.ensures.value c.in_ok-first.ensures.rows in
    emitted ext tree r2 d0 d1 c.put_code.new.self c.in_ok-first.first c.in_ok-count.count whole added c.in_ok-first.ensures.first (c.in_ok-count.ensures ∙ (c.len.ensures ∙ c.put.new.rows.ok.0))
