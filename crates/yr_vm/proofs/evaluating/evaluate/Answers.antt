use Rattle.std.proofs.Common.{◌≡◌, ℕ, ℤ, List, Bool, map, sym, ap, ◌∙◌, subst}
use Rattle.yr_values.specs.Values.{shown}
use Rattle.yr_answer.specs.Truths.{truths_shown}
use Rattle.yr_image.specs.Reading.{image_in}
use Rattle.yr_image.specs.Views.{image_of}
use Rattle.yr_machine.specs.ImageRun.{KnowsPrograms}
use Rattle.yr_machine.specs.Operations.{Context}
use Rattle.yr_hits.specs.Programs.{HasRoom}
use Rattle.yr_machine.specs.Verified.{bytes_of}
use Rattle.yr_vm.specs.Evaluation.{IsEvaluation}
use Rattle.yr_vm.specs.Worlds.{context_of}
use Rattle.yr_vm.proofs.evaluating.evaluate.Goals as goal

pub run_rules-requires-clause-knows : goal.run_rules-requires-clause-knows
run_rules-requires-clause-knows g c = c.some_programs_are_known.ensures (image_of c.view.result)

pub run_rules-requires-clause-room : goal.run_rules-requires-clause-room
run_rules-requires-clause-room g c =
    subst (λ (bytes : List ℕ). HasRoom (image_in bytes) c.args.marks.now.room) (sym c.view.ensures.bytes) c.requires.room

pub returns-clause-evaluation : goal.returns-clause-evaluation
returns-clause-evaluation g c context of =
    let image : context.image ≡ image_of c.view.result = of.same_image ∙ ap image_in (sym c.view.ensures.bytes) in
    let known : Context = record {
      image = image_of c.view.result;
      file = c.args.file.now;
      lists = c.args.matches.now.lists;
      externals = map shown c.args.externals.now;
      fields = g.M.Modules.field_of c.args.modules.now;
      calls = g.M.Modules.call_of c.args.modules.now;
      occurs = context.occurs;
    } in
    let same : context ≡ known = λ i. record {
      image = image i;
      file = of.same_file i;
      lists = of.same_lists i;
      externals = of.same_externals i;
      fields = of.same_fields i;
      calls = of.same_calls i;
      occurs = context.occurs;
    } in
    subst (λ (x : Context). IsEvaluation x (truths_shown c.run_rules.new.results) c.args.steps.now c.run_rules.new.steps) (sym same)
    (c.run_rules.ensures.evaluation context.occurs (subst KnowsPrograms same of.programs))
