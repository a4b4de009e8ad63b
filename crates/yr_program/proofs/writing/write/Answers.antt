use Rattle.std.proofs.Common.{map, take, arith}
use Rattle.std.proofs.lemmas.List.{length-map, length-take-le}
use Rattle.yr_program.specs.Drafts.{act_of}
use Rattle.yr_program.proofs.WrittenLemmas.{few_reads}
use Rattle.yr_program.proofs.writing.write.Goals as goal

pub write_move-requires : goal.write_move-requires
write_move-requires c =
    let front = take c.loop-one.one-index c.args.draft.now in
    let acts = map act_of front in
    omega (arith, c.loop-one.invariant.whole_sets, few_reads acts, length-map front act_of, length-take-le c.loop-one.one-index c.args.draft.now (omega arith), c.requires)
