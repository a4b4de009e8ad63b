use Rattle.std.proofs.Common.{◌++◌, rules, take, length}
use Rattle.yr_base.proofs.Streams.{Appends-part, split-more}
use Rattle.std.proofs.KnownBytes.{Appends-trans}
use Rattle.yr_base.proofs.writing.write_whole.Goals as goal

pub returns-in_default-clause-bytes : goal.returns-in_default-clause-bytes
returns-in_default-clause-bytes g c = let t = c.loop-rest.invariant.taken in (length t.0, Appends-part _ _ _ c.args.bytes.now t.0 c.loop-rest.rest.now t.2 c.in_default.ensures.kept t.1)

pub loop-rest-preserved : goal.loop-rest-preserved
loop-rest-preserved g c =
    let t = c.loop-rest.invariant.taken in
    record {
      faults = search rules;
      taken = (t.0 ++ take c.in-Some.count c.loop-rest.rest.now, split-more c.args.bytes.now t.0 c.loop-rest.rest.now c.in-Some.count t.1, Appends-trans _ _ _ _ _ t.2 c.in-Some.ensures.taken);
    }
