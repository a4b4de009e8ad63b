use Rattle.std.proofs.Common.{rules, ◌≡◌, IsCharBoundary, sym, subst, arith}
use Rattle.std.proofs.lemmas.Str.{IsCharBoundary-start}
use Rattle.yr_lexer.proofs.FolderLemmas.{folder-shorter, folder-ends, folder-boundary}
use Rattle.yr_lexer.proofs.include.folder_len.Goals as goal

pub loop-end-preserved : goal.loop-end-preserved
loop-end-preserved c = record {
  bytes = c.loop-end.invariant.bytes;
  within = omega (arith, c.loop-end.invariant.within);
  folder = folder-shorter c.as_bytes-bytes.result.now c.loop-end.end (search rules) c.loop-end.invariant.within (search rules) c.loop-end.invariant.folder;
}

pub returns-else-bytes-end-ne47-clause-folder : goal.returns-else-bytes-end-ne47-clause-folder
returns-else-bytes-end-ne47-clause-folder c =
    rw (sym c.loop-end.invariant.bytes) (folder-ends c.as_bytes-bytes.result.now c.loop-end.end (search rules) c.loop-end.invariant.within (search rules) c.loop-end.invariant.folder)

pub returns-else-bytes-end-ne47-clause-boundary : goal.returns-else-bytes-end-ne47-clause-boundary
returns-else-bytes-end-ne47-clause-boundary c = folder-boundary c.args.name.now c.loop-end.end c.utf8.name (search rules) (search rules) (search rules)

pub returns-after-loop-end-clause-boundary : goal.returns-after-loop-end-clause-boundary
returns-after-loop-end-clause-boundary c =
    let e : 0 ≡ c.loop-end.end = omega (arith, c.loop-end-test.false) in
    subst (λ n. IsCharBoundary c.args.name.now n) e (IsCharBoundary-start c.args.name.now c.utf8.name)
