use Rattle.examples_engine.proofs.ModuleLemmas.{joined_fit}
use Rattle.examples_engine.proofs.scanning.scanned.Goals as goal

pub scan_with-requires-clause-modules : goal.scan_with-requires-clause-modules
scan_with-requires-clause-modules c =
    let m = c.modules_of-modules in
    joined_fit c.args.file.now m.result.file.now m.result.inner.inner m.result.inner.file.now m.ensures.file m.ensures.inner m.ensures.hashed
