use Rattle.std.proofs.Common.{◌≡◌, ◌≤◌, List, Some, map, take, drop}
use Rattle.yr_base.specs.Store.{Files}
use Rattle.yr_outcome.specs.Front.{Reading, IsReading}
use Rattle.yr_values.specs.Names.{NamedModule}
use Rattle.yr_words.specs.Shown.{source_shown}
use Rattle.yr_front.specs.Units.{unit_shown, SoFar}
use Rattle.yr_front.proofs.gathering.gather_all.Given as goal

abbrev pub invariant-loop-source : goal.invariant-loop-source
invariant-loop-source g l = record {
  files : g.F.Store.files l.store ≡ g.F.Store.files l.fn.store;
  later : g.F.Store.faults l.fn.store ≤ g.F.Store.faults l.store;
  spaces : map (λ u. u.space.now) l.units.items ≡ map (λ s. s.space.now) (take l.source-index l.sources);
  walk : (reading : Reading) → IsReading reading → (modules : List NamedModule) (files : Files) → g.F.Store.files l.fn.store ≡ Some files
      → SoFar reading modules files (map source_shown l.sources) (map source_shown (drop l.source-index l.sources)) (map unit_shown l.units.items)
      (g.F.Store.trace l.fn.store) (g.F.Store.trace l.store);
}
