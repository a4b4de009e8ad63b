use Rattle.std.proofs.Common.{◌≡◌, List, map, refl, sym, ap, subst}
use Rattle.yr_words.specs.Shown.{source_shown, given_shown}
use Rattle.yr_outcome.specs.Fits.{seen}
use Rattle.yr_outcome.specs.Front.{GatheredUnit}
use Rattle.yr_front.specs.Units.{unit_shown, AreGathered}
use Rattle.yr_front.specs.declared.unit.SourceUnit.{SourceUnit}
use Rattle.yr_front.proofs.FrontLemmas.{spaces-fit, causes, refused_gathered, refused_fault, fits_gathered, fits_ungathered}
use Rattle.yr_front.proofs.fronting.checked_rules.Goals as goal

pub check_gathered-requires-clause-spaces : goal.check_gathered-requires-clause-spaces
check_gathered-requires-clause-spaces g c =
    spaces-fit c.args.sources.now c.in-Ok.gathered.items c.deref.result.now c.deref.ensures.value c.in-Ok.ensures.spaces c.requires.spaces

pub returns-in-Ok-clause-cause : goal.returns-in-Ok-clause-cause
returns-in-Ok-clause-cause g c = λ output before after. causes c.check_gathered.result c.check_gathered.ensures.answer output _ _ before after

pub returns-in-Ok-clause-refused : goal.returns-in-Ok-clause-refused
returns-in-Ok-clause-refused g c = λ reading reads modules is files told.
    let sources = map source_shown c.args.sources.now in
    let gathered = subst (λ (l : List SourceUnit). AreGathered reading modules files sources (map unit_shown l) (g.F.Store.trace c.args.store.now) (g.F.Store.trace c.gather_all.new.store))
    (sym c.deref.ensures.value) (c.in-Ok.ensures.walk reading reads modules files told) in
    refused_gathered reading modules files sources (map given_shown c.args.givens.now) _ _ (map unit_shown c.deref.result.now) gathered c.check_gathered.result
    (c.check_gathered.ensures.rules reading reads modules is)

pub returns-in-Ok-clause-fits : goal.returns-in-Ok-clause-fits
returns-in-Ok-clause-fits g c = λ setting is reading reads files told out.
    let sources = map source_shown c.args.sources.now in
    let gathered = subst (λ (l : List SourceUnit). AreGathered reading setting.modules files sources (map unit_shown l) (g.F.Store.trace c.args.store.now) (g.F.Store.trace c.gather_all.new.store))
    (sym c.deref.ensures.value) (c.in-Ok.ensures.walk reading reads setting.modules files told) in
    fits_gathered setting reading files sources (map given_shown c.args.givens.now)
    (seen (g.F.Store.files c.args.store.now) (g.F.Store.trace c.args.store.now) out) (seen (g.F.Store.files c.gather_all.new.store) (g.F.Store.trace c.gather_all.new.store) out)
    told c.in-Ok.ensures.files refl (map unit_shown c.deref.result.now) gathered c.check_gathered.result (c.check_gathered.ensures.rules reading reads setting.modules is)

pub returns-in-Err-clause-refused : goal.returns-in-Err-clause-refused
returns-in-Err-clause-refused g c = λ reading reads modules is files told.
    refused_fault reading modules files (map source_shown c.args.sources.now) (map given_shown c.args.givens.now) c.in-Err.fault c.refuse_gathering.result _ _
    (c.in-Err.ensures.walk reading reads modules files told) c.refuse_gathering.ensures

pub returns-in-Err-clause-fits : goal.returns-in-Err-clause-fits
returns-in-Err-clause-fits g c = λ setting is reading reads files told out next.
    fits_ungathered setting reading files (map source_shown c.args.sources.now) (map given_shown c.args.givens.now) next
    (seen (g.F.Store.files c.args.store.now) (g.F.Store.trace c.args.store.now) out) (seen (g.F.Store.files c.gather_all.new.store) (g.F.Store.trace c.gather_all.new.store) out)
    told c.in-Err.ensures.files refl c.in-Err.fault c.refuse_gathering.result (c.in-Err.ensures.walk reading reads setting.modules files told) c.refuse_gathering.ensures
