use Rattle.std.proofs.Common.{◌≡◌, ◌+◌, suc, refl, sym, ap, ◌∙◌, inl, arith, lit<, true≢false}
use Rattle.yr_image.specs.declared.fault.ImageFault.TheVariants.{TooShort, Section}
use Rattle.yr_image.specs.Sections.{place_of, SectionFits}
use Rattle.yr_verifier.proofs.ReachLemmas.{sections, one_next, one_check, one_fault}
use Rattle.yr_verifier.proofs.sections.check_sections.Goals as goal

pub loop-k-init : goal.loop-k-init
loop-k-init c = record { place = refl; inside = c.requires TooShort (inl (lit< tt)); before = c.requires }

pub returns-then-not-fits : goal.returns-then-not-fits
returns-then-not-fits c =
    one_fault c.args.bytes.now 5 (λ k. Section k) sections c.loop-k.k c.loop-k.invariant.before
    (λ p. true≢false (sym (c.fits.ensures.1 (p c.loop-k-test.true)) ∙ c.if-not-fits.true))

pub loop-k-preserved : goal.loop-k-preserved
loop-k-preserved c =
    let bytes = c.args.bytes.now in
    let k = c.loop-k.k in
    let good : SectionFits bytes k = c.fits.ensures.0 c.if-not-fits.false in
    let next : suc k ≡ k + 1 = omega arith in
    record {
      place = omega (arith, ap (place_of bytes) next, c.loop-k.invariant.place, c.size.ensures.value);
      inside = omega (arith, good.inside, c.loop-k.invariant.place, c.size.ensures.value);
      before = one_next bytes 5 (λ k. Section k) sections k c.loop-k.invariant.before (λ _. good);
    }

pub returns : goal.returns
returns c = one_check c.args.bytes.now 5 (λ k. Section k) sections c.loop-k.k c.loop-k.invariant.before (λ k le lt. absurd (omega (arith, lt, le, c.loop-k-test.false)))
