use Rattle.std.proofs.Common.{Some, refl, ap, ◌∙◌, arith, length}
use Rattle.std.proofs.lemmas.Option.{slice_get_read}
use Rattle.yr_cert.specs.Certificates.{certified_image}
use Rattle.yr_cert.proofs.KeepLemmas.{noted_word, some_word, none_noted}
use Rattle.yr_cert.proofs.certified_image.CertifiedImage.word.Goals as goal

pub returns-in-OneOutput-clause-none : goal.returns-in-OneOutput-clause-none
returns-in-OneOutput-clause-none c =
    let self = c.args.self.now in
    let at = slice_get_read self.homes.items (length self.homes.items) c.args.split c.index.result.now refl (omega (arith, c.requires, self.keeps.long)) c.index.ensures in
    (λ e. absurd (cc e), λ none. absurd (some_word (certified_image self) self.homes.items self.keeps c.args.split c.in-OneOutput.atom (at ∙ ap Some c.in-OneOutput.is) none))

pub returns-in-OneOutput-clause-word : goal.returns-in-OneOutput-clause-word
returns-in-OneOutput-clause-word c =
    let self = c.args.self.now in
    let at = slice_get_read self.homes.items (length self.homes.items) c.args.split c.index.result.now refl (omega (arith, c.requires, self.keeps.long)) c.index.ensures in
    noted_word (certified_image self) self.homes.items self.keeps c.args.split c.in-OneOutput.atom (at ∙ ap Some c.in-OneOutput.is)

pub returns-in_default : goal.returns-in_default
returns-in_default c =
    let self = c.args.self.now in
    let at = slice_get_read self.homes.items (length self.homes.items) c.args.split c.index.result.now refl (omega (arith, c.requires, self.keeps.long)) c.index.ensures in
    record {
      none = (λ e. none_noted (certified_image self) self.homes.items self.keeps c.args.split c.index.result.now at c.in_default.not-OneOutput, λ no. refl);
      word = tt;
    }
