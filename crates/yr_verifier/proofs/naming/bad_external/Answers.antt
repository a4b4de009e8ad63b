use Rattle.yr_image.specs.Views.{image_of}
use Rattle.yr_verifier.proofs.NameLemmas.{repeat_found, bad_found, end_inside}
use Rattle.yr_verifier.proofs.naming.bad_external.Goals as goal

pub repeated-requires : goal.repeated-requires
repeated-requires c =
    end_inside (image_of c.args.view.now) c.bad_name-bad.result c.number_or-end.result c.count_externals.result c.bad_name-bad.ensures c.number_or-end.ensures.some
    c.number_or-end.ensures.none c.count_externals.ensures

pub returns-in-Some : goal.returns-in-Some
returns-in-Some c =
    repeat_found (image_of c.args.view.now) c.bad_name-bad.result c.number_or-end.result c.in-Some.k c.bad_name-bad.ensures c.number_or-end.ensures.some c.in-Some.ensures

pub returns-in-None : goal.returns-in-None
returns-in-None c =
    bad_found (image_of c.args.view.now) c.bad_name-bad.result c.number_or-end.result c.count_externals.result c.bad_name-bad.ensures c.number_or-end.ensures.some
    c.number_or-end.ensures.none c.count_externals.ensures c.in-None.ensures
