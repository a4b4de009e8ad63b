use Rattle.std.proofs.Common.{sym}
use Rattle.std.proofs.lemmas.List.{length-take-le}
use Rattle.yr_report.proofs.writing.put_report_gathered.Goals as goal

pub slice_bounds-names-end : goal.slice_bounds-names-end
slice_bounds-names-end g c = c.shut_namespaces-count.ensures.within

pub slice_bounds-put_report_with-end : goal.slice_bounds-put_report_with-end
slice_bounds-put_report_with-end g c = sym (length-take-le c.shut_namespaces-count.result c.shut_namespaces-count.new.names c.shut_namespaces-count.ensures.within)
