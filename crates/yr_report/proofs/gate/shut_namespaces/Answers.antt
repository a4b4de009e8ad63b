use Rattle.std.proofs.Common.{◌≡◌, ◌≤◌, ℕ, List, Bor, ◌++◌, take, length, sym, subst, ap, ◌∙◌, arith, length-append}
use Rattle.std.specs.List.{list_any}
use Rattle.std.proofs.Math.Seq.{take-length}
use Rattle.std.proofs.lemmas.List.{length-take-le, take-append-le}
use Rattle.yr_report.specs.Scenes.{is_text, AreSorted}
use Rattle.yr_report.proofs.gate.shut_namespaces.Goals as goal

-- the front of a list that is put together from two
front : (count : ℕ) (xs ys : List (Bor (List ℕ))) → length xs ≡ count → take count (xs ++ ys) ≡ xs
front count xs ys e =
    take-append-le count xs ys (omega (arith, e)) ∙ ap (λ n. take n xs) (sym e) ∙ take-length xs

longer : (count : ℕ) (xs ys : List (Bor (List ℕ))) → length xs ≡ count → count ≤ length (xs ++ ys)
longer count xs ys e = omega (arith, e, length-append xs ys)

pub returns-clause-within : goal.returns-clause-within
returns-clause-within c =
    let fits : c.gather-count.result ≤ length c.gather-count.new.names = omega (arith, c.gather-count.ensures.len, c.gather-count.ensures.within) in
    let size : length c.sort.new.names ≡ c.gather-count.result = c.sort.ensures.len ∙ length-take-le c.gather-count.result c.gather-count.new.names fits in
    longer c.gather-count.result c.sort.new.names _ size

pub returns-clause-shut : goal.returns-clause-shut
returns-clause-shut c =
    let fits : c.gather-count.result ≤ length c.gather-count.new.names = omega (arith, c.gather-count.ensures.len, c.gather-count.ensures.within) in
    let size : length c.sort.new.names ≡ c.gather-count.result = c.sort.ensures.len ∙ length-take-le c.gather-count.result c.gather-count.new.names fits in
    let e = front c.gather-count.result c.sort.new.names _ size in record {
      sorted = subst (λ (l : List (Bor (List ℕ))). AreSorted l) (sym e) c.sort.ensures.sorted;
      same = λ name. c.gather-count.ensures.same name ∙ sym (c.sort.ensures.same name) ∙ ap (list_any (is_text name)) (sym e);
    }
