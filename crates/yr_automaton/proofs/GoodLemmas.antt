-- What the walk needs of wellformed rows.
use Rattle.std.proofs.Common.{ℕ, ◌<◌, List, length, get_or, arith, ap}
use Rattle.yr_rows.specs.declared.nodes.NodeRow.{NodeRow}
use Rattle.yr_rows.specs.declared.nodes.EdgeRow.{EdgeRow}
use Rattle.yr_rows.specs.Nodes.{BytesRise, AreWellformed}
use Rattle.yr_automaton.specs.Outputs.{AreListable}
use Rattle.yr_automaton.proofs.ListLemmas.{get_some, get_or_some, some_inside}

-- the bytes rise, with a value for the places past the end
abbrev pub Rising : List EdgeRow → Type 0
Rising es = (i j : ℕ) (d : EdgeRow) → i < j → j < length es → (get_or es i d).byte < (get_or es j d).byte

pub rising_from : (es : List EdgeRow) → BytesRise es → Rising es
rising_from es rise i j d less lt = rise i j (get_or es i d) (get_or es j d) less (get_some es i d (omega (arith, less, lt))) (get_some es j d lt)

pub rise_from : (es : List EdgeRow) → Rising es → BytesRise es
rise_from es rising i j d e less here there =
    let up = rising i j d less (some_inside es j e there) in
    omega (arith, up, ap (λ (x : EdgeRow). x.byte) (get_or_some es i d d here), ap (λ (x : EdgeRow). x.byte) (get_or_some es j d e there))

pub listable_from : (nodes : List NodeRow) (edges : List EdgeRow) (outputs : List ℕ) → AreWellformed nodes edges outputs → AreListable nodes outputs
listable_from nodes edges outputs formed = record {
  inside = λ n row at. (formed.each_node n row at).outputs_inside;
  below = λ n row at. (formed.each_node n row at).below;
}
