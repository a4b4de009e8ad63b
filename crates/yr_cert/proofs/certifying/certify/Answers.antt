use Rattle.std.proofs.Common.{◌≡◌, ap, ◌∙◌, length}
use Rattle.yr_image.specs.Reading.{image_in}
use Rattle.yr_machine.specs.Verified.{bytes_of}
use Rattle.yr_cert.specs.Tries.{nodes_in, edges_in, outputs_in}
use Rattle.yr_cert.proofs.BytesLemmas.{certified_bytes}
use Rattle.yr_cert.proofs.KeepLemmas.{link_fault, twice_fault, keeps}
use Rattle.yr_cert.proofs.certifying.certify.Goals as goal

pub returns-in-Some-misled-clause-fault : goal.returns-in-Some-misled-clause-fault
returns-in-Some-misled-clause-fault c =
    let bytes = bytes_of c.args.image.now in
    let shown = c.view-view.ensures.bytes in
    let trie = c.trie_of-trie.result in
    let are = c.trie_of-trie.ensures in
    let nodes : nodes_in trie ≡ (image_in bytes).nodes = are.nodes ∙ ap (λ b. (image_in b).nodes) shown in
    let edges : edges_in trie ≡ (image_in bytes).edges = are.edges ∙ ap (λ b. (image_in b).edges) shown in
    let outputs : outputs_in trie ≡ (image_in bytes).outputs = are.outputs ∙ ap (λ b. (image_in b).outputs) shown in
    let splits : trie.splits ≡ length (image_in bytes).splits = are.splits ∙ ap (λ b. length (image_in b).splits) shown in
    link_fault (image_in bytes) trie nodes edges outputs splits (c.orphan.ensures.none c.in_default.is) c.in-Some-misled.n c.in-Some-misled.ensures.least

pub returns-in-Some-doubled-clause-fault : goal.returns-in-Some-doubled-clause-fault
returns-in-Some-doubled-clause-fault c =
    let bytes = bytes_of c.args.image.now in
    let shown = c.view-view.ensures.bytes in
    let trie = c.trie_of-trie.result in
    let are = c.trie_of-trie.ensures in
    let nodes : nodes_in trie ≡ (image_in bytes).nodes = are.nodes ∙ ap (λ b. (image_in b).nodes) shown in
    let edges : edges_in trie ≡ (image_in bytes).edges = are.edges ∙ ap (λ b. (image_in b).edges) shown in
    let outputs : outputs_in trie ≡ (image_in bytes).outputs = are.outputs ∙ ap (λ b. (image_in b).outputs) shown in
    let splits : trie.splits ≡ length (image_in bytes).splits = are.splits ∙ ap (λ b. length (image_in b).splits) shown in
    twice_fault (image_in bytes) trie nodes edges outputs splits (c.orphan.ensures.none c.in_default.is) (c.misled.ensures.none c.in_default-misled.is) c.in-Some-doubled.split c.in-Some-doubled.ensures.least

pub over-requires : goal.over-requires
over-requires c =
    let bytes = bytes_of c.args.image.now in
    let shown = c.view-view.ensures.bytes in
    let trie = c.trie_of-trie.result in
    let are = c.trie_of-trie.ensures in
    let nodes : nodes_in trie ≡ (image_in bytes).nodes = are.nodes ∙ ap (λ b. (image_in b).nodes) shown in
    let edges : edges_in trie ≡ (image_in bytes).edges = are.edges ∙ ap (λ b. (image_in b).edges) shown in
    let outputs : outputs_in trie ≡ (image_in bytes).outputs = are.outputs ∙ ap (λ b. (image_in b).outputs) shown in
    let splits : trie.splits ≡ length (image_in bytes).splits = are.splits ∙ ap (λ b. length (image_in b).splits) shown in
    keeps (image_in bytes) trie nodes edges outputs splits c.in_ok-homes.homes.items (c.orphan.ensures.none c.in_default.is) (c.misled.ensures.none c.in_default-misled.is) (c.doubled.ensures.none c.in_default-doubled.is) c.in_ok-homes.ensures

pub returns-clause-shape : goal.returns-clause-shape
returns-clause-shape c =
    let bytes = bytes_of c.args.image.now in
    let shown = c.view-view.ensures.bytes in
    let trie = c.trie_of-trie.result in
    let are = c.trie_of-trie.ensures in
    let nodes : nodes_in trie ≡ (image_in bytes).nodes = are.nodes ∙ ap (λ b. (image_in b).nodes) shown in
    let edges : edges_in trie ≡ (image_in bytes).edges = are.edges ∙ ap (λ b. (image_in b).edges) shown in
    let outputs : outputs_in trie ≡ (image_in bytes).outputs = are.outputs ∙ ap (λ b. (image_in b).outputs) shown in
    let splits : trie.splits ≡ length (image_in bytes).splits = are.splits ∙ ap (λ b. length (image_in b).splits) shown in
    let keep = keeps (image_in bytes) trie nodes edges outputs splits c.in_ok-homes.homes.items (c.orphan.ensures.none c.in_default.is) (c.misled.ensures.none c.in_default-misled.is) (c.doubled.ensures.none c.in_default-doubled.is) c.in_ok-homes.ensures in
    λ e. keep.shape

pub returns-clause-certified : goal.returns-clause-certified
returns-clause-certified c =
    let bytes = bytes_of c.args.image.now in
    let shown = c.view-view.ensures.bytes in
    let trie = c.trie_of-trie.result in
    let are = c.trie_of-trie.ensures in
    let nodes : nodes_in trie ≡ (image_in bytes).nodes = are.nodes ∙ ap (λ b. (image_in b).nodes) shown in
    let edges : edges_in trie ≡ (image_in bytes).edges = are.edges ∙ ap (λ b. (image_in b).edges) shown in
    let outputs : outputs_in trie ≡ (image_in bytes).outputs = are.outputs ∙ ap (λ b. (image_in b).outputs) shown in
    let splits : trie.splits ≡ length (image_in bytes).splits = are.splits ∙ ap (λ b. length (image_in b).splits) shown in
    let keep = keeps (image_in bytes) trie nodes edges outputs splits c.in_ok-homes.homes.items (c.orphan.ensures.none c.in_default.is) (c.misled.ensures.none c.in_default-misled.is) (c.doubled.ensures.none c.in_default-doubled.is) c.in_ok-homes.ensures in
    λ e. certified_bytes bytes c.args.image.now.wellformed keep.shape
