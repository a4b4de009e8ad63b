-- The strings of rules, put with their automaton: what an image has then, and keeps.
use Rattle.std.proofs.Common.{◌≡◌, ℕ, ◌+◌, ◌*◌, ◌/◌, ◌%◌, ◌==◌, ◌<◌, ◌≤◌, nat_le, ◌&&◌, Bool, true, false, List, [], ◌∷◌, ◌++◌, length, All, Contains, Option, Some, None, slice_get, refl, sym, ap, ap₂, ◌∙◌, subst, arith}
use Rattle.std.proofs.lemmas.Bool.{le-leb}
use Rattle.std.specs.List.{list_all}
use Rattle.std.specs.Option.{option_map_or}
use Rattle.std.proofs.lemmas.List.{length-map}
use Rattle.std.proofs.lemmas.List.Elements.{All-contains}
use Rattle.yr_base.specs.Bytes.{is_word_byte}
use Rattle.yr_base.specs.Words.{name_limit}
use Rattle.yr_syntax.specs.Forms.{Each, IsName}
use Rattle.yr_rows.specs.Nodes.{edge_of}
use Rattle.yr_rules.specs.Rules.{PlainString}
use Rattle.yr_rules.specs.Weight.{total, string_weight}
use Rattle.yr_rules.specs.Wellformed.{IsGoodString}
use Rattle.yr_automaton.specs.Automaton.{Rows, IsAutomatonOf}
use Rattle.yr_image.specs.declared.rows.StringRow.{StringRow}
use Rattle.yr_image.specs.declared.rows.SplitRow.{SplitRow}
use Rattle.yr_image.specs.Image.{Image, in_pool}
use Rattle.yr_machine.specs.Rows.{is_good_split, row_passes}
use Rattle.yr_machine.specs.Names.{is_string_name, string_name}
use Rattle.yr_image.specs.Encoding.{encoded_length}
use Rattle.yr_draft.specs.Growing.{Grows}
use Rattle.yr_splits.specs.Placed.{Placed, IsBelow}
use Rattle.yr_splits.specs.SplitRows.{flag}
use Rattle.yr_splits.specs.Standing.{atoms_of, StandsFor}
use Rattle.yr_splits.specs.Sizes.{total_length, atoms_cost}
use Rattle.yr_splits.specs.Filling.{IsStringRow, IsSound, HasStrings, Filled, PutsAutomaton, PutsStrings, KeepsStrings, rows_in}
use Rattle.yr_splits.proofs.GrowLemmas.{grows_after, grows_same, rows_grow}
use Rattle.yr_splits.proofs.ProgramLemmas.{programs_stay}
use Rattle.yr_splits.proofs.AutomatonLemmas.{few_nodes, few_edges, few_outputs}
use Rattle.yr_splits.proofs.FillLemmas.{say_stays}
use Rattle.yr_splits.proofs.PassLemmas.{split_passes}
use Rattle.yr_splits.proofs.ReportLemmas.{there_at}
use Rattle.yr_splits.proofs.CountLemmas.{there_too}

-- the bytes of the sections of an automaton, and of the others
abbrev automaton_bytes : Image → ℕ
automaton_bytes image = 24 * length image.nodes + 8 * length image.edges + 4 * length image.outputs

abbrev bytes_apart : Image → ℕ
bytes_apart image = encoded_length (record image { nodes = []; edges = []; outputs = [] })

in_two : (image : Image) → encoded_length image ≡ bytes_apart image + automaton_bytes image
in_two image = omega arith

automaton_cost : (words : List (List ℕ)) (rows : Rows) → IsAutomatonOf words rows
    → 24 * length rows.nodes + 8 * length rows.edges + 4 * length rows.outputs ≤ 32 + (4 * length words + 32 * total_length words)
automaton_cost words rows a =
    let n = few_nodes (edge_of rows.nodes rows.edges) (length rows.nodes) words a.named a.prefixes in
    let e = few_edges rows.nodes rows.edges rows.outputs a.some a.wellformed a.parents in
    let o = few_outputs rows.outputs (length words) a.one_output a.no_output in omega (arith, n, e, o)

pub automaton_put : (old new : Image) (words : List (List ℕ)) (rows : Rows) → old.nodes ≡ [] → old.edges ≡ [] → old.outputs ≡ []
    → new ≡ record old { nodes = old.nodes ++ rows.nodes; edges = old.edges ++ rows.edges; outputs = old.outputs ++ rows.outputs }
    → IsAutomatonOf words rows → PutsAutomaton old new words
automaton_put old new words rows no_nodes no_edges no_outputs put a = record { others = others; is = is; cost = cost }
  where
    nodes : new.nodes ≡ rows.nodes
    nodes = ap (λ (i : Image). i.nodes) put ∙ ap (λ l. l ++ rows.nodes) no_nodes

    edges : new.edges ≡ rows.edges
    edges = ap (λ (i : Image). i.edges) put ∙ ap (λ l. l ++ rows.edges) no_edges

    outputs : new.outputs ≡ rows.outputs
    outputs = ap (λ (i : Image). i.outputs) put ∙ ap (λ l. l ++ rows.outputs) no_outputs

    others : new ≡ record old { nodes = new.nodes; edges = new.edges; outputs = new.outputs }
    others =
        let n : old.nodes ++ rows.nodes ≡ new.nodes = sym (ap (λ (i : Image). i.nodes) put) in
        let e : old.edges ++ rows.edges ≡ new.edges = sym (ap (λ (i : Image). i.edges) put) in
        let o : old.outputs ++ rows.outputs ≡ new.outputs = sym (ap (λ (i : Image). i.outputs) put) in
        let same : record old { nodes = old.nodes ++ rows.nodes; edges = old.edges ++ rows.edges; outputs = old.outputs ++ rows.outputs }
        ≡ record old { nodes = new.nodes; edges = new.edges; outputs = new.outputs } =
        λ i. record old { nodes = n i; edges = e i; outputs = o i } in
        put ∙ same

    rows_are : rows ≡ rows_in new
    rows_are = let n = sym nodes in let e = sym edges in let o = sym outputs in λ i. record { nodes = n i; edges = e i; outputs = o i }

    is : IsAutomatonOf words (rows_in new)
    is = subst (IsAutomatonOf words) rows_are a

    cost : encoded_length new ≤ encoded_length old + 32 + (4 * length words + 32 * total_length words)
    cost =
        let c = automaton_cost words rows a in
        let two = in_two new in
        let one = in_two old in
        let apart : bytes_apart new ≡ bytes_apart old = ap bytes_apart others in
        let n : length new.nodes ≡ length rows.nodes = ap length nodes in
        let e : length new.edges ≡ length rows.edges = ap length edges in
        let o : length new.outputs ≡ length rows.outputs = ap length outputs in
        omega (arith, c, two, one, apart, n, e, o)

-- the bytes that the atoms have been reckoned with are those of their automaton
reckoned : (placed : List Placed) → atoms_cost placed ≡ 4 * length (atoms_of placed) + 32 * total_length (atoms_of placed)
reckoned [] = omega arith
reckoned (p ∷ placed) = let rest = reckoned placed in omega (arith, rest)

has_stays : (old new : Image) (placed : List Placed) (strings : List PlainString) → Grows old new → new.strings ≡ old.strings → new.splits ≡ old.splits
    → HasStrings old placed strings → HasStrings new placed strings
has_stays old new placed strings grows same_strings same_splits h = record {
  splits = h.splits;
  rows = rows_grow old new placed grows same_splits h.rows;
  string_rows = say_stays old new strings grows same_strings h.string_rows;
  long = h.long;
  sound = h.sound;
}

pub strings_put : (start middle new : Image) (placed : List Placed) (strings : List PlainString) (atoms : List (List ℕ)) → Filled start middle placed strings atoms
    → PutsAutomaton middle new atoms → PutsStrings start new strings
strings_put start middle new placed strings atoms f put = record {
  placed = placed;
  has = has_stays middle new placed strings to_new (ap (λ (i : Image). i.strings) put.others) (ap (λ (i : Image). i.splits) put.others) f.has;
  automaton = subst (λ (l : List (List ℕ)). IsAutomatonOf l (rows_in new)) f.atoms_are put.is;
  others = others;
  grows = grows_after start middle new f.later.grows to_new;
  programs = λ h. programs_stay middle new to_new (ap (λ (i : Image). i.programs) put.others) (ap (λ (i : Image). i.moves) put.others) (f.later.programs h);
  cost =
      let a = f.cost in
      let b = put.cost in
      let c = reckoned placed in
      let d : 4 * length atoms + 32 * total_length atoms ≡ 4 * length (atoms_of placed) + 32 * total_length (atoms_of placed) =
      ap (λ (l : List (List ℕ)). 4 * length l + 32 * total_length l) f.atoms_are in
      omega (arith, a, b, c, d);
}
  where
    to_new : Grows middle new
    to_new = grows_same middle new (ap (λ (i : Image). i.sets) put.others) (ap (λ (i : Image). i.programs) put.others) (ap (λ (i : Image). i.moves) put.others) (ap (λ (i : Image). i.pool) put.others)

    others : new ≡ record start {
      strings = new.strings;
      splits = new.splits;
      sets = new.sets;
      programs = new.programs;
      moves = new.moves;
      nodes = new.nodes;
      edges = new.edges;
      outputs = new.outputs;
      pool = new.pool;
    }
    others =
        let s : middle.strings ≡ new.strings = sym (ap (λ (i : Image). i.strings) put.others) in
        let p : middle.splits ≡ new.splits = sym (ap (λ (i : Image). i.splits) put.others) in
        let t : middle.sets ≡ new.sets = sym (ap (λ (i : Image). i.sets) put.others) in
        let g : middle.programs ≡ new.programs = sym (ap (λ (i : Image). i.programs) put.others) in
        let m : middle.moves ≡ new.moves = sym (ap (λ (i : Image). i.moves) put.others) in
        let l : middle.pool ≡ new.pool = sym (ap (λ (i : Image). i.pool) put.others) in
        let two : record middle { nodes = new.nodes; edges = new.edges; outputs = new.outputs } ≡ record start {
          strings = middle.strings;
          splits = middle.splits;
          sets = middle.sets;
          programs = middle.programs;
          moves = middle.moves;
          nodes = new.nodes;
          edges = new.edges;
          outputs = new.outputs;
          pool = middle.pool;
        } = ap (λ (i : Image). record i { nodes = new.nodes; edges = new.edges; outputs = new.outputs }) f.later.others in
        let three : record start {
          strings = middle.strings;
          splits = middle.splits;
          sets = middle.sets;
          programs = middle.programs;
          moves = middle.moves;
          nodes = new.nodes;
          edges = new.edges;
          outputs = new.outputs;
          pool = middle.pool;
        } ≡ record start {
          strings = new.strings;
          splits = new.splits;
          sets = new.sets;
          programs = new.programs;
          moves = new.moves;
          nodes = new.nodes;
          edges = new.edges;
          outputs = new.outputs;
          pool = new.pool;
        } = λ i. record start {
          strings = s i;
          splits = p i;
          sets = t i;
          programs = g i;
          moves = m i;
          nodes = new.nodes;
          edges = new.edges;
          outputs = new.outputs;
          pool = l i;
        } in
        put.others ∙ two ∙ three

-- fewer atoms than an automaton can have
pub few_atoms : (start image : Image) (placed : List Placed) (strings : List PlainString) (atoms : List (List ℕ)) → Filled start image placed strings atoms
    → total string_weight strings ≤ 33554432 → length atoms < 1073741824
few_atoms start image placed strings atoms f light =
    let a : length atoms ≡ length (atoms_of placed) = ap length f.atoms_are in
    let b = length-map placed (λ (p : Placed). p.split.atom) in
    let c = f.few in omega (arith, a, b, c, light)

-- ---- what follows

flags_greedy : (hidden greedy : Bool) → ((flag hidden + 2 * flag greedy) / 2 % 2 == 1) ≡ greedy
flags_greedy true true = refl
flags_greedy true false = refl
flags_greedy false true = refl
flags_greedy false false = refl

flags_low : (hidden greedy : Bool) → nat_le (flag hidden + 2 * flag greedy) 3 ≡ true
flags_low true true = refl
flags_low true false = refl
flags_low false true = refl
flags_low false false = refl

pub stands : (image : Image) (placed : List Placed) (strings : List PlainString) → HasStrings image placed strings → IsAutomatonOf (atoms_of placed) (rows_in image)
    → StandsFor image placed strings
stands image placed strings h a = record {
  splits = h.splits;
  rows = h.rows;
  automaton = a.reports;
  string_rows = record {
    count = h.string_rows.count;
    greedy = λ k string row at row_at. let r = h.string_rows.each k string row at row_at in
        ap (λ n. n / 2 % 2 == 1) r.flags ∙ flags_greedy string.hidden string.greedy;
  };
}

pub stays : (old new : Image) (placed : List Placed) (strings : List PlainString) → Grows old new → KeepsStrings old new → HasStrings old placed strings
    → IsAutomatonOf (atoms_of placed) (rows_in old) → HasStrings new placed strings × IsAutomatonOf (atoms_of placed) (rows_in new)
stays old new placed strings grows keeps h a =
    let n = sym keeps.nodes in
    let e = sym keeps.edges in
    let o = sym keeps.outputs in
    let same : rows_in old ≡ rows_in new = λ i. record { nodes = n i; edges = e i; outputs = o i } in
    (has_stays old new placed strings grows keeps.strings keeps.splits h, subst (IsAutomatonOf (atoms_of placed)) same a)

-- ---- what passes

pub both : (a b : Bool) → a ≡ true → b ≡ true → (a && b) ≡ true
both a b e f = ap₂ (λ x y. x && y) e f

all_pass : (test : ℕ → Bool) (xs : List ℕ) → Each (λ b. test b ≡ true) xs → list_all test xs ≡ true
all_pass test [] h = refl
all_pass test (x ∷ xs) h = both (test x) (list_all test xs) h.0 (all_pass test xs h.1)

good_name : (name : List ℕ) → IsName name → is_string_name name ≡ true
good_name name h = both (list_all is_word_byte name) (nat_le (length name) name_limit) (all_pass is_word_byte name h.0) (le-leb (length name) name_limit h.1)

module _ (image : Image) (placed : List Placed) (strings : List PlainString) (has : HasStrings image placed strings) where
  -- the split of a row, and the string of one
  split_of_row : (k : ℕ) (row : SplitRow) → slice_get image.splits k ≡ Some row → (p : Placed) × (slice_get placed k ≡ Some p)
  split_of_row k row h = there_too image.splits placed k row has.rows.count h

  string_of_row : (k : ℕ) (row : StringRow) → slice_get image.strings k ≡ Some row → (string : PlainString) × (slice_get strings k ≡ Some string)
  string_of_row k row h = there_too image.strings strings k row has.string_rows.count h

  pub splits_pass : (k : ℕ) → row_passes image (is_good_split image 0) image.splits k ≡ true
  splits_pass k = at (slice_get image.splits k) refl
    where
      at : (o : Option SplitRow) → slice_get image.splits k ≡ o → option_map_or (is_good_split image 0) o true ≡ true
      at None e = refl
      at (Some row) e =
          let p = split_of_row k row e in
          let there : Contains placed p.0 = there_at placed k p.0 p.1 in
          let below : p.0.string < length strings = All-contains (IsBelow (length strings)) placed p.0 has.splits.below there in
          let sound : IsSound p.0 = All-contains IsSound placed p.0 has.sound there in
          let count = has.string_rows.count in
          split_passes image p.0 row (has.rows.each k p.0 row p.1 e) (omega (arith, below, count)) sound.short sound.one

  pub string_says : (k : ℕ) (row : StringRow) → slice_get image.strings k ≡ Some row
      → (string : PlainString) × (slice_get strings k ≡ Some string) × IsStringRow image string row
  string_says k row h = let s = string_of_row k row h in (s.0, s.1, has.string_rows.each k s.0 row s.1 h)

  pub string_place_passes : (k : ℕ) (row : StringRow) → slice_get image.strings k ≡ Some row → in_pool image row.name_place row.name_length ≡ true
  string_place_passes k row h = le-leb (row.name_place + row.name_length) (length image.pool) (string_says k row h).2.inside

  pub string_flags_pass : (k : ℕ) (row : StringRow) → slice_get image.strings k ≡ Some row → nat_le row.flags 3 ≡ true
  string_flags_pass k row h =
      let s = string_says k row h in ap (λ n. nat_le n 3) s.2.flags ∙ flags_low s.0.hidden s.0.greedy

  pub string_name_passes : All IsGoodString strings → (k : ℕ) (row : StringRow) → slice_get image.strings k ≡ Some row → is_string_name (string_name image row) ≡ true
  string_name_passes good k row h =
      let s = string_says k row h in
      ap is_string_name s.2.name ∙ good_name s.0.name (All-contains IsGoodString strings s.0 good (there_at strings k s.0 s.1)).0
