use Rattle.std.proofs.Common.{◌≡◌, ◌<◌, length, map, ap, ◌∙◌, sym, arith, None, get_or, ◌+◌, ◌-◌, ◌≤◌, ◌∷◌, take, drop}
use Rattle.std.proofs.lemmas.Option.{slice_get-get_or}
use Rattle.yr_rows.specs.Nodes.{outputs_of}
use Rattle.yr_answer.specs.Turns.{item_turns, string_turns}
use Rattle.yr_vm.specs.Turns.{left_shown, item_shown, last_item}
use Rattle.yr_vm.proofs.TurnLemmas.{window-next}
use Rattle.yr_vm.proofs.turning.next_turn.Goals as goal

pub returns-in-Items-clause-turns : goal.returns-in-Items-clause-turns
returns-in-Items-clause-turns c =
    let items = c.args.items.now in
    let from = c.in-Items.from in
    let count = c.in-Items.count in
    let lists = outputs_of c.args.lists.now in
    let inside : from < length items = omega (arith, ap last_item c.in-Items.is) in
    ap (left_shown lists items) c.in-Items.is
    ∙ ap (λ xs. item_turns (map item_shown xs)) (window-next items from count (get_or items from None) (omega arith) (slice_get-get_or items from None inside))
    ∙ ap (λ t. t ∷ item_turns (map item_shown (take (count - 1) (drop (from + 1) items)))) (sym c.item_turn.ensures)

pub returns-in_ok-member-in-Members-clause-turns : goal.returns-in_ok-member-in-Members-clause-turns
returns-in_ok-member-in-Members-clause-turns c =
    let lists = outputs_of c.args.lists.now in
    ap (left_shown lists c.args.items.now) c.in-Members.is
    ∙ ap string_turns (window-next lists c.in-Members.row c.in-Members.count c.in_ok-member-in-Members.member (omega arith) (sym c.member_at.ensures ∙ c.in_ok-member-in-Members.was))
