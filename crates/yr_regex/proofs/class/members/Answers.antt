use Rattle.std.proofs.Common.{sym, ◌∙◌}
use Rattle.yr_regex.specs.Parts.{bytes_read}
use Rattle.yr_regex.specs.Reading.{members_at}
use Rattle.yr_regex.proofs.StepLemmas.{one_more, members-end, members-next, after-unseen}
use Rattle.yr_regex.proofs.class.members.Goals as goal

pub returns-then-eat : goal.returns-then-eat
returns-then-eat c =
    one_more (λ n. members_at n c.loop-turn.first (bytes_read c.loop-turn.all) c.loop-turn.text) _ c.loop-turn._turn c.loop-turn-test.true c.loop-turn.invariant
    ∙ members-end _ c.loop-turn.first (bytes_read c.loop-turn.all) c.loop-turn.text (bytes_read c.in_ok-more.more) c.member.new.text c.eat.new.self (bytes_read c.and-all.result)
    c.in_ok-more.ensures c.and-all.ensures c.eat.ensures.after (sym c.if-eat.ensures.found)

pub loop-turn-preserved : goal.loop-turn-preserved
loop-turn-preserved c =
    one_more (λ n. members_at n c.loop-turn.first (bytes_read c.loop-turn.all) c.loop-turn.text) _ c.loop-turn._turn c.loop-turn-test.true c.loop-turn.invariant
    ∙ members-next _ c.loop-turn.first (bytes_read c.loop-turn.all) c.loop-turn.text (bytes_read c.in_ok-more.more) c.member.new.text c.eat.new.self (bytes_read c.and-all.result)
    c.in_ok-more.ensures c.and-all.ensures (after-unseen 93 c.member.new.text c.eat.new.self c.eat.ensures.after (sym c.if-eat.ensures.found)) (sym c.if-eat.ensures.found)
