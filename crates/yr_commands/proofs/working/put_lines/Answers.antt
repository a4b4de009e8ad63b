use Rattle.std.proofs.Common.{subst, ◌∙◌}
use Rattle.yr_base.specs.Sink.{Puts}
use Rattle.yr_commands.proofs.StepLemmas.{work-shown}
use Rattle.yr_commands.proofs.working.put_lines.Goals as goal

pub returns-clause-puts : goal.returns-clause-puts
returns-clause-puts g c =
    subst (λ text. Puts (g.O.Sink.written c.args.out.now) (g.O.Sink.written c.put_all.new.out) text c.put_all.result (g.O.Sink.faults c.args.out.now) (g.O.Sink.faults c.put_all.new.out))
    (work-shown c.args.rules c.args.bytes c.args.satisfied c.args.matches c.as_bytes.result.now c.as_bytes-2.result.now c.as_bytes-3.result.now c.as_bytes-4.result.now
    (c.as_bytes.ensures.value ∙ c.format.ensures.text) (c.as_bytes-2.ensures.value ∙ c.format-2.ensures.text) (c.as_bytes-3.ensures.value ∙ c.format-3.ensures.text)
    (c.as_bytes-4.ensures.value ∙ c.format-4.ensures.text)) c.put_all.ensures.puts
