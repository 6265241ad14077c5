-- `put_step` puts `step_text`: the lines step=, status= and value=, one after the other. One way out (returns).
use Rattle.std.proofs.Common.{◌∙◌}
use Rattle.text.proofs.Puts.{writes_both}
use Rattle.replay_meaning.specs.Run.{step_text}
use Rattle.replay_steps.proofs.answer.put_step.Goals as goal

pub returns : goal.returns
unfolding step_text
returns c =
    rw (
      ← c.from.ensures,
      ← c.from-2.ensures ∙ c.status_of-status.ensures,
      ← c.from-3.ensures ∙ c.value_of-value.ensures,
    )
    (writes_both c.put_line.ensures (writes_both c.put_line-2.ensures c.put_line-3.ensures))
