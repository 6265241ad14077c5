-- A message behind the gate: a missing interrupt, and one that the side may not name, is unchanged.
use Rattle.std.specs.Prelude.{cond, ◌&&◌}
use Rattle.types.specs.declared.Shape.{Shape}
use Rattle.types.specs.declared.Side.{Side}
use Rattle.types.specs.declared.Message.{Message}
use Rattle.meaning.specs.Interrupt.{Interrupt}
use Rattle.meaning.specs.Cell.{Cell}
use Rattle.meaning.specs.Rule.{may_send, sent}

unfoldable pub delivered : Shape → Side → Message → Interrupt → Cell → Cell
delivered s side g i c = cond (c.implemented && may_send side g i c) (sent s g i c) c
