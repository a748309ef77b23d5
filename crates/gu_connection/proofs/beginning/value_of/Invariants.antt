use Rattle.std.proofs.Common.{◌≡◌}
use Rattle.gu_codec.specs.Answer.{pairs}
use Rattle.gu_message.specs.Finding.{value_of}
use Rattle.gu_connection.proofs.beginning.value_of.Given as goal

abbrev pub invariant-loop-it : goal.invariant-loop-it
invariant-loop-it l = value_of l.tag (pairs l.it-iterator) ≡ value_of l.tag (pairs l.fn.fields)
