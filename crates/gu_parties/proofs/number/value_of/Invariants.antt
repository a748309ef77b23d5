use Rattle.std.proofs.Common.{◌≡◌, ◌<◌, ◌^◌, drop, IsTrue}
use Rattle.std.specs.List.{list_all}
use Rattle.gu_parties.specs.Numbers.{value_from}
use Rattle.gu_parties.proofs.number.value_of.Given as goal
use Rattle.gu_base.specs.Names.{is_digit}

abbrev pub invariant-loop-b : goal.invariant-loop-b
invariant-loop-b l =
    (value_from l.value (drop l.b-index l.text) ≡ value_from 0 l.text)
    × IsTrue (list_all is_digit (drop l.b-index l.text)) × (l.value < 10 ^ l.b-index)
