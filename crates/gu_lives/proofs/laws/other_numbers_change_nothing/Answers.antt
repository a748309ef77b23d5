use Rattle.gu_lives.proofs.Mapped.{state_same}
use Rattle.gu_lives.proofs.MappedRefusals.{refusal_mapped, standing_mapped}
use Rattle.gu_lives.proofs.laws.other_numbers_change_nothing.Goals as goal

pub returns-clause-refused : goal.returns-clause-refused
returns-clause-refused c = λ t f l by d one. refusal_mapped f one l t by d

pub returns-clause-stands : goal.returns-clause-stands
returns-clause-stands c = λ t f l k one. standing_mapped f one t l k

pub returns-clause-same : goal.returns-clause-same
returns-clause-same c = λ t f l one. state_same f one l t
