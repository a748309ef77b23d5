use Rattle.gu_lives.proofs.Ids.{refusal_ids, whole_ids}
use Rattle.gu_lives.proofs.laws.other_ids_change_nothing.Goals as goal

pub returns-clause-refused : goal.returns-clause-refused
returns-clause-refused c = λ t g l. refusal_ids g l t

pub returns-clause-whole : goal.returns-clause-whole
returns-clause-whole c = λ t g. whole_ids g t
