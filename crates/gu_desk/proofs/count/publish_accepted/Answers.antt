use Rattle.std.proofs.Common.{rules}
use Rattle.gu_desk.proofs.count.publish_accepted.Goals as goal

pub publish-requires-clause-one : goal.publish-requires-clause-one
publish-requires-clause-one c = search rules

pub returns : goal.returns
returns c = search rules
