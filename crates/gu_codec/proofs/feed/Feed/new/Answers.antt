use Rattle.std.proofs.Common.{rules}
use Rattle.gu_codec.proofs.feed.Feed.new.Goals as goal

pub returns : goal.returns
returns c = search rules
