use Rattle.std.proofs.Common.{rules}
use Rattle.gu_codec.proofs.writing.Header.has_texts.Goals as goal

pub returns-then-is_text-2-clause-yes : goal.returns-then-is_text-2-clause-yes
returns-then-is_text-2-clause-yes c = search rules
