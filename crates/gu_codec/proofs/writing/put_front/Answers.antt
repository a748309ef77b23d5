use Rattle.std.specs.Prelude.{decimal, take}
use Rattle.gu_codec.specs.Writing.{view, fields_text, header_pairs}
use Rattle.gu_codec.proofs.Written.{front_put}
use Rattle.gu_codec.proofs.writing.put_front.Goals as goal

pub returns-clause-text : goal.returns-clause-text
returns-clause-text c =
    front_put (take c.args.start c.args.bytes.now) (decimal c.args.len)
    (fields_text (header_pairs (view c.args.header.now))) _ _ _ c.put-at.ensures.text c.put_number-at.ensures.text
    c.put_header.ensures.text
