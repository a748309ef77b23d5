use Rattle.std.proofs.Common.{sym, ◌∙◌}
use Rattle.gu_codec.proofs.ShortTags.{ends_behind}
use Rattle.gu_codec.proofs.fields.ends_short.Goals as goal

pub returns-clause-behind : goal.returns-clause-behind
returns-clause-behind c = λ front.
    ends_behind c.args.bytes.now c.requires (sym c.is_front.ensures ∙ front) c.if-bytes-eq-SOH-3.false
    c.if-bytes-eq-SOH-2.false c.if-bytes-eq-SOH.false
