use Rattle.std.proofs.Common.{◌∙◌, leb, rules}
use Rattle.std.proofs.lemmas.List.{take_rest}
use Rattle.std.proofs.lemmas.List.Sorted.{IsPartitionPoint-from_clause, IsPartitionedBy-leb}
use Rattle.gu_trace.proofs.Indexed.{non_decreasing, from_point}
use Rattle.gu_trace.proofs.index.above.Goals as goal

pub returns : goal.returns
returns c =
    let ns = c.args.numbers.now in
    let i = c.partition_point-place.result in
    let parted = IsPartitionedBy-leb (λ n. n) ns c.args.after (non_decreasing 0 c.requires.0 ns c.requires.1) in
    let point = IsPartitionPoint-from_clause
    (λ n. leb n c.args.after) ns i c.partition_point-place.ensures.partitioned parted (λ a r q k. search rules) in
    take_rest ns i ∙ from_point c.args.after i ns point.0 point.1
