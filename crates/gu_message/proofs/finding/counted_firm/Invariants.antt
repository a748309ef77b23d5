use Rattle.std.proofs.Common.{◌≡◌, Some, length}
use Rattle.std.specs.Prelude.{◌==◌, option_map}
use Rattle.std.specs.Option.{option_map_or}
use Rattle.gu_codec.specs.Answer.{pairs}
use Rattle.gu_message.specs.Finding.{entries, clearing_firm}
use Rattle.gu_message.proofs.Entries.{entries_with}
use Rattle.gu_message.proofs.finding.counted_firm.Given as goal

abbrev pub invariant-loop-tag : goal.invariant-loop-tag
invariant-loop-tag l = record {
  counted : (length (entries l.first_tag (pairs l.tag-iterator)) == l.left)
      ≡ (length (entries l.first_tag (pairs l.fn.group)) == l.count);
  firm : option_map_or (λ v. Some v.now) l.firm
      (clearing_firm l.role_tag (entries_with l.first_tag (option_map (λ v. v.now) l.party) (pairs l.tag-iterator)))
      ≡ clearing_firm l.role_tag (entries l.first_tag (pairs l.fn.group));
}
