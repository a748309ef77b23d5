use Rattle.std.proofs.Common.{◌≡◌, ◌≤◌, ◌<◌, ◌*◌, [], length, map, sym, ◌∙◌, ap, arith}
use Rattle.std.specs.Prelude.{slice_index_or}
use Rattle.std.proofs.lemmas.List.{get_or-map, get_or-replicate, length-replicate}
use Rattle.gu_ids.specs.declared.ids.Bucket.{Bucket}
use Rattle.gu_ids.specs.declared.ids.Link.{Link}
use Rattle.gu_ids.specs.Chains.{hashes_of, newests_of, is_in}
use Rattle.gu_ids.specs.Newest.{newest}
use Rattle.gu_ids.proofs.Marked.{newests_long}
use Rattle.gu_ids.proofs.ids.Ids.empty.Goals as goal

pub returns-clause-none : goal.returns-clause-none
returns-clause-none c =
    let none : Bucket = record { newest = 0; marks = 0 } in
    let heads = c.vacate.new.buckets.items in
    let old = c.args.self.now.buckets.items in
    let long = newests_long heads in
    let same : length heads ≡ length old = ap length c.vacate.ensures ∙ length-replicate (length old) none in
    let nothing = ap length c.clear.ensures.items in
    record {
      hashes = ap hashes_of c.clear.ensures.items;
      chains = record {
        head = λ b inside.
            get_or-map (λ (h : Bucket). h.newest) heads b none 0 (omega (arith, inside, long))
            ∙ (ap (λ l. (slice_index_or l b none).newest) c.vacate.ensures
            ∙ (ap (λ (h : Bucket). h.newest)
            (get_or-replicate (length old) b none none (omega (arith, inside, long, same)))
            ∙ sym (ap (newest (is_in (hashes_of c.clear.new.self.items) (length (newests_of heads)) b)) nothing)));
        before = λ j less. absurd (omega (arith, less, nothing));
      };
      marked = λ j less. absurd (omega (arith, less, nothing));
      few = omega (arith, nothing);
    }
