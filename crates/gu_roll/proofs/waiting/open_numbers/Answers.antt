use Rattle.std.proofs.Common.{◌≡◌, ◌∙◌, ℕ, Bool, List, length, map, sym, ap, subst}
use Rattle.std.specs.Prelude.{Option, None, filter, replicate}
use Rattle.std.specs.List.{list_any}
use Rattle.gu_depend.proofs.Replay.{legal_list}
use Rattle.gu_lives.specs.Trades.{in_trades, is_open}
use Rattle.gu_roll.specs.Opened.{decides_at, is_kept_by, opens_at, trades_from}
use Rattle.gu_roll.proofs.OpenNodes.{kept_told}
use Rattle.gu_roll.proofs.OpenTrades.{all_known, AreKnown}
use Rattle.gu_roll.proofs.Renamed.{if_ok, number_of}
use Rattle.gu_roll.proofs.waiting.open_numbers.Goals as goal

pub returns : goal.returns
returns c t l whole of up same =
    let h = c.args.history.now in
    let numbers = c.args.numbers.now in
    let trades : List (Option ℕ) = c.in_ok-trades.trades.items in
    let flags : List Bool = c.in_ok-flags.flags.items in
    let decided = c.in_ok-decided.decided in
    let legal = legal_list t l whole.distinct whole.legal in
    let from : trades ≡ trades_from h (replicate (length h) None) (map number_of l) =
    c.in_ok-trades.ensures ∙ ap (trades_from h (replicate (length h) None)) same in
    let known : AreKnown h l l trades =
    subst (λ (z : List (Option ℕ)). AreKnown h l l z) (sym from) (all_known t h l legal of whole.legal up) in
    let kept = kept_told t h l legal whole.legal of decided
    (λ k. c.in_ok-decided.ensures k ∙ ap (list_any (decides_at h k)) same) trades known flags
    (λ k low high.
    c.in_ok-flags.ensures k low high
    ∙ (ap (λ (z : List (Option ℕ)). list_any (opens_at h z decided k) numbers) c.deref.ensures.value
    ∙ ap (list_any (opens_at h trades decided k)) same)) in
    if_ok (λ v. v.items ≡ filter (is_kept_by c.deref-2.result.now c.deref-3.result.now) numbers)
    (λ v. v.items ≡ map number_of (filter (in_trades l (is_open l)) l))
    (λ v is.
    is
    ∙ (ap (λ (z : List (Option ℕ)). filter (is_kept_by z c.deref-3.result.now) numbers) c.deref-2.ensures.value
    ∙ (ap (λ (z : List Bool). filter (is_kept_by trades z) numbers) c.deref-3.ensures.value
    ∙ (ap (filter (is_kept_by trades flags)) same ∙ kept))))
    c.kept_of.result c.kept_of.ensures
