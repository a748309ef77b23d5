-- The words of the definitions that the proofs of the book cite, passed on together: trees, fees, terms and positions,
-- and what the book keeps of them.
use Rattle.gu_base
use Rattle.gu_book.specs
use Rattle.gu_depend.proofs
use Rattle.std
pub use gu_base.proofs.Accepted.{allowed, change_refused, first_none, open_from_none}
pub use gu_base.proofs.{Basics.or_false, Consenting.{left_open, not_reversed}}
pub use gu_base.proofs.{LegalLaws.legal_from_replay, LiveLaws.is_live, NodeNames.{made, part_parent}}
pub use gu_base.proofs.{Numbered.{found_at, known_entry, rises_later}, RunLaws.{run_all, taken}, Searches.find_has}
pub use proofs.{Deals.{accepted_there, facts, named_once, Settled, SettledAs}, Finds.find_filter}
pub use proofs.{Finds.{found_once, some_with}, Grown.{made_number, maker}, Replay.{Legal, number_once, NumbersOnce}}
pub use proofs.{StandsLast.{any_in, gone, node_of_maker}, StandsUnder.{any_found, rises_above, rises_distinct}}
pub use proofs.Vocabulary.{agreement, bytes_same, Call, charge_of, Command, decides}
pub use proofs.Vocabulary.{Decides-eqb, depth_of, Entry, entry_of, EntryPart, find_passes, first, first_refused}
pub use proofs.Vocabulary.{found_in, House, is_among, is_change, kind_of_part, knows_account, live, name_same}
pub use proofs.Vocabulary.{Node, node_of, nodes, nodes_of, nodes_of_parts, none_is_some, numbered_as, numbered_from}
pub use proofs.Vocabulary.{on_change, parent, Part, parties_of, Record, records, refusal_of_part, reversal_of, Reverse}
pub use proofs.Vocabulary.{Root, same_name, same_side, same_Some, Side, Split, split_row, suc, Trade, without, ◌||◌}
pub use Rattle.gu_consent.specs.{declared.Consents.Consents, Given.given}
pub use Rattle.gu_depend.specs.{Moves.lots_at, Terms.{AreTermsOf, pair_of}, Under.names}
pub use Rattle.gu_positions.specs.{declared.positions.Key.Key, Rows.{is_key, lots_in, PositionRows}}
pub use Rattle.gu_tree.specs.{declared.head.Head.Head, Grove.{Grove, IsPlace, last_place}, Rose.{head_of, Rose}}
pub use Rattle.gu_tree.specs.{Shown.{DecidesNode, named_node}, ShownAll.{change_of, IsTreeIn, named_place, place_in}}
pub use specs.{Charging.AreFeesOf, declared.found.{Found.Found, Named.Named, Undone.Undone}}
pub use specs.declared.{live_state.{Addition.Addition, LiveState.LiveState}, lookups.Reversals.Reversals}
pub use specs.{declared.{rules.holdings.Holding.Holding, undo.Undo.Undo}, Filed.{IsFree, IsGroveOf, IsNext}}
pub use specs.Holdings.{added_by, ArePositionsOf, counted_at, deal_of, HaveMoved, HaveRoom, HaveThere, held_above}
pub use Rattle.gu_book.proofs.Takings.{is_claim, IsSmallDeed, taken_by}
pub use specs.Holdings.{held_at, holding_away, holding_of, part_away, part_holding, taken_at, traded_at}
pub use specs.{Kinds.IsOfTerms, Limits.{AllWithinLimits, IsWithinLimits}, Live.{entry_of_change, IsLiveAt}}
pub use specs.{Live.record_of, Seen.{BookView, stored}, TreeRows.{is_live_trade, is_trade}, Visits.is_of_trees}
pub use std.proofs.Common.{All, ap, append-nil, append_assoc, arith, Bool, bytes_eq, cond, Contains}
pub use std.proofs.Common.{count_by, drop, false, filter, filter_map, find, get_or, IfSome, inl, inr, is_none, is_some}
pub use std.proofs.Common.{IsSome, IsSomeAnd, IsTrue, length, List, map, mul-le-mul_right, nat_le, nat_lt, None}
pub use std.proofs.Common.{not, Option, option_and_then, option_map, refl, rules, Some, subst, sum_by, sym, take, true}
pub use std.proofs.Common.{unwrap_or, [], ℕ, ◌&&◌, ◌*◌, ◌++◌, ◌+◌, ◌-◌, ◌<◌, ◌==◌, ◌^◌, ◌∙◌, ◌∷◌, ◌≡◌, ◌≢◌, ◌≤◌, ◌⊎◌}
pub use std.proofs.lemmas.{Bool.{and_parts, eqb-true, leb-true}, Grind.common_steps, List.drop_all}
pub use std.proofs.lemmas.List.Elements.{All-append, All-cons, All-contains, All-contains_itself, All-filter, All-head}
pub use std.proofs.lemmas.List.{Elements.{All-nil, All-push, All-tail, All-weaker}, Folds.find-append, Sums.sum_by-cons}
pub use std.proofs.{lemmas.{Map.Keys.{IsDistinct-head, IsDistinct-tail}, Slice.Eq.bytes_eq-Decides}, Math.Bool.or-true}
pub use std.specs.{Bool.Decides, List.{AllByRecursion, cons_option}, Map.lookup, Option.option_or}
