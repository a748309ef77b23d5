-- The words of the definitions, and what several files here use of std and of the crates below, passed on together.
use Rattle.gu_base.proofs
use Rattle.gu_base.specs
use Rattle.std.proofs.Common
use Rattle.std.proofs.lemmas
use Rattle.std.specs.Prelude
pub use Common.{All, ap, append-nil, append_assoc, arith}
pub use Common.{Bool, cond, Contains, false, inl, inr, IsPermutation, IsSomeAnd, length, length-append, List, map}
pub use Common.{not, Option, refl, subst, suc, sym, true, zero, [], ℕ, ◌&&◌, ◌++◌, ◌+◌, ◌<◌, ◌||◌, ◌∙◌, ◌∷◌, ◌≡◌, ◌≤◌}
pub use lemmas.Bool.{and_parts, cases_Bool, cond_both, Decides.Decides-eqb, false_from_ne_true, or_cases, or_parts}
pub use lemmas.List.Elements.{All-cons, All-contains, All-contains_itself, All-head}
pub use lemmas.List.Elements.{All-nil, All-push, All-tail, All-weaker, Contains-append_right, filter_map-append}
pub use lemmas.List.{Folds.find-append, Sorted.sum_by-IsPermutation, Sums.{sum_by-append, sum_by-cons}}
pub use lemmas.{Option.same_Some, Slice.Eq.bytes_eq-Decides}
pub use Prelude.{bytes_eq, count_by, filter, filter_map, find}
pub use Prelude.{flat_map, is_none, is_some, None, option_and_then, option_map, Some, sum_by, unwrap_or, ◌==◌, ◌↔◌}
pub use proofs.Basics.{eqb_symm, no_some, none_is_some, none_or_some, nothing_here, or_none}
pub use proofs.Dealt.{AllFit, first_unfit, fits, unfit_none}
pub use proofs.LegalLaws.{legal_from_replay, none_refused, replay_from_legal, replay_front}
pub use proofs.{Lines.node_more, NodeNames.{made, made_of, name_is, name_same, node_called}, Passing.agree_passes}
pub use proofs.Passing.{at_node_none, claim_passes, decides_well, raise_passes, refusal_parts, SplitHolds, splits_well}
pub use proofs.Searches.{find_passes, found_in}
pub use Rattle.gu_depend.specs.{Moves.lots_at, Same.IsSameState, Terms.{AreTermsOf, pair_of, place_of_pair}}
pub use Rattle.gu_depend.specs.Under.{deals_under, first_under, is_under, names, numbers_under, stands_under}
pub use Rattle.gu_fees.specs.{Pairs.PairView, Terms.{pair_at, TermsView}}
pub use Rattle.gu_tree.specs.{NumbersOn.{least, number_in}, Shown.HasDistinctNumbers, ShownAll.change_of}
pub use Rattle.std.specs.List.{AllByRecursion, cons_option, list_any}
pub use specs.Answers.{accepted_or, after, after_by, answer_by, answer_to, Call, command_refusal}
pub use specs.Answers.{entry_of, initiate_rest, is_accepted, is_empty, is_same_call, is_same_id, on_change, reversal_of}
pub use specs.{Answers.reverse_rest, Consents.{consents_left, consents_of}}
pub use specs.Consents.{giver_alone, is_among, is_consenting, missing, of_node, parties_of, taker_and_giver}
pub use specs.{Dealt.leave_out, declared.command.Command.{Command, TheVariants.{Agree, Cancel}}}
pub use specs.declared.command.Command.TheVariants.{Claim, Decline, Initiate, Raise, Refuse, Reverse, Split, Trade}
pub use specs.declared.command.{Part.Part, Side.{Side, TheVariants.{Buy, Sell}}}
pub use specs.declared.entry.{Answer.{Answer, TheVariants.{Accepted, Repeated}}, Entry.Entry, Record.Record}
pub use specs.declared.house.{Agreement.Agreement, Dealing.Dealing, Deed.{Deed, TheVariants.{Makes, Raises, Uses}}}
pub use specs.declared.{house.Pair.Pair, node.{Charge.Charge, Deal.Deal, Kind.{Kind, TheVariants.{Given, Own, Root}}}}
pub use specs.declared.{node.{Node.Node, Place.Place}, refusal.Refusal.{Refusal, TheVariants.AlreadyConsented}}
pub use specs.declared.refusal.Refusal.TheVariants.{AlreadyReversed, BookFull, DuplicateId, NeedsConsent}
pub use specs.declared.refusal.Refusal.TheVariants.{NotAChange, NotAParty, NothingPending, StandsOn, UnknownFirm}
pub use specs.declared.state.State.{State, TheVariants.{Cancelled, Offered, Reversed}}
pub use specs.{Fees.{charge_of, charge_of_kind, charge_of_node, charges, counted}, FirmsNamed.NamesOnly}
pub use specs.History.{is_change, is_reverse_of, is_reversed, live, numbered_as, numbered_from, records, RisesFrom}
pub use specs.{House.{agreement, House, knows_account, knows_firm}, Limits.{highest_rate, most_entries, most_lots}}
pub use specs.Nodes.{claim_of, claimed_account, deal_in, decides, decision_of, is_given, is_offered}
pub use specs.Nodes.{kind_of_part, node_of, nodes, nodes_of, nodes_of_parts, parent, same_name, split_of, splits}
pub use specs.{Numbers.{are_terms, EntryPart, is_lots}, Orders.in_lawful_order, Places.depth_of}
pub use specs.Places.{line_of, line_within, place_along, place_of, place_of_kind, root_along, root_of, same_place}
pub use specs.Positions.{is_trade_of, leaves, position_of, same_side, stands_at, trades_in}
pub use specs.Refusals.{at_node, first, is_taker, knows_own_account, owns, raised_row}
pub use specs.{Refusals.{refusal_of, refusal_of_part, row, split_row, unless}, Rows.{state_after, state_of, taker_of}}
pub use specs.{Runs.{after_all, call_of, IsRunFrom, opening_calls, opening_from, opening_history}, Same.same_command}
pub use specs.{SamePartsLaws.{bytes_same, number_same}, Standing.{first_refused, IsLegal, standing_on, without}}
pub use specs.Terms.{dealings, dealings_in, deed_of, limit_of}
pub use specs.Terms.{limit_under, raised_under, terms_of, terms_under, use_of_kind, use_of_node, used_of, used_under}
