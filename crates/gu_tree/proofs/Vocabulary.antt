-- The words of the definitions, and what several files here use of std and of gu_base, passed on together.
use Rattle.gu_base.specs
use Rattle.gu_tree.specs.Changes
use Rattle.std.proofs
pub use Changes.{decide_node}
pub use Changes.{is_open, IsLeaf, offer_again_node, offer_node, part_leaves, split_node, stand_path, unsplit_node}
pub use proofs.Common.{add-one, ap, append-nil, append_assoc, arith, Bool, cond, drop, false, get_or, inl}
pub use proofs.Common.{inr, IsSomeAnd, IsTrue, length, length-append, List, map, max, min, None, Option, option_copied}
pub use proofs.Common.{refl, rules, Some, subst, suc, sym, take, take_all, true, vec_capacity, zero, [], ℕ, ◌++◌}
pub use proofs.{Common.{◌+◌, ◌-◌, ◌<◌, ◌∙◌, ◌∷◌, ◌≡◌, ◌≢◌, ◌≤◌, ◌⊎◌}, lemmas.Bool.{and_parts, cases_Bool, cases_eq}}
pub use proofs.lemmas.List.{drop-set, Elements.{All-head, All-tail}, get_or_read, length-take-le, set-get_or, take_more}
pub use proofs.{lemmas.List.Folds.find-append, Math.{ListN.{length-set, set}, Seq.drop-cons}}
pub use Rattle.gu_base.proofs.NodeNames.{name_is, name_same, node_called, node_cut}
pub use Rattle.gu_base.proofs.{Passing.none_told, Searches.find_passes}
pub use Rattle.gu_sums.specs.Filing.{Contents, IsFiled, IsTakenOut, kept_at, last_of}
pub use Rattle.gu_tree.specs.declared.{head.{Decision.Decision, Head.Head, Row.Row, Stand.Stand}, slot.Slot.Slot}
pub use Rattle.gu_tree.specs.Paths.{above, edit_at, edit_part, HasAt, LeadsOn, LeadsTo, node_at, part_at}
pub use Rattle.gu_tree.specs.Rose.{from_list, head_of, height_of, leaf, named, named_below}
pub use Rattle.gu_tree.specs.{Rose.{no_parts, part_then, parted, Rose, Roses}, Sound.{AddUp, IsHeld, IsTree}}
pub use Rattle.std.specs.{Option.option_or, Prelude.{All, bytes_eq, filter, find, flat_map, if◌then◌else◌}}
pub use Rattle.std.specs.Prelude.{is_none, is_some, not, option_and_then, option_map, slice_get, unwrap_or, ◌==◌, ◌↔◌}
pub use specs.declared.command.{Command.{Command, TheVariants.{Cancel, Claim, Refuse, Split, Trade}}, Part.Part}
pub use specs.declared.{entry.Record.Record, node.{Kind.Kind, Node.Node, Place.Place}, numbers.Number.Number}
pub use specs.declared.state.State.{State, TheVariants.{Cancelled, Claimed, Held, Offered, Refused}}
pub use specs.Nodes.{claimed_account, decides, decision_of, node_of, nodes_of, nodes_of_parts, same_name, split_of}
pub use specs.{Nodes.splits, Numbers.EntryPart, Places.place_of_kind, Rows.{parts_of, state_after, state_of, taker_of}}
