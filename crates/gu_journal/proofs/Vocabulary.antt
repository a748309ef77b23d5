-- The words of the definitions, and what several files here use of std and of other crates, passed on together.
pub use Rattle.gu_base.specs.{Answers.answer_to, declared.command.Command.{Command, TheVariants.{Agree, Raise, Split}}}
pub use Rattle.gu_base.specs.declared.command.{Command.TheVariants.Trade, Part.Part, Side.{Side, TheVariants.Buy}}
pub use Rattle.gu_base.specs.{declared.{command.Side.TheVariants.Sell, entry.Entry.Entry}, House.House}
pub use Rattle.gu_base.specs.{Names.{is_firm_text, is_id_text}, Numbers.{EntryPart, is_number}, Runs.call_of}
pub use Rattle.gu_base.specs.Runs.{IsRunFrom, opening_history}
pub use Rattle.gu_batch.specs.Output.{history_of}
pub use Rattle.gu_book.specs.Seen.{BookView, HouseAndHistory}
pub use Rattle.gu_codec.proofs.{ReadBack.text_of_message, Streams.{begins_stays, broken_stays, frame_len}}
pub use Rattle.gu_codec.specs.{Answer.pairs, Fronts.{Broken, Front, Garbled, IsFrontOf, Partial, Whole}}
pub use Rattle.gu_codec.specs.{Grammar.{IsFront, opening}, Messages.Message, Writing.{field, fields_text, header_pairs}}
pub use Rattle.gu_codec.specs.Writing.{IsWritable, message_text}
use Rattle.gu_journal.specs
pub use specs.{Counting.{BeginsBy, IsPart, Recovers, Stands, StartsAlike}, Damages.{HasCause, HasLaterSeal, HasMessage}}
pub use specs.{Damages.{IsNoLogon, IsReason, IsUntaken, LacksDigest, LacksForm}, declared.damage.Cause.Cause}
pub use specs.declared.{damage.RecoverError.RecoverError, file.Rest.Rest, journal.Journal.Journal, replay.Replay.Replay}
pub use specs.{declared.replay.Stand.{Stand, TheVariants.{Fresh, Sealed, Unsealed}}, Entries.call_fields}
pub use specs.Entries.{is_sayable_part, is_trade, IsLawfulCall, IsLawfulCommand, IsLawfulPart, IsLawfulTo, IsNamedPart}
pub use specs.{Entries.{IsNode, kind_of, message_of, part_fields, parts_fields}, Groups.{entry_frames, group_frames}}
pub use specs.{Groups.{head_frame, IsGroupOf, IsMoment, IsSayableEntry}, Held.{Adds, end_of, Gains, Held, IsZeroAt}}
pub use specs.{Held.{OnlyReads, strange_len}, Journal.{group_more, head_alone, IsGroupBehind, IsHead, IsJournal}}
pub use specs.{Journal.{IsNext, IsNumbered, IsOneFrame, IsSeal, Says, says_next, says_none}, Keeping.{disk_of, Keeps}}
pub use specs.{Recovered.{CountsAgain, Finds, Goes, IsCounted, Replays, Settles}, Session.{digest_text, form}}
pub use specs.{Session.{head_fields, head_of, longest_beginning, seal_of, seal_with}, Taking.{AddsNext, IsFault}}
pub use specs.Taking.{IsPinned, IsSealedAt, IsTaken, SaysNext, Takes}
pub use Rattle.gu_message.specs.{AllocationReport.node_text, declared.{fault.Reject.Reject, inbound.Inbound.Inbound}}
pub use Rattle.gu_message.specs.Meaning.{meaning_of}
pub use Rattle.gu_store.proofs.{Counted.{counted_behind, counted_fits}, Steps.counts}
pub use Rattle.gu_store.specs.{Store.{IsAtRest, IsLeft, size_of, StillHas}, Zeros.{counted, HasNoZero, HasZero, zeros}}
pub use Rattle.hex.specs.Hex.{encode_lower, IsBytes}
pub use Rattle.sha2.specs.{declared.Sha512.Sha512, Hashers.Holds512, Sha512.sha512}
pub use Rattle.sqlite_disk.specs.Disk.{Only}
pub use Rattle.std.proofs.Common.{ap, append-nil, append_assoc, arith, Bool, bytes_eq, codes, cond, decimal, drop}
pub use Rattle.std.proofs.Common.{drop-drop, drop_at, eqb, Err, false, get_or, IfErr, inl, inr, IsTrue, leb-true}
pub use Rattle.std.proofs.Common.{length, length-append, length-drop, length-take, List, ltb-true, nat_le, nat_lt, None}
pub use Rattle.std.proofs.Common.{not, Ok, Option, refl, Result, rules, slice_index, Some, subst, suc, sym, take}
pub use Rattle.std.proofs.Common.{take-append-drop, take_all, take_at, true, unwrap_or, zero, [], ℕ, ◌%◌, ◌&&◌, ◌*◌}
pub use Rattle.std.proofs.Common.{◌++◌, ◌+◌, ◌-◌, ◌/◌, ◌<◌, ◌==◌, ◌^◌, ◌∙◌, ◌∷◌, ◌≡◌, ◌≢◌, ◌≤◌, ◌⊎◌}
pub use Rattle.std.proofs.lemmas.Bool.{and_parts, cases_eq, cases_lt}
pub use Rattle.std.proofs.lemmas.Bool.Decides.{nat_tests}
pub use Rattle.std.proofs.lemmas.Fmt.{decimal_digit, length-decimal-le}
pub use Rattle.std.proofs.lemmas.List.{drop-append-le, drop_more, length-replicate, nil_from_length}
pub use Rattle.std.proofs.lemmas.List.Elements.{All-nil}
pub use Rattle.std.proofs.lemmas.List.Prefix.{at_from_reads}
pub use Rattle.std.proofs.lemmas.Slice.Eq.{bytes_eq-Decides}
pub use Rattle.std.specs.List.{AllByRecursion, list_all, position_or_len}
