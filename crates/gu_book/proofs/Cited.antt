-- Lemmas that the check of one function takes together.
use Rattle.gu_base
use Rattle.gu_book.proofs
use gu_base.proofs.{LegalLaws.{legal_from_replay, replay_from_legal}, Numbered.{known_entry, positive, unknown_entry}}
use proofs.{ChangesKept.{can_at, claimed_at, claimed_nowhere}, Keeps.run_from_accepted}
use proofs.{LastRefusal.{decline_row, initiate_row, reverse_row}, LookedUp.{known_answer, new_answer, stands_found}}
use proofs.{Positions.fees_balance, Ready.{accepted_where_ready, consent_accepted, newest_undone}}

-- what is found under a number
pub ruleset entry_by_number = (positive, unknown_entry, known_entry)

-- what a call gets whose id stands in the history
pub ruleset answer_again = (stands_found, new_answer, known_answer)

-- what a command gets that names an entry
pub ruleset last_refusals = (initiate_row, decline_row, reverse_row)

-- what a claim does to the terms
pub ruleset claimed_terms = (can_at, claimed_at, claimed_nowhere)

-- what holds of a history, of a reversal that is ready, and of all firms together
pub ruleset history_runs = (run_from_accepted, legal_from_replay)

pub ruleset ready_reversals = (accepted_where_ready, consent_accepted, newest_undone)

pub ruleset balanced = (fees_balance, replay_from_legal)
