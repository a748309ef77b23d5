-- The text of a snapshot for Prometheus.
use Rattle.std.specs.Prelude.{ℕ, ◌+◌, ◌*◌, ◌/◌, ◌==◌, Bool, true, false, if◌then◌else◌, List, []}
use Rattle.std.specs.Prelude.{◌∷◌, ◌++◌, codes, decimal, flat_map, is_none, slice_index}
use Rattle.gu_status.specs.Samples.{Text, family, decimal_line, millionths, sample, labelled}
use Rattle.gu_status.specs.Samples.{single}
use Rattle.gu_status.specs.declared.snapshot.Faults.{Faults}
use Rattle.gu_status.specs.declared.snapshot.FirmEntries.{FirmEntries}
use Rattle.gu_status.specs.declared.snapshot.RefusedLogons.{RefusedLogons}
use Rattle.gu_status.specs.Causes.{cause_word}
use Rattle.gu_status.specs.declared.snapshot.Snapshot.{Snapshot}
use Rattle.gu_status.specs.declared.snapshot.Times.{Times}

-- 1 where it holds, else 0
abbrev pub one_if : Bool → ℕ
one_if true = 1
one_if false = 0

-- how the server stands
unfoldable pub state_text : Snapshot → Text
state_text s =
    single (codes "allocd_ready") (codes "gauge")
    (codes "1 where the book was recovered and connections are taken, else 0.") (one_if s.is_ready)
    ++ single (codes "allocd_healthy") (codes "gauge")
    (codes "1 where each part of the server moves, else 0.") (one_if (is_none s.stuck))
    ++ single (codes "allocd_connections") (codes "gauge") (codes "Connections that are open.")
    s.connections

-- how much of the book is used, in millionths
abbrev pub fullness : ℕ → ℕ → ℕ
fullness entries most = if most == 0 then 0 else entries * 1000000 / most

-- that figure
unfoldable pub fullness_text : Snapshot → Text
fullness_text s =
    family (codes "allocd_book_fullness_ratio") (codes "gauge")
    (codes "Entries of the book as a part of the most that it takes.")
    ++ codes "allocd_book_fullness_ratio" ++ millionths (fullness s.entries s.most_entries)

-- how full the book is
unfoldable pub book_text : Snapshot → Text
book_text s =
    single (codes "allocd_entries") (codes "gauge")
    (codes "Entries of the book, all on the disk.") s.entries
    ++ single (codes "allocd_entries_limit") (codes "gauge")
    (codes "The most entries that the book takes.") s.most_entries
    ++ single (codes "allocd_entries_reserved") (codes "gauge")
    (codes "How many of them are the house's alone.") s.reserved
    ++ fullness_text s

-- how much room it takes in memory, and its journal
unfoldable pub room_text : Snapshot → Text
room_text s =
    single (codes "allocd_book_bytes") (codes "gauge")
    (codes "About how many bytes of memory the book takes.") s.book_bytes
    ++ single (codes "allocd_book_bytes_limit") (codes "gauge")
    (codes "How many bytes of memory the book may take; 0 where there is no limit.") s.most_bytes
    ++ single (codes "allocd_journal_bytes") (codes "gauge")
    (codes "Bytes of the journal.") s.journal_bytes
    ++ single (codes "allocd_lacks_memory") (codes "gauge")
    (codes "1 where memory lacks, so that no calls of firms are made, else 0.")
    (one_if s.lacks_memory)

-- the entries of each firm
unfoldable pub firm_text : FirmEntries → Text
firm_text f = labelled (codes "allocd_firm_entries{firm=\"") f.firm f.entries

-- of all firms
abbrev pub firms_text : List FirmEntries → Text
firms_text fs = flat_map firm_text fs

-- how many entries each firm has
unfoldable pub firm_entries_text : Snapshot → Text
firm_entries_text s =
    family (codes "allocd_firm_entries") (codes "gauge")
    (codes "Entries of the book that a firm has made.")
    ++ firms_text s.firms.items

-- whether a firm is refused
unfoldable pub refused_firm_text : FirmEntries → Text
refused_firm_text f = labelled (codes "allocd_firm_refused{firm=\"") f.firm (one_if f.is_refused)

-- of all firms
abbrev pub refused_firms_text : List FirmEntries → Text
refused_firms_text fs = flat_map refused_firm_text fs

-- which firms are refused
unfoldable pub firms_refused_text : Snapshot → Text
firms_refused_text s =
    family (codes "allocd_firm_refused") (codes "gauge")
    (codes "1 where an operator has the firm refused, else 0.")
    ++ refused_firms_text s.firms.items

-- how many calls were refused by a refusal
unfoldable pub refusal_text : ℕ → ℕ → Text
refusal_text n c = labelled (codes "allocd_refusals_total{reason=\"") (decimal n) c

-- how many were by each, the first of which has this number
abbrev pub refusals_text : ℕ → List ℕ → Text
refusals_text n [] = []
refusals_text n (c ∷ cs) =
    refusal_text n c ++ refusals_text (n + 1) cs

-- how calls were answered
unfoldable pub calls_text : Snapshot → Text
calls_text s =
    single (codes "allocd_calls_accepted_total") (codes "counter")
    (codes "Calls that were accepted and are on the disk.") s.accepted
    ++ single (codes "allocd_calls_repeated_total") (codes "counter")
    (codes "Calls that had been made and accepted before.") s.repeated
    ++ family (codes "allocd_refusals_total") (codes "counter")
    (codes "Calls that were refused, by the refusal's number.")
    ++ refusals_text 1 s.refused

-- how many Rejects were sent, by their reasons
unfoldable pub rejects_text : List ℕ → Text
rejects_text ns = labelled (codes "allocd_rejects_total{reason=\"") (codes "1") (slice_index ns 0)
    ++ labelled (codes "allocd_rejects_total{reason=\"") (codes "2") (slice_index ns 1)
    ++ labelled (codes "allocd_rejects_total{reason=\"") (codes "5") (slice_index ns 2)
    ++ labelled (codes "allocd_rejects_total{reason=\"") (codes "6") (slice_index ns 3)
    ++ labelled (codes "allocd_rejects_total{reason=\"") (codes "11") (slice_index ns 4)
    ++ labelled (codes "allocd_rejects_total{reason=\"") (codes "16") (slice_index ns 5)

-- what was lost or sent again
unfoldable pub losses_text : Faults → Text
losses_text f =
    single (codes "allocd_garbled_frames_total") (codes "counter")
    (codes "Frames that were garbled, and so passed over.") f.garbled
    ++ single (codes "allocd_messages_dropped_total") (codes "counter")
    (codes "Messages that were dropped since some before them lacked.") f.dropped
    ++ single (codes "allocd_messages_resent_total") (codes "counter")
    (codes "Messages that were sent again.") f.resent

-- what went wrong between firms and the server
unfoldable pub faults_text : Faults → Text
faults_text f =
    family (codes "allocd_rejects_total") (codes "counter")
    (codes "Rejects that were sent, by SessionRejectReason (373).")
    ++ rejects_text f.rejects ++ losses_text f

-- how often something took no longer than the bounds up to 50 ms
unfoldable pub short_buckets : Text → Times → Text
short_buckets name s = labelled name (codes "0.001") (slice_index s.within 0)
    ++ labelled name (codes "0.002") (slice_index s.within 1)
    ++ labelled name (codes "0.005") (slice_index s.within 2)
    ++ labelled name (codes "0.01") (slice_index s.within 3)
    ++ labelled name (codes "0.02") (slice_index s.within 4)
    ++ labelled name (codes "0.05") (slice_index s.within 5)

-- and those from 100 ms on
unfoldable pub long_buckets : Text → Times → Text
long_buckets name s = labelled name (codes "0.1") (slice_index s.within 6)
    ++ labelled name (codes "0.2") (slice_index s.within 7)
    ++ labelled name (codes "0.5") (slice_index s.within 8)
    ++ labelled name (codes "1") (slice_index s.within 9)
    ++ labelled name (codes "10") (slice_index s.within 10)
    ++ labelled name (codes "+Inf") s.count

-- how long all took together, and how many they were
unfoldable pub totals_text : Text → Text → Times → Text
totals_text sum count s = sum ++ millionths s.micros ++ count ++ decimal_line s.count

-- how long syncs took
unfoldable pub times_text : Times → Text
times_text s =
    family (codes "allocd_sync_seconds") (codes "histogram")
    (codes "How long the disk took for a group.")
    ++ short_buckets (codes "allocd_sync_seconds_bucket{le=\"") s
    ++ long_buckets (codes "allocd_sync_seconds_bucket{le=\"") s
    ++ totals_text (codes "allocd_sync_seconds_sum") (codes "allocd_sync_seconds_count") s

-- how long the other machines' answers took
unfoldable pub answers_text : Times → Text
answers_text s =
    family (codes "allocd_replicate_seconds") (codes "histogram")
    (codes "How long a group that was on the disk waited for the other machines.")
    ++ short_buckets (codes "allocd_replicate_seconds_bucket{le=\"") s
    ++ long_buckets (codes "allocd_replicate_seconds_bucket{le=\"") s
    ++ totals_text (codes "allocd_replicate_seconds_sum") (codes "allocd_replicate_seconds_count") s

-- what waits, and what was lost
unfoldable pub rest_text : Snapshot → Text
rest_text s =
    single (codes "allocd_since_sync_seconds") (codes "gauge")
    (codes "Seconds since a group was last brought to the disk, or since the start.")
    s.syncs.idle_seconds
    ++ single (codes "allocd_waiting_bytes") (codes "gauge")
    (codes "Bytes that wait for firms to take them.") s.waiting_bytes
    ++ single (codes "allocd_log_lines_lost_total") (codes "counter")
    (codes "Lines of the log that nobody read in time, or that could not be written.") s.lines_lost

-- which program it is
unfoldable pub build_text : Text
build_text =
    family (codes "allocd_build_info") (codes "gauge") (codes "1, with the version of the program.")
    ++ labelled (codes "allocd_build_info{version=\"") (codes "1.0.0") 1

-- when the server began
abbrev pub start_text : ℕ → Text
start_text began = single (codes "process_start_time_seconds") (codes "gauge")
    (codes "When the server began, in seconds from 1970 on.") began

-- how many Logons were refused for a cause
unfoldable pub cause_text : RefusedLogons → Text
cause_text r = labelled (codes "allocd_logons_refused_total{cause=\"") (cause_word r.cause) r.count

-- for each cause
abbrev pub causes_text : List RefusedLogons → Text
causes_text rs = flat_map cause_text rs

-- which Logons were refused
unfoldable pub logons_text : List RefusedLogons → Text
logons_text rs = family (codes "allocd_logons_refused_total") (codes "counter")
    (codes "Connections that ended before a Logon was accepted, by the cause.")
    ++ causes_text rs

-- what was slow, and what was refused
unfoldable pub delays_text : Snapshot → Text
delays_text s =
    single (codes "allocd_slow_syncs_total") (codes "counter")
    (codes "Groups for which the disk took longer than 100 ms.") s.syncs.slow
    ++ single (codes "allocd_oldest_group_seconds") (codes "gauge")
    (codes "Seconds for which a group is on its way to the disk; 0 where none is.")
    s.syncs.oldest_seconds
    ++ logons_text s.logons_refused

-- what the program, its start and its delays are
unfoldable pub server_text : Snapshot → Text
server_text s = build_text ++ start_text s.began ++ delays_text s

-- all figures
unfoldable pub metrics_text : Snapshot → Text
metrics_text s = state_text s ++ book_text s ++ room_text s ++ firm_entries_text s
    ++ firms_refused_text s ++ calls_text s
    ++ faults_text s.faults ++ times_text s.syncs.disk ++ answers_text s.syncs.machines
    ++ rest_text s ++ server_text s
