-- The options of the command `keep` beside those of `serve`.
use Rattle.std.specs.Prelude.{◌≡◌, ℕ, true, false, List, Option, Some, None, codes}
use Rattle.std.specs.Prelude.{option_map, is_some}
use Rattle.clap.specs.Words.{App, Rule, Text, new_rule, with_rule}
use Rattle.clap.specs.declared.builder.action.ArgAction.TheVariants.{Set, SetTrue, Append}
use Rattle.gu_limits.specs.declared.limits.Limits.{Limits}
use Rattle.gu_message.specs.Values.{entry_of}
pub use Rattle.gu_command.specs.Flags.{flag_meant}
use Rattle.gu_command.specs.Naming.{naming, no_book, IsBookOf, IsBookMeant}
use Rattle.gu_command.specs.Places.{are_places, ArePlaces}
use Rattle.gu_command.specs.declared.options.KeepOptions.{KeepOptions}

-- an option with a value: its name, and the word behind its two hyphens
abbrev pub option_rule : Text → Text → Rule
option_rule name word = record (new_rule name) { long = Some word; action = Some Set }

-- the argument `--replicate PATH`
abbrev pub replica_rule : Rule
replica_rule = option_rule (codes "PATH") (codes "replicate")

-- the argument `--most-entries ENTRIES`
abbrev pub most_entries_rule : Rule
most_entries_rule = option_rule (codes "ENTRIES") (codes "most-entries")

-- the argument `--most-parts PARTS`
abbrev pub most_parts_rule : Rule
most_parts_rule = option_rule (codes "PARTS") (codes "most-parts")

-- the argument `--reserve RESERVED`
abbrev pub reserve_rule : Rule
reserve_rule = option_rule (codes "RESERVED") (codes "reserve")

-- the argument `--memory MEMORY`
abbrev pub memory_rule : Rule
memory_rule = option_rule (codes "MEMORY") (codes "memory")

-- the argument `--rate CALLS`
abbrev pub rate_rule : Rule
rate_rule = option_rule (codes "CALLS") (codes "rate")

-- the argument `--per-firm CONNECTIONS`
abbrev pub per_firm_rule : Rule
per_firm_rule = option_rule (codes "CONNECTIONS") (codes "per-firm")

-- the argument `--held HELD`
abbrev pub held_rule : Rule
held_rule = option_rule (codes "HELD") (codes "held")

-- the argument `--status PORT|PATH`, which may stand several times
abbrev pub status_rule : Rule
status_rule =
    record (new_rule (codes "STATUS")) { long = Some (codes "status"); action = Some Append }

-- the argument `--log-calls`
abbrev pub log_calls_rule : Rule
log_calls_rule =
    record (new_rule (codes "LOG_CALLS")) { long = Some (codes "log-calls"); action = Some SetTrue }

-- the argument `--archive FOLDER`
abbrev pub archive_rule : Rule
archive_rule = option_rule (codes "FOLDER") (codes "archive")

-- a command with the options that say what firms may have
abbrev pub limited : App → App
limited app =
    with_rule (with_rule (with_rule (with_rule (with_rule (with_rule (with_rule app
    most_entries_rule) most_parts_rule) reserve_rule) memory_rule) rate_rule) per_firm_rule)
    held_rule

-- one with the options that say what an operator is told
abbrev pub telling : App → App
telling app = with_rule (with_rule app status_rule) log_calls_rule

-- a command with all of these options
abbrev pub optioned : App → App
optioned app = with_rule (naming (telling (limited (with_rule app replica_rule)))) archive_rule

-- which limit a word means: none where there is no word, and else 1 to 1,000,000
abbrev pub limit_meant : Option Text → Option (Option ℕ)
limit_meant None = Some None
limit_meant (Some word) = option_map Some (entry_of word)

-- a limit, or the usual one where there is none
abbrev pub limit_or : ℕ → Option ℕ → Option ℕ
limit_or usual None = Some usual
limit_or usual (Some limit) = Some limit

-- which limit a word means where there is a usual one
abbrev pub usual_meant : ℕ → Option Text → Option (Option ℕ)
usual_meant usual word = option_map (limit_or usual) (limit_meant word)

-- how many connections of a firm there may be where the line doesn't say
abbrev pub usual_per_firm : ℕ
usual_per_firm = 8

-- and how many megabytes may wait for it
abbrev pub usual_held : ℕ
usual_held = 64

-- what was given for the limits means these
abbrev pub AreLimitsOf : (Text → Option Text) → Limits → Type 0
AreLimitsOf given limits = (limit_meant (given (codes "ENTRIES")) ≡ Some limits.most_entries)
    × (limit_meant (given (codes "PARTS")) ≡ Some limits.most_parts)
    × (limit_meant (given (codes "RESERVED")) ≡ Some limits.reserve)
    × (limit_meant (given (codes "MEMORY")) ≡ Some limits.memory)
    × (limit_meant (given (codes "CALLS")) ≡ Some limits.rate)
    × (usual_meant usual_per_firm (given (codes "CONNECTIONS")) ≡ Some limits.per_firm)
    × (usual_meant usual_held (given (codes "HELD")) ≡ Some limits.held)

-- what was given for the options, and behind `--status`, means these
abbrev pub AreOptionsOf : (Text → Option Text) → List Text → KeepOptions → Type 0
AreOptionsOf given told options =
    (given (codes "PATH") ≡ option_map (λ r. r.bytes.items) options.replica)
    × AreLimitsOf given options.limits
    × ArePlaces told options.status options.more_status
    × (flag_meant (given (codes "LOG_CALLS")) ≡ options.log_calls)
    × IsBookOf given options.book
    × (given (codes "FOLDER") ≡ option_map (λ f. f.bytes.items) options.archive)

-- this holds if what was given for the limits means some
abbrev pub IfMeant : (Text → Option Text) → Type 0 → Type 0
IfMeant given P = is_some (limit_meant (given (codes "ENTRIES"))) ≡ true
    → is_some (limit_meant (given (codes "PARTS"))) ≡ true
    → is_some (limit_meant (given (codes "RESERVED"))) ≡ true
    → is_some (limit_meant (given (codes "MEMORY"))) ≡ true
    → is_some (limit_meant (given (codes "CALLS"))) ≡ true
    → is_some (limit_meant (given (codes "CONNECTIONS"))) ≡ true
    → is_some (limit_meant (given (codes "HELD"))) ≡ true → P

-- this holds if what was given for the options, and behind `--status`, means some
abbrev pub AreMeant : (Text → Option Text) → List Text → Type 0 → Type 0
AreMeant given told P = are_places told ≡ true → IfMeant given (IsBookMeant given P)

-- none of them
abbrev pub no_options : KeepOptions
no_options = record {
  replica = None;
  limits = record {
    most_entries = None;
    most_parts = None;
    reserve = None;
    memory = None;
    rate = None;
    per_firm = Some usual_per_firm;
    held = Some usual_held;
  };
  status = None;
  more_status = None;
  log_calls = false;
  book = no_book;
  archive = None;
}
