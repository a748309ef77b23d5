-- What the command lines of the program mean.
use Rattle.std.specs.Prelude.{◌≡◌, ◌==◌, ℕ, Bool, true, false, not, if◌then◌else◌, List, [], ◌∷◌}
use Rattle.std.specs.Prelude.{Option, Some, None, codes, option_map, option_and_then, unwrap_or}
use Rattle.std.specs.Prelude.{bytes_eq, IsTrue, Result, Ok, Err}
use Rattle.clap.specs.Words.{App, Rule, Text, all_of, app_of, first_of, new_app, new_rule}
use Rattle.clap.specs.Words.{subcommand_of}
use Rattle.clap.specs.Words.{takes, with_rule, with_subcommand}
use Rattle.clap.specs.declared.builder.command.Command.{Command}
use Rattle.clap.specs.declared.builder.command.Command.TheViews.{out-Command as fields_of}
use Rattle.clap.specs.declared.builder.action.ArgAction.TheVariants.{Set, SetTrue}
use Rattle.gu_desk.specs.Views.{is_worker_count, most_workers}
use Rattle.gu_message.specs.Values.{entry_of}
use Rattle.gu_command.specs.Faults.{no_memory}
use Rattle.gu_command.specs.Flags.{flag_meant}
use Rattle.gu_command.specs.Options.{optioned, AreOptionsOf, no_options}
pub use Rattle.gu_command.specs.Limits.{up_to}
use Rattle.gu_command.specs.Limits.{most_port, usual_workers, most_connections}
use Rattle.gu_command.specs.declared.fault.Fault.{Fault}
use Rattle.gu_command.specs.declared.fault.Fault.TheVariants.{Usage, Run}
use Rattle.gu_batch.specs.declared.batch.RunError.TheVariants.{Memory}
use Rattle.gu_command.specs.declared.line.Line.{Line}
use Rattle.gu_command.specs.declared.line.Line.TheVariants.{Batch, Trace, Serve, Keep}
use Rattle.gu_command.specs.declared.line.Line.TheVariants.{Verify, Backup, Extend, Roll}
use Rattle.gu_command.specs.declared.line.Line.TheVariants.{Statement}

-- the argument HOUSE
abbrev pub house_rule : Rule
house_rule = record (new_rule (codes "HOUSE")) { required = true; action = Some Set }

-- the command `batch HOUSE`
abbrev pub batch : App
batch = with_rule (new_app (codes "batch")) house_rule

-- the argument `--trade N`
abbrev pub trade_rule : Rule
trade_rule = record (new_rule (codes "N")) { long = Some (codes "trade"); action = Some Set }

-- the command `trace HOUSE [--trade N]`
abbrev pub trace : App
trace = with_rule (with_rule (new_app (codes "trace")) house_rule) trade_rule

-- the argument `--port PORT`
abbrev pub port_rule : Rule
port_rule = record (new_rule (codes "PORT")) {
  long = Some (codes "port");
  required = true;
  action = Some Set;
}

-- the argument `--workers WORKERS`
abbrev pub workers_rule : Rule
workers_rule =
    record (new_rule (codes "WORKERS")) { long = Some (codes "workers"); action = Some Set }

-- the argument `--connections COUNT`
abbrev pub connections_rule : Rule
connections_rule =
    record (new_rule (codes "COUNT")) { long = Some (codes "connections"); action = Some Set }

-- the command `serve HOUSE --port PORT [--workers WORKERS] [--connections COUNT]`
abbrev pub serve : App
serve =
    with_rule
    (with_rule (with_rule (with_rule (new_app (codes "serve")) house_rule) port_rule) workers_rule)
    connections_rule

-- the argument JOURNAL
abbrev pub journal_rule : Rule
journal_rule = record (new_rule (codes "JOURNAL")) { required = true; action = Some Set }

-- the command `keep HOUSE JOURNAL --port PORT [--workers WORKERS] [--connections COUNT]` and its
-- options
abbrev pub keep : App
keep = optioned (with_rule (with_rule (with_rule (with_rule (with_rule (new_app (codes "keep"))
    house_rule) journal_rule) port_rule) workers_rule) connections_rule)

-- the argument `--totals`
abbrev pub totals_rule : Rule
totals_rule =
    record (new_rule (codes "TOTALS")) { long = Some (codes "totals"); action = Some SetTrue }

-- the command `verify HOUSE JOURNAL [--totals] [--trade N]`
abbrev pub verify : App
verify =
    with_rule
    (with_rule (with_rule (with_rule (new_app (codes "verify")) house_rule) journal_rule)
    totals_rule) trade_rule

-- the argument TO
abbrev pub copy_rule : Rule
copy_rule = record (new_rule (codes "TO")) { required = true; action = Some Set }

-- the command `backup JOURNAL TO`
abbrev pub backup : App
backup = with_rule (with_rule (new_app (codes "backup")) journal_rule) copy_rule

-- the argument NEWHOUSE
abbrev pub larger_rule : Rule
larger_rule = record (new_rule (codes "NEWHOUSE")) { required = true; action = Some Set }

-- the command `extend HOUSE JOURNAL NEWHOUSE TO`
abbrev pub extend : App
extend =
    with_rule
    (with_rule (with_rule (with_rule (new_app (codes "extend")) house_rule) journal_rule)
    larger_rule) copy_rule

-- the argument `--open`
abbrev pub open_rule : Rule
open_rule = record (new_rule (codes "OPEN")) { long = Some (codes "open"); action = Some SetTrue }

-- the argument `--map FILE`
abbrev pub map_rule : Rule
map_rule = record (new_rule (codes "FILE")) { long = Some (codes "map"); action = Some Set }

-- the command `roll HOUSE JOURNAL NEWHOUSE TO [--open] [--map FILE]`
abbrev pub roll : App
roll =
    with_rule
    (with_rule (with_rule (with_rule (with_rule (with_rule (new_app (codes "roll")) house_rule)
    journal_rule) larger_rule) copy_rule) open_rule) map_rule

-- the argument `--firm FIRM`
abbrev pub firm_rule : Rule
firm_rule = record (new_rule (codes "FIRM")) { long = Some (codes "firm"); action = Some Set }

-- the argument `--journal JOURNAL`
abbrev pub source_rule : Rule
source_rule =
    record (new_rule (codes "JOURNAL")) { long = Some (codes "journal"); action = Some Set }

-- the command `statement HOUSE [--firm FIRM] [--journal JOURNAL]`
abbrev pub statement : App
statement =
    with_rule (with_rule (with_rule (new_app (codes "statement")) house_rule) firm_rule) source_rule

-- the program, as the parser sees it: its words begin with a command, and there is no command for
-- help
abbrev pub top : App
top = record (new_app (codes "allocd")) {
  top = record (new_app (codes "allocd")).top {
    no_binary_name = true;
    subcommand_required = true;
    disable_help_subcommand = true;
  };
}

-- the program with its nine commands
abbrev pub program : App
program = with_subcommand (with_subcommand (with_subcommand (with_subcommand (with_subcommand
    (with_subcommand (with_subcommand (with_subcommand (with_subcommand top batch.top) trace.top)
    serve.top) keep.top) verify.top) backup.top) extend.top) roll.top) statement.top

-- the command was made, or there was no memory for it
abbrev pub Makes : App → Result Command Fault → Type 0
Makes app (Ok command) = (app_of command ≡ app) × ((fields_of command).has_globals ≡ false)
Makes app (Err fault) = fault ≡ no_memory

-- a word that is no option: it doesn't begin with a hyphen
abbrev pub is_plain : Text → Bool
is_plain [] = true
is_plain (x ∷ xs) = not (x == 45)

-- the command that the parser finds in the words
abbrev pub command_in : List Text → Option Text
command_in words = option_map (λ p. p.0) (subcommand_of program words)

-- what it finds for an argument of this name
abbrev pub word_for : List Text → Text → Option Text
word_for words name = option_and_then (λ p. first_of name p.1) (subcommand_of program words)

-- the house file that it finds
abbrev pub house_in : List Text → Option Text
house_in words = word_for words (codes "HOUSE")

-- the journal that it finds
abbrev pub journal_in : List Text → Option Text
journal_in words = word_for words (codes "JOURNAL")

-- whether it finds `--totals`
abbrev pub totals_in : List Text → Option Text
totals_in words = word_for words (codes "TOTALS")

-- the copy that it finds
abbrev pub copy_in : List Text → Option Text
copy_in words = word_for words (codes "TO")

-- the house file that has more, which it finds
abbrev pub larger_in : List Text → Option Text
larger_in words = word_for words (codes "NEWHOUSE")

-- whether it finds `--open`
abbrev pub open_in : List Text → Option Text
open_in words = word_for words (codes "OPEN")

-- what it finds behind `--map`
abbrev pub map_in : List Text → Option Text
map_in words = word_for words (codes "FILE")

-- what it finds behind `--firm`
abbrev pub firm_in : List Text → Option Text
firm_in words = word_for words (codes "FIRM")

-- what it finds behind `--trade`
abbrev pub trade_in : List Text → Option Text
trade_in words = word_for words (codes "N")

-- what it finds behind `--port`
abbrev pub port_in : List Text → Option Text
port_in words = word_for words (codes "PORT")

-- what it finds behind `--workers`
abbrev pub workers_in : List Text → Option Text
workers_in words = word_for words (codes "WORKERS")

-- what it finds behind `--connections`
abbrev pub connections_in : List Text → Option Text
connections_in words = word_for words (codes "COUNT")

-- all that it finds behind `--status`
abbrev pub told_in : List Text → List Text
told_in words =
    unwrap_or (option_and_then (λ p. all_of (codes "STATUS") p.1) (subcommand_of program words)) []

-- which trade that means: none, or the one of this number, and nothing at all where it is the
-- number of no entry
abbrev pub trade_meant : Option Text → Option (Option ℕ)
trade_meant None = Some None
trade_meant (Some word) = option_map Some (entry_of word)

-- which port a word means: one of 1 to 65,535
abbrev pub port_meant : Option Text → Option ℕ
port_meant word = option_and_then (up_to most_port) word

-- how many workers: 1 to 16, and 4 where there is no word
abbrev pub workers_meant : Option Text → Option ℕ
workers_meant None = Some usual_workers
workers_meant (Some word) = up_to most_workers word

-- how many connections: 0 to 1,000,000, and 0, which is without end, where there is no word
abbrev pub connections_meant : Option Text → Option ℕ
connections_meant None = Some 0
connections_meant (Some word) =
    if bytes_eq word (codes "0") then Some 0 else up_to most_connections word

-- what can be wrong with a command line: it isn't one of the program's, or memory ran out
abbrev pub is_line_fault : Fault → Bool
is_line_fault (Usage text) = true
is_line_fault (Run Memory) = true
is_line_fault _ = false

-- what a line asks for is a command, what was given for its arguments, and all that was given
-- behind `--status`
abbrev pub IsLineOf : Text → (Text → Option Text) → List Text → Line → Type 0
IsLineOf command given told (Batch path) =
    (command ≡ codes "batch") × (given (codes "HOUSE") ≡ Some path.bytes.items)
IsLineOf command given told (Trace path number) =
    (command ≡ codes "trace") × (given (codes "HOUSE") ≡ Some path.bytes.items)
    × (trade_meant (given (codes "N")) ≡ Some number)
IsLineOf command given told (Serve path port workers connections) =
    (command ≡ codes "serve") × (given (codes "HOUSE") ≡ Some path.bytes.items)
    × (port_meant (given (codes "PORT")) ≡ Some port)
    × (workers_meant (given (codes "WORKERS")) ≡ Some workers)
    × (connections_meant (given (codes "COUNT")) ≡ Some connections)
IsLineOf command given told (Keep path journal port workers connections options) =
    (command ≡ codes "keep") × (given (codes "HOUSE") ≡ Some path.bytes.items)
    × (given (codes "JOURNAL") ≡ Some journal.bytes.items)
    × (port_meant (given (codes "PORT")) ≡ Some port)
    × (workers_meant (given (codes "WORKERS")) ≡ Some workers)
    × (connections_meant (given (codes "COUNT")) ≡ Some connections)
    × AreOptionsOf given told options
IsLineOf command given told (Verify path look) =
    (command ≡ codes "verify") × (given (codes "HOUSE") ≡ Some path.bytes.items)
    × (given (codes "JOURNAL") ≡ Some look.journal.bytes.items)
    × (flag_meant (given (codes "TOTALS")) ≡ look.totals)
    × (trade_meant (given (codes "N")) ≡ Some look.trade)
IsLineOf command given told (Backup journal to) =
    (command ≡ codes "backup") × (given (codes "JOURNAL") ≡ Some journal.bytes.items)
    × (given (codes "TO") ≡ Some to.bytes.items)
IsLineOf command given told (Extend path paths) =
    (command ≡ codes "extend") × (given (codes "HOUSE") ≡ Some path.bytes.items)
    × (given (codes "JOURNAL") ≡ Some paths.journal.bytes.items)
    × (given (codes "NEWHOUSE") ≡ Some paths.larger.bytes.items)
    × (given (codes "TO") ≡ Some paths.to.bytes.items)
IsLineOf command given told (Roll path rolling) =
    (command ≡ codes "roll") × (given (codes "HOUSE") ≡ Some path.bytes.items)
    × (given (codes "JOURNAL") ≡ Some rolling.paths.journal.bytes.items)
    × (given (codes "NEWHOUSE") ≡ Some rolling.paths.larger.bytes.items)
    × (given (codes "TO") ≡ Some rolling.paths.to.bytes.items)
    × (flag_meant (given (codes "OPEN")) ≡ rolling.is_open)
    × (given (codes "FILE") ≡ option_map (λ m. m.bytes.items) rolling.map)
IsLineOf command given told (Statement stating) =
    (command ≡ codes "statement") × (given (codes "HOUSE") ≡ Some stating.house.bytes.items)
    × (given (codes "FIRM") ≡ option_map (λ f. f.bytes.items) stating.firm)
    × (given (codes "JOURNAL") ≡ option_map (λ j. j.bytes.items) stating.journal)

-- it is what the parser finds in the words
abbrev pub IsLine : List Text → Line → Type 0
IsLine words (Batch path) =
    (command_in words ≡ Some (codes "batch")) × (house_in words ≡ Some path.bytes.items)
IsLine words (Trace path number) =
    (command_in words ≡ Some (codes "trace")) × (house_in words ≡ Some path.bytes.items)
    × (trade_meant (trade_in words) ≡ Some number)
IsLine words (Serve path port workers connections) =
    (command_in words ≡ Some (codes "serve")) × (house_in words ≡ Some path.bytes.items)
    × (port_meant (port_in words) ≡ Some port) × (workers_meant (workers_in words) ≡ Some workers)
    × (connections_meant (connections_in words) ≡ Some connections)
IsLine words (Keep path journal port workers connections options) =
    (command_in words ≡ Some (codes "keep"))
    × (house_in words ≡ Some path.bytes.items) × (journal_in words ≡ Some journal.bytes.items)
    × (port_meant (port_in words) ≡ Some port) × (workers_meant (workers_in words) ≡ Some workers)
    × (connections_meant (connections_in words) ≡ Some connections)
    × AreOptionsOf (word_for words) (told_in words) options
IsLine words (Verify path look) =
    (command_in words ≡ Some (codes "verify"))
    × (house_in words ≡ Some path.bytes.items) × (journal_in words ≡ Some look.journal.bytes.items)
    × (flag_meant (totals_in words) ≡ look.totals)
    × (trade_meant (trade_in words) ≡ Some look.trade)
IsLine words (Backup journal to) =
    (command_in words ≡ Some (codes "backup"))
    × (journal_in words ≡ Some journal.bytes.items) × (copy_in words ≡ Some to.bytes.items)
IsLine words (Extend path paths) =
    (command_in words ≡ Some (codes "extend"))
    × (house_in words ≡ Some path.bytes.items)
    × (journal_in words ≡ Some paths.journal.bytes.items)
    × (larger_in words ≡ Some paths.larger.bytes.items)
    × (copy_in words ≡ Some paths.to.bytes.items)
IsLine words (Roll path rolling) =
    (command_in words ≡ Some (codes "roll"))
    × (house_in words ≡ Some path.bytes.items)
    × (journal_in words ≡ Some rolling.paths.journal.bytes.items)
    × (larger_in words ≡ Some rolling.paths.larger.bytes.items)
    × (copy_in words ≡ Some rolling.paths.to.bytes.items)
    × (flag_meant (open_in words) ≡ rolling.is_open)
    × (map_in words ≡ option_map (λ m. m.bytes.items) rolling.map)
IsLine words (Statement stating) =
    (command_in words ≡ Some (codes "statement"))
    × (house_in words ≡ Some stating.house.bytes.items)
    × (firm_in words ≡ option_map (λ f. f.bytes.items) stating.firm)
    × (journal_in words ≡ option_map (λ j. j.bytes.items) stating.journal)

-- the words are one of the program's lines, with any of its options: the parser takes them, and
-- this is the line that it finds
pub record IsOneOfItsLines (words : List Text) : Type 0 where
  pub taken : takes program words ≡ true
  pub line : Line
  pub found : IsLine words line

-- the line asks for a batch by the house file at the path
abbrev pub AsksForBatch : Text → Line → Type 0
AsksForBatch path (Batch house) = house.bytes.items ≡ path
AsksForBatch path (Trace house trade) = ⊥
AsksForBatch path (Serve house port workers connections) = ⊥
AsksForBatch path (Keep house journal port workers connections options) = ⊥
AsksForBatch path (Verify house look) = ⊥
AsksForBatch path (Backup journal to) = ⊥
AsksForBatch path (Extend house paths) = ⊥
AsksForBatch path (Roll house rolling) = ⊥
AsksForBatch path (Statement stating) = ⊥

-- the line asks for the totals by the house file at the path, and for the trace of this trade, if
-- one is named
abbrev pub AsksForTrace : Text → Option ℕ → Line → Type 0
AsksForTrace path asked (Trace house trade) = (house.bytes.items ≡ path) × (trade ≡ asked)
AsksForTrace path asked (Batch house) = ⊥
AsksForTrace path asked (Serve house port workers connections) = ⊥
AsksForTrace path asked (Keep house journal port workers connections options) = ⊥
AsksForTrace path asked (Verify house look) = ⊥
AsksForTrace path asked (Backup journal to) = ⊥
AsksForTrace path asked (Extend house paths) = ⊥
AsksForTrace path asked (Roll house rolling) = ⊥
AsksForTrace path asked (Statement stating) = ⊥

-- the line asks to serve by the house file at the path: on this port, by so many workers, so many
-- connections
abbrev pub AsksToServe : Text → ℕ → ℕ → ℕ → Line → Type 0
AsksToServe path p w n (Serve house port workers connections) =
    (house.bytes.items ≡ path) × (port ≡ p) × (workers ≡ w) × (connections ≡ n)
AsksToServe path p w n (Batch house) = ⊥
AsksToServe path p w n (Trace house trade) = ⊥
AsksToServe path p w n (Keep house journal port workers connections options) = ⊥
AsksToServe path p w n (Verify house look) = ⊥
AsksToServe path p w n (Backup journal to) = ⊥
AsksToServe path p w n (Extend house paths) = ⊥
AsksToServe path p w n (Roll house rolling) = ⊥
AsksToServe path p w n (Statement stating) = ⊥

-- the line asks to keep a book in the journal at a path, with no options, and to serve it
abbrev pub AsksToKeep : Text → Text → ℕ → ℕ → ℕ → Line → Type 0
AsksToKeep path file p w n (Keep house journal port workers connections options) =
    (house.bytes.items ≡ path) × (journal.bytes.items ≡ file) × (port ≡ p) × (workers ≡ w)
    × (connections ≡ n) × (options ≡ no_options)
AsksToKeep path file p w n (Batch house) = ⊥
AsksToKeep path file p w n (Trace house trade) = ⊥
AsksToKeep path file p w n (Serve house port workers connections) = ⊥
AsksToKeep path file p w n (Verify house look) = ⊥
AsksToKeep path file p w n (Backup journal to) = ⊥
AsksToKeep path file p w n (Extend house paths) = ⊥
AsksToKeep path file p w n (Roll house rolling) = ⊥
AsksToKeep path file p w n (Statement stating) = ⊥

-- the line asks what a start would say of the journal at a path, and for nothing beside that
abbrev pub AsksToVerify : Text → Text → Line → Type 0
AsksToVerify path file (Verify house look) =
    (house.bytes.items ≡ path) × (look.journal.bytes.items ≡ file) × (look.totals ≡ false)
    × (look.trade ≡ None)
AsksToVerify path file (Batch house) = ⊥
AsksToVerify path file (Trace house trade) = ⊥
AsksToVerify path file (Serve house port workers connections) = ⊥
AsksToVerify path file (Keep house journal port workers connections options) = ⊥
AsksToVerify path file (Backup journal to) = ⊥
AsksToVerify path file (Extend house paths) = ⊥
AsksToVerify path file (Roll house rolling) = ⊥
AsksToVerify path file (Statement stating) = ⊥

-- the line asks for a copy of the journal at a path, at another one
abbrev pub AsksToBackUp : Text → Text → Line → Type 0
AsksToBackUp file copy (Backup journal to) =
    (journal.bytes.items ≡ file) × (to.bytes.items ≡ copy)
AsksToBackUp file copy (Batch house) = ⊥
AsksToBackUp file copy (Trace house trade) = ⊥
AsksToBackUp file copy (Serve house port workers connections) = ⊥
AsksToBackUp file copy (Keep house journal port workers connections options) = ⊥
AsksToBackUp file copy (Verify house look) = ⊥
AsksToBackUp file copy (Extend house paths) = ⊥
AsksToBackUp file copy (Roll house rolling) = ⊥
AsksToBackUp file copy (Statement stating) = ⊥

-- the line asks to write the journal at a path anew, by a house file that has more, at another path
abbrev pub AsksToExtend : Text → Text → Text → Text → Line → Type 0
AsksToExtend path file larger copy (Extend house paths) =
    (house.bytes.items ≡ path) × (paths.journal.bytes.items ≡ file)
    × (paths.larger.bytes.items ≡ larger) × (paths.to.bytes.items ≡ copy)
AsksToExtend path file larger copy (Batch house) = ⊥
AsksToExtend path file larger copy (Trace house trade) = ⊥
AsksToExtend path file larger copy (Serve house port workers connections) = ⊥
AsksToExtend path file larger copy (Keep house journal port workers connections options) = ⊥
AsksToExtend path file larger copy (Verify house look) = ⊥
AsksToExtend path file larger copy (Backup journal to) = ⊥
AsksToExtend path file larger copy (Roll house rolling) = ⊥
AsksToExtend path file larger copy (Statement stating) = ⊥

-- the line asks for a new book of the live changes of the journal at a path, with no options
abbrev pub AsksToRoll : Text → Text → Text → Text → Line → Type 0
AsksToRoll path file larger copy (Roll house rolling) =
    (house.bytes.items ≡ path) × (rolling.paths.journal.bytes.items ≡ file)
    × (rolling.paths.larger.bytes.items ≡ larger) × (rolling.paths.to.bytes.items ≡ copy)
    × (rolling.is_open ≡ false) × (rolling.map ≡ None)
AsksToRoll path file larger copy (Batch house) = ⊥
AsksToRoll path file larger copy (Trace house trade) = ⊥
AsksToRoll path file larger copy (Serve house port workers connections) = ⊥
AsksToRoll path file larger copy (Keep house journal port workers connections options) = ⊥
AsksToRoll path file larger copy (Verify house look) = ⊥
AsksToRoll path file larger copy (Backup journal to) = ⊥
AsksToRoll path file larger copy (Extend house paths) = ⊥
AsksToRoll path file larger copy (Statement stating) = ⊥

-- the line asks for a statement of the whole book behind standard input, by the house file at the
-- path
abbrev pub AsksForStatement : Text → Line → Type 0
AsksForStatement path (Statement stating) =
    (stating.house.bytes.items ≡ path) × (stating.firm ≡ None) × (stating.journal ≡ None)
AsksForStatement path (Batch house) = ⊥
AsksForStatement path (Trace house trade) = ⊥
AsksForStatement path (Serve house port workers connections) = ⊥
AsksForStatement path (Keep house journal port workers connections options) = ⊥
AsksForStatement path (Verify house look) = ⊥
AsksForStatement path (Backup journal to) = ⊥
AsksForStatement path (Extend house paths) = ⊥
AsksForStatement path (Roll house rolling) = ⊥

-- a line that asks to serve does so by as many workers as a desk may have
abbrev pub HasWorkers : Line → Type 0
HasWorkers (Keep house journal port workers connections options) = IsTrue (is_worker_count workers)
HasWorkers (Serve house port workers connections) = IsTrue (is_worker_count workers)
HasWorkers _ = Unit {0}
