-- What the parser makes of the program's command lines.
use Rattle.std.proofs.Common.{◌≡◌, ◌==◌, ◌∙◌, ℕ, sym, ap, refl, arith, codes, true, false, subst, drop, map, slice_get}
use Rattle.std.proofs.Common.{List, [], ◌∷◌, Option, Some, None, slice_index, option_map, option_and_then, is_some}
use Rattle.std.proofs.Common.{unwrap_or, bytes_eq, ap₂}
use Rattle.std.specs.Prelude.{Result, Ok, Err, IfOk, IfErr, MatchResult, Bool, ◌&&◌, ◌||◌}
use Rattle.std.proofs.lemmas.Result.{IfOk-weaker}
use Rattle.std.proofs.lemmas.Bool.{not-true}
use Rattle.clap.specs.Lexer.{strip_byte}
use Rattle.clap.specs.Words.{App, Row, Rule, Text, with_rule, all_of, first_of, first_value, is_simple, rows_of}
use Rattle.clap.specs.Words.{subcommand_name_of, subcommand_of, subcommand_rows_of, takes}
use Rattle.clap.specs.declared.builder.command.Command.{Command}
use Rattle.clap.specs.declared.parser.matches.ArgMatches.{ArgMatches}
use Rattle.clap.specs.declared.parser.matches.Found.{Found}
use Rattle.gu_message.specs.Values.{entry_of}
use Rattle.gu_command.specs.Faults.{no_memory}
use Rattle.gu_command.specs.declared.fault.Fault.{Fault}
use Rattle.clap.proofs.WalkLemmas.{first_value-rows, raw_values-rows}
use Rattle.clap.proofs.OnLiterals.{clap_on_literals}
use Rattle.gu_command.specs.Lines.{program, Makes, is_plain, command_in, word_for, house_in, trade_in, journal_in}
use Rattle.gu_command.specs.Lines.{port_in, workers_in, connections_in, told_in, trade_meant, port_meant}
use Rattle.gu_command.specs.Lines.{workers_meant}
use Rattle.gu_command.specs.Lines.{connections_meant, IsLine, IsLineOf, AsksForBatch, AsksForTrace, AsksToServe}
use Rattle.gu_command.specs.Lines.{AsksToKeep, AsksToVerify, AsksToBackUp, AsksToExtend, totals_in, copy_in}
use Rattle.gu_command.specs.Lines.{larger_in, open_in, map_in, AsksToRoll, firm_in, AsksForStatement}
use Rattle.gu_command.specs.Options.{flag_meant, limit_meant, limit_or, usual_meant}
use Rattle.gu_command.specs.Options.{AreLimitsOf, AreOptionsOf, AreMeant, no_options}
use Rattle.gu_command.specs.Naming.{name_meant, asking_meant, no_book, IsBookOf}
use Rattle.gu_command.specs.Limits.{most_port, up_to}
use Rattle.gu_command.specs.Places.{are_places, is_place, told_among, ArePlaces, IsPlaceIf}
use Rattle.gu_command.specs.declared.options.StatusAt.{StatusAt}
use Rattle.gu_command.specs.declared.options.StatusAt.TheVariants.{Port, Socket}
use Rattle.gu_limits.specs.declared.limits.Limits.{Limits}
use Rattle.gu_command.specs.declared.naming.NamedBook.{NamedBook}
use Rattle.gu_command.specs.declared.options.KeepOptions.{KeepOptions}
use Rattle.gu_command.specs.declared.line.Line.{Line}
use Rattle.gu_command.specs.declared.line.Line.TheVariants.{Batch, Trace, Serve, Keep, Verify, Backup}
use Rattle.gu_command.specs.declared.line.Line.TheVariants.{Extend, Roll, Statement}

-- the program is simple, so its lines are computed
pub program_simple : is_simple program ≡ true
unfolding clap_on_literals
program_simple = refl

-- ---- the lines that it takes

-- the line `batch HOUSE`
abbrev pub batch_line : Text → List Text
batch_line path = codes "batch" ∷ path ∷ []

-- the line `trace HOUSE`
abbrev pub totals_line : Text → List Text
totals_line path = codes "trace" ∷ path ∷ []

-- the line `trace HOUSE --trade N`
abbrev pub trace_line : Text → Text → List Text
trace_line path word = codes "trace" ∷ path ∷ codes "--trade" ∷ word ∷ []

-- the line `serve HOUSE --port PORT`
abbrev pub serve_line : Text → Text → List Text
serve_line path word = codes "serve" ∷ path ∷ codes "--port" ∷ word ∷ []

-- the line `keep HOUSE JOURNAL --port PORT`
abbrev pub keep_line : Text → Text → Text → List Text
keep_line path file word = codes "keep" ∷ path ∷ file ∷ codes "--port" ∷ word ∷ []

-- the line `verify HOUSE JOURNAL`
abbrev pub verify_line : Text → Text → List Text
verify_line path file = codes "verify" ∷ path ∷ file ∷ []

-- the line `backup JOURNAL TO`
abbrev pub backup_line : Text → Text → List Text
backup_line file copy = codes "backup" ∷ file ∷ copy ∷ []

-- the line `extend HOUSE JOURNAL NEWHOUSE TO`
abbrev pub extend_line : Text → Text → Text → Text → List Text
extend_line path file larger copy = codes "extend" ∷ path ∷ file ∷ larger ∷ copy ∷ []

-- the line `roll HOUSE JOURNAL NEWHOUSE TO`
abbrev pub roll_line : Text → Text → Text → Text → List Text
roll_line path file larger copy = codes "roll" ∷ path ∷ file ∷ larger ∷ copy ∷ []

-- the line `statement HOUSE`
abbrev pub statement_line : Text → List Text
statement_line path = codes "statement" ∷ path ∷ []

-- ---- the commands

-- the rule of an argument, where it is known as another
pub same_rule : (app : App) (given rule : Rule) (r : Result Command Fault) → given ≡ rule
    → Makes (with_rule app given) r → Makes (with_rule app rule) r
same_rule app given rule r same h = subst (λ (x : Rule). Makes (with_rule app x) r) same h

-- ---- what the parser makes of the lines, computed once for each

-- the command that was met, and what is given for each of these arguments
abbrev Given : Type 0
Given = Text × List (Option Text)

abbrev given_for : List Text → Option (Text × List Row) → Option Given
given_for ids met = option_map (λ p. (p.0, map (λ id. first_of id p.1) ids)) met

-- what is given for an argument of the command that was met
abbrev pub given_in : Text → Option (Text × List Row) → Option Text
given_in id met = option_and_then (λ p. first_of id p.1) met

-- ---- from what is given to what the line means

command_given : (ids : List Text) (met : Option (Text × List Row)) (command : Text) (words : List (Option Text))
    → given_for ids met ≡ Some (command, words) → option_map (λ p. p.0) met ≡ Some command
command_given ids None command words e = absurd cc
command_given ids (Some p) command words e = ap (option_map (λ (g : Given). g.0)) e

first_given : (id : Text) (ids : List Text) (met : Option (Text × List Row)) (command : Text) (word : Option Text)
    (words : List (Option Text)) → given_for (id ∷ ids) met ≡ Some (command, word ∷ words) → given_in id met ≡ word
first_given id ids None command word words e = absurd cc
first_given id ids (Some p) command word words e =
    ap (λ (o : Option Given). option_and_then (λ g. unwrap_or (slice_get g.1 0) None) o) e

rest_given : (id : Text) (ids : List Text) (met : Option (Text × List Row)) (command : Text) (word : Option Text)
    (words : List (Option Text)) → given_for (id ∷ ids) met ≡ Some (command, word ∷ words)
    → given_for ids met ≡ Some (command, words)
rest_given id ids None command word words e = absurd cc
rest_given id ids (Some p) command word words e = ap (option_map (λ (g : Given). (g.0, drop 1 g.1))) e

-- the arguments of each command
abbrev batch_ids : List Text
batch_ids = codes "HOUSE" ∷ []

abbrev trace_ids : List Text
trace_ids = codes "HOUSE" ∷ codes "N" ∷ []

abbrev serve_ids : List Text
serve_ids = codes "HOUSE" ∷ codes "PORT" ∷ codes "WORKERS" ∷ codes "COUNT" ∷ []

-- ---- how the parser reads a plain word

-- no hyphen is taken off it, and it isn't the two hyphens that end the options
read_plain : (word : Text) → is_plain word ≡ true
    → (strip_byte 45 word ≡ None) × (bytes_eq word (codes "--") ≡ false)
read_plain [] h = (refl, refl)
read_plain (x ∷ xs) h = let e : (x == 45) ≡ false = not-true (x == 45) h in (rw e refl, rw e refl)

-- ---- batch

batch_given : (path : Text) → is_plain path ≡ true
    → given_for batch_ids (subcommand_of program (batch_line path)) ≡ Some (codes "batch", Some path ∷ [])
unfolding clap_on_literals
batch_given path h =
    let path_is = read_plain path h in rw (path_is.0, path_is.1, path_is.0) refl

pub batch_met : (path : Text) → is_plain path ≡ true
    → (command_in (batch_line path) ≡ Some (codes "batch")) × (house_in (batch_line path) ≡ Some path)
batch_met path h =
    let e = batch_given path h in
    (command_given batch_ids _ _ _ e, first_given (codes "HOUSE") [] _ _ _ _ e)

pub batch_taken : (path : Text) → is_plain path ≡ true → takes program (batch_line path) ≡ true
unfolding clap_on_literals
batch_taken path h =
    let path_is = read_plain path h in rw (path_is.0, path_is.1, path_is.0) refl

-- ---- trace, without a trade and with one

totals_given : (path : Text) → is_plain path ≡ true
    → given_for trace_ids (subcommand_of program (totals_line path)) ≡ Some (codes "trace", Some path ∷ None ∷ [])
unfolding clap_on_literals
totals_given path h =
    let path_is = read_plain path h in rw (path_is.0, path_is.1, path_is.0) refl

pub totals_met : (path : Text) → is_plain path ≡ true
    → (command_in (totals_line path) ≡ Some (codes "trace")) × (house_in (totals_line path) ≡ Some path)
    × (trade_in (totals_line path) ≡ None)
totals_met path h =
    let e = totals_given path h in
    let others = codes "N" ∷ [] in (
      command_given trace_ids _ _ _ e,
      first_given (codes "HOUSE") others _ _ _ _ e,
      first_given (codes "N") [] _ _ _ _ (rest_given (codes "HOUSE") others _ _ _ _ e),
    )

pub totals_taken : (path : Text) → is_plain path ≡ true → takes program (totals_line path) ≡ true
unfolding clap_on_literals
totals_taken path h =
    let path_is = read_plain path h in rw (path_is.0, path_is.1, path_is.0) refl

trace_given : (path word : Text) → is_plain path ≡ true → is_plain word ≡ true
    → given_for trace_ids (subcommand_of program (trace_line path word))
    ≡ Some (codes "trace", Some path ∷ Some word ∷ [])
unfolding clap_on_literals
trace_given path word h k =
    let path_is = read_plain path h in let word_is = read_plain word k in
    rw (path_is.0, path_is.1, path_is.0, word_is.0, word_is.1, word_is.0) refl

pub trace_met : (path word : Text) → is_plain path ≡ true → is_plain word ≡ true
    → (command_in (trace_line path word) ≡ Some (codes "trace")) × (house_in (trace_line path word) ≡ Some path)
    × (trade_in (trace_line path word) ≡ Some word)
trace_met path word h k =
    let e = trace_given path word h k in
    let others = codes "N" ∷ [] in (
      command_given trace_ids _ _ _ e,
      first_given (codes "HOUSE") others _ _ _ _ e,
      first_given (codes "N") [] _ _ _ _ (rest_given (codes "HOUSE") others _ _ _ _ e),
    )

pub trace_taken : (path word : Text) → is_plain path ≡ true → is_plain word ≡ true
    → takes program (trace_line path word) ≡ true
unfolding clap_on_literals
trace_taken path word h k =
    let path_is = read_plain path h in let word_is = read_plain word k in
    rw (path_is.0, path_is.1, path_is.0, word_is.0, word_is.1, word_is.0) refl

-- ---- serve

serve_given : (path word : Text) → is_plain path ≡ true → is_plain word ≡ true
    → given_for serve_ids (subcommand_of program (serve_line path word))
    ≡ Some (codes "serve", Some path ∷ Some word ∷ None ∷ None ∷ [])
unfolding clap_on_literals
serve_given path word h k =
    let path_is = read_plain path h in let word_is = read_plain word k in
    rw (path_is.0, path_is.1, path_is.0, word_is.0, word_is.1, word_is.0) refl

pub serve_met : (path word : Text) → is_plain path ≡ true → is_plain word ≡ true
    → (command_in (serve_line path word) ≡ Some (codes "serve")) × (house_in (serve_line path word) ≡ Some path)
    × (port_in (serve_line path word) ≡ Some word) × (workers_in (serve_line path word) ≡ None)
    × (connections_in (serve_line path word) ≡ None)
serve_met path word h k =
    let e = serve_given path word h k in
    let counts = codes "COUNT" ∷ [] in
    let numbers = codes "WORKERS" ∷ counts in
    let port = rest_given (codes "HOUSE") (codes "PORT" ∷ numbers) _ _ _ _ e in
    let workers = rest_given (codes "PORT") numbers _ _ _ _ port in
    let connections = rest_given (codes "WORKERS") counts _ _ _ _ workers in (
      command_given serve_ids _ _ _ e,
      first_given (codes "HOUSE") (codes "PORT" ∷ numbers) _ _ _ _ e,
      first_given (codes "PORT") numbers _ _ _ _ port,
      first_given (codes "WORKERS") counts _ _ _ _ workers,
      first_given (codes "COUNT") [] _ _ _ _ connections,
    )

pub serve_taken : (path word : Text) → is_plain path ≡ true → is_plain word ≡ true
    → takes program (serve_line path word) ≡ true
unfolding clap_on_literals
serve_taken path word h k =
    let path_is = read_plain path h in let word_is = read_plain word k in
    rw (path_is.0, path_is.1, path_is.0, word_is.0, word_is.1, word_is.0) refl

-- ---- keep

abbrev naming_ids : List Text
naming_ids = codes "NAME" ∷ codes "ASK_BOOK" ∷ codes "FOLDER" ∷ []

abbrev telling_ids : List Text
telling_ids = codes "LOG_CALLS" ∷ naming_ids

abbrev limit_ids : List Text
limit_ids =
    codes "ENTRIES" ∷ codes "PARTS" ∷ codes "RESERVED" ∷ codes "MEMORY" ∷ codes "CALLS" ∷ codes "CONNECTIONS"
    ∷ codes "HELD" ∷ telling_ids

abbrev option_ids : List Text
option_ids = codes "PATH" ∷ limit_ids

abbrev keep_ids : List Text
keep_ids = codes "HOUSE" ∷ codes "JOURNAL" ∷ codes "PORT" ∷ codes "WORKERS" ∷ codes "COUNT" ∷ option_ids

-- a flag that isn't given is `false`
abbrev none_given : List (Option Text)
none_given = None ∷ None ∷ None ∷ None ∷ None ∷ None ∷ None ∷ None ∷ Some (codes "false") ∷ None
    ∷ Some (codes "false") ∷ None ∷ []

keep_given : (path file word : Text) → is_plain path ≡ true → is_plain file ≡ true → is_plain word ≡ true
    → given_for keep_ids (subcommand_of program (keep_line path file word))
    ≡ Some (codes "keep", Some path ∷ Some file ∷ Some word ∷ None ∷ None ∷ none_given)
unfolding clap_on_literals
keep_given path file word h f k =
    let path_is = read_plain path h in let file_is = read_plain file f in let word_is = read_plain word k in
    rw (path_is.0, path_is.1, path_is.0, file_is.0, file_is.1, file_is.0, word_is.0, word_is.1, word_is.0) refl

-- nothing is given for the options
options_given : (given : Text → Option Text) → given (codes "PATH") ≡ None → given (codes "ENTRIES") ≡ None
    → given (codes "PARTS") ≡ None → given (codes "RESERVED") ≡ None → given (codes "MEMORY") ≡ None
    → given (codes "CALLS") ≡ None → given (codes "CONNECTIONS") ≡ None → given (codes "HELD") ≡ None
    → given (codes "LOG_CALLS") ≡ Some (codes "false") → given (codes "NAME") ≡ None
    → given (codes "ASK_BOOK") ≡ Some (codes "false") → given (codes "FOLDER") ≡ None
    → AreOptionsOf given [] no_options
options_given given path entries parts reserved memory calls connections held log_calls name asking folder = (
  path,
  (
    ap limit_meant entries,
    ap limit_meant parts,
    ap limit_meant reserved,
    ap limit_meant memory,
    ap limit_meant calls,
    ap (usual_meant 8) connections,
    ap (usual_meant 64) held,
  ),
  (refl, refl),
  ap flag_meant log_calls,
  (ap name_meant name, ap₂ asking_meant name asking),
  folder,
)

-- nor behind `--status`
none_told : (path file word : Text) → is_plain path ≡ true → is_plain file ≡ true → is_plain word ≡ true
    → told_in (keep_line path file word) ≡ []
unfolding clap_on_literals
none_told path file word h f k =
    let path_is = read_plain path h in let file_is = read_plain file f in let word_is = read_plain word k in
    rw (path_is.0, path_is.1, path_is.0, file_is.0, file_is.1, file_is.0, word_is.0, word_is.1, word_is.0) refl

pub keep_met : (path file word : Text) → is_plain path ≡ true → is_plain file ≡ true → is_plain word ≡ true
    → (command_in (keep_line path file word) ≡ Some (codes "keep")) × (house_in (keep_line path file word) ≡ Some path)
    × (journal_in (keep_line path file word) ≡ Some file) × (port_in (keep_line path file word) ≡ Some word)
    × (workers_in (keep_line path file word) ≡ None) × (connections_in (keep_line path file word) ≡ None)
    × AreOptionsOf (word_for (keep_line path file word)) (told_in (keep_line path file word)) no_options
keep_met path file word h f k =
    let e = keep_given path file word h f k in
    let waiting = codes "HELD" ∷ telling_ids in
    let each = codes "CONNECTIONS" ∷ waiting in
    let calls = codes "CALLS" ∷ each in
    let memories = codes "MEMORY" ∷ calls in
    let reserved = codes "RESERVED" ∷ memories in
    let splits = codes "PARTS" ∷ reserved in
    let counts = codes "COUNT" ∷ option_ids in
    let numbers = codes "WORKERS" ∷ counts in
    let ports = codes "PORT" ∷ numbers in
    let journal = rest_given (codes "HOUSE") (codes "JOURNAL" ∷ ports) _ _ _ _ e in
    let port = rest_given (codes "JOURNAL") ports _ _ _ _ journal in
    let workers = rest_given (codes "PORT") numbers _ _ _ _ port in
    let connections = rest_given (codes "WORKERS") counts _ _ _ _ workers in
    let replica = rest_given (codes "COUNT") option_ids _ _ _ _ connections in
    let entries = rest_given (codes "PATH") limit_ids _ _ _ _ replica in
    let parts = rest_given (codes "ENTRIES") splits _ _ _ _ entries in
    let reserve = rest_given (codes "PARTS") reserved _ _ _ _ parts in
    let memory = rest_given (codes "RESERVED") memories _ _ _ _ reserve in
    let rate = rest_given (codes "MEMORY") calls _ _ _ _ memory in
    let per_firm = rest_given (codes "CALLS") each _ _ _ _ rate in
    let held = rest_given (codes "CONNECTIONS") waiting _ _ _ _ per_firm in
    let log_calls = rest_given (codes "HELD") telling_ids _ _ _ _ held in
    let folders = codes "FOLDER" ∷ [] in
    let asked = codes "ASK_BOOK" ∷ folders in
    let name = rest_given (codes "LOG_CALLS") naming_ids _ _ _ _ log_calls in
    let asking = rest_given (codes "NAME") asked _ _ _ _ name in
    let folder = rest_given (codes "ASK_BOOK") folders _ _ _ _ asking in (
      command_given keep_ids _ _ _ e,
      first_given (codes "HOUSE") (codes "JOURNAL" ∷ ports) _ _ _ _ e,
      first_given (codes "JOURNAL") ports _ _ _ _ journal,
      first_given (codes "PORT") numbers _ _ _ _ port,
      first_given (codes "WORKERS") counts _ _ _ _ workers,
      first_given (codes "COUNT") option_ids _ _ _ _ connections,
      subst (λ (t : List Text). AreOptionsOf (word_for (keep_line path file word)) t no_options)
          (sym (none_told path file word h f k))
          (options_given (word_for (keep_line path file word))
          (first_given (codes "PATH") limit_ids _ _ _ _ replica)
          (first_given (codes "ENTRIES") splits _ _ _ _ entries)
          (first_given (codes "PARTS") reserved _ _ _ _ parts)
          (first_given (codes "RESERVED") memories _ _ _ _ reserve)
          (first_given (codes "MEMORY") calls _ _ _ _ memory)
          (first_given (codes "CALLS") each _ _ _ _ rate)
          (first_given (codes "CONNECTIONS") waiting _ _ _ _ per_firm)
          (first_given (codes "HELD") telling_ids _ _ _ _ held)
          (first_given (codes "LOG_CALLS") naming_ids _ _ _ _ log_calls)
          (first_given (codes "NAME") asked _ _ _ _ name)
          (first_given (codes "ASK_BOOK") folders _ _ _ _ asking)
          (first_given (codes "FOLDER") [] _ _ _ _ folder)),
    )

pub keep_taken : (path file word : Text) → is_plain path ≡ true → is_plain file ≡ true → is_plain word ≡ true
    → takes program (keep_line path file word) ≡ true
unfolding clap_on_literals
keep_taken path file word h f k =
    let path_is = read_plain path h in let file_is = read_plain file f in let word_is = read_plain word k in
    rw (path_is.0, path_is.1, path_is.0, file_is.0, file_is.1, file_is.0, word_is.0, word_is.1, word_is.0) refl

-- ---- verify

abbrev verify_ids : List Text
verify_ids = codes "HOUSE" ∷ codes "JOURNAL" ∷ codes "TOTALS" ∷ codes "N" ∷ []

verify_given : (path file : Text) → is_plain path ≡ true → is_plain file ≡ true
    → given_for verify_ids (subcommand_of program (verify_line path file))
    ≡ Some (codes "verify", Some path ∷ Some file ∷ Some (codes "false") ∷ None ∷ [])
unfolding clap_on_literals
verify_given path file h f =
    let path_is = read_plain path h in let file_is = read_plain file f in
    rw (path_is.0, path_is.1, path_is.0, file_is.0, file_is.1, file_is.0) refl

pub verify_met : (path file : Text) → is_plain path ≡ true → is_plain file ≡ true
    → (command_in (verify_line path file) ≡ Some (codes "verify")) × (house_in (verify_line path file) ≡ Some path)
    × (journal_in (verify_line path file) ≡ Some file)
    × (totals_in (verify_line path file) ≡ Some (codes "false")) × (trade_in (verify_line path file) ≡ None)
verify_met path file h f =
    let e = verify_given path file h f in
    let trades = codes "N" ∷ [] in
    let totals = codes "TOTALS" ∷ trades in
    let journals = codes "JOURNAL" ∷ totals in
    let journal = rest_given (codes "HOUSE") journals _ _ _ _ e in
    let flag = rest_given (codes "JOURNAL") totals _ _ _ _ journal in
    let trade = rest_given (codes "TOTALS") trades _ _ _ _ flag in (
      command_given verify_ids _ _ _ e,
      first_given (codes "HOUSE") journals _ _ _ _ e,
      first_given (codes "JOURNAL") totals _ _ _ _ journal,
      first_given (codes "TOTALS") trades _ _ _ _ flag,
      first_given (codes "N") [] _ _ _ _ trade,
    )

pub verify_taken : (path file : Text) → is_plain path ≡ true → is_plain file ≡ true
    → takes program (verify_line path file) ≡ true
unfolding clap_on_literals
verify_taken path file h f =
    let path_is = read_plain path h in let file_is = read_plain file f in
    rw (path_is.0, path_is.1, path_is.0, file_is.0, file_is.1, file_is.0) refl

-- ---- backup

abbrev backup_ids : List Text
backup_ids = codes "JOURNAL" ∷ codes "TO" ∷ []

backup_given : (file copy : Text) → is_plain file ≡ true → is_plain copy ≡ true
    → given_for backup_ids (subcommand_of program (backup_line file copy))
    ≡ Some (codes "backup", Some file ∷ Some copy ∷ [])
unfolding clap_on_literals
backup_given file copy f k =
    let file_is = read_plain file f in let copy_is = read_plain copy k in
    rw (file_is.0, file_is.1, file_is.0, copy_is.0, copy_is.1, copy_is.0) refl

pub backup_met : (file copy : Text) → is_plain file ≡ true → is_plain copy ≡ true
    → (command_in (backup_line file copy) ≡ Some (codes "backup")) × (journal_in (backup_line file copy) ≡ Some file)
    × (copy_in (backup_line file copy) ≡ Some copy)
backup_met file copy f k =
    let e = backup_given file copy f k in
    let copies = codes "TO" ∷ [] in
    let to = rest_given (codes "JOURNAL") copies _ _ _ _ e in (
      command_given backup_ids _ _ _ e,
      first_given (codes "JOURNAL") copies _ _ _ _ e,
      first_given (codes "TO") [] _ _ _ _ to,
    )

pub backup_taken : (file copy : Text) → is_plain file ≡ true → is_plain copy ≡ true
    → takes program (backup_line file copy) ≡ true
unfolding clap_on_literals
backup_taken file copy f k =
    let file_is = read_plain file f in let copy_is = read_plain copy k in
    rw (file_is.0, file_is.1, file_is.0, copy_is.0, copy_is.1, copy_is.0) refl

-- ---- extend

abbrev extend_ids : List Text
extend_ids = codes "HOUSE" ∷ codes "JOURNAL" ∷ codes "NEWHOUSE" ∷ codes "TO" ∷ []

extend_given : (path file larger copy : Text) → is_plain path ≡ true → is_plain file ≡ true → is_plain larger ≡ true
    → is_plain copy ≡ true → given_for extend_ids (subcommand_of program (extend_line path file larger copy))
    ≡ Some (codes "extend", Some path ∷ Some file ∷ Some larger ∷ Some copy ∷ [])
unfolding clap_on_literals
extend_given path file larger copy h f l k =
    let path_is = read_plain path h in let file_is = read_plain file f in
    let larger_is = read_plain larger l in let copy_is = read_plain copy k in
    rw (
      path_is.0,
      path_is.1,
      path_is.0,
      file_is.0,
      file_is.1,
      file_is.0,
      larger_is.0,
      larger_is.1,
      larger_is.0,
      copy_is.0,
      copy_is.1,
      copy_is.0,
    ) refl

pub extend_met : (path file larger copy : Text) → is_plain path ≡ true → is_plain file ≡ true
    → is_plain larger ≡ true → is_plain copy ≡ true
    → (command_in (extend_line path file larger copy) ≡ Some (codes "extend"))
    × (house_in (extend_line path file larger copy) ≡ Some path)
    × (journal_in (extend_line path file larger copy) ≡ Some file)
    × (larger_in (extend_line path file larger copy) ≡ Some larger)
    × (copy_in (extend_line path file larger copy) ≡ Some copy)
extend_met path file larger copy h f l k =
    let e = extend_given path file larger copy h f l k in
    let copies = codes "TO" ∷ [] in
    let wider = codes "NEWHOUSE" ∷ copies in
    let journals = codes "JOURNAL" ∷ wider in
    let journal = rest_given (codes "HOUSE") journals _ _ _ _ e in
    let house = rest_given (codes "JOURNAL") wider _ _ _ _ journal in
    let to = rest_given (codes "NEWHOUSE") copies _ _ _ _ house in (
      command_given extend_ids _ _ _ e,
      first_given (codes "HOUSE") journals _ _ _ _ e,
      first_given (codes "JOURNAL") wider _ _ _ _ journal,
      first_given (codes "NEWHOUSE") copies _ _ _ _ house,
      first_given (codes "TO") [] _ _ _ _ to,
    )

pub extend_taken : (path file larger copy : Text) → is_plain path ≡ true → is_plain file ≡ true
    → is_plain larger ≡ true → is_plain copy ≡ true → takes program (extend_line path file larger copy) ≡ true
unfolding clap_on_literals
extend_taken path file larger copy h f l k =
    let path_is = read_plain path h in let file_is = read_plain file f in
    let larger_is = read_plain larger l in let copy_is = read_plain copy k in
    rw (
      path_is.0,
      path_is.1,
      path_is.0,
      file_is.0,
      file_is.1,
      file_is.0,
      larger_is.0,
      larger_is.1,
      larger_is.0,
      copy_is.0,
      copy_is.1,
      copy_is.0,
    ) refl

-- ---- roll

abbrev roll_ids : List Text
roll_ids =
    codes "HOUSE" ∷ codes "JOURNAL" ∷ codes "NEWHOUSE" ∷ codes "TO" ∷ codes "OPEN" ∷ codes "FILE" ∷ []

roll_given : (path file larger copy : Text) → is_plain path ≡ true → is_plain file ≡ true → is_plain larger ≡ true
    → is_plain copy ≡ true → given_for roll_ids (subcommand_of program (roll_line path file larger copy))
    ≡ Some (codes "roll", Some path ∷ Some file ∷ Some larger ∷ Some copy ∷ Some (codes "false") ∷ None ∷ [])
unfolding clap_on_literals
roll_given path file larger copy h f l k =
    let path_is = read_plain path h in let file_is = read_plain file f in
    let larger_is = read_plain larger l in let copy_is = read_plain copy k in
    rw (
      path_is.0,
      path_is.1,
      path_is.0,
      file_is.0,
      file_is.1,
      file_is.0,
      larger_is.0,
      larger_is.1,
      larger_is.0,
      copy_is.0,
      copy_is.1,
      copy_is.0,
    ) refl

pub roll_met : (path file larger copy : Text) → is_plain path ≡ true → is_plain file ≡ true
    → is_plain larger ≡ true → is_plain copy ≡ true
    → (command_in (roll_line path file larger copy) ≡ Some (codes "roll"))
    × (house_in (roll_line path file larger copy) ≡ Some path)
    × (journal_in (roll_line path file larger copy) ≡ Some file)
    × (larger_in (roll_line path file larger copy) ≡ Some larger)
    × (copy_in (roll_line path file larger copy) ≡ Some copy)
    × (open_in (roll_line path file larger copy) ≡ Some (codes "false"))
    × (map_in (roll_line path file larger copy) ≡ None)
roll_met path file larger copy h f l k =
    let e = roll_given path file larger copy h f l k in
    let maps = codes "FILE" ∷ [] in
    let opens = codes "OPEN" ∷ maps in
    let copies = codes "TO" ∷ opens in
    let wider = codes "NEWHOUSE" ∷ copies in
    let journals = codes "JOURNAL" ∷ wider in
    let journal = rest_given (codes "HOUSE") journals _ _ _ _ e in
    let house = rest_given (codes "JOURNAL") wider _ _ _ _ journal in
    let to = rest_given (codes "NEWHOUSE") copies _ _ _ _ house in
    let flag = rest_given (codes "TO") opens _ _ _ _ to in
    let map_at = rest_given (codes "OPEN") maps _ _ _ _ flag in (
      command_given roll_ids _ _ _ e,
      first_given (codes "HOUSE") journals _ _ _ _ e,
      first_given (codes "JOURNAL") wider _ _ _ _ journal,
      first_given (codes "NEWHOUSE") copies _ _ _ _ house,
      first_given (codes "TO") opens _ _ _ _ to,
      first_given (codes "OPEN") maps _ _ _ _ flag,
      first_given (codes "FILE") [] _ _ _ _ map_at,
    )

pub roll_taken : (path file larger copy : Text) → is_plain path ≡ true → is_plain file ≡ true
    → is_plain larger ≡ true → is_plain copy ≡ true → takes program (roll_line path file larger copy) ≡ true
unfolding clap_on_literals
roll_taken path file larger copy h f l k =
    let path_is = read_plain path h in let file_is = read_plain file f in
    let larger_is = read_plain larger l in let copy_is = read_plain copy k in
    rw (
      path_is.0,
      path_is.1,
      path_is.0,
      file_is.0,
      file_is.1,
      file_is.0,
      larger_is.0,
      larger_is.1,
      larger_is.0,
      copy_is.0,
      copy_is.1,
      copy_is.0,
    ) refl

-- ---- statement

abbrev statement_ids : List Text
statement_ids = codes "HOUSE" ∷ codes "FIRM" ∷ codes "JOURNAL" ∷ []

statement_given : (path : Text) → is_plain path ≡ true
    → given_for statement_ids (subcommand_of program (statement_line path))
    ≡ Some (codes "statement", Some path ∷ None ∷ None ∷ [])
unfolding clap_on_literals
statement_given path h =
    let path_is = read_plain path h in rw (path_is.0, path_is.1, path_is.0) refl

pub statement_met : (path : Text) → is_plain path ≡ true
    → (command_in (statement_line path) ≡ Some (codes "statement")) × (house_in (statement_line path) ≡ Some path)
    × (firm_in (statement_line path) ≡ None) × (journal_in (statement_line path) ≡ None)
statement_met path h =
    let e = statement_given path h in
    let journals = codes "JOURNAL" ∷ [] in
    let firms = codes "FIRM" ∷ journals in
    let firm = rest_given (codes "HOUSE") firms _ _ _ _ e in
    let journal = rest_given (codes "FIRM") journals _ _ _ _ firm in (
      command_given statement_ids _ _ _ e,
      first_given (codes "HOUSE") firms _ _ _ _ e,
      first_given (codes "FIRM") journals _ _ _ _ firm,
      first_given (codes "JOURNAL") [] _ _ _ _ journal,
    )

pub statement_taken : (path : Text) → is_plain path ≡ true → takes program (statement_line path) ≡ true
unfolding clap_on_literals
statement_taken path h =
    let path_is = read_plain path h in rw (path_is.0, path_is.1, path_is.0) refl

-- ---- what is found behind the command

given_among : (id : Text) (met : Option (Text × List Row)) (rows : List Row) → Some rows ≡ option_map (λ p. p.1) met
    → first_of id rows ≡ given_in id met
given_among id None rows e = ap (λ (o : Option (List Row)). option_and_then (first_of id) o) e
given_among id (Some p) rows e = ap (λ (o : Option (List Row)). option_and_then (first_of id) o) e

-- what the parser met, with the rows below it
met_here : (a : App) (words : List Text) (met : Option (Text × List Row)) → a ≡ program
    → (is_simple a ≡ true → met ≡ subcommand_of a words) → met ≡ subcommand_of program words
met_here a words met same met_is = met_is (ap is_simple same ∙ program_simple) ∙ ap (λ x. subcommand_of x words) same

-- and what is given there for an argument
given_here : (words : List Text) (id : Text) (met : Option (Text × List Row)) (found : Found)
    → met ≡ subcommand_of program words → Some (rows_of found) ≡ option_map (λ p. p.1) met
    → first_value found id ≡ given_in id (subcommand_of program words)
given_here words id met found met_is rows_are =
    first_value-rows found id ∙ given_among id met (rows_of found) rows_are ∙ ap (given_in id) met_is

-- and all that is given there behind `--status`
abbrev told_at : Option (Text × List Row) → Option (List Text)
told_at met = option_and_then (λ p. all_of (codes "STATUS") p.1) met

told_among_rows : (met : Option (Text × List Row)) (rows : List Row) → Some rows ≡ option_map (λ p. p.1) met
    → all_of (codes "STATUS") rows ≡ told_at met
told_among_rows None rows e = ap (λ (o : Option (List Row)). option_and_then (all_of (codes "STATUS")) o) e
told_among_rows (Some p) rows e = ap (λ (o : Option (List Row)). option_and_then (all_of (codes "STATUS")) o) e

told_here : (words : List Text) (met : Option (Text × List Row)) (found : Found)
    → met ≡ subcommand_of program words → Some (rows_of found) ≡ option_map (λ p. p.1) met
    → told_among found ≡ told_in words
told_here words met found met_is rows_are =
    ap (λ (o : Option (List Text)). unwrap_or o [])
    (raw_values-rows found (codes "STATUS") ∙ told_among_rows met (rows_of found) rows_are ∙ ap told_at met_is)

mapped_twice : {A B C : Type 0} (f : B → C) (g : A → B) (o : Option A)
    → option_map f (option_map g o) ≡ option_map (λ x. f (g x)) o
mapped_twice f g None = refl
mapped_twice f g (Some x) = refl

-- the command that was met is the one that its name says
named : (m : ArgMatches) → option_map (λ p. p.0) (subcommand_rows_of m) ≡ subcommand_name_of m
named m = mapped_twice _ _ _

command_here : (m : ArgMatches) (words : List Text) (name : Text) → subcommand_rows_of m ≡ subcommand_of program words
    → Some name ≡ subcommand_name_of m → command_in words ≡ Some name
command_here m words name met_is name_is = ap (option_map (λ p. p.0)) (sym met_is) ∙ named m ∙ sym name_is

-- the command that was met, and what is given there for each argument
pub found_here : (a : App) (words : List Text) (m : ArgMatches) (name : Text) (found : Found) → a ≡ program
    → (is_simple a ≡ true → subcommand_rows_of m ≡ subcommand_of a words) → Some name ≡ subcommand_name_of m
    → Some (rows_of found) ≡ option_map (λ p. p.1) (subcommand_rows_of m)
    → (command_in words ≡ Some name) × ((id : Text) → first_value found id ≡ word_for words id)
    × (told_among found ≡ told_in words)
found_here a words m name found same met_is name_is rows_are =
    let met = met_here a words _ same met_is in (
      command_here m words name met name_is,
      λ id. given_here words id _ found met rows_are,
      told_here words _ found met rows_are,
    )

-- ---- the line that is read

-- what was given for the options means the same where the same is given
same_meaning : (f g : Text → Option Text) (s t : List Text) (options : KeepOptions) → ((id : Text) → f id ≡ g id)
    → s ≡ t → AreOptionsOf g t options → AreOptionsOf f s options
same_meaning f g s t options same told k = (
  same (codes "PATH") ∙ k.0,
  (
    ap limit_meant (same (codes "ENTRIES")) ∙ k.1.0,
    ap limit_meant (same (codes "PARTS")) ∙ k.1.1,
    ap limit_meant (same (codes "RESERVED")) ∙ k.1.2,
    ap limit_meant (same (codes "MEMORY")) ∙ k.1.3,
    ap limit_meant (same (codes "CALLS")) ∙ k.1.4,
    ap (usual_meant 8) (same (codes "CONNECTIONS")) ∙ k.1.5,
    ap (usual_meant 64) (same (codes "HELD")) ∙ k.1.6,
  ),
  subst (λ (x : List Text). ArePlaces x options.status options.more_status) (sym told) k.2,
  ap flag_meant (same (codes "LOG_CALLS")) ∙ k.3,
  (
    ap name_meant (same (codes "NAME")) ∙ k.4.0,
    ap₂ asking_meant (same (codes "NAME")) (same (codes "ASK_BOOK")) ∙ k.4.1,
  ),
  same (codes "FOLDER") ∙ k.5,
)

-- a word that means a place is one
place_so : (word : Text) (place : Option StatusAt) → IsPlaceIf (Some word) place → is_place word ≡ true
place_so word None k = absurd k
place_so word (Some (Port number)) k = ap₂ (λ (a b : Bool). a || b) k.0 (ap is_some k.1)
place_so word (Some (Socket path)) k = ap (λ (a : Bool). a || is_some (up_to most_port word)) k.0

places_so : (told : List Text) (first second : Option StatusAt) → ArePlaces told first second → are_places told ≡ true
places_so [] first second k = refl
places_so (v ∷ []) first second k = place_so v first k.0
places_so (v ∷ w ∷ []) first second k =
    ap₂ (λ (a b : Bool). a && b) (place_so v first k.0) (place_so w second k.1)
places_so (v ∷ w ∷ x ∷ ws) first second k = absurd k

-- a limit that is known, or the usual one, was meant
limit_there : (usual : ℕ) (limit : Option (Option ℕ)) (known : Option ℕ)
    → option_map (limit_or usual) limit ≡ Some known → is_some limit ≡ true
limit_there usual None known e = absurd cc
limit_there usual (Some limit) known e = refl

-- what holds if the options mean some holds where they do
meant_so : (given : Text → Option Text) (told : List Text) (options : KeepOptions) (P : Type 0)
    → AreOptionsOf given told options → AreMeant given told P → P
meant_so given told options P k p =
    p (places_so told options.status options.more_status k.2) (ap is_some k.1.0) (ap is_some k.1.1) (ap is_some k.1.2)
    (ap is_some k.1.3) (ap is_some k.1.4) (limit_there 8 _ options.limits.per_firm k.1.5)
    (limit_there 64 _ options.limits.held k.1.6) (ap is_some k.4.0) (ap is_some k.4.1)

-- of which command the line is, and what was given for its arguments
pub line_found : (words : List Text) (command : Text) (given : Text → Option Text) (told : List Text) (l : Line)
    → command_in words ≡ Some command → ((id : Text) → given id ≡ word_for words id) → told ≡ told_in words
    → IsLineOf command given told l → IsLine words l
line_found words command given told (Batch path) c g t k = (c ∙ ap Some k.0, sym (g (codes "HOUSE")) ∙ k.1)
line_found words command given told (Trace path number) c g t k =
    (c ∙ ap Some k.0, sym (g (codes "HOUSE")) ∙ k.1, ap trade_meant (sym (g (codes "N"))) ∙ k.2)
line_found words command given told (Serve path port workers connections) c g t k = (
  c ∙ ap Some k.0,
  sym (g (codes "HOUSE")) ∙ k.1,
  ap port_meant (sym (g (codes "PORT"))) ∙ k.2,
  ap workers_meant (sym (g (codes "WORKERS"))) ∙ k.3,
  ap connections_meant (sym (g (codes "COUNT"))) ∙ k.4,
)
line_found words command given told (Keep path journal port workers connections options) c g t k = (
  c ∙ ap Some k.0,
  sym (g (codes "HOUSE")) ∙ k.1,
  sym (g (codes "JOURNAL")) ∙ k.2,
  ap port_meant (sym (g (codes "PORT"))) ∙ k.3,
  ap workers_meant (sym (g (codes "WORKERS"))) ∙ k.4,
  ap connections_meant (sym (g (codes "COUNT"))) ∙ k.5,
  same_meaning (word_for words) given (told_in words) told options (λ id. sym (g id)) (sym t) k.6,
)
line_found words command given told (Verify path look) c g t k = (
  c ∙ ap Some k.0,
  sym (g (codes "HOUSE")) ∙ k.1,
  sym (g (codes "JOURNAL")) ∙ k.2,
  ap flag_meant (sym (g (codes "TOTALS"))) ∙ k.3,
  ap trade_meant (sym (g (codes "N"))) ∙ k.4,
)
line_found words command given told (Backup journal to) c g t k =
    (c ∙ ap Some k.0, sym (g (codes "JOURNAL")) ∙ k.1, sym (g (codes "TO")) ∙ k.2)
line_found words command given told (Extend path paths) c g t k = (
  c ∙ ap Some k.0,
  sym (g (codes "HOUSE")) ∙ k.1,
  sym (g (codes "JOURNAL")) ∙ k.2,
  sym (g (codes "NEWHOUSE")) ∙ k.3,
  sym (g (codes "TO")) ∙ k.4,
)
line_found words command given told (Roll path rolling) c g t k = (
  c ∙ ap Some k.0,
  sym (g (codes "HOUSE")) ∙ k.1,
  sym (g (codes "JOURNAL")) ∙ k.2,
  sym (g (codes "NEWHOUSE")) ∙ k.3,
  sym (g (codes "TO")) ∙ k.4,
  ap flag_meant (sym (g (codes "OPEN"))) ∙ k.5,
  sym (g (codes "FILE")) ∙ k.6,
)
line_found words command given told (Statement stating) c g t k = (
  c ∙ ap Some k.0,
  sym (g (codes "HOUSE")) ∙ k.1,
  sym (g (codes "FIRM")) ∙ k.2,
  sym (g (codes "JOURNAL")) ∙ k.3,
)

-- ---- what a line asks for

pub same_in_some : (a b : Text) → Some a ≡ Some b → a ≡ b
same_in_some a b e = ap (λ (o : Option Text). unwrap_or o []) e

same_number : (a b : Option ℕ) → Some a ≡ Some b → a ≡ b
same_number a b e = ap (λ (o : Option (Option ℕ)). unwrap_or o None) e

same_text : (a b : Option Text) → Some a ≡ Some b → a ≡ b
same_text a b e = ap (λ (o : Option (Option Text)). unwrap_or o None) e

same_flag : (a b : Bool) → Some a ≡ Some b → a ≡ b
same_flag a b e = ap (λ (o : Option Bool). unwrap_or o false) e

same_count : (a b : ℕ) → Some a ≡ Some b → a ≡ b
same_count a b e = ap (λ (o : Option ℕ). unwrap_or o 0) e

-- two commands are told apart by their first letter
apart : codes "trace" ≡ codes "batch" → ⊥
apart e = let bad : 116 ≡ 98 = ap (λ (t : Text). slice_index t 0) e in omega (arith, bad)

serve_apart : codes "serve" ≡ codes "batch" → ⊥
serve_apart e = let bad : 115 ≡ 98 = ap (λ (t : Text). slice_index t 0) e in omega (arith, bad)

keep_apart : (name : Text) (first : ℕ) → slice_index name 0 ≡ first → (first ≡ 107 → ⊥) → codes "keep" ≡ name → ⊥
keep_apart name first is other e = other (sym is ∙ ap (λ (t : Text). slice_index t 0) (sym e))

keep_no_batch : codes "keep" ≡ codes "batch" → ⊥
keep_no_batch e = keep_apart (codes "batch") 98 refl (λ (bad : 98 ≡ 107). omega (arith, bad)) e

keep_no_trace : codes "keep" ≡ codes "trace" → ⊥
keep_no_trace e = keep_apart (codes "trace") 116 refl (λ (bad : 116 ≡ 107). omega (arith, bad)) e

keep_no_serve : codes "keep" ≡ codes "serve" → ⊥
keep_no_serve e = keep_apart (codes "serve") 115 refl (λ (bad : 115 ≡ 107). omega (arith, bad)) e

-- two commands with other first letters aren't the same
firsts_apart : (a b : Text) → (slice_index a 0 ≡ slice_index b 0 → ⊥) → a ≡ b → ⊥
firsts_apart a b other e = other (ap (λ (t : Text). slice_index t 0) e)

verify_no_batch : codes "verify" ≡ codes "batch" → ⊥
verify_no_batch e = firsts_apart _ _ (λ (bad : 118 ≡ 98). omega (arith, bad)) e

verify_no_trace : codes "verify" ≡ codes "trace" → ⊥
verify_no_trace e = firsts_apart _ _ (λ (bad : 118 ≡ 116). omega (arith, bad)) e

verify_no_serve : codes "verify" ≡ codes "serve" → ⊥
verify_no_serve e = firsts_apart _ _ (λ (bad : 118 ≡ 115). omega (arith, bad)) e

verify_no_keep : codes "verify" ≡ codes "keep" → ⊥
verify_no_keep e = firsts_apart _ _ (λ (bad : 118 ≡ 107). omega (arith, bad)) e

verify_no_backup : codes "verify" ≡ codes "backup" → ⊥
verify_no_backup e = firsts_apart _ _ (λ (bad : 118 ≡ 98). omega (arith, bad)) e

backup_no_batch : codes "backup" ≡ codes "batch" → ⊥
backup_no_batch e = let bad : 99 ≡ 116 = ap (λ (t : Text). slice_index t 2) e in omega (arith, bad)

backup_no_trace : codes "backup" ≡ codes "trace" → ⊥
backup_no_trace e = firsts_apart _ _ (λ (bad : 98 ≡ 116). omega (arith, bad)) e

backup_no_serve : codes "backup" ≡ codes "serve" → ⊥
backup_no_serve e = firsts_apart _ _ (λ (bad : 98 ≡ 115). omega (arith, bad)) e

backup_no_keep : codes "backup" ≡ codes "keep" → ⊥
backup_no_keep e = firsts_apart _ _ (λ (bad : 98 ≡ 107). omega (arith, bad)) e

extend_no_batch : codes "extend" ≡ codes "batch" → ⊥
extend_no_batch e = firsts_apart _ _ (λ (bad : 101 ≡ 98). omega (arith, bad)) e

extend_no_trace : codes "extend" ≡ codes "trace" → ⊥
extend_no_trace e = firsts_apart _ _ (λ (bad : 101 ≡ 116). omega (arith, bad)) e

extend_no_serve : codes "extend" ≡ codes "serve" → ⊥
extend_no_serve e = firsts_apart _ _ (λ (bad : 101 ≡ 115). omega (arith, bad)) e

extend_no_keep : codes "extend" ≡ codes "keep" → ⊥
extend_no_keep e = firsts_apart _ _ (λ (bad : 101 ≡ 107). omega (arith, bad)) e

extend_no_verify : codes "extend" ≡ codes "verify" → ⊥
extend_no_verify e = firsts_apart _ _ (λ (bad : 101 ≡ 118). omega (arith, bad)) e

extend_no_backup : codes "extend" ≡ codes "backup" → ⊥
extend_no_backup e = firsts_apart _ _ (λ (bad : 101 ≡ 98). omega (arith, bad)) e

roll_no_batch : codes "roll" ≡ codes "batch" → ⊥
roll_no_batch e = firsts_apart _ _ (λ (bad : 114 ≡ 98). omega (arith, bad)) e

roll_no_trace : codes "roll" ≡ codes "trace" → ⊥
roll_no_trace e = firsts_apart _ _ (λ (bad : 114 ≡ 116). omega (arith, bad)) e

roll_no_serve : codes "roll" ≡ codes "serve" → ⊥
roll_no_serve e = firsts_apart _ _ (λ (bad : 114 ≡ 115). omega (arith, bad)) e

roll_no_keep : codes "roll" ≡ codes "keep" → ⊥
roll_no_keep e = firsts_apart _ _ (λ (bad : 114 ≡ 107). omega (arith, bad)) e

roll_no_verify : codes "roll" ≡ codes "verify" → ⊥
roll_no_verify e = firsts_apart _ _ (λ (bad : 114 ≡ 118). omega (arith, bad)) e

roll_no_backup : codes "roll" ≡ codes "backup" → ⊥
roll_no_backup e = firsts_apart _ _ (λ (bad : 114 ≡ 98). omega (arith, bad)) e

roll_no_extend : codes "roll" ≡ codes "extend" → ⊥
roll_no_extend e = firsts_apart _ _ (λ (bad : 114 ≡ 101). omega (arith, bad)) e

statement_no_batch : codes "statement" ≡ codes "batch" → ⊥
statement_no_batch e = firsts_apart _ _ (λ (bad : 115 ≡ 98). omega (arith, bad)) e

statement_no_trace : codes "statement" ≡ codes "trace" → ⊥
statement_no_trace e = firsts_apart _ _ (λ (bad : 115 ≡ 116). omega (arith, bad)) e

statement_no_serve : codes "statement" ≡ codes "serve" → ⊥
statement_no_serve e = let bad : 116 ≡ 101 = ap (λ (t : Text). slice_index t 1) e in omega (arith, bad)

statement_no_keep : codes "statement" ≡ codes "keep" → ⊥
statement_no_keep e = firsts_apart _ _ (λ (bad : 115 ≡ 107). omega (arith, bad)) e

statement_no_verify : codes "statement" ≡ codes "verify" → ⊥
statement_no_verify e = firsts_apart _ _ (λ (bad : 115 ≡ 118). omega (arith, bad)) e

statement_no_backup : codes "statement" ≡ codes "backup" → ⊥
statement_no_backup e = firsts_apart _ _ (λ (bad : 115 ≡ 98). omega (arith, bad)) e

statement_no_extend : codes "statement" ≡ codes "extend" → ⊥
statement_no_extend e = firsts_apart _ _ (λ (bad : 115 ≡ 101). omega (arith, bad)) e

statement_no_roll : codes "statement" ≡ codes "roll" → ⊥
statement_no_roll e = firsts_apart _ _ (λ (bad : 115 ≡ 114). omega (arith, bad)) e

serve_no_trace : codes "serve" ≡ codes "trace" → ⊥
serve_no_trace e = let bad : 115 ≡ 116 = ap (λ (t : Text). slice_index t 0) e in omega (arith, bad)

pub asks_batch : (command path : Text) (given : Text → Option Text) (told : List Text) (l : Line)
    → command ≡ codes "batch"
    → given (codes "HOUSE") ≡ Some path → IsLineOf command given told l → AsksForBatch path l
asks_batch command path given told (Batch file) c h k = same_in_some _ _ (sym k.1 ∙ h)
asks_batch command path given told (Trace file number) c h k = absurd (apart (sym k.0 ∙ c))
asks_batch command path given told (Serve file port workers connections) c h k = absurd (serve_apart (sym k.0 ∙ c))
asks_batch command path given told (Keep file journal port workers connections options) c h k =
    absurd (keep_no_batch (sym k.0 ∙ c))
asks_batch command path given told (Verify file look) c h k = absurd (verify_no_batch (sym k.0 ∙ c))
asks_batch command path given told (Backup journal to) c h k = absurd (backup_no_batch (sym k.0 ∙ c))
asks_batch command path given told (Extend file paths) c h k = absurd (extend_no_batch (sym k.0 ∙ c))
asks_batch command path given told (Roll file rolling) c h k = absurd (roll_no_batch (sym k.0 ∙ c))
asks_batch command path given told (Statement stating) c h k = absurd (statement_no_batch (sym k.0 ∙ c))

pub asks_trace : (command path : Text) (given : Text → Option Text) (told : List Text) (trade : Option ℕ) (l : Line)
    → command ≡ codes "trace" → given (codes "HOUSE") ≡ Some path → trade_meant (given (codes "N")) ≡ Some trade
    → IsLineOf command given told l → AsksForTrace path trade l
asks_trace command path given told trade (Batch file) c h t k = absurd (apart (sym c ∙ k.0))
asks_trace command path given told trade (Trace file number) c h t k =
    (same_in_some _ _ (sym k.1 ∙ h), same_number _ _ (sym k.2 ∙ t))
asks_trace command path given told trade (Serve file port workers connections) c h t k =
    absurd (serve_no_trace (sym k.0 ∙ c))
asks_trace command path given told trade (Keep file journal port workers connections options) c h t k =
    absurd (keep_no_trace (sym k.0 ∙ c))
asks_trace command path given told trade (Verify file look) c h t k =
    absurd (verify_no_trace (sym k.0 ∙ c))
asks_trace command path given told trade (Backup journal to) c h t k = absurd (backup_no_trace (sym k.0 ∙ c))
asks_trace command path given told trade (Extend file paths) c h t k = absurd (extend_no_trace (sym k.0 ∙ c))
asks_trace command path given told trade (Roll file rolling) c h t k = absurd (roll_no_trace (sym k.0 ∙ c))
asks_trace command path given told trade (Statement stating) c h t k =
    absurd (statement_no_trace (sym k.0 ∙ c))

pub asks_serve : (command path : Text) (given : Text → Option Text) (told : List Text) (port : ℕ) (l : Line)
    → command ≡ codes "serve"
    → given (codes "HOUSE") ≡ Some path → port_meant (given (codes "PORT")) ≡ Some port → given (codes "WORKERS") ≡ None
    → given (codes "COUNT") ≡ None → IsLineOf command given told l → AsksToServe path port 4 0 l
asks_serve command path given told port (Batch file) c h p w n k = absurd (serve_apart (sym c ∙ k.0))
asks_serve command path given told port (Trace file number) c h p w n k = absurd (serve_no_trace (sym c ∙ k.0))
asks_serve command path given told port (Serve file at workers connections) c h p w n k = (
  same_in_some _ _ (sym k.1 ∙ h),
  same_count _ _ (sym k.2 ∙ p),
  same_count _ _ (sym k.3 ∙ ap workers_meant w),
  same_count _ _ (sym k.4 ∙ ap connections_meant n),
)
asks_serve command path given told port (Keep file journal at workers connections options) c h p w n k =
    absurd (keep_no_serve (sym k.0 ∙ c))
asks_serve command path given told port (Verify file look) c h p w n k =
    absurd (verify_no_serve (sym k.0 ∙ c))
asks_serve command path given told port (Backup journal to) c h p w n k = absurd (backup_no_serve (sym k.0 ∙ c))
asks_serve command path given told port (Extend file paths) c h p w n k = absurd (extend_no_serve (sym k.0 ∙ c))
asks_serve command path given told port (Roll file rolling) c h p w n k = absurd (roll_no_serve (sym k.0 ∙ c))
asks_serve command path given told port (Statement stating) c h p w n k =
    absurd (statement_no_serve (sym k.0 ∙ c))

-- no word was given where none is found
none_found : {A : Type 0} (f : A → Text) (r : Option A) → option_map f r ≡ None → r ≡ None
none_found f None e = refl
none_found f (Some s) e = absurd cc

-- limits that mean the same words are the same
same_limits : (l m : Limits) (given : Text → Option Text) → AreLimitsOf given l → AreLimitsOf given m → l ≡ m
same_limits l m given k n =
    let entries = same_number _ _ (sym k.0 ∙ n.0) in
    let parts = same_number _ _ (sym k.1 ∙ n.1) in
    let reserve = same_number _ _ (sym k.2 ∙ n.2) in
    let memory = same_number _ _ (sym k.3 ∙ n.3) in
    let rate = same_number _ _ (sym k.4 ∙ n.4) in
    let per_firm = same_number _ _ (sym k.5 ∙ n.5) in
    let held = same_number _ _ (sym k.6 ∙ n.6) in
    ap (λ x. record l { most_entries = x }) entries
    ∙ ap (λ x. record l { most_entries = m.most_entries; most_parts = x }) parts
    ∙ ap (λ x. record l { most_entries = m.most_entries; most_parts = m.most_parts; reserve = x }) reserve
    ∙ ap (λ x. record m { memory = x; rate = l.rate; per_firm = l.per_firm; held = l.held }) memory
    ∙ ap (λ x. record m { rate = x; per_firm = l.per_firm; held = l.held }) rate
    ∙ ap (λ x. record m { per_firm = x; held = l.held }) per_firm ∙ ap (λ x. record m { held = x }) held

-- a book that means the same words as none is none
no_book_given : (book : NamedBook) (given : Text → Option Text) → IsBookOf given book → IsBookOf given no_book
    → book ≡ no_book
no_book_given book given k n =
    let name = none_found _ book.name (same_text _ _ (sym k.0 ∙ n.0)) in
    let asked = same_flag _ _ (sym k.1 ∙ n.1) in
    ap (λ x. record book { name = x }) name ∙ ap (λ x. record no_book { is_asked = x }) asked

-- and so are the options, where none was given
no_options_given : (options : KeepOptions) (given : Text → Option Text) (told : List Text) → told ≡ []
    → AreOptionsOf given told options → AreOptionsOf given told no_options → options ≡ no_options
no_options_given options given told t k n =
    let replica = none_found _ options.replica (sym k.0 ∙ n.0) in
    let limits = same_limits options.limits no_options.limits given k.1 n.1 in
    let places : ArePlaces [] options.status options.more_status =
    subst (λ (x : List Text). ArePlaces x options.status options.more_status) t k.2 in
    let log_calls = sym k.3 ∙ n.3 in
    let book = no_book_given options.book given k.4 n.4 in
    let archive = none_found _ options.archive (sym k.5 ∙ n.5) in
    ap (λ x. record options { replica = x }) replica
    ∙ ap (λ x. record options { replica = None; limits = x }) limits
    ∙ ap (λ x. record no_options {
      status = x;
      more_status = options.more_status;
      log_calls = options.log_calls;
      book = options.book;
      archive = options.archive;
    }) places.0
    ∙ ap (λ x. record no_options {
      more_status = x;
      log_calls = options.log_calls;
      book = options.book;
      archive = options.archive;
    }) places.1
    ∙ ap (λ x. record no_options { log_calls = x; book = options.book; archive = options.archive }) log_calls
    ∙ ap (λ x. record no_options { book = x; archive = options.archive }) book
    ∙ ap (λ x. record no_options { archive = x }) archive

pub asks_keep : (command path file : Text) (given : Text → Option Text) (told : List Text) (port : ℕ) (l : Line)
    → command ≡ codes "keep"
    → given (codes "HOUSE") ≡ Some path → given (codes "JOURNAL") ≡ Some file
    → port_meant (given (codes "PORT")) ≡ Some port → given (codes "WORKERS") ≡ None
    → given (codes "COUNT") ≡ None → told ≡ [] → AreOptionsOf given told no_options → IsLineOf command given told l
    → AsksToKeep path file port 4 0 l
asks_keep command path file given told port (Batch house) c h j p w n t r k = absurd (keep_no_batch (sym c ∙ k.0))
asks_keep command path file given told port (Trace house number) c h j p w n t r k =
    absurd (keep_no_trace (sym c ∙ k.0))
asks_keep command path file given told port (Serve house at workers connections) c h j p w n t r k =
    absurd (keep_no_serve (sym c ∙ k.0))
asks_keep command path file given told port (Keep house journal at workers connections options) c h j p w n t r k = (
  same_in_some _ _ (sym k.1 ∙ h),
  same_in_some _ _ (sym k.2 ∙ j),
  same_count _ _ (sym k.3 ∙ p),
  same_count _ _ (sym k.4 ∙ ap workers_meant w),
  same_count _ _ (sym k.5 ∙ ap connections_meant n),
  no_options_given options given told t k.6 r,
)
asks_keep command path file given told port (Verify house look) c h j p w n t r k =
    absurd (verify_no_keep (sym k.0 ∙ c))
asks_keep command path file given told port (Backup journal to) c h j p w n t r k =
    absurd (backup_no_keep (sym k.0 ∙ c))
asks_keep command path file given told port (Extend house paths) c h j p w n t r k =
    absurd (extend_no_keep (sym k.0 ∙ c))
asks_keep command path file given told port (Roll house rolling) c h j p w n t r k =
    absurd (roll_no_keep (sym k.0 ∙ c))
asks_keep command path file given told port (Statement stating) c h j p w n t r k =
    absurd (statement_no_keep (sym k.0 ∙ c))

pub asks_verify : (command path file : Text) (given : Text → Option Text) (told : List Text) (l : Line)
    → command ≡ codes "verify" → given (codes "HOUSE") ≡ Some path → given (codes "JOURNAL") ≡ Some file
    → given (codes "TOTALS") ≡ Some (codes "false") → given (codes "N") ≡ None → IsLineOf command given told l
    → AsksToVerify path file l
asks_verify command path file given told (Verify house look) c h j t n k = (
  same_in_some _ _ (sym k.1 ∙ h),
  same_in_some _ _ (sym k.2 ∙ j),
  sym k.3 ∙ ap flag_meant t,
  same_number _ _ (sym k.4 ∙ ap trade_meant n),
)
asks_verify command path file given told (Batch house) c h j t n k = absurd (verify_no_batch (sym c ∙ k.0))
asks_verify command path file given told (Trace house number) c h j t n k = absurd (verify_no_trace (sym c ∙ k.0))
asks_verify command path file given told (Serve house at workers connections) c h j t n k =
    absurd (verify_no_serve (sym c ∙ k.0))
asks_verify command path file given told (Keep house journal at workers connections options) c h j t n k =
    absurd (verify_no_keep (sym c ∙ k.0))
asks_verify command path file given told (Backup journal to) c h j t n k = absurd (verify_no_backup (sym c ∙ k.0))
asks_verify command path file given told (Extend house paths) c h j t n k = absurd (extend_no_verify (sym k.0 ∙ c))
asks_verify command path file given told (Roll house rolling) c h j t n k = absurd (roll_no_verify (sym k.0 ∙ c))
asks_verify command path file given told (Statement stating) c h j t n k =
    absurd (statement_no_verify (sym k.0 ∙ c))

pub asks_backup : (command file copy : Text) (given : Text → Option Text) (told : List Text) (l : Line)
    → command ≡ codes "backup" → given (codes "JOURNAL") ≡ Some file → given (codes "TO") ≡ Some copy
    → IsLineOf command given told l → AsksToBackUp file copy l
asks_backup command file copy given told (Backup journal to) c j t k =
    (same_in_some _ _ (sym k.1 ∙ j), same_in_some _ _ (sym k.2 ∙ t))
asks_backup command file copy given told (Batch house) c j t k = absurd (backup_no_batch (sym c ∙ k.0))
asks_backup command file copy given told (Trace house number) c j t k = absurd (backup_no_trace (sym c ∙ k.0))
asks_backup command file copy given told (Serve house at workers connections) c j t k =
    absurd (backup_no_serve (sym c ∙ k.0))
asks_backup command file copy given told (Keep house journal at workers connections options) c j t k =
    absurd (backup_no_keep (sym c ∙ k.0))
asks_backup command file copy given told (Verify house look) c j t k =
    absurd (verify_no_backup (sym k.0 ∙ c))
asks_backup command file copy given told (Extend house paths) c j t k =
    absurd (extend_no_backup (sym k.0 ∙ c))
asks_backup command file copy given told (Roll house rolling) c j t k = absurd (roll_no_backup (sym k.0 ∙ c))
asks_backup command file copy given told (Statement stating) c j t k =
    absurd (statement_no_backup (sym k.0 ∙ c))

pub asks_extend : (command path file larger copy : Text) (given : Text → Option Text) (told : List Text) (l : Line)
    → command ≡ codes "extend" → given (codes "HOUSE") ≡ Some path → given (codes "JOURNAL") ≡ Some file
    → given (codes "NEWHOUSE") ≡ Some larger → given (codes "TO") ≡ Some copy → IsLineOf command given told l
    → AsksToExtend path file larger copy l
asks_extend command path file larger copy given told (Extend house paths) c h j n t k = (
  same_in_some _ _ (sym k.1 ∙ h),
  same_in_some _ _ (sym k.2 ∙ j),
  same_in_some _ _ (sym k.3 ∙ n),
  same_in_some _ _ (sym k.4 ∙ t),
)
asks_extend command path file larger copy given told (Batch house) c h j n t k =
    absurd (extend_no_batch (sym c ∙ k.0))
asks_extend command path file larger copy given told (Trace house number) c h j n t k =
    absurd (extend_no_trace (sym c ∙ k.0))
asks_extend command path file larger copy given told (Serve house at workers connections) c h j n t k =
    absurd (extend_no_serve (sym c ∙ k.0))
asks_extend command path file larger copy given told (Keep house journal at workers connections options) c h j n t k =
    absurd (extend_no_keep (sym c ∙ k.0))
asks_extend command path file larger copy given told (Verify house look) c h j n t k =
    absurd (extend_no_verify (sym c ∙ k.0))
asks_extend command path file larger copy given told (Backup journal to) c h j n t k =
    absurd (extend_no_backup (sym c ∙ k.0))
asks_extend command path file larger copy given told (Roll house rolling) c h j n t k =
    absurd (roll_no_extend (sym k.0 ∙ c))
asks_extend command path file larger copy given told (Statement stating) c h j n t k =
    absurd (statement_no_extend (sym k.0 ∙ c))

pub asks_roll : (command path file larger copy : Text) (given : Text → Option Text) (told : List Text) (l : Line)
    → command ≡ codes "roll" → given (codes "HOUSE") ≡ Some path → given (codes "JOURNAL") ≡ Some file
    → given (codes "NEWHOUSE") ≡ Some larger → given (codes "TO") ≡ Some copy
    → given (codes "OPEN") ≡ Some (codes "false") → given (codes "FILE") ≡ None → IsLineOf command given told l
    → AsksToRoll path file larger copy l
asks_roll command path file larger copy given told (Roll house rolling) c h j n t o m k = (
  same_in_some _ _ (sym k.1 ∙ h),
  same_in_some _ _ (sym k.2 ∙ j),
  same_in_some _ _ (sym k.3 ∙ n),
  same_in_some _ _ (sym k.4 ∙ t),
  sym k.5 ∙ ap flag_meant o,
  none_found _ rolling.map (sym k.6 ∙ m),
)
asks_roll command path file larger copy given told (Batch house) c h j n t o m k =
    absurd (roll_no_batch (sym c ∙ k.0))
asks_roll command path file larger copy given told (Trace house number) c h j n t o m k =
    absurd (roll_no_trace (sym c ∙ k.0))
asks_roll command path file larger copy given told (Serve house at workers connections) c h j n t o m k =
    absurd (roll_no_serve (sym c ∙ k.0))
asks_roll command path file larger copy given told (Keep house journal at workers connections options) c h j n t o m k =
    absurd (roll_no_keep (sym c ∙ k.0))
asks_roll command path file larger copy given told (Verify house look) c h j n t o m k =
    absurd (roll_no_verify (sym c ∙ k.0))
asks_roll command path file larger copy given told (Backup journal to) c h j n t o m k =
    absurd (roll_no_backup (sym c ∙ k.0))
asks_roll command path file larger copy given told (Extend house paths) c h j n t o m k =
    absurd (roll_no_extend (sym c ∙ k.0))
asks_roll command path file larger copy given told (Statement stating) c h j n t o m k =
    absurd (statement_no_roll (sym k.0 ∙ c))

pub asks_statement : (command path : Text) (given : Text → Option Text) (told : List Text) (l : Line)
    → command ≡ codes "statement" → given (codes "HOUSE") ≡ Some path → given (codes "FIRM") ≡ None
    → given (codes "JOURNAL") ≡ None → IsLineOf command given told l → AsksForStatement path l
asks_statement command path given told (Statement stating) c h f j k = (
  same_in_some _ _ (sym k.1 ∙ h),
  none_found _ stating.firm (sym k.2 ∙ f),
  none_found _ stating.journal (sym k.3 ∙ j),
)
asks_statement command path given told (Batch house) c h f j k = absurd (statement_no_batch (sym c ∙ k.0))
asks_statement command path given told (Trace house number) c h f j k = absurd (statement_no_trace (sym c ∙ k.0))
asks_statement command path given told (Serve house at workers connections) c h f j k =
    absurd (statement_no_serve (sym c ∙ k.0))
asks_statement command path given told (Keep house journal at workers connections options) c h f j k =
    absurd (statement_no_keep (sym c ∙ k.0))
asks_statement command path given told (Verify house look) c h f j k = absurd (statement_no_verify (sym c ∙ k.0))
asks_statement command path given told (Backup journal to) c h f j k = absurd (statement_no_backup (sym c ∙ k.0))
asks_statement command path given told (Extend house paths) c h f j k = absurd (statement_no_extend (sym c ∙ k.0))
asks_statement command path given told (Roll house rolling) c h f j k = absurd (statement_no_roll (sym c ∙ k.0))

-- ---- what comes of it

abbrev Reading : Type 0
Reading = Result Line Fault

by_both : (r : Reading) (P : Line → Type 0) (Q : Fault → Type 0) → IfOk r P → IfErr r Q → MatchResult r P Q
by_both (Ok l) P Q h k = h
by_both (Err e) P Q h k = k

-- each line is read
pub batch_read : (r : Reading) (words : List Text) (name path : Text) (given : Text → Option Text) (told : List Text)
    → words ≡ batch_line path → is_plain path ≡ true → command_in words ≡ Some name
    → ((id : Text) → given id ≡ word_for words id) → IfOk r (IsLineOf name given told)
    → (name ≡ codes "batch" → is_some (given (codes "HOUSE")) ≡ true → IfErr r (λ e. e ≡ no_memory))
    → MatchResult r (AsksForBatch path) (λ e. e ≡ no_memory)
batch_read r words name path given told e plain named_so given_so read fails =
    let met = batch_met path plain in
    let name_is : name ≡ codes "batch" = same_in_some _ _ (sym named_so ∙ ap command_in e ∙ met.0) in
    let house_is : given (codes "HOUSE") ≡ Some path = given_so (codes "HOUSE") ∙ ap house_in e ∙ met.1 in
    by_both r _ _ (IfOk-weaker r _ _ (λ l h. asks_batch name path given told l name_is house_is h) read)
    (fails name_is (ap is_some house_is))

pub totals_read : (r : Reading) (words : List Text) (name path : Text) (given : Text → Option Text) (told : List Text)
    → words ≡ totals_line path → is_plain path ≡ true → command_in words ≡ Some name
    → ((id : Text) → given id ≡ word_for words id) → IfOk r (IsLineOf name given told)
    → (name ≡ codes "trace" → is_some (given (codes "HOUSE")) ≡ true → is_some (trade_meant (given (codes "N"))) ≡ true
    → IfErr r (λ e. e ≡ no_memory))
    → MatchResult r (AsksForTrace path None) (λ e. e ≡ no_memory)
totals_read r words name path given told e plain named_so given_so read fails =
    let met = totals_met path plain in
    let name_is : name ≡ codes "trace" = same_in_some _ _ (sym named_so ∙ ap command_in e ∙ met.0) in
    let house_is : given (codes "HOUSE") ≡ Some path = given_so (codes "HOUSE") ∙ ap house_in e ∙ met.1 in
    let meant : trade_meant (given (codes "N")) ≡ Some None =
    ap trade_meant (given_so (codes "N") ∙ ap trade_in e ∙ met.2) in
    by_both r _ _ (IfOk-weaker r _ _ (λ l h. asks_trace name path given told None l name_is house_is meant h) read)
    (fails name_is (ap is_some house_is) (ap is_some meant))

pub trace_read : (r : Reading) (words : List Text) (name path word : Text) (number : ℕ) (given : Text → Option Text)
    (told : List Text)
    → words ≡ trace_line path word → is_plain path ≡ true → is_plain word ≡ true → entry_of word ≡ Some number
    → command_in words ≡ Some name → ((id : Text) → given id ≡ word_for words id) → IfOk r (IsLineOf name given told)
    → (name ≡ codes "trace" → is_some (given (codes "HOUSE")) ≡ true → is_some (trade_meant (given (codes "N"))) ≡ true
    → IfErr r (λ e. e ≡ no_memory))
    → MatchResult r (AsksForTrace path (Some number)) (λ e. e ≡ no_memory)
trace_read r words name path word number given told e plain plain_word number_is named_so given_so read fails =
    let met = trace_met path word plain plain_word in
    let name_is : name ≡ codes "trace" = same_in_some _ _ (sym named_so ∙ ap command_in e ∙ met.0) in
    let house_is : given (codes "HOUSE") ≡ Some path = given_so (codes "HOUSE") ∙ ap house_in e ∙ met.1 in
    let meant : trade_meant (given (codes "N")) ≡ Some (Some number) =
    ap trade_meant (given_so (codes "N") ∙ ap trade_in e ∙ met.2) ∙ ap (option_map Some) number_is in
    by_both r _ _
    (IfOk-weaker r _ _ (λ l h. asks_trace name path given told (Some number) l name_is house_is meant h) read)
    (fails name_is (ap is_some house_is) (ap is_some meant))

pub serve_read : (r : Reading) (words : List Text) (name path word : Text) (port : ℕ) (given : Text → Option Text)
    (told : List Text)
    → words ≡ serve_line path word → is_plain path ≡ true → is_plain word ≡ true → port_meant (Some word) ≡ Some port
    → command_in words ≡ Some name → ((id : Text) → given id ≡ word_for words id) → IfOk r (IsLineOf name given told)
    → (name ≡ codes "serve" → is_some (given (codes "HOUSE")) ≡ true
    → is_some (port_meant (given (codes "PORT"))) ≡ true → is_some (workers_meant (given (codes "WORKERS"))) ≡ true
    → is_some (connections_meant (given (codes "COUNT"))) ≡ true → IfErr r (λ e. e ≡ no_memory))
    → MatchResult r (AsksToServe path port 4 0) (λ e. e ≡ no_memory)
serve_read r words name path word port given told e plain plain_word port_is named_so given_so read fails =
    let met = serve_met path word plain plain_word in
    let name_is : name ≡ codes "serve" = same_in_some _ _ (sym named_so ∙ ap command_in e ∙ met.0) in
    let house_is : given (codes "HOUSE") ≡ Some path = given_so (codes "HOUSE") ∙ ap house_in e ∙ met.1 in
    let meant : port_meant (given (codes "PORT")) ≡ Some port =
    ap port_meant (given_so (codes "PORT") ∙ ap port_in e ∙ met.2) ∙ port_is in
    let usual : given (codes "WORKERS") ≡ None = given_so (codes "WORKERS") ∙ ap workers_in e ∙ met.3 in
    let endless : given (codes "COUNT") ≡ None = given_so (codes "COUNT") ∙ ap connections_in e ∙ met.4 in
    by_both r _ _
    (IfOk-weaker r _ _ (λ l h. asks_serve name path given told port l name_is house_is meant usual endless h) read)
    (fails name_is (ap is_some house_is) (ap is_some meant) (ap (λ (o : Option Text). is_some (workers_meant o)) usual)
    (ap (λ (o : Option Text). is_some (connections_meant o)) endless))

pub keep_read : (r : Reading) (words : List Text) (name path file word : Text) (port : ℕ) (given : Text → Option Text)
    (told : List Text)
    → words ≡ keep_line path file word → is_plain path ≡ true → is_plain file ≡ true → is_plain word ≡ true
    → port_meant (Some word) ≡ Some port → command_in words ≡ Some name → ((id : Text) → given id ≡ word_for words id)
    → told ≡ told_in words → IfOk r (IsLineOf name given told)
    → (name ≡ codes "keep" → is_some (given (codes "HOUSE")) ≡ true → is_some (given (codes "JOURNAL")) ≡ true
    → is_some (port_meant (given (codes "PORT"))) ≡ true → is_some (workers_meant (given (codes "WORKERS"))) ≡ true
    → is_some (connections_meant (given (codes "COUNT"))) ≡ true → AreMeant given told (IfErr r (λ e. e ≡ no_memory)))
    → MatchResult r (AsksToKeep path file port 4 0) (λ e. e ≡ no_memory)
keep_read r words name path file word port given told e plain plain_file plain_word port_is named_so given_so told_so
    read fails =
    let met = keep_met path file word plain plain_file plain_word in
    let name_is : name ≡ codes "keep" = same_in_some _ _ (sym named_so ∙ ap command_in e ∙ met.0) in
    let house_is : given (codes "HOUSE") ≡ Some path = given_so (codes "HOUSE") ∙ ap house_in e ∙ met.1 in
    let journal_is : given (codes "JOURNAL") ≡ Some file = given_so (codes "JOURNAL") ∙ ap journal_in e ∙ met.2 in
    let meant : port_meant (given (codes "PORT")) ≡ Some port =
    ap port_meant (given_so (codes "PORT") ∙ ap port_in e ∙ met.3) ∙ port_is in
    let usual : given (codes "WORKERS") ≡ None = given_so (codes "WORKERS") ∙ ap workers_in e ∙ met.4 in
    let endless : given (codes "COUNT") ≡ None = given_so (codes "COUNT") ∙ ap connections_in e ∙ met.5 in
    let none : AreOptionsOf given told no_options =
    same_meaning given (word_for words) told (told_in words) no_options given_so told_so
    (subst (λ (w : List Text). AreOptionsOf (word_for w) (told_in w) no_options) (sym e) met.6) in
    let untold : told ≡ [] = told_so ∙ ap told_in e ∙ none_told path file word plain plain_file plain_word in
    by_both r _ _
    (IfOk-weaker r _ _
    (λ l h. asks_keep name path file given told port l name_is house_is journal_is meant usual endless untold none h)
    read)
    (meant_so given told no_options _ none
    (fails name_is (ap is_some house_is) (ap is_some journal_is) (ap is_some meant)
    (ap (λ (o : Option Text). is_some (workers_meant o)) usual)
    (ap (λ (o : Option Text). is_some (connections_meant o)) endless)))

pub verify_read : (r : Reading) (words : List Text) (name path file : Text) (given : Text → Option Text)
    (told : List Text)
    → words ≡ verify_line path file → is_plain path ≡ true → is_plain file ≡ true → command_in words ≡ Some name
    → ((id : Text) → given id ≡ word_for words id) → IfOk r (IsLineOf name given told)
    → (name ≡ codes "verify" → is_some (given (codes "HOUSE")) ≡ true → is_some (given (codes "JOURNAL")) ≡ true
    → is_some (trade_meant (given (codes "N"))) ≡ true → IfErr r (λ e. e ≡ no_memory))
    → MatchResult r (AsksToVerify path file) (λ e. e ≡ no_memory)
verify_read r words name path file given told e plain plain_file named_so given_so read fails =
    let met = verify_met path file plain plain_file in
    let name_is : name ≡ codes "verify" = same_in_some _ _ (sym named_so ∙ ap command_in e ∙ met.0) in
    let house_is : given (codes "HOUSE") ≡ Some path = given_so (codes "HOUSE") ∙ ap house_in e ∙ met.1 in
    let journal_is : given (codes "JOURNAL") ≡ Some file = given_so (codes "JOURNAL") ∙ ap journal_in e ∙ met.2 in
    let flag_is : given (codes "TOTALS") ≡ Some (codes "false") =
    given_so (codes "TOTALS") ∙ ap totals_in e ∙ met.3 in
    let none : given (codes "N") ≡ None = given_so (codes "N") ∙ ap trade_in e ∙ met.4 in
    by_both r _ _
    (IfOk-weaker r _ _
    (λ l h. asks_verify name path file given told l name_is house_is journal_is flag_is none h) read)
    (fails name_is (ap is_some house_is) (ap is_some journal_is)
    (ap (λ (o : Option Text). is_some (trade_meant o)) none))

pub backup_read : (r : Reading) (words : List Text) (name file copy : Text) (given : Text → Option Text)
    (told : List Text)
    → words ≡ backup_line file copy → is_plain file ≡ true → is_plain copy ≡ true → command_in words ≡ Some name
    → ((id : Text) → given id ≡ word_for words id) → IfOk r (IsLineOf name given told)
    → (name ≡ codes "backup" → is_some (given (codes "JOURNAL")) ≡ true → is_some (given (codes "TO")) ≡ true
    → IfErr r (λ e. e ≡ no_memory))
    → MatchResult r (AsksToBackUp file copy) (λ e. e ≡ no_memory)
backup_read r words name file copy given told e plain plain_copy named_so given_so read fails =
    let met = backup_met file copy plain plain_copy in
    let name_is : name ≡ codes "backup" = same_in_some _ _ (sym named_so ∙ ap command_in e ∙ met.0) in
    let journal_is : given (codes "JOURNAL") ≡ Some file = given_so (codes "JOURNAL") ∙ ap journal_in e ∙ met.1 in
    let copy_is : given (codes "TO") ≡ Some copy = given_so (codes "TO") ∙ ap copy_in e ∙ met.2 in
    by_both r _ _
    (IfOk-weaker r _ _ (λ l h. asks_backup name file copy given told l name_is journal_is copy_is h) read)
    (fails name_is (ap is_some journal_is) (ap is_some copy_is))

pub extend_read : (r : Reading) (words : List Text) (name path file larger copy : Text) (given : Text → Option Text)
    (told : List Text)
    → words ≡ extend_line path file larger copy → is_plain path ≡ true → is_plain file ≡ true
    → is_plain larger ≡ true → is_plain copy ≡ true → command_in words ≡ Some name
    → ((id : Text) → given id ≡ word_for words id) → IfOk r (IsLineOf name given told)
    → (name ≡ codes "extend" → is_some (given (codes "HOUSE")) ≡ true → is_some (given (codes "JOURNAL")) ≡ true
    → is_some (given (codes "NEWHOUSE")) ≡ true → is_some (given (codes "TO")) ≡ true → IfErr r (λ e. e ≡ no_memory))
    → MatchResult r (AsksToExtend path file larger copy) (λ e. e ≡ no_memory)
extend_read r words name path file larger copy given told e plain plain_file plain_larger plain_copy named_so given_so
    read fails =
    let met = extend_met path file larger copy plain plain_file plain_larger plain_copy in
    let name_is : name ≡ codes "extend" = same_in_some _ _ (sym named_so ∙ ap command_in e ∙ met.0) in
    let house_is : given (codes "HOUSE") ≡ Some path = given_so (codes "HOUSE") ∙ ap house_in e ∙ met.1 in
    let journal_is : given (codes "JOURNAL") ≡ Some file = given_so (codes "JOURNAL") ∙ ap journal_in e ∙ met.2 in
    let larger_is : given (codes "NEWHOUSE") ≡ Some larger = given_so (codes "NEWHOUSE") ∙ ap larger_in e ∙ met.3 in
    let copy_is : given (codes "TO") ≡ Some copy = given_so (codes "TO") ∙ ap copy_in e ∙ met.4 in
    by_both r _ _
    (IfOk-weaker r _ _
    (λ l h. asks_extend name path file larger copy given told l name_is house_is journal_is larger_is copy_is h) read)
    (fails name_is (ap is_some house_is) (ap is_some journal_is) (ap is_some larger_is) (ap is_some copy_is))

pub roll_read : (r : Reading) (words : List Text) (name path file larger copy : Text) (given : Text → Option Text)
    (told : List Text)
    → words ≡ roll_line path file larger copy → is_plain path ≡ true → is_plain file ≡ true
    → is_plain larger ≡ true → is_plain copy ≡ true → command_in words ≡ Some name
    → ((id : Text) → given id ≡ word_for words id) → IfOk r (IsLineOf name given told)
    → (name ≡ codes "roll" → is_some (given (codes "HOUSE")) ≡ true → is_some (given (codes "JOURNAL")) ≡ true
    → is_some (given (codes "NEWHOUSE")) ≡ true → is_some (given (codes "TO")) ≡ true → IfErr r (λ e. e ≡ no_memory))
    → MatchResult r (AsksToRoll path file larger copy) (λ e. e ≡ no_memory)
roll_read r words name path file larger copy given told e plain plain_file plain_larger plain_copy named_so given_so
    read fails =
    let met = roll_met path file larger copy plain plain_file plain_larger plain_copy in
    let name_is : name ≡ codes "roll" = same_in_some _ _ (sym named_so ∙ ap command_in e ∙ met.0) in
    let house_is : given (codes "HOUSE") ≡ Some path = given_so (codes "HOUSE") ∙ ap house_in e ∙ met.1 in
    let journal_is : given (codes "JOURNAL") ≡ Some file = given_so (codes "JOURNAL") ∙ ap journal_in e ∙ met.2 in
    let larger_is : given (codes "NEWHOUSE") ≡ Some larger = given_so (codes "NEWHOUSE") ∙ ap larger_in e ∙ met.3 in
    let copy_is : given (codes "TO") ≡ Some copy = given_so (codes "TO") ∙ ap copy_in e ∙ met.4 in
    let open_is : given (codes "OPEN") ≡ Some (codes "false") = given_so (codes "OPEN") ∙ ap open_in e ∙ met.5 in
    let map_is : given (codes "FILE") ≡ None = given_so (codes "FILE") ∙ ap map_in e ∙ met.6 in
    by_both r _ _
    (IfOk-weaker r _ _
    (λ l h. asks_roll name path file larger copy given told l name_is house_is journal_is larger_is copy_is open_is
    map_is h) read)
    (fails name_is (ap is_some house_is) (ap is_some journal_is) (ap is_some larger_is) (ap is_some copy_is))

pub statement_read : (r : Reading) (words : List Text) (name path : Text) (given : Text → Option Text)
    (told : List Text)
    → words ≡ statement_line path → is_plain path ≡ true → command_in words ≡ Some name
    → ((id : Text) → given id ≡ word_for words id) → IfOk r (IsLineOf name given told)
    → (name ≡ codes "statement" → is_some (given (codes "HOUSE")) ≡ true → IfErr r (λ e. e ≡ no_memory))
    → MatchResult r (AsksForStatement path) (λ e. e ≡ no_memory)
statement_read r words name path given told e plain named_so given_so read fails =
    let met = statement_met path plain in
    let name_is : name ≡ codes "statement" = same_in_some _ _ (sym named_so ∙ ap command_in e ∙ met.0) in
    let house_is : given (codes "HOUSE") ≡ Some path = given_so (codes "HOUSE") ∙ ap house_in e ∙ met.1 in
    let firm_is : given (codes "FIRM") ≡ None = given_so (codes "FIRM") ∙ ap firm_in e ∙ met.2 in
    let journal_is : given (codes "JOURNAL") ≡ None = given_so (codes "JOURNAL") ∙ ap journal_in e ∙ met.3 in
    by_both r _ _
    (IfOk-weaker r _ _ (λ l h. asks_statement name path given told l name_is house_is firm_is journal_is h) read)
    (fails name_is (ap is_some house_is))

-- a line that the parser finds in the words is told, unless memory runs out
pub line_read : (r : Reading) (words : List Text) (name : Text) (given : Text → Option Text) (told : List Text)
    (l : Line) → IsLine words l → command_in words ≡ Some name → ((id : Text) → given id ≡ word_for words id)
    → told ≡ told_in words
    → (name ≡ codes "batch" → is_some (given (codes "HOUSE")) ≡ true → IfErr r (λ e. e ≡ no_memory))
    → (name ≡ codes "trace" → is_some (given (codes "HOUSE")) ≡ true → is_some (trade_meant (given (codes "N"))) ≡ true
    → IfErr r (λ e. e ≡ no_memory))
    → (name ≡ codes "serve" → is_some (given (codes "HOUSE")) ≡ true
    → is_some (port_meant (given (codes "PORT"))) ≡ true → is_some (workers_meant (given (codes "WORKERS"))) ≡ true
    → is_some (connections_meant (given (codes "COUNT"))) ≡ true → IfErr r (λ e. e ≡ no_memory))
    → (name ≡ codes "keep" → is_some (given (codes "HOUSE")) ≡ true → is_some (given (codes "JOURNAL")) ≡ true
    → is_some (port_meant (given (codes "PORT"))) ≡ true → is_some (workers_meant (given (codes "WORKERS"))) ≡ true
    → is_some (connections_meant (given (codes "COUNT"))) ≡ true → AreMeant given told (IfErr r (λ e. e ≡ no_memory)))
    → (name ≡ codes "verify" → is_some (given (codes "HOUSE")) ≡ true → is_some (given (codes "JOURNAL")) ≡ true
    → is_some (trade_meant (given (codes "N"))) ≡ true → IfErr r (λ e. e ≡ no_memory))
    → (name ≡ codes "backup" → is_some (given (codes "JOURNAL")) ≡ true → is_some (given (codes "TO")) ≡ true
    → IfErr r (λ e. e ≡ no_memory))
    → (name ≡ codes "extend" → is_some (given (codes "HOUSE")) ≡ true → is_some (given (codes "JOURNAL")) ≡ true
    → is_some (given (codes "NEWHOUSE")) ≡ true → is_some (given (codes "TO")) ≡ true → IfErr r (λ e. e ≡ no_memory))
    → (name ≡ codes "roll" → is_some (given (codes "HOUSE")) ≡ true → is_some (given (codes "JOURNAL")) ≡ true
    → is_some (given (codes "NEWHOUSE")) ≡ true → is_some (given (codes "TO")) ≡ true → IfErr r (λ e. e ≡ no_memory))
    → (name ≡ codes "statement" → is_some (given (codes "HOUSE")) ≡ true → IfErr r (λ e. e ≡ no_memory))
    → IfErr r (λ e. e ≡ no_memory)
line_read r words name given told (Batch path) found named_so given_so told_so
    batch trace serve keep verify backup extend roll statement =
    batch (same_in_some _ _ (sym named_so ∙ found.0)) (ap is_some (given_so (codes "HOUSE") ∙ found.1))
line_read r words name given told (Trace path number) found named_so given_so told_so
    batch trace serve keep verify backup extend roll statement =
    trace (same_in_some _ _ (sym named_so ∙ found.0)) (ap is_some (given_so (codes "HOUSE") ∙ found.1))
    (ap is_some (ap trade_meant (given_so (codes "N")) ∙ found.2))
line_read r words name given told (Serve path port workers connections) found named_so given_so told_so
    batch trace serve keep verify backup extend roll statement =
    serve (same_in_some _ _ (sym named_so ∙ found.0)) (ap is_some (given_so (codes "HOUSE") ∙ found.1))
    (ap is_some (ap port_meant (given_so (codes "PORT")) ∙ found.2))
    (ap is_some (ap workers_meant (given_so (codes "WORKERS")) ∙ found.3))
    (ap is_some (ap connections_meant (given_so (codes "COUNT")) ∙ found.4))
line_read r words name given told (Keep path journal port workers connections options) found named_so given_so told_so
    batch trace serve keep verify backup extend roll statement =
    meant_so given told options _
    (same_meaning given (word_for words) told (told_in words) options given_so told_so found.6)
    (keep (same_in_some _ _ (sym named_so ∙ found.0)) (ap is_some (given_so (codes "HOUSE") ∙ found.1))
    (ap is_some (given_so (codes "JOURNAL") ∙ found.2))
    (ap is_some (ap port_meant (given_so (codes "PORT")) ∙ found.3))
    (ap is_some (ap workers_meant (given_so (codes "WORKERS")) ∙ found.4))
    (ap is_some (ap connections_meant (given_so (codes "COUNT")) ∙ found.5)))
line_read r words name given told (Verify path look) found named_so given_so told_so
    batch trace serve keep verify backup extend roll statement =
    verify (same_in_some _ _ (sym named_so ∙ found.0)) (ap is_some (given_so (codes "HOUSE") ∙ found.1))
    (ap is_some (given_so (codes "JOURNAL") ∙ found.2)) (ap is_some (ap trade_meant (given_so (codes "N")) ∙ found.4))
line_read r words name given told (Backup journal to) found named_so given_so told_so
    batch trace serve keep verify backup extend roll statement =
    backup (same_in_some _ _ (sym named_so ∙ found.0)) (ap is_some (given_so (codes "JOURNAL") ∙ found.1))
    (ap is_some (given_so (codes "TO") ∙ found.2))
line_read r words name given told (Extend path paths) found named_so given_so told_so
    batch trace serve keep verify backup extend roll statement =
    extend (same_in_some _ _ (sym named_so ∙ found.0)) (ap is_some (given_so (codes "HOUSE") ∙ found.1))
    (ap is_some (given_so (codes "JOURNAL") ∙ found.2)) (ap is_some (given_so (codes "NEWHOUSE") ∙ found.3))
    (ap is_some (given_so (codes "TO") ∙ found.4))
line_read r words name given told (Roll path rolling) found named_so given_so told_so
    batch trace serve keep verify backup extend roll statement =
    roll (same_in_some _ _ (sym named_so ∙ found.0)) (ap is_some (given_so (codes "HOUSE") ∙ found.1))
    (ap is_some (given_so (codes "JOURNAL") ∙ found.2)) (ap is_some (given_so (codes "NEWHOUSE") ∙ found.3))
    (ap is_some (given_so (codes "TO") ∙ found.4))
line_read r words name given told (Statement stating) found named_so given_so told_so
    batch trace serve keep verify backup extend roll statement =
    statement (same_in_some _ _ (sym named_so ∙ found.0)) (ap is_some (given_so (codes "HOUSE") ∙ found.1))
