-- Which book a server has, as its command line says it.
use Rattle.std.specs.Prelude.{◌≡◌, ◌==◌, ◌&&◌, ◌||◌, ℕ, nat_le, Bool, true, false, if◌then◌else◌}
use Rattle.std.specs.Prelude.{length, Option, Some, None, codes, option_map, is_some}
use Rattle.std.specs.List.{list_all}
use Rattle.clap.specs.Words.{App, Rule, Text, new_rule, with_rule}
use Rattle.clap.specs.declared.builder.action.ArgAction.TheVariants.{Set, SetTrue}
use Rattle.gu_command.specs.Flags.{flag_meant}
use Rattle.gu_command.specs.declared.naming.NamedBook.{NamedBook}

-- the argument `--book NAME`
abbrev pub book_rule : Rule
book_rule = record (new_rule (codes "NAME")) { long = Some (codes "book"); action = Some Set }

-- the argument `--ask-book`
abbrev pub ask_book_rule : Rule
ask_book_rule =
    record (new_rule (codes "ASK_BOOK")) { long = Some (codes "ask-book"); action = Some SetTrue }

-- a command with these options
abbrev pub naming : App → App
naming app = with_rule (with_rule app book_rule) ask_book_rule

-- between two bytes
abbrev pub is_from : ℕ → ℕ → ℕ → Bool
is_from low high b = nat_le low b && nat_le b high

-- a letter, a digit, `-`, `_` or `.`
abbrev pub is_of_name : ℕ → Bool
is_of_name b = is_from 65 90 b || is_from 97 122 b || is_from 48 57 b
    || (b == 45) || (b == 95) || (b == 46)

-- 1 to 64 of them
abbrev pub is_book_name : Text → Bool
is_book_name word = nat_le 1 (length word) && nat_le (length word) 64 && list_all is_of_name word

-- which name a word means: none where there is no word
abbrev pub name_meant : Option Text → Option (Option Text)
name_meant None = Some None
name_meant (Some word) = if is_book_name word then Some (Some word) else None

-- whether each Logon has to say it: that wants a name
abbrev pub asking_meant : Option Text → Option Text → Option Bool
asking_meant name flag =
    if flag_meant flag then (if is_some name then Some true else None) else Some false

-- what was given means this book
abbrev pub IsBookOf : (Text → Option Text) → NamedBook → Type 0
IsBookOf given book =
    (name_meant (given (codes "NAME")) ≡ Some (option_map (λ s. s.bytes.items) book.name))
    × (asking_meant (given (codes "NAME")) (given (codes "ASK_BOOK")) ≡ Some book.is_asked)

-- this holds if what was given means one
abbrev pub IsBookMeant : (Text → Option Text) → Type 0 → Type 0
IsBookMeant given P = is_some (name_meant (given (codes "NAME"))) ≡ true
    → is_some (asking_meant (given (codes "NAME")) (given (codes "ASK_BOOK"))) ≡ true → P

-- none has a name, and none is asked for
abbrev pub no_book : NamedBook
no_book = record { name = None; is_asked = false }
