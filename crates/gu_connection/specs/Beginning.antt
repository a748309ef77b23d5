-- From where the reports of a firm begin that has logged on.
use Rattle.std.specs.Prelude.{ℕ, Bool, false, nat_le, if◌then◌else◌, List, codes}
use Rattle.std.specs.Prelude.{Option, Some, None, bytes_eq, option_map}
use Rattle.gu_command.specs.declared.naming.NamedBook.{NamedBook}
use Rattle.gu_message.specs.Finding.{value_of}
use Rattle.gu_message.specs.Values.{entry_of}
use Rattle.gu_connection.specs.declared.beginning.Beginning.{Beginning}
use Rattle.gu_connection.specs.declared.beginning.Beginning.TheVariants.{Above, Nowhere}
use Rattle.gu_connection.specs.declared.beginning.NoBeginning.{NoBeginning}
use Rattle.gu_connection.specs.declared.beginning.NoBeginning.TheVariants as why

-- the text of the Logout
abbrev pub text_of : NoBeginning → List ℕ
text_of why.AnotherBook = codes "another book"
text_of why.NoBook = codes "5005 without 5006"
text_of why.NoNumber = codes "5005 is no number of 0 to 1000000"
text_of why.PastLast = codes "5005 is past the last entry"
text_of why.Unnamed = codes "5006 has to name the book"

-- a book without a name has none of the names that firms say
abbrev pub is_name : Option (List ℕ) → List ℕ → Bool
is_name None name = false
is_name (Some own) name = bytes_eq own name

-- the book has this name
abbrev pub is_named : NamedBook → List ℕ → Bool
is_named book name = is_name (option_map (λ s. s.bytes.items) book.name) name

-- LastReport (5005): the number of an entry, or 0
abbrev pub number_of : List ℕ → Option ℕ
number_of word = if bytes_eq word (codes "0") then Some 0 else entry_of word

-- it is above that number, if it is one
abbrev pub above : Option ℕ → Beginning
above None = Nowhere why.NoNumber
above (Some number) = Above number

-- a firm that names the book: what it says of its last report
abbrev pub in_book : Option (List ℕ) → Beginning
in_book None = Above 0
in_book (Some last) = above (number_of last)

-- what a firm asks for that says this of the book (5006) and of its last report (5005), whatever
-- entries there are
abbrev pub asked : NamedBook → Option (List ℕ) → Option (List ℕ) → Beginning
asked book (Some name) last = if is_named book name then in_book last else Nowhere why.AnotherBook
asked book None (Some last) = Nowhere why.NoBook
asked book None None = if book.is_asked then Nowhere why.Unnamed else Above 0

-- what a Logon with these fields asks for; where nothing is read of books, it asks for all
abbrev pub asked_by : Option NamedBook → List (ℕ × List ℕ) → Beginning
asked_by None logon = Above 0
asked_by (Some book) logon = asked book (value_of 5006 logon) (value_of 5005 logon)

-- the same of a book with so many entries: no number passes over entries that are to come
abbrev pub within : ℕ → Beginning → Beginning
within entries (Above number) =
    if nat_le number entries then Above number else Nowhere why.PastLast
within entries (Nowhere x) = Nowhere x
