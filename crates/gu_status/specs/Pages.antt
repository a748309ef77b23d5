-- The pages.
use Rattle.std.specs.Prelude.{ℕ, Bool, true, false, ◌&&◌, ◌||◌, bytes_eq, if◌then◌else◌, List, []}
use Rattle.std.specs.Prelude.{◌∷◌, ◌++◌, Option, Some, None, is_none, is_some, codes, decimal}
use Rattle.http_server.specs.declared.response.Response.{Response}
use Rattle.http_server.specs.Response.{IsResponse}
use Rattle.gu_status.specs.Metrics.{metrics_text}
use Rattle.gu_status.specs.Samples.{Text}
use Rattle.gu_status.specs.declared.pages.Asked.{Asked}
use Rattle.gu_status.specs.declared.pages.Asked.TheVariants.{Figures, Readiness, Health, NoPage}
use Rattle.gu_status.specs.declared.pages.Asked.TheVariants.{NoMethod, Says, NoFirm}
use Rattle.gu_status.specs.declared.parts.Part.{Part}
use Rattle.gu_status.specs.declared.parts.Part.TheVariants.{Journal, Acceptor, Worker, Clock}
use Rattle.gu_status.specs.declared.snapshot.FirmEntries.{FirmEntries}
use Rattle.gu_status.specs.declared.snapshot.Snapshot.{Snapshot}
use Rattle.gu_status.specs.declared.words.FirmWord.{FirmWord}
use Rattle.gu_status.specs.declared.words.Word.{Word}
use Rattle.gu_status.specs.declared.words.Word.TheVariants.{Drain, Of}
use Rattle.gu_status.specs.Words.{firm_in, firm_word}

-- what is said of a firm, if it is there
abbrev pub says_of : Option Text → FirmWord → Asked
says_of None word = NoFirm
says_of (Some firm) word = Says (Of word firm)

abbrev pub says_word : Option Text → Option FirmWord → Asked
says_word firm None = NoMethod
says_word firm (Some word) = says_of firm word

-- what is said at a socket by a path and a query, where there are these firms
abbrev pub says : Text → Option Text → List FirmEntries → Asked
says path query firms = if bytes_eq path (codes "/drain") then Says Drain
    else says_word (firm_in query firms) (firm_word path)

-- the page that a method and a path ask for
abbrev pub asks_page : Text → Text → Asked
asks_page method path = if bytes_eq method (codes "GET") || bytes_eq method (codes "HEAD") then
    (if bytes_eq path (codes "/metrics") then Figures
    else (if bytes_eq path (codes "/ready") then Readiness
    else (if bytes_eq path (codes "/health") then Health else NoPage))) else NoMethod

-- what is asked for: at a socket POST says a word of an operator, and at a port none
abbrev pub asks : Bool → Text → Text → Option Text → List FirmEntries → Asked
asks at_socket method path query firms =
    if at_socket && bytes_eq method (codes "POST") then says path query firms
    else asks_page method path

-- what an operator says: before the server is ready, and once it stops, it isn't to be drained
abbrev pub word_if : Word → Bool → Option Word
word_if Drain true = Some Drain
word_if Drain false = None
word_if (Of word firm) ready = Some (Of word firm)

abbrev pub word_in : Asked → Snapshot → Option Word
word_in (Says word) s = word_if word s.is_ready
word_in Figures s = None
word_in Readiness s = None
word_in Health s = None
word_in NoPage s = None
word_in NoMethod s = None
word_in NoFirm s = None

-- 200, or 503: service unavailable
abbrev pub yes_or : Bool → ℕ
yes_or true = 200
yes_or false = 503

-- the status of an answer
abbrev pub status_for : Asked → Snapshot → ℕ
status_for Figures s = 200
status_for Readiness s = yes_or s.is_ready
status_for Health s = yes_or (is_none s.stuck)
status_for NoPage s = 404
status_for NoMethod s = 405
status_for (Says word) s = yes_or (is_some (word_if word s.is_ready))
status_for NoFirm s = 404

-- the name of a part of the server
abbrev pub part_text : Part → Text
part_text Journal = codes "journal"
part_text Acceptor = codes "acceptor"
part_text (Worker n) = codes "worker " ++ decimal n
part_text Clock = codes "clock"

-- which part stands still, if one does
abbrev pub health_text : Option Part → Text
health_text None = codes "healthy\n"
health_text (Some p) = part_text p ++ codes " stands still\n"

-- whether connections are taken, and where they are, whether memory lacks
abbrev pub ready_text : Bool → Bool → Text
ready_text true true = codes "ready\nmemory lacks: no calls of firms are made\n"
ready_text true false = codes "ready\n"
ready_text false lacks = codes "not ready\n"

-- whether a word is taken
abbrev pub taken_text : Bool → Text
taken_text true = codes "taken\n"
taken_text false = codes "not ready\n"

-- what a page says
abbrev pub page_text : Asked → Snapshot → Text
page_text Figures s = metrics_text s
page_text Readiness s = ready_text s.is_ready s.lacks_memory
page_text Health s = health_text s.stuck
page_text NoPage s = codes "/metrics, /ready and /health are the pages\n"
page_text NoMethod s = codes "only GET and HEAD are answered\n"
page_text (Says word) s = taken_text (is_some (word_if word s.is_ready))
page_text NoFirm s = codes "no such firm\n"

-- what is asked for was answered by its page
abbrev pub IsPage : Snapshot → Asked → Response → Type 0
IsPage s asked = IsResponse (status_for asked s)
    ((codes "content-type", codes "text/plain; version=0.0.4")
    ∷ (codes "connection", codes "close") ∷ [])
    (page_text asked s)
