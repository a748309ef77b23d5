-- What contracts see of a ground, a desk, its seats and a ticket.
use Rattle.std.specs.Prelude.{ℕ, Bool, ◌&&◌, leb, List, []}
use Rattle.atomic_table.specs.Seated.{TableId}
use Rattle.gu_base.specs.declared.entry.Entry.{Entry}
use Rattle.gu_book.specs.Seen.{HouseAndHistory}

-- the name of its ledger, how many workers its desk has, the table that counts its records, and the
-- house table and history of its book
pub record GroundView : Type 0 where
  pub name : ℕ
  pub workers : ℕ
  pub table : TableId
  pub opening : HouseAndHistory

-- how many seats were given out
pub record DeskView : Type 0 where
  pub seats : ℕ

-- how many of the calls that were made with it were accepted, the history that it has seen, and
-- what it knows to be durable
pub record SeatView : Type 0 where
  pub share : ℕ
  pub seen : List Entry
  pub kept : List Entry

-- the history that the journal's seat has seen, and what is durable
pub record JournalView : Type 0 where
  pub seen : List Entry
  pub kept : List Entry

-- the history that a ticket rests on, and what it knows to be durable
pub record TicketView : Type 0 where
  pub seen : List Entry
  pub kept : List Entry

-- the workers that one desk may have at the most
abbrev pub most_workers : ℕ
most_workers = 16

-- how many workers a desk may have
abbrev pub is_worker_count : ℕ → Bool
is_worker_count n = leb 1 n && leb n most_workers

-- the book of nobody, for a job that is no desk's
abbrev pub no_book : HouseAndHistory
no_book = record {
  house = record {
    house = [];
    firms = [];
    accounts = [];
    instruments = [];
    agreements = [];
    opening = [];
  };
  history = [];
}

-- the table of nobody
abbrev pub no_table : TableId
no_table = record {
  words = 0;
  slots = 0;
  views_name = 0;
  atom = 0;
  block = 0;
  offset = 0;
  slot_names = [];
}
