use Rattle.gu_server.proofs.Stated.{told_of, unstated}
use Rattle.gu_server.proofs.stating.state_journal.Goals as goal

-- the journal can't be read
pub returns-in-Err : goal.returns-in-Err
returns-in-Err g c =
    unstated c.args.house.house c.args.house.pin.bytes _ _ _ c.in-Err.fault c.in-Err.ensures.fault

-- a start from its bytes would be refused
pub returns-in-Err-heard_of : goal.returns-in-Err-heard_of
returns-in-Err-heard_of g c =
    unstated c.args.house.house c.args.house.pin.bytes _ _ _ c.fault_at.result c.fault_at.ensures

-- the statement was written, or not whole
pub returns : goal.returns
returns g c =
    told_of c.args.house.house c.args.house.pin.bytes _ _ _ _ _ c.in-Ok-heard_of.found.0.book.history c.in-Ok.file.items
    c.in-Ok.ensures.bytes c.in-Ok-heard_of.ensures.recovers c.in-Ok-heard_of.ensures.later c.state-stated.result
    c.state-stated.ensures
