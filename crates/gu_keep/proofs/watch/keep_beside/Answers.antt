use denote.Param.Send.{param_send}
use Rattle.gu_keep.proofs.Sent.{served_sent}
use Rattle.gu_keep.proofs.watch.keep_beside.Lts.{arg-1-3}
use Rattle.gu_keep.proofs.watch.keep_beside.Goals as goal

-- what a server gives back may go to another thread
pub spawn_with-requires-send-T : goal.spawn_with-requires-send-T
spawn_with-requires-send-T g c κs within =
    param_send 3
    (arg-1-3 g.row.R g.row.K g.row.R-Dir g.row.K-Journal g.R.laws g.K.laws g.R.Dir.laws g.K.Journal.laws g.R.copy
    g.R.Threads-dict g.R.Wait-dict g.R.Clock-dict g.R.Net-dict g.bound-5-dict g.bound-6-dict g.bound-7-dict
    g.bound-8-dict g.bound-9-dict g.bound-10-dict g.R.RandomSource-dict g.R.Files-dict g.bound-13-dict g.bound-14-dict
    g.bound-15-dict g.bound-16-dict g.R.Dir.Read-dict g.R.Clone-dict g.K.Journals-dict g.K.Journal.OpenJournal-dict
    g.K.Journal.Keeps-dict g.K.Destruct-dict g.R.Dir.Destruct-dict g.K.Journal.Destruct-dict κs)
    (record { owned = λ d vs. served_sent.owned d vs; leaving = λ k x w. served_sent.leaving k x w })
