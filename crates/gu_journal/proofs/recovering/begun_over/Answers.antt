use Rattle.gu_journal.proofs.recovering.begun_over.Goals as goal
use Rattle.gu_journal.proofs.{Resting.{bare_rest, crash_begun, keeps_begun}, Vocabulary.{rules, subst}}
use Rattle.gu_store.specs.Store.{disk_of}

pub returns-in-Ok-clause-keeps : goal.returns-in-Ok-clause-keeps
returns-in-Ok-clause-keeps g c t b =
    keeps_begun b c.requires.moment c.requires.named (search rules) c.requires.few
    (c.in-Ok.ensures.rest (bare_rest b c.new-store.ensures.disk c.new-store.ensures.end c.new-store.ensures.left))
    (c.in-Ok.ensures.hashed b.hashed) c.at_rest.ensures.store c.at_rest.ensures.house c.at_rest.ensures.next
    c.at_rest.ensures.hasher

pub returns-in-Ok-clause-mixed : goal.returns-in-Ok-clause-mixed
returns-in-Ok-clause-mixed g c all t c' b left =
    crash_begun b c.requires.moment c.requires.named (search rules) c.requires.few (c.begin.ensures.mixed all c'
    (bare_rest b c.new-store.ensures.disk c.new-store.ensures.end c.new-store.ensures.left)
    (subst (λ s. g.D.Disk.may_leave (disk_of s) c') c.at_rest.ensures.store left))

pub returns-in-Err-clause-mixed : goal.returns-in-Err-clause-mixed
returns-in-Err-clause-mixed g c all t c' b left =
    crash_begun b c.requires.moment c.requires.named (search rules) c.requires.few (c.begin.ensures.mixed all c'
    (bare_rest b c.new-store.ensures.disk c.new-store.ensures.end c.new-store.ensures.left)
    (subst (λ d. g.D.Disk.may_leave d c') c.into_disk.ensures left))
