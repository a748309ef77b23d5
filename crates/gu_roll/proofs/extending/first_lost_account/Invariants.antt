use Rattle.std.proofs.Common.{◌≡◌, drop}
use Rattle.gu_base.specs.House.{knows_account}
use Rattle.gu_base.specs.declared.house.Account.{Account}
use Rattle.gu_roll.specs.Lack.{first_without}
use Rattle.gu_roll.proofs.extending.first_lost_account.Given as goal

abbrev pub invariant-loop-place : goal.invariant-loop-place
invariant-loop-place l =
    first_without (λ (a : Account). knows_account l.new a.firm a.name) (drop l.place l.old.accounts)
    ≡ first_without (λ (a : Account). knows_account l.new a.firm a.name) l.old.accounts
