use Rattle.std.proofs.Common.{◌≡◌, subst, rules}
use Rattle.clap.specs.Words.{Rule, app_of, new_app, with_rule}
use Rattle.gu_command.specs.Lines.{Makes}
use Rattle.gu_command.proofs.line.house_command.Goals as goal

pub returns : goal.returns
returns c =
    let app = new_app c.args.name.now in
    let bare : app_of c.about.result ≡ app = search rules in
    subst (λ (r : Rule). Makes (with_rule app r) c.with_argument.result) c.house_argument-house.ensures.rule
    (c.with_argument.ensures app (bare, search rules))
