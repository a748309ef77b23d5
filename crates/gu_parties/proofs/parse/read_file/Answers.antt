use Rattle.std.proofs.Common.{◌≡◌, ◌∙◌, ◌∷◌, ℕ, List, ap, subst, sym}
use Rattle.std.specs.Prelude.{Bool}
use Rattle.gu_parties.specs.Words.{lines}
use Rattle.gu_parties.specs.Parsing.{Gives, GivesBehind}
use Rattle.gu_parties.proofs.LinesRead.{gives_all}
use Rattle.gu_parties.proofs.parse.read_file.Goals as goal

pub returns-in-Ok : goal.returns-in-Ok
returns-in-Ok c =
    let parts : lines c.args.text.now
    ≡ c.in-Some.version.now ∷ c.in-Some-first_line.second.now ∷ lines c.in-Some-first_line.rest.now =
    c.in-Some.ensures.lines
    ∙ ap (λ (ls : List (List ℕ)). c.in-Some.version.now ∷ ls) c.in-Some-first_line.ensures.lines in
    let behind =
    subst (λ (opens : Bool). GivesBehind opens c.read_rest.result c.in-Ok.house (lines c.in-Some-first_line.rest.now))
    c.in-Some-version_opens.ensures.1 c.read_rest.ensures in
    subst (λ (ls : List (List ℕ)). Gives c.read_rest.result ls) (sym parts)
    (gives_all c.in-Some.version.now c.in-Some-first_line.second.now c.in-Ok.house (lines c.in-Some-first_line.rest.now)
    c.in-Some-version_opens.ensures.0 c.in-Ok.ensures.0 c.in-Ok.ensures.1 c.read_rest.result behind)
