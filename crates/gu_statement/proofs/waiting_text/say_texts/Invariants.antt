use Rattle.std.proofs.Common.{◌≡◌, ◌++◌, map, drop}
use Rattle.json.specs.Token.{string}
use Rattle.gu_statement.proofs.waiting_text.say_texts.Given as goal

-- the texts so far and those that are left are all
abbrev pub invariant-loop-firm : goal.invariant-loop-firm
invariant-loop-firm l = record {
  before : l.w.before ≡ l.initial.w.before;
  tokens : l.w.tokens ++ map string (drop l.firm-index l.firms) ≡ l.initial.w.tokens ++ map string l.firms;
}
