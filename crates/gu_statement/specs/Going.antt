-- How a line grows, token by token.
use Rattle.std.specs.Prelude.{◌≡◌, ◌++◌, List, ℕ, codes, decimal}
use Rattle.gu_base.specs.Numbers.{EntryPart}
use Rattle.json.specs.Token.{Token}
use Rattle.json.specs.Tree.{json_tokens, members_tokens}
use Rattle.json.specs.Written.{Written}
use Rattle.serde_json.specs.Data.{object, Members}
use Rattle.serde_json.specs.Written.{outline, members_outline}

-- the line goes on by these tokens
pub record GoesOn (old new : Written) (ts : List Token) : Type 0 where
  pub before : new.before ≡ old.before
  pub tokens : new.tokens ≡ old.tokens ++ ts

-- the tokens of an object with these members
abbrev pub tokens_of : Members → List Token
tokens_of ms = json_tokens (outline (object ms))

-- the tokens of members, with the closing bracket
abbrev pub tokens_from : Members → List Token
tokens_from ms = members_tokens (members_outline ms)

-- the line goes on by what `f` puts before other members, whichever they are
pub record Says (old new : Written) (f : Members → Members) : Type 0 where
  pub before : new.before ≡ old.before
  pub tokens : (rest : Members)
      → new.tokens ++ tokens_from rest ≡ old.tokens ++ tokens_from (f rest)

-- `entry.part`
abbrev pub node_words : EntryPart → List ℕ
node_words n = decimal n.entry ++ codes "." ++ decimal n.part
