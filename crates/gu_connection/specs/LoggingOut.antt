-- The Logout that is written beside a session.
use Rattle.std.specs.Prelude.{◌≡◌, ◌⊎◌, ℕ, ◌+◌, List, [], ◌∷◌, ◌++◌, codes, Some, None}
use Rattle.gu_codec.specs.Tags as tag
use Rattle.gu_codec.specs.Writing.{fields_text}
use Rattle.gu_session.specs.Steps.{Seen}
use Rattle.gu_session.specs.Text.{text_of}

-- a Logout of the house to a firm, at this time, with this number and text
abbrev pub logout_of : List ℕ → List ℕ → List ℕ → ℕ → List ℕ → List ℕ
logout_of house firm time number text = text_of house firm time (record {
  kind = codes "5";
  number = number;
  next = number + 1;
  first = None;
  body = fields_text ((tag.text, text) ∷ []);
})

-- a Logout with the session's next number stands behind what is sent, or nothing was done
abbrev pub LogsOut : List ℕ → List ℕ → Seen → List ℕ → List ℕ → Type 0
LogsOut house text session out out_after = (out_after ≡ out)
    ⊎ ((firm time : List ℕ) × (session.link.firm ≡ Some firm)
    × (out_after ≡ out ++ logout_of house firm time session.link.next text))
