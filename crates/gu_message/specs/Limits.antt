-- How long values may be. The code has constants of its own, and what is proved of it fails where
-- one of them differs from these.
use Rattle.std.specs.Prelude.{ℕ}

-- the bytes of a TestReqID (112)
abbrev pub longest_test_req_id : ℕ
longest_test_req_id = 64
