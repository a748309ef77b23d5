-- A small day: whom its entries concern, computed by the definitions and compared with what the rules say in words.
use Rattle.std.proofs.Common.{◌≡◌, ℕ, List, [], ◌∷◌, refl}
use Rattle.std.specs.Prelude.{codes, Some, None}
use Rattle.gu_base.specs.declared.command.Side.TheVariants.{Buy}
use Rattle.gu_base.specs.declared.command.Command.TheVariants.{Trade, Split, Claim, Initiate}
use Rattle.gu_base.specs.declared.entry.Entry.{Entry}
use Rattle.gu_base.specs.declared.state.State.TheVariants.{Held, Offered, Claimed, ReversalPending}
use Rattle.gu_trace.specs.Index.{numbers_for}

abbrev hse : List ℕ
hse = codes "HSE"

abbrev aaa : List ℕ
aaa = codes "AAA"

abbrev bbb : List ℕ
bbb = codes "BBB"

-- a trade of 100 lots for AAA, of which AAA gives 40 up to BBB; BBB claims them, and consents to the undo of its claim
abbrev day : List Entry
day =
    record { firm = hse; id = codes "T1"; status = Held; command = Trade aaa (codes "A1") (codes "ESZ6") Buy 100 }
    ∷ record {
      firm = aaa;
      id = codes "S1";
      status = Offered;
      command = Split (record { entry = 1; part = 0 })
          (record { lots = 60; firm = aaa; account = Some (codes "A2") }
          ∷ record { lots = 40; firm = bbb; account = None } ∷ []);
    }
    ∷ record {
      firm = bbb;
      id = codes "C1";
      status = Claimed;
      command = Claim (record { entry = 2; part = 2 }) (codes "B1");
    }
    ∷ record { firm = bbb; id = codes "I1"; status = ReversalPending; command = Initiate 3 }
    ∷ []

-- the house is told of the trade, AAA of all, since it gave the part up, BBB from the split on, and CCC of nothing
for_house : numbers_for hse day 4 hse ≡ 1 ∷ []
for_house = refl

for_giver : numbers_for hse day 4 aaa ≡ 1 ∷ 2 ∷ 3 ∷ 4 ∷ []
for_giver = refl

for_taker : numbers_for hse day 4 bbb ≡ 2 ∷ 3 ∷ 4 ∷ []
for_taker = refl

for_another : numbers_for hse day 4 (codes "CCC") ≡ []
for_another = refl

-- of the first two entries
for_taker_so_far : numbers_for hse day 2 bbb ≡ 2 ∷ []
for_taker_so_far = refl
