-- Small worked histories, computed by the definitions and compared with the answers that the rules give in words.
use Rattle.std.proofs.Common.{◌≡◌, ℕ, List, [], ◌∷◌, ◌++◌, length, refl, Option, zero, suc, cond, eqb, ◌+◌}
use Rattle.std.specs.Prelude.{codes, decimal, Some, None, map}
use Rattle.gu_base.specs.Numbers.{EntryPart}
use Rattle.gu_base.specs.House.{House}
use Rattle.gu_base.specs.History.{live}
use Rattle.gu_base.specs.Positions.{position_of}
use Rattle.gu_base.specs.Places.{depth_of}
use Rattle.gu_base.specs.Standing.{first_refused}
use Rattle.gu_base.specs.Fees.{paid_by, received_by}
use Rattle.gu_base.specs.Terms.{used_of, limit_of}
use Rattle.gu_base.specs.Rows.{rows_of, Row}
use Rattle.gu_base.specs.Texts.{refusal_text}
use Rattle.gu_base.specs.Answers.{Call, answer_to}
use Rattle.gu_base.specs.Runs.{answers, after_all}
use Rattle.gu_base.specs.declared.node.Place.{Place}
use Rattle.gu_base.specs.declared.command.Side.TheVariants.{Buy}
use Rattle.gu_base.specs.declared.command.Part.{Part}
use Rattle.gu_base.specs.declared.command.Command.{Command}
use Rattle.gu_base.specs.declared.command.Command.TheVariants.{Trade, Split, Claim, Refuse, Cancel, Agree, Raise}
use Rattle.gu_base.specs.declared.command.Command.TheVariants.{Initiate, Decline, Reverse}
use Rattle.gu_base.specs.declared.entry.Record.{Record}
use Rattle.gu_base.specs.declared.entry.Answer.TheVariants.{Accepted, Repeated, Refused}
use Rattle.gu_base.specs.declared.state.State.{State}
use Rattle.gu_base.specs.declared.state.State.TheVariants.{Held, Offered, Claimed, Refused as WasRefused, Cancelled}
use Rattle.gu_base.specs.declared.state.State.TheVariants.{ReversalPending, Reversed}
use Rattle.gu_base.specs.declared.refusal.Refusal.TheVariants.{UnknownFirm, UnknownAccount, UnknownInstrument, NotYours}
use Rattle.gu_base.specs.declared.refusal.Refusal.TheVariants.{SumDiffers, BadLots, BadPartCount, StillOffered}
use Rattle.gu_base.specs.declared.refusal.Refusal.TheVariants.{UnknownNode, AlreadyReversed, NotAChange, UnknownEntry}
use Rattle.gu_base.specs.declared.refusal.Refusal.TheVariants.{LimitExceeded, NotAParty, NeedsConsent, NothingPending}
use Rattle.gu_base.specs.declared.refusal.Refusal.TheVariants.{NoAgreement, TooDeep, StandsOn, NotOffered}
use Rattle.gu_base.specs.declared.refusal.Refusal.TheVariants.{AlreadyConsented, DuplicateId, HouseOnly, OwnAgreement}
use Rattle.gu_base.specs.declared.refusal.Refusal.TheVariants.{BadTerms, AgreementExists}

abbrev pub hse : List ℕ
hse = codes "HSE"

abbrev pub aaa : List ℕ
aaa = codes "AAA"

abbrev pub bbb : List ℕ
bbb = codes "BBB"

abbrev ccc : List ℕ
ccc = codes "CCC"

abbrev pub a1 : List ℕ
a1 = codes "A1"

abbrev a2 : List ℕ
a2 = codes "A2"

abbrev pub b1 : List ℕ
b1 = codes "B1"

abbrev b2 : List ℕ
b2 = codes "B2"

abbrev c1 : List ℕ
c1 = codes "C1"

abbrev pub esz6 : List ℕ
esz6 = codes "ESZ6"

-- the clearing house HSE, three firms with their accounts, one instrument and two agreements
abbrev house : House
house = record {
  house = hse;
  firms = aaa ∷ bbb ∷ ccc ∷ [];
  accounts = record { firm = aaa; name = a1 } ∷ record { firm = aaa; name = a2 } ∷ record { firm = bbb; name = b1 }
      ∷ record { firm = bbb; name = b2 } ∷ record { firm = ccc; name = c1 } ∷ [];
  instruments = esz6 ∷ [];
  agreements = (record { giver = aaa; taker = bbb }, record { rate = 125; limit = 500 })
      ∷ (record { giver = bbb; taker = ccc }, record { rate = 40; limit = 100 }) ∷ [];
  opening = [];
}

abbrev pub node : ℕ → ℕ → EntryPart
node entry part = record { entry = entry; part = part }

abbrev own : ℕ → List ℕ → List ℕ → Part
own lots firm account = record { lots = lots; firm = firm; account = Some account }

abbrev to : ℕ → List ℕ → Part
to lots firm = record { lots = lots; firm = firm; account = None }

-- a call, by a number as its id
abbrev call : List ℕ → ℕ → Command → Call
call firm id command = record { firm = firm; id = id ∷ []; command = command }

abbrev trade : ℕ → Call
trade lots = call hse 1 (Trade aaa a1 esz6 Buy lots)

-- A1's 60 and 40 given to BBB
abbrev offer : Call
offer = call aaa 2 (Split (node 1 0) (own 60 aaa a1 ∷ to 40 bbb ∷ []))

-- the lots that stand long in an account after these calls
abbrev long : List Call → List ℕ → List ℕ → ℕ
long calls firm account = position_of (live (after_all house [] calls)) firm account esz6 Buy

abbrev paid : List Call → List ℕ → ℕ
paid calls firm = paid_by house (live (after_all house [] calls)) firm

abbrev received : List Call → List ℕ → ℕ
received calls firm = received_by house (live (after_all house [] calls)) firm

-- parts must sum
abbrev short_split : Call
short_split = call aaa 2 (Split (node 1 0) (own 60 aaa a1 ∷ own 39 aaa a2 ∷ []))

abbrev whole_split : Call
whole_split = call aaa 3 (Split (node 1 0) (own 100 aaa a2 ∷ []))

parts_must_sum : answers house [] (trade 100 ∷ short_split ∷ whole_split ∷ [])
    ≡ Accepted 1 Held ∷ Refused SumDiffers ∷ Accepted 2 Held ∷ []
parts_must_sum = refl

parts_must_sum_positions : let calls = trade 100 ∷ short_split ∷ whole_split ∷ [] in
    (long calls aaa a1 ≡ 0) × (long calls aaa a2 ≡ 100)
parts_must_sum_positions = (refl, refl)

parts_must_sum_text : refusal_text SumDiffers ≡ decimal 10 ++ codes " parts do not sum" ++ []
parts_must_sum_text = refl

-- lots, parts and depth
lots_and_parts : answers house []
    (trade 0 ∷ trade 10000001 ∷ trade 100 ∷ call aaa 2 (Split (node 1 0) (own 0 aaa a1 ∷ own 100 aaa a2 ∷ []))
    ∷ call aaa 3 (Split (node 1 0) []) ∷ [])
    ≡ Refused BadLots ∷ Refused BadLots ∷ Accepted 1 Held ∷ Refused BadLots ∷ Refused BadPartCount ∷ []
lots_and_parts = refl

largest_trade : answers house [] (trade 10000000 ∷ []) ≡ Accepted 1 Held ∷ []
largest_trade = refl

-- splits into one part each, the newest last
abbrev chain : ℕ → List Call
chain zero = call hse 1 (Trade aaa a1 esz6 Buy 1) ∷ []
chain (suc k) = chain k ++ call aaa (k + 2) (Split (node (k + 1) (cond (eqb k 0) 0 1)) (own 1 aaa a1 ∷ [])) ∷ []

too_deep : let h = after_all house [] (chain 64) in
    (length h ≡ 65) × (answer_to house h (call aaa 66 (Split (node 65 1) (own 1 aaa a1 ∷ []))) ≡ Refused TooDeep)
too_deep = (refl, refl)

-- give up and claim: an offer stands with its giver until it is claimed
abbrev given_up : List Call
given_up = trade 100 ∷ offer ∷ []

give_up_stands : long given_up aaa a1 ≡ 100
give_up_stands = refl

abbrev claimed : List Call
claimed = trade 100 ∷ offer
    ∷ call aaa 3 (Split (node 2 2) (own 40 aaa a1 ∷ []))
    ∷ call ccc 4 (Claim (node 2 2) c1)
    ∷ call bbb 5 (Claim (node 2 2) b1) ∷ []

give_up_and_claim : answers house [] claimed
    ≡ Accepted 1 Held ∷ Accepted 2 Offered ∷ Refused StillOffered ∷ Refused NotYours ∷ Accepted 3 Claimed ∷ []
give_up_and_claim = refl

give_up_and_claim_sums : (long claimed aaa a1 ≡ 60) × (long claimed bbb b1 ≡ 40) × (paid claimed bbb ≡ 5000)
    × (received claimed aaa ≡ 5000)
give_up_and_claim_sums = (refl, refl, refl, refl)

-- second hop
abbrev hops : List Call
hops =
    trade 100 ∷ offer ∷ call bbb 5 (Claim (node 2 2) b1) ∷ call bbb 6 (Split (node 2 2) (to 40 ccc ∷ []))
    ∷ call ccc 7 (Claim (node 4 1) c1) ∷ []

second_hop : answers house [] hops
    ≡ Accepted 1 Held ∷ Accepted 2 Offered ∷ Accepted 3 Claimed ∷ Accepted 4 Offered ∷ Accepted 5 Claimed ∷ []
second_hop = refl

abbrev shown : Row → ℕ × EntryPart × ℕ × Option Place × State
shown r = (r.depth, r.name, r.lots, r.place, r.state)

second_hop_rows : map shown (rows_of (live (after_all house [] hops)) 1)
    ≡ (0, node 1 0, 100, Some (record { firm = aaa; account = a1 }), Held)
    ∷ (1, node 2 1, 60, Some (record { firm = aaa; account = a1 }), Held)
    ∷ (1, node 2 2, 40, Some (record { firm = bbb; account = b1 }), Claimed)
    ∷ (2, node 4 1, 40, Some (record { firm = ccc; account = c1 }), Claimed) ∷ []
second_hop_rows = refl

second_hop_sums : (long hops aaa a1 ≡ 60) × (long hops bbb b1 ≡ 0) × (long hops ccc c1 ≡ 40)
    × (received hops aaa ≡ 5000) × (paid hops bbb ≡ 5000) × (received hops bbb ≡ 1600) × (paid hops ccc ≡ 1600)
second_hop_sums = (refl, refl, refl, refl, refl, refl, refl)

-- refuse and offer again
refuse_and_offer_again : answers house []
    (trade 100 ∷ offer ∷ call bbb 3 (Cancel (node 2 2)) ∷ call bbb 4 (Refuse (node 2 2))
    ∷ call bbb 5 (Claim (node 2 2) b1) ∷ call aaa 6 (Split (node 2 2) (to 40 bbb ∷ []))
    ∷ call bbb 7 (Claim (node 4 1) b2) ∷ call aaa 8 (Cancel (node 4 1)) ∷ [])
    ≡ Accepted 1 Held ∷ Accepted 2 Offered ∷ Refused NotYours ∷ Accepted 3 WasRefused ∷ Refused NotOffered
    ∷ Accepted 4 Offered ∷ Accepted 5 Claimed ∷ Refused NotOffered ∷ []
refuse_and_offer_again = refl

refused_part_stands_with_its_giver : long (trade 100 ∷ offer ∷ call bbb 4 (Refuse (node 2 2)) ∷ []) aaa a1 ≡ 100
refused_part_stands_with_its_giver = refl

-- cancel
abbrev cancelled : List Call
cancelled =
    trade 100 ∷ call aaa 2 (Split (node 1 0) (to 100 bbb ∷ [])) ∷ call aaa 3 (Cancel (node 2 1))
    ∷ call aaa 4 (Split (node 2 1) (own 100 aaa a2 ∷ [])) ∷ []

cancel : answers house [] cancelled ≡ Accepted 1 Held ∷ Accepted 2 Offered ∷ Accepted 3 Cancelled ∷ Accepted 4 Held ∷ []
cancel = refl

cancel_position : long cancelled aaa a2 ≡ 100
cancel_position = refl

-- reverse a split
abbrev split_reversed : List Call
split_reversed =
    trade 100 ∷ offer ∷ call aaa 3 (Initiate 2) ∷ call aaa 4 (Reverse 2)
    ∷ call aaa 5 (Split (node 1 0) (own 50 aaa a1 ∷ to 50 bbb ∷ [])) ∷ call bbb 6 (Claim (node 2 2) b1)
    ∷ call bbb 7 (Claim (node 5 2) b1) ∷ call aaa 8 (Initiate 2) ∷ call aaa 9 (Initiate 3) ∷ call aaa 10 (Initiate 99)
    ∷ []

reverse_a_split : answers house [] split_reversed
    ≡ Accepted 1 Held ∷ Accepted 2 Offered ∷ Accepted 3 ReversalPending ∷ Accepted 4 Reversed ∷ Accepted 5 Offered
    ∷ Refused UnknownNode ∷ Accepted 6 Claimed ∷ Refused (AlreadyReversed 4) ∷ Refused NotAChange ∷ Refused UnknownEntry
    ∷ []
reverse_a_split = refl

reverse_a_split_live : (map (λ r. r.number) (live (after_all house [] split_reversed)) ≡ 1 ∷ 5 ∷ 6 ∷ [])
    × (paid split_reversed bbb ≡ 6250)
reverse_a_split_live = (refl, refl)

-- reversal frees capacity
abbrev freed : List Call
freed =
    call hse 1 (Trade aaa a1 esz6 Buy 1000)
    ∷ call aaa 2 (Split (node 1 0) (to 300 bbb ∷ to 200 bbb ∷ to 1 bbb ∷ own 499 aaa a1 ∷ []))
    ∷ call bbb 3 (Claim (node 2 1) b1) ∷ call bbb 4 (Claim (node 2 2) b1) ∷ call bbb 5 (Claim (node 2 3) b1)
    ∷ call bbb 6 (Initiate 3) ∷ call aaa 7 (Initiate 3) ∷ call aaa 8 (Reverse 3) ∷ call bbb 9 (Claim (node 2 3) b1) ∷ []

reversal_frees_capacity : answers house [] freed
    ≡ Accepted 1 Held ∷ Accepted 2 Offered ∷ Accepted 3 Claimed ∷ Accepted 4 Claimed ∷ Refused LimitExceeded
    ∷ Accepted 5 ReversalPending ∷ Accepted 6 ReversalPending ∷ Accepted 7 Reversed ∷ Accepted 8 Claimed ∷ []
reversal_frees_capacity = refl

reversal_frees_capacity_sums : (used_of (live (after_all house [] freed)) aaa bbb ≡ 201) × (paid freed bbb ≡ 25125)
reversal_frees_capacity_sums = (refl, refl)

-- stands on the first: the first later change that would be refused, and not a later one
stands_on_the_first : answers house (after_all house [] hops)
    (call ccc 8 (Split (node 4 1) (to 40 aaa ∷ [])) ∷ call aaa 9 (Claim (node 6 1) a2) ∷ call bbb 10 (Initiate 3)
    ∷ call aaa 11 (Initiate 3) ∷ call aaa 12 (Reverse 3) ∷ [])
    ≡ Accepted 6 Offered ∷ Refused NoAgreement ∷ Accepted 7 ReversalPending ∷ Accepted 8 ReversalPending
    ∷ Refused (StandsOn 4) ∷ []
stands_on_the_first = refl

-- undo in order
abbrev claim_made : List Call
claim_made = trade 100 ∷ offer ∷ call bbb 5 (Claim (node 2 2) b1) ∷ []

abbrev undo : List Call
undo = call bbb 6 (Initiate 3) ∷ call aaa 7 (Initiate 3) ∷ call aaa 8 (Initiate 3)
    ∷ call bbb 9 (Split (node 2 2) (own 15 bbb b1 ∷ own 25 bbb b2 ∷ [])) ∷ call aaa 10 (Reverse 3)
    ∷ call bbb 11 (Initiate 6) ∷ call bbb 12 (Reverse 6) ∷ call aaa 13 (Reverse 3) ∷ []

undo_in_order : answers house (after_all house [] claim_made) (undo ++ call bbb 14 (Claim (node 2 2) b2) ∷ [])
    ≡ Accepted 4 ReversalPending ∷ Accepted 5 ReversalPending ∷ Refused AlreadyConsented ∷ Accepted 6 Held
    ∷ Refused (StandsOn 6) ∷ Accepted 7 ReversalPending ∷ Accepted 8 Reversed ∷ Accepted 9 Reversed
    ∷ Accepted 10 Claimed ∷ []
undo_in_order = refl

undo_in_order_sums : let calls = claim_made ++ undo in
    (long calls aaa a1 ≡ 100) × (long calls bbb b1 ≡ 0) × (paid calls bbb ≡ 0)
    × (map (λ r. r.state) (rows_of (live (after_all house [] calls)) 1) ≡ Held ∷ Held ∷ Offered ∷ [])
undo_in_order_sums = (refl, refl, refl, refl)

-- consents, and what a Decline clears
consents : answers house (after_all house [] claim_made)
    (call ccc 14 (Initiate 3) ∷ call bbb 15 (Initiate 3) ∷ call aaa 16 (Decline 3) ∷ call aaa 17 (Reverse 3)
    ∷ call aaa 18 (Decline 3) ∷ call aaa 19 (Initiate 3) ∷ call aaa 20 (Reverse 3) ∷ [])
    ≡ Refused NotAParty ∷ Accepted 4 ReversalPending ∷ Accepted 5 Held ∷ Refused (NeedsConsent bbb)
    ∷ Refused NothingPending ∷ Accepted 6 ReversalPending ∷ Refused (NeedsConsent bbb) ∷ []
consents = refl

consents_text : refusal_text (NeedsConsent bbb) ≡ decimal 19 ++ codes " needs consent of " ++ codes "BBB"
consents_text = refl

-- repeats: a call made again changes nothing, also where it was reversed
abbrev repeated_split : List Part → Call
repeated_split parts = call aaa 2 (Split (node 1 0) parts)

repeats : answers house []
    (trade 100 ∷ repeated_split (own 60 aaa a1 ∷ own 40 aaa a2 ∷ []) ∷ call aaa 3 (Initiate 2) ∷ call aaa 4 (Reverse 2)
    ∷ repeated_split (own 60 aaa a1 ∷ own 40 aaa a2 ∷ []) ∷ call aaa 4 (Reverse 2)
    ∷ repeated_split (own 50 aaa a1 ∷ own 50 aaa a2 ∷ []) ∷ call bbb 2 (Claim (node 1 0) b1) ∷ [])
    ≡ Accepted 1 Held ∷ Accepted 2 Held ∷ Accepted 3 ReversalPending ∷ Accepted 4 Reversed ∷ Repeated 2 Held
    ∷ Repeated 4 Reversed ∷ Refused (DuplicateId 2) ∷ Refused NotOffered ∷ []
repeats = refl

-- reverse a trade
abbrev trade_reversed : List Call
trade_reversed =
    trade 100 ∷ call hse 2 (Initiate 1) ∷ call aaa 3 (Reverse 1) ∷ call aaa 4 (Initiate 1) ∷ call aaa 5 (Reverse 1) ∷ []

reverse_a_trade : answers house [] trade_reversed
    ≡ Accepted 1 Held ∷ Accepted 2 ReversalPending ∷ Refused (NeedsConsent aaa) ∷ Accepted 3 ReversalPending
    ∷ Accepted 4 Reversed ∷ []
reverse_a_trade = refl

reverse_a_trade_leaves_nothing : (long trade_reversed aaa a1 ≡ 0)
    × (rows_of (live (after_all house [] trade_reversed)) 1 ≡ []) × (live (after_all house [] trade_reversed) ≡ [])
reverse_a_trade_leaves_nothing = (refl, refl, refl)

-- reverse a refusal
abbrev refusal_reversed : List Call
refusal_reversed =
    trade 100 ∷ call aaa 2 (Split (node 1 0) (to 100 bbb ∷ [])) ∷ call bbb 3 (Refuse (node 2 1))
    ∷ call bbb 4 (Initiate 3) ∷ call aaa 5 (Initiate 3) ∷ call bbb 6 (Reverse 3) ∷ call bbb 7 (Claim (node 2 1) b1) ∷ []

reverse_a_refusal : answers house [] refusal_reversed
    ≡ Accepted 1 Held ∷ Accepted 2 Offered ∷ Accepted 3 WasRefused ∷ Accepted 4 ReversalPending
    ∷ Accepted 5 ReversalPending ∷ Accepted 6 Reversed ∷ Accepted 7 Claimed ∷ []
reverse_a_refusal = refl

reverse_a_refusal_position : long refusal_reversed bbb b1 ≡ 100
reverse_a_refusal_position = refl

-- the house table decides who may trade what
house_refusals : answers house []
    (call (codes "DDD") 1 (Split (node 1 0) (own 100 aaa a1 ∷ [])) ∷ call aaa 2 (Trade aaa a1 esz6 Buy 1)
    ∷ call hse 3 (Trade aaa b1 esz6 Buy 1) ∷ call hse 4 (Trade aaa a1 (codes "ESU6") Buy 0) ∷ [])
    ≡ Refused UnknownFirm ∷ Refused HouseOnly ∷ Refused UnknownAccount ∷ Refused UnknownInstrument ∷ []
house_refusals = refl

-- a list of changes whose numbers fall: the split of a trade has a lower number than the trade
abbrev falling : List Record
falling =
    record { number = 5; firm = hse; id = 1 ∷ []; command = Trade aaa a1 esz6 Buy 100; status = Held }
    ∷ record {
      number = 1;
      firm = aaa;
      id = 2 ∷ [];
      command = Split (node 5 0) (own 60 aaa a1 ∷ to 40 bbb ∷ []);
      status = Offered;
    }
    ∷ []

falling_numbers : (first_refused house [] falling ≡ None) × (depth_of falling (node 1 1) ≡ 1)
    × (position_of falling aaa a1 esz6 Buy ≡ 100)
falling_numbers = (refl, refl, refl)

-- ---- terms that are made, raised and reversed

-- a limit of 500 that is raised by 100
abbrev raised : List Call
raised =
    call hse 1 (Trade aaa a1 esz6 Buy 1000)
    ∷ call aaa 2 (Split (node 1 0) (to 500 bbb ∷ to 50 bbb ∷ to 50 bbb ∷ own 400 aaa a1 ∷ []))
    ∷ call bbb 3 (Claim (node 2 1) b1) ∷ call bbb 4 (Claim (node 2 2) b1) ∷ call bbb 5 (Raise aaa 100)
    ∷ call bbb 6 (Claim (node 2 2) b1) ∷ call bbb 7 (Claim (node 2 3) b1) ∷ []

raise_and_claim : answers house [] raised
    ≡ Accepted 1 Held ∷ Accepted 2 Offered ∷ Accepted 3 Claimed ∷ Refused LimitExceeded ∷ Accepted 4 Held
    ∷ Accepted 5 Claimed ∷ Accepted 6 Claimed ∷ []
raise_and_claim = refl

abbrev lowered : List Call
lowered =
    call bbb 8 (Initiate 4) ∷ call aaa 9 (Initiate 4) ∷ call aaa 10 (Reverse 4) ∷ call bbb 11 (Initiate 5)
    ∷ call aaa 12 (Initiate 5) ∷ call aaa 13 (Reverse 5) ∷ call aaa 14 (Reverse 4) ∷ call bbb 15 (Initiate 6)
    ∷ call aaa 16 (Initiate 6) ∷ call aaa 17 (Reverse 6) ∷ call aaa 18 (Reverse 4) ∷ []

-- the reversal of the raise names the first of the claims that pass the limit without it
raise_and_reverse : answers house (after_all house [] raised) lowered
    ≡ Accepted 7 ReversalPending ∷ Accepted 8 ReversalPending ∷ Refused (StandsOn 5) ∷ Accepted 9 ReversalPending
    ∷ Accepted 10 ReversalPending ∷ Accepted 11 Reversed ∷ Refused (StandsOn 6) ∷ Accepted 12 ReversalPending
    ∷ Accepted 13 ReversalPending ∷ Accepted 14 Reversed ∷ Accepted 15 Reversed ∷ []
raise_and_reverse = refl

raise_and_reverse_sums : let l = live (after_all house [] (raised ++ lowered)) in
    (used_of l aaa bbb ≡ 500) × (limit_of house l aaa bbb ≡ Some 500) × (paid_by house l bbb ≡ 62500)
raise_and_reverse_sums = (refl, refl, refl)

-- 450 of 500 used before the raise: it is the second of the later claims that passes the limit without it
raise_after_a_claim : answers house [] (
    call hse 1 (Trade aaa a1 esz6 Buy 1000)
    ∷ call aaa 2 (Split (node 1 0) (to 450 bbb ∷ to 50 bbb ∷ to 50 bbb ∷ own 450 aaa a1 ∷ []))
    ∷ call bbb 3 (Claim (node 2 1) b1) ∷ call bbb 4 (Raise aaa 100) ∷ call bbb 5 (Claim (node 2 2) b1)
    ∷ call bbb 6 (Claim (node 2 3) b1) ∷ call bbb 7 (Initiate 4) ∷ call aaa 8 (Initiate 4) ∷ call aaa 9 (Reverse 4)
    ∷ []) ≡ Accepted 1 Held ∷ Accepted 2 Offered ∷ Accepted 3 Claimed ∷ Accepted 4 Held ∷ Accepted 5 Claimed
    ∷ Accepted 6 Claimed ∷ Accepted 7 ReversalPending ∷ Accepted 8 ReversalPending ∷ Refused (StandsOn 6) ∷ []
raise_after_a_claim = refl

-- no terms in the table: they are made by calls
abbrev bare : House
bare = record house { agreements = [] }

abbrev made : List Call
made = call hse 1 (Agree aaa bbb 125 500) ∷ call hse 2 (Agree bbb ccc 40 100) ∷ call hse 3 (Trade aaa a1 esz6 Buy 100)
    ∷ call aaa 4 (Split (node 3 0) (own 60 aaa a1 ∷ to 40 bbb ∷ [])) ∷ call bbb 5 (Claim (node 4 2) b1) ∷ []

made_by_calls : answers bare []
    (made ++ call hse 6 (Initiate 1) ∷ call aaa 7 (Initiate 1) ∷ call aaa 8 (Reverse 1) ∷ call bbb 9 (Initiate 1)
    ∷ call hse 10 (Reverse 1) ∷ call hse 11 (Agree aaa bbb 10 10) ∷ call aaa 12 (Agree aaa bbb 10 10)
    ∷ call hse 13 (Agree aaa aaa 1 1) ∷ call hse 14 (Agree ccc aaa 100001 0) ∷ call aaa 15 (Raise bbb 1)
    ∷ call hse 16 (Agree ccc aaa 50 0) ∷ [])
    ≡ Accepted 1 Held ∷ Accepted 2 Held ∷ Accepted 3 Held ∷ Accepted 4 Offered ∷ Accepted 5 Claimed
    ∷ Accepted 6 ReversalPending ∷ Accepted 7 ReversalPending ∷ Refused (NeedsConsent bbb) ∷ Accepted 8 ReversalPending
    ∷ Refused (StandsOn 5) ∷ Refused AgreementExists ∷ Refused HouseOnly ∷ Refused OwnAgreement ∷ Refused BadTerms
    ∷ Refused NoAgreement ∷ Accepted 9 Held ∷ []
made_by_calls = refl

-- a raise is refused by the order of its row: an unknown giver, no terms, no lots or too many
raise_refusals : answers house []
    (call bbb 1 (Raise (codes "DDD") 0) ∷ call aaa 2 (Raise bbb 0) ∷ call bbb 3 (Raise aaa 0)
    ∷ call bbb 4 (Raise aaa 9999999999501) ∷ call bbb 5 (Raise aaa 9999999999500) ∷ call bbb 6 (Raise aaa 1) ∷ [])
    ≡ Refused UnknownFirm ∷ Refused NoAgreement ∷ Refused BadTerms ∷ Refused BadTerms ∷ Accepted 1 Held
    ∷ Refused BadTerms ∷ []
raise_refusals = refl
