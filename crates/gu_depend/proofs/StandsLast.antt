-- A change that stands under none of those behind it can stand behind them all.
use Rattle.gu_depend.proofs
use proofs.Deals.{accepted_follows, deal, dealings_append, dealings_cut, dealings_grown, deals_some, dealt}
use proofs.Deals.{deed_in, facts, first_on_deal, front_within, left_out, named_once, numbered, pair_told, unfit_without}
use proofs.Finds.{filter_one, find_beside, found_once, moved_to_end, stands_between}
use proofs.Grown.{AllFollow, follow_append, Follows, follows_more, Grown, grown_none, makers_once, node_by_maker}
use proofs.{Grown.Within, Replay.{finds, first_along, grown_along, Legal, none_along, NumbersOnce, order_within}}
use proofs.{State.state_same, Vocabulary.{Agreement, agreement}}
use proofs.Vocabulary.{AllFit, ap, append-nil, append_assoc, Bool, Cancel, cases_Bool, Claim, Command, Contains}
use proofs.Vocabulary.{Dealing, dealings_in, decides, Decides-eqb, Deed, EntryPart, false, false_from_ne_true, find}
use proofs.Vocabulary.{find_passes, first_refused, first_unfit, found_in, House, inl, inr, is_given, is_some, is_under}
use proofs.Vocabulary.{IsSameState, legal_from_replay, limit_under, List, list_any, made_of, name_is, names, no_some}
use proofs.Vocabulary.{Node, node_of, nodes_of, None, none_or_some, none_refused, nothing_here, Option, option_map}
use proofs.Vocabulary.{or_cases, Record, refl, refusal_parts, Refuse, row, same_name, Some, Split, splits, stands_under}
use proofs.Vocabulary.{sym, terms_under, Trade, true, used_under, without, [], ℕ, ◌++◌, ◌+◌, ◌∙◌, ◌∷◌, ◌≡◌}
use Rattle.gu_base.proofs.Dealt.{fit_last, none_unfit, raised_last, terms_last, used_last}
use Rattle.std.proofs.lemmas.List.Folds.{list_any_at}

-- behind changes of which none is refused, the replay goes on
pub replay_on : (t : House) (done l m : List Record) → first_refused t done l ≡ None
    → first_refused t done (l ++ m) ≡ first_refused t (done ++ l) m
replay_on t done [] m h = rw (append-nil done)
replay_on t done (d ∷ l) m h =
    let p = none_refused _ _ (first_refused t (done ++ d ∷ []) l) h in
    cc (replay_on t (done ++ d ∷ []) l m p.1, append_assoc done _ l)

-- ---- a change that another doesn't stand under

-- an element that passes is one of them
pub any_in : {X : Type 0} (p : X → Bool) (xs : List X) (x : X) → Contains xs x → p x ≡ true → list_any p xs ≡ true
any_in p xs x among passes = list_any_at p xs _ x among.1 (cc)

module _ (k : ℕ) (by : List ℕ) (c : Command) (n : EntryPart) where
  -- a change stands under one that names a node that it makes
  under_made : (d : Command) (x : Node) → find (λ x. same_name x.name n) (nodes_of k by d) ≡ Some x → names n c ≡ true
      → (decides n c ≡ true → is_given x.kind ≡ true) → is_under k by d c ≡ true
  under_made (Trade _ _ _ _ _) x found is given =
      let p : EntryPart = record { entry = k; part = 0 } in
      elim (cases_Bool _) [
        | inl same ↦ elim (or_cases _ (decides n c) is) [
          | inl split ↦ cc (name_is p n same)
          | inr decided ↦ cc (given decided)
        ]
        | inr other ↦ cc
      ]
  under_made (Split m ps) x found is given =
      let nodes = nodes_of k by (Split m ps) in
      let called = name_is _ n (find_passes _ nodes x found) in
      any_in _ nodes x (found_in _ nodes x found) (rw called is)
  under_made _ x found is given = cc

  -- and under one that splits a node that it decides
  under_decided : (d : Command) → decides n d ≡ true → splits n c ≡ true → is_under k by d c ≡ true
  under_decided (Claim m _) is split = rw (name_is m n is) split
  under_decided (Refuse m) is split = rw (name_is m n is) split
  under_decided (Cancel m) is split = rw (name_is m n is) split
  under_decided _ is split = cc

-- the node that a change makes is that of its name
pub node_of_maker : (l : List Record) (k : Record) (n : EntryPart) (x : Node) → NumbersOnce l → Contains l k
    → made_of k n ≡ Some x → node_of l n ≡ Some x
node_of_maker l k n x once among h = cc (node_by_maker l n, found_once _ l k among (rw h) (makers_once l n (once _)))

-- a change of a legal list is accepted behind those before it
pub accepted_at : (t : House) (l b : List Record) (r : Record) (rest : List Record) → Legal t l → l ≡ b ++ r ∷ rest
    → row t b r.firm r.command ≡ None
accepted_at t l b r rest legal e =
    (refusal_parts t b _ _ ((legal_from_replay t l legal.replayed).accepted b rest r e)).1

pub follows_at : (t : House) (l b : List Record) (r : Record) (rest : List Record) → Legal t l → l ≡ b ++ r ∷ rest
    → Follows l b r.command
follows_at t l b r rest legal e =
    accepted_follows t l b _ _ (named_once t l legal.replayed) (front_within l b _ e) (accepted_at t l b r _ legal e)

-- in a legal list each change follows what it stands on
all_follow : (t : House) (l b rest tail : List Record) → Legal t l → l ≡ b ++ (rest ++ tail) → AllFollow l b rest
all_follow t l b [] tail legal e = tt
all_follow t l b (r ∷ rest) tail legal e = (
  follows_at t l b r _ legal e,
  all_follow t l _ rest _ legal (e ∙ sym (append_assoc b _ _)),
)

-- ---- what deals, last

-- behind the others what is dealt fits, and it leaves the same terms, limit and use
record IsLast (file : Option Agreement) (r : Record) (o : Option Deed) (xs ys : List Dealing) : Type 0 where
  fit : AllFit file [] ((xs ++ ys) ++ dealt r o [])
  terms : terms_under file ((xs ++ ys) ++ dealt r o []) ≡ terms_under file (xs ++ dealt r o ys)
  limits : limit_under file ((xs ++ ys) ++ dealt r o []) ≡ limit_under file (xs ++ dealt r o ys)
  used : used_under ((xs ++ ys) ++ dealt r o []) ≡ used_under (xs ++ dealt r o ys)

dealt_last : (file : Option Agreement) (r : Record) (o : Option Deed) (xs ys : List Dealing)
    → AllFit file [] (xs ++ dealt r o ys) → AllFit file [] (xs ++ ys) → IsLast file r o xs ys
dealt_last file r None xs ys all others =
    let e = append-nil (xs ++ ys) in
    record {
      fit = rw e others;
      terms = rw e;
      limits = rw e;
      used = rw e;
    }
dealt_last file r (Some d) xs ys all others =
    let terms = terms_last _ xs (numbered r d) ys all others in
    record {
      fit = fit_last _ xs (numbered r d) ys all others;
      terms = terms;
      limits = λ i. option_map (λ a. a.limit + raised_last xs (numbered r d) ys i) (terms i);
      used = used_last xs (numbered r d) ys;
    }

-- ---- a legal list without one change

module _ (t : House) (p : List Record) (k : Record) (s : List Record) (legal : Legal t (p ++ k ∷ s)) where
  abbrev pub whole : List Record
  whole = p ++ k ∷ s

  abbrev pub last : List Record
  last = (p ++ s) ++ k ∷ []

  -- a change that doesn't stand under the one names none of its nodes, and splits none that it decides
  unnamed : (e : Record) → Contains whole e → stands_under k e ≡ false → (n : EntryPart)
      → (names n e.command ≡ true → made_of k n ≡ None) × (splits n e.command ≡ true → decides n k.command ≡ false)
  unnamed e among un n = (
    λ is.
        no_some _ (λ x found.
        cc (
          (under_made _ _ e.command n k.command x found is
              (λ decided. let once = named_once t whole legal.replayed in
              let y = once.given n e (found_once _ whole e among decided (once.decisions_once n)) in
              cc (node_of_maker whole k n x legal.once (stands_between p k s) found))),
          un,
        )),
    λ split.
        false_from_ne_true _ (λ is. cc (under_decided k.number k.firm e.command n k.command is split)),
  )

  -- so without it, such a change follows what it stands on
  beside : (z rest : List Record) → s ≡ z ++ rest → find (stands_under k) rest ≡ None → AllFollow whole (p ++ z) rest
  beside z [] cut un = tt
  beside z (r ∷ rest) cut un =
      let there = ap (λ z. p ++ k ∷ z) cut ∙ sym (append_assoc p _ _) in
      let f = follows_at t _ _ r _ legal there in
      let q = nothing_here _ r _ un in
      let away = unnamed r (rw there (stands_between _ r rest)) q.0 in (
        record {
          there = λ n is. let y = f.there n is in (
            y.0,
            cc (node_by_maker _ n, find_beside _ p k z (ap is_some ((away n).0 is)), node_by_maker (p ++ z) n),
          );
          decided = λ n is. sym (find_beside _ p k z ((away n).1 is)) ∙ f.decided n is;
        },
        rw (append_assoc p z _) (beside (z ++ r ∷ []) rest (cc (append_assoc z _ rest)) q.1),
      )

  others_follow : find (stands_under k) s ≡ None → AllFollow whole [] (p ++ s)
  others_follow un =
      follow_append _ [] p s (all_follow t _ [] p _ legal refl) (rw (append-nil p) at (beside [] s refl un))

  -- what is found without it is found in the whole
  pub within_whole : Within whole (p ++ s)
  within_whole = order_within _ _ _ (k ∷ []) (finds t _ _ legal (moved_to_end p k s)) refl

  -- and it follows what it stands on behind them all
  last_follows : find (stands_under k) s ≡ None → AllFollow whole [] last
  last_follows un =
      follow_append _ [] _ (k ∷ []) (others_follow un)
      (follows_more _ p s _ within_whole (follows_at t _ p k s legal refl), tt)

  pub grown_without : find (stands_under k) s ≡ None → Grown whole (p ++ s)
  grown_without un = grown_along t _ _ legal (moved_to_end p k s) [] _ (k ∷ []) refl (others_follow un) (grown_none _)

  pub gone : without whole k.number ≡ p ++ s
  gone = filter_one _ p k s ((Decides-eqb k.number k.number).1 refl) (legal.once k.number)

  -- ---- what deals

  deals_whole : (x y : List ℕ) → AllFit (agreement t x y) []
      (dealings_in whole p x y ++ dealt k (deed_in whole x y k) (dealings_in whole s x y))
  deals_whole x y = rw (dealings_append _ p _ x y) at ((facts t _ legal.replayed).deals x y)

  -- where the change deals for them, the first that doesn't fit without it is the first that stands on it
  unfit_here : (x y : List ℕ) (d : Deed) → deed_in whole x y k ≡ Some d
      → first_unfit (agreement t x y) [] (dealings_in whole (p ++ s) x y)
      ≡ first_on_deal t whole k
  unfit_here x y d e =
      let all =
      rw e at (deals_whole x y) in
      let cut = dealings_cut whole p k s x y _ e in
      let others = dealings_append whole p s x y in
      let first = unfit_without _ _ _ _ all (cc (left_out whole x y k.number whole, gone)) d refl in
      cc ((deal whole _ _ x y d e).under t k.number)

  -- for all others, each fits
  fit_others : (x y : List ℕ) → deed_in whole x y k ≡ None
      → AllFit (agreement t x y) [] (dealings_in whole (p ++ s) x y)
  fit_others x y e = rw (dealings_append _ p s x y) (rw e at (deals_whole x y))

  -- where nothing stands on what it deals, all others fit
  fit_without : first_on_deal t whole k ≡ None → (x y : List ℕ)
      → AllFit (agreement t x y) [] (dealings_in whole (p ++ s) x y)
  fit_without under x y = elim (none_or_some _) [
    | inl none ↦ fit_others x y none
    | inr d ↦ none_unfit _ [] _ (unfit_here x y d.0 d.1 ∙ under)
  ]

  -- where nothing stands under it by a node, the first that is refused without it is the first that stands under what
  -- it deals
  pub standing_deals : find (stands_under k) s ≡ None → first_refused t [] (p ++ s) ≡ first_on_deal t whole k
  standing_deals un = elim (none_or_some _) [
    | inl none ↦
        none_along t _ _ legal (moved_to_end p k s) _ (k ∷ []) refl (others_follow un) (fit_without none)
        ∙ sym none
    | inr m ↦ (
        let (x, y, d, deals) = deals_some t whole k.number k.firm k.command m.0 m.1 in
        first_along t _ _ legal (moved_to_end p k s) x y [] _ (k ∷ []) refl (grown_none _) (others_follow un)
        (λ u v. elim (none_or_some _) [
          | inl none ↦ inl (fit_others u v none)
          | inr f ↦ inr (pair_told _ _ (cc
              (sym (deal whole k.firm k.command x y d deals).of, (deal whole k.firm k.command u v f.0 f.1).of)))
        ]) ∙ unfit_here x y d deals)
  ]

  -- ---- the change last, where the others alone fit

  found_last : (x y : List ℕ) → dealings_in whole last x y
      ≡ (dealings_in whole p x y ++ dealings_in whole s x y) ++ dealt k (deed_in whole x y k) []
  found_last x y = cc (dealings_append _ _ _ x y, dealings_append _ p s x y)

  pub stands_last : find (stands_under k) s ≡ None → first_on_deal t whole k ≡ None
      → (first_refused t [] last ≡ None) × IsSameState t whole last
  stands_last un under =
      let left = λ (x y : List ℕ).
      dealt_last (agreement t x y) k (deed_in whole x y k) (dealings_in whole p x y) (dealings_in whole s x y)
      (deals_whole x y) (rw (dealings_append whole p s x y) at (fit_without under x y)) in
      let grown = grown_along t _ _ legal (moved_to_end p k s) [] last [] (sym (append-nil last)) (last_follows un)
      (grown_none _) in
      let found = λ (x y : List ℕ). dealings_grown whole last x y grown ∙ found_last x y in (
        none_along t _ _ legal (moved_to_end p k s) last [] (sym (append-nil last)) (last_follows un)
            (λ x y. rw (found_last x y) (left x y).fit),
        state_same t _ _ (moved_to_end p k s) legal.once (named_once t _ legal.replayed) (record {
          terms = λ x y. cc (found x y, dealings_append whole p _ x y, (left x y).terms);
          limits = λ x y. cc (found x y, dealings_append whole p _ x y, (left x y).limits);
          used = λ x y. cc (found x y, dealings_append whole p _ x y, (left x y).used);
        }),
      )
