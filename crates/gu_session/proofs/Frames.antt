-- Along every list of steps, the frames that are sent again are those that were sent.
use Rattle.std.proofs.Common.{◌≡◌, ℕ, List, [], ◌∷◌, ◌++◌, map, refl, sym, ap, subst, ◌∙◌, arith}
use Rattle.std.specs.Prelude.{Option, Some, None, decimal}
use Rattle.std.specs.List.{All, Contains}
use Rattle.std.proofs.lemmas.List.{map-append}
use Rattle.std.proofs.lemmas.List.Elements.{All-nil, All-cons, All-map, All-weaker, All-contains, Contains-append_right}
use Rattle.jiff.specs.Types.{Timestamp}
use Rattle.gu_base.specs.House.{House}
use Rattle.gu_base.specs.declared.entry.Answer.{Answer}
use Rattle.gu_base.specs.declared.report.Report.{Report}
use Rattle.gu_codec.specs.Tags as tag
use Rattle.gu_codec.specs.Writing.{frame_text, fields_text, header_pairs}
use Rattle.gu_message.specs.Heading.{heading_of}
use Rattle.gu_message.specs.Meaning.{meaning_of}
use Rattle.gu_session.specs.Going.{Going}
use Rattle.gu_session.specs.Steps.{Seen, Event, Came, Tick, Reply, End, Outcome, filling, fits, replies, on_event}
use Rattle.gu_session.specs.Steps.{step_of, opening}
use Rattle.gu_session.specs.Text.{text_of}
use Rattle.gu_session.specs.Runs.{outcomes, new_of, again_of, frames_to, frames_of, IsSentAgain, IsAgain, Fills}
use Rattle.gu_session.specs.Runs.{Repeats, IsAsSent, ResendsAreAsSent}
use Rattle.gu_base.proofs.Basics.{either_way}
use Rattle.gu_session.proofs.Lines.{firm_on_message, firm_on_tick}
use Rattle.gu_session.proofs.Stepping.{moves_step}
use Rattle.gu_session.proofs.Runs.{Early}
use Rattle.gu_session.proofs.Resends.{as_new, IsEcho, Fills as EchoFills, Repeats as EchoRepeats}
use Rattle.gu_session.proofs.AsSent.{sent_by, AreEchoes, resends_echo}

-- ---- the firm and the house stay

-- of a Reply, of each event, of each step
replies_firm : (now : Timestamp) (s : Seen) (firm : Option (List ℕ)) (answer : Option Answer) (reports : List Report)
    → (replies now s firm answer reports).after.link.firm ≡ s.link.firm
replies_firm now s None answer reports = refl
replies_firm now s (Some firm) answer reports = refl

event_firm : (now : Timestamp) (s : Seen) (e : Event) (firm : List ℕ) → s.link.firm ≡ Some firm
    → (on_event now s e).after.link.firm ≡ s.link.firm
event_firm now s (Came fs) firm is =
    firm_on_message now s.house s.link firm (heading_of s.house.house fs) (meaning_of s.house.house fs) _ is
event_firm now s Tick firm is = firm_on_tick now s.link s.link.firm
event_firm now s (Reply answer reports) firm is = replies_firm now s s.link.firm answer reports
event_firm now s End firm is = refl

step_firm : (now : Timestamp) (s : Seen) (e : Event) (firm : List ℕ) → s.link.firm ≡ Some firm
    → (step_of now s e).after.link.firm ≡ Some firm
step_firm now s e firm is =
    either_way (λ (o : Outcome). o.after.link.firm ≡ Some firm) s.link.closed _ _ (λ _. is) (λ _.
    either_way (λ (o : Outcome). o.after.link.firm ≡ Some firm) (fits (on_event now s e).after.link) _ _
    (λ _. event_firm now s e firm is ∙ is) (λ _. is))

-- and so the house
replies_house : (now : Timestamp) (s : Seen) (firm : Option (List ℕ)) (answer : Option Answer) (reports : List Report)
    → (replies now s firm answer reports).after.house ≡ s.house
replies_house now s None answer reports = refl
replies_house now s (Some firm) answer reports = refl

event_house : (now : Timestamp) (s : Seen) (e : Event) → (on_event now s e).after.house ≡ s.house
event_house now s (Came fs) = refl
event_house now s Tick = refl
event_house now s (Reply answer reports) = replies_house now s s.link.firm answer reports
event_house now s End = refl

step_house : (now : Timestamp) (s : Seen) (e : Event) → (step_of now s e).after.house ≡ s.house
step_house now s e =
    either_way (λ (o : Outcome). o.after.house ≡ s.house) s.link.closed _ _ (λ _. refl) (λ _.
    either_way (λ (o : Outcome). o.after.house ≡ s.house) (fits (on_event now s e).after.link) _ _
    (λ _. event_house now s e) (λ _. refl))

-- ---- the frames of what was sent

-- the frame of a message that was sent at a time, with its number
abbrev framed : List ℕ → List ℕ → List ℕ × Going → ℕ × List ℕ
framed house firm x = (x.1.number, text_of house firm x.0 x.1)

-- all of them, before the Logon none
abbrev all_framed : List ℕ → Option (List ℕ) → List (List ℕ × Going) → List (ℕ × List ℕ)
all_framed house None sent = []
all_framed house (Some firm) sent = map (framed house firm) sent

-- those of one time, and of more
framed_at : (house firm time : List ℕ) (ms : List Going)
    → map (framed house firm) (map (λ m. (time, m)) ms) ≡ map (λ m. (m.number, text_of house firm time m)) ms
framed_at house firm time [] = refl
framed_at house firm time (m ∷ ms) =
    ap (λ (t : List (ℕ × List ℕ)). (m.number, text_of house firm time m) ∷ t) (framed_at house firm time ms)

framed_more : (house : List ℕ) (firm : Option (List ℕ)) (time : List ℕ) (sent : List (List ℕ × Going)) (ms : List Going)
    → all_framed house firm (sent ++ map (λ m. (time, m)) ms)
    ≡ all_framed house firm sent ++ frames_to house firm time ms
framed_more house None time sent ms = refl
framed_more house (Some firm) time sent ms =
    map-append (framed house firm) sent (map (λ m. (time, m)) ms)
    ∙ ap (λ (t : List (ℕ × List ℕ)). map (framed house firm) sent ++ t) (framed_at house firm time ms)

-- nothing was sent to nobody
framed_none : (house : List ℕ) (firm : Option (List ℕ)) → all_framed house firm [] ≡ []
framed_none house None = refl
framed_none house (Some firm) = refl

some_or_none : (house : List ℕ) (before after : Option (List ℕ)) (sent : List (List ℕ × Going))
    → (before ≡ None → sent ≡ []) → ((firm : List ℕ) → before ≡ Some firm → after ≡ Some firm)
    → all_framed house before sent ≡ all_framed house after sent
some_or_none house None after sent none stays =
    let is : sent ≡ [] = none refl in
    rw is (sym (framed_none house after))
some_or_none house (Some firm) after sent none stays =
    let is : after ≡ Some firm = stays firm refl in
    rw is refl

-- ---- a message that echoes is a frame sent again

-- what a message is made by f stands there
abbrev StandsIn : (List ℕ × Going → ℕ × List ℕ) → List (ℕ × List ℕ) → List ℕ × Going → Type 0
StandsIn f ys x = Contains ys (f x)

all_in : (f : List ℕ × Going → ℕ × List ℕ) (xs : List (List ℕ × Going)) → All (StandsIn f (map f xs)) xs
all_in f [] = All-nil (StandsIn f [])
all_in f (x ∷ xs) =
    All-cons (StandsIn f (f x ∷ map f xs)) x xs (0, omega arith, refl)
    (All-weaker (StandsIn f (map f xs)) (StandsIn f (f x ∷ map f xs))
    (λ y c. Contains-append_right (f x ∷ []) (map f xs) (f y) c) xs (all_in f xs))

-- a message, and the same one sent again
sent_again : (house firm time sent : List ℕ) (m : Going) → m.first ≡ Some sent
    → IsSentAgain (text_of house firm sent (as_new m)) (text_of house firm time m)
sent_again house firm time sent m is = record {
  before = (tag.msg_type, m.kind) ∷ (tag.sender_comp_id, house) ∷ (tag.target_comp_id, firm)
      ∷ (tag.msg_seq_num, decimal m.number) ∷ [];
  behind = m.body;
  sent = sent;
  time = time;
  first_is = refl;
  again_is =
      ap (λ (f : Option (List ℕ)).
      frame_text (fields_text
      (header_pairs
      (record { kind = m.kind; sender = house; target = firm; number = m.number; sent = time; resent = f }))
      ++ m.body))
      is;
}

-- one that fills a gap
fills_frame : (house firm time first : List ℕ) (sent : List (ℕ × List ℕ)) (from next : ℕ) (m : Going)
    → m ≡ filling first from next → IsAgain sent (m.number, text_of house firm time m)
fills_frame house firm time first sent from next m is =
    subst (λ (g : Going). IsAgain sent (g.number, text_of house firm time g)) (sym is)
    (Fills house firm time first next refl)

-- either
echo_again : (house firm time : List ℕ) (sent : List (List ℕ × Going)) (m : Going) → IsEcho sent m
    → IsAgain (map (framed house firm) sent) (m.number, text_of house firm time m)
echo_again house firm time sent m (EchoFills first from next is) =
    fills_frame house firm time first (map (framed house firm) sent) from next m is
echo_again house firm time sent m (EchoRepeats first is c) =
    Repeats (text_of house firm first (as_new m))
    (All-contains (StandsIn (framed house firm) (map (framed house firm) sent)) sent (first, as_new m)
    (all_in (framed house firm) sent) c)
    (sent_again house firm time first m is)

echoes_again : (house : List ℕ) (firm : Option (List ℕ)) (time : List ℕ) (sent : List (List ℕ × Going))
    (ms : List Going) → All (IsEcho sent) ms → All (IsAgain (all_framed house firm sent)) (frames_to house firm time ms)
echoes_again house None time sent ms h = All-nil (IsAgain [])
echoes_again house (Some firm) time sent ms h =
    All-map (IsAgain (map (framed house firm) sent)) (λ (m : Going). (m.number, text_of house firm time m)) ms
    (All-weaker (IsEcho sent)
    (λ (m : Going). IsAgain (map (framed house firm) sent) (m.number, text_of house firm time m))
    (λ m e. echo_again house firm time sent m e) ms h)

-- ---- along the steps

-- where there is no firm yet, nothing was sent
none_before : (before after : Option (List ℕ)) → ((firm : List ℕ) → before ≡ Some firm → after ≡ Some firm)
    → after ≡ None → before ≡ None
none_before None after stays is = refl
none_before (Some firm) after stays is = absurd (never firm (sym (stays firm refl) ∙ is))
  where
    never : (x : List ℕ) → Some x ≡ None → ⊥
    never x e = cc

none_sent : (sent : List (List ℕ × Going)) (o : Outcome) → sent ≡ [] → o.send ≡ [] → sent ++ sent_by o ≡ []
none_sent sent o none mute = rw (none, mute) refl

frames_as_sent : (sent : List (List ℕ × Going)) (frames : List (ℕ × List ℕ)) (s : Seen) (es : List (Timestamp × Event))
    → Early s → (s.link.firm ≡ None → sent ≡ []) → frames ≡ all_framed s.house.house s.link.firm sent
    → AreEchoes sent (outcomes s es) → IsAsSent frames (outcomes s es)
frames_as_sent sent frames s [] early none is h = tt
frames_as_sent sent frames s (e ∷ es) early none is h =
    let o = step_of e.0 s e.1 in
    let m = moves_step e.0 s e.1 early in
    let stays : (firm : List ℕ) → s.link.firm ≡ Some firm → o.after.link.firm ≡ Some firm = step_firm e.0 s e.1 in
    let here : frames ≡ all_framed o.after.house.house o.after.link.firm sent =
    is ∙ ap (λ (t : House). all_framed t.house s.link.firm sent) (sym (step_house e.0 s e.1))
    ∙ some_or_none o.after.house.house s.link.firm o.after.link.firm sent none stays in
    let still : o.after.link.firm ≡ None → sent ++ sent_by o ≡ [] =
    λ n. none_sent sent o (none (none_before s.link.firm o.after.link.firm stays n)) (m.mute n) in
    let next : frames ++ frames_of o (new_of o.send)
    ≡ all_framed o.after.house.house o.after.link.firm (sent ++ sent_by o) =
    ap (λ (t : List (ℕ × List ℕ)). t ++ frames_of o (new_of o.send)) here
    ∙ sym (framed_more o.after.house.house o.after.link.firm o.time sent (new_of o.send)) in (
      subst (λ (t : List (ℕ × List ℕ)). All (IsAgain t) (frames_of o (again_of o.send))) (sym here)
          (echoes_again o.after.house.house o.after.link.firm o.time sent (again_of o.send) h.0),
      frames_as_sent (sent ++ sent_by o) (frames ++ frames_of o (new_of o.send)) o.after es m.early still next h.1,
    )

pub resends_are_as_sent : ResendsAreAsSent
resends_are_as_sent t never es =
    frames_as_sent [] [] (opening t never) es (omega arith, refl) (λ _. refl) refl (resends_echo t never es)
