-- What is sent, and what is left.
use Rattle.std.proofs.Common.{◌≡◌, ℕ, ◌+◌, List, [], ◌∷◌, ◌++◌, take, drop, length, refl, sym, ap, ◌∙◌, arith}
use Rattle.std.proofs.Common.{length-append, append-nil, append_assoc, slice_index_or, ◌≤◌, Bool, true, false, not}
use Rattle.std.proofs.Common.{IsTrue, leb, subst}
use Rattle.std.proofs.lemmas.Bool.{le-leb}
use Rattle.std.proofs.Math.Seq.{drop-append-add, take-append-add}
use Rattle.std.proofs.lemmas.List.{drop-append-le, drop-map, map-append, take-append-drop, take-append-le}
use Rattle.std.proofs.lemmas.List.Elements.{All-append, All-drop, All-map}
use Rattle.gu_base.specs.declared.entry.Entry.{Entry}
use Rattle.gu_desk.specs.Begins.{BeginsWith}
use Rattle.gu_desk.specs.Views.{TicketView}
use Rattle.gu_desk.proofs.Moves.{begins_itself, begins_with_all}
use Rattle.gu_recorder.specs.Waiting.{Outgoing, Together, bytes_of, last_of, made_of, RestOn, Sends}
use Rattle.gu_recorder.specs.declared.made.MadeByte.{MadeByte}

-- they are the bytes of what is left
pub left_bytes : (n : ℕ) (bytes : List ℕ) (made : List MadeByte) → bytes ≡ bytes_of made
    → drop n bytes ≡ bytes_of (drop n made)
left_bytes n bytes made same =
    ap (λ (l : List ℕ). drop n l) same ∙ drop-map (λ (m : MadeByte). m.byte) n made

-- and rest on what all rested on
pub left_rests : (n : ℕ) (made : List MadeByte) (h : List Entry) → RestOn made h → RestOn (drop n made) h
left_rests n made h rests = All-drop (λ (m : MadeByte). BeginsWith h m.history) n made rests

-- what a batch has sent, and what it has left
abbrev pub batch : List MadeByte → Together → Outgoing
batch sent b = record { sent = sent; waits = b.made; rests = b.seen }

-- the same of both
abbrev pub both : Bool → List MadeByte → Together → Together → Outgoing
both into_back sent front back =
    record { sent = sent; waits = front.made ++ back.made; rests = last_of into_back front back }

-- what the last was made of stays where a batch does
same_last : (b : Bool) (front left back : Together) → left.seen ≡ front.seen
    → last_of b left back ≡ last_of b front back
same_last true front left back e = refl
same_last false front left back e = e

-- and where both are turned round
turned_last : (b : Bool) (front back now gone : Together) → gone.seen ≡ front.seen → now.seen ≡ back.seen
    → last_of (not b) now gone ≡ last_of b front back
turned_last true front back now gone e f = f
turned_last false front back now gone e f = e

-- a front of the front is one of both
pub sends_front : (b : Bool) (front back left : Together) (before after : List MadeByte)
    → Sends (batch before front) (batch after left) → Sends (both b before front back) (both b after left back)
sends_front b front back left before after first = record {
  count = first.count;
  within = omega (arith, length-append front.made back.made, first.within);
  sent = first.sent ∙ ap (λ (l : List MadeByte). before ++ l)
      (sym (take-append-le first.count front.made back.made first.within));
  left = ap (λ (l : List MadeByte). l ++ back.made) first.left
      ∙ sym (drop-append-le first.count front.made back.made first.within);
  rests = same_last b front left back first.rests;
}

-- all of the front and a front of the back are a front of both
pub sends_on : (b : Bool) (front back now gone : Together) (before between after : List MadeByte)
    → gone.made ≡ [] → Sends (batch before front) (batch between gone)
    → Sends (batch between back) (batch after now)
    → Sends (both b before front back) (both (not b) after now gone)
sends_on b front back now gone before between after none first second =
    let m = second.count in
    let whole : take first.count front.made ≡ front.made =
    sym (append-nil (take first.count front.made))
    ∙ ap (λ (l : List MadeByte). take first.count front.made ++ l) (sym none ∙ first.left)
    ∙ take-append-drop first.count front.made in
    let all : between ≡ before ++ front.made = first.sent ∙ ap (λ (l : List MadeByte). before ++ l) whole in
    record {
      count = length front.made + m;
      within = omega (arith, length-append front.made back.made, second.within);
      sent =
          second.sent ∙ ap (λ (l : List MadeByte). l ++ take m back.made) all
          ∙ append_assoc before front.made (take m back.made)
          ∙ ap (λ (l : List MadeByte). before ++ l) (sym (take-append-add front.made back.made m));
      left =
          ap (λ (l : List MadeByte). now.made ++ l) none ∙ append-nil now.made ∙ second.left
          ∙ sym (drop-append-add front.made back.made m);
      rests = turned_last b front back now gone first.rests second.rests;
    }

-- what is made of a history has these bytes
made_bytes : (out : List ℕ) (h : List Entry) → bytes_of (made_of out h) ≡ out
made_bytes [] h = refl
made_bytes (b ∷ out) h = ap (λ (l : List ℕ). b ∷ l) (made_bytes out h)

-- and behind others they stand behind their bytes
pub more_bytes : (bytes out : List ℕ) (made : List MadeByte) (h : List Entry) → bytes ≡ bytes_of made
    → bytes ++ out ≡ bytes_of (made ++ made_of out h)
more_bytes bytes out made h same =
    ap (λ (l : List ℕ). l ++ out) same ∙ ap (λ (l : List ℕ). bytes_of made ++ l) (sym (made_bytes out h))
    ∙ sym (map-append (λ (m : MadeByte). m.byte) made (made_of out h))

-- what rests on a history rests on each that begins with it
pub later_rests : (made : List MadeByte) (older newer : List Entry) → BeginsWith newer older → RestOn made older
    → RestOn made newer
later_rests made older newer longer rests k d within =
    begins_with_all newer older (slice_index_or made k d).history longer (rests k d within)

-- and so does what is made of that behind it
pub more_rests : (out : List ℕ) (made : List MadeByte) (older newer : List Entry) → BeginsWith newer older
    → RestOn made older → RestOn (made ++ made_of out newer) newer
more_rests out made older newer longer rests =
    All-append (λ (m : MadeByte). BeginsWith newer m.history) made (made_of out newer)
    (later_rests made older newer longer rests)
    (All-map (λ (m : MadeByte). BeginsWith newer m.history) (λ (b : ℕ). record { byte = b; history = newer }) out
    (λ k d within. begins_itself newer))

-- a ticket that has seen no fewer entries than an older one, and takes its place, covers it
pub covers_older : (mine newer older now after : TicketView) (r : Bool) → older ≡ mine → now ≡ newer
    → length mine.seen ≤ length newer.seen → r ≡ leb (length older.seen) (length now.seen)
    → (IsTrue r → BeginsWith after.seen older.seen) → BeginsWith after.seen mine.seen
covers_older mine newer older now after r before since enough found covers =
    let covered : IsTrue r =
    found ∙ ap (λ (t : TicketView). leb (length t.seen) (length now.seen)) before
    ∙ ap (λ (t : TicketView). leb (length mine.seen) (length t.seen)) since
    ∙ le-leb (length mine.seen) (length newer.seen) enough in
    subst (λ (t : TicketView). BeginsWith after.seen t.seen) before (covers covered)
