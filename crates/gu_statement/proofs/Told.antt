-- What a firm is told is read from what it may see.
use Rattle.std.proofs.Common.{◌≡◌, ℕ, zero, suc, ◌+◌, ◌<◌, Bool, true, false, List, [], ◌∷◌, refl, sym, ◌∙◌}
use Rattle.std.proofs.Common.{ap, arith, Option, cond, eqb, take}
use Rattle.std.specs.Prelude.{Some, None, find, filter, nat_lt, not, ◌&&◌, ◌||◌, ◌==◌, sum_by, bytes_eq}
use Rattle.std.specs.Prelude.{option_map, option_and_then, if◌then◌else◌}
use Rattle.std.specs.List.{list_any, filter_map, cons_option}
use Rattle.std.proofs.lemmas.Bool.{false≢true, false_from_ne_true}
use Rattle.std.proofs.lemmas.Option.{same_Some}
use Rattle.std.proofs.lemmas.Slice.Eq.{bytes_eq-Decides}
use Rattle.std.proofs.lemmas.Bool.Decides.{Decides-eqb}
use Rattle.gu_base.specs.Numbers.{EntryPart}
use Rattle.gu_base.specs.History.{numbered_as, numbered_from, records}
use Rattle.gu_base.specs.Nodes.{node_of, nodes_of, nodes_of_parts, kind_of_part, same_name}
use Rattle.gu_base.specs.Answers.{entry_of, gives_up}
use Rattle.gu_base.specs.declared.command.Command.{Command}
use Rattle.gu_base.specs.declared.command.Command.TheVariants.{Trade, Split, Claim, Refuse, Cancel, Agree, Raise}
use Rattle.gu_base.specs.declared.command.Command.TheVariants.{Initiate, Decline, Reverse}
use Rattle.gu_base.specs.declared.command.Part.{Part}
use Rattle.gu_base.specs.declared.entry.Entry.{Entry}
use Rattle.gu_base.specs.declared.entry.Record.{Record}
use Rattle.gu_base.specs.declared.node.Kind.TheVariants.{Root, Own, Given}
use Rattle.gu_base.specs.declared.node.Node.{Node}
use Rattle.gu_base.specs.declared.report.Report.{Report}
use Rattle.gu_base.specs.declared.report.ReportPart.{ReportPart}
use Rattle.gu_base.specs.declared.report.Target.TheVariants as targets
use Rattle.gu_trace.specs.Concerns.{is_between, change_concerns, record_concerns, concerns}
use Rattle.gu_trace.specs.Deals.{deal_of}
use Rattle.gu_trace.specs.Reports.{report_with, report_part, report_parts, parts_shown, change_report, report_of}
use Rattle.gu_trace.specs.Reports.{reversal_report, claimed_part, no_part, most_reports, reports_for}
use Rattle.gu_trace.proofs.Found.{is_made}
use Rattle.gu_base.proofs.Numbered.{found_at}
use Rattle.gu_statement.specs.Sight.{Seen, without_parts, part_taken, parts_seen, deal_seen, cut, seen_of, seen}

-- ---- the searches

abbrev seen_at : List Seen → ℕ → Option Seen
seen_at s k = find (λ (e : Seen). e.number == k) s

abbrev sees : List ℕ → List Entry → List ℕ → ℕ → List Entry → List Seen
sees house h f m es = filter_map (seen_of house h f) (numbered_from m es)

-- one that concerns the firm or not, with another number
none_first : (k : ℕ) (w : Seen) (c : Bool) (rest : List Seen) → eqb w.number k ≡ false → None ≡ seen_at rest k
    → None ≡ seen_at (cons_option (cond c (Some w) None) rest) k
none_first k w false rest is later = later
none_first k w true rest is later = later ∙ ap (λ b. cond b (Some w) (seen_at rest k)) (sym is)

-- none of the entries from a higher number on has this number
none_at : (house f : List ℕ) (h : List Entry) (k m : ℕ) (es : List Entry) → k < m
    → None ≡ seen_at (sees house h f m es) k
none_at house f h k m [] low = refl
none_at house f h k m (e ∷ es) low =
    none_first k (cut h f (numbered_as m e)) (concerns house h f e.firm e.command) (sees house h f (m + 1) es)
    (false_from_ne_true (eqb m k) (λ s. let same : m ≡ k = (Decides-eqb m k).0 s in omega (arith, low, same)))
    (none_at house f h k (m + 1) es (omega (arith, low)))

look_first : (k : ℕ) (r : Record) (o : Option Record) (p : Record → Option Seen) (w : Seen) (c b : Bool)
    (rest : List Seen) → p r ≡ cond c (Some w) None → eqb w.number k ≡ b → (b ≡ true → None ≡ seen_at rest k)
    → seen_at rest k ≡ option_and_then p o
    → seen_at (cons_option (cond c (Some w) None) rest) k ≡ option_and_then p (cond b (Some r) o)
look_first k r o p w true true rest of is none later = ap (λ d. cond d (Some w) (seen_at rest k)) is ∙ sym of
look_first k r o p w true false rest of is none later = ap (λ d. cond d (Some w) (seen_at rest k)) is ∙ later
look_first k r o p w false true rest of is none later = sym (none refl) ∙ sym of
look_first k r o p w false false rest of is none later = later

look_from : (house f : List ℕ) (h : List Entry) (k m : ℕ) (es : List Entry) → seen_at (sees house h f m es) k
    ≡ option_and_then (seen_of house h f) (find (λ (r : Record). r.number == k) (numbered_from m es))
look_from house f h k m [] = refl
look_from house f h k m (e ∷ es) =
    look_first k (numbered_as m e) (find (λ (r : Record). r.number == k) (numbered_from (m + 1) es)) (seen_of house h f)
    (cut h f (numbered_as m e)) (concerns house h f e.firm e.command) (eqb m k) (sees house h f (m + 1) es) refl refl
    (λ s. let same : m ≡ k = (Decides-eqb m k).0 s in none_at house f h k (m + 1) es (omega (arith, same)))
    (look_from house f h k (m + 1) es)

-- what is seen of the entry of this number
look : (house f : List ℕ) (h : List Entry) (k : ℕ)
    → seen_at (seen house h f) k ≡ option_and_then (seen_of house h f) (entry_of h k)
look house f h k = look_from house f h k 1 h

-- ---- what is told of a list of entries

told_step : (p : Record → Option Report) (q : Seen → Option Report) (b : Seen → Bool) (r : Record) (w : Seen)
    (ar cr : Bool) → b w ≡ ar → (cr ≡ true → p r ≡ q w) → (rs : List Record) (ss : List Seen)
    → ((n : ℕ) → filter_map p (take n rs) ≡ filter_map q (take n (filter b ss))) → (n : ℕ)
    → filter_map p (take n (cond (ar && cr) (r ∷ rs) rs))
    ≡ filter_map q (take n (filter b (cons_option (cond cr (Some w) None) ss)))
told_step p q b r w true false is same rs ss rest n = rest n
told_step p q b r w false false is same rs ss rest n = rest n
told_step p q b r w false true is same rs ss rest n =
    rest n ∙ ap (λ d. filter_map q (take n (cond d (w ∷ filter b ss) (filter b ss)))) (sym is)
told_step p q b r w true true is same rs ss rest zero =
    ap (λ d. filter_map q (take zero (cond d (w ∷ filter b ss) (filter b ss)))) (sym is)
told_step p q b r w true true is same rs ss rest (suc n) =
    ap (λ o. cons_option o (filter_map p (take n rs))) (same refl)
    ∙ (ap (λ ps. cons_option (q w) ps) (rest n)
    ∙ ap (λ d. filter_map q (take (suc n) (cond d (w ∷ filter b ss) (filter b ss)))) (sym is))

told_list : (p : Record → Option Report) (q : Seen → Option Report) (a c : Record → Bool) (b : Seen → Bool)
    (w : Record → Seen) → ((r : Record) → b (w r) ≡ a r) → ((r : Record) → c r ≡ true → p r ≡ q (w r))
    → (rs : List Record) (n : ℕ) → filter_map p (take n (filter (λ r. a r && c r) rs))
    ≡ filter_map q (take n (filter b (filter_map (λ r. cond (c r) (Some (w r)) None) rs)))
told_list p q a c b w is same [] zero = refl
told_list p q a c b w is same [] (suc n) = refl
told_list p q a c b w is same (r ∷ rs) n =
    told_step p q b r (w r) (a r) (c r) (is r) (same r) (filter (λ r. a r && c r) rs)
    (filter_map (λ r. cond (c r) (Some (w r)) None) rs) (told_list p q a c b w is same rs) n

-- ---- the parts of a Split

or_in : (a c d : Bool) → (a || c) ≡ true → (a || (c || d)) ≡ true
or_in true c d h = refl
or_in false true d h = refl
or_in false false d h = absurd (false≢true h)

or_later : (a c d : Bool) → (a || d) ≡ true → (a || (c || d)) ≡ true
or_later true c d h = refl
or_later false true d h = refl
or_later false false d h = h

abbrev gives : List ℕ → ReportPart → Bool
gives by p = not (bytes_eq p.firm by)

abbrev shows : Bool → List ℕ → ReportPart → Bool
shows o f p = o || bytes_eq p.firm f

-- a part for the firm f is given by another firm
given : (f by firm : List ℕ) → bytes_eq by f ≡ false → bytes_eq firm f ≡ true → not (bytes_eq firm by) ≡ true
given f by firm other here =
    ap not (false_from_ne_true (bytes_eq firm by) (λ s.
    false≢true (sym other ∙ (bytes_eq-Decides by f).1
    (sym ((bytes_eq-Decides firm by).0 s) ∙ (bytes_eq-Decides firm f).0 here))))

any_given : (f by firm : List ℕ) (b rest others : Bool) → bytes_eq by f ≡ false → bytes_eq firm f ≡ b
    → (b || others) ≡ true → (others ≡ true → rest ≡ true) → (not (bytes_eq firm by) || rest) ≡ true
any_given f by firm true rest others other is some later =
    ap (λ d. d || rest) (given f by firm other is)
any_given f by firm false rest others other is some later =
    or_later false (not (bytes_eq firm by)) rest (later some)

gives_to : (f by : List ℕ) (ps : List Part) → bytes_eq by f ≡ false
    → list_any (λ (p : Part). bytes_eq p.firm f) ps ≡ true → gives_up by ps ≡ true
gives_to f by [] other some = absurd (false≢true some)
gives_to f by (p ∷ ps) other some =
    any_given f by p.firm (bytes_eq p.firm f) (gives_up by ps) (list_any (λ (q : Part). bytes_eq q.firm f) ps) other
    refl
    some (gives_to f by ps other)

shown_to_step : (f by : List ℕ) (p : ReportPart) (b others : Bool) (rest : List ReportPart) → bytes_eq by f ≡ false
    → bytes_eq p.firm f ≡ b → (b || others) ≡ true → (others ≡ true → list_any (gives by) rest ≡ true)
    → list_any (gives by) (cond b (p ∷ rest) rest) ≡ true
shown_to_step f by p true others rest other is some later =
    ap (λ d. d || list_any (gives by) rest) (given f by p.firm other is)
shown_to_step f by p false others rest other is some later = later some

shown_to : (f by : List ℕ) (k i : ℕ) (ps : List Part) → bytes_eq by f ≡ false
    → list_any (λ (p : Part). bytes_eq p.firm f) ps ≡ true
    → list_any (gives by) (filter (shows false f) (report_parts k i by ps)) ≡ true
shown_to f by k i [] other some = absurd (false≢true some)
shown_to f by k i (p ∷ ps) other some =
    shown_to_step f by (report_part k i by p) (bytes_eq p.firm f) (list_any (λ (q : Part). bytes_eq q.firm f) ps)
    (filter (shows false f) (report_parts k (i + 1) by ps)) other refl some (shown_to f by k (i + 1) ps other)

all_shown : (f by : List ℕ) (k i : ℕ) (ps : List Part)
    → gives_up by ps ≡ list_any (gives by) (filter (shows true f) (report_parts k i by ps))
all_shown f by k i [] = refl
all_shown f by k i (p ∷ ps) = ap (λ d. not (bytes_eq p.firm by) || d) (all_shown f by k (i + 1) ps)

-- whether a Split gives up is seen by each firm that it concerns
gives_alike : (f by : List ℕ) (k : ℕ) (ps : List Part) (o : Bool) → bytes_eq by f ≡ o
    → (o || list_any (λ (p : Part). bytes_eq p.firm f) ps) ≡ true
    → gives_up by ps ≡ list_any (gives by) (filter (shows o f) (report_parts k 1 by ps))
gives_alike f by k ps true is some = all_shown f by k 1 ps
gives_alike f by k ps false is some = gives_to f by ps is some ∙ sym (shown_to f by k 1 ps is some)

-- ---- the lots of a node

abbrev called : EntryPart → ReportPart → Bool
called n p = same_name p.name n

abbrev lots_in : EntryPart → List ReportPart → Option ℕ
lots_in n ps = option_map (λ (p : ReportPart). p.lots) (find (called n) ps)

lots_kept : (n : EntryPart) (p : ReportPart) (ps : List ReportPart) (s b : Bool) (lots : ℕ) → same_name p.name n ≡ b
    → (b ≡ true → (s ≡ true) × (p.lots ≡ lots)) → (b ≡ false → lots_in n ps ≡ Some lots)
    → lots_in n (cond s (p ∷ ps) ps) ≡ Some lots
lots_kept n p ps true true lots is here later =
    ap (λ d. option_map (λ (p : ReportPart). p.lots) (cond d (Some p) (find (called n) ps))) is ∙ ap Some (here refl).1
lots_kept n p ps true false lots is here later =
    ap (λ d. option_map (λ (p : ReportPart). p.lots) (cond d (Some p) (find (called n) ps))) is ∙ later refl
lots_kept n p ps false true lots is here later = absurd (false≢true (here refl).0)
lots_kept n p ps false false lots is here later = later refl

-- a part of which the firm is the giver or the taker, and its lots
abbrev IsPartOf : List ℕ → List ℕ → Part → Node → Type 0
IsPartOf f by p x = ((bytes_eq by f || bytes_eq p.firm f) ≡ true) × (p.lots ≡ x.lots)

part_kind : (f by : List ℕ) (name m : EntryPart) (p : Part) (x : Node) (o : Bool)
    → record { name = name; lots = p.lots; kind = cond o (Own m by p.account) (Given m by p.firm) } ≡ x
    → is_between f (Some x) ≡ true → IsPartOf f by p x
part_kind f by name m p x true is among = absurd (false≢true (ap (λ (y : Node). is_between f (Some y)) is ∙ among))
part_kind f by name m p x false is among =
    (ap (λ (y : Node). is_between f (Some y)) is ∙ among, ap (λ (y : Node). y.lots) is)

-- the first part of this name, or a later one
part_or : (f by : List ℕ) (name n m : EntryPart) (p : Part) (x : Node) (rest : Option Node) (b : Bool)
    → cond b (Some (record { name = name; lots = p.lots; kind = kind_of_part m by p })) rest ≡ Some x
    → is_between f (Some x) ≡ true → (b ≡ true → IsPartOf f by p x) × (b ≡ false → rest ≡ Some x)
part_or f by name n m p x rest true found among = (
  λ _. part_kind f by name m p x (bytes_eq p.firm by)
      (same_Some (record { name = name; lots = p.lots; kind = kind_of_part m by p }) x found) among,
  λ e. absurd (false≢true (sym e)),
)
part_or f by name n m p x rest false found among = (λ e. absurd (false≢true e), λ _. found)

lots_shown : (n m : EntryPart) (f by : List ℕ) (k i : ℕ) (ps : List Part) (x : Node)
    → find (λ (y : Node). same_name y.name n) (nodes_of_parts k i m by ps) ≡ Some x → is_between f (Some x) ≡ true
    → lots_in n (filter (shows (bytes_eq by f) f) (report_parts k i by ps)) ≡ Some x.lots
lots_shown n m f by k i [] x found among = absurd (cc)
lots_shown n m f by k i (p ∷ ps) x found among =
    let name : EntryPart = record { entry = k; part = i } in
    let which = part_or f by name n m p x (find (λ (y : Node). same_name y.name n) (nodes_of_parts k (i + 1) m by ps))
    (same_name name n) found among in
    lots_kept n (report_part k i by p) (filter (shows (bytes_eq by f) f) (report_parts k (i + 1) by ps))
    (bytes_eq by f || bytes_eq p.firm f) (same_name name n) x.lots refl which.0
    (λ e. lots_shown n m f by k (i + 1) ps x (which.1 e) among)

split_step : (a c d b : Bool) → (b ≡ true → (a || c) ≡ true) → (b ≡ false → (a || d) ≡ true) → (a || (c || d)) ≡ true
split_step a c d true here later = or_in a c d (here refl)
split_step a c d false here later = or_later a c d (later refl)

-- the Split of a part concerns its giver and its taker
split_concerns : (n m : EntryPart) (f by : List ℕ) (k i : ℕ) (ps : List Part) (x : Node)
    → find (λ (y : Node). same_name y.name n) (nodes_of_parts k i m by ps) ≡ Some x → is_between f (Some x) ≡ true
    → (bytes_eq by f || list_any (λ (p : Part). bytes_eq p.firm f) ps) ≡ true
split_concerns n m f by k i [] x found among = absurd (cc)
split_concerns n m f by k i (p ∷ ps) x found among =
    let name : EntryPart = record { entry = k; part = i } in
    let which = part_or f by name n m p x (find (λ (y : Node). same_name y.name n) (nodes_of_parts k (i + 1) m by ps))
    (same_name name n) found among in
    split_step (bytes_eq by f) (bytes_eq p.firm f) (list_any (λ (q : Part). bytes_eq q.firm f) ps) (same_name name n)
    (λ e. (which.0 e).0) (λ e. split_concerns n m f by k (i + 1) ps x (which.1 e) among)

-- ---- what is told, read from what is seen

-- the lots of a node, in the Split of its number
abbrev lots_at : List Seen → EntryPart → Option ℕ
lots_at s n = option_and_then (λ (e : Seen). lots_in n e.parts) (seen_at s n.entry)

abbrev record_of : Seen → Record
record_of e = record { number = e.number; firm = e.firm; id = []; command = e.command; status = e.status }

abbrev tell_decision : List Seen → Seen → ℕ → ℕ → EntryPart → List ReportPart → Option Report
tell_decision s e kind trans n parts =
    option_and_then
    (λ lots. option_map (report_with (record_of e) kind trans (targets.Node n) lots parts) e.deal) (lots_at s n)

abbrev tell_change : List Seen → Seen → Command → Option Report
tell_change s e (Trade firm account instrument side lots) =
    Some (report_with (record_of e) 9 0 (targets.Node (record { entry = e.number; part = 0 })) lots []
    (record { instrument = instrument; side = side }))
tell_change s e (Split n parts) =
    option_map (report_with (record_of e) (if list_any (gives e.firm) e.parts then 15 else 9) 0 (targets.Node n)
    (sum_by (λ (p : ReportPart). p.lots) e.parts) e.parts)
    e.deal
tell_change s e (Claim n account) = tell_decision s e 16 0 n e.parts
tell_change s e (Refuse n) = tell_decision s e 10 0 n []
tell_change s e (Cancel n) = tell_decision s e 10 2 n []
tell_change s e (Agree _ _ _ _) = None
tell_change s e (Raise _ _) = None
tell_change s e (Initiate _) = None
tell_change s e (Decline _) = None
tell_change s e (Reverse _) = None

abbrev tell_reversal : List Seen → Seen → ℕ → ℕ → Option Report
tell_reversal s e kind n =
    option_map (λ (c : Report).
    report_with (record_of e) kind 6 (targets.Entry n) c.lots []
    (record { instrument = c.instrument; side = c.side }))
    (option_and_then (λ (d : Seen). tell_change s d d.command) (seen_at s n))

abbrev tell : List Seen → Seen → Command → Option Report
tell s e (Initiate n) = tell_reversal s e 14 n
tell s e (Decline n) = tell_reversal s e 10 n
tell s e (Reverse n) = tell_reversal s e 17 n
tell s e (Trade a b c d l) = tell_change s e (Trade a b c d l)
tell s e (Split n ps) = tell_change s e (Split n ps)
tell s e (Claim n a) = tell_change s e (Claim n a)
tell s e (Refuse n) = tell_change s e (Refuse n)
tell s e (Cancel n) = tell_change s e (Cancel n)
tell s e (Agree _ _ _ _) = None
tell s e (Raise _ _) = None

abbrev tell_all : List Seen → ℕ → List Report
tell_all s after =
    filter_map (λ (e : Seen). tell s e e.command) (take most_reports (filter (λ (e : Seen). nat_lt after e.number) s))

-- ---- the lots of a decision's node

root_apart : (f : List ℕ) (y x : Node) (b : Bool) → is_between f (Some y) ≡ false → cond b (Some y) None ≡ Some x
    → is_between f (Some x) ≡ true → ⊥
root_apart f y x true apart found among =
    false≢true (sym apart ∙ (ap (λ (z : Node). is_between f (Some z)) (same_Some y x found) ∙ among))
root_apart f y x false apart found among = absurd (cc)

node_by : (house f : List ℕ) (h : List Entry) (n : EntryPart) (x : Node) (r : Record) (c : Command)
    → entry_of h n.entry ≡ Some r → r.number ≡ n.entry → r.command ≡ c
    → find (λ (y : Node). same_name y.name n) (nodes_of n.entry r.firm c) ≡ Some x → is_between f (Some x) ≡ true
    → lots_at (seen house h f) n ≡ Some x.lots
node_by house f h n x r (Split m ps) there number is made among =
    ap (option_and_then (λ (e : Seen). lots_in n e.parts))
    (look house f h n.entry ∙ ap (option_and_then (seen_of house h f)) there)
    ∙ (ap (λ d. option_and_then (λ (e : Seen). lots_in n e.parts) (cond d (Some (cut h f r)) None))
    (ap (concerns house h f r.firm) is ∙ split_concerns n m f r.firm n.entry 1 ps x made among)
    ∙ (ap (λ k. lots_in n (parts_seen h f k r.firm r.command)) number
    ∙ (ap (λ c. lots_in n (parts_seen h f n.entry r.firm c)) is
    ∙ lots_shown n m f r.firm n.entry 1 ps x made among)))
node_by house f h n x r (Trade firm account instrument side lots) there number is made among =
    let name : EntryPart = record { entry = n.entry; part = 0 } in
    absurd (root_apart f
    (record { name = name; lots = lots; kind = Root (record { firm = firm; account = account }) })
    x (same_name name n) refl made among)
node_by house f h n x r (Claim _ _) there number is made among = absurd (cc)
node_by house f h n x r (Refuse _) there number is made among = absurd (cc)
node_by house f h n x r (Cancel _) there number is made among = absurd (cc)
node_by house f h n x r (Agree _ _ _ _) there number is made among = absurd (cc)
node_by house f h n x r (Raise _ _) there number is made among = absurd (cc)
node_by house f h n x r (Initiate _) there number is made among = absurd (cc)
node_by house f h n x r (Decline _) there number is made among = absurd (cc)
node_by house f h n x r (Reverse _) there number is made among = absurd (cc)

-- the giver and the taker of a node see its lots
node_seen : (house f : List ℕ) (h : List Entry) (n : EntryPart) (x : Node) → node_of (records h) n ≡ Some x
    → is_between f (Some x) ≡ true → lots_at (seen house h f) n ≡ Some x.lots
node_seen house f h n x found among =
    let made = is_made h n x found in
    let at = found_at n.entry 1 h made.by made.found in
    node_by house f h n x made.by made.by.command made.found at.number refl made.made among

-- ---- each report

decision_alike : (house f : List ℕ) (h : List Entry) (r : Record) (kind trans : ℕ) (n : EntryPart)
    (shown : Node → List ReportPart) (parts : Option Node → List ReportPart) (o : Option Node)
    → ((x : Node) → shown x ≡ parts (Some x)) → node_of (records h) n ≡ o → is_between f o ≡ true
    → option_and_then
    (λ (x : Node). option_map (report_with r kind trans (targets.Node n) x.lots (shown x)) (deal_of h n)) o
    ≡ option_and_then (λ lots. option_map (report_with r kind trans (targets.Node n) lots (parts o)) (deal_of h n))
    (lots_at (seen house h f) n)
decision_alike house f h r kind trans n shown parts None same is among = absurd (false≢true among)
decision_alike house f h r kind trans n shown parts (Some x) same is among =
    ap (λ ps. option_map (report_with r kind trans (targets.Node n) x.lots ps) (deal_of h n)) (same x)
    ∙ ap
    (option_and_then
    (λ lots. option_map (report_with r kind trans (targets.Node n) lots (parts (Some x))) (deal_of h n)))
    (sym (node_seen house f h n x is among))

change_alike : (house f : List ℕ) (h : List Entry) (r : Record) (c : Command) → r.command ≡ c
    → change_concerns house h f r.firm c ≡ true
    → change_report h f r c ≡ tell_change (seen house h f) (record (cut h f r) {
      command = without_parts c;
      parts = parts_seen h f r.number r.firm c;
      deal = deal_seen h c;
    }) (without_parts c)
change_alike house f h r (Trade _ _ _ _ _) is among = refl
change_alike house f h r (Split n ps) is among =
    ap (λ b.
    option_map (report_with r (cond b 15 9) 0 (targets.Node n)
    (sum_by (λ (p : ReportPart). p.lots) (parts_shown f r.number r.firm ps)) (parts_shown f r.number r.firm ps))
    (deal_of h n))
    (gives_alike f r.firm r.number ps (bytes_eq r.firm f) refl among)
change_alike house f h r (Claim n account) is among =
    decision_alike house f h r 16 0 n (claimed_part f account) (part_taken f account) (node_of (records h) n)
    (λ x. refl) refl among
change_alike house f h r (Refuse n) is among =
    decision_alike house f h r 10 0 n no_part (λ _. []) (node_of (records h) n) (λ x. refl) refl among
change_alike house f h r (Cancel n) is among =
    decision_alike house f h r 10 2 n no_part (λ _. []) (node_of (records h) n) (λ x. refl) refl among
change_alike house f h r (Agree _ _ _ _) is among = absurd (false≢true among)
change_alike house f h r (Raise _ _) is among = absurd (false≢true among)
change_alike house f h r (Initiate _) is among = absurd (false≢true among)
change_alike house f h r (Decline _) is among = absurd (false≢true among)
change_alike house f h r (Reverse _) is among = absurd (false≢true among)

-- a change that concerns the firm is seen
change_seen : (house f : List ℕ) (h : List Entry) (by : List ℕ) (c : Command)
    → change_concerns house h f by c ≡ true → concerns house h f by c ≡ true
change_seen house f h by (Trade _ _ _ _ _) among = among
change_seen house f h by (Split _ _) among = among
change_seen house f h by (Claim _ _) among = among
change_seen house f h by (Refuse _) among = among
change_seen house f h by (Cancel _) among = among
change_seen house f h by (Agree _ _ _ _) among = among
change_seen house f h by (Raise _ _) among = among
change_seen house f h by (Initiate _) among = absurd (false≢true among)
change_seen house f h by (Decline _) among = absurd (false≢true among)
change_seen house f h by (Reverse _) among = absurd (false≢true among)

named_alike : (house f : List ℕ) (h : List Entry) (o : Option Record) → record_concerns house h f o ≡ true
    → option_and_then (λ (e : Record). change_report h f e e.command) o
    ≡ option_and_then (λ (d : Seen). tell_change (seen house h f) d d.command) (option_and_then (seen_of house h f) o)
named_alike house f h None among = absurd (false≢true among)
named_alike house f h (Some e) among =
    change_alike house f h e e.command refl among
    ∙ ap (λ b. option_and_then (λ (d : Seen). tell_change (seen house h f) d d.command)
    (cond b (Some (cut h f e)) None))
    (sym (change_seen house f h e.firm e.command among))

reversal_alike : (house f : List ℕ) (h : List Entry) (r : Record) (kind n : ℕ)
    → record_concerns house h f (entry_of h n) ≡ true
    → reversal_report h f r kind n ≡ tell_reversal (seen house h f) (cut h f r) kind n
reversal_alike house f h r kind n among =
    ap (option_map (λ (c : Report).
    report_with r kind 6 (targets.Entry n) c.lots [] (record { instrument = c.instrument; side = c.side })))
    (named_alike house f h (entry_of h n) among
    ∙ ap (option_and_then (λ (d : Seen). tell_change (seen house h f) d d.command)) (sym (look house f h n)))

abbrev IsAlike : List ℕ → List ℕ → List Entry → Record → Command → Type 0
IsAlike house f h r c = report_of h f r c ≡ tell (seen house h f) (record (cut h f r) {
  command = without_parts c;
  parts = parts_seen h f r.number r.firm c;
  deal = deal_seen h c;
}) (without_parts c)

entry_alike : (house f : List ℕ) (h : List Entry) (r : Record) (c : Command) → r.command ≡ c
    → concerns house h f r.firm c ≡ true → IsAlike house f h r c
entry_alike house f h r (Trade a b i s l) is among = change_alike house f h r (Trade a b i s l) is among
entry_alike house f h r (Split n ps) is among = change_alike house f h r (Split n ps) is among
entry_alike house f h r (Claim n a) is among = change_alike house f h r (Claim n a) is among
entry_alike house f h r (Refuse n) is among = change_alike house f h r (Refuse n) is among
entry_alike house f h r (Cancel n) is among = change_alike house f h r (Cancel n) is among
entry_alike house f h r (Agree _ _ _ _) is among = absurd (false≢true among)
entry_alike house f h r (Raise _ _) is among = absurd (false≢true among)
entry_alike house f h r (Initiate n) is among = reversal_alike house f h r 14 n among
entry_alike house f h r (Decline n) is among = reversal_alike house f h r 10 n among
entry_alike house f h r (Reverse n) is among = reversal_alike house f h r 17 n among

-- what is told of a history is read from what is seen of it
pub told_by_sight : (house f : List ℕ) (h : List Entry) (after : ℕ)
    → reports_for house h f after ≡ tell_all (seen house h f) after
told_by_sight house f h after =
    told_list (λ (r : Record). report_of h f r r.command) (λ (e : Seen). tell (seen house h f) e e.command)
    (λ (r : Record). nat_lt after r.number) (λ (r : Record). concerns house h f r.firm r.command)
    (λ (e : Seen). nat_lt after e.number) (cut h f) (λ r. refl)
    (λ r among. entry_alike house f h r r.command refl among) (records h) most_reports

-- histories of which a firm may see the same
pub told_alike : (house f : List ℕ) (h g : List Entry) (after : ℕ) → seen house h f ≡ seen house g f
    → reports_for house h f after ≡ reports_for house g f after
told_alike house f h g after same =
    told_by_sight house f h after
    ∙ (ap (λ s. tell_all s after) same ∙ sym (told_by_sight house f g after))
