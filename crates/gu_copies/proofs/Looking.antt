-- What comes of a look at a journal.
use Rattle.std.proofs.Common.{◌≡◌, ℕ, Bool, List, [], ◌++◌, Option, Some, None, Ok, Err, refl, sym, ap}
use Rattle.std.proofs.Common.{◌∙◌, ◌∷◌, take, drop, take-append-drop, append-nil, length, codes}
use Rattle.std.specs.Prelude.{decimal}
use Rattle.gu_journal.specs.Session.{digest_text}
use Rattle.std.specs.Prelude.{IfSome, true}
use Rattle.std.specs.Io.KnownBytes.{Appends}
use Rattle.gu_base.specs.House.{House}
use Rattle.gu_base.specs.declared.entry.Entry.{Entry}
use Rattle.gu_batch.specs.Counts.{Fails}
use Rattle.gu_batch.specs.Traces.{IsUntold, is_traced}
use Rattle.gu_batch.specs.declared.batch.RunError.{RunError}
use Rattle.gu_batch.specs.declared.batch.RunError.TheVariants as run
use Rattle.gu_journal.specs.declared.damage.RecoverError.{RecoverError}
use Rattle.gu_copies.specs.declared.error.LookError.TheVariants.{Refused}
use Rattle.gu_copies.specs.Verified.{verified_line, asked_text, IsVerified, IsRefusal, Says, Looks}

-- nothing more is there
no_more : (told : Option (List ℕ)) → Appends told told []
no_more None = tt
no_more (Some xs) = sym (append-nil xs)

-- nothing was written where a start from what was read would be refused
pub refused : (t : House) (pin : List ℕ) (known : Option (List ℕ)) (totals : Bool) (trade : Option ℕ)
    (told : Option (List ℕ)) (failed : ℕ) (file : List ℕ) (e : RecoverError)
    → IfSome known (λ bytes. file ≡ bytes) → IsRefusal t pin file e
    → Looks {A = Unit {0}} t pin known totals trade told told failed failed (Err (Refused e))
refused t pin known totals trade told failed file e is why = (refl, refl, (file, is, why))

-- nothing was written where what is asked for beside the line can't be told
pub untold : (t : House) (pin : List ℕ) (known : Option (List ℕ)) (totals : Bool) (trade : Option ℕ)
    (told : Option (List ℕ)) (failed : ℕ) (file : List ℕ) (h : List Entry) (line : List ℕ) (e : RunError)
    → IfSome known (λ bytes. file ≡ bytes) → IsVerified t pin file h line → IsUntold h trade e
    → Says {A = Unit {0}} t pin known totals trade told told failed failed (Err e)
untold t pin known totals trade told failed file h line (run.NoLiveTrade number) is verified why =
    record { file = file; is = is; out = []; appended = no_more told; right = (refl, h, verified.recovers, why) }
untold t pin known totals trade told failed file h line run.Memory is verified why =
    record { file = file; is = is; out = []; appended = no_more told; right = refl }
untold t pin known totals trade told failed file h line (run.Broken at) is verified why = absurd why
untold t pin known totals trade told failed file h line (run.Truncated at) is verified why = absurd why
untold t pin known totals trade told failed file h line run.Read is verified why = absurd why
untold t pin known totals trade told failed file h line run.Write is verified why = absurd why

-- all of the text was written
pub said : (t u : House) (pin : List ℕ) (known : Option (List ℕ)) (totals : Bool) (trade : Option ℕ)
    (old new : Option (List ℕ)) (failed_before failed : ℕ) (file : List ℕ) (h : List Entry) (line text : List ℕ)
    → IfSome known (λ bytes. file ≡ bytes) → IsVerified t pin file h line
    → IfSome trade (λ number. is_traced h number ≡ true) → u ≡ t
    → text ≡ line ++ asked_text u h totals trade → Appends old new text
    → Says {A = Unit {0}} t pin known totals trade old new failed_before failed (Ok tt)
said t u pin known totals trade old new failed_before failed file h line text is verified live same whole appended =
    record {
      file = file;
      is = is;
      out = text;
      appended = appended;
      right =
          record {
            h = h;
            line = line;
            verified = verified;
            live = live;
            whole = whole ∙ ap (λ (v : House). line ++ asked_text v h totals trade) same;
          };
    }

-- a front of it was written
pub half_said : (t u : House) (pin : List ℕ) (known : Option (List ℕ)) (totals : Bool) (trade : Option ℕ)
    (old new : Option (List ℕ)) (failed_before failed : ℕ) (file : List ℕ) (h : List Entry) (line text : List ℕ)
    (n : ℕ) → IfSome known (λ bytes. file ≡ bytes) → IsVerified t pin file h line
    → IfSome trade (λ number. is_traced h number ≡ true) → u ≡ t
    → text ≡ line ++ asked_text u h totals trade
    → Appends old new (take n text) → Fails failed_before failed
    → Says {A = Unit {0}} t pin known totals trade old new failed_before failed (Err run.Write)
half_said t u pin known totals trade old new failed_before failed file h line text n is verified live same whole
    appended fails =
    record {
      file = file;
      is = is;
      out = take n text;
      appended = appended;
      right = (
        fails,
        drop n text,
        record {
          h = h;
          line = line;
          verified = verified;
          live = live;
          whole =
              take-append-drop n text ∙ whole ∙ ap (λ (v : House). line ++ asked_text v h totals trade) same;
        },
      );
    }

-- ---- the line

-- the line has these pieces, one behind the other
pub line_is : (n entries count : ℕ) (bytes digest front more line : List ℕ) → entries ≡ n → count ≡ length bytes
    → digest ≡ digest_text bytes
    → front ≡ codes "entries " ++ decimal entries ++ codes " bytes " ++ decimal count ++ codes " sha512 "
    → more ≡ front ++ digest → line ≡ more ++ 10 ∷ [] → line ≡ verified_line n bytes
line_is n entries count bytes digest front more line entries_are count_is digest_is front_is more_is line_so =
    line_so ∙ ap (λ (t : List ℕ). t ++ 10 ∷ []) (more_is ∙ ap (λ (t : List ℕ). t ++ digest) front_is)
    ∙ ap (λ (k : ℕ). codes "entries " ++ decimal k ++ codes " bytes " ++ decimal count ++ codes " sha512 " ++ digest
    ++ 10 ∷ []) entries_are
    ∙ ap (λ (k : ℕ). codes "entries " ++ decimal n ++ codes " bytes " ++ decimal k ++ codes " sha512 " ++ digest
    ++ 10 ∷ []) count_is
    ∙ ap (λ (t : List ℕ). codes "entries " ++ decimal n ++ codes " bytes " ++ decimal (length bytes)
    ++ codes " sha512 " ++ t ++ 10 ∷ []) digest_is
