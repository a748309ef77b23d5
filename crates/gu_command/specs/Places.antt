-- The places where figures are told, as the words behind `--status` mean them.
use Rattle.std.specs.Prelude.{◌≡◌, ◌==◌, Bool, true, false, ◌&&◌, ◌||◌, List, [], ◌∷◌, Option, Some}
use Rattle.std.specs.Prelude.{None, codes, is_some, option_map, unwrap_or}
use Rattle.std.specs.List.{list_any}
use Rattle.clap.specs.Words.{Text, matched_of, raw_values}
use Rattle.clap.specs.declared.parser.matches.Found.{Found}
use Rattle.gu_command.specs.Limits.{most_port, up_to}
use Rattle.gu_command.specs.declared.options.StatusAt.{StatusAt}
use Rattle.gu_command.specs.declared.options.StatusAt.TheVariants.{Port, Socket}

-- a path has a slash
abbrev pub has_slash : Text → Bool
has_slash word = list_any (λ b. b == 47) word

-- a word is a path, or a port: 1 to 65,535
abbrev pub is_place : Text → Bool
is_place word = has_slash word || is_some (up_to most_port word)

-- a word means this place
abbrev pub IsPlace : Text → StatusAt → Type 0
IsPlace word (Port number) = (has_slash word ≡ false) × (up_to most_port word ≡ Some number)
IsPlace word (Socket path) = (has_slash word ≡ true) × (word ≡ path.bytes.items)

-- words are places, at most two of them
abbrev pub are_places : List Text → Bool
are_places [] = true
are_places (v ∷ []) = is_place v
are_places (v ∷ w ∷ []) = is_place v && is_place w
are_places (v ∷ w ∷ x ∷ ws) = false

-- a word that isn't there means no place
abbrev pub IsPlaceIf : Option Text → Option StatusAt → Type 0
IsPlaceIf None place = place ≡ None
IsPlaceIf (Some word) None = ⊥
IsPlaceIf (Some word) (Some place) = IsPlace word place

-- words mean these places
abbrev pub ArePlaces : List Text → Option StatusAt → Option StatusAt → Type 0
ArePlaces [] first second = IsPlaceIf None first × IsPlaceIf None second
ArePlaces (v ∷ []) first second = IsPlaceIf (Some v) first × IsPlaceIf None second
ArePlaces (v ∷ w ∷ []) first second = IsPlaceIf (Some v) first × IsPlaceIf (Some w) second
ArePlaces (v ∷ w ∷ x ∷ ws) first second = ⊥

-- all that was given behind `--status`
abbrev pub told_among : Found → List Text
told_among found = unwrap_or (option_map raw_values (matched_of found (codes "STATUS"))) []
