-- The outside call: the loose reading decides first, and of what it accepts the strict texts are left. What stands in quotation marks is the rule.
use Rattle.std.specs.Prelude.{ℕ, ◌+◌, max, Bool, ◌||◌, ◌&&◌, List, [], ◌∷◌, eqb, get_or, Result, Ok, Err, if◌then◌else◌}
use Rattle.text_bytes.specs.Bytes.{is_space}
use Rattle.text_bytes.specs.Flow.{◌>>=◌}
use Rattle.text_bytes.specs.Moves.{place}
use Rattle.text_bytes.specs.Scan.{scan}
use Rattle.text_bytes.specs.Words.{lower_of}
use Rattle.text_bytes.specs.declared.Place.{Place}
use Rattle.stream.specs.Refusals.{refusal_at}
use Rattle.stream.specs.declared.Refusal.{Refusal}
use Rattle.stream.specs.declared.Reason.TheVariants as R
use Rattle.color.specs.Answer.{from_str}
use Rattle.color.specs.declared.Color.{Color}
use Rattle.shapes.specs.Walk.{walk}
use Rattle.shapes.specs.declared.Atom.{Atom}
use Rattle.strict.specs.Shapes.{hex_three, hex_six, rgb_whole, rgb_percent, rgba_whole, rgba_percent, hsl, hsla}

abbrev pub or_further : Result (Unit {0}) Place → ℕ → (ℕ → Result (Unit {0}) Place) → Result (Unit {0}) Place
or_further (Ok u) far k = Ok u
or_further (Err p) far k = k (max far p.0)

-- whether one of the shapes walks a text to its end, or else how far the furthest goes
unfoldable pub furthest : List (List Atom) → List ℕ → ℕ → Result (Unit {0}) Place
furthest [] s far = Err (place far)
furthest (x ∷ xs) s far = or_further (walk 0 x s) far (λ n. furthest xs s n)

abbrev pub shapes : List (List Atom)
shapes = hex_three ∷ hex_six ∷ rgb_whole ∷ rgb_percent ∷ rgba_whole ∷ rgba_percent ∷ hsl ∷ hsla ∷ []

-- `#`, or the first letters of rgb, rgba, hsl, hsla; no keyword begins so
unfoldable pub marked : ℕ → ℕ → ℕ → Bool
marked a b c = eqb a 35 || ((eqb a 114 && (eqb b 103 && eqb c 98)) || (eqb a 104 && (eqb b 115 && eqb c 108)))

unfoldable pub marked_at : List ℕ → ℕ → Bool
marked_at s i = marked (lower_of (get_or s i 0)) (lower_of (get_or s (i + 1) 0)) (lower_of (get_or s (i + 2) 0))

-- a text that is no hex colour and no function is a keyword, if the loose reading accepts it
unfoldable pub is_shaped : List ℕ → Bool
is_shaped s = marked_at s (scan is_space s 0)

-- a keyword is strict; of other texts those that a shape walks to its end
unfoldable pub strict_of : List ℕ → Result (Unit {0}) Place
strict_of s = if is_shaped s then furthest shapes s 0 else Ok tt

-- "18, for what the old reading accepts and the strict one does not", at a place of the text
abbrev pub not_strict : List ℕ → ℕ → Refusal
not_strict s i = refusal_at s R.NotStrict i

abbrev pub or_not_strict : List ℕ → Result (Unit {0}) Place → Result (Unit {0}) Refusal
or_not_strict s (Ok u) = Ok u
or_not_strict s (Err p) = Err (not_strict s p.0)

unfoldable pub strict_from_str : List ℕ → Result Color Refusal
strict_from_str s = do
  color ← from_str s
  _ ← or_not_strict s (strict_of s)
  Ok color
