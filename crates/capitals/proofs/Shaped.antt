-- The shapes of strict texts do not see the case of letters: texts that are alike are walked alike.
use Prim.Native.Nat.{ℕ, ◌+◌, max}
use mathlib.Core.Bool.{Bool, false}
use mathlib.Core.List.{List, [], ◌∷◌}
use mathlib.Core.Path.{◌≡◌, refl, sym, ap, ◌∙◌}
use lib.Dec.{eqb}
use Rattle.text_bytes.specs.Bytes.{is_digit, is_space}
use Rattle.std.specs.Prelude.{Result, Ok, Err, Option, Some, None}
use Rattle.text_bytes.specs.declared.Place.{Place}
use Rattle.text_bytes.specs.Words.{lower_of, lowered}
use Rattle.text_bytes.proofs.Ranges.{either}
use Rattle.shapes.specs.Walk.{signed, digits, dot, fraction, act, step, or_lost, walk}
use Rattle.shapes.specs.declared.Atom.{Atom}
use Rattle.shapes.specs.declared.Atom.TheVariants as A
use Rattle.strict.specs.Answer.{or_further, furthest, shapes, marked_at, is_shaped, strict_of}
use Rattle.capitals.proofs.Cases.{Caseless, byte_case, space_case, sign_case, digit_case, hex_case, lower_case, digit_kept, lower_alike, scan_alike}

dot_case : Caseless (λ b. eqb b 46)
dot_case = byte_case 46 tt

-- by what an atom asks of a byte: a digit is no letter, and of any other byte it asks no letter
by_digits : {A : Type 0} (f : ℕ → A) → ((b : ℕ) → is_digit b ≡ false → f (lower_of b) ≡ f b) → Caseless f
by_digits f g b = either (is_digit b) (λ e. ap f (digit_kept b e)) (λ e. g b e)

signed_case : (dots : Bool) → Caseless (signed dots)
unfolding signed
signed_case dots = by_digits (signed dots) (λ b e. simp (digit_case b, dot_case b, e))

digits_case : (dots : Bool) (m : ℕ) → Caseless (digits dots m)
unfolding digits
digits_case dots m = by_digits (digits dots m) (λ b e. simp (digit_case b, dot_case b, e))

dot_act_case : (m : ℕ) → Caseless (dot m)
unfolding dot
dot_act_case m = by_digits (dot m) (λ b e. simp (digit_case b, e))

fraction_case : (m k : ℕ) → Caseless (fraction m k)
unfolding fraction
fraction_case m k = by_digits (fraction m k) (λ b e. simp (digit_case b, e))

act_case : (a : Atom) → Caseless (act a)
unfolding act
act_case A.Spaces b = rw (space_case b) refl
act_case A.Hex b = rw (hex_case b) refl
act_case (A.Byte c) b = rw (lower_case b) refl
act_case (A.Number dots) b = rw (sign_case b, signed_case dots b) refl
act_case (A.Signed dots) b = signed_case dots b
act_case (A.Digits dots m) b = digits_case dots m b
act_case (A.Dot m) b = dot_act_case m b
act_case (A.Fraction m k) b = fraction_case m k b

step_case : (xs : List Atom) → Caseless (step xs)
unfolding step
step_case [] b = refl
step_case (a ∷ xs) b = rw (act_case a b, step_case xs b) refl

low_walk : (i : ℕ) (xs : List Atom) (l : List ℕ) → walk i xs (lowered l) ≡ walk i xs l
unfolding walk
low_walk i xs [] = refl
low_walk i xs (b ∷ bs) = rw (step_case xs b) (go (step xs b) (λ ys. low_walk (i + 1) ys bs))
  where
    go : (l : Option (List Atom)) → ((ys : List Atom) → walk (i + 1) ys (lowered bs) ≡ walk (i + 1) ys bs) → or_lost i l (λ ys. walk (i + 1) ys (lowered bs)) ≡ or_lost i l (λ ys. walk (i + 1) ys bs)
    go None f = refl
    go (Some ys) f = f ys

module _ (s t : List ℕ) (h : lowered s ≡ lowered t) where
  walk_alike : (xs : List Atom) → walk 0 xs t ≡ walk 0 xs s
  walk_alike xs = sym (low_walk 0 xs t) ∙ ap (walk 0 xs) (sym h) ∙ low_walk 0 xs s

  furthest_alike : (xs : List (List Atom)) (far : ℕ) → furthest xs t far ≡ furthest xs s far
  unfolding furthest
  furthest_alike [] far = refl
  furthest_alike (x ∷ xs) far = rw (walk_alike x) (go (walk 0 x s) (λ n. furthest_alike xs n))
    where
      go : (r : Result (Unit {0}) Place) → ((n : ℕ) → furthest xs t n ≡ furthest xs s n) → or_further r far (λ n. furthest xs t n) ≡ or_further r far (λ n. furthest xs s n)
      go (Ok u) f = refl
      go (Err p) f = f (max far p.0)

  shaped_alike : is_shaped t ≡ is_shaped s
  unfolding is_shaped marked_at
  shaped_alike = simp (scan_alike s t h is_space space_case 0, lower_alike s t h)

  pub strict_alike : strict_of t ≡ strict_of s
  unfolding strict_of
  strict_alike = rw (shaped_alike, furthest_alike shapes 0) refl
