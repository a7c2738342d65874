-- What a number tells: the value that it was made of.
use Prim.Native.Nat.{ℕ, ◌+◌, ◌*◌, ◌≤◌, ◌<◌}
use mathlib.Core.List.{List}
use mathlib.Core.Logic.{◌↔◌}
use mathlib.Core.Path.{◌≡◌, refl, sym, ap}
use native.Mathlib.Omega.{arith}
use borrow.Author.Tests.{le-leb, lt-leb}
use lib.Dec.{leb}
use Rattle.std.specs.Prelude.{Some, None, Result, Ok, Err}
use Rattle.text_bytes.proofs.Ranges.{either}
use Rattle.stream.specs.Refusals.{number_of, reason_number}
use Rattle.stream.specs.declared.Trouble.{Trouble}
use Rattle.stream.specs.declared.Trouble.TheVariants as T
use Rattle.stream.specs.declared.Reason.{Reason}
use Rattle.stream.specs.declared.Reason.TheVariants as R
use Rattle.stream.specs.declared.Refusal.{Refusal}
use Rattle.color.specs.Answer as color
use Rattle.color.specs.declared.Color.{Color}
use Rattle.paint.specs.Answers as paint
use Rattle.paint.specs.declared.Paint.{Paint}
use Rattle.paint.specs.declared.Paint.TheVariants as P
use Rattle.paint.specs.declared.PaintFallback.TheVariants as F
use Rattle.packed.specs.Fits.{Bytes, Fits}
use Rattle.packed.specs.Numbers.{no_color, no_paint, colors, color_number, number_color, fallback_number, paint_number, decoded_paint, color_answer_number, paint_answer_number, places, stretch_start, refusal_number, color_or, paint_or}
use Rattle.packed.proofs.Digits.{red_back, green_back, blue_back, alpha_back, color_below, paint_below, digits_back, tint_kind, tint_alone, link_back, paint_some}
use Rattle.packed.proofs.Channels.{answer_bytes}
use Rattle.packed.proofs.Readings.{answer_fits}

-- A colour whose channels are bytes comes back from its number.
pub color_back : (c : Color) → Bytes c → number_color (color_number c) ≡ c
unfolding number_color
color_back c h = simp (red_back c h, green_back c h, blue_back c h, alpha_back c h)

-- A number below no_color comes back from its colour.
pub number_back : (v : ℕ) → v < no_color → color_number (number_color v) ≡ v
unfolding number_color color_number
number_back v h = digits_back v h

-- So it is the number of a paint in that colour, but for the kind.
pub painted_is : (v : ℕ) → v < no_color → 6 + v * colors ≡ paint_number (P.Color (number_color v))
unfolding paint_number
painted_is v h = rw (number_back v h)

-- A paint that fits comes back from its number.
pub paint_back : (p : Paint) → Fits p → decoded_paint (paint_number p) ≡ p
unfolding decoded_paint paint_number fallback_number
paint_back P.None h = refl
paint_back P.Inherit h = refl
paint_back P.CurrentColor h = refl
paint_back P.ContextFill h = refl
paint_back P.ContextStroke h = refl
paint_back (P.Color c) h = simp (tint_kind (color_number c), tint_alone (color_number c), color_back c h)
paint_back (P.FuncIRI l None) h = link_back l None h 0 0 (omega arith) refl refl
paint_back (P.FuncIRI l (Some F.None)) h = link_back l (Some F.None) h 1 0 (omega arith) refl refl
paint_back (P.FuncIRI l (Some F.CurrentColor)) h = link_back l (Some F.CurrentColor) h 2 0 (omega arith) refl refl
paint_back (P.FuncIRI l (Some (F.Color c))) h = link_back l (Some (F.Color c)) h 3 (color_number c) (omega arith) refl (ap (λ d. Some (F.Color d)) (color_back c h.fallback))

-- A paint's answer is a refusal exactly where its number is 0.
pub no_number : (a : Result Paint Refusal) → (paint_answer_number a ≡ 0) ↔ ((e : Refusal) × (a ≡ Err e))
unfolding paint_answer_number
no_number a = (refused a, λ z. ap paint_answer_number z.1)
  where
    refused : (a : Result Paint Refusal) → paint_answer_number a ≡ 0 → (e : Refusal) × (a ≡ Err e)
    refused (Ok p) q = absurd (omega (arith, paint_some p))
    refused (Err e) q = (e, refl)

-- And so is a colour's.
pub no_color_number : (a : Result Color Refusal) → (color_answer_number a ≡ 0) ↔ ((e : Refusal) × (a ≡ Err e))
unfolding color_answer_number
no_color_number a = (refused a, λ z. ap color_answer_number z.1)
  where
    refused : (a : Result Color Refusal) → color_answer_number a ≡ 0 → (e : Refusal) × (a ≡ Err e)
    refused (Ok c) q = absurd (omega (arith, paint_some (P.Color c)))
    refused (Err e) q = (e, refl)

-- The channels of every colour that is read are bytes.
pub color_fits : (s : List ℕ) (c : Color) → color.from_str s ≡ Ok c → Bytes c
color_fits = answer_bytes

-- Every paint that is read fits.
pub paint_fits : (s : List ℕ) (p : Paint) → paint.from_str s ≡ Ok p → Fits p
paint_fits = answer_fits

-- So a colour that is read comes back from its answer's number, as a paint in this colour;
pub color_read_back : (s : List ℕ) (c : Color) → color.from_str s ≡ Ok c → decoded_paint (color_answer_number (color.from_str s)) ≡ P.Color c
unfolding color_answer_number
color_read_back s c e = rw e (paint_back (P.Color c) (color_fits s c e))

-- and a paint that is read, from its answer's number.
pub paint_read_back : (s : List ℕ) (p : Paint) → paint.from_str s ≡ Ok p → decoded_paint (paint_answer_number (paint.from_str s)) ≡ p
unfolding paint_answer_number
paint_read_back s p e = rw e (paint_back p (paint_fits s p e))

-- The same of the number that a call answered: where it tells a colour, that is the colour read;
pub color_told : (s : List ℕ) (v : ℕ) → v ≡ color_or (color.from_str s) → v < no_color → Ok (number_color v) ≡ color.from_str s
unfolding color_or
color_told s v q h = go (color.from_str s) refl q
  where
    go : (a : Result Color Refusal) → color.from_str s ≡ a → v ≡ color_or a → Ok (number_color v) ≡ color.from_str s
    go (Ok c) e k = rw (k, color_back c (color_fits s c e)) (sym e)
    go (Err f) e k = absurd (omega arith)

-- where it is no_color or more, the text is refused, by which number and from where on;
pub color_refused : (s : List ℕ) (v : ℕ) → v ≡ color_or (color.from_str s) → no_color ≤ v → (e : Refusal) × ((color.from_str s ≡ Err e) × (v ≡ no_color + refusal_number e))
unfolding color_or
color_refused s v q h = go (color.from_str s) refl q
  where
    go : (a : Result Color Refusal) → color.from_str s ≡ a → v ≡ color_or a → (e : Refusal) × ((a ≡ Err e) × (v ≡ no_color + refusal_number e))
    go (Ok c) e k = absurd (omega (arith, color_below c (color_fits s c e)))
    go (Err f) e k = (f, (refl, k))

-- where it tells a paint, that is the paint read;
pub paint_told : (s : List ℕ) (v : ℕ) → v ≡ paint_or (paint.from_str s) → v < no_paint → Ok (decoded_paint v) ≡ paint.from_str s
unfolding paint_or
paint_told s v q h = go (paint.from_str s) refl q
  where
    go : (a : Result Paint Refusal) → paint.from_str s ≡ a → v ≡ paint_or a → Ok (decoded_paint v) ≡ paint.from_str s
    go (Ok p) e k = rw (k, paint_back p (paint_fits s p e)) (sym e)
    go (Err f) e k = absurd (omega arith)

-- and where it is no_paint or more, by which number the text is refused, and from where on.
pub paint_refused : (s : List ℕ) (v : ℕ) → v ≡ paint_or (paint.from_str s) → no_paint ≤ v → (e : Refusal) × ((paint.from_str s ≡ Err e) × (v ≡ no_paint + refusal_number e))
unfolding paint_or
paint_refused s v q h = go (paint.from_str s) refl q
  where
    go : (a : Result Paint Refusal) → paint.from_str s ≡ a → v ≡ paint_or a → (e : Refusal) × ((a ≡ Err e) × (v ≡ no_paint + refusal_number e))
    go (Ok p) e k = absurd (omega (arith, paint_below p (paint_fits s p e)))
    go (Err f) e k = (f, (refl, k))

-- Where a refusal's stretch starts is told for all but 1 to 3, and it is near.
pub start_told : (e : Refusal) → 3 < reason_number e.reason → stretch_start e ≡ e.from.0
unfolding stretch_start
start_told e h = simp (lt-leb (reason_number e.reason) 3 h)

pub start_none : (e : Refusal) → reason_number e.reason ≤ 3 → stretch_start e ≡ 0
unfolding stretch_start
start_none e h = simp (le-leb (reason_number e.reason) 3 h)

pub start_near : (e : Refusal) → e.from.0 < places → stretch_start e < places
unfolding stretch_start
start_near e h = either (leb (reason_number e.reason) 3) (λ t. simp t (omega arith)) (λ t. simp t h)

-- So a refusal's number is made.
trouble_small : (t : Trouble) → number_of t < 32
unfolding number_of
trouble_small T.UnexpectedEndOfStream = omega arith
trouble_small T.InvalidValue = omega arith
trouble_small T.UnexpectedData = omega arith
trouble_small (T.InvalidChar found wanted) = omega arith
trouble_small T.InvalidString = omega arith
trouble_small T.WrongByte = omega arith
trouble_small T.WrongForm = omega arith
trouble_small T.PercentageValue = omega arith
trouble_small T.NegativeValue = omega arith
trouble_small T.InvalidAngle = omega arith
trouble_small T.MissingDropShadowOffset = omega arith
trouble_small T.InvalidUrl = omega arith
trouble_small T.TextEnded = omega arith
trouble_small T.TooLarge = omega arith
trouble_small T.ScaleOutOfRange = omega arith

pub number_small : (r : Reason) → reason_number r < 32
unfolding reason_number
number_small R.TextTooLong = omega arith
number_small R.IllFormed = omega arith
number_small R.BadListPlace = omega arith
number_small (R.Unread t) = trouble_small t
number_small R.BufferTooShort = omega arith
number_small R.NoKeyword = omega arith
number_small R.NotStrict = omega arith
