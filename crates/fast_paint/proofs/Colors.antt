-- A text that is no link: a keyword, a colour, or no paint.
use Prim.Native.Nat.{ℕ, suc, ◌+◌, ◌-◌, ◌*◌, ◌/◌, ◌%◌, ◌<◌}
use mathlib.Core.Bool.{true, false, ◌||◌}
use mathlib.Core.List.{List, [], ◌∷◌}
use mathlib.Core.Path.{◌≡◌, refl, ap}
use native.Mathlib.Omega.{arith}
use borrow.Author.Tests.{lt-ltb, le-ltb}
use lib.Dec.{eqb, leb, ltb}
use lib.ListN.{length}
use Rattle.std.specs.Prelude.{Result, Ok, Err, Option, Some, None, ⊤, if◌then◌else◌}
use Rattle.text_bytes.specs.Bytes.{within}
use Rattle.text_bytes.specs.Flow.{◌>>=◌}
use Rattle.text_bytes.specs.Moves.{place}
use Rattle.text_bytes.specs.Words.{ascii, same, starts_with, is_curr_byte_eq}
use Rattle.text_bytes.specs.declared.Place.{Place}
use Rattle.text_bytes.proofs.Ranges.{either}
use Rattle.text_bytes.proofs.Wording.{same_eq}
use Rattle.utf8.specs.Characters.{keeps, row_of, len_at, char_len, walk, utf8_of}
use Rattle.stream.specs.Refusals.{number_of, reason_number, empty_refusal, refusal_of, at_edge, is_outside_domain, admit_utf8, admit_text}
use Rattle.stream.specs.declared.Fault.{Fault}
use Rattle.stream.specs.declared.Read.{Read}
use Rattle.stream.specs.declared.Reason.TheVariants as R
use Rattle.stream.specs.declared.Refusal.{Refusal}
use Rattle.stream.specs.declared.Trouble.TheVariants as T
use Rattle.stream.proofs.Binds.{at_ok}
use Rattle.stream.proofs.Edges.{admitted_small, past_three}
use Rattle.color.specs.Answer as color
use Rattle.color.specs.Color.{parse_color_text}
use Rattle.color.specs.declared.Color.{Color}
use Rattle.color.proofs.Stretches.{text_lies}
use Rattle.paint.specs.Answers.{told_in, parse_trimmed}
use Rattle.paint.specs.Moves.{move_paint}
use Rattle.paint.specs.Reading.{at_start, on_fault, plain_fault, parse_plain, parse_paint}
use Rattle.paint.specs.declared.Paint.{Paint}
use Rattle.paint.specs.declared.Paint.TheVariants as P
use Rattle.packed.specs.Fits.{Bytes}
use Rattle.packed.specs.Numbers.{no_color, places, color_number, paint_number, stretch_start, refusal_number, color_or}
use Rattle.packed.proofs.Channels.{text_bytes}
use Rattle.packed.proofs.Decoding.{color_back}
use Rattle.packed.proofs.Digits.{color_below}
use Rattle.fast_color.specs.Told.{told_or}
use Rattle.fast_paint.specs.Told.{keyword_of, uncolored, told_color, told_plain, numbered}

-- what a trimmed text reads as, with `by` bytes trimmed before it
unfoldable pub inner : ℕ → List ℕ → Result Paint Refusal
inner by t = do
  _ ← admit_text t
  paint ← parse_trimmed t
  Ok (move_paint by paint)

-- x is what is told of a, or None
abbrev pub Right : Option (Result ℕ Place) → Result Paint Refusal → Type 0
Right x a = told_or x (numbered a) ≡ numbered a

-- no other text than a link begins with its first letter
curr_starts : (t : List ℕ) → is_curr_byte_eq t 0 117 ≡ false → starts_with (ascii "url(") t ≡ false
unfolding is_curr_byte_eq starts_with
curr_starts [] e = refl
curr_starts (x ∷ xs) e =
    let f : eqb x 117 ≡ false = simp (lt-ltb 0 (suc (length xs)) (omega arith)) at e in
    simp f

-- the parts of a refusal's number
uncolored_is : (n i : ℕ) → i < places → uncolored (no_color + (n * places + i) - no_color) ≡ (if leb n 3 || (eqb n 10 || (eqb n 23 || eqb n 24)) then None else Some (place i))
unfolding uncolored
uncolored_is n i h =
    let z : no_color + (n * places + i) - no_color ≡ n * places + i = omega arith in
    let a : (n * places + i) / places ≡ n = omega arith in
    let b : (n * places + i) % places ≡ i = omega arith in
    simp (z, a, b)

-- a text that may not be read is refused by 1 or 2
barred : (t : List ℕ) (e : Refusal) → admit_text t ≡ Err e → uncolored (no_color + refusal_number e - no_color) ≡ None
unfolding admit_text admit_utf8 uncolored stretch_start reason_number
barred t e q = either (leb (length t) 4096) (λ h. go (utf8_of t) (simp h at q)) (λ h. let z = err (simp h at q) in rw (← z) refl)
  where
    err : {x : Refusal} → ◌≡◌ {A = Result (Unit {0}) Refusal} (Err x) (Err e) → x ≡ e
    err h = cc

    go : (u : Result (Unit {0}) Place) → admit_utf8 u ≡ Err e → uncolored (no_color + refusal_number e - no_color) ≡ None
    go (Ok u) h = let z : ◌≡◌ {A = ℕ} 0 1 = cc in absurd (omega arith)
    go (Err p) h = let z = err h in rw (← z) refl

abbrev color_of : Result (Unit {0}) Refusal → List ℕ → Result (Read Color) Fault → Result Color Refusal
color_of x t r = x >>= (λ _. at_edge t r >>= (λ (d : Read Color). Ok d.value))

abbrev paint_of : ℕ → Result (Unit {0}) Refusal → List ℕ → Result (Read Color) Fault → Result Paint Refusal
paint_of by x t r = x >>= (λ _. told_in t (on_fault (λ e. at_start (plain_fault e)) r >>= (λ (d : Read Color). Ok (P.Color d.value))) >>= (λ p. Ok (move_paint by p)))

module _ (by : ℕ) (t : List ℕ) where
  color_go : (x : Result (Unit {0}) Refusal) → admit_text t ≡ x → (r : Result (Read Color) Fault) → parse_color_text t ≡ r → Right (told_color (color_or (color_of x t r))) (paint_of by x t r)
  unfolding color_or numbered told_or move_paint refusal_of stretch_start plain_fault is_outside_domain reason_number
  color_go (Ok u) k (Ok d) q =
      let b : Bytes d.value = at_ok (λ (c : Read Color). Bytes c.value) (λ _. ⊤) (parse_color_text t) d (text_bytes t) q in
      simp (lt-ltb (color_number d.value) no_color (color_below d.value b), color_back d.value b)
  color_go (Ok u) k (Err e) q =
      let n = number_of e.trouble in
      let v = text_lies t e q in
      let i : e.from.0 < places = omega (arith, v.lies.ordered, v.lies.inside, admitted_small t k) in
      let l : leb n 3 ≡ false = past_three e.trouble in
      let m : ltb (no_color + (n * places + e.from.0)) no_color ≡ false = le-ltb (no_color + (n * places + e.from.0)) no_color (omega arith) in
      either (eqb n 10 || (eqb n 23 || eqb n 24))
      (λ h. simp (l, m, uncolored_is n e.from.0 i, h))
      (λ h. simp (l, m, uncolored_is n e.from.0 i, h) (ap (λ (p : Place). Err (empty_refusal (R.Unread T.InvalidValue) p.0)) v.start))
  color_go (Err f) k r q =
      let m : ltb (no_color + refusal_number f) no_color ≡ false = le-ltb (no_color + refusal_number f) no_color (omega arith) in
      simp (m, barred t f k)

  word_right : (w : List ℕ) → same t w ≡ true → Right (told_plain w) (inner by w) → Right (told_plain t) (inner by t)
  word_right w e q = rw (same_eq t w e) q

  pub plain_right : is_curr_byte_eq t 0 117 ≡ false → Right (told_plain t) (inner by t)
  unfolding told_plain keyword_of inner numbered told_or parse_trimmed parse_paint parse_plain move_paint paint_number color.from_str admit_text admit_utf8 utf8_of walk char_len len_at row_of keeps within same
  plain_right u =
      either (same t (ascii "none")) (λ e. word_right (ascii "none") e refl)
      (λ a. either (same t (ascii "inherit")) (λ e. word_right (ascii "inherit") e refl)
      (λ b. either (same t (ascii "currentColor")) (λ e. word_right (ascii "currentColor") e refl)
      (λ c. either (same t (ascii "context-fill")) (λ e. word_right (ascii "context-fill") e refl)
      (λ d. either (same t (ascii "context-stroke")) (λ e. word_right (ascii "context-stroke") e refl)
      (λ e. simp (a, b, c, d, e, curr_starts t u) (color_go (admit_text t) refl (parse_color_text t) refl))))))
