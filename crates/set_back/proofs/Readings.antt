-- What is written reads back: a text of ASCII that a colour ends with, hex digits, and a keyword.
use Prim.Native.Nat.{ℕ, ◌+◌, ◌≤◌}
use mathlib.Core.Bool.{Bool, true, false, ◌&&◌}
use mathlib.Core.List.{List, [], ◌∷◌}
use mathlib.Core.Path.{◌≡◌, refl, sym}
use native.Mathlib.Omega.{arith}
use borrow.Author.Tests.{le-leb, le-ltb, eqb-true}
use lib.Dec.{eqb, ltb}
use lib.ListN.{length, drop}
use lib.Seq.{drop-length}
use Rattle.text_bytes.specs.Bytes.{is_space}
use Rattle.text_bytes.specs.Scan.{run, scan}
use Rattle.text_bytes.proofs.Ranges.{either, and_first, and_second}
use Rattle.utf8.specs.Characters.{is_ascii}
use Rattle.utf8.proofs.Walks.{ascii_utf8}
use Rattle.std.specs.Prelude.{Ok}
use Rattle.stream.specs.Refusals.{admit_text, admit_utf8}
use Rattle.color.specs.Answer.{from_str}
use Rattle.color.specs.Color.{parse_color, parse_color_text}
use Rattle.color.specs.Hex.{rgba, color_read}
use Rattle.color.specs.declared.Color.{Color}
use Rattle.set_back.specs.Answers.{Bytes}
use Rattle.set_back.specs.Texts.{doubled, all_doubled, short_text, long_text, hex_text}
use Rattle.set_back.proofs.Digits.{hashed, hashed_ascii, three_read, four_read, six_read, eight_read, upper, lower, halves, doubles}

-- an ASCII text that is not too long may be read
admitted : (s : List ℕ) → is_ascii s ≡ true → length s ≤ 4096 → admit_text s ≡ Ok tt
unfolding admit_text admit_utf8
admitted s a l = simp (le-leb (length s) 4096 l, sym (ascii_utf8 s {r = is_ascii s} refl a))

-- a colour that ends where its text does
pub whole_read : (s : List ℕ) (c : Color) → is_ascii s ≡ true → length s ≤ 4096 → parse_color s 0 ≡ color_read c (length s) → from_str s ≡ Ok c
unfolding from_str parse_color_text scan run
whole_read s c a l e =
    let d : admit_text s ≡ Ok tt = admitted s a l in
    let n : length s + run is_space (drop (length s) s) ≡ length s = rw (drop-length s) (omega arith) in
    let k : ltb (length s) (length s) ≡ false = le-ltb (length s) (length s) (omega arith) in
    simp (d, e, n, k)

-- and one that is read with channels that are the colour's
read_as : (s : List ℕ) (c : Color) (r g b a : ℕ) → is_ascii s ≡ true → length s ≤ 4096 → parse_color s 0 ≡ color_read (rgba r g b a) (length s)
    → r ≡ c.red → g ≡ c.green → b ≡ c.blue → a ≡ c.alpha → from_str s ≡ Ok c
read_as s c r g b a i l e p q u w = whole_read s c i l (rw (p, q, u, w) at e)

module _ (c : Color) (v : Bytes c) where
  pub short_back : all_doubled c ≡ true → from_str (short_text c) ≡ Ok c
  unfolding all_doubled short_text
  short_back e =
      let r = lower c.red v.red in
      let g = lower c.green v.green in
      let b = lower c.blue v.blue in
      let a = lower c.alpha v.alpha in
      let e₂ = and_second (doubled c.red) (doubled c.green && (doubled c.blue && doubled c.alpha)) e in
      let e₃ = and_second (doubled c.green) (doubled c.blue && doubled c.alpha) e₂ in
      let p = doubles c.red v.red (and_first (doubled c.red) _ e) in
      let q = doubles c.green v.green (and_first (doubled c.green) _ e₂) in
      let u = doubles c.blue v.blue (and_first (doubled c.blue) _ e₃) in
      let w = doubles c.alpha v.alpha (and_second (doubled c.blue) _ e₃) in
      either (eqb c.alpha 255)
      (λ f. simp f (read_as (hashed (r ∷ g ∷ b ∷ [])) c _ _ _ _ (hashed_ascii (r ∷ g ∷ b ∷ [])) (omega arith) (three_read r g b a) p q u (sym (eqb-true _ _ f))))
      (λ f. simp f (read_as (hashed (r ∷ g ∷ b ∷ a ∷ [])) c _ _ _ _ (hashed_ascii (r ∷ g ∷ b ∷ a ∷ [])) (omega arith) (four_read r g b a) p q u w))

  pub long_back : from_str (long_text c) ≡ Ok c
  unfolding long_text
  long_back =
      let r = upper c.red v.red in
      let r' = lower c.red v.red in
      let g = upper c.green v.green in
      let g' = lower c.green v.green in
      let b = upper c.blue v.blue in
      let b' = lower c.blue v.blue in
      let a = upper c.alpha v.alpha in
      let a' = lower c.alpha v.alpha in
      let p = halves c.red v.red in
      let q = halves c.green v.green in
      let u = halves c.blue v.blue in
      let w = halves c.alpha v.alpha in
      either (eqb c.alpha 255)
      (λ f. simp f (read_as (hashed (r ∷ r' ∷ g ∷ g' ∷ b ∷ b' ∷ [])) c _ _ _ _ (hashed_ascii (r ∷ r' ∷ g ∷ g' ∷ b ∷ b' ∷ [])) (omega arith) (six_read r g b a r' g' b' a') p q u (sym (eqb-true _ _ f))))
      (λ f. simp f (read_as (hashed (r ∷ r' ∷ g ∷ g' ∷ b ∷ b' ∷ a ∷ a' ∷ [])) c _ _ _ _ (hashed_ascii (r ∷ r' ∷ g ∷ g' ∷ b ∷ b' ∷ a ∷ a' ∷ [])) (omega arith) (eight_read r g b a r' g' b' a') p q u w))

  -- each form reads back
  pub hex_reads : (short : Bool) → from_str (hex_text c short) ≡ Ok c
  unfolding hex_text
  hex_reads short = either (short && all_doubled c) (λ e. simp e (short_back (and_second short (all_doubled c) e))) (λ e. simp e long_back)
