-- What a step reads at a name that stands directly before its bracket.
use Prim.Native.Nat.{ℕ, ◌+◌, ◌<◌}
use mathlib.Core.Bool.{true, false, ◌&&◌, not, true≢false, Bool}
use mathlib.Core.List.{List, [], ◌∷◌, ◌++◌}
use mathlib.Core.Path.{◌≡◌, refl, sym, ◌∙◌}
use native.Mathlib.Nat.{add-zero}
use native.Mathlib.Omega.{arith}
use borrow.Author.Tests.{eq-eqb, lt-leb, not-true}
use lib.Dec.{eqb}
use lib.ListN.{length, get_or, drop}
use lib.Seq.{get_or-drop}
use Rattle.std.specs.Prelude.{Ok, Option, Some, None}
use Rattle.text_bytes.specs.Bytes.{is_space}
use Rattle.text_bytes.specs.Scan.{scan}
use Rattle.text_bytes.specs.Words.{ascii, starts_with, is_curr_byte_eq}
use Rattle.text_bytes.proofs.Ranges.{and_first, and_second, either}
use Rattle.text_bytes.proofs.Scans.{scan_here}
use Rattle.text_bytes.proofs.Wording.{starts_first, word_inside, curr_there, curr_inside, curr_byte}
use Rattle.stream.specs.declared.Read.{Read}
use Rattle.stream.proofs.Opening.{bracketed, is_word, opens, word_ends, word_bytes, word_unspaced, word_opened}
use Rattle.stream.proofs.Sames.{curr_consumed}
use Rattle.filter_functions.specs.Filters.{filter_name, argument_of, parse_argument, close_bracket, parse_next, parse_step, listed}
use Rattle.filter_functions.specs.declared.FilterValue.{FilterValue}
use Rattle.filter_functions.specs.declared.Listed.TheVariants as I
use Rattle.fast_filter_functions.specs.Told.{closed_or}

-- the first byte of a word that stands at a place
module _ (w : ℕ) (ws s : List ℕ) (i : ℕ) (e : starts_with (w ∷ ws) (drop i s) ≡ true) where
  starts_byte : get_or s i 0 ≡ w
  starts_byte = simp (get_or-drop, add-zero) at (starts_first w ws (drop i s) e)

  pub starts_curr : is_curr_byte_eq s i w ≡ true
  starts_curr = sym (curr_there s i w (omega (arith, word_inside w ws s i true refl (sym e)))) ∙ eq-eqb (get_or s i 0) w starts_byte

-- where a byte stands that is no space, spaces end
pub curr_still : (s : List ℕ) (i c : ℕ) → is_space c ≡ false → is_curr_byte_eq s i c ≡ true → scan is_space s i ≡ i
curr_still s i c n e = scan_here is_space s i (rw (curr_byte s i c refl e) n) (curr_inside s i c refl e)

-- a word that a step reads as a name: its first byte is no space, and not that of `none` (110)
abbrev pub is_name : List ℕ → Bool
is_name [] = false
is_name (w ∷ ws) = not (is_space w) && (not (eqb w 110) && is_word (w ∷ ws))

-- a step passes no space before a name, and reads no `none`
record Begins (s : List ℕ) (i : ℕ) : Type 0 where
  inside : i < length s
  still : scan is_space s i ≡ i
  other : starts_with (ascii "none") (drop i s) ≡ false

begins : (w : ℕ) (ws s : List ℕ) (i : ℕ) → is_space w ≡ false → eqb w 110 ≡ false → starts_with (w ∷ ws) (drop i s) ≡ true → Begins s i
begins w ws s i space none e =
    let c : is_curr_byte_eq s i w ≡ true = starts_curr w ws s i e in
    record {
      inside = curr_inside s i w refl c;
      still = curr_still s i w space c;
      other = either (starts_with (ascii "none") (drop i s)) (λ f. let z : w ≡ 110 = sym (starts_byte w ws s i e) ∙ starts_byte 110 _ s i f in absurd (true≢false (sym (eq-eqb w 110 z) ∙ none))) (λ f. f);
    }

-- the step at a name w with its bracket, n bytes in all, whose brackets hold what is told of them
module _ (w s : List ℕ) (at n : ℕ) (name : is_name w ≡ true) (stands : starts_with (bracketed w) (drop at s) ≡ true) (wide : n ≡ length w + 1) where
  step_closed : (v : Read FilterValue) → is_curr_byte_eq s v.next.0 41 ≡ true → argument_of (filter_name w) s at (scan is_space s (at + n)) ≡ Ok v
      → parse_step s at ≡ listed (I.Value v.value) (scan is_space s (v.next.0 + 1))
  unfolding parse_step parse_next parse_argument close_bracket
  step_closed v c holds = go w name stands wide holds
    where
      go : (u : List ℕ) → is_name u ≡ true → starts_with (bracketed u) (drop at s) ≡ true → n ≡ length u + 1
          → argument_of (filter_name u) s at (scan is_space s (at + n)) ≡ Ok v → parse_step s at ≡ listed (I.Value v.value) (scan is_space s (v.next.0 + 1))
      go [] i f k a = let z : ◌≡◌ {A = ℕ} 0 1 = cc in absurd (omega arith)
      go (x ∷ xs) i f k a =
          let rest = and_second (not (is_space x)) _ i in
          let b = begins x (xs ++ (40 ∷ [])) s at (not-true (is_space x) (and_first (not (is_space x)) _ i)) (not-true (eqb x 110) (and_first (not (eqb x 110)) _ rest)) f in
          let o = opens (x ∷ xs) (drop at s) (and_second (not (eqb x 110)) _ rest) f in
          let z : at + length (x ∷ xs) + 1 ≡ at + n = omega arith in
          let e = v.next.0 in
          simp (b.still, lt-leb (length s) at b.inside, b.other, word_ends (x ∷ xs) s at o, word_unspaced (x ∷ xs) s at o, word_opened (x ∷ xs) s at o, word_bytes (x ∷ xs) s at o, z, a, curr_still s e 41 refl c, curr_consumed s e 41 refl c)

  pub closed : (r : Option (Read FilterValue)) → ((v : Read FilterValue) → r ≡ Some v → is_curr_byte_eq s v.next.0 41 ≡ true → argument_of (filter_name w) s at (scan is_space s (at + n)) ≡ Ok v)
      → closed_or s (parse_step s at) r ≡ parse_step s at
  closed None f = refl
  closed (Some v) f = either (is_curr_byte_eq s v.next.0 41) (λ c. simp c (sym (step_closed v c (f v refl c)))) (λ c. simp c)
