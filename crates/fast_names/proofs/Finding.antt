-- What a word names is what its number finds in the table.
use Prim.Native.Nat.{ℕ, suc, ◌≤◌, ◌<◌}
use mathlib.Core.Bool.{Bool, true, ◌&&◌}
use mathlib.Core.List.{List, [], ◌∷◌}
use mathlib.Core.Path.{◌≡◌, refl, sym, ap, ◌∙◌}
use native.Mathlib.Omega.{arith}
use lib.Dec.{T, eqb}
use lib.ListN.{length, get_or}
use mir.Syntax.{w8}
use mir.Val.{Fits}
use Rattle.text_bytes.specs.Bytes.{within}
use Rattle.text_bytes.specs.Words.{ascii, same}
use Rattle.text_bytes.proofs.Ranges.{across, either}
use Rattle.names.specs.Keywords.{Keyword, keywords}
use Rattle.names.specs.Look.{look_up}
use Rattle.fast_names.specs.Named.{named_number}
use Rattle.std.specs.Prelude.{Option, None}
use Rattle.names.specs.Search.{nth}
use Rattle.fast_names.specs.Letters.{three, short, head, tail, found, of_length, of_three, of_short, of_long}
use Rattle.names.proofs.Tables.{holds_true, all_lower, table_count, table_lower}
use Rattle.fast_names.proofs.Written.{at, look_unknown}
use Rattle.fast_names.proofs.Spelt.{tells_three, tells_short, tells_long, tells_word}
use Rattle.fast_names.proofs.Arms.{NoneOf, is_one_of, none_of}

-- the name of n letters that is w
unfoldable pub of_word : ℕ → List ℕ → Option ℕ
of_word n w = of_length n (same w)

-- a test that takes of all names of small letters just v finds what v names
module _ (v : List ℕ) (t : List ℕ → Bool) (f : (a : List ℕ) → T (all_lower a) → t a ≡ same v a) where
  found_look : (es : List Keyword) → ((j : ℕ) → j < length es → T (all_lower (at es j).name)) → found t es ≡ named_number (look_up es v)
  unfolding found look_up all_lower within named_number
  found_look [] h = rw (f (ascii "transparent") tt) (either (same v (ascii "transparent")) (λ e. simp e) (λ e. simp e))
  found_look (x ∷ xs) h =
      rw (f x.name (h 0 (omega arith)), found_look xs (λ j l. h (suc j) (omega arith)))
      (either (same v x.name) (λ e. simp e) (λ e. simp e))

module _ (w : List ℕ) where
  length_finds : (n : ℕ) (t : List ℕ → Bool) → ((a : List ℕ) → T (all_lower a) → (eqb (length a) n && t a) ≡ same w a)
      → of_length n t ≡ named_number (look_up keywords w)
  unfolding of_length
  length_finds n t f = found_look w (λ a. eqb (length a) n && t a) f keywords (λ j l. table_lower j (omega (arith, table_count)))

  -- the arms: n is the word's length, and k the number of its letters
  pub names_word : {n : ℕ} {r : Option ℕ} → length w ≡ n → r ≡ of_word n w → r ≡ named_number (look_up keywords w)
  unfolding of_word
  names_word e h = h ∙ rw (← e) (length_finds (length w) (same w) (λ a s. tells_word w a))

  module _ (q : (i : ℕ) → Fits w8 (get_or w i 0)) where
    pub names_three : {k : ℕ} {r : Option ℕ} → length w ≡ 3 → k ≡ three w → r ≡ of_three k → r ≡ named_number (look_up keywords w)
    unfolding of_three
    names_three e i h = h ∙ rw (i, ← e) (length_finds (length w) (λ a. eqb (three w) (three a)) (λ a s. tells_three w (λ i. (q i).fits) a s e))

    pub names_short : {n k : ℕ} {r : Option ℕ} → length w ≡ n → k ≡ short w → r ≡ of_short n k → 4 ≤ n → n ≤ 8 → r ≡ named_number (look_up keywords w)
    unfolding of_short
    names_short e i h m n =
        h ∙ rw (i, ← e) (length_finds (length w) (λ a. eqb (short w) (short a)) (λ a s. tells_short w (λ i. (q i).fits) a s (omega arith) (omega arith)))

    pub names_long : {n k l : ℕ} {r : Option ℕ} → length w ≡ n → k ≡ head w → l ≡ tail w → r ≡ of_long n k l → 8 ≤ n → n ≤ 16 → r ≡ named_number (look_up keywords w)
    unfolding of_long
    names_long e i j h m n =
        h ∙ rw (i, j, ← e) (length_finds (length w) (λ a. eqb (head w) (head a) && eqb (tail w) (tail a)) (λ a s. tells_long w (λ i. (q i).fits) a s (omega arith) (omega arith)))

-- no name has another length
abbrev pub lengths : List ℕ
lengths = 20 ∷ 17 ∷ 16 ∷ 15 ∷ 14 ∷ 13 ∷ 12 ∷ 11 ∷ 10 ∷ 9 ∷ 8 ∷ 7 ∷ 6 ∷ 5 ∷ 4 ∷ 3 ∷ []

table_lengths : (k : ℕ) → k < 147 → is_one_of lengths (length (nth k).name) ≡ true
unfolding keywords
table_lengths k h = sym (holds_true _ (across (λ j. is_one_of lengths (length (nth j).name)) 0 147 tt k (omega arith) (omega arith)))

pub names_none : (w : List ℕ) → NoneOf (length w) lengths → None ≡ named_number (look_up keywords w)
unfolding named_number
names_none w u =
    let z : (a : List ℕ) → is_one_of lengths (length a) ≡ true → a ≡ w → ⊥ =
    λ a t e. none_of lengths u (length a) t (sym (ap length e)) in
    simp (look_unknown w (λ k h. z (nth k).name (table_lengths k h)) (z (ascii "transparent") refl))
