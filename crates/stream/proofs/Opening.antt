-- A word that stands directly before its bracket is the word that a scan reads.
use Prim.Native.Nat.{ℕ, suc, ◌+◌, ◌-◌, ◌<◌}
use mathlib.Core.Bool.{Bool, true, false, ◌&&◌}
use mathlib.Core.List.{List, [], ◌∷◌, ◌++◌}
use mathlib.Core.Path.{◌≡◌, refl, ap}
use native.Mathlib.Omega.{arith}
use borrow.Author.Tests.{eqb-true, lt-leb}
use lib.Dec.{eqb}
use lib.ListN.{length, get_or, take, drop, length-drop}
use lib.Seq.{get_or-drop}
use Rattle.text_bytes.specs.Bytes.{within, is_space, is_ascii_ident}
use Rattle.text_bytes.specs.Moves.{place}
use Rattle.stream.specs.Faults.{consume_byte}
use Rattle.text_bytes.specs.Scan.{run, scan}
use Rattle.text_bytes.specs.Words.{starts_with, part}
use Rattle.std.specs.Prelude.{Ok}
use Rattle.text_bytes.proofs.Scans.{scan_here}

-- a word and the bracket that opens its arguments
abbrev pub bracketed : List ℕ → List ℕ
bracketed w = w ++ (40 ∷ [])

abbrev pub is_word : List ℕ → Bool
is_word [] = true
is_word (x ∷ xs) = is_ascii_ident x && is_word xs

-- l begins with the word w and a bracket: the word ends there, and no byte before
pub record Opens (w l : List ℕ) : Type 0 where
  pub word : run is_ascii_ident l ≡ length w
  pub bytes : take (length w) l ≡ w
  pub bracket : get_or l (length w) 0 ≡ 40
  pub inside : length w < length l

pub opens : (w l : List ℕ) → is_word w ≡ true → starts_with (bracketed w) l ≡ true → Opens w l
unfolding starts_with run within
opens [] [] h e = let z : ◌≡◌ {A = ℕ} 0 1 = cc in absurd (omega arith)
opens [] (x ∷ xs) h e = go (eqb x 40) refl e
  where
    go : (t : Bool) → eqb x 40 ≡ t → (t && true) ≡ true → Opens [] (x ∷ xs)
    go true q f = let k : x ≡ 40 = eqb-true x 40 q in record { word = simp k; bytes = refl; bracket = k; inside = omega arith }
    go false q f = let z : ◌≡◌ {A = ℕ} 0 1 = cc in absurd (omega arith)
opens (w ∷ ws) [] h e = let z : ◌≡◌ {A = ℕ} 0 1 = cc in absurd (omega arith)
opens (w ∷ ws) (x ∷ xs) h e = go (eqb x w) refl (is_ascii_ident w) refl h e (opens ws xs)
  where
    go : (t : Bool) → eqb x w ≡ t → (u : Bool) → is_ascii_ident w ≡ u → (u && is_word ws) ≡ true → (t && starts_with (bracketed ws) xs) ≡ true
        → (is_word ws ≡ true → starts_with (bracketed ws) xs ≡ true → Opens ws xs) → Opens (w ∷ ws) (x ∷ xs)
    go true q true p h e ih =
        let k : x ≡ w = eqb-true x w q in
        let o = ih h e in
        record { word = rw (k, p) (ap suc o.word); bytes = cc; bracket = o.bracket; inside = omega (arith, o.inside) }
    go false q u p h e ih = let z : ◌≡◌ {A = ℕ} 0 1 = cc in absurd (omega arith)
    go true q false p h e ih = let z : ◌≡◌ {A = ℕ} 0 1 = cc in absurd (omega arith)

-- so at a place of a text
module _ (w s : List ℕ) (i : ℕ) (o : Opens w (drop i s)) where
  pub word_ends : scan is_ascii_ident s i ≡ i + length w
  unfolding scan
  word_ends = ap (λ (k : ℕ). i + k) o.word

  pub word_bytes : part s i (i + length w) ≡ w
  unfolding part
  word_bytes = let z : i + length w - i ≡ length w = omega arith in rw z o.bytes

  pub word_bracket : get_or s (i + length w) 0 ≡ 40
  word_bracket = rw get_or-drop at o.bracket

  pub word_before : i + length w < length s
  word_before = omega (arith, o.inside, length-drop i s)

  pub word_unspaced : scan is_space s (i + length w) ≡ i + length w
  word_unspaced = scan_here is_space s (i + length w) (rw word_bracket refl) word_before

  pub word_opened : consume_byte s (i + length w) 40 ≡ Ok (place (i + length w + 1))
  unfolding consume_byte
  word_opened = simp (lt-leb (length s) (i + length w) word_before, word_bracket)
