-- Keywords beside the eight shapes: no keyword's text begins as a shape does.
use Prim.Native.Nat.{ℕ, ◌+◌, ◌<◌}
use mathlib.Core.Bool.{Bool, true, false, not, ◌&&◌}
use mathlib.Core.List.{List, [], ◌∷◌, ◌++◌}
use mathlib.Core.Path.{◌≡◌, sym, ◌∙◌}
use native.Mathlib.Nat.{add_assoc}
use native.Mathlib.Omega.{arith}
use borrow.Author.Tests.{ltb-true}
use lib.Dec.{ltb, leb}
use lib.ListN.{length, get_or, length-map}
use lib.Seq.{get_or-append-add}
use Rattle.text_bytes.specs.Bytes.{is_space, is_upper}
use Rattle.text_bytes.specs.Scan.{run, scan}
use Rattle.text_bytes.specs.Words.{lower_of, lowered}
use Rattle.text_bytes.proofs.Ranges.{and_first, and_second}
use Rattle.text_bytes.proofs.Ranges.{either, across, within_ge}
use Rattle.names.proofs.Tables.{holds_true}
use Rattle.strict.specs.Answer.{marked, marked_at, is_shaped}
use Rattle.shapes.proofs.Fair.{never}
use Rattle.standards.specs.Written.{ascii}
use Rattle.standards.specs.CssValues3.{Blank, blank, blanks}
use Rattle.standards.specs.CssColor3Names.{keywords}
use Rattle.standards.specs.Colors.{line}
use Rattle.standards.proofs.Runs.{blanks_run, no_space}

-- after white space
pub shaped_after : (l : List Blank) (r : List ℕ) → is_space (get_or r 0 0) ≡ false → is_shaped (blanks l ++ r) ≡ marked_at r 0
unfolding is_shaped marked_at scan
shaped_after l r e =
    let n : 0 + run is_space (blanks l ++ r) ≡ length (blanks l) + 0 = omega (arith, blanks_run l r e, length-map l blank) in
    rw n (simp (add_assoc, get_or-append-add))

-- a name of three letters or more, that begins with a letter and as no shape does
abbrev pub unmarked : List ℕ → Bool
unmarked n = (leb 3 (length n) && ltb 64 (get_or n 0 0)) && not (marked (get_or n 0 0) (get_or n 1 0) (get_or n 2 0))

letter_first : (a : ℕ) → ltb 64 (lower_of a) ≡ true → is_space a ≡ false
unfolding lower_of
letter_first a e =
    either (is_upper a) (λ u. no_space a (omega (arith, within_ge 65 90 a (sym u))))
    (λ u. let f : ltb 64 a ≡ true = rw u at e in no_space a (omega (arith, ltb-true 64 a f)))

module _ (m : List ℕ) where
  pub word_first : (x : List ℕ) → unmarked (lowered x) ≡ true → is_space (get_or (x ++ m) 0 0) ≡ false
  word_first [] e = never e
  word_first (a ∷ x) e =
      letter_first a (and_second (leb 3 (length (lowered (a ∷ x)))) (ltb 64 (lower_of a))
      (and_first (leb 3 (length (lowered (a ∷ x))) && ltb 64 (lower_of a)) (not (marked (lower_of a) (get_or (lowered (a ∷ x)) 1 0) (get_or (lowered (a ∷ x)) 2 0))) e))

  pub word_unmarked : (x : List ℕ) → unmarked (lowered x) ≡ true → marked_at (x ++ m) 0 ≡ false
  unfolding marked_at
  word_unmarked [] e = never e
  word_unmarked (a ∷ []) e = never e
  word_unmarked (a ∷ b ∷ []) e = never e
  word_unmarked (a ∷ b ∷ c ∷ x) e =
      either (marked (lower_of a) (lower_of b) (lower_of c)) (λ f. never (rw f at (and_second (leb 3 (length (lowered (a ∷ b ∷ c ∷ x))) && ltb 64 (lower_of a)) (not (marked (lower_of a) (lower_of b) (lower_of c))) e)))
      (λ f. f)

pub keyword_unshaped : (l m : List Blank) (x : List ℕ) → unmarked (lowered x) ≡ true → is_shaped (blanks l ++ (x ++ blanks m)) ≡ false
keyword_unshaped l m x e = shaped_after l (x ++ blanks m) (word_first (blanks m) x e) ∙ word_unmarked (blanks m) x e

-- the table
pub name_unmarked : (k : ℕ) → k < length keywords → unmarked (ascii (line k).name) ≡ true
unfolding keywords marked
name_unmarked k h = sym (holds_true (unmarked (ascii (line k).name)) (across (λ j. unmarked (ascii (line j).name)) 0 147 tt k (omega arith) h))
