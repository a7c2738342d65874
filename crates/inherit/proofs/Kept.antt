-- The rule as it was before an empty text told to ask higher up: what changed of it, and what did not.
use Prim.Native.Nat.{ℕ, ◌<◌}
use mathlib.Core.Bool.{true, false, cond}
use mathlib.Core.List.{List, [], ◌∷◌}
use mathlib.Core.Path.{◌≡◌, refl}
use native.Mathlib.Omega.{arith}
use borrow.Author.Tests.{eqb-true, lt-leb}
use lib.ListN.{length}
use Rattle.std.specs.Prelude.{Result, Ok, Err, Option, Some, None}
use Rattle.text_bytes.specs.Flow.{◌>>=◌}
use Rattle.text_bytes.specs.Scan.{scan, run}
use Rattle.text_bytes.specs.Words.{same, starts_with}
use Rattle.text_bytes.proofs.Ranges.{either}
use Rattle.text_bytes.specs.declared.Part.{Part}
use Rattle.utf8.specs.Blanks.{trim_part, trim_of}
use Rattle.stream.specs.Refusals.{number_of, bare_refusal, empty_refusal, refusal_of, is_outside_domain, admit_text}
use Rattle.stream.specs.declared.Refusal.{Refusal}
use Rattle.stream.specs.declared.Trouble.TheVariants as T
use Rattle.stream.specs.declared.Reason.TheVariants as R
use Rattle.color.specs.Color.{parse_color, parse_color_text}
use Rattle.paint.specs.Answers.{parse_trimmed, from_str}
use Rattle.paint.specs.Reading.{plain_fault, parse_plain, parse_paint}
use Rattle.paint.specs.declared.Paint.{Paint}
use Rattle.paint.specs.declared.Paint.TheVariants as P
use Rattle.inherit.specs.Rule.{is_inherit, is_empty, says, chosen, refused, said_for, asked, or_higher, inherited_of}
use Rattle.inherit.specs.declared.Chosen.{Chosen}
use Rattle.inherit.specs.declared.Whose.{Whose}
use Rattle.inherit.specs.declared.Whose.TheVariants as W
use Rattle.inherit.specs.declared.WhoseRefusal.{WhoseRefusal}

-- THEOREM. A paint refuses an admitted text that is empty after trimming by 5, so that the rule gave 5 where it now asks higher up.
pub empty_refused : (s : List ℕ) → is_empty s ≡ true → admit_text s ≡ Ok tt → from_str s ≡ Err (empty_refusal (R.Unread T.InvalidValue) 0)
unfolding is_empty from_str parse_trimmed parse_paint same starts_with parse_plain plain_fault parse_color_text parse_color scan run refusal_of number_of is_outside_domain
empty_refused s e a =
    let n : trim_of s ≡ [] = nothing (trim_of s) (eqb-true (length (trim_of s)) 0 e) in
    simp (a, n)
  where
    nothing : (t : List ℕ) → length t ≡ 0 → t ≡ []
    nothing [] h = refl
    nothing (x ∷ t) h = absurd (omega arith)

-- THEOREM. A text over the limit is refused by 1, if it is of spaces alone, too.
pub long_refused : (own parent : List ℕ) → 4096 < length own → inherited_of own parent ≡ Err (refused W.Own (bare_refusal R.TextTooLong))
unfolding inherited_of asked says admit_text
long_refused own parent h = simp (lt-leb (length own) 4096 h)

-- a paint that must be one
abbrev must : Whose → Result Paint Refusal → Result Paint WhoseRefusal
must w (Ok v) = Ok v
must w (Err e) = Err (refused w e)

-- The rule as it was: "the parent's if the own text reads `inherit`, else the own. The own must read as a paint, and so must the parent when chosen"
abbrev before : List ℕ → List ℕ → Result (Option Chosen) WhoseRefusal
before own parent = do
  v ← must W.Own (from_str own)
  cond (is_inherit v)
      (do
        w ← must W.Parent (from_str parent)
        Ok (Some (chosen W.Parent (trim_part parent))))
      (Ok (Some (chosen W.Own (trim_part own))))

-- what a text whose paint reads as a says for itself
abbrev judged : List ℕ → Result Paint Refusal → Result (Option Part) Refusal
judged s a = a >>= (λ v. Ok (cond (is_inherit v) None (Some (trim_part s))))

-- a text that is not empty says what its paint does
full : (w : Whose) (s : List ℕ) → is_empty s ≡ false → asked w s ≡ said_for w (judged s (from_str s))
unfolding asked says
full w s e = admitted (admit_text s) refl
  where
    admitted : (x : Result (Unit {0}) Refusal) → admit_text s ≡ x
        → said_for w (x >>= (λ _. cond (is_empty s) (Ok None) (judged s (from_str s)))) ≡ said_for w (judged s (from_str s))
    admitted (Ok u) a = simp e
    admitted (Err f) a = let r : from_str s ≡ Err f = unfold from_str in simp a in simp r

reads_inherit : (v : Paint) → is_inherit v ≡ true → v ≡ P.Inherit
unfolding is_inherit
reads_inherit P.Inherit e = refl
reads_inherit P.None e = cc
reads_inherit P.CurrentColor e = cc
reads_inherit P.ContextFill e = cc
reads_inherit P.ContextStroke e = cc
reads_inherit (P.Color c) e = cc
reads_inherit (P.FuncIRI l f) e = cc

-- THEOREM. Where neither text is empty and not both read `inherit`, the answer is as it was.
pub kept : (own parent : List ℕ) → is_empty own ≡ false → is_empty parent ≡ false → (from_str own ≡ Ok P.Inherit → from_str parent ≡ Ok P.Inherit → ⊥)
    → inherited_of own parent ≡ before own parent
unfolding inherited_of
kept own parent o p n = rw (full W.Own own o, full W.Parent parent p) (first (from_str own) refl (from_str parent) refl)
  where
    second : (v : Paint) → is_inherit v ≡ true → from_str own ≡ Ok v → (b : Result Paint Refusal) → from_str parent ≡ b
        → said_for W.Parent (judged parent b) ≡ (must W.Parent b >>= (λ w. Ok (Some (chosen W.Parent (trim_part parent)))))
    second v i h (Err e) k = refl
    second v i h (Ok w) k =
        either (is_inherit w)
        (λ j. absurd (n (rw (reads_inherit v i) at h) (rw (reads_inherit w j) at k)))
        (λ j. simp j)

    first : (a : Result Paint Refusal) → from_str own ≡ a → (b : Result Paint Refusal) → from_str parent ≡ b
        → (said_for W.Own (judged own a) >>= (λ f. or_higher f (said_for W.Parent (judged parent b))))
        ≡ (must W.Own a >>= (λ v. cond (is_inherit v) (must W.Parent b >>= (λ w. Ok (Some (chosen W.Parent (trim_part parent))))) (Ok (Some (chosen W.Own (trim_part own))))))
    first (Err e) h b k = refl
    first (Ok v) h b k = either (is_inherit v) (λ i. simp i (second v i h b k)) (λ i. simp i)

-- whose text an answer speaks of
abbrev pub Of : Whose → Result (Option Chosen) WhoseRefusal → Type 0
Of w (Ok (Some a)) = a.whose ≡ w
Of w (Ok None) = ⊥
Of w (Err e) = e.whose ≡ w

-- what a parent's text says does not speak of the own one
parent_speaks : (r : Result (Option Part) Refusal) (a : Result (Option Chosen) WhoseRefusal) → said_for W.Parent r ≡ a → Of W.Own a → ⊥
parent_speaks (Ok (Some p)) (Ok (Some b)) e o = let z : b.whose ≡ W.Parent = cc in cc
parent_speaks (Err f) (Err g) e o = let z : g.whose ≡ W.Parent = cc in cc
parent_speaks (Ok None) (Ok (Some b)) e o = cc
parent_speaks (Err f) (Ok (Some b)) e o = cc
parent_speaks r (Ok None) e o = o
parent_speaks (Ok (Some p)) (Err g) e o = cc
parent_speaks (Ok None) (Err g) e o = cc

parent_asked : (s : List ℕ) (a : Result (Option Chosen) WhoseRefusal) → asked W.Parent s ≡ a → Of W.Own a → ⊥
unfolding asked
parent_asked s a e o = parent_speaks (says s) a e o

-- THEOREM. An answer that speaks of the own text, chosen or refused, does not depend on the parent's bytes.
pub unseen : (own parent other : List ℕ) (a : Result (Option Chosen) WhoseRefusal) → Of W.Own a → inherited_of own parent ≡ a → inherited_of own other ≡ a
unfolding inherited_of
unseen own parent other a o q = first (asked W.Own own) a o q
  where
    first : (x a : Result (Option Chosen) WhoseRefusal) → Of W.Own a → (x >>= (λ f. or_higher f (asked W.Parent parent))) ≡ a → (x >>= (λ f. or_higher f (asked W.Parent other))) ≡ a
    first (Err e) a o q = q
    first (Ok (Some f)) a o q = q
    first (Ok None) a o q = absurd (parent_asked parent a q o)
