-- pass and least: how far a reader goes, and what it passes.
use Prim.Native.Nat.{ℕ, ◌+◌, ◌≤◌, ◌<◌}
use mathlib.Core.Bool.{Bool, true, false}
use mathlib.Core.List.{List}
use mathlib.Core.Logic.{⊎_elim}
use mathlib.Core.Path.{◌≡◌, refl, sym, ap, ◌∙◌}
use native.Mathlib.Omega.{arith}
use lib.ListN.{length, get_or, get_or-eq_default}
use Rattle.text_bytes.specs.Bytes.{is_space}
use Rattle.text_bytes.specs.Moves.{place}
use Rattle.text_bytes.specs.Scan.{scan}
use Rattle.text_bytes.specs.Words.{is_curr_byte_eq}
use Rattle.text_bytes.specs.declared.Place.{Place}
use Rattle.text_bytes.proofs.Ahead.{Ahead, Passes, ahead_pass, pass_here, pass_one, pass_trans, pass_scan}
use Rattle.text_bytes.proofs.Ranges.{either, le_or_lt}
use Rattle.text_bytes.proofs.Scans.{scan_le}
use Rattle.text_bytes.proofs.Wording.{curr_inside}
use Rattle.stream.specs.Faults.{parse_list_separator}
use Rattle.stream.proofs.Sames.{separator_pass}

-- from i a reader went to j, passed no closing bracket, and stayed inside
pub record Goes (s : List ℕ) (i j : ℕ) : Type 0 where
  pub passes : Passes s i j
  pub inside : i ≤ length s → j ≤ length s

pub goes_trans : {s : List ℕ} {i j k : ℕ} → Goes s i j → Goes s j k → Goes s i k
goes_trans v w = record { passes = pass_trans v.passes w.passes; inside = λ h. w.inside (v.inside h) }

module _ (s : List ℕ) (i : ℕ) where
  pub goes_here : Goes s i i
  goes_here = record { passes = pass_here s i; inside = λ h. h }

  pub goes_scan : (p : ℕ → Bool) → p 41 ≡ false → Goes s i (scan p s i)
  goes_scan p e = record { passes = pass_scan s i p e; inside = λ h. scan_le p s i h }

  -- a byte by a test that neither the bracket nor the end of the text passes
  pub goes_one : (t : ℕ → Bool) → t 41 ≡ false → t 0 ≡ false → t (get_or s i 0) ≡ true → Goes s i (i + 1)
  goes_one t e z q =
      record {
        passes = pass_one s i t e q;
        inside = λ h.
            ⊎_elim
            (λ (l : length s ≤ i).
            let y : get_or s i 0 ≡ 0 = get_or-eq_default s 0 l in
            let w : false ≡ true = sym z ∙ ap t (sym y) ∙ q in
            let c : ◌≡◌ {A = ℕ} 0 1 = cc in absurd (omega arith))
            (λ (l : i < length s). omega arith)
            (le_or_lt (length s) i);
      }

  goes_comma : Goes s i (parse_list_separator s i)
  unfolding parse_list_separator
  goes_comma =
      record {
        passes = separator_pass s i;
        inside = λ h. either (is_curr_byte_eq s i 44) (λ e. simp e (omega (arith, curr_inside s i 44 refl e))) (λ e. simp e h);
      }

-- spaces, and one optional comma
pub goes_item : (s : List ℕ) (i : ℕ) → Goes s i (parse_list_separator s (scan is_space s i))
goes_item s i = goes_trans (goes_scan s i is_space refl) (goes_comma s (scan is_space s i))

-- Reading went on from i to p: no closing bracket is passed, at least one byte is, and p is inside
pub record Past (s : List ℕ) (i : ℕ) (p : Place) : Type 0 where
  pub passes : Passes s i p.0
  pub least : i + 1 ≤ p.0
  pub inside : p.0 ≤ length s

-- and still, where reading goes on further
pub past_on : {s : List ℕ} {i : ℕ} {p : Place} {j : ℕ} → Past s i p → Goes s p.0 j → Past s i (place j)
past_on t g = record { passes = pass_trans t.passes g.passes; least = omega (arith, t.least, g.passes.grows); inside = g.inside t.inside }

-- a bracket ahead stays ahead
pub past_ahead : {s : List ℕ} {i : ℕ} {p : Place} → Past s i p → Ahead s i → Ahead s p.0
past_ahead t h = ahead_pass h t.passes
