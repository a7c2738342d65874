-- The lines of an input: what a scan for the line feed finds of them, and what bytes that come later change.
use Prim.Native.Nat.{ℕ, suc, ◌+◌, ◌-◌, ◌≤◌, ◌<◌}
use mathlib.Core.Bool.{Bool, true, false, cond, not}
use mathlib.Core.List.{List, [], ◌∷◌}
use mathlib.Core.Path.{◌≡◌, refl, sym, ap, ◌∙◌}
use native.Mathlib.Numerals.{add-one}
use native.Mathlib.Omega.{arith}
use lib.Dec.{eqb}
use lib.ListN.{length, take, drop}
use lib.Seq.{length-take-le}
use Rattle.std.specs.List.{list_any}
use Rattle.text_bytes.specs.Bytes.{is_other}
use Rattle.text_bytes.specs.Scan.{run, scan}
use Rattle.text_bytes.proofs.Parts.{rest_part}
use Rattle.text_bytes.proofs.Scans.{scan_le}
use Rattle.strict.specs.Asked.{first_line, after_feed, has_feed}

abbrev feed_at : List ℕ → ℕ
feed_at s = run (is_other 10) s

first_run : (s : List ℕ) → take (feed_at s) s ≡ first_line s
unfolding run first_line
first_run [] = refl
first_run (x ∷ xs) = go (eqb x 10) (first_run xs)
  where
    go : (t : Bool) → take (feed_at xs) xs ≡ first_line xs → take (cond (not t) (suc (feed_at xs)) 0) (x ∷ xs) ≡ cond t [] (x ∷ first_line xs)
    go true h = refl
    go false h = ap (λ (l : List ℕ). x ∷ l) h

after_run : (s : List ℕ) → drop (suc (feed_at s)) s ≡ after_feed s
unfolding run after_feed
after_run [] = refl
after_run (x ∷ xs) = go (eqb x 10) (after_run xs)
  where
    go : (t : Bool) → drop (suc (feed_at xs)) xs ≡ after_feed xs → drop (cond (not t) (suc (feed_at xs)) 0) xs ≡ cond t xs (after_feed xs)
    go true h = refl
    go false h = h

after_none : (s : List ℕ) → length s ≤ feed_at s → [] ≡ after_feed s
unfolding run after_feed
after_none [] h = refl
after_none (x ∷ xs) h = go (eqb x 10) (after_none xs) h
  where
    go : (t : Bool) → (length xs ≤ feed_at xs → [] ≡ after_feed xs) → suc (length xs) ≤ cond (not t) (suc (feed_at xs)) 0 → [] ≡ cond t xs (after_feed xs)
    go true ih k = absurd (omega arith)
    go false ih k = ih (omega arith)

-- std's `contains`
pub feed_there : (s : List ℕ) → list_any (λ x. eqb x 10) s ≡ has_feed s
unfolding has_feed
feed_there [] = refl
feed_there (x ∷ xs) = rw (feed_there xs) refl

-- e is where the scan stops
module _ (s : List ℕ) (e : ℕ) (q : e ≡ scan (is_other 10) s 0) where
  pub end_inside : e ≤ length s
  end_inside = omega (arith, scan_le (is_other 10) s 0 (omega arith))

  pub end_count : e ≡ length (take e s)
  end_count = sym (length-take-le e s end_inside)

  at_feed : e ≡ feed_at s
  unfolding scan
  at_feed = omega arith

  pub first_is : take e s ≡ first_line s
  first_is = rw at_feed (first_run s)

  pub after_is : e < length s → take (length s - (e + 1)) (drop (e + 1) s) ≡ after_feed s
  after_is h = rest_part s (e + 1) ∙ rw (at_feed, add-one) (after_run s)

  pub after_empty : length s ≤ e → [] ≡ after_feed s
  after_empty h = after_none s (rw at_feed at h)

pub ruleset lined = (end_inside, end_count, first_is, after_is, after_empty)
