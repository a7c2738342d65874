-- A text cut where a run of one class of bytes ends: the run as things of a grammar.
use Prim.Native.Nat.{ℕ, ◌-◌}
use mathlib.Core.Bool.{Bool, true, false}
use mathlib.Core.List.{List, [], ◌∷◌, ◌++◌, map}
use mathlib.Core.Path.{◌≡◌, refl, sym}
use native.Mathlib.Omega.{arith}
use lib.ListN.{length, get_or}
use Rattle.text_bytes.specs.Bytes.{within, is_digit, is_space}
use Rattle.text_bytes.specs.Scan.{run}
use Rattle.text_bytes.proofs.Ranges.{either, within_ge, within_le}
use Rattle.text_bytes.proofs.Wording.{space_case}
use Rattle.standards.specs.CssValues3.{Blank, blank, space, tab, line_feed, return, Digit, numeral}

module _ {A : Type 0} (p : ℕ → Bool) (f : A → ℕ) where
  pub record Cut (l : List ℕ) : Type 0 where
    pub taken : List A
    pub rest : List ℕ
    pub text : l ≡ map f taken ++ rest
    pub counted : run p l ≡ length taken
    pub ended : p (get_or rest 0 0) ≡ false

  -- if each byte of the class is one of the things, every text can be cut so
  pub cut : p 0 ≡ false → ((b : ℕ) → p b ≡ true → (x : A) × (f x ≡ b)) → (l : List ℕ) → Cut l
  unfolding run
  cut z named [] = record { taken = []; rest = []; text = refl; counted = refl; ended = z }
  cut z named (b ∷ l) = either (p b) (λ e. go e (named b e) (cut z named l)) (λ e. record { taken = []; rest = b ∷ l; text = refl; counted = simp e; ended = e })
    where
      go : p b ≡ true → (x : A) × (f x ≡ b) → Cut l → Cut (b ∷ l)
      go e x v = record { taken = x.0 ∷ v.taken; rest = v.rest; text = cc (x.1, v.text); counted = simp (e, v.counted); ended = v.ended }

-- white space
pub blank_of : (b : ℕ) → is_space b ≡ true → (x : Blank) × (blank x ≡ b)
unfolding blank
blank_of b e = space_case (λ b. (x : Blank) × (blank x ≡ b)) b (space, refl) (tab, refl) (line_feed, refl) (return, refl) e

pub spaces : (l : List ℕ) → Cut is_space blank l
spaces l = cut is_space blank refl blank_of l

-- digits
digit_of : (b : ℕ) → is_digit b ≡ true → (x : Digit) × (numeral x ≡ b)
unfolding numeral
digit_of b e = (record { is = b - 48; small = omega (arith, within_le 48 57 b (sym e), within_ge 48 57 b (sym e)) }, omega (arith, within_ge 48 57 b (sym e)))

pub figures : (l : List ℕ) → Cut is_digit numeral l
unfolding within
figures l = cut is_digit numeral refl digit_of l
