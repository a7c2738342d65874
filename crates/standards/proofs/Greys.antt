-- The channel that hsl() has with no saturation, of a lightness held to 0 .. 1 and rounded to a single, is a share of 255 as well, but a coarser one.
use Prim.Native.Nat.{ℕ, ◌+◌, ◌*◌, ◌≤◌, ◌<◌}
use mathlib.Core.Bool.{true, false, true≢false}
use mathlib.Core.Logic.{◌⊎◌, inl, inr, ⊎_elim}
use mathlib.Core.Path.{◌≡◌, refl, sym, ap, ◌∙◌}
use native.Mathlib.Nat.{le_refl, mul-le-mul_right, mul_comm, mul-one, one-mul}
use native.Mathlib.Omega.{arith}
use borrow.Author.Tests.{ltb-true, ltb-false}
use lib.Dec.{ltb, lit<}
use lib.IntN.{ℤ}
use lib.Ieee.{Float, nan, inf, fin, binary32, binary64, up, down, round, mul, div, lt, of_bits}
use lib.Ieee.Fits.{down_pos}
use Rattle.text_bytes.proofs.Ranges.{either}
use Rattle.floats.specs.Floats.{narrowed, channel_of, clamped, d1, sign_of}
use Rattle.numbers.specs.Powers.{hundred}
use Rattle.color.specs.Hsl.{s255}
use Rattle.standards.specs.CssValues3.{Number, exactly}
use Rattle.standards.specs.CssColor3.{hundredths, percent}
use Rattle.standards.specs.Nearest.{Grained, OffHalf, Share, coarse}
use Rattle.standards.specs.Answers.{portion}
use Rattle.standards.proofs.Signs.{round_sign, double_sign, hundredth_sign}
use Rattle.standards.proofs.Clipped.{minus_scaled}
use Rattle.standards.proofs.Growing.{Upto, Scales, scaled_upto, percent_upto, channel_upto, channel_top, Grows}
use Rattle.standards.proofs.Jumps.{Stepping, stepping}
use Rattle.standards.proofs.Shares.{part_pos, portion_part, shared, as_scaled}
use Rattle.standards.proofs.Lightness.{shade}

narrows : Scales narrowed
unfolding narrowed
narrows = record { format = binary32; i = 1; j = 1; some = lit< tt; infinite = refl; finite = λ m e. rw (mul-one (m * up e), one-mul (down e)) }

by_255 : Scales (λ x. mul binary32 x s255)
unfolding mul of_bits
by_255 = record { format = binary32; i = 255; j = 1; some = lit< tt; infinite = refl; finite = λ m e. rw (mul_comm (down e) 1) }

-- what is above 1 is 1, and what is not stays
held : (m : ℕ) (e : ℤ) → ((clamped (fin false m e) ≡ d1) × (down e < m * up e)) ⊎ ((clamped (fin false m e) ≡ fin false m e) × (m * up e ≤ down e))
unfolding lt of_bits
held m e =
    either (ltb (m * up e * 1) (0 * down e))
    (λ t. absurd (omega (arith, ltb-true (m * up e * 1) (0 * down e) t)))
    (λ t. either (ltb (1 * down e) (m * up e * 1))
    (λ u. inl (simp (t, u), omega (arith, ltb-true (1 * down e) (m * up e * 1) u)))
    (λ u. inr (simp (t, u), omega (arith, ltb-false (1 * down e) (m * up e * 1) u))))

-- p / q, above 1, is no more than i / j, which is not
over_one : (p q i j : ℕ) → 0 < j → p * j ≤ i * q → q < p → i ≤ j → ⊥
over_one p q i j J h a b =
    let x : i * q ≤ j * q = mul-le-mul_right q b in
    let y : q * j + j ≤ p * j = let z = mul-le-mul_right j a in omega arith in
    omega (arith, mul_comm q j)

to_one : (m : ℕ) (e : ℤ) → Upto (clamped (fin false m e)) d1
unfolding of_bits
to_one m e = ⊎_elim (λ w. rw w.0 (le_refl 1)) (λ w. rw w.0 (omega (arith, w.1))) (held m e)

held_upto : (x y : Float) → Upto x y → Upto (clamped x) (clamped y)
unfolding lt of_bits
held_upto nan y h = absurd h
held_upto (inf true) y h = absurd h
held_upto (inf false) nan h = absurd h
held_upto (inf false) (inf true) h = absurd (true≢false h)
held_upto (inf false) (inf false) h = le_refl 1
held_upto (inf false) (fin t n d) h = absurd h
held_upto (fin true m e) y h = absurd h
held_upto (fin false m e) nan h = absurd h
held_upto (fin false m e) (inf true) h = absurd (true≢false h)
held_upto (fin false m e) (inf false) h = to_one m e
held_upto (fin false m e) (fin true n d) h = absurd h
held_upto (fin false m e) (fin false n d) h =
    ⊎_elim (λ w. rw w.0 (to_one m e))
    (λ w. ⊎_elim (λ v. absurd (over_one (m * up e) (down e) (n * up d) (down d) (down_pos d) h v.1 w.1)) (λ v. rw (v.0, w.0) h) (held m e))
    (held n d)

shade_upto : (x y : Float) → Upto x y → shade x ≤ shade y
shade_upto x y u =
    let v : Upto (narrowed (clamped x)) (narrowed (clamped y)) = scaled_upto narrows (clamped x) (clamped y) (held_upto x y u) in
    channel_upto (mul binary32 (narrowed (clamped x)) s255) (mul binary32 (narrowed (clamped y)) s255) (scaled_upto by_255 (narrowed (clamped x)) (narrowed (clamped y)) v)

-- the part a / c of the whole, as 100 a / c percent of lightness
abbrev shade_at : ℕ → ℕ → ℕ
shade_at a c = shade (div binary64 (round binary64 false (100 * a) c) hundred)

shade_grows : Grows shade_at
shade_grows =
    record {
      grows = λ a b c d B D h. shade_upto _ _ (percent_upto a b c d B D h);
      top = λ a b. channel_top _;
    }

shade_steps : Stepping coarse shade_at
unfolding channel_of narrowed lt mul div of_bits round
shade_steps = stepping coarse (lit< tt) shade_grows tt

shade_below : (x : Float) → sign_of x ≡ true → shade x ≡ 0
unfolding lt of_bits narrowed channel_of mul round
shade_below nan e = absurd (true≢false (sym e))
shade_below (inf true) e = refl
shade_below (inf false) e = absurd (true≢false (sym e))
shade_below (fin true m e) q =
    either (ltb 0 (m * up e * 1 + 0 * down e)) (λ i. simp i)
    (λ i. simp i (minus_scaled binary32 (narrowed (fin true m e)) (round_sign binary32 true (m * up e) (down e))))
shade_below (fin false m e) q = absurd (true≢false (sym q))

module _ (t : Number) where
  below : (exactly t).minus ≡ true → shade (portion t) ≡ 0
  below e = shade_below (portion t) (hundredth_sign _ ∙ (double_sign (exactly t) ∙ e))

  is : (exactly t).minus ≡ false → shade (portion t) ≡ shade_at (exactly t).over (100 * (exactly t).under)
  is e = ap shade (portion_part t e)

  -- THEOREM. The grey of a lightness, of any sign, size and number of decimals, is its share.
  pub grey_share : Share coarse (hundredths (exactly t)) (shade (portion t))
  grey_share = shared shade_steps (hundredths (exactly t)) (part_pos t) (shade (portion t)) below is

  -- THEOREM. Where that is the nearest channel, of two as near it is the greater.
  pub grey_scaled : Grained coarse (hundredths (exactly t)) ⊎ OffHalf coarse (hundredths (exactly t)) → shade (portion t) ≡ percent t
  grey_scaled h = as_scaled shade_steps (hundredths (exactly t)) (part_pos t) (shade (portion t)) below is h
