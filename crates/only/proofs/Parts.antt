-- The parts of a number that was read, as trees of CSS Values 3: its sign, its digits and its exponent.
use Prim.Native.Nat.{ℕ, ◌+◌, ◌<◌}
use mathlib.Core.Bool.{Bool, true, false, ◌||◌, ◌&&◌, not}
use mathlib.Core.List.{List, [], ◌∷◌, ◌++◌, append_assoc}
use mathlib.Core.Path.{◌≡◌, refl, sym, ap, ◌∙◌}
use native.Mathlib.Omega.{arith}
use native.Mathlib.Nat.{add-zero}
use borrow.Author.Tests.{ltb-true, eqb-true}
use lib.Dec.{eqb, ltb, lit≤}
use lib.ListN.{length, get_or, drop}
use Rattle.text_bytes.specs.Bytes.{is_digit, is_sign}
use Rattle.text_bytes.proofs.Ranges.{either}
use Rattle.numbers.specs.Number.{after_sign, mantissa_dot, mantissa_at, exponent_from, exponent_at}
use Rattle.standards.specs.CssValues3.{Digit, numerals, Sign, unsigned, plus, minus, sign, Digits, whole, dotted, digits, Exponent, absent, small, capital, exponent, is_whole, is_absent}
use Rattle.standards.proofs.Cursors.{byte_here, byte_on, drop_on}
use Rattle.standards.proofs.Numbers.{figures_are}
use Rattle.only.proofs.Cuts.{figures}

-- a byte that is not 0 stands in the text
headed : (s : List ℕ) (i c : ℕ) → 0 < c → get_or s i 0 ≡ c → drop i s ≡ c ∷ drop (i + 1) s
headed s i c n e = go (drop i s) refl
  where
    go : (l : List ℕ) → drop i s ≡ l → drop i s ≡ c ∷ drop (i + 1) s
    go [] h = absurd (omega (arith, byte_here s i [] h))
    go (x ∷ xs) h =
        let z : x ≡ c = sym (byte_here s i (x ∷ xs) h) ∙ e in
        h ∙ rw (z, drop_on s i (x ∷ xs) h 1) refl

-- the sign, if there is one
pub record Signed (s : List ℕ) (i : ℕ) : Type 0 where
  pub tree : Sign
  pub text : drop i s ≡ sign tree ++ drop (i + length (sign tree)) s
  pub after : after_sign s i ≡ i + length (sign tree)

module _ (s : List ℕ) (i : ℕ) where
  signed_by : (g : Sign) (c : ℕ) → 0 < c → sign g ≡ c ∷ [] → is_sign c ≡ true → get_or s i 0 ≡ c → Signed s i
  unfolding after_sign
  signed_by g c n q a h = record { tree = g; text = simp q (headed s i c n h); after = simp (q, h, a) }

  pub signed_at : Signed s i
  unfolding after_sign sign
  signed_at =
      let b = get_or s i 0 in
      either (eqb b 43) (λ e. signed_by plus 43 (lit≤ tt) refl refl (eqb-true b 43 e))
      (λ e. either (eqb b 45) (λ f. signed_by minus 45 (lit≤ tt) refl refl (eqb-true b 45 f))
      (λ f. record { tree = unsigned; text = rw add-zero refl; after = simp (e, f) (sym (add-zero i)) }))

-- the digits, and what follows them
pub record Mantissed (s : List ℕ) (at : ℕ) : Type 0 where
  pub tree : Digits
  pub rest : List ℕ
  pub text : drop at s ≡ digits tree ++ rest
  pub digit : is_digit (get_or rest 0 0) ≡ false
  pub dot : is_whole tree ≡ true → eqb (get_or rest 0 0) 46 ≡ false

module _ (s : List ℕ) (at : ℕ) where
  plain_at : (ds : List Digit) (rest : List ℕ) → is_digit (get_or rest 0 0) ≡ false → drop at s ≡ numerals ds ++ rest → eqb (get_or rest 0 0) 46 ≡ false → (mantissa_at s at).ok ≡ true → Mantissed s at
  unfolding mantissa_at mantissa_dot digits is_whole
  plain_at [] rest n h e ok =
      let f = figures_are s at [] rest n h in
      let z : ltb at (at + 0) ≡ true = simp (f.scanned, f.next, e) at ok in
      absurd (omega (arith, ltb-true at (at + 0) z))
  plain_at (d ∷ ds) rest n h e ok = record { tree = whole d ds; rest = rest; text = h; digit = n; dot = λ q. e }

  dotted_at : (ds : List Digit) (rest : List ℕ) → is_digit (get_or rest 0 0) ≡ false → drop at s ≡ numerals ds ++ rest → eqb (get_or rest 0 0) 46 ≡ true
      → (fs : List Digit) (rest' : List ℕ) → is_digit (get_or rest' 0 0) ≡ false → drop (at + length ds + 1) s ≡ numerals fs ++ rest' → (mantissa_at s at).ok ≡ true → Mantissed s at
  unfolding mantissa_at mantissa_dot digits is_whole
  dotted_at ds rest n h e [] rest' k j ok =
      let dot = at + length ds in
      let f = figures_are s at ds rest n h in
      let g = figures_are s (dot + 1) [] rest' k j in
      let z : ltb (dot + 1) (dot + 1 + 0) ≡ true = simp (f.scanned, f.next, e, g.scanned) at ok in
      absurd (omega (arith, ltb-true (dot + 1) (dot + 1 + 0) z))
  dotted_at ds rest n h e (d ∷ fs) rest' k j ok =
      let f = figures_are s at ds rest n h in
      record {
        tree = dotted ds d fs;
        rest = rest';
        text =
            h
            ∙ ap (λ (y : List ℕ). numerals ds ++ y)
            (sym f.past ∙ headed s (at + length ds) 46 (lit≤ tt) (f.next ∙ eqb-true (get_or rest 0 0) 46 e) ∙ ap (λ (y : List ℕ). 46 ∷ y) j)
            ∙ sym (append_assoc (numerals ds) (46 ∷ numerals (d ∷ fs)) rest');
        digit = k;
        dot = λ q. absurd (let z : ◌≡◌ {A = ℕ} 0 1 = cc in omega arith);
      }

  pub mantissa_at_is : (mantissa_at s at).ok ≡ true → Mantissed s at
  mantissa_at_is ok =
      let c = figures (drop at s) in
      let b = figures (drop (at + length c.taken + 1) s) in
      either (eqb (get_or c.rest 0 0) 46) (λ e. dotted_at c.taken c.rest c.ended c.text e b.taken b.rest b.ended b.text ok)
      (λ e. plain_at c.taken c.rest c.ended c.text e ok)

-- the exponent, and what follows it, if no digit does where it begins
pub record Raised (s : List ℕ) (at : ℕ) : Type 0 where
  pub tree : Exponent
  pub rest : List ℕ
  pub text : drop at s ≡ exponent tree ++ rest
  pub digit : is_digit (get_or s at 0) ≡ false → is_digit (get_or rest 0 0) ≡ false
  pub letter : is_absent tree ≡ true → ((eqb (get_or rest 0 0) 101 || eqb (get_or rest 0 0) 69) && not (eqb (get_or rest 1 0) 109 || eqb (get_or rest 1 0) 120)) ≡ false

module _ (s : List ℕ) (at : ℕ) where
  raised_not : ((eqb (get_or s at 0) 101 || eqb (get_or s at 0) 69) && not (eqb (get_or s (at + 1) 0) 109 || eqb (get_or s (at + 1) 0) 120)) ≡ false → Raised s at
  unfolding exponent
  raised_not e =
      let a : get_or s at 0 ≡ get_or (drop at s) 0 0 = byte_here s at (drop at s) refl in
      let b : get_or s (at + 1) 0 ≡ get_or (drop at s) 1 0 = byte_on s at (drop at s) refl 1 in
      record { tree = absent; rest = drop at s; text = refl; digit = λ q. rw a at q; letter = λ q. rw (a, b) at e }

  -- its letter c, a sign and digits, of which there must be one
  module _ (c : ℕ) (make : Sign → Digit → List Digit → Exponent)
      (is : (g : Sign) (d : Digit) (ds : List Digit) → (exponent (make g d ds) ≡ c ∷ (sign g ++ numerals (d ∷ ds))) × (is_absent (make g d ds) ≡ false)) (n : 0 < c) (h : get_or s at 0 ≡ c) where
    raised_by : (g : Sign) (b : Bool) (ds : List Digit) (rest : List ℕ) → is_digit (get_or rest 0 0) ≡ false → drop (at + 1) s ≡ sign g ++ drop (at + 1 + length (sign g)) s
        → drop (at + 1 + length (sign g)) s ≡ numerals ds ++ rest → (exponent_from s (at + 1 + length (sign g)) b).ok ≡ true → Raised s at
    unfolding exponent_from
    raised_by g b [] rest k e j ok =
        let from = at + 1 + length (sign g) in
        let z : ltb from (from + 0) ≡ true = rw (figures_are s from [] rest k j).scanned at ok in
        absurd (omega (arith, ltb-true from (from + 0) z))
    raised_by g b (d ∷ ds) rest k e j ok =
        record {
          tree = make g d ds;
          rest = rest;
          text = headed s at c n h ∙ rw (is g d ds).0 (ap (λ (y : List ℕ). c ∷ y) (e ∙ ap (λ (y : List ℕ). sign g ++ y) j ∙ sym (append_assoc (sign g) (numerals (d ∷ ds)) rest)));
          digit = λ q. k;
          letter = λ q. absurd (let y : true ≡ false = sym q ∙ (is g d ds).1 in let z : ◌≡◌ {A = ℕ} 0 1 = cc in omega arith);
        }

    lettered : exponent_at s at ≡ exponent_from s (after_sign s (at + 1)) (eqb (get_or s (at + 1) 0) 45) → (exponent_at s at).ok ≡ true → Raised s at
    lettered e ok =
        let g = signed_at s (at + 1) in
        let l = figures (drop (at + 1 + length (sign g.tree)) s) in
        raised_by g.tree (eqb (get_or s (at + 1) 0) 45) l.taken l.rest l.ended g.text l.text (rw (e, g.after) at ok)

  pub raised_at : (exponent_at s at).ok ≡ true → Raised s at
  unfolding exponent_at exponent is_absent
  raised_at ok =
      let b = get_or s at 0 in
      either (eqb b 101 || eqb b 69)
      (λ e. either (eqb (get_or s (at + 1) 0) 109 || eqb (get_or s (at + 1) 0) 120) (λ f. raised_not (simp (e, f)))
      (λ f. either (eqb b 101) (λ h. lettered 101 small (λ g d ds. (refl, refl)) (lit≤ tt) (eqb-true b 101 h) (simp (e, f)) ok)
      (λ h. let k : eqb b 69 ≡ true = simp h at e in lettered 69 capital (λ g d ds. (refl, refl)) (lit≤ tt) (eqb-true b 69 k) (simp (e, f)) ok)))
      (λ e. raised_not (simp e))
