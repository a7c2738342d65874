-- The bytes that an atom takes are the texts of a tree: white space, digits, numbers; the one from the other.
use Prim.Native.Nat.{ℕ, suc, ◌+◌, ◌-◌, ◌*◌, ◌≤◌, ◌<◌}
use mathlib.Core.Bool.{Bool, true, false}
use mathlib.Core.List.{List, [], ◌∷◌, ◌++◌}
use mathlib.Core.Path.{◌≡◌, refl, sym}
use native.Mathlib.Omega.{arith}
use borrow.Author.Tests.{lt-ltb, ltb-true, eqb-true, ne_eqb}
use lib.Dec.{eqb, ltb}
use lib.ListN.{length}
use Rattle.text_bytes.specs.Bytes.{within, is_sign, is_digit, is_space}
use Rattle.text_bytes.proofs.Ranges.{either, within_ge, within_le, and_false}
use Rattle.numbers.specs.Digits.{cap}
use Rattle.shapes.specs.Walk.{push, signed, digits, dot, fraction, act, ends}
use Rattle.shapes.specs.declared.Atom.{Atom}
use Rattle.shapes.specs.declared.Atom.TheVariants as A
use Rattle.shapes.specs.declared.Act.TheVariants as D
use Rattle.shapes.proofs.Fair.{single, numeric, kind, next_single, never}
use Rattle.shapes.proofs.Fair as Fair
use Rattle.shapes.proofs.Parts.{Takes, stop, last, more}
use Rattle.standards.specs.CssValues3.{Blank, space, tab, line_feed, return, blank, blanks, Digit, numeral, numerals, spelt, Sign, unsigned, plus, minus, sign, Digits, whole, dotted, joined, fraction_digits, is_whole}
use Rattle.standards.specs.CssValues3 as CV
use Rattle.standards.proofs.Runs.{blank_is}
use Rattle.standards.proofs.Numbers.{numeral_is}

never_pass : {C : Type 0} {y : Atom} → D.Pass ≡ D.Stay y → C
never_pass e = never (let z : false ≡ true = cc in z)

never_lost : {C : Type 0} {y : Atom} → D.Lost ≡ D.Stay y → C
never_lost e = never (let z : false ≡ true = cc in z)

stays : {x y : Atom} → D.Stay y ≡ D.Stay x → x ≡ y
stays e = cc

-- runs of spaces and numbers take no last byte
never_last : {C : Type 0} (a : Atom) (b : ℕ) → (kind a ≡ single → false ≡ true) → act a b ≡ D.Next → C
never_last a b h e = never (h (next_single a b e))

blank_single : Fair.blank ≡ single → false ≡ true
blank_single e = cc

numeric_single : numeric ≡ single → false ≡ true
numeric_single e = cc

-- white space
pub blanks_take : (l : List Blank) → Takes A.Spaces (blanks l)
unfolding ends act
blanks_take [] = stop refl
blanks_take (b ∷ l) = let e : act A.Spaces (blank b) ≡ D.Stay A.Spaces = simp (blank_is b) in more e (blanks_take l)

pub space_blank : (b : ℕ) → is_space b ≡ true → (x : Blank) × (b ≡ blank x)
unfolding blank
space_blank b e =
    either (eqb b 32) (λ f. (space, eqb-true b 32 f)) (λ f. either (eqb b 9) (λ g. (tab, eqb-true b 9 g))
    (λ g. either (eqb b 10) (λ h. (line_feed, eqb-true b 10 h)) (λ h. either (eqb b 13) (λ k. (return, eqb-true b 13 k)) (λ k. never (simp (f, g, h, k) at e)))))

pub take_blanks : (l : List ℕ) → Takes A.Spaces l → (bs : List Blank) × (l ≡ blanks bs)
unfolding act
take_blanks [] t = ([], refl)
take_blanks (b ∷ l) (last e) = never_last A.Spaces b blank_single e
take_blanks (b ∷ l) (more {x} e t) = either (is_space b)
    (λ f. let g : x ≡ A.Spaces = stays (rw f at e) in
    let p : (y : Blank) × (b ≡ blank y) = space_blank b f in
    let r : (bs : List Blank) × (l ≡ blanks bs) = take_blanks l (rw g at t) in
    (p.0 ∷ r.0, cc))
    (λ f. never_pass (rw f at e))

-- digits
pub digit_numeral : (b : ℕ) → is_digit b ≡ true → (d : Digit) × (b ≡ numeral d)
unfolding numeral
digit_numeral b e =
    let lo : 48 ≤ b = within_ge 48 57 b (sym e) in
    let hi : b ≤ 57 = within_le 48 57 b (sym e) in
    (record { is = b - 48; small = omega arith }, omega arith)

push_digit : (m : ℕ) (d : Digit) → m * 10 + d.is < cap → push m (numeral d) ≡ m * 10 + d.is
unfolding numeral
push_digit m d h = omega (arith, d.small)

pub spelt_more : (m : ℕ) (ds : List Digit) → m ≤ spelt m ds
unfolding spelt
spelt_more m [] = omega arith
spelt_more m (d ∷ ds) = omega (arith, spelt_more (m * 10 + d.is) ds)

spelt_step : (m n : ℕ) (d : Digit) (ds : List Digit) → n ≡ m * 10 + d.is → spelt n ds < cap → spelt m (d ∷ ds) < cap
unfolding spelt
spelt_step m n d ds q h = rw (← q) h

-- one digit: its value is added if it stays below 2^53
record Pushed (m b n : ℕ) : Type 0 where
  digit : Digit
  is : b ≡ numeral digit
  sum : n ≡ m * 10 + digit.is
  low : n < cap

pushed : (m b : ℕ) → is_digit b ≡ true → ltb (push m b) cap ≡ true → Pushed m b (push m b)
unfolding numeral
pushed m b e f =
    let lo : 48 ≤ b = within_ge 48 57 b (sym e) in
    let hi : b ≤ 57 = within_le 48 57 b (sym e) in
    let h : push m b < cap = ltb-true (push m b) cap f in
    record { digit = record { is = b - 48; small = omega arith }; is = omega arith; sum = omega arith; low = h }

module _ (m : ℕ) (d : Digit) (h : m * 10 + d.is < cap) where
  digits_act : (dots : Bool) → act (A.Digits dots m) (numeral d) ≡ D.Stay (A.Digits dots (m * 10 + d.is))
  unfolding act digits
  digits_act dots = simp (numeral_is d, push_digit m d h, lt-ltb (m * 10 + d.is) cap h)

  dot_act : act (A.Dot m) (numeral d) ≡ D.Stay (A.Fraction (m * 10 + d.is) 1)
  unfolding act dot
  dot_act = simp (numeral_is d, push_digit m d h, lt-ltb (m * 10 + d.is) cap h)

  fraction_act : (k : ℕ) → k < 22 → act (A.Fraction m k) (numeral d) ≡ D.Stay (A.Fraction (m * 10 + d.is) (k + 1))
  unfolding act fraction
  fraction_act k g = simp (numeral_is d, push_digit m d h, lt-ltb (m * 10 + d.is) cap h, lt-ltb k 22 g)

fraction_take : (fs : List Digit) (m k : ℕ) → spelt m fs < cap → k + length fs ≤ 22 → Takes (A.Fraction m k) (numerals fs)
unfolding ends spelt
fraction_take [] m k h g = stop refl
fraction_take (d ∷ ds) m k h g =
    more (fraction_act m d (omega (arith, spelt_more (m * 10 + d.is) ds)) k (omega arith)) (fraction_take ds (m * 10 + d.is) (k + 1) h (omega arith))

dot_take : (f : Digit) (fs : List Digit) (m : ℕ) → spelt m (f ∷ fs) < cap → suc (length fs) ≤ 22 → Takes (A.Dot m) (numerals (f ∷ fs))
unfolding spelt
dot_take f fs m h g = more (dot_act m f (omega (arith, spelt_more (m * 10 + f.is) fs))) (fraction_take fs (m * 10 + f.is) 1 h (omega arith))

digits_take : (dots : Bool) (ds : List Digit) (m : ℕ) → spelt m ds < cap → Takes (A.Digits dots m) (numerals ds)
unfolding ends spelt
digits_take dots [] m h = stop refl
digits_take dots (d ∷ ds) m h = more (digits_act m d (omega (arith, spelt_more (m * 10 + d.is) ds)) dots) (digits_take dots ds (m * 10 + d.is) h)

-- digits, a dot, digits
dotted_take : (ds : List Digit) (f : Digit) (fs : List Digit) (m : ℕ) → spelt (spelt m ds) (f ∷ fs) < cap → suc (length fs) ≤ 22
    → Takes (A.Digits true m) (numerals ds ++ (46 ∷ numerals (f ∷ fs)))
unfolding spelt act digits within
dotted_take [] f fs m h g =
    let k : m * 10 < cap = omega (arith, spelt_more (m * 10 + f.is) fs) in
    let p : push m 48 ≡ m * 10 = omega arith in
    let e : act (A.Digits true m) 46 ≡ D.Stay (A.Dot m) = simp (p, lt-ltb (m * 10) cap k) in
    more e (dot_take f fs m h g)
dotted_take (d ∷ ds) f fs m h g =
    more (digits_act m d (omega (arith, spelt_more (m * 10 + d.is) ds, spelt_more (spelt (m * 10 + d.is) ds) (f ∷ fs))) true) (dotted_take ds f fs (m * 10 + d.is) h g)

-- a sign, or none, and the digits of a number
body_take : (dots : Bool) (x : Digits) → joined x < cap → fraction_digits x ≤ 22 → (is_whole x ≡ false → dots ≡ true) → Takes (A.Signed dots) (CV.digits x)
unfolding CV.digits joined fraction_digits is_whole spelt act signed within
body_take dots (whole d ds) h g k =
    let e : act (A.Signed dots) (numeral d) ≡ D.Stay (A.Digits dots (0 * 10 + d.is)) =
    simp (numeral_is d, push_digit 0 d (omega (arith, d.small))) in
    more e (digits_take dots ds (0 * 10 + d.is) h)
body_take dots (dotted [] f fs) h g k =
    let q : dots ≡ true = k refl in
    let e : act (A.Signed dots) 46 ≡ D.Stay (A.Dot 0) = simp q in
    more e (dot_take f fs 0 h g)
body_take dots (dotted (d ∷ ds) f fs) h g k =
    let q : dots ≡ true = k refl in
    let e : act (A.Signed dots) (numeral d) ≡ D.Stay (A.Digits true (0 * 10 + d.is)) =
    simp (numeral_is d, push_digit 0 d (omega (arith, d.small)), q) in
    more e (dotted_take ds f fs (0 * 10 + d.is) h g)

-- the first byte of a body is no sign
body_unsigned : (x : Digits) → (b : ℕ) (l : List ℕ) → CV.digits x ≡ b ∷ l → is_sign b ≡ false
unfolding CV.digits numeral
body_unsigned (whole d ds) b l e = let q : 48 + d.is ≡ b = cc in simp (ne_eqb b 43 (λ e. omega arith), ne_eqb b 45 (λ e. omega arith))
body_unsigned (dotted [] f fs) b l e = let q : 46 ≡ b = cc in simp (ne_eqb b 43 (λ e. omega arith), ne_eqb b 45 (λ e. omega arith))
body_unsigned (dotted (d ∷ ds) f fs) b l e = let q : 48 + d.is ≡ b = cc in simp (ne_eqb b 43 (λ e. omega arith), ne_eqb b 45 (λ e. omega arith))

pub number_take : (dots : Bool) (s : Sign) (x : Digits) → joined x < cap → fraction_digits x ≤ 22 → (is_whole x ≡ false → dots ≡ true) → Takes (A.Number dots) (sign s ++ CV.digits x)
unfolding sign act ends
number_take dots plus x h g k = more refl (body_take dots x h g k)
number_take dots minus x h g k = more refl (body_take dots x h g k)
number_take dots unsigned x h g k = go (CV.digits x) refl (body_take dots x h g k)
  where
    go : (l : List ℕ) → CV.digits x ≡ l → Takes (A.Signed dots) l → Takes (A.Number dots) l
    go [] q (stop e) = never e
    go (b ∷ l) q (last e) = never_last (A.Signed dots) b numeric_single e
    go (b ∷ l) q (more {x = y} e t) = let f : act (A.Number dots) b ≡ D.Stay y = simp (body_unsigned x b l q) e in more f t

-- And back. The digits after the dot
record Fractions (m k : ℕ) (l : List ℕ) : Type 0 where
  those : List Digit
  is : l ≡ numerals those
  low : spelt m those < cap
  few : k + length those ≤ 22

take_fraction : (l : List ℕ) (m k : ℕ) → m < cap → k ≤ 22 → Takes (A.Fraction m k) l → Fractions m k l
unfolding spelt act fraction
take_fraction [] m k h g t = record { those = []; is = refl; low = h; few = omega arith }
take_fraction (b ∷ l) m k h g (last e) = never_last (A.Fraction m k) b numeric_single e
take_fraction (b ∷ l) m k h g (more {x} e t) =
    either (is_digit b)
    (λ p. either (ltb k 22)
    (λ r. either (ltb (push m b) cap)
    (λ q. let y : x ≡ A.Fraction (push m b) (k + 1) = stays (rw (p, r, q) at e) in
    let u : Pushed m b (push m b) = pushed m b p q in
    let v : Fractions (push m b) (k + 1) l = take_fraction l (push m b) (k + 1) u.low (omega (arith, ltb-true k 22 r)) (rw y at t) in
    record { those = u.digit ∷ v.those; is = cc (u.is, v.is); low = spelt_step m (push m b) u.digit v.those u.sum v.low; few = omega (arith, v.few) })
    (λ q. never_lost (rw (p, r, q) at e)))
    (λ r. never_lost (rw (p, r) at e)))
    (λ p. never_pass (rw p at e))

record Dotted (m : ℕ) (l : List ℕ) : Type 0 where
  one : Digit
  those : List Digit
  is : l ≡ numerals (one ∷ those)
  low : spelt m (one ∷ those) < cap
  few : suc (length those) ≤ 22

take_dot : (l : List ℕ) (m : ℕ) → Takes (A.Dot m) l → Dotted m l
unfolding spelt act dot ends
take_dot [] m (stop e) = never e
take_dot (b ∷ l) m (last e) = never_last (A.Dot m) b numeric_single e
take_dot (b ∷ l) m (more {x} e t) =
    either (is_digit b)
    (λ p. either (ltb (push m b) cap)
    (λ q. let y : x ≡ A.Fraction (push m b) 1 = stays (rw (p, q) at e) in
    let u : Pushed m b (push m b) = pushed m b p q in
    let v : Fractions (push m b) 1 l = take_fraction l (push m b) 1 u.low (omega arith) (rw y at t) in
    record { one = u.digit; those = v.those; is = cc (u.is, v.is); low = spelt_step m (push m b) u.digit v.those u.sum v.low; few = omega (arith, v.few) })
    (λ q. never_lost (rw (p, q) at e)))
    (λ p. never_lost (rw p at e))

-- after some digits: more of them; or with a dot
data Tail (dots : Bool) (m : ℕ) (l : List ℕ) : Type 0 where
  no_dot : (ds : List Digit) → l ≡ numerals ds → spelt m ds < cap → Tail dots m l
  with_dot : dots ≡ true → (ds : List Digit) (f : Digit) (fs : List Digit) → l ≡ numerals ds ++ (46 ∷ numerals (f ∷ fs)) → spelt (spelt m ds) (f ∷ fs) < cap → suc (length fs) ≤ 22 → Tail dots m l

tail_more : (dots : Bool) (m b : ℕ) (l : List ℕ) → Pushed m b (push m b) → Tail dots (push m b) l → Tail dots m (b ∷ l)
unfolding spelt
tail_more dots m b l u (no_dot ds e h) = no_dot (u.digit ∷ ds) (cc (u.is, e)) (rw (← u.sum) h)
tail_more dots m b l u (with_dot q ds f fs e h g) = with_dot q (u.digit ∷ ds) f fs (cc (u.is, e)) (rw (← u.sum) h) g

take_digits : (dots : Bool) (l : List ℕ) (m : ℕ) → m < cap → Takes (A.Digits dots m) l → Tail dots m l
unfolding spelt act digits
take_digits dots [] m h t = no_dot [] refl h
take_digits dots (b ∷ l) m h (last e) = never_last (A.Digits dots m) b numeric_single e
take_digits dots (b ∷ l) m h (more {x} e t) =
    either (is_digit b)
    (λ p. either (ltb (push m b) cap)
    (λ q. let y : x ≡ A.Digits dots (push m b) = stays (rw (p, q) at e) in
    let u : Pushed m b (push m b) = pushed m b p q in
    tail_more dots m b l u (take_digits dots l (push m b) u.low (rw y at t)))
    (λ q. never_lost (rw (p, q) at e)))
    (λ p. either (eqb b 46)
    (λ q. either dots
    (λ r. either (ltb (push m 48) cap)
    (λ w. let y : x ≡ A.Dot m = stays (rw (p, q, r, w) at e) in
    let v : Dotted m l = take_dot l m (rw y at t) in
    with_dot r [] v.one v.those (cc (eqb-true b 46 q, v.is)) v.low v.few)
    (λ w. never_lost (rw (p, q, r, w) at e)))
    (λ r. never_pass (rw (p, r) at e)))
    (λ q. never_pass (simp (p, q, and_false) at e)))

-- the digits of a number, in the domain
pub record Body (dots : Bool) (l : List ℕ) : Type 0 where
  pub tree : Digits
  pub is : l ≡ CV.digits tree
  pub low : joined tree < cap
  pub few : fraction_digits tree ≤ 22
  pub dotless : is_whole tree ≡ false → dots ≡ true

tail_body : (dots : Bool) (b : ℕ) (l : List ℕ) → Pushed 0 b (push 0 b) → Tail dots (push 0 b) l → Body dots (b ∷ l)
unfolding CV.digits joined fraction_digits is_whole spelt
tail_body dots b l u (no_dot ds e h) = record { tree = whole u.digit ds; is = cc (u.is, e); low = rw (← u.sum) h; few = omega arith; dotless = λ q. never (sym q) }
tail_body dots b l u (with_dot q ds f fs e h g) =
    record { tree = dotted (u.digit ∷ ds) f fs; is = cc (u.is, e); low = rw (← u.sum) h; few = g; dotless = λ k. q }

take_body : (dots : Bool) (l : List ℕ) → Takes (A.Signed dots) l → Body dots l
unfolding CV.digits joined fraction_digits is_whole spelt act signed ends
take_body dots [] (stop e) = never e
take_body dots (b ∷ l) (last e) = never_last (A.Signed dots) b numeric_single e
take_body dots (b ∷ l) (more {x} e t) =
    either (is_digit b)
    (λ p. let y : x ≡ A.Digits dots (push 0 b) = stays (rw p at e) in
    let u : Pushed 0 b (push 0 b) = pushed 0 b p (small_push b p) in
    tail_body dots b l u (take_digits dots l (push 0 b) u.low (rw y at t)))
    (λ p. either (eqb b 46)
    (λ q. either dots
    (λ r. let y : x ≡ A.Dot 0 = stays (rw (p, q, r) at e) in
    let v : Dotted 0 l = take_dot l 0 (rw y at t) in
    record { tree = dotted [] v.one v.those; is = cc (eqb-true b 46 q, v.is); low = v.low; few = v.few; dotless = λ k. r })
    (λ r. never_lost (rw (p, r) at e)))
    (λ q. never_lost (simp (p, q, and_false) at e)))
  where
    small_push : (b : ℕ) → is_digit b ≡ true → ltb (push 0 b) cap ≡ true
    small_push b p = lt-ltb (push 0 b) cap (omega (arith, within_le 48 57 b (sym p)))

pub record Whole (dots : Bool) (l : List ℕ) : Type 0 where
  pub signed : Sign
  pub tree : Digits
  pub is : l ≡ sign signed ++ CV.digits tree
  pub low : joined tree < cap
  pub few : fraction_digits tree ≤ 22
  pub dotless : is_whole tree ≡ false → dots ≡ true

pub take_number : (dots : Bool) (l : List ℕ) → Takes (A.Number dots) l → Whole dots l
unfolding act ends sign
take_number dots [] (stop e) = never e
take_number dots (b ∷ l) (last e) = never_last (A.Number dots) b numeric_single e
take_number dots (b ∷ l) (more {x} e t) =
    either (is_sign b)
    (λ p. let y : x ≡ A.Signed dots = stays (rw p at e) in
    let v : Body dots l = take_body dots l (rw y at t) in
    either (eqb b 43) (λ q. record { signed = plus; tree = v.tree; is = cc (eqb-true b 43 q, v.is); low = v.low; few = v.few; dotless = v.dotless })
    (λ q. either (eqb b 45) (λ r. record { signed = minus; tree = v.tree; is = cc (eqb-true b 45 r, v.is); low = v.low; few = v.few; dotless = v.dotless })
    (λ r. never (simp (q, r) at p))))
    (λ p. let f : act (A.Signed dots) b ≡ D.Stay x = rw p at e in
    let v : Body dots (b ∷ l) = take_body dots (b ∷ l) (more f t) in
    record { signed = unsigned; tree = v.tree; is = v.is; low = v.low; few = v.few; dotless = v.dotless })
