-- A UTF-8 text that is cut where a character starts: both pieces are UTF-8, and so is what trimming leaves.
use Prim.Native.Nat.{ℕ, zero, suc, ◌+◌, ◌-◌, ◌≤◌, ◌<◌}
use mathlib.Core.Bool.{Bool, true, false, ◌&&◌, ◌||◌, cond}
use mathlib.Core.List.{List, [], ◌∷◌}
use mathlib.Core.Path.{◌≡◌, refl, sym, ap, subst, ◌∙◌}
use native.Mathlib.Numerals.{add-one, sub-one}
use native.Mathlib.Omega.{arith}
use borrow.Author.Tests.{leb-true, eqb-true, le-leb}
use lib.Dec.{eqb, leb, lit≤, eqb-suc-zero}
use lib.ListN.{length, get_or, take, drop, length-drop, get_or-eq_default}
use lib.Seq.{drop-drop, get_or-drop}
use Rattle.std.specs.Prelude.{Result, Ok, Err}
use Rattle.utf8.specs.Blanks.{blank1, blank2, blank3, blank_len, blank_at, byte_before, blank_end, blank_before, front, trim_start, back, trim_end, trim_of}
use Rattle.text_bytes.specs.Bytes.{within, is_tail}
use Rattle.utf8.specs.Characters.{Range, Row, table, keeps, row_of, len_at, char_len, walk, utf8_of}
use Rattle.text_bytes.specs.Scan.{run, scan}
use Rattle.text_bytes.proofs.Ranges.{either, within_yes, within_ge, within_le, and_true, and_first, and_second}
use Rattle.utf8.proofs.Octets.{tails, row_1, row_3, char_at, char_tails, char_first, char_ascii}
use Rattle.utf8.proofs.Trimming.{blank_before_le}
use Rattle.text_bytes.proofs.Scans.{run_le}
use Rattle.text_bytes.proofs.Ahead.{run_bytes}
use Rattle.text_bytes.specs.declared.Place.{Place}
use Rattle.text_bytes.specs.Moves.{place}

-- a step by a length: 0 stops, any other goes on
step : {A : Type 0} (P : A → Type 0) (n : ℕ) (a : A) (b : ℕ → A) → P a → ((m : ℕ) → n ≡ suc m → P (b m)) → P (cond (eqb n 0) a (b (n - 1)))
step P zero a b f g = f
step P (suc m) a b f g = simp (eqb-suc-zero, sub-one) (g m refl)

-- the walk of a UTF-8 text without its places: k bytes that continue a character, then characters to the end
data Chars : ℕ → List ℕ → Type 0 where
  end : Chars 0 []
  later : {k x : ℕ} {xs : List ℕ} → is_tail x ≡ true → Chars k xs → Chars (suc k) (x ∷ xs)
  first : {n x : ℕ} {xs : List ℕ} → char_len (x ∷ xs) ≡ suc n → Chars n xs → Chars 0 (x ∷ xs)

chars_from : (l : List ℕ) (i k : ℕ) → tails k l ≡ true → walk i k l ≡ Ok tt → Chars k l
unfolding walk tails
chars_from [] i zero t = λ e. end
chars_from [] i (suc k) t = let z : ◌≡◌ {A = ℕ} 0 1 = cc in absurd (omega arith)
chars_from (x ∷ xs) i (suc k) t = λ e. later (and_first (is_tail x) (tails k xs) t) (chars_from xs (i + 1) k (and_second (is_tail x) (tails k xs) t) e)
chars_from (x ∷ xs) i zero t =
    step (λ (u : Result (Unit {0}) Place). u ≡ Ok tt → Chars 0 (x ∷ xs)) (char_len (x ∷ xs)) (Err (place i)) (λ k. walk (i + 1) k xs)
    (λ e. let z : ◌≡◌ {A = ℕ} 0 1 = cc in absurd (omega arith))
    (λ n f e. first f (chars_from xs (i + 1) n (char_tails x xs n f) e))

chars_walk : {k : ℕ} {l : List ℕ} (i : ℕ) → Chars k l → walk i k l ≡ Ok tt
unfolding walk
chars_walk i end = refl
chars_walk i (later t w) = chars_walk (i + 1) w
chars_walk i (first f w) = simp (f, eqb-suc-zero, sub-one) (chars_walk (i + 1) w)

chars_le : {k : ℕ} {l : List ℕ} → Chars k l → k ≤ length l
chars_le end = omega arith
chars_le (later t w) = omega (arith, chars_le w)
chars_le (first f w) = omega arith

-- what is cut off behind a character does not alter it
keeps_take : (rs : List Range) (m : ℕ) (xs : List ℕ) → length rs ≤ length (take m xs) → keeps rs (take m xs) ≡ keeps rs xs
unfolding keeps
keeps_take [] m xs h = refl
keeps_take (r ∷ rs) zero xs h = absurd (omega arith)
keeps_take (r ∷ rs) (suc m) [] h = refl
keeps_take (r ∷ rs) (suc m) (x ∷ xs) h = rw (keeps_take rs m xs (omega arith))

len_take : (xs : List ℕ) (n m : ℕ) → n ≤ length (take m xs) → (rs : List Row) (j : ℕ) → len_at rs j xs ≡ suc n → len_at rs j (take m xs) ≡ suc n
unfolding len_at
len_take xs n m h [] j e = e
len_take xs n m h (r ∷ rs) zero e =
    rw (keeps_take r.later m xs (either (keeps r.later xs) (λ t. omega (arith, simp t at e)) (λ t. omega (arith, simp t at e)))) e
len_take xs n m h (r ∷ rs) (suc j) e = len_take xs n m h rs j e

-- no cut inside a character: its later bytes are tails
chars_cut : {k : ℕ} {l : List ℕ} (m : ℕ) → Chars k l → is_tail (get_or l m 0) ≡ false → Chars k (take m l) × Chars 0 (drop m l)
unfolding char_len
chars_cut zero end c = (end, end)
chars_cut (suc m) end c = (end, end)
chars_cut zero (later t w) c = let z : ◌≡◌ {A = ℕ} 0 1 = cc in absurd (omega arith)
chars_cut zero (first f w) c = (end, first f w)
chars_cut (suc m) (later t w) c = let v = chars_cut m w c in (later t v.0, v.1)
chars_cut (suc m) (first {n} {x} {xs} f w) c =
    let v = chars_cut m w c in
    (first (len_take xs n m (chars_le v.0) table (row_of table x) f) v.0, v.1)

chars : (s : List ℕ) → utf8_of s ≡ Ok tt → Chars 0 s
unfolding utf8_of tails
chars s u = chars_from s 0 0 refl u

module _ (s : List ℕ) (m : ℕ) (u : utf8_of s ≡ Ok tt) (c : is_tail (get_or s m 0) ≡ false) where
  pub utf8_drop : utf8_of (drop m s) ≡ Ok tt
  unfolding utf8_of
  utf8_drop = chars_walk 0 (chars_cut m (chars s u) c).1

  pub utf8_take : utf8_of (take m s) ≡ Ok tt
  unfolding utf8_of
  utf8_take = chars_walk 0 (chars_cut m (chars s u) c).0

chars_head : {l : List ℕ} → Chars 0 l → is_tail (get_or l 0 0) ≡ false
unfolding within
chars_head end = refl
chars_head (first {n} {x} {xs} f w) = char_first x xs n f

chars_next : {k : ℕ} {l : List ℕ} (j : ℕ) → Chars k l → j < length l → get_or l j 0 < 128 → is_tail (get_or l (suc j) 0) ≡ false
chars_next j end h c = absurd (omega arith)
chars_next zero (later {x = x} t w) h c = absurd (omega (arith, within_ge 0x80 0xbf x (sym t)))
chars_next zero (first {n} {x} {xs} f w) h c =
    let e : n ≡ 0 = omega (arith, char_ascii x xs c) in
    chars_head (rw e at w)
chars_next (suc j) (later t w) h c = chars_next j w (omega arith) c
chars_next (suc j) (first f w) h c = chars_next j w (omega arith) c

-- after an ASCII byte a character starts, or the text ends
pub after_ascii : (s : List ℕ) (j : ℕ) → utf8_of s ≡ Ok tt → j < length s → get_or s j 0 < 128 → is_tail (get_or s (j + 1) 0) ≡ false
after_ascii s j u h c = rw add-one (chars_next j (chars s u) h c)

-- so where a scan over ASCII bytes stops
pub scan_on : (p : ℕ → Bool) → ((x : ℕ) → p x ≡ true → x < 128) → (s : List ℕ) (i : ℕ) → utf8_of s ≡ Ok tt → is_tail (get_or s i 0) ≡ false → is_tail (get_or s (scan p s i) 0) ≡ false
unfolding scan
scan_on p f s i u c = go (run p (drop i s)) refl
  where
    go : (n : ℕ) → run p (drop i s) ≡ n → is_tail (get_or s (i + n) 0) ≡ false
    go zero e = let q : i + 0 ≡ i = omega arith in rw q c
    go (suc n) e =
        let q : i + suc n ≡ i + n + 1 = omega arith in
        let b : p (get_or s (i + n) 0) ≡ true = rw get_or-drop at (run_bytes p (drop i s) n (omega arith)) in
        rw q (after_ascii s (i + n) u (omega (arith, run_le p (drop i s), length-drop i s)) (f (get_or s (i + n) 0) b))

-- from the tests of white space to the ranges of the table, for `search`
or_then : (t u : Bool) {w : Bool} → (t ≡ true → w ≡ true) → (u ≡ true → w ≡ true) → (t || u) ≡ true → w ≡ true
or_then true u f g e = f refl
or_then false u f g e = g e

and_then : (t u : Bool) {v w : Bool} → (t ≡ true → v ≡ true) → (u ≡ true → w ≡ true) → (t && u) ≡ true → (v && w) ≡ true
and_then true u f g e = rw (f refl) (g e)
and_then false u f g e = let z : ◌≡◌ {A = ℕ} 0 1 = cc in absurd (omega arith)

range_in : (lo hi p q a : ℕ) → lo ≤ p → q ≤ hi → (leb p a && leb a q) ≡ true → within lo hi a ≡ true
range_in lo hi p q a h k e =
    sym (within_yes lo hi a (omega (arith, leb-true p a (and_first (leb p a) (leb a q) e))) (omega (arith, leb-true a q (and_second (leb p a) (leb a q) e))))

byte_in : (lo hi p a : ℕ) → lo ≤ p → p ≤ hi → eqb a p ≡ true → within lo hi a ≡ true
byte_in lo hi p a h k e = sym (within_yes lo hi a (omega (arith, eqb-true a p e)) (omega (arith, eqb-true a p e)))

ruleset ranges = (or_then, and_then, range_in, byte_in, lit≤, tt)

-- a character of row j: the test b puts its first byte into the range, and the later ones keep to the row, as t says
row_char : (lo hi j n a : ℕ) (xs : List ℕ) (t : Bool) {b : Bool} → ((x : ℕ) → lo ≤ x → x < suc hi → j ≡ row_of table x) → len_at table j xs ≡ cond t n 0
    → (b ≡ true → (within lo hi a && t) ≡ true) → b ≡ true → char_len (a ∷ xs) ≡ n
unfolding char_len
row_char lo hi j n a xs t row q f e =
    let h = sym (and_first (within lo hi a) t (f e)) in
    let k : t ≡ true = and_second (within lo hi a) t (f e) in
    rw (← row a (within_ge lo hi a h) (omega (arith, within_le lo hi a h)), q, k)

-- white space is a character, whatever follows it
blank1_char : (a : ℕ) (l : List ℕ) → blank1 a ≡ true → char_len (a ∷ l) ≡ 1
unfolding blank1
blank1_char a l e =
    let f : within 0 127 a ≡ true = search ranges depth 20 in
    char_ascii a l (omega (arith, within_le 0 127 a (sym f)))

blank2_char : (a b : ℕ) (l : List ℕ) → blank2 a b ≡ true → char_len (a ∷ b ∷ l) ≡ 2
unfolding blank2 len_at keeps
blank2_char a b l = row_char 194 223 1 2 a (b ∷ l) (is_tail b) row_1 (simp and_true) (search ranges depth 20)

blank3_char : (a b c : ℕ) (l : List ℕ) → blank3 a b c ≡ true → char_len (a ∷ b ∷ c ∷ l) ≡ 3
unfolding blank3 len_at keeps
blank3_char a b c l = row_char 225 236 3 3 a (b ∷ c ∷ l) (is_tail b && is_tail c) row_3 (simp and_true) (search ranges depth 30)

-- white space is judged in the same order from either side
by_length : (P : ℕ → Type 0) (t u v : Bool) → (t ≡ true → P 1) → (u ≡ true → P 2) → (v ≡ true → P 3) → (n : ℕ) → cond t 1 (cond u 2 (cond v 3 0)) ≡ suc n → P (suc n)
by_length P true u v f g h n e = subst P e (f refl)
by_length P false true v f g h n e = subst P e (g refl)
by_length P false false true f g h n e = subst P e (h refl)
by_length P false false false f g h n e = absurd (omega arith)

blank_char : (x : ℕ) (xs : List ℕ) (n : ℕ) → blank_at (x ∷ xs) 0 ≡ suc n → char_len (x ∷ xs) ≡ suc n
unfolding blank_at blank_len char_len
blank_char x xs n e =
    let b = get_or xs 0 0 in
    let c = get_or xs 1 0 in
    let l = get_or xs 2 0 ∷ [] in
    sym (char_at (x ∷ xs) 0 (omega arith))
    ∙ by_length (λ k. char_len (x ∷ b ∷ c ∷ l) ≡ k) (blank1 x) (blank2 x b) (blank3 x b c)
    (blank1_char x (b ∷ c ∷ l)) (blank2_char x b (c ∷ l)) (blank3_char x b c l) n e

blank_before_is : (s : List ℕ) (e n : ℕ) → blank_before s e ≡ suc n → is_tail (get_or s (e - suc n) 0) ≡ false
unfolding blank_before blank_end byte_before
blank_before_is s e n b =
    let f = byte_before s e in
    let h : suc n ≤ e = omega (arith, blank_before_le s e) in
    rw (le-leb (suc n) e h) at
    (by_length (λ n. is_tail (f n) ≡ false) (blank1 (f 1)) (blank2 (f 2) (f 1)) (blank3 (f 3) (f 2) (f 1))
    (λ t. char_first (f 1) [] 0 (blank1_char (f 1) [] t))
    (λ t. char_first (f 2) (f 1 ∷ []) 1 (blank2_char (f 2) (f 1) [] t))
    (λ t. char_first (f 3) (f 2 ∷ f 1 ∷ []) 2 (blank3_char (f 3) (f 2) (f 1) [] t)) n b)

front_on : {k : ℕ} {l : List ℕ} (s : List ℕ) (i : ℕ) → drop i s ≡ l → Chars k l → is_tail (get_or s (front i k l) 0) ≡ false
unfolding front
front_on s i h end = rw (← get_or-drop i s 0 0, h) (unfold within in refl)
front_on s i h (later t w) = front_on s (i + 1) (sym (drop-drop 1 i s) ∙ ap (drop 1) h) w
front_on s i h (first {n} {x} {xs} f w) =
    let q : i ≡ i + 0 = omega arith in
    step (λ p. is_tail (get_or s p 0) ≡ false) (blank_at (x ∷ xs) 0) i (λ k. front (i + 1) k xs)
    (rw (q, ← get_or-drop i s 0 0, h) (char_first x xs n f))
    (λ m b. let r : m ≡ n = omega (arith, blank_char x xs m b) in rw r (front_on s (i + 1) (sym (drop-drop 1 i s) ∙ ap (drop 1) h) w))

-- where trimming stops at the front, a character starts
pub trim_start_on : (s : List ℕ) → utf8_of s ≡ Ok tt → is_tail (get_or s (trim_start s) 0) ≡ false
unfolding trim_start
trim_start_on s u = front_on s 0 refl (chars s u)

back_on : (s : List ℕ) (e k p : ℕ) → p ≡ e - k → is_tail (get_or s p 0) ≡ false → is_tail (get_or s (back s e k) 0) ≡ false
unfolding back
back_on s zero k p h c =
    let q : p ≡ 0 = omega arith in
    rw q at c
back_on s (suc e) (suc k) p h c = back_on s e k p (omega arith) c
back_on s (suc e) zero p h c =
    let q : p ≡ suc e = omega arith in
    step (λ r. is_tail (get_or s r 0) ≡ false) (blank_before s (suc e)) (suc e) (back s e) (rw q at c)
    (λ n b. back_on s e n (suc e - suc n) (omega arith) (blank_before_is s (suc e) n b))

-- and where it stops at the back, in any text
pub trim_end_on : (s : List ℕ) → is_tail (get_or s (trim_end s) 0) ≡ false
unfolding trim_end
trim_end_on s = back_on s (length s) 0 (length s) (omega arith) (rw (get_or-eq_default s 0 {n = length s} (omega arith)) (unfold within in refl))

pub trim_utf8 : (s : List ℕ) → utf8_of s ≡ Ok tt → utf8_of (trim_of s) ≡ Ok tt
unfolding trim_of
trim_utf8 s u =
    let t = drop (trim_start s) s in
    utf8_take t (trim_end t) (utf8_drop s (trim_start s) u (trim_start_on s u)) (trim_end_on t)
