-- Unicode's White_Space (PropList.txt), over the characters of RFC 3629, sections 3 and 4: trimming takes off the White_Space characters at the ends of a text, and nothing else.
use Prim.Native.Nat.{ℕ, suc, ◌+◌, ◌-◌, ◌≤◌, ◌<◌}
use mathlib.Core.Bool.{Bool, true, false, cond, not}
use mathlib.Core.List.{List, [], ◌∷◌, ◌++◌, append-nil, append_assoc}
use mathlib.Core.Path.{◌≡◌, refl, sym, ap, ◌∙◌}
use mathlib.Core.Logic.{⊎_elim}
use native.Mathlib.Nat.{zero-add, add_assoc}
use native.Mathlib.Omega.{arith}
use borrow.Author.Tests.{ne_eqb, le-leb, lt-leb, ltb-true, leb-true}
use lib.Dec.{T, eqb, leb, ltb, lit≤}
use lib.Seq.{get_or-append-add, drop-append_seam, drop-length, take-append_seam, take-nil}
use lib.ListN.{length, get_or, length-append, get_or-append}
use Rattle.utf8.specs.Blanks.{blank1, blank2, blank3, blank_len, blank_end, blank_at, byte_before, blank_before, trim_start, trim_end, trim_of}
use Rattle.text_bytes.proofs.Ranges.{all_from, across, lt_or_le, and_false, and_first, and_second}
use Rattle.utf8.proofs.Trimming.{blank_drop, Fronting, front_start, front_end, front_stop, front_go, Backing, back_start, back_end, back_stop, back_go}
use Rattle.standards.specs.Rfc3629.{Octet, Tail, Char, utf8_1, utf8_2, utf8_3_e0, utf8_3_e1, utf8_3_ed, utf8_3_ee, utf8_4_f0, utf8_4_f1, utf8_4_f4, octets, text, two, three, four, scalar}
use Rattle.standards.specs.Unicode.{is_white, white, ends_white, all_white, begins_white}
use Rattle.standards.proofs.Utf8.{octets_some}
use Rattle.standards.specs.Texts.{Parts}

abbrev alike : Bool → Bool → Bool
alike true t = t
alike false t = not t

alike_eq : (a b : Bool) → T (alike a b) → a ≡ b
alike_eq true true t = refl
alike_eq true false t = absurd t
alike_eq false true t = absurd t
alike_eq false false t = refl

-- a test that holds at each octet of a range
over : (t : ℕ → Bool) {lo hi : ℕ} (a : Octet lo hi) → T (all_from t lo (suc hi - lo)) → T (t a.is)
over t {lo} {hi} a h = across t lo (suc hi - lo) h a.is a.from (omega arith)

abbrev octet : (lo hi a : ℕ) → lo ≤ a → a ≤ hi → Octet lo hi
octet lo hi a h k = record { is = a; from = h; to = k }

-- the nine alternatives by their lengths, with what the tests go by
data Shape : List ℕ → ℕ → Type 0 where
  shape1 : (a : Octet 0x00 0x7f) → Shape (a.is ∷ []) a.is
  shape2 : (a : Octet 0xc2 0xdf) (b : Tail) → Shape (a.is ∷ b.is ∷ []) (two a.is b.is)
  shape3 : (a : Octet 0xe0 0xef) (b c : Tail) → 0x800 ≤ three a.is b.is c.is → Shape (a.is ∷ b.is ∷ c.is ∷ []) (three a.is b.is c.is)
  shape4 : (a : Octet 0xf0 0xf4) (b c d : Tail) → 0x10000 ≤ four a.is b.is c.is d.is → Shape (a.is ∷ b.is ∷ c.is ∷ d.is ∷ []) (four a.is b.is c.is d.is)

shape : (c : Char) → Shape (octets c) (scalar c)
unfolding octets scalar
shape (utf8_1 a) = shape1 a
shape (utf8_2 a b) = shape2 a b
shape (utf8_3_e0 b c) = shape3 (octet 0xe0 0xef 0xe0 (omega arith) (omega arith)) (octet 0x80 0xbf b.is (omega arith) (omega arith)) c (omega arith)
shape (utf8_3_e1 a b c) = shape3 (octet 0xe0 0xef a.is (omega arith) (omega arith)) b c (omega arith)
shape (utf8_3_ed b c) = shape3 (octet 0xe0 0xef 0xed (omega arith) (omega arith)) (octet 0x80 0xbf b.is (omega arith) (omega arith)) c (omega arith)
shape (utf8_3_ee a b c) = shape3 (octet 0xe0 0xef a.is (omega arith) (omega arith)) b c (omega arith)
shape (utf8_4_f0 b c d) = shape4 (octet 0xf0 0xf4 0xf0 (omega arith) (omega arith)) (octet 0x80 0xbf b.is (omega arith) (omega arith)) c d (omega arith)
shape (utf8_4_f1 a b c d) = shape4 (octet 0xf0 0xf4 a.is (omega arith) (omega arith)) b c d (omega arith)
shape (utf8_4_f4 b c d) = shape4 (octet 0xf0 0xf4 0xf4 (omega arith) (omega arith)) (octet 0x80 0xbf b.is (omega arith) (omega arith)) c d (omega arith)

-- the tests of bytes are the tests of characters, computed at each sequence
pub white1 : (a : Octet 0x00 0x7f) → blank1 a.is ≡ is_white a.is
unfolding blank1 is_white
white1 a = alike_eq _ _ (over (λ x. alike (blank1 x) (is_white x)) a tt)

white2 : (a : Octet 0xc2 0xdf) (b : Tail) → blank2 a.is b.is ≡ is_white (two a.is b.is)
unfolding blank2 is_white
white2 a b = alike_eq _ _ (over (λ y. alike (blank2 a.is y) (is_white (two a.is y))) b (over (λ x. all_from (λ y. alike (blank2 x y) (is_white (two x y))) 0x80 64) a tt))

white3_at : {p q r s : ℕ} (a : Octet p q) (b : Octet r s) (c : Tail)
    → T (unfold blank3 is_white in all_from (λ x. all_from (λ y. all_from (λ z. alike (blank3 x y z) (is_white (three x y z))) 0x80 64) r (suc s - r)) p (suc q - p))
    → blank3 a.is b.is c.is ≡ is_white (three a.is b.is c.is)
unfolding blank3 is_white
white3_at {p} {q} {r} {s} a b c t =
    alike_eq _ _
    (over (λ z. alike (blank3 a.is b.is z) (is_white (three a.is b.is z))) c
    (over (λ y. all_from (λ z. alike (blank3 a.is y z) (is_white (three a.is y z))) 0x80 64) b
    (over (λ x. all_from (λ y. all_from (λ z. alike (blank3 x y z) (is_white (three x y z))) 0x80 64) r (suc s - r)) a t)))

-- a number from m on, or before it, is none of those on the other side
module _ (m n : ℕ) where
  above : m ≤ n → (k : ℕ) → ltb k m ≡ true → eqb n k ≡ false
  above h k t = ne_eqb n k (λ e. omega (arith, ltb-true k m t))

  below : n < m → (k : ℕ) → leb m k ≡ true → eqb n k ≡ false
  below h k t = ne_eqb n k (λ e. omega (arith, leb-true m k t))

-- no White_Space past the last
white_high : (n : ℕ) → 0x3001 ≤ n → is_white n ≡ false
unfolding is_white
white_high n h = simp (above 0x3001 n h, lt-leb n 13 (omega arith), lt-leb n 0x200a (omega arith), and_false)

-- which tests a sequence cannot pass; so the last bytes alone tell the white space that ends with them
blank1_none : (a : ℕ) → 128 ≤ a → blank1 a ≡ false
unfolding blank1
blank1_none a h = simp (above 128 a h, lt-leb a 13 (omega arith), and_false)

blank2_none : (a b : ℕ) → (a ≡ 0xc2 → ⊥) → blank2 a b ≡ false
unfolding blank2
blank2_none a b h = simp (ne_eqb a 0xc2 h)

blank2_low : (a b : ℕ) → b < 128 → blank2 a b ≡ false
unfolding blank2
blank2_low a b h = simp (below 128 b h, and_false)

blank3_none : (a b c : ℕ) → (0xe1 ≤ a → a < 0xe4 → ⊥) → blank3 a b c ≡ false
unfolding blank3
blank3_none a b c h = simp (ne_eqb a 0xe1 (λ e. h (omega arith) (omega arith)), ne_eqb a 0xe2 (λ e. h (omega arith) (omega arith)), ne_eqb a 0xe3 (λ e. h (omega arith) (omega arith)))

blank3_mid : (a b c : ℕ) → 0xc0 ≤ b → blank3 a b c ≡ false
unfolding blank3
blank3_mid a b c h = simp (above 0xc0 b h, and_false)

blank3_low : (a b c : ℕ) → c < 128 → blank3 a b c ≡ false
unfolding blank3
blank3_low a b c h = simp (below 128 c h, lt-leb 0x80 c h, and_false)

white3 : (a : Octet 0xe0 0xef) (b c : Tail) → 0x800 ≤ three a.is b.is c.is → blank3 a.is b.is c.is ≡ is_white (three a.is b.is c.is)
unfolding blank3 is_white
white3 a b c n =
    ⊎_elim
    (λ (p : a.is < 0xe1). white3_at (octet 0xe0 0xe0 a.is a.from (omega arith)) (octet 0xa0 0xbf b.is (omega arith) b.to) c tt)
    (λ (p : 0xe1 ≤ a.is).
    ⊎_elim
    (λ (q : a.is < 0xe4). white3_at (octet 0xe1 0xe3 a.is p (omega arith)) b c tt)
    (λ (q : 0xe4 ≤ a.is). blank3_none a.is b.is c.is (λ x y. omega arith) ∙ sym (white_high (three a.is b.is c.is) (omega arith)))
    (lt_or_le a.is 0xe4))
    (lt_or_le a.is 0xe1)

-- white space at the front of a sequence, and at its end, whatever stands around it
front_of : (l : List ℕ) (n : ℕ) → Shape l n → (rest : List ℕ) → blank_at (l ++ rest) 0 ≡ cond (is_white n) (length l) 0
unfolding blank_at blank_len
front_of l n (shape1 a) rest = simp (white1 a, blank2_none a.is (get_or rest 0 0) (λ e. omega arith), blank3_none a.is (get_or rest 0 0) (get_or rest 1 0) (λ x y. omega arith))
front_of l n (shape2 a b) rest = simp (blank1_none a.is (omega arith), white2 a b, blank3_none a.is b.is (get_or rest 0 0) (λ x y. omega arith))
front_of l n (shape3 a b c w) rest = simp (blank1_none a.is (omega arith), blank2_none a.is b.is (λ e. omega arith), white3 a b c w)
front_of l n (shape4 a b c d w) rest =
    simp (blank1_none a.is (omega arith), blank2_none a.is b.is (λ e. omega arith), blank3_none a.is b.is c.is (λ x y. omega arith), white_high n (omega arith))

-- the bytes of l, counted back from its end
before_in : (s l t : List ℕ) (k : ℕ) → ltb 0 k ≡ true → leb k (length l) ≡ true → byte_before (s ++ (l ++ t)) (length s + length l) k ≡ get_or l (length l - k) 0
unfolding byte_before
before_in s l t k p h =
    let i : 0 < k = ltb-true 0 k p in
    let j : k ≤ length l = leb-true k (length l) h in
    let e : length s + length l - k ≡ length s + (length l - k) = omega arith in
    simp (le-leb k (length s + length l) (omega arith), e, get_or-append-add) (get_or-append l t 0 (length l - k) (omega arith))

end_of : (l : List ℕ) (n : ℕ) → Shape l n → (s t : List ℕ) → blank_before (s ++ (l ++ t)) (length s + length l) ≡ cond (is_white n) (length l) 0
unfolding blank_before blank_end
end_of l n (shape1 a) s t =
    let f = byte_before (s ++ (l ++ t)) (length s + 1) in
    simp (before_in s l t, white1 a, blank2_low (f 2) a.is (omega arith), blank3_low (f 3) (f 2) a.is (omega arith))
end_of l n (shape2 a b) s t =
    let f = byte_before (s ++ (l ++ t)) (length s + 2) in
    simp (before_in s l t, blank1_none b.is b.from, white2 a b, blank3_mid (f 3) a.is b.is (omega arith))
end_of l n (shape3 a b c w) s t =
    simp (before_in s l t, blank1_none c.is c.from, blank2_none b.is c.is (λ e. omega arith), white3 a b c w)
end_of l n (shape4 a b c d w) s t =
    simp (before_in s l t, blank1_none d.is d.from, blank2_none c.is d.is (λ e. omega arith), blank3_none b.is c.is d.is (λ x y. omega arith), white_high n (omega arith))

pub text_append : (a b : List Char) → text (a ++ b) ≡ text a ++ text b
unfolding text
text_append [] b = refl
text_append (c ∷ cs) b = rw (text_append cs b, append_assoc)

module _ (pre : List ℕ) (c : Char) (rest : List ℕ) {t : Bool} (e : white c ≡ t) where
  -- the character after pre, looked at from its start and from its end
  at_start : cond t (length (octets c)) 0 ≡ blank_at (pre ++ (octets c ++ rest)) (length pre)
  at_start = rw (← blank_drop (pre ++ (octets c ++ rest)) (length pre), drop-append_seam, front_of (octets c) (scalar c) (shape c) rest, e)

  at_end : cond t (length (octets c)) 0 ≡ blank_before (pre ++ (octets c ++ rest)) (length pre + length (octets c))
  at_end = rw (end_of (octets c) (scalar c) (shape c) pre rest, e)

  inside : length pre < length (pre ++ (octets c ++ rest))
  inside = simp length-append (omega (arith, octets_some c))

-- trimming that has come to the end of pre takes what is white after it, and stops
started : (pre : List ℕ) (before rest : List Char) → all_white before ≡ true → begins_white rest ≡ false → Fronting (pre ++ text (before ++ rest)) (length pre)
    → length pre + length (text before) ≡ trim_start (pre ++ text (before ++ rest))
unfolding text all_white begins_white
started pre [] [] w b v = omega (arith, front_end v (omega (arith, length-append pre [])))
started pre [] (c ∷ cs) w b v = omega (arith, front_stop v (at_start pre c (text cs) b) (inside pre c (text cs) b) refl)
started pre (c ∷ cs) rest w b v =
    let e = and_first (white c) (all_white cs) w in
    let u = front_go v (at_start pre c (text (cs ++ rest)) e) (inside pre c (text (cs ++ rest)) e) (λ z. omega (arith, octets_some c)) in
    let ih = started (pre ++ octets c) cs rest (and_second (white c) (all_white cs) w) b (rw (append_assoc, length-append) u) in
    omega (arith, length-append (octets c) (text cs), simp (append_assoc, length-append) at ih)

-- THEOREM. What trimming takes off at the start of a text is exactly the White_Space characters there.
pub trim_start_is : (before rest : List Char) → all_white before ≡ true → begins_white rest ≡ false → trim_start (text (before ++ rest)) ≡ length (text before)
trim_start_is before rest w b = omega (arith, started [] before rest w b (front_start (text (before ++ rest))))

-- trimming from the end comes to the end of pre, where all after it is white,
pub ended : (pre : List ℕ) (cs : List Char) → all_white cs ≡ true → Backing (pre ++ text cs) (length pre)
unfolding text all_white
ended pre [] w = rw append-nil (back_start pre)
ended pre (c ∷ cs) w =
    let e = and_first (white c) (all_white cs) w in
    let ih = ended (pre ++ octets c) cs (and_second (white c) (all_white cs) w) in
    let n : length pre + length (octets c) - length (octets c) ≡ length pre = omega arith in
    rw n at (back_go (rw (append_assoc, length-append) at ih) (at_end pre c (text cs) e) (λ z. omega (arith, octets_some c)) (omega (arith, octets_some c)))

-- and stops after a character that is not
stopped : (pre : List ℕ) (c : Char) (cs : List Char) (post : List ℕ) → ends_white (c ∷ cs) ≡ false → 0 ≡ blank_before (pre ++ (text (c ∷ cs) ++ post)) (length pre + length (text (c ∷ cs)))
unfolding text ends_white
stopped pre c [] post e = simp append-nil (at_end pre c post e)
stopped pre c (d ∷ cs) post e = simp (append_assoc, length-append, ← add_assoc) (simp (append_assoc, length-append, ← add_assoc) at (stopped (pre ++ octets c) d cs post e))

-- THEOREM. What trimming takes off at the end of a text is exactly the White_Space characters there.
pub trim_end_is : (rest after : List Char) → ends_white rest ≡ false → all_white after ≡ true → trim_end (text (rest ++ after)) ≡ length (text rest)
trim_end_is rest after b w = rw (text_append rest after) (go rest b (ended (text rest) after w))
  where
    go : (rest : List Char) → ends_white rest ≡ false → Backing (text rest ++ text after) (length (text rest)) → trim_end (text rest ++ text after) ≡ length (text rest)
    go [] b v = sym (back_end v (unfold text in lit≤ tt))
    go (c ∷ cs) b v = sym (back_stop v (rw zero-add at (stopped [] c cs (text after) b)) refl)

all_append : (a b : List Char) → all_white a ≡ true → all_white b ≡ true → all_white (a ++ b) ≡ true
unfolding all_white
all_append [] b p q = q
all_append (c ∷ cs) b p q = rw (and_first (white c) (all_white cs) p) (all_append cs b (and_second (white c) (all_white cs) p) q)

-- THEOREM. Trimming a text leaves its middle.
pub trim_is : (cs : List Char) (p : Parts cs) → trim_of (text cs) ≡ text p.middle
unfolding trim_of text all_white begins_white
trim_is cs p = ap (λ l. trim_of (text l)) p.whole ∙ go p.before p.middle p.after p.white_before p.bare_start p.bare_end p.white_after
  where
    go : (b m a : List Char) → all_white b ≡ true → begins_white m ≡ false → ends_white m ≡ false → all_white a ≡ true → trim_of (text (b ++ (m ++ a))) ≡ text m
    go b [] a u v w x =
        let e = rw append-nil at (trim_start_is (b ++ a) [] (all_append b a u x) refl) in
        rw (e, drop-length, take-nil)
    go b (c ∷ cs) a u v w x =
        rw (trim_start_is b (c ∷ cs ++ a) u v, text_append b (c ∷ cs ++ a), drop-append_seam, trim_end_is (c ∷ cs) a w x, text_append (c ∷ cs) a, take-append_seam)

-- how a text ends is told by its last characters
pub ends_append : (a : List Char) (c : Char) (cs : List Char) → ends_white (a ++ (c ∷ cs)) ≡ ends_white (c ∷ cs)
unfolding ends_white
ends_append [] c cs = refl
ends_append (d ∷ []) c cs = refl
ends_append (d ∷ e ∷ a) c cs = ends_append (e ∷ a) c cs

-- THEOREM. Every text has such parts, so that the theorem above holds of every text.
pub parts : (cs : List Char) → Parts cs
unfolding all_white begins_white ends_white
parts [] = record { before = []; middle = []; after = []; whole = refl; white_before = refl; bare_start = refl; bare_end = refl; white_after = refl }
parts (c ∷ cs) = let p = parts cs in go (white c) refl p.before p.middle p.after p.whole p.white_before p.bare_start p.bare_end p.white_after
  where
    go : (t : Bool) → white c ≡ t → (b m a : List Char) → cs ≡ b ++ (m ++ a) → all_white b ≡ true → begins_white m ≡ false → ends_white m ≡ false → all_white a ≡ true → Parts (c ∷ cs)
    go true e b m a q u v w x =
        record { before = c ∷ b; middle = m; after = a; whole = ap (λ l. c ∷ l) q; white_before = rw e u; bare_start = v; bare_end = w; white_after = x }
    go false e b [] a q u v w x =
        record { before = []; middle = c ∷ []; after = b ++ a; whole = ap (λ l. c ∷ l) q; white_before = refl; bare_start = e; bare_end = e; white_after = all_append b a u x }
    go false e b (d ∷ m) a q u v w x =
        record { before = []; middle = c ∷ (b ++ (d ∷ m)); after = a; whole = rw append_assoc (ap (λ l. c ∷ l) q); white_before = refl; bare_start = e; bare_end = ends_append (c ∷ b) d m ∙ w; white_after = x }
