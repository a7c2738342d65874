-- RFC 3629, section 4: the UTF-8 test takes the texts of the ABNF and no other; characters and positions are counted as the ABNF has them.
use Prim.Native.Nat.{ℕ, zero, suc, ◌+◌, ◌≤◌, ◌<◌}
use mathlib.Core.Bool.{true}
use mathlib.Core.List.{List, [], ◌∷◌, ◌++◌, append-nil, append_assoc}
use mathlib.Core.Path.{◌≡◌, refl, sym, ap, ◌∙◌}
use native.Mathlib.Numerals.{sub-one}
use native.Mathlib.Omega.{arith}
use lib.Dec.{lit≤}
use lib.ListN.{length, length-append}
use Rattle.std.specs.Prelude.{Result, Ok, Err}
use Rattle.text_bytes.specs.Bytes.{within}
use Rattle.utf8.specs.Characters.{Range, Row, table, keeps, row_of, len_at, char_len, walk, utf8_of, firsts, count, characters, calc_char_pos_at}
use Rattle.utf8.specs.Moves.{move_utf8}
use Rattle.text_bytes.specs.declared.Place.{Place}
use Rattle.text_bytes.proofs.Ranges.{within_yes, within_ge, within_le, either, and_first, and_second}
use Rattle.utf8.proofs.Octets.{row_0, row_1, row_3, row_5, row_7, char_ascii}
use Rattle.utf8.proofs.Walks.{walk_start, walk_end, walk_bad, walk_go, utf8_join}
use Rattle.utf8.proofs.Counting.{position_shift}
use Rattle.standards.specs.Rfc3629.{Octet, Char, utf8_1, utf8_2, utf8_3_e0, utf8_3_e1, utf8_3_ed, utf8_3_ee, utf8_4_f0, utf8_4_f1, utf8_4_f4, octets, text}
use Rattle.standards.specs.Texts.{Longest}
use Rattle.text_bytes.specs.Moves.{place}

in_range : {lo hi : ℕ} (a : Octet lo hi) → within lo hi a.is ≡ true
in_range {lo} {hi} a = sym (within_yes lo hi a.is a.from (omega (arith, a.to)))

-- the reader's length of a character of the grammar, whatever follows
char_length : (c : Char) (rest : List ℕ) → char_len (octets c ++ rest) ≡ length (octets c)
unfolding char_len len_at keeps octets
char_length (utf8_1 a) rest = simp (← row_0 a.is (omega (arith, a.to)))
char_length (utf8_2 a b) rest = simp (← row_1 a.is a.from (omega (arith, a.to)), in_range b)
char_length (utf8_3_e0 b c) rest = unfold row_of within in simp (in_range b, in_range c)
char_length (utf8_3_e1 a b c) rest = simp (← row_3 a.is a.from (omega (arith, a.to)), in_range b, in_range c)
char_length (utf8_3_ed b c) rest = unfold row_of within in simp (in_range b, in_range c)
char_length (utf8_3_ee a b c) rest = simp (← row_5 a.is a.from (omega (arith, a.to)), in_range b, in_range c)
char_length (utf8_4_f0 b c d) rest = unfold row_of within in simp (in_range b, in_range c, in_range d)
char_length (utf8_4_f1 a b c d) rest = simp (← row_7 a.is a.from (omega (arith, a.to)), in_range b, in_range c, in_range d)
char_length (utf8_4_f4 b c d) rest = unfold row_of within in simp (in_range b, in_range c, in_range d)

-- there is an octet: without one the reader would judge what follows
pub octets_some : (c : Char) → 0 < length (octets c)
octets_some c = go (octets c) (char_length c (0 ∷ []))
  where
    go : (l : List ℕ) → char_len (l ++ (0 ∷ [])) ≡ length l → 0 < length l
    go [] e = absurd (omega (arith, char_ascii 0 [] (lit≤ tt)))
    go (x ∷ xs) e = omega arith

-- octets in the ranges of a row, one in each, and the row's character of them
abbrev Sequence : List Range → Type 0
Sequence [] = Unit {0}
Sequence (r ∷ rs) = Octet r.low r.high × Sequence rs

spelled : (rs : List Range) → Sequence rs → List ℕ
spelled [] q = []
spelled (r ∷ rs) q = q.0.is ∷ spelled rs q.1

abbrev Alternative : Row → Type 0
Alternative r = (q : Sequence (r.first ∷ r.later)) → (c : Char) × (octets c ≡ spelled (r.first ∷ r.later) q)

abbrev Alternatives : List Row → Type 0
Alternatives [] = Unit {0}
Alternatives (r ∷ rs) = Alternative r × Alternatives rs

-- a range of one octet
fixed : {k : ℕ} (a : Octet k k) → k ≡ a.is
fixed a = omega (arith, a.from, a.to)

alternatives : Alternatives table
unfolding spelled octets
alternatives = (
  λ q. (utf8_1 q.0, refl),
  (
    λ q. (utf8_2 q.0 q.1.0, refl),
    (
      λ q. (utf8_3_e0 q.1.0 q.1.1.0, rw (fixed q.0) refl),
      (
        λ q. (utf8_3_e1 q.0 q.1.0 q.1.1.0, refl),
        (
          λ q. (utf8_3_ed q.1.0 q.1.1.0, rw (fixed q.0) refl),
          (
            λ q. (utf8_3_ee q.0 q.1.0 q.1.1.0, refl),
            (
              λ q. (utf8_4_f0 q.1.0 q.1.1.0 q.1.1.1.0, rw (fixed q.0) refl),
              (
                λ q. (utf8_4_f1 q.0 q.1.0 q.1.1.0 q.1.1.1.0, refl),
                (
                  λ q. (utf8_4_f4 q.1.0 q.1.1.0 q.1.1.1.0, rw (fixed q.0) refl),
                  tt,
                ),
              ),
            ),
          ),
        ),
      ),
    ),
  ),
)

-- what keeps to the ranges is such a sequence, and what follows it
taken : (rs : List Range) (xs : List ℕ) → keeps rs xs ≡ true → (q : Sequence rs) × (rest : List ℕ) × (spelled rs q ++ rest ≡ xs)
unfolding spelled keeps
taken [] xs e = (tt, xs, refl)
taken (r ∷ rs) [] e = let z : ◌≡◌ {A = ℕ} 0 1 = cc in absurd (omega arith)
taken (r ∷ rs) (x ∷ xs) e =
    let w = sym (and_first (within r.low r.high x) (keeps rs xs) e) in
    let t = taken rs xs (and_second (within r.low r.high x) (keeps rs xs) e) in
    ((record { is = x; from = within_ge r.low r.high x w; to = within_le r.low r.high x w }, t.0), t.1, ap (λ l. x ∷ l) t.2)

-- a character of the grammar stands in front
record Front (s : List ℕ) : Type 0 where
  char : Char
  rest : List ℕ
  same : octets char ++ rest ≡ s

-- where the reader finds a length, there is one
found : (rs : List Row) → Alternatives rs → (x : ℕ) (xs : List ℕ) (n : ℕ) → len_at rs (row_of rs x) xs ≡ suc n → Front (x ∷ xs)
unfolding len_at row_of keeps
found [] t x xs n e = absurd (omega arith)
found (r ∷ rs) t x xs n e =
    either (within r.first.low r.first.high x)
    (λ w. either (keeps r.later xs)
    (λ k. let q = taken (r.first ∷ r.later) (x ∷ xs) (simp (w, k)) in let c = t.0 q.0 in record { char = c.0; rest = q.1; same = rw c.1 q.2 })
    (λ k. absurd (omega (arith, simp (w, k) at e))))
    (λ w. found rs t.1 x xs n (simp w at e))

-- the longest beginning of a text that is of the grammar, as the reader walks over it
record Parsed (s : List ℕ) : Type 0 where
  chars : List Char
  rest : List ℕ
  same : text chars ++ rest ≡ s
  stop : char_len rest ≡ 0

parsed : (n : ℕ) (s : List ℕ) → length s < n → Parsed s
unfolding char_len text
parsed zero s h = absurd (omega arith)
parsed (suc n) [] h = record { chars = []; rest = []; same = refl; stop = refl }
parsed (suc n) (x ∷ xs) h = go (char_len (x ∷ xs)) refl (λ r. parsed n r)
  where
    go : (k : ℕ) → char_len (x ∷ xs) ≡ k → ((r : List ℕ) → length r < n → Parsed r) → Parsed (x ∷ xs)
    go zero e ih = record { chars = []; rest = x ∷ xs; same = refl; stop = e }
    go (suc k) e ih =
        let f = found table alternatives x xs k e in
        let a : length (octets f.char) ≡ suc k = sym (char_length f.char f.rest) ∙ ap char_len f.same ∙ e in
        let p = ih f.rest (omega (arith, length-append (octets f.char) f.rest, ap length f.same)) in
        record { chars = f.char ∷ p.chars; rest = p.rest; same = rw (append_assoc, p.same) f.same; stop = p.stop }

-- THEOREM. Every text of RFC 3629's grammar passes the UTF-8 test.
pub utf8_accepts : (cs : List Char) → utf8_of (text cs) ≡ Ok tt
unfolding text utf8_of walk
utf8_accepts [] = refl
utf8_accepts (c ∷ cs) = utf8_join (octets c) (text cs) one ∙ ap (move_utf8 (length (octets c))) (utf8_accepts cs)
  where
    one : utf8_of (octets c) ≡ Ok tt
    one =
        let e : length (octets c) ≡ char_len (octets c) = sym (rw append-nil at (char_length c [])) in
        sym (walk_end (walk_go (walk_start (octets c)) (octets_some c) e (λ z. omega (arith, octets_some c))) (omega arith))

-- after a text of the grammar the test goes on with the rest
accepted : (cs : List Char) (rest : List ℕ) → utf8_of (text cs ++ rest) ≡ move_utf8 (length (text cs)) (utf8_of rest)
accepted cs rest = utf8_join (text cs) rest (utf8_accepts cs)

stuck : (cs : List Char) (x : ℕ) (xs : List ℕ) → char_len (x ∷ xs) ≡ 0 → utf8_of (text cs ++ (x ∷ xs)) ≡ Err (place (length (text cs) + 0))
stuck cs x xs z = accepted cs (x ∷ xs) ∙ ap (move_utf8 (length (text cs))) (sym (walk_bad (walk_start (x ∷ xs)) (omega arith) (sym z) refl))

-- s is a text of the grammar
pub record Written (s : List ℕ) : Type 0 where
  pub chars : List Char
  pub same : text chars ≡ s

-- THEOREM. A text that passes the UTF-8 test is a text of the grammar: it can be written as a list of its characters.
pub utf8_only : (s : List ℕ) → utf8_of s ≡ Ok tt → Written s
utf8_only s u = let p = parsed (suc (length s)) s (omega arith) in go p.chars p.rest p.same p.stop
  where
    go : (cs : List Char) (r : List ℕ) → text cs ++ r ≡ s → char_len r ≡ 0 → Written s
    go cs [] e z = record { chars = cs; same = rw append-nil at e }
    go cs (x ∷ xs) e z = let w : ◌≡◌ {A = ℕ} 0 1 = cc (stuck cs x xs z) in absurd (omega arith)

-- THEOREM. The place that the UTF-8 test gives is the length of the longest beginning that is a text of the grammar.
pub utf8_place : (s : List ℕ) (p : Place) → utf8_of s ≡ Err p → Longest s p.0
utf8_place s p u = let q = parsed (suc (length s)) s (omega arith) in go q.chars q.rest q.same q.stop
  where
    after : (n : ℕ) (v : Result (Unit {0}) Place) → move_utf8 n v ≡ Err p → n ≤ p.0
    after n (Ok tt) e = let z : ◌≡◌ {A = ℕ} 0 1 = cc in absurd (omega arith)
    after n (Err q) e = let z : n + q.0 ≡ p.0 = cc in omega arith

    most : (cs : List Char) (r : List ℕ) → text cs ++ r ≡ s → length (text cs) ≤ p.0
    most cs r e = after (length (text cs)) (utf8_of r) (sym (accepted cs r) ∙ ap utf8_of e ∙ u)

    go : (cs : List Char) (r : List ℕ) → text cs ++ r ≡ s → char_len r ≡ 0 → Longest s p.0
    go cs [] e z = let w : ◌≡◌ {A = ℕ} 0 1 = cc (append-nil (text cs), utf8_accepts cs) in absurd (omega arith)
    go cs (x ∷ xs) e z =
        let w : length (text cs) + 0 ≡ p.0 = cc (stuck cs x xs z) in
        record { chars = cs; rest = x ∷ xs; split = sym e; size = omega arith; most = most }

-- the octets after a character's first are no character's first
firsts_skip : (l rest : List ℕ) → count (firsts (length l) (l ++ rest)) ≡ count (firsts 0 rest)
unfolding firsts count
firsts_skip [] rest = refl
firsts_skip (x ∷ xs) rest = firsts_skip xs rest

-- so a character in front is one more
one_more : (l rest : List ℕ) → 0 < length l → char_len (l ++ rest) ≡ length l → characters (l ++ rest) ≡ suc (characters rest)
unfolding characters firsts count
one_more [] rest h e = absurd (omega arith)
one_more (x ∷ xs) rest h e = rw (e, sub-one, firsts_skip xs rest)

-- THEOREM. The reader counts as many characters in a text as the grammar has in it.
pub characters_counted : (cs : List Char) → characters (text cs) ≡ length cs
unfolding text
characters_counted [] = unfold characters firsts count in refl
characters_counted (c ∷ cs) = rw (one_more (octets c) (text cs) (octets_some c) (char_length c (text cs)), characters_counted cs)

-- THEOREM. After a text of the grammar the position is one more than its characters are many, whatever follows.
pub position_counted : (cs : List Char) (rest : List ℕ) → calc_char_pos_at (text cs ++ rest) (length (text cs)) ≡ 1 + length cs
unfolding calc_char_pos_at count
position_counted cs rest =
    let n : length (text cs) ≡ length (text cs) + 0 = omega arith in
    rw n (position_shift (text cs) rest (utf8_accepts cs) 0 ∙ omega (arith, characters_counted cs))
