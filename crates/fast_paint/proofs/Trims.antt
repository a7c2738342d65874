-- Blanks of one byte at the ends of a text, and visible ASCII characters next to them: what lies between is what trimming leaves.
use Prim.Native.Nat.{ℕ, zero, suc, ◌+◌, ◌-◌, ◌≤◌, ◌<◌}
use mathlib.Core.Bool.{true, ◌&&◌}
use mathlib.Core.List.{List, [], ◌∷◌}
use mathlib.Core.Path.{◌≡◌, refl, sym}
use native.Mathlib.Omega.{arith}
use borrow.Author.Tests.{le-leb, leb-true, ltb-true}
use lib.Dec.{leb, ltb}
use lib.ListN.{length, get_or, take, drop, length-drop, take-append-drop}
use lib.Seq.{get_or-drop, get_or-take, length-take-le, take-length}
use Rattle.std.specs.Prelude.{Ok, Some}
use Rattle.text_bytes.specs.Bytes.{within}
use Rattle.text_bytes.specs.declared.Part.{Part}
use Rattle.text_bytes.proofs.Ranges.{and_first, and_second, within_yes, within_ge, within_le}
use Rattle.utf8.specs.Blanks.{blank1, blank_len, blank_at, byte_before, blank_end, blank_before, trim_start, trim_end, trim_of}
use Rattle.utf8.specs.Characters.{utf8_of}
use Rattle.utf8.proofs.Trimming.{Fronting, front_start, front_go, front_stop, Backing, back_start, back_go, back_stop, plain_len, plain_end}
use Rattle.fast_paint.specs.Visible.{has_visible_ends, is_blank, is_visible}
use Rattle.fast_paint.proofs.Admits.{front_utf8, join_utf8, ascii_before}

-- n bytes from a on, blanks alone before and behind them, the first and the last of them visible
pub record Between (s : List ℕ) (a n : ℕ) : Type 0 where
  pub some : 0 < n
  pub inside : a + n ≤ length s
  pub before : (j : ℕ) → j < a → blank1 (get_or s j 0) ≡ true
  pub behind : (j : ℕ) → a + n ≤ j → j < length s → blank1 (get_or s j 0) ≡ true
  pub first : within 33 126 (get_or s a 0) ≡ true
  pub last : within 33 126 (get_or s (a + n - 1) 0) ≡ true

blanks : (xs : List ℕ) → is_blank xs ≡ true → (j : ℕ) → j < length xs → blank1 (get_or xs j 0) ≡ true
unfolding is_blank
blanks [] e j h = absurd (omega arith)
blanks (x ∷ xs) e zero h = and_first (blank1 x) (is_blank xs) e
blanks (x ∷ xs) e (suc j) h = blanks xs (and_second (blank1 x) (is_blank xs) e) j (omega arith)

pub blank_all : (xs : List ℕ) → ((j : ℕ) → j < length xs → blank1 (get_or xs j 0) ≡ true) → is_blank xs ≡ true
unfolding is_blank
blank_all [] f = refl
blank_all (x ∷ xs) f = simp (f 0 (omega arith), blank_all xs (λ j h. f (suc j) (omega arith)))

pub between : (s : List ℕ) (p : Part) → is_visible s (Some p) ≡ true → Between s p.start.0 p.len
unfolding is_visible has_visible_ends
between s p e =
    let a = p.start.0 in
    let n = p.len in
    let d = drop a s in
    let t = take n d in
    let first = within 33 126 (get_or t 0 0) in
    let last = within 33 126 (get_or t (length t - 1) 0) in
    let front = is_blank (take a s) in
    let back = is_blank (drop (a + n) s) in
    let i : a + n ≤ length s = leb-true (a + n) (length s) (and_first (leb (a + n) (length s)) ((ltb 0 (length t) && (first && last)) && (front && back)) e) in
    let f = and_second (leb (a + n) (length s)) ((ltb 0 (length t) && (first && last)) && (front && back)) e in
    let g = and_first (ltb 0 (length t) && (first && last)) (front && back) f in
    let k = and_second (ltb 0 (length t) && (first && last)) (front && back) f in
    let l = and_second (ltb 0 (length t)) (first && last) g in
    let m : length t ≡ n = length-take-le n d (omega (arith, length-drop a s)) in
    let some : 0 < n = omega (arith, ltb-true 0 (length t) (and_first (ltb 0 (length t)) (first && last) g)) in
    let z : a + 0 ≡ a = omega arith in
    let y : a + (n - 1) ≡ a + n - 1 = omega arith in
    record {
      some = some;
      inside = i;
      before = λ j h.
          let w : length (take a s) ≡ a = length-take-le a s (omega arith) in
          let q : blank1 (get_or (take a s) j 0) ≡ true = blanks (take a s) (and_first front back k) j (omega (arith, w)) in
          rw (get_or-take a s j 0 h) at q;
      behind = λ j h u.
          let w : a + n + (j - (a + n)) ≡ j = omega arith in
          let q : blank1 (get_or (drop (a + n) s) (j - (a + n)) 0) ≡ true = blanks (drop (a + n) s) (and_second front back k) (j - (a + n)) (omega (arith, length-drop (a + n) s)) in
          rw w at (rw get_or-drop at q);
      first =
          let q : within 33 126 (get_or t 0 0) ≡ true = and_first first last l in
          rw z at (rw get_or-drop at (rw (get_or-take n d 0 0 some) at q));
      last =
          let q : within 33 126 (get_or t (n - 1) 0) ≡ true = rw m at (and_second first last l) in
          rw y at (rw get_or-drop at (rw (get_or-take n d (n - 1) 0 (omega arith)) at q));
    }

-- the bounds of the part
pub part_inside : (s : List ℕ) (p : Part) → is_visible s (Some p) ≡ true
    → (is_visible s (Some p) ≡ true) × ((p.start.0 + p.len ≤ length s) × (length (take (p.start.0 + p.len - p.start.0) (drop p.start.0 s)) ≡ p.len))
part_inside s p e =
    let v = between s p e in
    let i : p.start.0 + p.len ≤ length s = v.inside in
    let w : p.start.0 + p.len - p.start.0 ≡ p.len = omega arith in
    (e, (i, rw w (length-take-le p.len (drop p.start.0 s) (omega (arith, i, length-drop p.start.0 s)))))

-- a blank is ASCII
blank_ascii : (x : ℕ) → blank1 x ≡ true → x < 128
unfolding blank1
blank_ascii x e = grind (arith, e)

blank_at_is : (s : List ℕ) (i : ℕ) → blank1 (get_or s i 0) ≡ true → 1 ≡ blank_at s i
unfolding blank_at blank_len
blank_at_is s i e = simp e

blank_last : (s : List ℕ) (e : ℕ) → 0 < e → blank1 (get_or s (e - 1) 0) ≡ true → 1 ≡ blank_before s e
unfolding blank_before blank_end byte_before
blank_last s e h f = simp (le-leb 1 e h, f)

-- the loops of trimming go over them
fronts : (s : List ℕ) (a : ℕ) → a ≤ length s → ((j : ℕ) → j < a → blank1 (get_or s j 0) ≡ true) → (k : ℕ) → k ≤ a → Fronting s k
fronts s a l f zero h = front_start s
fronts s a l f (suc k) h =
    let z : k + 1 ≡ suc k = omega arith in
    rw z at (front_go (fronts s a l f k (omega arith)) (blank_at_is s k (f k (omega arith))) (omega arith) (λ e. omega arith))

backs : (d : List ℕ) (m : ℕ) → ((j : ℕ) → m ≤ j → j < length d → blank1 (get_or d j 0) ≡ true) → (k : ℕ) → m + k ≤ length d → Backing d (length d - k)
backs d m f zero h =
    let q : length d - 0 ≡ length d = omega arith in
    rw q (back_start d)
backs d m f (suc k) h =
    let q : length d - suc k ≡ length d - k - 1 = omega arith in
    rw q (back_go (backs d m f k (omega arith)) (blank_last d (length d - k) (omega arith) (f (length d - k - 1) (omega arith) (omega arith))) (λ e. omega arith) (omega arith))

plain : (b : ℕ) → within 33 126 b ≡ true → within 33 127 b ≡ true
plain b e = sym (within_yes 33 127 b (within_ge 33 126 b (sym e)) (omega (arith, within_le 33 126 b (sym e))))

module _ (s : List ℕ) (a n : ℕ) (v : Between s a n) where
  pub trimmed_from : trim_start s ≡ a
  unfolding blank_at
  trimmed_from =
      sym (front_stop (fronts s a (omega (arith, v.inside)) v.before a (omega arith)) (sym (plain_len (get_or s a 0) (get_or s (a + 1) 0) (get_or s (a + 2) 0) (plain (get_or s a 0) v.first)))
      (omega (arith, v.inside, v.some)) refl)

  blanks_after : (j : ℕ) → n ≤ j → j < length (drop a s) → blank1 (get_or (drop a s) j 0) ≡ true
  blanks_after j k m = rw get_or-drop (v.behind (a + j) (omega arith) (omega (arith, length-drop a s)))

  end_is : trim_end (drop a s) ≡ n
  unfolding blank_before byte_before
  end_is =
      let d = drop a s in
      let m = length d - n in
      let k : length d - m ≡ n = omega (arith, length-drop a s, v.inside) in
      let w : Backing d n = rw k at (backs d n blanks_after m (omega (arith, length-drop a s, v.inside))) in
      let i : a + (n - 1) ≡ a + n - 1 = omega (arith, v.some) in
      let b : within 33 127 (byte_before d n 1) ≡ true = simp (le-leb 1 n v.some, get_or-drop, i) (plain (get_or s (a + n - 1) 0) v.last) in
      sym (back_stop w (sym (plain_end (byte_before d n 1) (byte_before d n 2) (byte_before d n 3) b)) refl)

  pub trimmed_is : trim_of s ≡ take n (drop a s)
  unfolding trim_of
  trimmed_is = simp (trimmed_from, end_is)

  -- the whole is UTF-8 if what lies between is
  pub trimmed_utf8 : utf8_of (take n (drop a s)) ≡ Ok tt → utf8_of s ≡ Ok tt
  trimmed_utf8 u =
      let d = drop a s in
      let x = drop n d in
      let w : utf8_of x ≡ Ok tt =
      rw take-length at (front_utf8 (length x) x (λ j k. blank_ascii (get_or x j 0) (rw get_or-drop (blanks_after (n + j) (omega arith) (omega (arith, length-drop n d)))))) in
      let y : utf8_of d ≡ Ok tt = rw take-append-drop at (join_utf8 (take n d) x u w) in
      ascii_before a s (λ j k. blank_ascii (get_or s j 0) (v.before j k)) y
