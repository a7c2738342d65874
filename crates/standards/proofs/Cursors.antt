-- What stands at a place of a text, and what the readers of bytes say of it.
-- Two shapes: `drop i s ≡ b`, for readers that are unfolded, and `At s i b`, for readers with a shift law (`at_read`). The facts are proved of the first.
use Prim.Native.Nat.{ℕ, suc, ◌+◌, ◌-◌, ◌<◌}
use mathlib.Core.Bool.{Bool, true, false}
use mathlib.Core.List.{List, [], ◌∷◌, ◌++◌, map, append_assoc}
use mathlib.Core.Path.{◌≡◌, refl, sym, ap, ◌∙◌}
use native.Mathlib.Nat.{zero-add, add-zero}
use native.Mathlib.Omega.{arith}
use borrow.Author.Tests.{eq-eqb, ne_eqb, lt-leb, lt-ltb}
use lib.Dec.{eqb, leb}
use lib.ListN.{length, get_or, drop, length-append, length-map, length-drop}
use lib.Seq.{get_or-drop, drop-drop, drop-append_seam, drop-append-add, take_at}
use Rattle.text_bytes.specs.Bytes.{is_space}
use Rattle.text_bytes.specs.Moves.{place}
use Rattle.text_bytes.specs.declared.Place.{Place}
use Rattle.stream.specs.Faults.{consume_byte, consume_string}
use Rattle.text_bytes.specs.Scan.{run, scan}
use Rattle.text_bytes.specs.Words.{starts_with, same, part, is_curr_byte_eq}
use Rattle.text_bytes.proofs.Ranges.{either, and_false}
use Rattle.text_bytes.proofs.Wording.{same_eq}
use Rattle.std.specs.Prelude.{Result, Ok, Err}
use Rattle.stream.specs.declared.Fault.{Fault}
use Rattle.stream.specs.declared.Read.{Read}
use Rattle.standards.specs.CssValues3.{Blank, blank, blanks}
use Rattle.standards.specs.Answers.{read_on}
use Rattle.standards.proofs.Runs.{run_map, blank_is}

-- what was read is one value
abbrev value_or : {A : Type 0} → A → Result (Read A) Fault → A
value_or a (Ok r) = r.value
value_or a (Err e) = a

pub one_value : {A : Type 0} {a b : A} {p q : Place} → read_on a p ≡ read_on b q → a ≡ b
one_value {a} e = ap (λ r. value_or a r) e

-- a word begins where it stands, and none where its first byte is not
pub starts_joined : (w rest : List ℕ) → starts_with w (w ++ rest) ≡ true
unfolding starts_with
starts_joined [] rest = refl
starts_joined (x ∷ xs) rest = rw (eq-eqb x x refl) (starts_joined xs rest)

pub no_word : (w : ℕ) (ws rest : List ℕ) → eqb (get_or rest 0 0) w ≡ false → starts_with (w ∷ ws) rest ≡ false
unfolding starts_with
no_word w ws [] e = refl
no_word w ws (x ∷ xs) e = rw e

pub differs : (a b : List ℕ) → (a ≡ b → ⊥) → same a b ≡ false
differs a b f = either (same a b) (λ e. absurd (f (same_eq a b e))) (λ e. e)

module _ (s : List ℕ) (i : ℕ) where
  module _ (b : List ℕ) (h : drop i s ≡ b) where
    pub byte_on : (k : ℕ) → get_or s (i + k) 0 ≡ get_or b k 0
    byte_on k = sym (get_or-drop i s k 0) ∙ ap (λ (y : List ℕ). get_or y k 0) h

    pub byte_here : get_or s i 0 ≡ get_or b 0 0
    byte_here = rw add-zero at (byte_on 0)

    pub drop_on : (k : ℕ) → drop (i + k) s ≡ drop k b
    drop_on k = sym (drop-drop k i s) ∙ ap (λ (y : List ℕ). drop k y) h

    pub scan_on : (p : ℕ → Bool) (n : ℕ) → run p b ≡ n → scan p s i ≡ i + n
    unfolding scan
    scan_on p n e = simp (h, e)

    pub inside : 0 < length b → i < length s
    inside k = omega (arith, length-drop i s, ap length h)

    pub curr_not : (c : ℕ) → eqb (get_or b 0 0) c ≡ false → is_curr_byte_eq s i c ≡ false
    unfolding is_curr_byte_eq
    curr_not c e = simp (byte_here, e, and_false)

  -- one byte
  module _ (c : ℕ) (rest : List ℕ) (h : drop i s ≡ c ∷ rest) where
    here : i < length s
    here = inside (c ∷ rest) h (omega arith)

    pub curr_is : is_curr_byte_eq s i c ≡ true
    unfolding is_curr_byte_eq
    curr_is = simp (lt-ltb i (length s) here, byte_here (c ∷ rest) h, eq-eqb c c refl)

    pub consumed : consume_byte s i c ≡ Ok (place (i + 1))
    unfolding consume_byte
    consumed = simp (lt-leb (length s) i here, byte_here (c ∷ rest) h, eq-eqb c c refl)

    pub scanned_none : (p : ℕ → Bool) → p c ≡ false → scan p s i ≡ i
    unfolding run
    scanned_none p q = scan_on (c ∷ rest) h p 0 (simp q) ∙ add-zero i

  -- a word that begins with c
  pub consumed_word : (c : ℕ) (cs rest : List ℕ) → drop i s ≡ c ∷ (cs ++ rest) → consume_string s i (c ∷ cs) ≡ Ok (place (i + suc (length cs)))
  unfolding consume_string
  consumed_word c cs rest h = simp (lt-leb (length s) i (here c (cs ++ rest) h), h, starts_joined (c ∷ cs) rest)

  -- a part
  module _ (a b : List ℕ) (h : drop i s ≡ a ++ b) where
    pub past : drop (i + length a) s ≡ b
    past = drop_on (a ++ b) h (length a) ∙ drop-append_seam a b

    pub part_is : (n : ℕ) → length a ≡ n → part s i (i + n) ≡ a
    unfolding part
    part_is n e =
        let z : i + n - i ≡ n = omega arith in
        simp (z, h) (take_at a b n e)

  -- a run of written things
  module _ {A : Type 0} (f : A → ℕ) (l : List A) (rest : List ℕ) (h : drop i s ≡ map f l ++ rest) where
    pub map_past : drop (i + length l) s ≡ rest
    map_past = let z : length (map f l) ≡ length l = length-map l f in rw z at (past (map f l) rest h)

    pub map_scan : (p : ℕ → Bool) → ((x : A) → p (f x) ≡ true) → p (get_or rest 0 0) ≡ false → scan p s i ≡ i + length l
    map_scan p all e = scan_on (map f l ++ rest) h p (length l) (run_map p f all l rest e)

  -- white space
  module _ (l : List Blank) (rest : List ℕ) (h : drop i s ≡ blanks l ++ rest) where
    pub blanks_past : drop (i + length l) s ≡ rest
    blanks_past = map_past blank l rest h

    pub blanks_scan : is_space (get_or rest 0 0) ≡ false → scan is_space s i ≡ i + length l
    blanks_scan e = map_scan blank l rest h is_space blank_is e

-- white space and a word
pub spaced_past : (s : List ℕ) (i : ℕ) (l : List Blank) (w rest : List ℕ) → drop i s ≡ blanks l ++ (w ++ rest) → drop (i + (length l + length w)) s ≡ rest
spaced_past s i l w rest h =
    let z : i + length l + length w ≡ i + (length l + length w) = omega arith in
    rw z at (past s (i + length l) w rest (blanks_past s i l (w ++ rest) h))

pub drop_past : (l : List Blank) (w rest : List ℕ) → drop (length l + length w) (blanks l ++ (w ++ rest)) ≡ rest
drop_past l w rest = rw zero-add at (spaced_past (blanks l ++ (w ++ rest)) 0 l w rest refl)

-- b is all that stands at place i of s
pub record At (s : List ℕ) (i : ℕ) (b : List ℕ) : Type 0 where
  pub before : List ℕ
  pub text : s ≡ before ++ b
  pub here : i ≡ length before

pub at_start : (s : List ℕ) → At s 0 s
at_start s = record { before = []; text = refl; here = refl }

-- further on
pub at_step : {s : List ℕ} {i : ℕ} (x b : List ℕ) → At s i (x ++ b) → At s (i + length x) b
at_step x b h = record { before = h.before ++ x; text = h.text ∙ sym (append_assoc h.before x b); here = rw (length-append h.before x, h.here) }

pub at_blanks : {s : List ℕ} {i : ℕ} (l : List Blank) (b : List ℕ) → At s i (blanks l ++ b) → At s (i + length l) b
at_blanks l b h = rw length-map at (at_step (blanks l) b h)

-- a reader with a shift law reads there as at the front of b
pub at_read : {A : Type 0} (f : List ℕ → ℕ → A) (move : ℕ → A → A) → ((a b : List ℕ) (i : ℕ) → f (a ++ b) (length a + i) ≡ move (length a) (f b i))
    → {s b : List ℕ} {i : ℕ} → At s i b → f s i ≡ move i (f b 0)
at_read f move shift {s} {b} {i} h =
    let z : i ≡ length h.before + 0 = omega (arith, h.here) in
    rw (h.text, z, shift h.before b 0) (rw add-zero)

module _ {s : List ℕ} {i : ℕ} where
  pub at_drop : {b : List ℕ} → At s i b → drop i s ≡ b
  at_drop h = at_read (λ s i. drop i s) (λ n l. l) (λ a b i. drop-append-add a b i) h

  pub at_get : {b : List ℕ} → At s i b → get_or s i 0 ≡ get_or b 0 0
  at_get {b} h = byte_here s i b (at_drop h)

  pub at_scan : (p : ℕ → Bool) {b : List ℕ} → At s i b → scan p s i ≡ i + run p b
  at_scan p {b} h = scan_on s i b (at_drop h) p (run p b) refl

  pub at_spaces : (l : List Blank) (b : List ℕ) → is_space (get_or b 0 0) ≡ false → At s i (blanks l ++ b) → scan is_space s i ≡ i + length l
  at_spaces l b e h = blanks_scan s i l b (at_drop h) e

  -- where no white space stands there is none to skip
  pub at_still : {b : List ℕ} → is_space (get_or b 0 0) ≡ false → At s i b → scan is_space s i ≡ i
  at_still {b} e h = at_spaces [] b e h ∙ add-zero i

  pub at_byte : (c : ℕ) (b : List ℕ) → At s i (c ∷ b) → consume_byte s i c ≡ Ok (place (i + 1))
  at_byte c b h = consumed s i c b (at_drop h)

  pub at_curr : (c : ℕ) (b : List ℕ) → At s i (c ∷ b) → is_curr_byte_eq s i c ≡ true
  at_curr c b h = curr_is s i c b (at_drop h)

  pub at_other : (c : ℕ) {b : List ℕ} → (get_or b 0 0 ≡ c → ⊥) → At s i b → is_curr_byte_eq s i c ≡ false
  at_other c {b} n h = curr_not s i b (at_drop h) c (ne_eqb (get_or b 0 0) c n)

  pub at_more : {b : List ℕ} → 0 < length b → At s i b → leb (length s) i ≡ false
  at_more {b} n h = lt-leb (length s) i (inside s i b (at_drop h) n)

  pub at_inside : {b : List ℕ} → At s i b → i + length b ≡ length s
  at_inside {b} h = rw h.text (omega (arith, length-append h.before b, h.here))
