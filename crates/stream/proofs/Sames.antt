-- more, as congruences for `search`: a definition of bind, cond and then is gone through in its own order, and each test is known in its arms.
use Prim.Native.Nat.{ℕ, ◌+◌, ◌<◌}
use mathlib.Core.Bool.{Bool, true, false, cond, ◌&&◌}
use mathlib.Core.List.{List, ◌++◌}
use mathlib.Core.Path.{◌≡◌, refl}
use native.Mathlib.Omega.{arith}
use borrow.Author.Tests.{lt-leb, eq-eqb, lt-ltb}
use lib.Dec.{eqb, ltb}
use lib.ListN.{length, get_or, drop, length-append}
use Rattle.text_bytes.specs.Flow.{bind, ◌>>=◌}
use Rattle.text_bytes.specs.Words.{starts_with, is_curr_byte_eq}
use Rattle.text_bytes.specs.Moves.{place}
use Rattle.stream.specs.Faults.{consume_byte, consume_string, parse_list_separator}
use Rattle.std.specs.Prelude.{Result, Ok}
use Rattle.stream.proofs.Binds.{bind_same}
use Rattle.stream.proofs.Stretches.{Took, LiesFrom, byte_taken}
use Rattle.text_bytes.specs.declared.Place.{Place}
use Rattle.stream.specs.declared.Fault.{Fault}
use Rattle.text_bytes.proofs.Ranges.{either}
use Rattle.text_bytes.proofs.Wording.{curr_inside, curr_byte}
use Rattle.text_bytes.proofs.Ahead.{Ahead, Passes, free, ahead_inside, ahead_byte, ahead_scan, ahead_pass, pass_one, pass_here, get_or_more, scan_more, starts_more, end_more, part_more, word_stop, hex_stop, url_stop, digit_stop}

pub same_cond : {A : Type 0} (t t' : Bool) (x x' y y' : A) → t' ≡ t → (t ≡ true → x' ≡ x) → (t ≡ false → y' ≡ y) → cond t' x' y' ≡ cond t x y
same_cond true t' x x' y y' e f g = rw (e, f refl)
same_cond false t' x x' y y' e f g = rw (e, g refl)

pub same_bind : {A B : Type 0} (x x' : A) (k k' : A → B) → x' ≡ x → k' x ≡ k x → bind x' k' ≡ bind x k
unfolding bind
same_bind x x' k k' e f = rw e f

pub byte_more : (a b : List ℕ) (i c : ℕ) → Ahead a i → eqb (get_or (a ++ b) i 0) c ≡ eqb (get_or a i 0) c
byte_more a b i c h = rw (get_or_more a b i h)

pub curr_more : (a b : List ℕ) (i c : ℕ) → Ahead a i → is_curr_byte_eq (a ++ b) i c ≡ is_curr_byte_eq a i c
unfolding is_curr_byte_eq
curr_more a b i c h =
    let l : i < length a = ahead_inside h in
    let m : i < length (a ++ b) = omega (arith, length-append a b) in
    rw (lt-ltb i (length (a ++ b)) m, lt-ltb i (length a) l, get_or_more a b i h)

-- past a byte that is no bracket, the bracket is still ahead
pub curr_pass : (a : List ℕ) (i c : ℕ) → is_curr_byte_eq a i c ≡ true → eqb 41 c ≡ false → Passes a i (i + 1)
unfolding is_curr_byte_eq
curr_pass a i c e s = pass_one a i (λ x. eqb x c) s (second (ltb i (length a)) e)
  where
    second : (t : Bool) → (t && eqb (get_or a i 0) c) ≡ true → eqb (get_or a i 0) c ≡ true
    second true h = h
    second false h = let z : ◌≡◌ {A = ℕ} 0 1 = cc in absurd (omega arith)

pub curr_ahead : {a : List ℕ} {i : ℕ} (c : ℕ) → is_curr_byte_eq a i c ≡ true → Ahead a i → eqb 41 c ≡ false → Ahead a (i + 1)
curr_ahead {a} {i} c e h s = ahead_pass h (curr_pass a i c e s)

pub next_ahead : {a : List ℕ} {i : ℕ} (c : ℕ) → eqb (get_or a i 0) c ≡ true → Ahead a i → eqb 41 c ≡ false → Ahead a (i + 1)
next_ahead c e h s = ahead_byte (λ x. eqb x c) h e s

pub separator_more : (a b : List ℕ) (i : ℕ) → Ahead a i → parse_list_separator (a ++ b) i ≡ parse_list_separator a i
unfolding parse_list_separator
separator_more a b i h = rw (curr_more a b i 44 h)

pub separator_pass : (a : List ℕ) (i : ℕ) → Passes a i (parse_list_separator a i)
unfolding parse_list_separator
separator_pass a i = either (is_curr_byte_eq a i 44) (λ e. simp e (curr_pass a i 44 e refl)) (λ e. simp e (pass_here a i))

pub separator_ahead : {a : List ℕ} (i : ℕ) → Ahead a i → Ahead a (parse_list_separator a i)
separator_ahead {a} i h = ahead_pass h (separator_pass a i)

-- a byte wanted with a bracket ahead: the end is not met
pub consume_more : (a b : List ℕ) (i c : ℕ) → Ahead a i → consume_byte (a ++ b) i c ≡ consume_byte a i c
unfolding consume_byte
consume_more a b i c h =
    let l : i < length a = ahead_inside h in
    let m : i < length (a ++ b) = omega (arith, length-append a b) in
    rw (lt-leb (length (a ++ b)) i m, lt-leb (length a) i l, get_or_more a b i h)

-- a byte that was seen is taken
pub curr_consumed : (s : List ℕ) (i c : ℕ) {r : Bool} → r ≡ is_curr_byte_eq s i c → r ≡ true → consume_byte s i c ≡ Ok (place (i + 1))
unfolding consume_byte
curr_consumed s i c q e = simp (lt-leb (length s) i (curr_inside s i c q e), eq-eqb (get_or s i 0) c (curr_byte s i c q e))

pub took_pass : {s : List ℕ} {i c : ℕ} {p : Place} → Took s i c p → eqb 41 c ≡ false → Passes s i p.0
took_pass {s} {i} {c} t f = rw t.next (pass_one s i (λ x. eqb x c) f t.byte)

-- a word that was taken is taken whatever follows; the part that 8 tells may grow, so no more is said of a refusal
pub string_more : (a b : List ℕ) (i : ℕ) (w : List ℕ) → Ahead a i → free w ≡ true → starts_with w (drop i a) ≡ true → consume_string (a ++ b) i w ≡ consume_string a i w
unfolding consume_string
string_more a b i w h f e =
    let l : i < length a = ahead_inside h in
    let m : i < length (a ++ b) = omega (arith, length-append a b) in
    simp (lt-leb (length (a ++ b)) i m, lt-leb (length a) i l, starts_more w a b i h f, e)

-- and with a bracket ahead the two texts are gone on with alike
pub same_byte : {B : Type 0} (a b : List ℕ) (i c : ℕ) → Ahead a i → eqb 41 c ≡ false → (f g : Place → Result B Fault)
    → ((p : Place) → Ahead a p.0 → g p ≡ f p) → (consume_byte (a ++ b) i c >>= g) ≡ (consume_byte a i c >>= f)
same_byte a b i c h s f g k =
    bind_same (Took a i c) (LiesFrom a i) (consume_byte a i c) (consume_byte (a ++ b) i c) f g (consume_more a b i c h) (byte_taken a i c)
    (λ p t. k p (ahead_pass h (took_pass t s)))

-- the closing bracket itself: nothing is known to be ahead of what follows it
pub same_closed : {B : Type 0} (a b : List ℕ) (i : ℕ) → Ahead a i → (f g : Place → Result B Fault)
    → ((p : Place) → g p ≡ f p) → (consume_byte (a ++ b) i 41 >>= g) ≡ (consume_byte a i 41 >>= f)
same_closed a b i h f g k =
    bind_same (Took a i 41) (LiesFrom a i) (consume_byte a i 41) (consume_byte (a ++ b) i 41) f g (consume_more a b i 41 h) (byte_taken a i 41) (λ p t. k p)

pub ruleset sames = (same_cond, same_bind, same_byte, same_closed, byte_more, curr_more, separator_more, scan_more, end_more, starts_more, part_more, next_ahead, curr_ahead, separator_ahead, ahead_scan, word_stop, hex_stop, url_stop, digit_stop)
