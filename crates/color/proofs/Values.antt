-- Of every colour: where reading goes on, and where the stretch of a fault lies.
use Prim.Native.Nat.{ℕ, ◌+◌, ◌-◌, ◌≤◌, ◌<◌}
use mathlib.Core.Bool.{false}
use mathlib.Core.List.{List, []}
use mathlib.Core.Logic.{⊎_elim}
use mathlib.Core.Path.{◌≡◌, refl}
use native.Mathlib.Omega.{arith}
use borrow.Author.Tests.{leb-false}
use lib.Dec.{eqb, leb}
use lib.Ieee.{Float}
use lib.ListN.{length, get_or}
use Rattle.std.specs.Prelude.{Result, Ok, MatchResult, Option, Some, None}
use Rattle.text_bytes.specs.Bytes.{within, is_space, is_hex_digit, is_ascii_ident}
use Rattle.text_bytes.specs.Flow.{◌>>=◌}
use Rattle.text_bytes.specs.Scan.{scan}
use Rattle.text_bytes.specs.Words.{same, part, lower_of, is_curr_byte_eq}
use Rattle.text_bytes.specs.declared.Place.{Place}
use Rattle.text_bytes.proofs.Ahead.{pass_trans, word_stop}
use Rattle.text_bytes.proofs.Ranges.{either, le_or_lt}
use Rattle.text_bytes.proofs.Scans.{scan_ge, scan_le}
use Rattle.text_bytes.proofs.Wording.{curr_inside}
use Rattle.stream.specs.Faults.{consume_byte}
use Rattle.stream.specs.declared.Fault.{Fault}
use Rattle.stream.specs.declared.Read.{Read}
use Rattle.stream.proofs.Binds.{bind_holds, at_ok, weaker}
use Rattle.stream.proofs.Goes.{Goes, goes_trans, goes_scan, goes_item, Past}
use Rattle.stream.proofs.Sames.{curr_pass, took_pass}
use Rattle.stream.proofs.Stretches.{LiesFrom, Took, byte_taken, end_lies, value_lies}
use Rattle.numbers.specs.Moves.{Number}
use Rattle.numbers.specs.Number.{parse_number, parse_list_number, parse_list_number_or_percent, after_item}
use Rattle.numbers.proofs.Values.{Taken, number_taken, list_number_taken, list_percent_taken}
use Rattle.names.specs.Look.{named_of}
use Rattle.names.specs.declared.Named.{Named}
use Rattle.names.specs.declared.Named.TheVariants as N
use Rattle.names.proofs.Naming.{named_low}
use Rattle.color.specs.Hex.{parse_hex}
use Rattle.color.specs.Color.{close_bracket, parse_alpha, rgb_marked, rgb_plain, rgb_rest, parse_rgb, hsl_rest, parse_hsl, is_rgb, is_hsl, named_read, named_color, parse_word, parse_color}
use Rattle.color.specs.declared.Color.{Color}

-- A colour read at i goes on at p: at least one byte is passed, and p is inside
pub record Ended (s : List ℕ) (i : ℕ) (p : Place) : Type 0 where
  pub least : i + 1 ≤ p.0
  pub inside : p.0 ≤ length s

-- a word of no bytes is no function and no name
nothing_named : None ≡ named_of []
unfolding lower_of within
nothing_named = named_low [] {b = 0} {c = 0} refl refl (omega arith)

nothing_rgb : is_rgb [] ≡ false
unfolding is_rgb same
nothing_rgb = refl

nothing_hsl : is_hsl [] ≡ false
unfolding is_hsl same
nothing_hsl = refl

part_none : (s : List ℕ) (i j : ℕ) → j ≤ i → part s i j ≡ []
unfolding part
part_none s i j h = let e : j - i ≡ 0 = omega arith in rw e refl

-- a byte, and a number, are gone over
byte_goes : {s : List ℕ} {i j c : ℕ} {p : Place} → Goes s i j → Took s j c p → eqb 41 c ≡ false → Goes s i p.0
byte_goes g t e = record { passes = pass_trans g.passes (took_pass t e); inside = λ h. omega (arith, t.next, t.inside) }

number_goes : {s : List ℕ} {i j : ℕ} {p : Place} → Goes s i j → Past s j p → Goes s i p.0
number_goes g t = record { passes = pass_trans g.passes t.passes; inside = λ h. t.inside }

module _ (s : List ℕ) (i : ℕ) where
  -- of what a colour that is read at i comes to
  abbrev Colored : Result (Read Color) Fault → Type 0
  Colored x = MatchResult x (λ r. Ended s i r.next) (LiesFrom s i)

  -- a step from j, to which reading has gone from i
  step : {A : Type 0} (P : A → Type 0) {j : ℕ} (r : Result A Fault) (f : A → Result (Read Color) Fault) → Goes s i j
      → MatchResult r P (LiesFrom s j) → ((x : A) → P x → Colored (f x)) → Colored (r >>= f)
  step P {j} r f g v k =
      bind_holds P (λ x. Ended s i x.next) (LiesFrom s i) r f (weaker P P (LiesFrom s j) (LiesFrom s i) r v (λ x p. p) (λ e l h. l (g.inside h))) k

  hex_taken : (at : ℕ) → i + 1 ≤ at → at ≤ length s → Colored (parse_hex s at)
  unfolding parse_hex
  hex_taken at h l =
      let end = scan is_hex_digit s at in
      let v : Ended s i (record { 0 = end }) = record { least = omega (arith, scan_ge is_hex_digit s at); inside = scan_le is_hex_digit s at l } in
      either (eqb (end - at) 6) (λ e. simp e v)
      (λ e. either (eqb (end - at) 8) (λ f. simp (e, f) v)
      (λ f. either (eqb (end - at) 3) (λ g. simp (e, f, g) v)
      (λ g. either (eqb (end - at) 4) (λ k. simp (e, f, g, k) v) (λ k. simp (e, f, g, k) (λ n. value_lies end v.inside)))))

  close_taken : (at : ℕ) (c : Color) → Goes s i at → Colored (close_bracket s at c)
  unfolding close_bracket
  close_taken at c g =
      let j = scan is_space s at in
      let k : Goes s i j = goes_trans g (goes_scan s at is_space refl) in
      step (Took s j 41) (consume_byte s j 41) _ k (byte_taken s j 41) (λ p t. record { least = omega (arith, k.passes.grows, t.next); inside = omega (arith, t.next, t.inside) })

  alpha_taken : (at : ℕ) (c : Color) → Goes s i at → Colored (parse_alpha s at c)
  unfolding parse_alpha
  alpha_taken at c g =
      let j = scan is_space s at in
      let k : Goes s i j = goes_trans g (goes_scan s at is_space refl) in
      either (is_curr_byte_eq s j 41) (λ e. simp e (close_taken j c k))
      (λ e. simp e (step (Taken s j) (parse_list_number s j) _ k (list_number_taken s j) (λ r t. close_taken r.next.0 _ (number_goes k t.past))))

  -- two numbers or percents, and alpha
  percents_taken : (at : ℕ) (c : Number → Number → Color) → Goes s i at
      → Colored (parse_list_number_or_percent s at >>= (λ (g : Read Number). parse_list_number_or_percent s g.next.0 >>= (λ (b : Read Number). parse_alpha s b.next.0 (c g.value b.value))))
  percents_taken at c g =
      step (Taken s at) (parse_list_number_or_percent s at) _ g (list_percent_taken s at) (λ r t.
      let k : Goes s i r.next.0 = number_goes g t.past in
      step (Taken s r.next.0) (parse_list_number_or_percent s r.next.0) _ k (list_percent_taken s r.next.0) (λ q u. alpha_taken q.next.0 _ (number_goes k u.past)))

  marked_taken : (at : ℕ) (n : Float) → Goes s i at → Colored (rgb_marked s at n)
  unfolding rgb_marked
  marked_taken at n g = percents_taken at _ g

  plain_taken : (at : ℕ) (n : Float) → Goes s i at → Colored (rgb_plain s at n)
  unfolding rgb_plain
  plain_taken at n g =
      step (Taken s at) (parse_list_number s at) _ g (list_number_taken s at) (λ r t.
      let k : Goes s i r.next.0 = number_goes g t.past in
      step (Taken s r.next.0) (parse_list_number s r.next.0) _ k (list_number_taken s r.next.0) (λ q u. alpha_taken q.next.0 _ (number_goes k u.past)))

  rgb_rest_taken : (at : ℕ) (n : Float) → Goes s i at → Colored (rgb_rest s at n)
  unfolding rgb_rest
  rgb_rest_taken at n g =
      either (is_curr_byte_eq s at 37)
      (λ e.
      let k : Goes s at (at + 1) = record { passes = curr_pass s at 37 e refl; inside = λ h. omega (arith, curr_inside s at 37 refl e) } in
      simp e (marked_taken (after_item s (at + 1)) n (goes_trans g (goes_trans k (goes_item s (at + 1))))))
      (λ e. simp e (plain_taken (after_item s at) n (goes_trans g (goes_item s at))))

  rgb_taken : (at : ℕ) → Goes s i at → Colored (parse_rgb s at)
  unfolding parse_rgb
  rgb_taken at g =
      step (Took s at 40) (consume_byte s at 40) _ g (byte_taken s at 40) (λ p t.
      let k : Goes s i p.0 = byte_goes g t refl in
      step (Taken s p.0) (parse_number s p.0) _ k (number_taken s p.0) (λ r u. rgb_rest_taken r.next.0 r.value.value (number_goes k u.past)))

  hsl_rest_taken : (at : ℕ) (hue : Float) → Goes s i at → Colored (hsl_rest s at hue)
  unfolding hsl_rest
  hsl_rest_taken at hue g = percents_taken at _ g

  hsl_taken : (at : ℕ) → Goes s i at → Colored (parse_hsl s at)
  unfolding parse_hsl
  hsl_taken at g =
      step (Took s at 40) (consume_byte s at 40) _ g (byte_taken s at 40) (λ p t.
      let k : Goes s i p.0 = byte_goes g t refl in
      step (Taken s p.0) (parse_list_number s p.0) _ k (list_number_taken s p.0) (λ r u. hsl_rest_taken r.next.0 r.value.value (number_goes k u.past)))

  named_taken : (w : List ℕ) (end : ℕ) → i < end → end ≤ length s → Colored (named_color w end)
  unfolding named_color
  named_taken w end h l = go (named_of w)
    where
      go : (x : Option Named) → Colored (named_read x end)
      go (Some (N.Keyword c)) = record { least = omega arith; inside = l }
      go (Some N.Transparent) = record { least = omega arith; inside = l }
      go None = λ n. value_lies end l

  nothing_taken : (end : ℕ) → end ≤ length s → Colored (named_color [] end)
  unfolding named_color
  nothing_taken end l = rw (← nothing_named) (λ n. value_lies end l)

  word_taken : (at : ℕ) → Goes s i at → at ≤ length s → Colored (parse_word s at)
  unfolding parse_word
  word_taken at g l =
      let end = scan is_ascii_ident s at in
      let k : Goes s i end = goes_trans g (goes_scan s at is_ascii_ident word_stop) in
      let n : end ≤ length s = scan_le is_ascii_ident s at l in
      ⊎_elim
      (λ (m : end ≤ at). simp (part_none s at end m, nothing_rgb, nothing_hsl) (nothing_taken end n))
      (λ (m : at < end).
      either (is_rgb (part s at end)) (λ e. simp e (rgb_taken end k))
      (λ e. either (is_hsl (part s at end)) (λ f. simp (e, f) (hsl_taken end k))
      (λ f. simp (e, f) (named_taken (part s at end) end (omega (arith, g.passes.grows)) n))))
      (le_or_lt end at)

  pub color_taken : MatchResult (parse_color s i) (λ r. Ended s i r.next) (LiesFrom s i)
  unfolding parse_color
  color_taken =
      let start = scan is_space s i in
      either (leb (length s) start) (λ e. simp e (λ h. end_lies s))
      (λ e. let l : start < length s = leb-false (length s) start e in
      either (eqb (get_or s start 0) 35) (λ f. simp (e, f) (hex_taken (start + 1) (omega (arith, scan_ge is_space s i)) (omega arith)))
      (λ f. simp (e, f) (word_taken start (goes_scan s i is_space refl) (omega arith))))

-- the same, of a colour that is known
pub color_known : (s : List ℕ) (i : ℕ) (r : Read Color) → parse_color s i ≡ Ok r → Ended s i r.next
color_known s i r e = at_ok (λ x. Ended s i x.next) (LiesFrom s i) (parse_color s i) r (color_taken s i) e
