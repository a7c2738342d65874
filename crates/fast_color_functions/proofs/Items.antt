-- Numbers of a list that are told: each is what the plain reader reads.
use Prim.Native.Nat.{ℕ, ◌+◌, ◌<◌, min}
use mathlib.Core.Bool.{Bool, true, false, ◌&&◌, ◌||◌}
use mathlib.Core.List.{List}
use mathlib.Core.Path.{◌≡◌, refl}
use native.Mathlib.Omega.{arith}
use borrow.Author.Tests.{eqb-true, eqb-false, lt-leb, ltb-true, lt-ltb}
use lib.Dec.{eqb, leb, ltb}
use lib.Ieee.{Float, binary64, div}
use lib.ListN.{length, get_or, drop}
use Rattle.std.specs.Prelude.{Ok, Some, None, if◌then◌else◌}
use Rattle.text_bytes.specs.Bytes.{is_digit, is_space}
use Rattle.text_bytes.specs.Moves.{place}
use Rattle.text_bytes.specs.Scan.{scan}
use Rattle.text_bytes.specs.Words.{is_curr_byte_eq}
use Rattle.text_bytes.proofs.Parts.{byte_inside}
use Rattle.text_bytes.proofs.Ranges.{and_false, and_first, and_second, either}
use Rattle.text_bytes.proofs.Scans.{scan_here}
use Rattle.stream.specs.Faults.{parse_list_separator}
use Rattle.stream.specs.declared.Read.{Read}
use Rattle.numbers.specs.Digits.{value, cap}
use Rattle.numbers.specs.Moves.{Number}
use Rattle.numbers.specs.Number.{value_of, parse_number, parse_number_or_percent, after_item, parse_list_number, parse_list_number_or_percent}
use Rattle.numbers.specs.Powers.{hundred}
use Rattle.numbers.proofs.Values.{number_known}
use Rattle.fast_numbers.specs.Told.{told_number}
use Rattle.fast_numbers.proofs.Alone.{digits_alone}
use Rattle.fast_numbers.proofs.Told.{told_read, told_unread}
use Rattle.fast_color_functions.specs.Told.{told_item, whole_at}

module _ (s : List ℕ) (at : ℕ) where
  -- where none is read, none is read as a number of a list
  module _ (h : told_number (parse_number s at) ≡ None) where
    pub item_none : told_item (parse_list_number s at) ≡ None
    unfolding parse_list_number
    item_none = either (leb (length s) at) (λ e. simp e) (λ e. simp (e, (told_unread s at h).is))

    pub share_none : told_item (parse_list_number_or_percent s at) ≡ None
    unfolding parse_list_number_or_percent parse_number_or_percent
    share_none = either (leb (length s) at) (λ e. simp e) (λ e. simp (e, (told_unread s at h).is))

  -- where one is read, it stands before the end
  before_end : (r : Read Number) → parse_number s at ≡ Ok r → leb (length s) at ≡ false
  before_end r e =
      let p = (number_known s at r e).past in
      lt-leb (length s) at (omega (arith, p.least, p.inside))

  module _ (n : Number) (h : told_number (parse_number s at) ≡ Some n) where
    pub item_some : (told_number (parse_number s at) ≡ Some n)
        × (told_item (parse_list_number s at) ≡ Some (record { value = n.value; next = place (after_item s n.end.0) }))
    unfolding parse_list_number
    item_some = let e = told_read s at n h in (h, simp (before_end _ e, e))

    pub share_marked : is_curr_byte_eq s n.end.0 37 ≡ true → (told_number (parse_number s at) ≡ Some n)
        × (told_item (parse_list_number_or_percent s at) ≡ Some (record { value = div binary64 n.value hundred; next = place (after_item s (n.end.0 + 1)) }))
    unfolding parse_list_number_or_percent parse_number_or_percent
    share_marked m = let e = told_read s at n h in (h, simp (before_end _ e, e, m))

    pub share_plain : is_curr_byte_eq s n.end.0 37 ≡ false → (told_number (parse_number s at) ≡ Some n)
        × (told_item (parse_list_number_or_percent s at) ≡ Some (record { value = n.value; next = place (after_item s n.end.0) }))
    unfolding parse_list_number_or_percent parse_number_or_percent
    share_plain m = let e = told_read s at n h in (h, simp (before_end _ e, e, m))

-- a comma is passed, the bracket is not
after_stop : (s : List ℕ) (e : ℕ) → (eqb (get_or s e 0) 44 || eqb (get_or s e 0) 41) ≡ true → after_item s e ≡ (if eqb (get_or s e 0) 44 then e + 1 else e)
unfolding parse_list_separator is_curr_byte_eq
after_stop s e t =
    either (eqb (get_or s e 0) 44)
    (λ a. let b : get_or s e 0 ≡ 44 = eqb-true (get_or s e 0) 44 a in
    let i : e < length s = byte_inside s e (get_or s e 0) refl (omega arith) in
    simp (scan_here is_space s e (rw b refl) i, lt-ltb e (length s) i, b))
    (λ a. let b : get_or s e 0 ≡ 41 = eqb-true (get_or s e 0) 41 (simp a at t) in
    let i : e < length s = byte_inside s e (get_or s e 0) refl (omega arith) in
    simp (scan_here is_space s e (rw b refl) i, lt-ltb e (length s) i, b))

-- what digits before a stop are: the number that is read, with no `%` after it
pub record Whole (s : List ℕ) (at : ℕ) (r : Read Float) : Type 0 where
  pub end : ℕ
  pub is : parse_number s at ≡ Ok (record { value = record { value = r.value; whole = true; end = place end }; next = place end })
  pub unmarked : is_curr_byte_eq s end 37 ≡ false
  pub next : after_item s end ≡ r.next.0

-- and neither is another byte
stop_other : (b c : ℕ) → (eqb b 44 || eqb b 41) ≡ true → eqb 44 c ≡ false → eqb 41 c ≡ false → eqb b c ≡ false
stop_other b c t u v =
    either (eqb b 44) (λ a. let e : b ≡ 44 = eqb-true b 44 a in rw e u)
    (λ a. let e : b ≡ 41 = eqb-true b 41 (simp a at t) in rw e v)

module _ (s : List ℕ) (at : ℕ) where
  abbrev start : ℕ
  start = scan is_space s at

  abbrev end : ℕ
  end = scan is_digit s start

  abbrev n : ℕ
  n = min cap (value 0 (drop start s))

  abbrev stop : ℕ
  stop = get_or s end 0

  abbrev made : Read Float
  made = record { value = value_of false n false 0; next = place (if eqb stop 44 then end + 1 else end) }

  whole_made : (ltb start end && (ltb n cap && (eqb stop 44 || eqb stop 41))) ≡ true → Whole s at made
  unfolding is_curr_byte_eq
  whole_made t =
      let u = and_second (ltb start end) _ t in
      let there : (eqb stop 44 || eqb stop 41) ≡ true = and_second (ltb n cap) _ u in
      let other = λ (c : ℕ) (u : eqb 44 c ≡ false) (v : eqb 41 c ≡ false). stop_other stop c there u v in
      record {
        end = end;
        is = digits_alone s at end stop refl refl (eqb-false stop 46 (other 46 refl refl)) (simp (other 101 refl refl, other 69 refl refl)) (ltb-true start end (and_first (ltb start end) _ t)) (ltb-true n cap (and_first (ltb n cap) _ u));
        unmarked = simp (other 37 refl refl, and_false);
        next = after_stop s end there;
      }

  module _ (r : Read Float) (q : whole_at s at ≡ Some r) where
    pub whole_known : Whole s at r
    unfolding whole_at
    whole_known = go (ltb start end && (ltb n cap && (eqb stop 44 || eqb stop 41))) refl q
      where
        go : (t : Bool) → (ltb start end && (ltb n cap && (eqb stop 44 || eqb stop 41))) ≡ t → (if t then Some made else None) ≡ Some r → Whole s at r
        go true e f = let k : made ≡ r = cc in rw (← k) (whole_made e)
        go false e f = absurd (let z : ◌≡◌ {A = ℕ} 0 1 = cc in omega arith)

    pub item_whole : (whole_at s at ≡ Some r) × (told_item (parse_list_number s at) ≡ Some r)
    unfolding parse_list_number
    item_whole = let w = whole_known in (q, simp (before_end s at _ w.is, w.is, w.next))
