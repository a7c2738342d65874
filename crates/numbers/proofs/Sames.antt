-- more: with a closing bracket ahead, what is appended to the text changes no number, accepted or refused.
use Prim.Native.Nat.{ℕ, ◌+◌, ◌-◌, ◌*◌}
use mathlib.Core.Bool.{Bool, false}
use mathlib.Core.List.{List, ◌++◌}
use mathlib.Core.Path.{◌≡◌, refl}
use borrow.Author.Tests.{lt-leb}
use lib.Dec.{leb}
use lib.ListN.{length, get_or, drop}
use Rattle.text_bytes.proofs.Ahead.{Ahead, ahead_inside, Stop, here, there, ahead_stop, drop_more, ahead_pass, ahead_scan, ahead_byte, get_or_more, scan_more, end_more, digit_stop}
use Rattle.text_bytes.proofs.Ranges.{either}
use Rattle.stream.proofs.Sames.{curr_more, separator_more}
use Rattle.stream.proofs.Binds.{bind_same}
use Rattle.stream.proofs.Goes.{past_ahead}
use Rattle.stream.proofs.Stretches.{LiesFrom}
use Rattle.numbers.specs.Digits.{value}
use Rattle.numbers.specs.Number.{after_sign, mantissa_at, mantissa_dot, exponent_at, exponent_from, number_from, parse_number, parse_number_or_percent, after_item, parse_list_number, parse_list_number_or_percent}
use Rattle.numbers.proofs.Values.{Taken, is_e, is_dot, sign_goes, mantissa_goes, number_taken, percent_taken}

value_run : (acc : ℕ) {l : List ℕ} → Stop l → (b : List ℕ) → value acc (l ++ b) ≡ value acc l
unfolding value
value_run acc (here e) b = simp (e, digit_stop)
value_run acc (there {x} {l} q) b = rw (value_run (acc * 10 + (x - 48)) q b)

pub value_more : (acc : ℕ) (a b : List ℕ) (i : ℕ) → Ahead a i → value acc (drop i (a ++ b)) ≡ value acc (drop i a)
value_more acc a b i h = rw (drop_more h b, value_run acc (ahead_stop h) b)

sign_ahead : {a : List ℕ} (i : ℕ) → Ahead a i → Ahead a (after_sign a i)
sign_ahead {a} i h = ahead_pass h (sign_goes a i).passes

mantissa_ahead : {a : List ℕ} (i : ℕ) → Ahead a i → Ahead a (mantissa_at a i).end.0
mantissa_ahead {a} i h = ahead_pass h (mantissa_goes a i).passes

module _ (a b : List ℕ) where
  sign_more : (i : ℕ) → Ahead a i → after_sign (a ++ b) i ≡ after_sign a i
  unfolding after_sign
  sign_more i h = simp get_or_more

  dot_more : (at dot : ℕ) → Ahead a at → Ahead a dot → mantissa_dot (a ++ b) at dot ≡ mantissa_dot a at dot
  unfolding mantissa_dot
  dot_more at dot h k =
      either (is_dot (get_or a dot 0))
      (λ e. let n : Ahead a (dot + 1) = ahead_byte is_dot k e refl in simp (get_or_more, e, scan_more, value_more, digit_stop))
      (λ e. simp (get_or_more, e, value_more))

  mantissa_more : (at : ℕ) → Ahead a at → mantissa_at (a ++ b) at ≡ mantissa_at a at
  unfolding mantissa_at
  mantissa_more at h = simp (scan_more, dot_more, digit_stop, ahead_scan)

  from_more : (from : ℕ) (minus : Bool) → Ahead a from → exponent_from (a ++ b) from minus ≡ exponent_from a from minus
  unfolding exponent_from
  from_more from minus h = simp (scan_more, value_more, digit_stop)

  exponent_more : (at : ℕ) → Ahead a at → exponent_at (a ++ b) at ≡ exponent_at a at
  unfolding exponent_at
  exponent_more at h =
      either (is_e (get_or a at 0))
      (λ e.
      let n : Ahead a (at + 1) = ahead_byte is_e h e refl in
      let k : Ahead a (after_sign a (at + 1)) = sign_ahead (at + 1) n in
      simp (get_or_more, e, from_more, sign_more))
      (λ e. simp (get_or_more, e))

  pub number_more : (i : ℕ) → Ahead a i → parse_number (a ++ b) i ≡ parse_number a i
  unfolding parse_number number_from
  number_more i h = simp (scan_more, end_more, get_or_more, sign_more, mantissa_more, exponent_more, ahead_scan, sign_ahead, mantissa_ahead)

  pub percent_more : (i : ℕ) → Ahead a i → parse_number_or_percent (a ++ b) i ≡ parse_number_or_percent a i
  unfolding parse_number_or_percent
  percent_more i h =
      bind_same (Taken a i) (LiesFrom a i) (parse_number a i) (parse_number (a ++ b) i) _ _ (number_more i h) (number_taken a i)
      (λ r t. let k : Ahead a r.next.0 = past_ahead t.past h in simp curr_more)

  -- after what is read alike, spaces and a comma are passed alike
  pub item_more : (i : ℕ) → Ahead a i → after_item (a ++ b) i ≡ after_item a i
  item_more i h = simp (scan_more, separator_more, ahead_scan)

  pub list_number_more : (i : ℕ) → Ahead a i → parse_list_number (a ++ b) i ≡ parse_list_number a i
  unfolding parse_list_number
  list_number_more i h =
      let l : leb (length a) i ≡ false = lt-leb (length a) i (ahead_inside h) in
      simp (end_more, l)
      (bind_same (Taken a i) (LiesFrom a i) (parse_number a i) (parse_number (a ++ b) i) _ _ (number_more i h) (number_taken a i)
      (λ r t. rw (item_more r.next.0 (past_ahead t.past h)) refl))

  pub list_percent_more : (i : ℕ) → Ahead a i → parse_list_number_or_percent (a ++ b) i ≡ parse_list_number_or_percent a i
  unfolding parse_list_number_or_percent
  list_percent_more i h =
      let l : leb (length a) i ≡ false = lt-leb (length a) i (ahead_inside h) in
      simp (end_more, l)
      (bind_same (Taken a i) (LiesFrom a i) (parse_number_or_percent a i) (parse_number_or_percent (a ++ b) i) _ _ (percent_more i h) (percent_taken a i)
      (λ r t. rw (item_more r.next.0 (past_ahead t.past h)) refl))
