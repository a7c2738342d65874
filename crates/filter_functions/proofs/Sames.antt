-- more: with a closing bracket ahead, what is appended to the text changes nothing that is read before a shadow's first colour has ended, accepted or refused.
use Prim.Native.Nat.{ℕ}
use mathlib.Core.List.{List, ◌++◌}
use mathlib.Core.Path.{◌≡◌, refl}
use Rattle.std.specs.Prelude.{Result, Ok, Err, MatchResult}
use Rattle.text_bytes.specs.Bytes.{is_space}
use Rattle.text_bytes.specs.Scan.{scan}
use Rattle.text_bytes.specs.Words.{ascii}
use Rattle.text_bytes.proofs.Ahead.{Ahead, ahead_pass, ahead_scan, scan_more, starts_more, url_stop}
use Rattle.stream.specs.declared.Fault.{Fault}
use Rattle.stream.specs.declared.Read.{Read}
use Rattle.stream.proofs.Binds.{bind_same}
use Rattle.stream.proofs.Goes.{Goes, past_ahead}
use Rattle.stream.proofs.Sames.{curr_more, same_byte}
use Rattle.stream.proofs.Stretches.{LiesFrom}
use Rattle.numbers.specs.Number.{parse_number}
use Rattle.numbers.specs.declared.Written.{Written}
use Rattle.numbers.proofs.Sames.{number_more, percent_more}
use Rattle.numbers.proofs.Values.{Taken, number_taken}
use Rattle.length.specs.Lengths.{parse_length}
use Rattle.length.specs.declared.Length.{Length}
use Rattle.length.proofs.Sames.{length_more}
use Rattle.length.proofs.Values.{LengthTaken, length_taken}
use Rattle.angle.proofs.Sames.{unit_more}
use Rattle.color.specs.Color.{parse_color}
use Rattle.color.specs.declared.Color.{Color}
use Rattle.color.proofs.Sames.{color_more}
use Rattle.filter_functions.specs.Values.{parse_filter_length, parse_filter_positive_length, parse_filter_angle, parse_blur, parse_hue_rotate, parse_generic_color_func, parse_url}
use Rattle.filter_functions.specs.Shadow.{color_or, try_parse_color, deviation_or, parse_deviation, parse_shadow_lengths, shadow_after, shadow_before}
use Rattle.filter_functions.specs.declared.Plain.{Plain}
use Rattle.filter_functions.proofs.Values.{FilterFault, filter_length_went, lengths_went}

module _ (a b : List ℕ) where
  filter_length_more : (name at : ℕ) → Ahead a at → parse_filter_length (a ++ b) name at ≡ parse_filter_length a name at
  unfolding parse_filter_length
  filter_length_more name at h = rw (length_more a b at h) refl

  positive_length_more : (name at : ℕ) → Ahead a at → parse_filter_positive_length (a ++ b) name at ≡ parse_filter_positive_length a name at
  unfolding parse_filter_positive_length
  positive_length_more name at h = rw (length_more a b at h) refl

  filter_angle_more : (name at : ℕ) → Ahead a at → parse_filter_angle (a ++ b) name at ≡ parse_filter_angle a name at
  unfolding parse_filter_angle
  filter_angle_more name at h =
      let start = scan is_space a at in
      let k : Ahead a start = ahead_scan is_space at h refl in
      rw (scan_more is_space a b at h refl)
      (bind_same (Taken a start) (LiesFrom a start) (parse_number a start) (parse_number (a ++ b) start) _ _ (number_more a b start k) (number_taken a start)
      (λ r t. rw (unit_more a b r.next.0 (past_ahead t.past k)) refl))

  pub blur_more : (name at : ℕ) → Ahead a at → parse_blur (a ++ b) name at ≡ parse_blur a name at
  unfolding parse_blur
  blur_more name at h = rw (curr_more a b at 41 h, positive_length_more name at h) refl

  pub hue_rotate_more : (name at : ℕ) → Ahead a at → parse_hue_rotate (a ++ b) name at ≡ parse_hue_rotate a name at
  unfolding parse_hue_rotate
  hue_rotate_more name at h = rw (curr_more a b at 41 h, filter_angle_more name at h) refl

  pub generic_more : (name at : ℕ) (f : Plain) → Ahead a at → parse_generic_color_func (a ++ b) name at f ≡ parse_generic_color_func a name at f
  unfolding parse_generic_color_func
  generic_more name at f h = rw (curr_more a b at 41 h, percent_more a b at h) refl

  pub url_more : (name at : ℕ) → Ahead a at → parse_url (a ++ b) name at ≡ parse_url a name at
  unfolding parse_url
  url_more name at h = same_byte a b at 35 h refl _ _ (λ p k. simp (scan_more, url_stop))

  pub tried_more : (at : ℕ) → Ahead a at → try_parse_color (a ++ b) at ≡ try_parse_color a at
  unfolding try_parse_color
  tried_more at h = rw (color_more a b at h) (go (parse_color a at))
    where
      go : (x : Result (Read Color) Fault) → color_or (a ++ b) at x ≡ color_or a at x
      go (Ok c) = refl
      go (Err e) = rw (starts_more (ascii "currentColor") a b at h refl) refl

  deviation_more : (at : ℕ) → Ahead a at → parse_deviation (a ++ b) at ≡ parse_deviation a at
  unfolding parse_deviation
  deviation_more at h = rw (length_more a b at h) (go (parse_length a at) (length_taken a at))
    where
      go : (x : Result (Read (Written Length)) Fault) → MatchResult x (LengthTaken a at) (LiesFrom a at) → deviation_or (a ++ b) at x ≡ deviation_or a at x
      go (Ok r) t = rw (scan_more is_space a b r.next.0 (past_ahead t.past h) refl) refl
      go (Err e) t = refl

  lengths_more : (name at : ℕ) → Ahead a at → parse_shadow_lengths (a ++ b) name at ≡ parse_shadow_lengths a name at
  unfolding parse_shadow_lengths
  lengths_more name at h =
      bind_same (λ r. Goes a at r.next.0) (FilterFault a name at) (parse_filter_length a name at) (parse_filter_length (a ++ b) name at) _ _ (filter_length_more name at h) (filter_length_went a name at)
      (λ dx g.
      let j = scan is_space a dx.next.0 in
      let k : Ahead a dx.next.0 = ahead_pass h g.passes in
      let l : Ahead a j = ahead_scan is_space dx.next.0 k refl in
      rw (scan_more is_space a b dx.next.0 k refl)
      (bind_same (λ r. Goes a j r.next.0) (FilterFault a name j) (parse_filter_length a name j) (parse_filter_length (a ++ b) name j) _ _ (filter_length_more name j l) (filter_length_went a name j)
      (λ dy u.
      let m = scan is_space a dy.next.0 in
      let n : Ahead a dy.next.0 = ahead_pass l u.passes in
      rw (scan_more is_space a b dy.next.0 n refl, deviation_more m (ahead_scan is_space dy.next.0 n refl)) refl)))

  pub after_more : (name at : ℕ) (c : _) → Ahead a at → shadow_after (a ++ b) name at c ≡ shadow_after a name at c
  unfolding shadow_after
  after_more name at c h = rw (lengths_more name at h) refl

  -- nothing is read after a colour that is last
  pub before_more : (name at : ℕ) → Ahead a at → shadow_before (a ++ b) name at ≡ shadow_before a name at
  unfolding shadow_before
  before_more name at h =
      bind_same (λ r. Goes a at r.next.0) (FilterFault a name at) (parse_shadow_lengths a name at) (parse_shadow_lengths (a ++ b) name at) _ _ (lengths_more name at h) (lengths_went a name at)
      (λ r g. rw (tried_more r.next.0 (ahead_pass h g.passes)) refl)
