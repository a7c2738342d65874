-- A whole text: what is told of the part that trimming leaves is told of it.
use Prim.Native.Nat.{ℕ, ◌+◌, ◌-◌, ◌≤◌, ◌<◌}
use mathlib.Core.Bool.{true, false}
use mathlib.Core.List.{List}
use mathlib.Core.Logic.{⊎_elim}
use mathlib.Core.Path.{◌≡◌, refl, ap}
use native.Mathlib.Omega.{arith}
use borrow.Author.Tests.{leb-true, le-leb}
use lib.Dec.{leb}
use lib.ListN.{length, get_or, take, drop, length-take, length-drop}
use lib.Seq.{take_all}
use Rattle.std.specs.Prelude.{Result, Ok, Err, Option, Some, None}
use Rattle.text_bytes.specs.Bytes.{is_space}
use Rattle.text_bytes.specs.Flow.{◌>>=◌}
use Rattle.text_bytes.specs.Scan.{scan}
use Rattle.text_bytes.specs.Words.{is_curr_byte_eq}
use Rattle.text_bytes.specs.declared.Part.{Part}
use Rattle.text_bytes.specs.declared.Place.{Place}
use Rattle.text_bytes.proofs.Ahead.{scan_bytes}
use Rattle.text_bytes.proofs.Ranges.{either, lt_or_le}
use Rattle.text_bytes.proofs.Wording.{space_ascii}
use Rattle.utf8.specs.Blanks.{trim_of}
use Rattle.utf8.specs.Characters.{utf8_of}
use Rattle.utf8.proofs.Cuts.{trim_utf8}
use Rattle.stream.specs.Refusals.{empty_refusal, admit_utf8, admit_text}
use Rattle.stream.specs.declared.Read.{Read}
use Rattle.stream.specs.declared.Reason.TheVariants as R
use Rattle.stream.specs.declared.Refusal.{Refusal}
use Rattle.stream.specs.declared.Trouble.TheVariants as T
use Rattle.paint.specs.Answers.{parse_trimmed, from_str}
use Rattle.paint.specs.Moves.{move_paint}
use Rattle.paint.specs.Reading.{parse_linked}
use Rattle.paint.specs.declared.Paint.{Paint}
use Rattle.paint.specs.declared.PaintFallback.{PaintFallback}
use Rattle.fast_color.specs.Told.{told_or}
use Rattle.fast_paint.specs.Links.{told_link, told_fallback, link_number, told_linked}
use Rattle.fast_paint.specs.Told.{told_inner, numbered}
use Rattle.fast_paint.specs.Visible.{is_visible}
use Rattle.fast_paint.proofs.Admits.{admitted, front_utf8, ascii_before}
use Rattle.fast_paint.proofs.Colors.{inner, Right, plain_right}
use Rattle.fast_paint.proofs.Links.{linked, linked_first, falls}
use Rattle.fast_paint.proofs.Trims.{between, trimmed_from, trimmed_is, trimmed_utf8}

-- a trimmed text
module _ (by : ℕ) (t : List ℕ) (small : length t ≤ 4096) where
  link_go : (x : Option (Read Part)) → told_link t ≡ x → Right (link_number by t x) (inner by t)
  unfolding numbered told_or inner parse_trimmed parse_linked move_paint
  link_go None e = refl
  link_go (Some r) e = either (leb (length t) i) alone (λ h. fallback h (told_fallback (drop i t)) refl)
    where
      i : ℕ
      i = scan is_space t r.next.0

      front : (j : ℕ) → j < i → get_or t j 0 < 128
      front j h =
          ⊎_elim (λ (l : j < r.next.0). (linked t r e).ascii j l)
          (λ (l : r.next.0 ≤ j). space_ascii (get_or t j 0) (scan_bytes is_space t r.next.0 j l h))
          (lt_or_le j r.next.0)

      alone : leb (length t) i ≡ true → Right (link_number by t (Some r)) (inner by t)
      alone h =
          let v = linked t r e in
          let u : utf8_of t ≡ Ok tt = rw (take_all i t (leb-true (length t) i h)) at (front_utf8 i t front) in
          simp (admitted t small u, linked_first t v.begins, v.read, h)

      fallback : leb (length t) i ≡ false → (f : Option (Result PaintFallback Place)) → told_fallback (drop i t) ≡ f → Right (link_number by t (Some r)) (inner by t)
      fallback h None k = simp (h, k)
      fallback h (Some (Ok f)) k =
          let v = linked t r e in
          let w = falls (drop i t) (Ok f) k in
          simp (admitted t small (ascii_before i t front w.utf8), linked_first t v.begins, v.read, h, k, w.read)
      fallback h (Some (Err p)) k =
          let v = linked t r e in
          let w = falls (drop i t) (Err p) k in
          simp (admitted t small (ascii_before i t front w.utf8), linked_first t v.begins, v.read, h, k, w.read, w.empty)

  inner_right : Right (told_inner by t) (inner by t)
  unfolding told_inner told_linked
  inner_right = either (is_curr_byte_eq t 0 117) (λ h. simp h (link_go (told_link t) refl)) (λ h. simp h (plain_right by t h))

-- two texts that are UTF-8 together
alike : (x : Option (Result ℕ Place)) (k : Unit {0} → Result Paint Refusal) (u v : Result (Unit {0}) Place) → (u ≡ Ok tt → v ≡ Ok tt) → (v ≡ Ok tt → u ≡ Ok tt)
    → Right x (admit_utf8 v >>= k) → Right x (admit_utf8 u >>= k)
unfolding numbered told_or admit_utf8
alike x k (Ok u) v f g h = let e = f refl in rw e at h
alike x k (Err p) (Ok u) f g h = let y : Err p ≡ Ok tt = g refl in let z : ◌≡◌ {A = ℕ} 0 1 = cc in absurd (omega arith)
alike None k (Err p) (Err q) f g h = refl
alike (Some (Ok n)) k (Err p) (Err q) f g h = let z : ◌≡◌ {A = ℕ} 0 1 = cc in absurd (omega arith)
alike (Some (Err n)) k (Err p) (Err q) f g h =
    let y : empty_refusal (R.Unread T.InvalidValue) n.0 ≡ empty_refusal R.IllFormed q.0 = cc in
    let w : R.Unread T.InvalidValue ≡ R.IllFormed = ap (λ (e : Refusal). e.reason) y in
    let z : ◌≡◌ {A = ℕ} 0 1 = cc in
    absurd (omega arith)

pub part_told : (s : List ℕ) (p : Part) → length s ≤ 4096 → is_visible s (Some p) ≡ true
    → (is_visible s (Some p) ≡ true)
    × (told_or (told_inner p.start.0 (take (p.start.0 + p.len - p.start.0) (drop p.start.0 s))) (numbered (from_str s)) ≡ numbered (from_str s))
unfolding from_str inner admit_text
part_told s p small e =
    let a = p.start.0 in
    let n = p.len in
    let v = between s p e in
    let t = take n (drop a s) in
    let w : a + n - a ≡ n = omega arith in
    let z : trim_of s ≡ t = trimmed_is s a n v in
    let m : length t ≤ 4096 = omega (arith, length-take n (drop a s), length-drop a s) in
    let h : Right (told_inner a t) (inner a t) = inner_right a t m in (
      e,
      rw w
          (simp (trimmed_from s a n v, z, le-leb (length s) 4096 small)
          (alike (told_inner a t) _ (utf8_of s) (utf8_of t) (λ u. rw z at (trim_utf8 s u)) (trimmed_utf8 s a n v) (simp (le-leb (length t) 4096 m) at h))),
    )
