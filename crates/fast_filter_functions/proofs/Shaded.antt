-- A shadow that is told at once is the one that the definitions read.
use Prim.Native.Nat.{ℕ, zero, suc, ◌+◌, ◌-◌, ◌≤◌, ◌<◌}
use mathlib.Core.Bool.{Bool, true, false}
use mathlib.Core.List.{List, [], ◌∷◌}
use mathlib.Core.Path.{◌≡◌, refl, sym, ap, ◌∙◌}
use native.Mathlib.Nat.{add-zero}
use native.Mathlib.Omega.{arith}
use borrow.Author.Tests.{lt-leb, ne_eqb}
use lib.ListN.{length, get_or, take, drop}
use lib.Seq.{get_or-drop}
use Rattle.std.specs.Prelude.{Ok, Err, Option, Some, None, if◌then◌else◌}
use Rattle.std.specs.Result.{result_ok}
use Rattle.text_bytes.specs.Bytes.{within, is_space, is_ascii_ident}
use Rattle.text_bytes.specs.Moves.{place}
use Rattle.text_bytes.specs.Scan.{scan}
use Rattle.text_bytes.specs.Words.{ascii, starts_with, same, lower_of, lowered, part, is_curr_byte_eq}
use Rattle.text_bytes.proofs.Ahead.{scan_again}
use Rattle.text_bytes.proofs.Parts.{byte_inside}
use Rattle.text_bytes.proofs.Ranges.{either, within_low, within_ge, within_le}
use Rattle.text_bytes.proofs.Scans.{scan_here}
use Rattle.text_bytes.proofs.Wording.{curr_byte}
use Rattle.stream.specs.Faults.{invalid_value}
use Rattle.stream.specs.Refusals.{number_of, is_outside_domain}
use Rattle.stream.specs.declared.Read.{Read}
use Rattle.names.specs.Look.{named_of}
use Rattle.names.proofs.Naming.{named_low}
use Rattle.length.specs.declared.Length.{Length}
use Rattle.color.specs.Color.{is_rgb, is_hsl, named_color, parse_word, parse_color}
use Rattle.color.specs.declared.Color.{Color}
use Rattle.filter_functions.specs.Filters.{plain_name, filter_name, parse_step}
use Rattle.filter_functions.specs.Shadow.{try_parse_color, parse_deviation, parse_shadow_lengths, shadow_after, shadow_before, parse_drop_shadow_func}
use Rattle.filter_functions.specs.Values.{parse_filter_length}
use Rattle.filter_functions.specs.declared.FilterValue.{FilterValue}
use Rattle.filter_functions.specs.declared.FilterValue.TheVariants as G
use Rattle.filter_functions.specs.declared.Shadow.{Shadow}
use Rattle.fast_numbers.proofs.Told.{told_ok}
use Rattle.fast_filter_functions.specs.Told.{and_then, closed_or, colored, offset_at, radius_at, lengths_at, lengths_first, color_first, shadow_at}
use Rattle.fast_filter_functions.proofs.Names.{curr_still, closed}
use Rattle.fast_filter_functions.proofs.Laws.{Offset, Radius, then_some, some_is, ok_is, offset_is, radius_is}

drop_first : (s : List ℕ) (i : ℕ) → get_or (drop i s) 0 0 ≡ get_or s i 0
drop_first s i = rw (get_or-drop, add-zero) refl

-- a word does not stand where another byte than its first does
starts_other : (w : ℕ) (ws l : List ℕ) → (get_or l 0 0 ≡ w → ⊥) → starts_with (w ∷ ws) l ≡ false
unfolding starts_with
starts_other w ws [] n = refl
starts_other w ws (x ∷ xs) n = simp (ne_eqb x w n)

-- no word that a byte below the letters begins, or that is empty, is a function or a name
take_below : (k : ℕ) (l : List ℕ) → get_or l 0 0 < 65 → get_or (take k l) 0 0 < 65
take_below zero l h = omega arith
take_below (suc k) [] h = h
take_below (suc k) (x ∷ xs) h = h

part_below : (s : List ℕ) (i e : ℕ) → get_or s i 0 < 65 → get_or (part s i e) 0 0 < 65
unfolding part
part_below s i e h = take_below (e - i) (drop i s) (rw drop_first h)

lower_low : (b : ℕ) → b < 65 → lower_of b ≡ b
unfolding lower_of
lower_low b h = rw (← within_low 65 90 b h) refl

module _ (w : List ℕ) (h : get_or w 0 0 < 65) where
  same_other : (x : ℕ) (xs : List ℕ) → 97 ≤ x → same (lowered w) (x ∷ xs) ≡ false
  unfolding same
  same_other x xs k = go w h
    where
      go : (v : List ℕ) → get_or v 0 0 < 65 → same (lowered v) (x ∷ xs) ≡ false
      go [] l = refl
      go (y ∷ ys) l = simp (lower_low y l, ne_eqb y x (λ e. omega arith))

  low_rgb : is_rgb w ≡ false
  unfolding is_rgb
  low_rgb = simp (same_other 114 (ascii "gb") (omega arith), same_other 114 (ascii "gba") (omega arith))

  low_hsl : is_hsl w ≡ false
  unfolding is_hsl
  low_hsl = simp (same_other 104 (ascii "sl") (omega arith), same_other 104 (ascii "sla") (omega arith))

  low_name : named_of w ≡ None
  low_name = sym (named_low w refl (sym (lower_low (get_or w 0 0) h)) (omega arith))

-- no colour stands at such a byte that is neither a space nor `#`
module _ (s : List ℕ) (i : ℕ) (g : 36 ≤ get_or s i 0) (h : get_or s i 0 < 65) where
  low_inside : i < length s
  low_inside = byte_inside s i (get_or s i 0) refl (omega arith)

  low_still : scan is_space s i ≡ i
  low_still =
      let b = get_or s i 0 in
      let t : is_space b ≡ false = simp (ne_eqb b 32 (λ e. omega arith), ne_eqb b 9 (λ e. omega arith), ne_eqb b 10 (λ e. omega arith), ne_eqb b 13 (λ e. omega arith)) in
      scan_here is_space s i t low_inside

  low_color : parse_color s i ≡ Err (invalid_value (scan is_ascii_ident s i))
  unfolding parse_color parse_word named_color
  low_color =
      let w = part s i (scan is_ascii_ident s i) in
      let k : get_or w 0 0 < 65 = part_below s i (scan is_ascii_ident s i) h in
      simp (low_still, lt-leb (length s) i low_inside, ne_eqb (get_or s i 0) 35 (λ e. omega arith), low_rgb w k, low_hsl w k, low_name w k)

  low_missing : try_parse_color s i ≡ Ok None
  unfolding try_parse_color is_outside_domain number_of
  low_missing =
      let n : starts_with (ascii "currentColor") (drop i s) ≡ false =
      starts_other 99 (ascii "urrentColor") (drop i s) (λ q. omega (arith, drop_first s i)) in
      simp (low_color, n)

-- a colour that is read is the one that is tried, from any place in the spaces before it
color_still : (s : List ℕ) (i : ℕ) → parse_color s (scan is_space s i) ≡ parse_color s i
unfolding parse_color
color_still s i = rw (scan_again is_space s i) refl

tried : (s : List ℕ) (i : ℕ) (c : Read Color) → parse_color s i ≡ Ok c → try_parse_color s (scan is_space s i) ≡ Ok (Some (record { value = Some c.value; next = c.next }))
unfolding try_parse_color
tried s i c e = simp (color_still s i, e)

-- lengths that are told are a shadow's, from any place in the spaces before them
lengths_read : (s : List ℕ) (i name : ℕ) (x y z : Read Length) → Offset s i x → Offset s x.next.0 y → Radius s y.next.0 z
    → parse_shadow_lengths s name (scan is_space s i) ≡ Ok (record { value = record { dx = x.value; dy = y.value; deviation = z.value }; next = place (scan is_space s z.next.0) })
unfolding parse_shadow_lengths parse_filter_length parse_deviation
lengths_read s i name x y z a b d =
    let o = d.offset in
    simp (a.is, a.value, a.next, a.unit, b.is, b.value, b.next, b.unit, o.is, o.value, o.next, d.sign, o.unit)

record Lengths (s : List ℕ) (i name : ℕ) (c : Option Color) (r : Read Shadow) : Type 0 where
  is : parse_shadow_lengths s name (scan is_space s i)
      ≡ Ok (record { value = record { dx = r.value.dx; dy = r.value.dy; deviation = r.value.deviation }; next = place (scan is_space s r.next.0) })
  color : r.value.color ≡ c

lengths_told : (s : List ℕ) (i name : ℕ) (c : Option Color) (r : Read Shadow) → lengths_at s i c ≡ Some r → Lengths s i name c r
unfolding lengths_at
lengths_told s i name c r q =
    let x = then_some (offset_at s i) _ r q in
    let y = then_some (offset_at s x.0.next.0) _ r x.1.1 in
    let z = then_some (radius_at s y.0.next.0) _ r y.1.1 in
    rw (← some_is _ _ z.1.1)
    (record {
      is = lengths_read s i name x.0 y.0 z.0 (offset_is s i x.0 x.1.0) (offset_is s x.0.next.0 y.0 y.1.0) (radius_is s y.0.next.0 z.0 z.1.0);
      color = refl;
    })

module _ (s : List ℕ) (name i : ℕ) where
  abbrev j : ℕ
  j = scan is_space s i

  -- lengths first, from a byte that begins no colour
  module _ (low : within 42 64 (get_or s i 0) ≡ true) where
    begun : parse_drop_shadow_func s name j ≡ shadow_before s name j
    unfolding parse_drop_shadow_func
    begun =
        let above = within_ge 42 64 (get_or s i 0) (sym low) in
        let below = within_le 42 64 (get_or s i 0) (sym low) in
        let o : is_curr_byte_eq s i 41 ≡ false = either (is_curr_byte_eq s i 41) (λ e. absurd (omega (arith, curr_byte s i 41 refl e))) (λ e. e) in
        simp (low_still s i (omega arith) (omega arith), o, low_missing s i (omega arith) (omega arith))

    alone : (l : Read Shadow) → lengths_at s i None ≡ Some l → is_curr_byte_eq s l.next.0 41 ≡ true → shadow_before s name j ≡ Ok (record { value = G.DropShadow l.value; next = l.next })
    unfolding shadow_before
    alone l q e =
        let k = lengths_told s i name None l q in
        let b : get_or s l.next.0 0 ≡ 41 = curr_byte s l.next.0 41 refl e in
        let v : record { color = None; dx = l.value.dx; dy = l.value.dy; deviation = l.value.deviation } ≡ l.value =
        ap (λ (c : Option Color). record { color = c; dx = l.value.dx; dy = l.value.dy; deviation = l.value.deviation }) (sym k.color) in
        simp (k.is, curr_still s l.next.0 41 refl e, low_missing s l.next.0 (omega arith) (omega arith))
        (ok_is (ap (λ (u : Shadow). record { value = G.DropShadow u; next = l.next }) v))

    followed : (l : Read Shadow) (c : Read Color) → lengths_at s i None ≡ Some l → parse_color s l.next.0 ≡ Ok c
        → shadow_before s name j ≡ Ok (record { value = G.DropShadow (colored l c).value; next = c.next })
    unfolding shadow_before
    followed l c q e = let k = lengths_told s i name None l q in simp (k.is, tried s l.next.0 c e)

    first_told : (r : Read Shadow) → lengths_first s i ≡ Some r → parse_drop_shadow_func s name j ≡ Ok (record { value = G.DropShadow r.value; next = r.next })
    unfolding lengths_first
    first_told r q =
        let v = then_some (lengths_at s i None) _ r q in
        begun ∙ go v.0 v.1.0 (is_curr_byte_eq s v.0.next.0 41) refl v.1.1
      where
        go : (l : Read Shadow) → lengths_at s i None ≡ Some l → (t : Bool) → is_curr_byte_eq s l.next.0 41 ≡ t
            → (if t then Some l else and_then (result_ok (parse_color s l.next.0)) (λ c. Some (colored l c))) ≡ Some r
            → shadow_before s name j ≡ Ok (record { value = G.DropShadow r.value; next = r.next })
        go l h true e f = rw (← some_is l r f) (alone l h e)
        go l h false e f =
            let c = then_some (result_ok (parse_color s l.next.0)) _ r f in
            rw (← some_is _ _ c.1.1) (followed l c.0 h (told_ok (parse_color s l.next.0) c.0 c.1.0).1)

  -- a colour first
  after : (r : Read Shadow) (c : Read Color) → parse_color s i ≡ Ok c → lengths_at s c.next.0 (Some c.value) ≡ Some r → is_curr_byte_eq s r.next.0 41 ≡ true
      → parse_drop_shadow_func s name j ≡ Ok (record { value = G.DropShadow r.value; next = r.next })
  unfolding parse_drop_shadow_func shadow_after
  after r c e h f =
      let k = lengths_told s c.next.0 name (Some c.value) r h in
      let o : is_curr_byte_eq s j 41 ≡ false =
      either (is_curr_byte_eq s j 41)
      (λ u.
      let b : get_or s j 0 ≡ 41 = curr_byte s j 41 refl u in
      let m = low_color s j (omega arith) (omega arith) in
      let n : parse_color s j ≡ Ok c = color_still s i ∙ e in
      let z : ◌≡◌ {A = ℕ} 0 1 = cc in absurd (omega arith))
      (λ u. u) in
      simp (o, tried s i c e, k.is, curr_still s r.next.0 41 refl f, ← k.color)

  color_told : (r : Read Shadow) → color_first s i ≡ Some r → is_curr_byte_eq s r.next.0 41 ≡ true
      → parse_drop_shadow_func s name j ≡ Ok (record { value = G.DropShadow r.value; next = r.next })
  unfolding color_first
  color_told r q f =
      let v = then_some (result_ok (parse_color s i)) _ r q in
      after r v.0 (told_ok (parse_color s i) v.0 v.1.0).1 v.1.1 f

  held : (v : Read FilterValue) → shadow_at s i ≡ Some v → is_curr_byte_eq s v.next.0 41 ≡ true → parse_drop_shadow_func s name j ≡ Ok v
  unfolding shadow_at
  held v q f = go (within 42 64 (get_or s i 0)) refl q
    where
      go : (t : Bool) → within 42 64 (get_or s i 0) ≡ t
          → and_then (if t then lengths_first s i else color_first s i) (λ r. Some (record { value = G.DropShadow r.value; next = r.next })) ≡ Some v
          → parse_drop_shadow_func s name j ≡ Ok v
      go true e h =
          let r = then_some (lengths_first s i) _ v h in
          first_told e r.0 r.1.0 ∙ ok_is (some_is _ _ r.1.1)
      go false e h =
          let r = then_some (color_first s i) _ v h in
          let k : record { value = G.DropShadow r.0.value; next = r.0.next } ≡ v = some_is _ _ r.1.1 in
          color_told r.0 r.1.0 (rw (← k) at f) ∙ ok_is k

pub shadow_told : (s : List ℕ) (at : ℕ) → starts_with (ascii "drop-shadow(") (drop at s) ≡ true → closed_or s (parse_step s at) (shadow_at s (at + 12)) ≡ parse_step s at
unfolding filter_name plain_name same within
shadow_told s at e = closed (ascii "drop-shadow") s at 12 refl e refl (shadow_at s (at + 12)) (λ v q c. held s at (at + 12) v q c)
