-- A whole text that begins with `#` and is answered as a colour is a hex colour of CSS Color 4 with white space about it.
use Prim.Native.Nat.{ℕ, ◌+◌, ◌≤◌}
use mathlib.Core.Bool.{true}
use mathlib.Core.List.{List, [], ◌∷◌, ◌++◌, append-nil}
use mathlib.Core.Path.{◌≡◌, refl, sym, ap, ◌∙◌}
use native.Mathlib.Omega.{arith}
use borrow.Author.Tests.{ltb-false}
use lib.Dec.{T, ltb}
use lib.ListN.{length, drop, length-append, length-map}
use Rattle.text_bytes.specs.Bytes.{is_space}
use Rattle.text_bytes.specs.Moves.{place}
use Rattle.text_bytes.specs.Scan.{scan}
use Rattle.text_bytes.specs.declared.Place.{Place}
use Rattle.stream.specs.declared.Fault.{Fault}
use Rattle.stream.specs.declared.Read.{Read}
use Rattle.stream.specs.Moves.{move_read, moved, stays}
use Rattle.stream.proofs.Binds.{at_ok, bind_ok}
use Rattle.std.specs.Prelude.{Result, Ok, Err, MatchResult}
use Rattle.color.specs.Answer.{from_str}
use Rattle.color.specs.Color.{parse_color, parse_color_text}
use Rattle.color.specs.declared.Color.{Color}
use Rattle.standards.specs.CssValues3.{Blank, blanks}
use Rattle.standards.specs.CssColor4.{HexColor, character, digits, hex_text, channels}
use Rattle.standards.specs.Answers.{color_of, read_on}
use Rattle.standards.proofs.Colours.{after_blanks}
use Rattle.standards.proofs.Cursors.{one_value, drop_past, scan_on}
use Rattle.standards.proofs.Hex as Hex
use Rattle.only.specs.Only.{limit, HexWhole}
use Rattle.only.proofs.Cuts.{spaces}
use Rattle.stream.proofs.Edges.{edge_read}
use Rattle.only.proofs.Measures.{same_value, at_end}
use Rattle.only.proofs.Numbers.{one_place}

empty : (x : List ℕ) → length x ≤ 0 → x ≡ []
empty [] h = refl
empty (y ∷ x) h = absurd (omega arith)

module _ (l : List Blank) (hashed : List ℕ) where
  abbrev s : List ℕ
  s = blanks l ++ (35 ∷ hashed)

  -- a hex colour at the front, after which reading goes on at p
  record Front (c : Color) (p : Place) : Type 0 where
    tree : HexColor
    rest : List ℕ
    text : s ≡ blanks l ++ (hex_text tree ++ rest)
    meant : c ≡ color_of (channels tree)
    after : p.0 ≡ length l + length (hex_text tree)

  fronts : MatchResult (parse_color s 0) (λ r. Front r.value r.next) (λ _. T true)
  fronts = rw (after_blanks l (35 ∷ hashed)) (go (parse_color (35 ∷ hashed) 0) refl)
    where
      go : (x : Result (Read Color) Fault) → parse_color (35 ∷ hashed) 0 ≡ x → MatchResult (moved (move_read stays) (length l) x) (λ r. Front r.value r.next) (λ _. T true)
      go (Err e) q = tt
      go (Ok f) q =
          let w = Hex.hex_only hashed f.value f.next q in
          let r = Hex.hex_read w.tree w.rest w.ended in
          let z : read_on f.value f.next ≡ read_on (color_of (channels w.tree)) (place (1 + length (digits w.tree))) = sym q ∙ rw w.text at r in
          let y : f.next.0 ≡ 1 + length (digits w.tree) = ap (λ (x : Place). x.0) (one_place z) in
          record { tree = w.tree; rest = w.rest; text = ap (λ (y : List ℕ). blanks l ++ y) (sym w.text); meant = w.read; after = omega (arith, y, length-map (digits w.tree) character) }

  -- what follows it up to the end is white space
  closed : (c : Color) (p : Place) (f : Front c p) → length s ≤ scan is_space s p.0 → length s ≤ limit → HexWhole s c
  closed c p f e short =
      let m = spaces f.rest in
      let h = hex_text f.tree in
      let there : drop p.0 s ≡ f.rest =
      ap (λ (k : ℕ). drop k s) f.after ∙ ap (λ (y : List ℕ). drop (length l + length h) y) f.text ∙ drop_past l h f.rest in
      let a : scan is_space s p.0 ≡ p.0 + length m.taken = scan_on s p.0 f.rest there is_space (length m.taken) m.counted in
      let b : length s ≡ length l + (length h + length f.rest) = ap length f.text ∙ simp (length-append, length-map) in
      let d : length f.rest ≡ length m.taken + length m.rest = ap length m.text ∙ simp (length-append, length-map) in
      let z : m.rest ≡ [] = empty m.rest (omega (arith, e, a, b, d, f.after)) in
      let y : f.rest ≡ blanks m.taken = m.text ∙ rw (z, append-nil) refl in
      record { before = l; tree = f.tree; after = m.taken; text = f.text ∙ ap (λ (y : List ℕ). blanks l ++ (h ++ y)) y; meant = f.meant; short = short }

-- THEOREM
pub hex_only : (l : List Blank) (rest : List ℕ) (c : Color) → from_str (blanks l ++ (35 ∷ rest)) ≡ Ok c → HexWhole (blanks l ++ (35 ∷ rest)) c
unfolding from_str parse_color_text
hex_only l rest c q =
    let s : List ℕ = blanks l ++ (35 ∷ rest) in
    let w = edge_read s (parse_color_text s) _ q in
    let k = bind_ok (parse_color s 0) _ w.1.1.0 in
    let r = k.0 in
    let f = at_ok (λ r. Front l rest r.value r.next) (λ _. T true) (parse_color s 0) r (fronts l rest) k.1.0 in
    let t = at_end (ltb (scan is_space s r.next.0) (length s)) _ _ k.1.1 in
    let y : read_on r.value (place (length s)) ≡ read_on w.1.0.value w.1.0.next = simp t at k.1.1 in
    let h = closed l rest r.value r.next f (ltb-false (scan is_space s r.next.0) (length s) t) w.0 in
    record { before = h.before; tree = h.tree; after = h.after; text = h.text; meant = sym (one_value y ∙ same_value w.1.1.1) ∙ h.meant; short = h.short }
