-- What `PaintCloses` leaves out is what is read otherwise: a paint whose link is answered as the document has it is one that it takes.
use Prim.Native.Nat.{ℕ, ◌+◌, ◌≤◌}
use mathlib.Core.List.{List, ◌++◌}
use mathlib.Core.Path.{◌≡◌, refl, ap, ◌∙◌}
use native.Mathlib.Omega.{arith}
use lib.Dec.{leb}
use lib.ListN.{length, drop}
use Rattle.text_bytes.specs.Bytes.{is_space}
use Rattle.text_bytes.specs.Moves.{place, move_part}
use Rattle.text_bytes.specs.Scan.{scan}
use Rattle.text_bytes.specs.Words.{starts_with, same}
use Rattle.text_bytes.specs.declared.Part.{Part}
use Rattle.text_bytes.specs.declared.Place.{Place}
use Rattle.text_bytes.proofs.Ranges.{either}
use Rattle.stream.specs.Faults.{invalid_value}
use Rattle.stream.specs.declared.Fault.{Fault}
use Rattle.color.specs.declared.Color.{Color}
use Rattle.funciri.specs.Link.{link_at, parse_func_iri}
use Rattle.paint.specs.Answers.{told_in, parse_trimmed, from_str}
use Rattle.paint.specs.Moves.{move_paint}
use Rattle.paint.specs.Reading.{based, at_start, on_fault, parse_fallback, parse_linked, parse_paint}
use Rattle.paint.specs.declared.Paint.TheVariants as P
use Rattle.paint.specs.declared.PaintFallback.{PaintFallback}
use Rattle.paint.specs.declared.PaintFault.{PaintFault}
use Rattle.paint.specs.declared.Paint.{Paint}
use Rattle.text_bytes.specs.Flow.{◌>>=◌}
use Rattle.standards.specs.Answers.{read_on}
use Rattle.std.specs.Prelude.{Err, Ok, Result, Option, Some}
use Rattle.stream.specs.declared.Read.{Read}
use Rattle.standards.specs.CssValues3.{Blank, blanks}
use Rattle.standards.specs.Svg2 as S
use Rattle.standards.specs.Svg2.{Url, name, opening, url_text, fallback_text, paint_text}
use Rattle.standards.specs.Domain.{Closes}
use Rattle.standards.proofs.LinksOnly.{link_only}
use Rattle.standards.proofs.LinkTexts.{part_back}
use Rattle.standards.proofs.Paints.{Coloured, paint_clean}
use Rattle.standards.proofs.Tight.{start_is, trim_is, blanks_written, written_append, clean_written, written_admitted}

-- a paint that is read carries the link l
data Carries (l : Part) : Result Paint PaintFault → Type 0 where
  carried : {f : Option PaintFallback} → Carries l (Ok (P.FuncIRI l f))
  refused : {e : PaintFault} → Carries l (Err e)

linked_carries : (t : List ℕ) (l : Part) (p : Place) → parse_func_iri t 0 ≡ read_on l p → Carries l (parse_linked t)
unfolding parse_linked
linked_carries t l p e =
    let i = scan is_space t p.0 in
    simp e (either (leb (length t) i) (λ h. simp h carried) (λ h. simp h (go (on_fault (based (place i)) (parse_fallback (drop i t))))))
  where
    go : (x : Result PaintFallback PaintFault) → Carries l (x >>= (λ f. Ok (P.FuncIRI l (Some f))))
    go (Ok f) = carried
    go (Err e) = refused

unlinked : (t : List ℕ) (g : Fault) → parse_func_iri t 0 ≡ Err g → parse_linked t ≡ Err (at_start (invalid_value g.at.0))
unfolding parse_linked
unlinked t g e = simp e

answered : (n : ℕ) (t : List ℕ) (r : Result Paint PaintFault) (l : Part) → Carries l r → {k : Part} {f : Option PaintFallback}
    → (told_in t r >>= (λ v. Ok (move_paint n v))) ≡ Ok (P.FuncIRI k f) → move_part n l ≡ k
unfolding move_paint
answered n t r l carried e = cc
answered n t r l refused e = let z : ◌≡◌ {A = ℕ} 0 1 = cc in absurd (omega arith)

module _ {Colour : Type 0} {colour : Colour → List ℕ} {channels : Colour → Color} (k : Coloured colour channels) (before after : List Blank) where
  -- THEOREM: a paint whose link's name is answered has it closed as specs/Domain has it, whatever follows
  pub paint_link_only : (u : Url) (f : S.Fallback Colour) (g : Option PaintFallback) → length (blanks before ++ (paint_text colour (S.linked u f) ++ blanks after)) ≤ 4096
      → from_str (blanks before ++ (paint_text colour (S.linked u f) ++ blanks after))
      ≡ Ok (P.FuncIRI (link_at (place (length before + length (opening u))) (length (name u))) g) → Closes u
  unfolding from_str parse_trimmed paint_text parse_paint url_text opening same starts_with
  paint_link_only u f g fits e =
      let x = url_text u ++ fallback_text colour f in
      let s = blanks before ++ (x ++ blanks after) in
      let w = paint_clean k (S.linked u f) in
      let a = written_admitted s (written_append (blanks_written before) (written_append (clean_written w) (blanks_written after))) fits in
      go (parse_func_iri x 0) refl (simp (a, trim_is before x after w, start_is before x after w) at e)
    where
      go : (y : Result (Read Part) Fault) → (let x = url_text u ++ fallback_text colour f in parse_func_iri x 0 ≡ y
          → (told_in x (parse_linked x) >>= (λ v. Ok (move_paint (length before) v)))
          ≡ Ok (P.FuncIRI (link_at (place (length before + length (opening u))) (length (name u))) g) → Closes u)
      go (Ok l) h r =
          let x = url_text u ++ fallback_text colour f in
          let z = answered (length before) x (parse_linked x) l.value (linked_carries x l.value l.next h) r in
          link_only u (fallback_text colour f) (h ∙ ap (λ (y : Part). read_on y l.next) (part_back (length before) l.value z))
      go (Err q) h r = let z : ◌≡◌ {A = ℕ} 0 1 = cc (unlinked _ q h) in absurd (omega arith)
