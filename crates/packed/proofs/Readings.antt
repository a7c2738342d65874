-- Every paint that is read fits, and so its number can be made.
use Prim.Native.Nat.{ℕ, ◌+◌, ◌≤◌, ◌<◌}
use mathlib.Core.List.{List}
use mathlib.Core.Path.{◌≡◌, refl}
use native.Mathlib.Omega.{arith}
use lib.Dec.{leb}
use lib.ListN.{length, drop, length-drop}
use lib.Seq.{length-take-le}
use Rattle.std.specs.Prelude.{Result, Ok, Err, Option, Some, None, MatchResult, ⊤}
use Rattle.text_bytes.specs.Bytes.{is_space}
use Rattle.text_bytes.specs.Flow.{◌>>=◌}
use Rattle.text_bytes.specs.Moves.{place, move_part}
use Rattle.text_bytes.specs.Scan.{scan}
use Rattle.text_bytes.specs.Words.{ascii, same, starts_with}
use Rattle.text_bytes.specs.declared.Part.{Part}
use Rattle.text_bytes.proofs.Ranges.{either}
use Rattle.utf8.specs.Blanks.{trim_start, trim_end, trim_of}
use Rattle.utf8.proofs.Trimming.{trim_start_le, trim_end_le}
use Rattle.stream.specs.Faults.{invalid_value}
use Rattle.stream.specs.Refusals.{admit_text}
use Rattle.stream.specs.declared.Fault.{Fault}
use Rattle.stream.specs.declared.Read.{Read}
use Rattle.stream.specs.declared.Refusal.{Refusal}
use Rattle.stream.proofs.Binds.{bind_holds}
use Rattle.stream.proofs.Edges.{admitted_small}
use Rattle.stream.proofs.Stretches.{LiesFrom}
use Rattle.color.specs.Color.{parse_color_text}
use Rattle.color.specs.declared.Color.{Color}
use Rattle.funciri.specs.Link.{parse_func_iri}
use Rattle.funciri.proofs.Ends.{UrlTaken, func_iri_taken}
use Rattle.paint.specs.Answers.{told_in, parse_trimmed, from_str}
use Rattle.paint.specs.Moves.{link_start, move_paint}
use Rattle.paint.specs.Reading.{at_start, based, on_fault, plain_fault, parse_fallback, parse_linked, parse_plain, parse_paint}
use Rattle.paint.specs.declared.Paint.{Paint}
use Rattle.paint.specs.declared.Paint.TheVariants as P
use Rattle.paint.specs.declared.PaintFallback.{PaintFallback}
use Rattle.paint.specs.declared.PaintFault.{PaintFault}
use Rattle.packed.specs.Fits.{Bytes, FallbackFits, LinkFits, Fits}
use Rattle.packed.specs.Links.{link_len}
use Rattle.packed.specs.Numbers.{places}
use Rattle.packed.proofs.Channels.{text_bytes}

-- what is known of a value is so whatever is made of a fault
faulted : {A : Type 0} (P : A → Type 0) (Q : Fault → Type 0) (f : Fault → PaintFault) (r : Result A Fault) → MatchResult r P Q → MatchResult (on_fault f r) P (λ _. ⊤)
faulted P Q f (Ok a) h = h
faulted P Q f (Err e) h = tt

-- a trimmed text, with so many bytes trimmed before it
module _ (by : ℕ) where
  abbrev Reads : Result Paint PaintFault → Type 0
  Reads x = MatchResult x (λ v. Fits (move_paint by v)) (λ _. ⊤)

  abbrev Low : Read Color → Type 0
  Low r = Bytes r.value

  fallback_reads : (f : List ℕ) → MatchResult (parse_fallback f) (λ b. FallbackFits (Some b)) (λ _. ⊤)
  unfolding parse_fallback
  fallback_reads f =
      either (same f (ascii "none")) (λ q. simp q tt)
      (λ q. simp q (either (same f (ascii "currentColor")) (λ w. simp w tt)
      (λ w. simp w (bind_holds Low (λ b. FallbackFits (Some b)) (λ _. ⊤) (parse_color_text f) _ (text_bytes f) (λ c h. h)))))

  plain_reads : (t : List ℕ) → Reads (parse_plain t)
  unfolding parse_plain move_paint
  plain_reads t =
      bind_holds Low (λ v. Fits (move_paint by v)) (λ _. ⊤) (on_fault (λ e. at_start (plain_fault e)) (parse_color_text t)) _
      (faulted Low (λ _. ⊤) _ (parse_color_text t) (text_bytes t)) (λ c h. h)

  module _ (t : List ℕ) (near : by + length t ≤ 4096) where
    link_fits : (l : Part) (f : Option PaintFallback) → l.start.0 + l.len ≤ length t → FallbackFits f → LinkFits (move_part by l) f
    link_fits l f h k = record { start = omega arith; len = omega arith; fallback = k }

    linked_reads : Reads (parse_linked t)
    unfolding parse_linked move_paint
    linked_reads =
        bind_holds (UrlTaken t) (λ v. Fits (move_paint by v)) (λ _. ⊤) (on_fault (λ e. at_start (invalid_value e.at.0)) (parse_func_iri t 0)) _
        (faulted (UrlTaken t) (LiesFrom t 0) _ (parse_func_iri t 0) (func_iri_taken t 0))
        (λ l v.
        let i = scan is_space t l.next.0 in
        either (leb (length t) i) (λ q. simp q (link_fits l.value None v.link.part.inside tt))
        (λ q. simp q
        (bind_holds (λ b. FallbackFits (Some b)) (λ v. Fits (move_paint by v)) (λ _. ⊤) (on_fault (based (place i)) (parse_fallback (drop i t))) _
        (faulted (λ b. FallbackFits (Some b)) (λ _. ⊤) (based (place i)) (parse_fallback (drop i t)) (fallback_reads (drop i t)))
        (λ b h. link_fits l.value (Some b) v.link.part.inside h))))

    paint_reads : Reads (parse_paint t)
    unfolding parse_paint move_paint
    paint_reads =
        either (same t (ascii "none")) (λ q. simp q tt) (λ q. simp q
        (either (same t (ascii "inherit")) (λ q. simp q tt) (λ q. simp q
        (either (same t (ascii "currentColor")) (λ q. simp q tt) (λ q. simp q
        (either (same t (ascii "context-fill")) (λ q. simp q tt) (λ q. simp q
        (either (same t (ascii "context-stroke")) (λ q. simp q tt) (λ q. simp q
        (either (starts_with (ascii "url(") t) (λ q. simp q linked_reads) (λ q. simp q (plain_reads t))))))))))))

trim_inside : (s : List ℕ) → trim_start s + length (trim_of s) ≤ length s
unfolding trim_of
trim_inside s =
    let d = drop (trim_start s) s in
    omega (arith, length-take-le (trim_end d) d (trim_end_le d (trim_end d) refl), trim_end_le d (trim_end d) refl, length-drop (trim_start s) s, trim_start_le s (trim_start s) refl)

pub answer_fits : (s : List ℕ) (v : Paint) → from_str s ≡ Ok v → Fits v
unfolding from_str parse_trimmed
answer_fits s v = go (admit_text s) (parse_paint (trim_of s)) refl (λ h. paint_reads (trim_start s) (trim_of s) (omega (arith, trim_inside s)))
  where
    go : (x : Result (Unit {0}) Refusal) (y : Result Paint PaintFault) → admit_text s ≡ x → (length s ≤ 4096 → Reads (trim_start s) y)
        → (x >>= (λ _. told_in (trim_of s) y >>= (λ w. Ok (move_paint (trim_start s) w)))) ≡ Ok v → Fits v
    go (Ok u) (Ok w) a h e =
        let z : move_paint (trim_start s) w ≡ v = cc in
        rw z at (h (admitted_small s a))
    go (Ok u) (Err f) a h e = cc
    go (Err f) y a h e = cc

-- what `paint_number` asks of a paint
fits_start : (v : Paint) → Fits v → link_start v < places
unfolding link_start
fits_start (P.FuncIRI l f) h = h.start
fits_start P.None h = omega arith
fits_start P.Inherit h = omega arith
fits_start P.CurrentColor h = omega arith
fits_start P.ContextFill h = omega arith
fits_start P.ContextStroke h = omega arith
fits_start (P.Color c) h = omega arith

fits_len : (v : Paint) → Fits v → link_len v < places
unfolding link_len
fits_len (P.FuncIRI l f) h = h.len
fits_len P.None h = omega arith
fits_len P.Inherit h = omega arith
fits_len P.CurrentColor h = omega arith
fits_len P.ContextFill h = omega arith
fits_len P.ContextStroke h = omega arith
fits_len (P.Color c) h = omega arith

-- the same for `grind`
module _ (s : List ℕ) (v : Paint) (e : from_str s ≡ Ok v) where
  pub read_start : (from_str s ≡ Ok v) × (link_start v < places)
  read_start = (e, fits_start v (answer_fits s v e))

  pub read_len : (from_str s ≡ Ok v) × (link_len v < places)
  read_len = (e, fits_len v (answer_fits s v e))
