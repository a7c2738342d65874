-- A step of a filter list that is refused, at the edge, and the steps up to what a function's bracket holds.
use Prim.Native.Nat.{ℕ, ◌+◌, ◌<◌}
use mathlib.Core.Bool.{false}
use mathlib.Core.List.{List, ◌∷◌, ◌++◌}
use mathlib.Core.Path.{◌≡◌, refl}
use native.Mathlib.Omega.{arith}
use borrow.Author.Tests.{lt-leb}
use lib.Dec.{leb}
use lib.ListN.{length, get_or, drop, length-append}
use Rattle.text_bytes.specs.Bytes.{is_space, is_ascii_ident}
use Rattle.text_bytes.specs.Moves.{place}
use Rattle.text_bytes.specs.Scan.{run, scan}
use Rattle.text_bytes.specs.Words.{ascii, starts_with}
use Rattle.stream.specs.Faults.{trouble_at}
use Rattle.stream.specs.Refusals.{number_of, refusal_of, admit_place, reason_number}
use Rattle.stream.specs.declared.Fault.{Fault}
use Rattle.stream.specs.declared.Trouble.{Trouble}
use Rattle.stream.specs.Steps.{refused_step}
use Rattle.filter_functions.specs.Filters.{filter_name, argument_of, parse_argument, parse_next, parse_step, next_filter}
use Rattle.std.specs.Prelude.{Ok, Err}
use Rattle.standards.specs.CssValues3.{blanks}
use Rattle.standards.proofs.Cursors.{past, blanks_past, blanks_scan, scan_on, inside, consumed, scanned_none, part_is, drop_on}
use Rattle.only.specs.Only.{Opens, name_at, held_at, position_at, Refuses}

-- A step that is refused, at the edge
pub edge : (s : List ℕ) (i : ℕ) (e : Fault) → admit_place s i ≡ Ok tt → parse_step s i ≡ Err e → next_filter s i ≡ refused_step (refusal_of s e) (place (length s))
unfolding next_filter
edge s i e a h = simp (a, h)

pub refuses : (s : List ℕ) (i : ℕ) (t : Trouble) (at from to : ℕ) → leb (number_of t) 5 ≡ false → admit_place s i ≡ Ok tt → parse_step s i ≡ Err (trouble_at t at from to)
    → Refuses s i (number_of t) (position_at s at)
unfolding refusal_of reason_number
refuses s i t at from to l a h = record { refusal = refusal_of s (trouble_at t at from to); answer = edge s i (trouble_at t at from to) a h; numbered = refl; positioned = simp l }

-- a name that is read as a word: its bytes are of one, and it does not begin with `none`
pub record Reads (w : List ℕ) : Type 0 where
  pub run_is : (x : List ℕ) → run is_ascii_ident (w ++ (40 ∷ x)) ≡ length w
  pub unspaced : (x : List ℕ) → is_space (get_or (w ++ (40 ∷ x)) 0 0) ≡ false
  pub no_none : (x : List ℕ) → starts_with (ascii "none") (w ++ (40 ∷ x)) ≡ false

module _ {s : List ℕ} {i : ℕ} {w held : List ℕ} (o : Opens s i w held) (r : Reads w) where
  abbrev inner : List ℕ
  inner = blanks o.inside ++ held

  at_name : drop (name_at o) s ≡ w ++ (40 ∷ inner)
  at_name = blanks_past s i o.before (w ++ (40 ∷ inner)) o.stands.text

  at_bracket : drop (name_at o + length w) s ≡ 40 ∷ inner
  at_bracket = past s (name_at o) w (40 ∷ inner) at_name

  at_inner : drop (name_at o + length w + 1) s ≡ inner
  at_inner = drop_on s (name_at o + length w) (40 ∷ inner) at_bracket 1

  pub at_held : drop (held_at o) s ≡ held
  at_held = blanks_past s (name_at o + length w + 1) o.inside held at_inner

  some : name_at o < length s
  some = inside s (name_at o) (w ++ (40 ∷ inner)) at_name (omega (arith, length-append w (40 ∷ inner)))

  -- the steps up to what the bracket holds, which begins at `at`
  pub refused_at : (at : ℕ) (e : Fault) → scan is_space s (name_at o + length w + 1) ≡ at → argument_of (filter_name w) s (name_at o) at ≡ Err e → parse_step s i ≡ Err e
  unfolding parse_step parse_next parse_argument
  refused_at at e q h =
      let a : scan is_space s i ≡ name_at o = blanks_scan s i o.before (w ++ (40 ∷ inner)) o.stands.text (r.unspaced inner) in
      let b : scan is_ascii_ident s (name_at o) ≡ name_at o + length w = scan_on s (name_at o) (w ++ (40 ∷ inner)) at_name is_ascii_ident (length w) (r.run_is inner) in
      simp (
        a,
        lt-leb (length s) (name_at o) some,
        at_name,
        r.no_none inner,
        b,
        scanned_none s (name_at o + length w) 40 inner at_bracket is_space refl,
        consumed s (name_at o + length w) 40 inner at_bracket,
        q,
        part_is s (name_at o) w (40 ∷ inner) at_name (length w) refl,
        h,
      )

  pub refused : is_space (get_or held 0 0) ≡ false → (e : Fault) → argument_of (filter_name w) s (name_at o) (held_at o) ≡ Err e → parse_step s i ≡ Err e
  refused sp e h = refused_at (held_at o) e (blanks_scan s (name_at o + length w + 1) o.inside held at_inner sp) h
