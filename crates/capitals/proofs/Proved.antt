-- Capitals change nothing.
use Prim.Native.Nat.{ℕ}
use mathlib.Core.List.{List}
use mathlib.Core.Path.{◌≡◌, refl, sym, ◌∙◌}
use Rattle.std.specs.Prelude.{Result, Ok, Err}
use Rattle.text_bytes.specs.declared.Place.{Place}
use Rattle.stream.specs.Refusals.{at_edge}
use Rattle.stream.specs.declared.Fault.{Fault}
use Rattle.stream.specs.declared.Refusal.{Refusal}
use Rattle.shapes.proofs.Fair.{never_ok}
use Rattle.color.specs.Answer.{from_str}
use Rattle.color.specs.Color.{parse_color_text}
use Rattle.color.specs.declared.Color.{Color}
use Rattle.strict.specs.Answer.{or_not_strict, strict_of, strict_from_str}
use Rattle.capitals.specs.Capitals.{Alike, Capitals}
use Rattle.capitals.proofs.Admitted.{admitted_alike}
use Rattle.capitals.proofs.Colours.{Kept, kept_equal, kept_err, kept_bind, text_kept}
use Rattle.capitals.proofs.Shaped.{strict_alike}

-- the two edges
edge_kept : {A : Type 0} (s t : List ℕ) (x y : Result A Fault) → Kept x y → Kept (at_edge s x) (at_edge t y)
edge_kept s t (Ok a) y k = rw (k.same a refl) (kept_equal refl)
edge_kept s t (Err e) y k = kept_err

strict_kept : (s t : List ℕ) (r : Result (Unit {0}) Place) → Kept (or_not_strict s r) (or_not_strict t r)
strict_kept s t (Ok u) = kept_equal refl
strict_kept s t (Err p) = kept_err

module _ (s t : List ℕ) (h : Alike s t) where
  loose_kept : Kept (from_str s) (from_str t)
  unfolding from_str
  loose_kept =
      kept_bind _ _ _ _ (kept_equal (admitted_alike s t h)) (λ _.
      kept_bind _ _ _ _ (edge_kept s t (parse_color_text s) (parse_color_text t) (text_kept s t h)) (λ _. kept_equal refl))

  strict-kept : Kept (strict_from_str s) (strict_from_str t)
  unfolding strict_from_str
  strict-kept =
      kept_bind _ _ _ _ loose_kept (λ _.
      kept_bind (or_not_strict s (strict_of s)) (or_not_strict t (strict_of t)) _ _ (rw (strict_alike s t h) (strict_kept s t (strict_of s))) (λ _. kept_equal refl))

-- an answer is a value or a refusal: what refuses the one text cannot accept the other
module _ (read : List ℕ → Result Color Refusal) (kept : (s t : List ℕ) → Alike s t → Kept (read s) (read t)) where
  refused : (s t : List ℕ) (e : Refusal) → Alike s t → read s ≡ Err e → (f : Refusal) × (read t ≡ Err f)
  refused s t e h q = go (read t) refl
    where
      go : (x : Result Color Refusal) → read t ≡ x → (f : Refusal) × (read t ≡ Err f)
      go (Ok c) r = never_ok (sym q ∙ (kept t s (sym h)).same c r)
      go (Err f) r = (f, r)

-- THEOREM
pub capitals : Capitals
capitals =
    record {
      loose = λ s t c h q. (loose_kept s t h).same c q;
      loose_refused = refused from_str loose_kept;
      strict = λ s t c h q. (strict-kept s t h).same c q;
      strict_refused = refused strict_from_str strict-kept;
    }
