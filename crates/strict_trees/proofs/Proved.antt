-- The house rules hold of the strict reading.
use Prim.Native.Nat.{ℕ}
use mathlib.Core.Bool.{true}
use mathlib.Core.List.{List}
use mathlib.Core.Path.{◌≡◌, refl, ap, ◌∙◌}
use Rattle.std.specs.Prelude.{Result, Ok, Err}
use Rattle.text_bytes.specs.declared.Place.{Place}
use Rattle.text_bytes.proofs.Ranges.{either}
use Rattle.stream.specs.declared.Refusal.{Refusal}
use Rattle.stream.specs.declared.Reason.TheVariants as R
use Rattle.color.specs.Answer.{from_str}
use Rattle.color.specs.declared.Color.{Color}
use Rattle.shapes.proofs.Fair.{never_ok}
use Rattle.strict.specs.Answer.{furthest, shapes, is_shaped, strict_of, strict_from_str}
use Rattle.strict.proofs.Furthest.{whole_some}
use Rattle.standards.proofs.Palette.{channels}
use Rattle.strict_trees.specs.StrictColors.{Strict}
use Rattle.strict_trees.specs.HouseRules.{HouseRules}
use Rattle.strict_trees.proofs.KeywordTexts.{word_strict}
use Rattle.strict_trees.proofs.Stops.{same_channels, old_refusal, some_strict, accepts, stops, old_number, stops_at}

only : (s : List ℕ) (c : Color) → strict_from_str s ≡ Ok c → Strict s
unfolding strict_from_str strict_of
only s c e =
    let q : from_str s ≡ Ok c = same_channels s c e in
    either (is_shaped s) (λ f. go q f (furthest shapes s 0) refl) (λ f. word_strict s c f q)
  where
    go : from_str s ≡ Ok c → is_shaped s ≡ true → (x : Result (Unit {0}) Place) → furthest shapes s 0 ≡ x → Strict s
    go q f (Ok u) w = some_strict s (whole_some s shapes 0 w)
    go q f (Err p) w = never_ok (rw (q, f, w) at e)

refuses : (s : List ℕ) (c : Color) → from_str s ≡ Ok c → (Strict s → ⊥) → (e : Refusal) × ((strict_from_str s ≡ Err e) × (e.reason ≡ R.NotStrict))
refuses s c q n = go (strict_from_str s) refl
  where
    go : (x : Result Color Refusal) → strict_from_str s ≡ x → (e : Refusal) × ((strict_from_str s ≡ Err e) × (e.reason ≡ R.NotStrict))
    go (Ok d) r = absurd (n (only s d r))
    go (Err e) r = (e, (r, ap (λ (y : Refusal). y.reason) (stops s c e q r).0.is))

-- THEOREM
pub house_rules : HouseRules
house_rules =
    record {
      same_channels = same_channels;
      accepts = λ s v h. (channels v.tree, ap strict_from_str v.is ∙ accepts v.before v.after v.tree v.house (rw v.is at h));
      only = only;
      refuses = refuses;
      stops = stops_at;
      old_refusal = old_refusal;
      old_number = old_number;
    }
