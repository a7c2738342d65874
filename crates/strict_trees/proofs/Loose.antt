-- The old reading refuses no text for not being strict: its edge and its readers know no such reason.
use Prim.Native.Nat.{ℕ}
use mathlib.Core.Bool.{Bool, true, false, cond}
use mathlib.Core.List.{List}
use mathlib.Core.Path.{◌≡◌}
use lib.Dec.{leb}
use lib.ListN.{length}
use Rattle.std.specs.Prelude.{Result, Ok, Err, MatchResult, ⊤}
use Rattle.text_bytes.specs.declared.Place.{Place}
use Rattle.utf8.specs.Characters.{utf8_of}
use Rattle.stream.specs.Refusals.{bare_refusal, refusal_of, at_edge, admit_utf8, admit_text}
use Rattle.stream.specs.declared.Fault.{Fault}
use Rattle.stream.specs.declared.Reason.{Reason}
use Rattle.stream.specs.declared.Reason.TheVariants as R
use Rattle.stream.specs.declared.Refusal.{Refusal}
use Rattle.stream.proofs.Binds.{bind_holds, at_err}
use Rattle.color.specs.Answer.{from_str}
use Rattle.color.specs.Color.{parse_color_text}

abbrev Loose : Reason → Type 0
Loose R.NotStrict = ⊥
Loose r = ⊤

abbrev Refuses : {A : Type 0} → Result A Refusal → Type 0
Refuses r = MatchResult r (λ _. ⊤) (λ e. Loose e.reason)

admit_loose : (s : List ℕ) → Refuses (admit_text s)
unfolding admit_text admit_utf8
admit_loose s = go (leb (length s) 4096) (utf8_of s)
  where
    go : (t : Bool) (u : Result (Unit {0}) Place) → Refuses (cond t (admit_utf8 u) (Err (bare_refusal R.TextTooLong)))
    go true (Ok tt) = tt
    go true (Err p) = tt
    go false u = tt

edge_loose : {A : Type 0} (s : List ℕ) (r : Result A Fault) → Refuses (at_edge s r)
unfolding refusal_of
edge_loose s (Ok a) = tt
edge_loose s (Err e) = tt

loose : (s : List ℕ) → Refuses (from_str s)
unfolding from_str
loose s =
    bind_holds (λ _. ⊤) (λ _. ⊤) (λ x. Loose x.reason) (admit_text s) _ (admit_loose s) (λ _ _.
    bind_holds (λ _. ⊤) (λ _. ⊤) (λ x. Loose x.reason) (at_edge s (parse_color_text s)) _ (edge_loose s (parse_color_text s)) (λ _ _. tt))

pub old_other : {C : Type 0} (s : List ℕ) (e : Refusal) → from_str s ≡ Err e → e.reason ≡ R.NotStrict → C
old_other s e q h =
    let l : Loose e.reason = at_err (λ _. ⊤) (λ x. Loose x.reason) (from_str s) e (loose s) q in
    absurd (rw h at l)
