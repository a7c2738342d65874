-- Of a whole text: where the stretch of its refusal lies.
use Prim.Native.Nat.{ℕ}
use mathlib.Core.List.{List}
use mathlib.Core.Path.{◌≡◌}
use native.Mathlib.Omega.{arith}
use lib.Dec.{ltb}
use lib.ListN.{length}
use Rattle.std.specs.Prelude.{Err, MatchResult, ⊤}
use Rattle.text_bytes.specs.Bytes.{is_space}
use Rattle.text_bytes.specs.Scan.{scan}
use Rattle.text_bytes.proofs.Ranges.{either}
use Rattle.text_bytes.proofs.Scans.{scan_le}
use Rattle.stream.specs.Refusals.{Inside, admit_text, at_edge}
use Rattle.stream.specs.declared.Fault.{Fault}
use Rattle.stream.specs.declared.Refusal.{Refusal}
use Rattle.stream.proofs.Binds.{bind_holds, at_err, weaker}
use Rattle.stream.proofs.Edges.{Admitted, admit_holds, edge_holds}
use Rattle.stream.proofs.Stretches.{Lies, LiesAt, LiesFrom, data_lies}
use Rattle.color.specs.Answer.{from_str}
use Rattle.color.specs.Color.{parse_color, parse_color_text}
use Rattle.color.proofs.Values.{Ended, color_taken}

text_taken : (s : List ℕ) → MatchResult (parse_color_text s) (λ _. ⊤) (LiesAt (length s))
unfolding parse_color_text
text_taken s =
    bind_holds (λ r. Ended s 0 r.next) (λ _. ⊤) (LiesAt (length s)) (parse_color s 0) _
    (weaker (λ r. Ended s 0 r.next) (λ r. Ended s 0 r.next) (LiesFrom s 0) (LiesAt (length s)) (parse_color s 0) (color_taken s 0) (λ r v. v) (λ e v. v (omega arith)))
    (λ r v.
    let i = scan is_space s r.next.0 in
    either (ltb i (length s)) (λ e. simp e (data_lies s i (scan_le is_space s r.next.0 v.inside))) (λ e. simp e tt))

pub text_lies : (s : List ℕ) (e : Fault) → parse_color_text s ≡ Err e → LiesAt (length s) e
text_lies s e q = at_err (λ _. ⊤) (LiesAt (length s)) (parse_color_text s) e (text_taken s) q

-- THEOREM. A refusal's stretch starts and ends in the lent text, and not before it starts
pub stretch_inside : (s : List ℕ) (e : Refusal) → from_str s ≡ Err e → Inside (length s) e
unfolding from_str
stretch_inside s e q =
    at_err (λ _. ⊤) (Inside (length s)) _ e
    (bind_holds (λ _. Admitted s) (λ _. ⊤) (Inside (length s)) (admit_text s) _ (admit_holds s)
    (λ _ _. bind_holds (λ _. ⊤) (λ _. ⊤) (Inside (length s)) (at_edge s (parse_color_text s)) _
    (edge_holds (λ _. ⊤) s (parse_color_text s) (weaker (λ _. ⊤) (λ _. ⊤) (LiesAt (length s)) (Lies (length s)) (parse_color_text s) (text_taken s) (λ r v. v) (λ f v. v.lies)))
    (λ r v. v)))
    q
