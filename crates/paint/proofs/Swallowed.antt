-- What a paint swallows: of a plain colour's refusals every one but 10, 23 and 24.
use Prim.Native.Nat.{ℕ}
use mathlib.Core.Bool.{◌||◌, cond}
use mathlib.Core.List.{List}
use mathlib.Core.Path.{◌≡◌}
use lib.Dec.{eqb}
use Rattle.std.specs.Prelude.{Err}
use Rattle.stream.specs.Faults.{invalid_value}
use Rattle.stream.specs.Refusals.{number_of, is_outside_domain}
use Rattle.stream.specs.declared.Fault.{Fault}
use Rattle.color.specs.Color.{parse_color_text}
use Rattle.paint.specs.Reading.{at_start, plain_fault, parse_plain}

pub plain_refused : (t : List ℕ) (e : Fault) → parse_color_text t ≡ Err e
    → parse_plain t ≡ (let n = number_of e.trouble in Err (at_start (cond (eqb n 10 || (eqb n 23 || eqb n 24)) e (invalid_value e.at.0))))
unfolding parse_plain plain_fault is_outside_domain
plain_refused t e q = simp q
