-- What the code holds of a value: no more than it has room for. Only contracts inside the crate speak of it.
use Rattle.std.specs.Prelude.{ℕ, min, Result, Ok, Err, if◌then◌else◌}
use Rattle.text_bytes.specs.declared.Place.{Place}
use Rattle.numbers.specs.Digits.{cap}
use Rattle.numbers.specs.Number.{Mantissa, Exponent}
use Rattle.numbers.specs.declared.Mantissa as M
use Rattle.numbers.specs.declared.Exponent as X
use Rattle.numbers.specs.declared.Scale.{Scale}

-- 2 ^ 64 - 1
abbrev pub top : ℕ
top = 18446744073709551615

abbrev pub held_mantissa : Mantissa → Result M.Mantissa Place
held_mantissa m =
    if m.ok then Ok (record { value = min cap m.value; fraction = m.fraction; dotted = m.dotted; end = m.end })
    else Err m.end

abbrev pub held_exponent : Exponent → Result X.Exponent Place
held_exponent e =
    if e.ok then Ok (record { minus = e.minus; value = min top e.value; written = e.written; end = e.end })
    else Err e.end

abbrev pub held_scale : Scale → Scale
held_scale sc = record { down = sc.down; by = min top sc.by }
