-- The decimal that is written, and the f64 nearest to it.
use Rattle.std.specs.Prelude.{ℕ, ◌*◌, ◌^◌, Bool, cond, List, eqb, get_or, Float}
use Rattle.std.specs.Float.{binary64}
use Rattle.std.specs.Float.Ieee.{round}
use Rattle.numbers.specs.Number.{after_sign, mantissa_at, exponent_at}

-- a sign and an exact fraction
pub record Decimal : Type 0 where
  pub minus : Bool
  pub over : ℕ
  pub under : ℕ

-- m with its point moved by so many places
abbrev pub decimal : Bool → ℕ → Bool → ℕ → Decimal
decimal minus m down by = record { minus = minus; over = cond down m (m * 10 ^ by); under = cond down (10 ^ by) 1 }

-- what is written at `start`: the digits M over ten to the count of fraction digits, times or over ten to the exponent
unfoldable pub written : List ℕ → ℕ → Decimal
written s start =
    let m = mantissa_at s (after_sign s start) in
    let e = exponent_at s m.end.0 in
    record {
      minus = eqb (get_or s start 0) 45;
      over = m.value * cond e.minus 1 (10 ^ e.value);
      under = 10 ^ m.fraction * cond e.minus (10 ^ e.value) 1;
    }

-- IEEE 754, roundTiesToEven: the double nearest to an exact fraction, of two that are as near the even one
unfoldable pub nearest : Decimal → Float
unfolding round
nearest d = round binary64 d.minus d.over d.under
