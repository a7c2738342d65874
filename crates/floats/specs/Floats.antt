-- The words of the contracts: what is asked of a float conversion, over whole numbers.
use Rattle.std.specs.Prelude.{ℕ, ◌+◌, ◌*◌, ◌/◌, min, Bool, false, cond, Float}
use Rattle.std.specs.Float.Ieee as Ieee
use Rattle.std.specs.Float.{nan, inf, fin, binary32, binary64}
use Rattle.std.specs.Float.Ieee.{up, down, round}

-- "rounded to f32 (nearest, ties to even, IEEE 754)". `fin s m e` is m * up e / down e with the sign s, and `round` is
-- IEEE 754's rounding of a quotient to a format. An infinity and a NaN stay what they are.
unfoldable pub narrowed : Float → Float
unfolding round
narrowed nan = nan
narrowed (inf s) = inf s
narrowed (fin s m e) = round binary32 s (m * up e) (down e)

-- "A channel c of a float p is 0 for p at or below 0, 255 for p at or above 255; otherwise c - 1/2 <= p < c + 1/2, compared
-- over whole numbers." So c is p + 1/2 cut to a whole number, held to 255: with p = N / D that is (2 N + D) / (2 D).
-- A NaN is 0.
unfoldable pub channel_of : Float → ℕ
channel_of nan = 0
channel_of (inf s) = cond s 0 255
channel_of (fin s m e) = cond s 0 (min 255 ((2 * (m * up e) + down e) / (2 * down e)))

-- The f64 0.0, by its bits
abbrev pub d0 : Float
d0 = Ieee.of_bits binary64 0x0000_0000_0000_0000

-- The f64 1.0, by its bits
abbrev pub d1 : Float
d1 = Ieee.of_bits binary64 0x3ff0_0000_0000_0000

-- "held to 0..1", as Rust's clamp(0.0, 1.0) does it: below 0 it is 0, above 1 it is 1, and any other stays. Minus zero is
-- not below 0 and a NaN compares with nothing, so both stay.
abbrev pub clamped : Float → Float
clamped x = cond (Ieee.lt x d0) d0 (cond (Ieee.lt d1 x) d1 x)

-- IEEE 754's isSignMinus: "true if and only if x has negative sign", minus zero's too. A NaN is one value here, with no
-- sign: false.
abbrev pub sign_of : Float → Bool
sign_of nan = false
sign_of (inf s) = s
sign_of (fin s m e) = s

-- The f64 360.0, by its bits: a whole turn
abbrev pub d360 : Float
d360 = Ieee.of_bits binary64 0x4076_8000_0000_0000
