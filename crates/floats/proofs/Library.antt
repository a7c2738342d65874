-- The words of the contracts are the library's. Assumes nothing.
use Rattle.std.proofs.Common.{◌≡◌, ◌*◌, Bool, ◌&&◌, true, false, refl, sym, true≢false, arith}
use borrow.Author.Tests.{eqb-true}
use lib.Dec.{eqb}
use lib.Ieee.{Float, nan, inf, fin, binary32, binary64, up, down, eq, of_bits, round, is_nan}
use lib.Ieee.Fits.{down_pos}
use lib.Ieee.Scale.{round_same}
use Rattle.std.specs.Float as Std
use Rattle.floats.specs.Floats.{narrowed, sign_of}

pub narrowed_is_rounded : (x : Float) → Std.round_to_format binary32 x ≡ narrowed x
unfolding narrowed Std.round_to_format
narrowed_is_rounded nan = refl
narrowed_is_rounded (inf s) = refl
narrowed_is_rounded (fin s m e) = refl

pub sign_is : (x : Float) → Std.is_sign_negative x ≡ sign_of x
unfolding Std.is_sign_negative
sign_is nan = refl
sign_is (inf s) = refl
sign_is (fin s m e) = refl

-- a NaN has no sign
pub nan_unsigned : (x : Float) → is_nan x ≡ true → sign_of x ≡ false
unfolding is_nan
nan_unsigned nan h = refl
nan_unsigned (inf s) h = absurd (true≢false (sym h))
nan_unsigned (fin s m e) h = absurd (true≢false (sym h))

first : (a b : Bool) → (a && b) ≡ true → a ≡ true
first true b h = refl
first false b h = absurd (true≢false (sym h))

second : (a b : Bool) → (a && b) ≡ true → b ≡ true
second true b h = h
second false b h = absurd (true≢false (sym h))

-- 16777217 is half-way between two values of `f32`, the even one below. `narrow` has it, so that an edit of a tie is refused for its value alone.
pub tie_even : (x : Float) → eq x (of_bits binary64 0x4170_0000_1000_0000) ≡ true → narrowed x ≡ of_bits binary32 0x4b80_0000
unfolding eq of_bits narrowed round
tie_even nan h = absurd (true≢false (sym h))
tie_even (inf s) h = absurd (true≢false (sym h))
tie_even (fin true m e) h =
    let t = eqb (m * up e * 1) (16777217 * down e) in
    let z = eqb (m * up e * 1) 0 in
    let a : m * up e * 1 ≡ 16777217 * down e = eqb-true (m * up e * 1) (16777217 * down e) (first t z h) in
    let b : m * up e * 1 ≡ 0 = eqb-true (m * up e * 1) 0 (second t z h) in
    absurd (omega (arith, down_pos e))
tie_even (fin false m e) h =
    let a : m * up e * 1 ≡ 16777217 * down e = eqb-true (m * up e * 1) (16777217 * down e) (first (eqb (m * up e * 1) (16777217 * down e)) true h) in
    round_same binary32 false (m * up e) (down e) 16777217 1 (down_pos e) (omega arith) (omega arith)
