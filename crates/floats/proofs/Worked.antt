-- Worked examples, each computed by antt from the definitions. Assumes nothing.
use Rattle.std.proofs.Common.{◌≡◌, true, refl}
use lib.Ieee.{binary32, binary64, lt, of_bits, to_bits}
use Rattle.floats.specs.Floats.{narrowed, channel_of, clamped, sign_of}

-- 127.5: a half goes up
half : channel_of (of_bits binary64 0x405f_e000_0000_0000) ≡ 128
unfolding channel_of of_bits
half = refl

-- 0.49999999999999994, whose sum with 0.5 rounds to 1
just_below_half : channel_of (of_bits binary64 0x3fdf_ffff_ffff_ffff) ≡ 0
unfolding channel_of of_bits
just_below_half = refl

-- 254.5, the least float whose channel is 255
top : channel_of (of_bits binary64 0x406f_d000_0000_0000) ≡ 255
unfolding channel_of of_bits
top = refl

-- 359.99999 is nearer to 360 than to the f32 below
turn : to_bits binary32 (narrowed (of_bits binary64 0x4076_7fff_f583_a53c)) ≡ 0x43b4_0000
unfolding narrowed of_bits to_bits
turn = refl

-- 16777217 is half-way between two values of f32, the even one below; 16777219 has the even one above
tie_down : to_bits binary32 (narrowed (of_bits binary64 0x4170_0000_1000_0000)) ≡ 0x4b80_0000
unfolding narrowed of_bits to_bits
tie_down = refl

tie_up : to_bits binary32 (narrowed (of_bits binary64 0x4170_0000_3000_0000)) ≡ 0x4b80_0002
unfolding narrowed of_bits to_bits
tie_up = refl

-- half of the least f32, a tie to 0, with its sign
least : to_bits binary32 (narrowed (of_bits binary64 0xb690_0000_0000_0000)) ≡ 0x8000_0000
unfolding narrowed of_bits to_bits
least = refl

-- minus zero is held to minus zero, and is negative
minus_zero : to_bits binary64 (clamped (of_bits binary64 0x8000_0000_0000_0000)) ≡ 0x8000_0000_0000_0000
unfolding lt of_bits to_bits
minus_zero = refl

minus_zero_negative : sign_of (of_bits binary64 0x8000_0000_0000_0000) ≡ true
unfolding of_bits
minus_zero_negative = refl
