-- "a table of the 23 powers 1 to 10^22, each exactly representable": by the bits of each entry.
use Rattle.std.specs.Prelude.{ℕ, List, [], ◌∷◌, map, get_or, Float}
use Rattle.std.specs.Float.{nan, binary64}
use Rattle.std.specs.Float.Ieee.{of_bits}

unfoldable pub power_bits : List ℕ
power_bits =
    0x3ff0_0000_0000_0000 ∷ 0x4024_0000_0000_0000 ∷ 0x4059_0000_0000_0000 ∷ 0x408f_4000_0000_0000
    ∷ 0x40c3_8800_0000_0000 ∷ 0x40f8_6a00_0000_0000 ∷ 0x412e_8480_0000_0000 ∷ 0x4163_12d0_0000_0000
    ∷ 0x4197_d784_0000_0000 ∷ 0x41cd_cd65_0000_0000 ∷ 0x4202_a05f_2000_0000 ∷ 0x4237_4876_e800_0000
    ∷ 0x426d_1a94_a200_0000 ∷ 0x42a2_309c_e540_0000 ∷ 0x42d6_bcc4_1e90_0000 ∷ 0x430c_6bf5_2634_0000
    ∷ 0x4341_c379_37e0_8000 ∷ 0x4376_3457_85d8_a000 ∷ 0x43ab_c16d_674e_c800 ∷ 0x43e1_58e4_6091_3d00
    ∷ 0x4415_af1d_78b5_8c40 ∷ 0x444b_1ae4_d6e2_ef50 ∷ 0x4480_f0cf_064d_d592 ∷ []

-- entry k of the table
unfoldable pub power_of : ℕ → Float
power_of k = get_or (map (of_bits binary64) power_bits) k nan

-- 100.0, by which a percentage is divided
abbrev pub hundred : Float
hundred = of_bits binary64 0x4059_0000_0000_0000
