-- The law of the writing of a shadow.
use Prim.Native.Nat.{ℕ}
use mathlib.Core.List.{List, [], ◌∷◌}
use mathlib.Core.Path.{◌≡◌, refl}
use lib.ListN.{set}
use lib.Seq.{paste}
use Rattle.std.specs.Prelude.{Some, None}
use Rattle.color.specs.declared.Color.{Color}
use Rattle.filter_functions.specs.Paper.{result}
use Rattle.filter_functions.specs.declared.FilterValue.TheVariants as G
use Rattle.filter_functions.specs.declared.Shadow.{Shadow}
use Rattle.records.specs.Records.{row, found_row, bits_of, length_unit, color_entries, shadow_color_entries, filter_row}

module _ (place : ℕ) (d : Shadow) where
  abbrev pub lengths_row : List ℕ
  lengths_row =
      found_row place
      (2 ∷ bits_of d.dx.number ∷ length_unit d.dx.unit ∷ bits_of d.dy.number ∷ length_unit d.dy.unit ∷ bits_of d.deviation.number ∷ length_unit d.deviation.unit ∷ [])

  pub shadow_none : d.color ≡ None → lengths_row ≡ filter_row place (G.DropShadow d)
  unfolding row filter_row result shadow_color_entries
  shadow_none h = rw h refl

  pub shadow_some : (c : Color) → d.color ≡ Some c → (d.color ≡ Some c) × (set (paste lengths_row 17 (color_entries c) 4) 16 1 ≡ filter_row place (G.DropShadow d))
  unfolding row filter_row result shadow_color_entries
  shadow_some c h = (h, rw h refl)
