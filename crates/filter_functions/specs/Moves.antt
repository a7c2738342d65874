-- A filter's values moved by n bytes.
use Rattle.std.specs.Prelude.{ℕ}
use Rattle.text_bytes.specs.Moves.{move_part}
use Rattle.filter_functions.specs.declared.FilterValue.{FilterValue}
use Rattle.filter_functions.specs.declared.FilterValue.TheVariants as G
use Rattle.filter_functions.specs.declared.Listed.{Listed}
use Rattle.filter_functions.specs.declared.Listed.TheVariants as I

-- a link's place moves, and no other value has one
abbrev pub move_filter_value : ℕ → FilterValue → FilterValue
move_filter_value n (G.Blur l) = G.Blur l
move_filter_value n (G.DropShadow d) = G.DropShadow d
move_filter_value n (G.Brightness x) = G.Brightness x
move_filter_value n (G.Contrast x) = G.Contrast x
move_filter_value n (G.Grayscale x) = G.Grayscale x
move_filter_value n (G.HueRotate a) = G.HueRotate a
move_filter_value n (G.Invert x) = G.Invert x
move_filter_value n (G.Opacity x) = G.Opacity x
move_filter_value n (G.Sepia x) = G.Sepia x
move_filter_value n (G.Saturate x) = G.Saturate x
move_filter_value n (G.Url link) = G.Url (move_part n link)

abbrev pub move_listed : ℕ → Listed → Listed
move_listed n (I.Value v) = I.Value (move_filter_value n v)
move_listed n I.End = I.End
move_listed n I.NoneWord = I.NoneWord
