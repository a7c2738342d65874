-- The shapes' neighbours are apart, by computation.
use mathlib.Core.Bool.{true}
use mathlib.Core.Path.{◌≡◌, refl}
use Rattle.text_bytes.specs.Bytes.{within}
use Rattle.text_bytes.specs.Words.{lower_of}
use Rattle.shapes.specs.Walk.{ends}
use Rattle.strict.specs.Shapes.{hex_three, hex_six, rgb_whole, rgb_percent, rgba_whole, rgba_percent, hsl, hsla}
use Rattle.shapes.proofs.Fair.{able, follows, clear}
use Rattle.shapes.proofs.Parts.{apart, well}

pub three_well : well hex_three ≡ true
unfolding well apart able follows clear ends lower_of within
three_well = refl

pub six_well : well hex_six ≡ true
unfolding well apart able follows clear ends lower_of within
six_well = refl

pub rgb_whole_well : well rgb_whole ≡ true
unfolding well apart able follows clear ends lower_of within
rgb_whole_well = refl

pub rgb_percent_well : well rgb_percent ≡ true
unfolding well apart able follows clear ends lower_of within
rgb_percent_well = refl

pub rgba_whole_well : well rgba_whole ≡ true
unfolding well apart able follows clear ends lower_of within
rgba_whole_well = refl

pub rgba_percent_well : well rgba_percent ≡ true
unfolding well apart able follows clear ends lower_of within
rgba_percent_well = refl

pub hsl_well : well hsl ≡ true
unfolding well apart able follows clear ends lower_of within
hsl_well = refl

pub hsla_well : well hsla ≡ true
unfolding well apart able follows clear ends lower_of within
hsla_well = refl
