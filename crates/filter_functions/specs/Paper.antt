-- The record of a step: the number, and "a result of zeros with an empty link" where no value is handed out.
use Rattle.std.specs.Prelude.{ℕ, Bool, true, false, Float, Result, Ok, Err, None}
use Rattle.text_bytes.specs.declared.Part.{Part}
use Rattle.text_bytes.specs.declared.Place.{Place}
use Rattle.stream.specs.Paper.{PaperRefusal, paper_refusal, no_refusal}
use Rattle.stream.specs.declared.Refusal.{Refusal}
use Rattle.floats.specs.Floats.{d0}
use Rattle.length.specs.Paper.{zero_length}
use Rattle.length.specs.declared.Length.{Length}
use Rattle.angle.specs.Paper.{zero_angle}
use Rattle.angle.specs.declared.Angle.{Angle}
use Rattle.filter_functions.specs.Filters.{FilterStep}
use Rattle.filter_functions.specs.declared.FilterValue.{FilterValue}
use Rattle.filter_functions.specs.declared.FilterValue.TheVariants as G
use Rattle.filter_functions.specs.declared.Listed.{Listed}
use Rattle.filter_functions.specs.declared.Listed.TheVariants as I
use Rattle.filter_functions.specs.declared.Shadow.{Shadow}

-- "Each value carries its own kind of number: one float, a length, an angle, a link, or a shadow's parts." The kind is the value's number in the order of `FilterValue`, from 1; what is not its own is zero
pub record PaperValue : Type 0 where
  pub kind : ℕ
  pub number : Float
  pub measure : Length
  pub turn : Angle
  pub shadow : Shadow
  pub link : Part

abbrev pub no_shadow : Shadow
no_shadow = record { color = None; dx = zero_length; dy = zero_length; deviation = zero_length }

abbrev pub no_link : Part
no_link = record { start = record { 0 = 0 }; len = 0 }

abbrev pub no_result : PaperValue
no_result = record { kind = 0; number = d0; measure = zero_length; turn = zero_angle; shadow = no_shadow; link = no_link }

-- one of the seven plain functions
abbrev pub plain_result : ℕ → Float → PaperValue
plain_result k x = record { kind = k; number = x; measure = zero_length; turn = zero_angle; shadow = no_shadow; link = no_link }

unfoldable pub result : FilterValue → PaperValue
result (G.Blur l) = record { kind = 1; number = d0; measure = l; turn = zero_angle; shadow = no_shadow; link = no_link }
result (G.DropShadow d) = record { kind = 2; number = d0; measure = zero_length; turn = zero_angle; shadow = d; link = no_link }
result (G.Brightness x) = plain_result 3 x
result (G.Contrast x) = plain_result 4 x
result (G.Grayscale x) = plain_result 5 x
result (G.HueRotate a) = record { kind = 6; number = d0; measure = zero_length; turn = a; shadow = no_shadow; link = no_link }
result (G.Invert x) = plain_result 7 x
result (G.Opacity x) = plain_result 8 x
result (G.Sepia x) = plain_result 9 x
result (G.Saturate x) = plain_result 10 x
result (G.Url link) = record { kind = 11; number = d0; measure = zero_length; turn = zero_angle; shadow = no_shadow; link = link }

-- a step: whether the list has ended, by `none` or not, and the list place
pub record PaperStep : Type 0 where
  pub refusal : PaperRefusal
  pub ended : Bool
  pub value : PaperValue
  pub place : Place

abbrev pub step_paper : Result Listed Refusal → Place → PaperStep
step_paper (Ok (I.Value v)) p = record { refusal = no_refusal; ended = false; value = result v; place = p }
step_paper (Ok I.End) p = record { refusal = no_refusal; ended = true; value = no_result; place = p }
step_paper (Ok I.NoneWord) p = record { refusal = no_refusal; ended = true; value = no_result; place = p }
step_paper (Err e) p = record { refusal = paper_refusal e; ended = false; value = no_result; place = p }

unfoldable pub paper_step : FilterStep → PaperStep
paper_step t = step_paper t.item t.place
