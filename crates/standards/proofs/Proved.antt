-- The theorems of src/, each in one statement.
use lib.Ieee.{Float, nan, inf, fin, neg}
use lib.Ieee.Exact.{HasValue}
use Rattle.standards.specs.Ieee754.{Fraction, Exactly, negated}
use Rattle.standards.specs.Texts.{Utf8Texts, Trimming}
use Rattle.standards.specs.Arithmetic.{Arithmetic}
use Rattle.standards.specs.Notations.{WrittenNumbers, HexColors, ColourNames, NearestChannels, HslScales}
use Rattle.standards.specs.Worked.{Examples, Algorithm, Sharp}
use Rattle.standards.proofs.Utf8.{utf8_accepts, utf8_only, utf8_place, characters_counted, position_counted}
use Rattle.standards.proofs.Trim.{parts, trim_is}
use Rattle.standards.proofs.Rounding.{round_rounds, rounds_once, add_rounds, sub_rounds, mul_rounds, div_rounds, narrowed_rounds}
use Rattle.standards.proofs.Remainders.{rem_exact}
use Rattle.standards.proofs.Comparisons.{lt_tells, le_tells, eq_tells, neg_reverses, neg_value, sign_tells, int_rounds, decimal_rounds}
use Rattle.standards.proofs.Numbers.{number_at, percent_at}
use Rattle.standards.proofs.Doubles.{number_rounds, percent_rounds}
use Rattle.standards.proofs.Measures.{radian_below_is, radian_above_is}
use Rattle.standards.proofs.Hex.{hex_read, hex_text_is, hex_refused, hex_refused_text, hex_only, every_run}
use Rattle.standards.proofs.Keywords.{how_many, names_read, names_text, names_transparent, names_other, names_other_text}
use Rattle.standards.proofs.Clipped.{integer_channel, hue_same, saturation_below, lightness_below, saturation_above, lightness_above}
use Rattle.standards.proofs.Shares.{percent_share, alpha_share, percent_scaled, alpha_scaled, scaled_nearest, scaled_only, percent_grained, alpha_grained, lightness_grained}
use Rattle.standards.proofs.HslEnds.{lightness_black, lightness_white, saturation_grey}
use Rattle.standards.proofs.Greys.{grey_scaled}
use Rattle.standards.proofs.ColorWorked.{examples, algorithm, hsl_chosen}
use Rattle.standards.proofs.Sharp.{sharp}

pub utf8_texts : Utf8Texts
utf8_texts =
    record {
      accepts = utf8_accepts;
      only = λ s u. let w = utf8_only s u in (w.chars, w.same);
      places = utf8_place;
      counted = characters_counted;
      positions = position_counted;
    }

pub trimming : Trimming
trimming = record { parts = parts; trims = trim_is }

-- the logic's own word for it
to_exactly : (x : Float) (q : Fraction) → HasValue x q.minus q.over q.under → Exactly x q
to_exactly nan q h = h
to_exactly (inf s) q h = h
to_exactly (fin s m e) q h = h

of_exactly : (x : Float) (q : Fraction) → Exactly x q → HasValue x q.minus q.over q.under
of_exactly nan q h = h
of_exactly (inf s) q h = h
of_exactly (fin s m e) q h = h

pub arithmetic : Arithmetic
arithmetic =
    record {
      rounds = round_rounds;
      once = rounds_once;
      adds = add_rounds;
      subtracts = sub_rounds;
      multiplies = mul_rounds;
      divides = div_rounds;
      leaves = λ f s m e t n d p u v. to_exactly _ _ (rem_exact f s m e t n d p u v);
      narrows = narrowed_rounds;
      less = lt_tells;
      at_most = le_tells;
      equal = eq_tells;
      negates = neg_reverses;
      negative = λ x q h. to_exactly (neg x) (negated q) (neg_value x q (of_exactly x q h));
      signs = sign_tells;
      integers = int_rounds;
      decimals = decimal_rounds;
    }

pub written_numbers : WrittenNumbers
written_numbers =
    record {
      numbers = number_at;
      percentages = percent_at;
      nearest = number_rounds;
      hundredth = percent_rounds;
      radian_below_is = radian_below_is;
      radian_above_is = radian_above_is;
    }

pub hex_colors : HexColors
hex_colors = record { read = hex_read; whole = hex_text_is; refused = hex_refused; refused_whole = hex_refused_text; only = hex_only; all = every_run }

pub colour_names : ColourNames
colour_names = record { count = how_many; read = names_read; whole = names_text; transparent = names_transparent; other = names_other; other_whole = names_other_text }

pub nearest_channels : NearestChannels
nearest_channels =
    record {
      integers = integer_channel;
      percentages = percent_share;
      alphas = alpha_share;
      percentages_up = percent_scaled;
      alphas_up = alpha_scaled;
      twelve = percent_grained;
      fourteen = alpha_grained;
      one = scaled_nearest;
      no_other = scaled_only;
    }

pub hsl_scales : HslScales
hsl_scales =
    record {
      black = lightness_black;
      white = λ h s l hd sd f. lightness_white h hd s l sd f;
      grey = λ h s l hd ld z g. rw (← grey_scaled l g) (saturation_grey h hd s l ld z);
      three = lightness_grained;
      turns = hue_same;
      saturation_below = saturation_below;
      lightness_below = lightness_below;
      saturation_above = saturation_above;
      lightness_above = lightness_above;
      chosen = hsl_chosen;
    }

pub worked_examples : Examples
worked_examples = examples

pub worked_algorithm : Algorithm
worked_algorithm = algorithm

pub limits : Sharp
limits = sharp
