-- The theorems of the readers against the public documents, with nothing left open but what the readers ask of a text: `Documents` states them.
use mathlib.Core.Path.{refl}
use Rattle.standards.specs.Ieee754.{double}
use Rattle.standards.specs.CssValues3.{exactly, grad, rad, turn}
use Rattle.standards.specs.Svg2.{marked}
use Rattle.standards.specs.Documents.{Documents}
use Rattle.standards.proofs.Numbers.{numbers_read}
use Rattle.standards.proofs.Doubles.{under_pos, exactly_rounds, exactly_hundredth}
use Rattle.standards.proofs.Once.{turns_round, radians_round, gradians_round, share_rounds}
use Rattle.standards.proofs.Measures.{length_read, length_whole, angle_read, angle_whole, degrees_are}
use Rattle.standards.proofs.Functional.{functional_read}
use Rattle.standards.proofs.Palette.{colour_read, colour_whole, paint_colours, shadow_colours}
use Rattle.standards.proofs.Meanings.{channels, means}
use Rattle.standards.proofs.Paints.{paint_read, link_bytes_of}
use Rattle.standards.proofs.FilterLists.{list_step, list_read}

-- THEOREM.
pub documents : Documents
documents =
    record {
      numbers = λ l t rest d e. (numbers_read.number_front l t rest d e, exactly_rounds t);
      hundredths = λ l t rest d. (numbers_read.percent_front l t rest d, exactly_hundredth t d);
      lengths = λ before t d h. length_whole numbers_read before t d h;
      length_front = λ before t rest d e. length_read numbers_read before t rest d e;
      angles = λ before t d h. angle_whole numbers_read before t d h;
      angle_front = λ before t rest d e. angle_read numbers_read before t rest d e;
      degrees = λ t. degrees_are t.unit_part _;
      turns = λ t s m e h. rw (degrees_are (marked turn) (double (exactly t)), h) (turns_round s m e);
      radians = λ t s m e h r n d k. rw (degrees_are (marked rad) (double (exactly t)), h) (radians_round s m e r n d k);
      gradians = λ t n e h. rw (degrees_are (marked grad) (double (exactly t))) (gradians_round (exactly t) n (under_pos t) e h);
      shares = share_rounds;
      channels = channels;
      means = means;
      steps = λ w t d. refl;
      steps_with_alpha = λ w t a d. (refl, (refl, refl));
      colours = colour_whole;
      colour_front = colour_read;
      function_front = λ t d rest. functional_read numbers_read t d rest;
      paints = paint_read paint_colours;
      links = link_bytes_of paint_colours;
      filters = list_read numbers_read shadow_colours;
      filter_steps = list_step numbers_read shadow_colours;
    }
