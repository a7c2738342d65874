-- THEOREM. All the statements of specs/Only.
use Rattle.only.specs.Only.{Only}
use Rattle.only.proofs.Numbers.{number_there, there_read, longest}
use Rattle.only.proofs.Meant.{length_only, angle_only}
use Rattle.only.proofs.Hexes.{hex_only}
use Rattle.only.proofs.Disallowed.{negative_blur, negative_amount, percentage_blur, unmarked_angle, empty_shadow}
use Rattle.only.proofs.Names.{unknown_name, name_alone, name_unopened, no_name, none_alone}

pub only : Only
only =
    record {
      numbers_only = number_there;
      numbers_all = there_read;
      numbers_longest = longest;
      lengths_only = length_only;
      angles_only = angle_only;
      hex_only = hex_only;
      negative_blur = negative_blur;
      negative_amount = λ f t rest o d m e. negative_amount t rest f o d m e;
      percentage_blur = percentage_blur;
      unmarked_angle = unmarked_angle;
      empty_shadow = empty_shadow;
      unknown_name = unknown_name;
      name_alone = name_alone;
      name_unopened = name_unopened;
      no_name = no_name;
      none_alone = none_alone;
    }
