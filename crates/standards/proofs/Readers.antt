-- Lists of lengths, links as whole texts, and what is left of filter lists, against the public documents: `Readers` states it.
use Rattle.standards.specs.Readers.{Readers}
use Rattle.standards.proofs.Numbers.{numbers_read}
use Rattle.standards.proofs.Palette.{paint_colours, shadow_colours}
use Rattle.standards.proofs.LengthLists.{lengths_read, length_step, last_step}
use Rattle.standards.proofs.LinkTexts.{reference_read, reference_bytes, reference_only, url_read, url_bytes, url_only}
use Rattle.standards.proofs.PaintsOnly.{paint_link_only}
use Rattle.standards.proofs.FilterLinks.{none_read, none_ends, link_step}

-- THEOREM.
pub readers : Readers
readers =
    record {
      length_lists = lengths_read numbers_read;
      length_steps = length_step numbers_read;
      last_lengths = last_step numbers_read;
      references = λ t w h. (reference_read t w h, reference_bytes t);
      references_only = reference_only;
      urls = λ before u after c h. (url_read before u after c h, url_bytes before u after);
      urls_only = url_only;
      paint_links_only = paint_link_only paint_colours;
      none = none_read;
      none_ends = none_ends;
      filter_links = λ l m c cs spaces. link_step l m c cs spaces numbers_read shadow_colours;
    }
