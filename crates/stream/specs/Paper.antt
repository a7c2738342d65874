-- The record of a refusal: each column, with nought where a refusal does not tell it.
use Rattle.std.specs.Prelude.{ℕ, ◌-◌, Option, Some, None}
use Rattle.text_bytes.specs.declared.Place.{Place}
use Rattle.text_bytes.specs.declared.Part.{Part}
use Rattle.utf8.specs.declared.Position.{Position}
use Rattle.text_bytes.specs.Moves.{place}
use Rattle.stream.specs.declared.Trouble.TheVariants as T
use Rattle.stream.specs.declared.Reason.{Reason}
use Rattle.stream.specs.declared.Reason.TheVariants as R
use Rattle.stream.specs.declared.Refusal.{Refusal}
use Rattle.stream.specs.Refusals.{reason_number}

-- number, position (0 where none is listed), place (0 but for 2), found and wanted byte (0 but for 7), a part of the text (empty but for 8), and where the refused piece starts and ends
pub record PaperRefusal : Type 0 where
  pub number : ℕ
  pub position : ℕ
  pub place : Place
  pub found : ℕ
  pub wanted : ℕ
  pub part : Part
  pub from : Place
  pub to : Place

-- the record of a value: number 0, and all else nought
abbrev pub no_refusal : PaperRefusal
no_refusal =
    record { number = 0; position = 0; place = place 0; found = 0; wanted = 0; part = record { start = place 0; len = 0 }; from = place 0; to = place 0 }

abbrev pub listed : Option Position → ℕ
listed None = 0
listed (Some p) = p.0

-- what only one reason tells
abbrev pub place_of : Reason → Place → Place
place_of R.IllFormed p = p
place_of r p = place 0

abbrev pub found_of : Reason → ℕ
found_of (R.Unread (T.InvalidChar found wanted)) = found
found_of r = 0

abbrev pub wanted_of : Reason → ℕ
wanted_of (R.Unread (T.InvalidChar found wanted)) = wanted
wanted_of r = 0

abbrev pub part_of : Reason → Place → Place → Part
part_of (R.Unread T.InvalidString) from to = record { start = from; len = to.0 - from.0 }
part_of r from to = record { start = place 0; len = 0 }

unfoldable pub paper_refusal : Refusal → PaperRefusal
paper_refusal r =
    record {
      number = reason_number r.reason;
      position = listed r.position;
      place = place_of r.reason r.from;
      found = found_of r.reason;
      wanted = wanted_of r.reason;
      part = part_of r.reason r.from r.to;
      from = r.from;
      to = r.to;
    }
