-- The record of a refusal, column by column, as a rule for each number.
use Prim.Native.Nat.{ℕ, ◌-◌}
use mathlib.Core.Bool.{cond}
use mathlib.Core.List.{List}
use mathlib.Core.Path.{◌≡◌, refl}
use lib.Dec.{leb, eqb}
use Rattle.text_bytes.specs.Moves.{place}
use Rattle.utf8.specs.Characters.{calc_char_pos_at}
use Rattle.stream.specs.Paper.{paper_refusal, found_of, wanted_of}
use Rattle.stream.specs.Refusals.{number_of, reason_number, refusal_of}
use Rattle.stream.specs.declared.Trouble.{Trouble}
use Rattle.stream.specs.declared.Trouble.TheVariants as T
use Rattle.stream.specs.declared.Reason.TheVariants as R
use Rattle.stream.specs.declared.Fault.{Fault}

-- THEOREM. A position is told for all numbers from 6 on, the bytes found and wanted for 7, and the part for 8, which is the stretch; no fault tells a place, as 2 does, which the edge makes
pub columns : (s : List ℕ) (f : Fault) → (let n = number_of f.trouble in paper_refusal (refusal_of s f) ≡
    record {
      number = n;
      position = cond (leb n 5) 0 (calc_char_pos_at s f.at.0);
      place = place 0;
      found = cond (eqb n 7) (found_of (R.Unread f.trouble)) 0;
      wanted = cond (eqb n 7) (wanted_of (R.Unread f.trouble)) 0;
      part = record { start = place (cond (eqb n 8) f.from.0 0); len = cond (eqb n 8) (f.to.0 - f.from.0) 0 };
      from = f.from;
      to = f.to;
    })
unfolding paper_refusal refusal_of reason_number number_of
columns s f = go f.trouble
  where
    go : (t : Trouble) → (let n = number_of t in paper_refusal (refusal_of s (record { trouble = t; at = f.at; from = f.from; to = f.to })) ≡
        record {
          number = n;
          position = cond (leb n 5) 0 (calc_char_pos_at s f.at.0);
          place = place 0;
          found = cond (eqb n 7) (found_of (R.Unread t)) 0;
          wanted = cond (eqb n 7) (wanted_of (R.Unread t)) 0;
          part = record { start = place (cond (eqb n 8) f.from.0 0); len = cond (eqb n 8) (f.to.0 - f.from.0) 0 };
          from = f.from;
          to = f.to;
        })
    go T.UnexpectedEndOfStream = refl
    go t = refl
