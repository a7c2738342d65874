-- Demand 3 of rows, proved.
use Rattle.join_rows.specs.JoinRows.{Demand3Rows}
use Rattle.join_rows.proofs.Moves.{rows_move, rows_pass}
use Rattle.join_rows.proofs.Handed.{rows_answer, rows_reach, rows_enough, rows_whole, rows_end, rows_bound}
use Rattle.join_rows.proofs.Joined.{join_rows, join_rows_unspaced, join_rows_last, join_calls}

pub demand_3_rows : Demand3Rows
demand_3_rows =
    record {
      move = rows_move;
      pass = rows_pass;
      answer = rows_answer;
      reach = rows_reach;
      enough = rows_enough;
      whole = rows_whole;
      end = rows_end;
      bound = rows_bound;
      join = join_rows;
      join_unspaced = join_rows_unspaced;
      join_last = join_rows_last;
      join_calls = join_calls;
    }
