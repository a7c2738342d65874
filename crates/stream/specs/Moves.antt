-- An answer moved by n bytes.
use Rattle.std.specs.Prelude.{ℕ, ◌+◌, leb, Result, Ok, Err, Some, if◌then◌else◌}
use Rattle.stream.specs.declared.Read.{Read}
use Rattle.stream.specs.declared.Fault.{Fault}
use Rattle.stream.specs.declared.Refusal.{Refusal}
use Rattle.stream.specs.Refusals.{reason_number}
use Rattle.stream.specs.Paper.{listed}
use Rattle.text_bytes.specs.Moves.{place, move_place}

-- a value that knows no place stays
abbrev pub stays : {A : Type 0} → ℕ → A → A
stays n a = a

-- m moves what the value knows of places
abbrev pub move_read : {A : Type 0} → (ℕ → A → A) → ℕ → Read A → Read A
move_read m n r = record { value = m n r.value; next = move_place n r.next }

-- every place of a fault moves, and nothing else
abbrev pub move_fault : ℕ → Fault → Fault
move_fault n f = record { trouble = f.trouble; at = move_place n f.at; from = move_place n f.from; to = move_place n f.to }

abbrev pub moved : {A : Type 0} → (ℕ → A → A) → ℕ → Result A Fault → Result A Fault
moved m n (Ok a) = Ok (m n a)
moved m n (Err e) = Err (move_fault n e)

-- A refusal whose text follows n bytes of k characters: the position moves by the characters where one is told, from 6 on, the stretch by the bytes. 1 to 3 have no stretch of what is read
abbrev pub move_refusal : ℕ → ℕ → Refusal → Refusal
move_refusal n k r =
    record {
      reason = r.reason;
      position = if leb (reason_number r.reason) 5 then r.position else Some (record { 0 = k + listed r.position });
      from = place (if leb (reason_number r.reason) 3 then r.from.0 else n + r.from.0);
      to = place (if leb (reason_number r.reason) 3 then r.to.0 else n + r.to.0);
    }
