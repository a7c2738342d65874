-- The inherit rule: whose text paints an element, its own or its parent's, and which part of it.
use Rattle.std.specs.Prelude.{ℕ, Bool, true, false, List, [], eqb, length, take, drop, Result, Ok, Err, Option, Some, None, if◌then◌else◌}
use Rattle.text_bytes.specs.Flow.{◌>>=◌}
use Rattle.text_bytes.specs.declared.Part.{Part}
use Rattle.utf8.specs.Blanks.{trim_part, trim_of}
use Rattle.stream.specs.Refusals.{admit_text}
use Rattle.stream.specs.declared.Refusal.{Refusal}
use Rattle.paint.specs.Answers.{from_str}
use Rattle.paint.specs.declared.Paint.{Paint}
use Rattle.paint.specs.declared.Paint.TheVariants as P
use Rattle.inherit.specs.declared.Chosen.{Chosen}
use Rattle.inherit.specs.declared.Whose.{Whose}
use Rattle.inherit.specs.declared.Whose.TheVariants as W
use Rattle.inherit.specs.declared.WhoseRefusal.{WhoseRefusal}

unfoldable pub is_inherit : Paint → Bool
is_inherit P.Inherit = true
is_inherit v = false

-- "empty after trimming": of the 25 White_Space characters nothing is left
unfoldable pub is_empty : List ℕ → Bool
is_empty s = eqb (length (trim_of s)) 0

-- What a text says for itself: it "must read as a paint"; one that reads `inherit`, "or empty", tells to ask higher up; any other paint is chosen, trimmed
unfoldable pub says : List ℕ → Result (Option Part) Refusal
says s = do
  _ ← admit_text s
  if is_empty s then Ok None
      else (do
        v ← from_str s
        Ok (if is_inherit v then None else Some (trim_part s)))

abbrev pub chosen : Whose → Part → Chosen
chosen w p = record { whose = w; part = p }

abbrev pub refused : Whose → Refusal → WhoseRefusal
refused w e = record { whose = w; refusal = e }

-- the same of the one whose text it is; `None` is "ask higher up"
abbrev pub said_for : Whose → Result (Option Part) Refusal → Result (Option Chosen) WhoseRefusal
said_for w (Ok (Some p)) = Ok (Some (chosen w p))
said_for w (Ok None) = Ok None
said_for w (Err e) = Err (refused w e)

unfoldable pub asked : Whose → List ℕ → Result (Option Chosen) WhoseRefusal
asked w s = said_for w (says s)

-- where the first text tells to ask higher up, what the second says; else what the first says
abbrev pub or_higher : Option Chosen → Result (Option Chosen) WhoseRefusal → Result (Option Chosen) WhoseRefusal
or_higher None second = second
or_higher (Some a) second = Ok (Some a)

-- "an own text that is empty after trimming now chooses the parent's, as `inherit` does; a chosen parent that is itself `inherit` or empty gives a second named answer, 'ask higher up'"
unfoldable pub inherited_of : List ℕ → List ℕ → Result (Option Chosen) WhoseRefusal
inherited_of own parent = do
  first ← asked W.Own own
  or_higher first (asked W.Parent parent)

-- the text that is meant
abbrev pub theirs : List ℕ → List ℕ → Whose → List ℕ
theirs own parent W.Own = own
theirs own parent W.Parent = parent

-- the bytes of a part
unfoldable pub bytes_of : List ℕ → Part → List ℕ
bytes_of s p = take p.len (drop p.start.0 s)

-- the bytes of the part that was chosen, "and an empty part" for each other answer
abbrev pub chosen_bytes : List ℕ → List ℕ → Result (Option Chosen) WhoseRefusal → List ℕ
chosen_bytes own parent (Ok (Some a)) = bytes_of (theirs own parent a.whose) a.part
chosen_bytes own parent (Ok None) = []
chosen_bytes own parent (Err e) = []

-- "the answer is a trimmed part of the one or of the other"
unfoldable pub inherited_part : List ℕ → List ℕ → List ℕ
inherited_part own parent = chosen_bytes own parent (inherited_of own parent)
