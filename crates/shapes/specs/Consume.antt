-- How far one atom goes. Only contracts inside the crate speak of it.
use Rattle.std.specs.Prelude.{ℕ, ◌+◌, List, [], ◌∷◌, drop, Result, Ok, Err, if◌then◌else◌}
use Rattle.text_bytes.specs.Moves.{place}
use Rattle.text_bytes.specs.declared.Place.{Place}
use Rattle.shapes.specs.Walk.{act, ends}
use Rattle.shapes.specs.declared.Atom.{Atom}
use Rattle.shapes.specs.declared.Act.{Act}
use Rattle.shapes.specs.declared.Act.TheVariants as D

abbrev pub onward : ℕ → Act → (Atom → Result Place Place) → Result Place Place
onward i D.Pass k = Ok (place i)
onward i (D.Stay a) k = k a
onward i D.Next k = Ok (place (i + 1))
onward i D.Lost k = Err (place i)

-- where an atom comes to its end over the bytes from place i on, or is lost
unfoldable pub consumed : ℕ → Atom → List ℕ → Result Place Place
consumed i a [] = if ends a then Ok (place i) else Err (place i)
consumed i a (b ∷ bs) = onward i (act a b) (λ x. consumed (i + 1) x bs)

unfoldable pub consume : Atom → List ℕ → ℕ → Result Place Place
consume a s i = consumed i a (drop i s)
