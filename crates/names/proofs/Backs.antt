-- The laws of a colour's keyword: the first entry that has it, and the writing.
use Rattle.std.proofs.Common.{ℕ, ◌≡◌, ◌≤◌, Bool, List, [], ◌∷◌, length, map, option_map, refl, sym, ap, ◌∙◌, Bor, Option, Some, None}
use Rattle.std.specs.List.{find}
use Rattle.text_bytes.proofs.Ranges.{either}
use Rattle.lent.specs.Texts.{written}
use Rattle.lent.proofs.Fronts.{front, written_room}
use lib.Seq.{paste}
use Rattle.names.specs.Back.{same_colour, first_named}
use Rattle.names.specs.Keywords.{keywords}
use Rattle.names.specs.Look.{channels}
use Rattle.names.specs.Search.{Entry, entry_of}
use Rattle.names.specs.declared.Rgb.{Rgb}

-- an entry has the colour
abbrev pub coloured : Rgb → Entry → Bool
coloured x e = same_colour (channels (entry_of e)) x

module _ (x : Rgb) where
  first_found : (t : List Entry) → option_map (λ e. e.0.now) (find (coloured x) t) ≡ first_named (map entry_of t) x
  unfolding first_named
  first_found [] = refl
  first_found (e ∷ t) = either (coloured x e) (λ q. simp q) (λ q. simp q (first_found t))

  pub named_first : (t : List Entry) → map entry_of t ≡ keywords → (r : Option (Bor Entry)) → option_map (λ e. e.now) r ≡ find (coloured x) t
      → option_map (λ e. e.now.0.now) r ≡ first_named keywords x
  named_first t q r e = joined r ∙ (ap (option_map (λ e. e.0.now)) e ∙ (first_found t ∙ ap (λ es. first_named es x) q))
    where
      joined : (r : Option (Bor Entry)) → option_map (λ e. e.now.0.now) r ≡ option_map (λ e. e.0.now) (option_map (λ e. e.now) r)
      joined None = refl
      joined (Some e) = refl

-- what is put at the front, where there is room
pub put_over : (w o : List ℕ) → length w ≤ length o → paste o 0 w (length w) ≡ written w o
put_over w o h = front w o refl ∙ sym (written_room w o h)
