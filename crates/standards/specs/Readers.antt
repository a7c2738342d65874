-- Lists of lengths, links as whole texts, and what is left of filter lists, against the public documents, in one statement, which proofs/Readers proves. As in Documents nothing is left open but what the readers ask of a text.
use Rattle.std.specs.Prelude.{◌+◌, ◌≤◌, true, List, [], ◌∷◌, ◌++◌, ◌≡◌, length, Ok, Option}
use Rattle.text_bytes.specs.Moves.{place}
use Rattle.text_bytes.specs.declared.Part.{Part}
use Rattle.length.specs.Lengths as Steps
use Rattle.length.specs.Lengths.{next_length}
use Rattle.funciri.specs.Link.{link_at, link_bytes}
use Rattle.funciri.specs.Answers.{iri_from_str, func_iri_from_str}
use Rattle.paint.specs.Answers as Paints
use Rattle.paint.specs.declared.Paint.TheVariants as PaintValue
use Rattle.paint.specs.declared.PaintFallback.{PaintFallback}
use Rattle.filter_functions.specs.Filters.{next_filter, value_step, end_step, none_step}
use Rattle.filter_functions.specs.declared.FilterValue.TheVariants as FilterValue
use Rattle.joins.specs.Joins as Joins
use Rattle.standards.specs.CssValues3.{Blank, blanks, number}
use Rattle.standards.specs.CssSyntax3.{UrlCharacter, written}
use Rattle.standards.specs.Rfc3987.{Reference, target, reference_text}
use Rattle.standards.specs.Svg2.{length_text, Url, name, opening, url_text, Fallback, linked, paint_text}
use Rattle.standards.specs.Svg2Lists.{Parted, parted_text, LengthList, lengths_text}
use Rattle.standards.specs.FilterEffects1.{Item, url, item_text, items_text, none_text}
use Rattle.standards.specs.Colors.{Colour, colour}
use Rattle.standards.specs.Domain.{LengthsInDomain, ends_link, Closes}
use Rattle.standards.specs.Answers.{length_written}
use Rattle.standards.specs.LengthSteps.{answers, passed, handed_lengths}

-- the part of a text that a reference is told by, and a link after white space
abbrev pub target_of : Reference → Part
target_of t = link_at (place (length t.before + 1)) (length (target t))

abbrev pub name_of : List Blank → Url → Part
name_of before u = link_at (place (length before + length (opening u))) (length (name u))

-- `url(#name)` in a filter list
abbrev pub link_item : {C : Type 0} → (before : List Blank) → UrlCharacter → List UrlCharacter → (after spaces : List Blank) → Item C
link_item before c cs after spaces = record { function = record { before = before; content = url c cs; after = after }; spaces = spaces }

pub record Readers : Type 0 where
  -- SVG 2, sections 4.2 and 8.9. A list of lengths hands out its lengths, in order, each as its number and its unit, with whether it is an <integer>, where the number ends and where reading goes on, and then ends
  pub length_lists : (t : LengthList) → LengthsInDomain t → length (lengths_text t) ≤ 4096
      → answers (lengths_text t) 0 ≡ handed_lengths t.last t.after (length t.before) t.firsts ++ (Steps.end_step (place (length (lengths_text t))) ∷ [])
  -- From the place where a length starts it is answered so, whatever lengths stand before it and after it; and so the last
  pub length_steps : (t : LengthList) → LengthsInDomain t → length (lengths_text t) ≤ 4096 → (ps : List Parted) (p : Parted) (qs : List Parted) → t.firsts ≡ ps ++ (p ∷ qs)
      → (let n = length t.before + length (parted_text ps) in
      let l = p.length_part in
      next_length (lengths_text t) n
      ≡ Steps.value_step (length_written l (n + length (number l.number_part))) (place (n + length (length_text l) + length (passed p.parting))))
  pub last_lengths : (t : LengthList) → LengthsInDomain t → length (lengths_text t) ≤ 4096
      → (let n = length t.before + length (parted_text t.firsts) in
      let l = t.last in
      next_length (lengths_text t) n
      ≡ Steps.value_step (length_written l (n + length (number l.number_part))) (place (n + length (length_text l) + length t.after)))
  -- RFC 3987, section 2.2. `#` and a fragment, with white space about it, is answered as a part of the text, and that holds the fragment, if it ends as specs/Domain has it;
  pub references : (t : Reference) → ends_link t.after ≡ true → length (reference_text t) ≤ 4096
      → (iri_from_str (reference_text t) ≡ Ok (target_of t)) × (link_bytes (reference_text t) (target_of t) ≡ target t)
  -- and if it is, it ends so
  pub references_only : (t : Reference) → length (reference_text t) ≤ 4096 → iri_from_str (reference_text t) ≡ Ok (target_of t) → ends_link t.after ≡ true
  -- SVG 2; CSS Syntax 3, sections 4.3.5 and 4.3.6. So is a <url> of a link, quoted or not, and its name, if it is closed so;
  pub urls : (before : List Blank) (u : Url) (after : List Blank) → Closes u → length (blanks before ++ (url_text u ++ blanks after)) ≤ 4096
      → (func_iri_from_str (blanks before ++ (url_text u ++ blanks after)) ≡ Ok (name_of before u))
      × (link_bytes (blanks before ++ (url_text u ++ blanks after)) (name_of before u) ≡ name u)
  -- and if it is, it is closed so
  pub urls_only : (before : List Blank) (u : Url) (after : List Blank) → length (blanks before ++ (url_text u ++ blanks after)) ≤ 4096
      → func_iri_from_str (blanks before ++ (url_text u ++ blanks after)) ≡ Ok (name_of before u) → Closes u
  -- and so is the link of a paint, whatever is answered for what follows it (`Documents` has its answer)
  pub paint_links_only : (before after : List Blank) (u : Url) (f : Fallback Colour) (g : Option PaintFallback) → length (blanks before ++ (paint_text colour (linked u f) ++ blanks after)) ≤ 4096
      → Paints.from_str (blanks before ++ (paint_text colour (linked u f) ++ blanks after)) ≡ Ok (PaintValue.FuncIRI (name_of before u) g) → Closes u
  -- Filter Effects 1, section 5. `none`, with white space about it, hands out no value and ends,
  pub none : (before after : List Blank) → length (none_text before after) ≤ 4096 → Joins.answers next_filter (none_text before after) 0 ≡ none_step (place (length (none_text before after))) ∷ []
  -- and from there on it is at its end
  pub none_ends : (before after : List Blank) → length (none_text before after) ≤ 4096
      → next_filter (none_text before after) (length (none_text before after)) ≡ end_step (place (length (none_text before after)))
  -- The value of a link in a list is a part of the text, and that holds its name
  pub filter_links : (l m : List Blank) (c : UrlCharacter) (cs : List UrlCharacter) (spaces leading : List Blank) (ts us : List (Item Colour)) → ends_link m ≡ true
      → (let t = link_item l c cs m spaces in
      let n = length leading + length (items_text colour ts) in
      let s = blanks leading ++ items_text colour (ts ++ (t ∷ us)) in
      length s ≤ 4096 → (p : Part) × ((next_filter s n ≡ value_step (FilterValue.Url p) (place (n + length (item_text colour t)))) × (link_bytes s p ≡ written (c ∷ cs))))
