-- Of every answer: the part that is chosen is what trimming leaves of the text that is meant; and where a refusal's stretch lies.
use Prim.Native.Nat.{ℕ, ◌+◌, ◌≤◌}
use mathlib.Core.List.{List}
use mathlib.Core.Path.{◌≡◌, refl}
use lib.ListN.{length}
use Rattle.std.specs.Prelude.{Result, Ok, Err, Option, Some, None, MatchResult}
use Rattle.text_bytes.specs.declared.Part.{Part}
use Rattle.text_bytes.specs.Words.{part_bytes}
use Rattle.text_bytes.proofs.Parts.{part_inside as inside_part}
use Rattle.text_bytes.proofs.Ranges.{either}
use Rattle.utf8.specs.Blanks.{trim_part, trim_of}
use Rattle.stream.specs.Refusals.{Inside, admit_text}
use Rattle.stream.specs.declared.Refusal.{Refusal}
use Rattle.stream.proofs.Binds.{bind_holds, bind_known, at_ok, at_err, weaker}
use Rattle.paint.specs.Answers.{from_str, at_hand}
use Rattle.paint.proofs.Stretches.{stretch_inside}
use Rattle.paint.proofs.Trims.{trim_fits}
use Rattle.inherit.specs.Rule.{is_inherit, is_empty, says, chosen, said_for, asked, or_higher, inherited_of, theirs, bytes_of, inherited_part}
use Rattle.inherit.specs.declared.Chosen.{Chosen}
use Rattle.inherit.specs.declared.Whose.{Whose}
use Rattle.inherit.specs.declared.Whose.TheVariants as W
use Rattle.inherit.specs.declared.WhoseRefusal.{WhoseRefusal}

-- what a text may say
data Says (s : List ℕ) : Option Part → Type 0 where
  part : Says s (Some (trim_part s))
  none : Says s None

-- for the one whose it is
data Tells (w : Whose) (s : List ℕ) : Option Chosen → Type 0 where
  chose : Tells w s (Some (chosen w (trim_part s)))
  up : Tells w s None

record Refuses (w : Whose) (s : List ℕ) (e : WhoseRefusal) : Type 0 where
  whose : e.whose ≡ w
  inside : Inside (length (at_hand s)) e.refusal

says_holds : (s : List ℕ) → MatchResult (says s) (Says s) (Inside (length (at_hand s)))
unfolding says
says_holds s =
    bind_known (Says s) (Inside (length (at_hand s))) (admit_text s) _
    (λ e a. stretch_inside s e (unfold from_str in simp a))
    (λ u a. either (is_empty s) (λ q. simp q none)
    (λ q. simp q
    (bind_known (Says s) (Inside (length (at_hand s))) (from_str s) _ (λ e f. stretch_inside s e f)
    (λ v f. either (is_inherit v) (λ i. simp i none) (λ i. simp i part)))))

asked_holds : (w : Whose) (s : List ℕ) → MatchResult (asked w s) (Tells w s) (Refuses w s)
unfolding asked
asked_holds w s = go (says s) (says_holds s)
  where
    go : (r : Result (Option Part) Refusal) → MatchResult r (Says s) (Inside (length (at_hand s))) → MatchResult (said_for w r) (Tells w s) (Refuses w s)
    go (Ok (Some p)) part = chose
    go (Ok None) none = up
    go (Err e) v = record { whose = refl; inside = v }

module _ (own parent : List ℕ) where
  pub record Inner (a : Option Chosen) : Type 0 where
    pub trimmed : (c : Chosen) → a ≡ Some c → c.part ≡ trim_part (theirs own parent c.whose)
    pub inside : (c : Chosen) → a ≡ Some c → c.part.start.0 + c.part.len ≤ length (theirs own parent c.whose)

  pub record Refused (e : WhoseRefusal) : Type 0 where
    pub inside : Inside (length (at_hand (theirs own parent e.whose))) e.refusal

  told_inside : (w : Whose) (a : Option Chosen) → Tells w (theirs own parent w) a → Inner a
  told_inside w (Some c) chose =
      record {
        trimmed = λ d e. let z : c ≡ d = cc in rw (← z) refl;
        inside = λ d e. let z : c ≡ d = cc in rw (← z) (trim_fits (theirs own parent w));
      }
  told_inside w None up = record { trimmed = λ d e. cc; inside = λ d e. cc }

  refused_inside : (w : Whose) (e : WhoseRefusal) → Refuses w (theirs own parent w) e → Refused e
  refused_inside w e v = record { inside = rw v.whose v.inside }

  inherited_holds : MatchResult (inherited_of own parent) Inner Refused
  unfolding inherited_of
  inherited_holds =
      bind_holds (Tells W.Own own) Inner Refused (asked W.Own own) _
      (weaker (Tells W.Own own) (Tells W.Own own) (Refuses W.Own own) Refused (asked W.Own own) (asked_holds W.Own own) (λ a v. v) (λ e v. refused_inside W.Own e v))
      first
    where
      second : MatchResult (asked W.Parent parent) Inner Refused
      second = weaker (Tells W.Parent parent) Inner (Refuses W.Parent parent) Refused (asked W.Parent parent) (asked_holds W.Parent parent) (told_inside W.Parent) (refused_inside W.Parent)

      first : (a : Option Chosen) → Tells W.Own own a → MatchResult (or_higher a (asked W.Parent parent)) Inner Refused
      first a chose = told_inside W.Own _ chose
      first a up = second

  pub part_inside : (a : Chosen) → inherited_of own parent ≡ Ok (Some a)
      → (inherited_of own parent ≡ Ok (Some a)) × (part_bytes (theirs own parent a.whose) a.part ≡ bytes_of (theirs own parent a.whose) a.part)
  unfolding bytes_of
  part_inside a q = (q, inside_part (theirs own parent a.whose) a.part ((at_ok Inner Refused (inherited_of own parent) (Some a) inherited_holds q).inside a refl))

  -- the bytes that are handed out are what trimming leaves of the text that is chosen
  bytes_trimmed : (a : Chosen) → inherited_of own parent ≡ Ok (Some a) → trim_of (theirs own parent a.whose) ≡ inherited_part own parent
  unfolding inherited_part bytes_of trim_of trim_part
  bytes_trimmed a q =
      let w : a.part ≡ trim_part (theirs own parent a.whose) = (at_ok Inner Refused (inherited_of own parent) (Some a) inherited_holds q).trimmed a refl in
      simp q (rw w refl)

  pub part_own : (a : Chosen) → inherited_of own parent ≡ Ok (Some a) → a.whose ≡ W.Own → trim_of own ≡ inherited_part own parent
  part_own a q e = rw e at (bytes_trimmed a q)

  pub part_parent : (a : Chosen) → inherited_of own parent ≡ Ok (Some a) → a.whose ≡ W.Parent → trim_of parent ≡ inherited_part own parent
  part_parent a q e = rw e at (bytes_trimmed a q)

  -- THEOREM. A refusal's stretch starts and ends in the text at hand of the one that is refused, and not before it starts
  pub inherited_inside : (e : WhoseRefusal) → inherited_of own parent ≡ Err e → Inside (length (at_hand (theirs own parent e.whose))) e.refusal
  inherited_inside e q = (at_err Inner Refused (inherited_of own parent) e inherited_holds q).inside
