-- The laws of a text that is settled into what is lent, or refused.
use Prim.Native.Nat.{ℕ, ◌≤◌}
use mathlib.Core.List.{List}
use mathlib.Core.Path.{◌≡◌, refl, sym, ◌∙◌}
use native.Mathlib.Omega.{arith}
use borrow.Author.Tests.{leb-true, leb-false}
use lib.Dec.{leb}
use lib.ListN.{length, drop}
use lib.Seq.{paste}
use Rattle.std.specs.Prelude.{Option, Some, None, Result, Ok, Err, ⊤}
use Rattle.text_bytes.proofs.Ranges.{either}
use Rattle.lent.specs.Texts.{written}
use Rattle.lent.proofs.Fronts.{front, over_front, over_behind, written_room, written_none}
use Rattle.stream.specs.Refusals.{bare_refusal}
use Rattle.stream.specs.declared.Refusal.{Refusal}
use Rattle.stream.specs.declared.Reason.TheVariants as R
use Rattle.names.specs.Back.{name_answer, name_over}
use Rattle.color.specs.Answer.{from_str}
use Rattle.color.specs.declared.Color.{Color}
use Rattle.set_back.specs.Answers.{settled, ReadsBack}

-- what the code puts, where there is room
pub put_written : (w o : List ℕ) → length w ≤ length o → paste o 0 w (length w) ≡ written w o
put_written w o h = front w o refl ∙ sym (written_room w o h)

-- the text that is there, if one is, reads as the colour
abbrev pub Says : Option (List ℕ) → Color → Type 0
Says (Some w) c = from_str w ≡ Ok c
Says None c = ⊤

-- what lay behind what was written stays, and all of it where nothing was
pub behind_stays : (x : Option (List ℕ)) (o : List ℕ) (n : ℕ) → settled x (length o) ≡ Ok n → drop n (name_over x o) ≡ drop n o
unfolding settled name_answer name_over
behind_stays None o n e = let z : ◌≡◌ {A = ℕ} 0 1 = cc in absurd (omega arith)
behind_stays (Some w) o n e =
    either (leb (length w) (length o))
    (λ t. let q : ◌≡◌ {A = Result ℕ Refusal} (Ok (length w)) (Ok n) = simp t at e in
    let m : length w ≡ n = cc in
    rw (written_room w o (leb-true _ _ t), ← m) (over_behind w o))
    (λ t. let q : ◌≡◌ {A = Result ℕ Refusal} (Err (bare_refusal R.BufferTooShort)) (Ok n) = simp t at e in let z : ◌≡◌ {A = ℕ} 0 1 = cc in absurd (omega arith))

pub all_stays : (x : Option (List ℕ)) (o : List ℕ) (e : Refusal) → settled x (length o) ≡ Err e → name_over x o ≡ o
unfolding settled name_answer name_over
all_stays None o e q = refl
all_stays (Some w) o e q =
    either (leb (length w) (length o))
    (λ t. let r : ◌≡◌ {A = Result ℕ Refusal} (Ok (length w)) (Err e) = simp t at q in let z : ◌≡◌ {A = ℕ} 0 1 = cc in absurd (omega arith))
    (λ t. written_none w o (leb-false _ _ t))

-- and what was written reads back
reads_back : (x : Option (List ℕ)) (c : Color) (o : List ℕ) → Says x c → ReadsBack (settled x (length o)) (name_over x o) c
unfolding settled name_answer name_over
reads_back None c o s = tt
reads_back (Some w) c o s =
    either (leb (length w) (length o))
    (λ t. simp t (rw (written_room w o (leb-true _ _ t), over_front w o) s))
    (λ t. simp t tt)

-- so of an answer r, and of p, which is what was lent afterwards
pub promised : (x : Option (List ℕ)) (c : Color) (o : List ℕ) {r : Result ℕ Refusal} {p : List ℕ} → Says x c → r ≡ settled x (length o) → p ≡ name_over x o → ReadsBack r p c
promised x c o s e f = rw (e, f) (reads_back x c o s)
