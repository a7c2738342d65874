-- What a word names as it is written, and with letter case ignored.
use Prim.Native.Nat.{ℕ, suc, ◌≤◌, ◌<◌}
use mathlib.Core.Bool.{true, false}
use mathlib.Core.List.{List, [], ◌∷◌}
use mathlib.Core.Path.{◌≡◌, refl, sym, ap, ◌∙◌}
use native.Mathlib.Omega.{arith}
use borrow.Author.Tests.{leb-true}
use lib.Dec.{leb}
use lib.ListN.{length, get_or, length-map}
use Rattle.text_bytes.specs.Bytes.{within, is_upper}
use Rattle.text_bytes.specs.Words.{ascii, same, lower_of, lowered}
use Rattle.std.specs.Prelude.{Option, None}
use Rattle.std.specs.Option.{is_some}
use Rattle.text_bytes.proofs.Ranges.{across, either}
use Rattle.text_bytes.proofs.Wording.{same_refl, same_eq}
use Rattle.names.specs.Keywords.{Keyword, entry, keywords}
use Rattle.names.specs.Look.{look_up, named_of}
use Rattle.names.specs.Search.{nth}
use Rattle.names.proofs.Tables.{holds_true, table_count}
use Rattle.std.specs.List.{list_any}
use Rattle.fast_names.specs.Named.{named_number}
use Rattle.fast_names.proofs.Small.{lowered_small}

same_not : (a b : List ℕ) → (b ≡ a → ⊥) → same a b ≡ false
same_not a b f = either (same a b) (λ e. absurd (f (sym (same_eq a b e)))) (λ e. e)

-- a word that is the name of no entry of a table
abbrev pub at : List Keyword → ℕ → Keyword
at es k = get_or es k (entry "" 0 0 0)

look_none : (w : List ℕ) (es : List Keyword) → ((j : ℕ) → j < length es → (at es j).name ≡ w → ⊥) → look_up es w ≡ look_up [] w
unfolding look_up
look_none w [] f = refl
look_none w (x ∷ xs) f = simp (same_not w x.name (f 0 (omega arith))) (look_none w xs (λ j l. f (suc j) (omega arith)))

-- no entry's name in the standard's table, and not `transparent`: no colour
pub look_unknown : (w : List ℕ) → ((k : ℕ) → k < 147 → (nth k).name ≡ w → ⊥) → (ascii "transparent" ≡ w → ⊥) → look_up keywords w ≡ None
unfolding look_up
look_unknown w f g = look_none w keywords (λ j l. f j (omega (arith, table_count))) ∙ simp (same_not w (ascii "transparent") g)

-- a name is itself in lower case, so that another word is no name as it is written
table_lowered : (k : ℕ) → k < 147 → lowered (nth k).name ≡ (nth k).name
unfolding keywords same lower_of within
table_lowered k h = same_eq _ _ (sym (holds_true _ (across (λ j. same (lowered (nth j).name) (nth j).name) 0 147 tt k (omega arith) (omega arith))))

look_other : (w : List ℕ) → (lowered w ≡ w → ⊥) → look_up keywords w ≡ None
unfolding lower_of within
look_other w f = look_unknown w (λ k h e. f (rw (← e) (table_lowered k h))) (λ e. f (rw (← e) refl))

named_lowered : (w : List ℕ) → lowered w ≡ w → named_of w ≡ look_up keywords w
unfolding named_of
named_lowered w h = ap (look_up keywords) h

-- what is looked up is the word as it is written
module _ (w : List ℕ) {r : Option ℕ} (p : r ≡ named_number (look_up keywords w)) where
  -- it is found
  pub written_found : is_some r ≡ true → r ≡ named_number (named_of w)
  unfolding named_number
  written_found h =
      either (same (lowered w) w) (λ e. p ∙ ap named_number (sym (named_lowered w (same_eq (lowered w) w e))))
      (λ e.
      let f : lowered w ≡ w → ⊥ =
      λ q. let t : true ≡ false = sym (same_refl w) ∙ (ap (λ v. same v w) (sym q) ∙ e) in let z : ◌≡◌ {A = ℕ} 0 1 = cc in omega arith in
      let t : true ≡ false = sym h ∙ (ap is_some p ∙ ap (λ n. is_some (named_number n)) (look_other w f)) in
      let z : ◌≡◌ {A = ℕ} 0 1 = cc in absurd (omega arith))

  -- it has no capitals
  pub written_small : list_any is_upper w ≡ false → r ≡ named_number (named_of w)
  written_small t = p ∙ ap named_number (sym (named_lowered w (lowered_small w t)))

-- a word that is longer than every name
table_short : (k : ℕ) → k < 147 → length (nth k).name ≤ 20
unfolding keywords
table_short k h = leb-true _ 20 (sym (holds_true _ (across (λ j. leb (length (nth j).name) 20) 0 147 tt k (omega arith) (omega arith))))

pub written_long : (w : List ℕ) → 20 < length w → None ≡ named_number (named_of w)
unfolding named_number named_of
written_long w h =
    let n : length (lowered w) ≡ length w = length-map w lower_of in
    simp (look_unknown (lowered w) (λ k l e. omega (arith, table_short k l, ap length e)) (λ e. omega (arith, ap length e)))

pub ruleset written = (written_found, written_small, written_long)
