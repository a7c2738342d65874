-- The strict reading: what it keeps of the old one, what it accepts, and where it stops.
use Prim.Native.Nat.{ℕ, suc, ◌≤◌, ◌<◌}
use mathlib.Core.Bool.{Bool, true, false}
use mathlib.Core.List.{List, [], ◌∷◌, ◌++◌}
use mathlib.Core.Logic.{inl, inr}
use mathlib.Core.Path.{◌≡◌, refl, sym, ap, ◌∙◌}
use native.Mathlib.Omega.{arith}
use lib.ListN.{length, take}
use Rattle.std.specs.Prelude.{Result, Ok, Err}
use Rattle.stream.specs.declared.Refusal.{Refusal}
use Rattle.stream.specs.declared.Reason.TheVariants as R
use Rattle.text_bytes.specs.declared.Place.{Place}
use Rattle.text_bytes.specs.Bytes.{within}
use Rattle.text_bytes.proofs.Ranges.{and_first}
use Rattle.text_bytes.proofs.Ranges.{either}
use Rattle.color.specs.Answer.{from_str}
use Rattle.color.specs.declared.Color.{Color}
use Rattle.shapes.specs.declared.Atom.{Atom}
use Rattle.strict.specs.Answer.{furthest, shapes, marked, is_shaped, strict_of, strict_from_str}
use Rattle.shapes.proofs.Fair.{never, never_ok}
use Rattle.strict.proofs.Shaped.{three_well, six_well, rgb_whole_well, rgb_percent_well, rgba_whole_well, rgba_percent_well, hsl_well, hsla_well}
use Rattle.strict.proofs.Furthest.{Some, All, AllWell, Walks, GoesOn, Stuck, some_whole, all_stuck, some_on}
use Rattle.standards.specs.CssValues3.{Blank, blanks}
use Rattle.standards.specs.CssColor3.{spelling, integers, percentages, rgb, rgba, hsl, hsla}
use Rattle.standards.specs.CssColor4.{three, four, six, eight}
use Rattle.standards.specs.Colors.{Colour, hex, keyword, transparent, function, colour}
use Rattle.standards.proofs.Keywords.{keyword_is_name}
use Rattle.standards.proofs.Spellings.{spelled_lower}
use Rattle.standards.proofs.Palette.{channels, colour_whole}
use Rattle.strict_trees.specs.StrictColors.{IsStrict, Strict, Viable}
use Rattle.strict_trees.specs.HouseRules.{Stops}
use Rattle.strict_trees.proofs.Forms.{tree_walks, rgb_whole_tree, rgb_percent_tree, hsl_tree, rgba_whole_tree, rgba_percent_tree, hsla_tree}
use Rattle.strict_trees.proofs.Words.{keyword_unshaped, name_unmarked}
use Rattle.strict_trees.proofs.Openings.{still_shaped}
use Rattle.strict_trees.proofs.Loose.{old_other}
use Rattle.strict_trees.proofs.Hexes.{three_walks, six_walks, three_tree, six_tree}

-- THEOREM. A colour that is answered is the old reading's.
pub same_channels : (s : List ℕ) (c : Color) → strict_from_str s ≡ Ok c → from_str s ≡ Ok c
unfolding strict_from_str
same_channels s c e = go (from_str s) refl (strict_of s) refl
  where
    go : (r : Result Color Refusal) → from_str s ≡ r → (w : Result (Unit {0}) Place) → strict_of s ≡ w → from_str s ≡ Ok c
    go (Err x) q w k = never_ok (rw q at e)
    go (Ok x) q (Ok u) k = q ∙ rw (q, k) at e
    go (Ok x) q (Err p) k = never_ok (rw (q, k) at e)

-- THEOREM. What the old reading refuses is refused by it, whole.
pub old_refusal : (s : List ℕ) (x : Refusal) → from_str s ≡ Err x → strict_from_str s ≡ Err x
unfolding strict_from_str
old_refusal s x q = rw q refl

-- a keyword, or `transparent`
abbrev pub is_word : Colour → Bool
is_word (hex t) = false
is_word (keyword k h w) = true
is_word (transparent w) = true
is_word (function t d) = false

-- a strict hex colour or function is walked to its end by one of the eight
pub walks_some : (t : Colour) → IsStrict t → is_word t ≡ false → (l m : List Blank) → Some (Walks (blanks l ++ (colour t ++ blanks m))) shapes
unfolding colour
walks_some (hex (three r g b)) p e l m = inl (three_walks l m r g b)
walks_some (hex (four r g b a)) p e l m = absurd p
walks_some (hex (six r r' g g' b b')) p e l m = inr (inl (six_walks l m r r' g g' b b'))
walks_some (hex (eight r r' g g' b b' a a')) p e l m = absurd p
walks_some (keyword k h w) p e l m = never (sym e)
walks_some (transparent w) p e l m = never (sym e)
walks_some (function (rgb w (integers x y z)) d) p e l m = inr (inr (inl (tree_walks (rgb w (integers x y z)) d p l m)))
walks_some (function (rgb w (percentages x y z)) d) p e l m = inr (inr (inr (inl (tree_walks (rgb w (percentages x y z)) d p l m))))
walks_some (function (rgba w (integers x y z) a) d) p e l m = inr (inr (inr (inr (inl (tree_walks (rgba w (integers x y z) a) d p l m)))))
walks_some (function (rgba w (percentages x y z) a) d) p e l m = inr (inr (inr (inr (inr (inl (tree_walks (rgba w (percentages x y z) a) d p l m))))))
walks_some (function (hsl w t) d) p e l m = inr (inr (inr (inr (inr (inr (inl (tree_walks (hsl w t) d p l m)))))))
walks_some (function (hsla w t a) d) p e l m = inr (inr (inr (inr (inr (inr (inr (inl (tree_walks (hsla w t a) d p l m))))))))

-- and what one of them walks to its end is strict
pub some_strict : (s : List ℕ) → Some (Walks s) shapes → Strict s
some_strict s (inl e) = three_tree s e
some_strict s (inr (inl e)) = six_tree s e
some_strict s (inr (inr (inl e))) = rgb_whole_tree s e
some_strict s (inr (inr (inr (inl e)))) = rgb_percent_tree s e
some_strict s (inr (inr (inr (inr (inl e))))) = rgba_whole_tree s e
some_strict s (inr (inr (inr (inr (inr (inl e)))))) = rgba_percent_tree s e
some_strict s (inr (inr (inr (inr (inr (inr (inl e))))))) = hsl_tree s e
some_strict s (inr (inr (inr (inr (inr (inr (inr (inl e)))))))) = hsla_tree s e
some_strict s (inr (inr (inr (inr (inr (inr (inr (inr e)))))))) = absurd e

shapes_well : AllWell shapes
shapes_well = (three_well, (six_well, (rgb_whole_well, (rgb_percent_well, (rgba_whole_well, (rgba_percent_well, (hsl_well, (hsla_well, tt))))))))

some_map : (s : List ℕ) (n : ℕ) (xs : List (List Atom)) → Some (GoesOn s n) xs → (t : List ℕ) × Some (Walks (take n s ++ t)) xs
some_map s n [] e = absurd e
some_map s n (x ∷ xs) (inl e) = (e.0, inl e.1)
some_map s n (x ∷ xs) (inr e) = let r : (t : List ℕ) × Some (Walks (take n s ++ t)) xs = some_map s n xs e in (r.0, inr r.1)

none_of : (s : List ℕ) (n : ℕ) (t : List ℕ) (xs : List (List Atom)) → All (Stuck s n) xs → Some (Walks (take (suc n) s ++ t)) xs → ⊥
none_of s n t [] h e = e
none_of s n t (x ∷ xs) h (inl e) = h.0 t e
none_of s n t (x ∷ xs) h (inr e) = none_of s n t xs h.1 e

-- a keyword's text does not begin as a shape does
word_unshaped : (t : Colour) → is_word t ≡ true → (l m : List Blank) → is_shaped (blanks l ++ (colour t ++ blanks m)) ≡ false
unfolding colour within marked
word_unshaped (hex t) e l m = never e
word_unshaped (keyword k h w) e l m = keyword_unshaped l m (spelling w) (rw (spelled_lower w (and_first _ _ (keyword_is_name k h))) (name_unmarked k h))
word_unshaped (transparent w) e l m = keyword_unshaped l m (spelling w) (rw (spelled_lower w refl) refl)
word_unshaped (function t d) e l m = never e

-- how far the eight go: so far a strict text can go on, and one byte further no hex colour and no function can
module _ (s : List ℕ) (p : Place) (k : furthest shapes s 0 ≡ Err p) where
  pub far_viable : Viable (take p.0 s)
  far_viable =
      let r : (t : List ℕ) × Some (Walks (take p.0 s ++ t)) shapes = some_map s p.0 shapes (some_on s _ _ p shapes_well k) in
      record { rest = r.0; strict = some_strict (take p.0 s ++ r.0) r.1 }

  pub far_shut : is_shaped s ≡ true → p.0 < length s → Viable (take (suc p.0) s) → ⊥
  far_shut f h v =
      let w : Strict (take (suc p.0) s ++ v.rest) = v.strict in
      either (is_word w.tree)
      (λ e. never (sym (word_unshaped w.tree e w.before w.after) ∙ (ap is_shaped (sym w.is) ∙ still_shaped s f p k (suc p.0) (omega arith) v.rest)))
      (λ e. none_of s p.0 v.rest shapes (all_stuck s shapes p shapes_well k p.0 (omega arith) h) (rw (← w.is) at (walks_some w.tree w.house e w.before w.after)))

strict_whole : (t : Colour) → IsStrict t → (l m : List Blank) → strict_of (blanks l ++ (colour t ++ blanks m)) ≡ Ok tt
unfolding strict_of
strict_whole t p l m =
    let s = blanks l ++ (colour t ++ blanks m) in
    either (is_word t) (λ e. rw (word_unshaped t e l m) refl)
    (λ e. let w : furthest shapes s 0 ≡ Ok tt = some_whole s shapes 0 (walks_some t p e l m) in either (is_shaped s) (λ f. rw (f, w) refl) (λ f. rw f refl))

-- THEOREM. The strict reading refuses no strict text: it answers its channels.
pub accepts : (l m : List Blank) (t : Colour) → IsStrict t → length (blanks l ++ (colour t ++ blanks m)) ≤ 4096
    → strict_from_str (blanks l ++ (colour t ++ blanks m)) ≡ Ok (channels t)
unfolding strict_from_str
accepts l m t p h = rw (colour_whole l m t h, strict_whole t p l m) refl

same_refusal : {x y : Refusal} → ◌≡◌ {A = Result Color Refusal} (Err x) (Err y) → y ≡ x
same_refusal q = cc

-- THEOREM. What the old reading accepts and the strict one refuses is refused by 18, where no strict text can go on; nor is the text strict.
pub stops : (s : List ℕ) (c : Color) (e : Refusal) → from_str s ≡ Ok c → strict_from_str s ≡ Err e → Stops s e × (Strict s → ⊥)
unfolding strict_from_str strict_of
stops s c e q r = go (strict_of s) refl
  where
    go : (x : Result (Unit {0}) Place) → strict_of s ≡ x → Stops s e × (Strict s → ⊥)
    go (Ok u) w = never_ok (sym (rw (q, w) at r))
    go (Err p) w =
        either (is_shaped s)
        (λ f. let k : furthest shapes s 0 ≡ Err p = rw f at w in (
          record { at = p.0; is = same_refusal (rw (q, w) at r); viable = far_viable s p k; shut = far_shut s p k f },
          λ v. never_ok (sym w ∙ (ap strict_of v.is ∙ strict_whole v.tree v.house v.before v.after)),
        ))
        (λ f. never_ok (sym (rw f at w)))

-- THEOREM. A refusal by another number is the old reading's, whole.
pub old_number : (s : List ℕ) (e : Refusal) → strict_from_str s ≡ Err e → (e.reason ≡ R.NotStrict → ⊥) → from_str s ≡ Err e
old_number s e r n = go (from_str s) refl
  where
    go : (x : Result Color Refusal) → from_str s ≡ x → from_str s ≡ Err e
    go (Err x) q = q ∙ (sym (old_refusal s x q) ∙ r)
    go (Ok c) q = let v : Stops s e = (stops s c e q r).0 in absurd (n (ap (λ (y : Refusal). y.reason) v.is))

-- THEOREM. 18 stops where no strict text can go on.
pub stops_at : (s : List ℕ) (e : Refusal) → strict_from_str s ≡ Err e → e.reason ≡ R.NotStrict → Stops s e
stops_at s e r n = go (from_str s) refl
  where
    go : (x : Result Color Refusal) → from_str s ≡ x → Stops s e
    go (Ok c) q = (stops s c e q r).0
    go (Err x) q = let z : e ≡ x = same_refusal (sym (old_refusal s x q) ∙ r) in old_other s x q (rw z at n)
