-- THE EIGHT SHAPES spell the strict trees of CSS Color 3 and 4: `tree_walks` and `walk-tree`.
use Prim.Native.Nat.{ℕ, ◌+◌, ◌≤◌, ◌<◌}
use mathlib.Core.Bool.{true, false}
use mathlib.Core.List.{List, [], ◌∷◌, ◌++◌, append-nil}
use mathlib.Core.Path.{◌≡◌, refl, sym}
use native.Mathlib.Omega.{arith}
use lib.Dec.{lit≤}
use Rattle.text_bytes.specs.Bytes.{within, is_lower}
use Rattle.std.specs.Prelude.{Ok}
use Rattle.shapes.specs.Walk.{walk}
use Rattle.strict.specs.Shapes as S
use Rattle.shapes.specs.declared.Atom.{Atom}
use Rattle.shapes.specs.declared.Atom.TheVariants as A
use Rattle.shapes.proofs.Fair.{never}
use Rattle.shapes.proofs.Parts.{Takes, walk_parts, parts_walk}
use Rattle.strict.proofs.Shaped.{rgb_whole_well, rgb_percent_well, rgba_whole_well, rgba_percent_well, hsl_well, hsla_well}
use Rattle.standards.specs.Written.{ascii}
use Rattle.standards.specs.CssValues3.{Blank, blanks, Digits, whole, dotted, absent, exponent, Number, number, percentage, joined, fraction_digits, is_whole, sign, power, falls}
use Rattle.standards.specs.CssValues3 as CV
use Rattle.standards.specs.CssColor3.{Spelling, spelling, Integer, as_number, integer, Spaced, spaced, Rgb, integers, percentages, Hsl, rgb_values, hsl_values, Functional, functional}
use Rattle.standards.specs.CssColor3 as K
use Rattle.standards.specs.Domain.{InDomain, AllInDomain}
use Rattle.standards.specs.Colors.{function, colour}
use Rattle.standards.proofs.Runs.{every}
use Rattle.strict_trees.specs.StrictColors.{Plain, AllPlain, Strict}
use Rattle.strict_trees.proofs.Takings.{Whole, number_take, take_number}
use Rattle.strict_trees.proofs.Spells.{Spells, atom, both, change, about, in_spaces, byte, name}

-- a whole number, and a number with no exponent, in the domain
abbrev Int : Type 0
Int = (i : Integer) × InDomain (as_number i)

abbrev Num : Type 0
Num = (n : Number) × (Plain n × InDomain n)

whole_takes : (p : Int) → Takes (A.Number false) (integer p.0)
unfolding number exponent joined fraction_digits is_whole
whole_takes p =
    let i : Integer = p.0 in
    rw (← append-nil (CV.digits (whole i.first i.others))) at (number_take false i.signed (whole i.first i.others) p.1.small (omega arith) (λ e. sym e))

taken_whole : (l : List ℕ) → Takes (A.Number false) l → (p : Int) × (l ≡ integer p.0)
unfolding number exponent joined fraction_digits is_whole power falls
taken_whole l t = let v : Whole false l = take_number false l t in go v.tree v.is v.low v.dotless
  where
    go : (x : Digits) → l ≡ sign (take_number false l t).signed ++ CV.digits x → joined x < 9007199254740992 → (is_whole x ≡ false → false ≡ true) → (p : Int) × (l ≡ integer p.0)
    go (whole d ds) e h k = (
      (record { signed = (take_number false l t).signed; first = d; others = ds }, record { small = h; near = (omega arith, omega arith) }),
      rw (append-nil (CV.digits (whole d ds))) e,
    )
    go (dotted ds f fs) e h k = never (k refl)

pub whole_spells : Spells S.whole Int (λ p. integer p.0)
whole_spells = atom (A.Number false) (λ (p : Int). integer p.0) whole_takes taken_whole

number_takes : (p : Num) → Takes (A.Number true) (number p.0)
unfolding number exponent power falls
number_takes p =
    let n : Number = p.0 in
    let f : (CV.falls n.exponent_part ≡ false) = rw p.1.0 refl in
    let few : fraction_digits n.digits_of ≤ 22 = few_of n p.1.0 p.1.1 in
    let e : CV.digits n.digits_of ++ exponent n.exponent_part ≡ CV.digits n.digits_of = rw p.1.0 (append-nil (CV.digits n.digits_of)) in
    rw (← e) at (number_take true n.signed n.digits_of p.1.1.small few (λ k. refl))
  where
    few_of : (n : Number) → Plain n → InDomain n → fraction_digits n.digits_of ≤ 22
    few_of n q d = let z : (0 ≤ fraction_digits n.digits_of + 22) × (fraction_digits n.digits_of ≤ 0 + 22) = rw q at d.near in omega arith

taken_number : (l : List ℕ) → Takes (A.Number true) l → (p : Num) × (l ≡ number p.0)
unfolding number exponent power falls
taken_number l t = let v : Whole true l = take_number true l t in (
  (record { signed = v.signed; digits_of = v.tree; exponent_part = absent }, (refl, record { small = v.low; near = (omega arith, omega (arith, v.few)) })),
  rw (append-nil (CV.digits v.tree)) v.is,
)

pub number_spells : Spells S.number Num (λ p. number p.0)
number_spells = atom (A.Number true) (λ (p : Num). number p.0) number_takes taken_number

pub percent_spells : Spells S.percent Num (λ p. percentage p.0)
percent_spells = change (λ (p : Num). percentage p.0) (both number_spells (byte 37 (lit≤ tt))) (λ p. (p, tt)) (λ p. refl) (λ p. p.0) (λ p. refl)

-- a value in its white space
abbrev SInt : Type 0
SInt = (v : Spaced Integer) × InDomain (as_number v.value)

abbrev SNum : Type 0
SNum = (v : Spaced Number) × (Plain v.value × InDomain v.value)

abbrev Three : Type 0 → Type 0 → Type 0 → Type 0
Three X Y Z = X × (Y × Z)

comma_then : {xs : List Atom} {X : Type 0} (f : X → List ℕ) → Spells xs X f → Spells (A.Byte 44 ∷ xs) X (λ x. 44 ∷ f x)
comma_then {X} f u = change (λ (x : X). 44 ∷ f x) (both (byte 44 (lit≤ tt)) u) (λ x. (tt, x)) (λ x. refl) (λ p. p.1) (λ p. refl)

bracket_after : {xs : List Atom} {X : Type 0} (f : X → List ℕ) → Spells xs X f → Spells (xs ++ (A.Byte 41 ∷ [])) X (λ x. f x ++ (41 ∷ []))
bracket_after {X} f u = change (λ (x : X). f x ++ (41 ∷ [])) (both u (byte 41 (lit≤ tt))) (λ x. (x, tt)) (λ x. refl) (λ p. p.0) (λ p. refl)

module _ {xs ys zs : List Atom} {X Y Z : Type 0} {f : X → List ℕ} {g : Y → List ℕ} {h : Z → List ℕ} where
  listed_spells : Spells xs X f → Spells ys Y g → Spells zs Z h
      → Spells (xs ++ (A.Byte 44 ∷ (ys ++ (A.Byte 44 ∷ zs)))) (Three X Y Z) (λ p. f p.0 ++ (44 ∷ (g p.1.0 ++ (44 ∷ h p.1.1))))
  listed_spells u v w = both u (comma_then (λ (p : Y × Z). g p.0 ++ (44 ∷ h p.1)) (both v (comma_then h w)))

-- a name, a bracket, values, a bracket
named : {xs : List Atom} {X : Type 0} (n : List ℕ) → every is_lower n ≡ true → (f : X → List ℕ) → Spells xs X f → Spells (S.word n ++ (A.Byte 40 ∷ xs)) (Spelling n × X) (λ p. spelling p.0 ++ (40 ∷ f p.1))
named {X} n e f u = both (name n e) (change (λ (x : X). 40 ∷ f x) (both (byte 40 (lit≤ tt)) u) (λ x. (tt, x)) (λ x. refl) (λ p. p.1) (λ p. refl))

int : Spells (S.around S.whole) SInt (λ p. spaced integer p.0)
int = in_spaces {P = λ i. InDomain (as_number i)} integer whole_spells

num : Spells (S.around S.number) SNum (λ p. spaced number p.0)
num = in_spaces {P = λ n. Plain n × InDomain n} number number_spells

per : Spells (S.around S.percent) SNum (λ p. spaced percentage p.0)
per = in_spaces {P = λ n. Plain n × InDomain n} percentage percent_spells

-- the three lists of values
abbrev ints : Three SInt SInt SInt → Rgb
ints p = integers p.0.0 p.1.0.0 p.1.1.0

abbrev pers : Three SNum SNum SNum → Rgb
pers p = percentages p.0.0 p.1.0.0 p.1.1.0

abbrev hues : Three SNum SNum SNum → Hsl
hues p = record { hue = p.0.0; saturation = p.1.0.0; lightness = p.1.1.0 }

ints_spell : Spells (S.listed S.whole S.whole S.whole) (Three SInt SInt SInt) (λ p. rgb_values (ints p))
unfolding rgb_values
ints_spell = listed_spells int int int

pers_spell : Spells (S.listed S.percent S.percent S.percent) (Three SNum SNum SNum) (λ p. rgb_values (pers p))
unfolding rgb_values
pers_spell = listed_spells per per per

hues_spell : Spells (S.listed S.number S.percent S.percent) (Three SNum SNum SNum) (λ p. hsl_values (hues p))
unfolding hsl_values
hues_spell = listed_spells num per per

-- with no alpha, and with one
module _ {vs : List Atom} {X : Type 0} (f : X → List ℕ) (u : Spells vs X f) (n : List ℕ) (e : every is_lower n ≡ true) where
  call_spells : Spells (S.call n vs) (Spelling n × X) (λ p. spelling p.0 ++ (40 ∷ (f p.1 ++ (41 ∷ []))))
  call_spells = named n e (λ (x : X). f x ++ (41 ∷ [])) (bracket_after f u)

  alpha_spells : Spells (S.call_alpha n vs) (Spelling n × (X × SNum)) (λ p. spelling p.0 ++ (40 ∷ (f p.1.0 ++ (44 ∷ (spaced number p.1.1.0 ++ (41 ∷ []))))))
  alpha_spells =
      named n e (λ (p : X × SNum). f p.0 ++ (44 ∷ (spaced number p.1.0 ++ (41 ∷ []))))
      (both u (comma_then (λ (a : SNum). spaced number a.0 ++ (41 ∷ [])) (bracket_after (λ (a : SNum). spaced number a.0) num)))

-- THE SIX FUNCTIONS, in their white space
pub rgb_whole_is : Spells S.rgb_whole (Spaced (Spelling (ascii "rgb") × Three SInt SInt SInt)) (spaced (λ p. functional (K.rgb p.0 (ints p.1))))
unfolding functional within
rgb_whole_is = about (λ (p : Spelling (ascii "rgb") × Three SInt SInt SInt). functional (K.rgb p.0 (ints p.1))) (call_spells (λ (p : Three SInt SInt SInt). rgb_values (ints p)) ints_spell (ascii "rgb") refl)

pub rgb_percent_is : Spells S.rgb_percent (Spaced (Spelling (ascii "rgb") × Three SNum SNum SNum)) (spaced (λ p. functional (K.rgb p.0 (pers p.1))))
unfolding functional within
rgb_percent_is = about (λ (p : Spelling (ascii "rgb") × Three SNum SNum SNum). functional (K.rgb p.0 (pers p.1))) (call_spells (λ (p : Three SNum SNum SNum). rgb_values (pers p)) pers_spell (ascii "rgb") refl)

pub hsl_plain : Spells S.hsl (Spaced (Spelling (ascii "hsl") × Three SNum SNum SNum)) (spaced (λ p. functional (K.hsl p.0 (hues p.1))))
unfolding functional within
hsl_plain = about (λ (p : Spelling (ascii "hsl") × Three SNum SNum SNum). functional (K.hsl p.0 (hues p.1))) (call_spells (λ (p : Three SNum SNum SNum). hsl_values (hues p)) hues_spell (ascii "hsl") refl)

pub rgba_whole_is : Spells S.rgba_whole (Spaced (Spelling (ascii "rgba") × (Three SInt SInt SInt × SNum))) (spaced (λ p. functional (K.rgba p.0 (ints p.1.0) p.1.1.0)))
unfolding functional within
rgba_whole_is = about (λ (p : Spelling (ascii "rgba") × (Three SInt SInt SInt × SNum)). functional (K.rgba p.0 (ints p.1.0) p.1.1.0)) (alpha_spells (λ (p : Three SInt SInt SInt). rgb_values (ints p)) ints_spell (ascii "rgba") refl)

pub rgba_percent_is : Spells S.rgba_percent (Spaced (Spelling (ascii "rgba") × (Three SNum SNum SNum × SNum))) (spaced (λ p. functional (K.rgba p.0 (pers p.1.0) p.1.1.0)))
unfolding functional within
rgba_percent_is = about (λ (p : Spelling (ascii "rgba") × (Three SNum SNum SNum × SNum)). functional (K.rgba p.0 (pers p.1.0) p.1.1.0)) (alpha_spells (λ (p : Three SNum SNum SNum). rgb_values (pers p)) pers_spell (ascii "rgba") refl)

pub hsla_alpha : Spells S.hsla (Spaced (Spelling (ascii "hsla") × (Three SNum SNum SNum × SNum))) (spaced (λ p. functional (K.hsla p.0 (hues p.1.0) p.1.1.0)))
unfolding functional within
hsla_alpha = about (λ (p : Spelling (ascii "hsla") × (Three SNum SNum SNum × SNum)). functional (K.hsla p.0 (hues p.1.0) p.1.1.0)) (alpha_spells (λ (p : Three SNum SNum SNum). hsl_values (hues p)) hues_spell (ascii "hsla") refl)

-- THEOREM. The text of a strict function, in its white space, is walked to its end by its shape.
abbrev pub shape_of : Functional → List Atom
shape_of (K.rgb w (integers x y z)) = S.rgb_whole
shape_of (K.rgb w (percentages x y z)) = S.rgb_percent
shape_of (K.rgba w (integers x y z) a) = S.rgba_whole
shape_of (K.rgba w (percentages x y z) a) = S.rgba_percent
shape_of (K.hsl w t) = S.hsl
shape_of (K.hsla w t a) = S.hsla

pub tree_walks : (t : Functional) → AllInDomain t → AllPlain t → (before after : List Blank) → walk 0 (shape_of t) (blanks before ++ (functional t ++ blanks after)) ≡ Ok tt
unfolding spaced
tree_walks (K.rgb w (integers x y z)) d p before after =
    parts_walk S.rgb_whole rgb_whole_well _ (rgb_whole_is.to (record { before = before; value = (w, ((x, d.0), ((y, d.1.0), (z, d.1.1)))); after = after })) 0
tree_walks (K.rgb w (percentages x y z)) d p before after =
    parts_walk S.rgb_percent rgb_percent_well _
    (rgb_percent_is.to (record { before = before; value = (w, ((x, (p.0, d.0)), ((y, (p.1.0, d.1.0)), (z, (p.1.1, d.1.1))))); after = after })) 0
tree_walks (K.rgba w (integers x y z) a) d p before after =
    parts_walk S.rgba_whole rgba_whole_well _
    (rgba_whole_is.to (record { before = before; value = (w, (((x, d.0.0), ((y, d.0.1.0), (z, d.0.1.1))), (a, (p.1, d.1)))); after = after })) 0
tree_walks (K.rgba w (percentages x y z) a) d p before after =
    parts_walk S.rgba_percent rgba_percent_well _
    (rgba_percent_is.to (record { before = before; value = (w, (((x, (p.0.0, d.0.0)), ((y, (p.0.1.0, d.0.1.0)), (z, (p.0.1.1, d.0.1.1)))), (a, (p.1, d.1)))); after = after })) 0
tree_walks (K.hsl w t) d p before after =
    parts_walk S.hsl hsl_well _
    (hsl_plain.to (record { before = before; value = (w, ((t.hue, (p.0, d.0)), ((t.saturation, (p.1.0, d.1.0)), (t.lightness, (p.1.1, d.1.1))))); after = after })) 0
tree_walks (K.hsla w t a) d p before after =
    parts_walk S.hsla hsla_well _
    (hsla_alpha.to (record { before = before; value = (w, (((t.hue, (p.0.0, d.0.0)), ((t.saturation, (p.0.1.0, d.0.1.0)), (t.lightness, (p.0.1.1, d.0.1.1)))), (a, (p.1, d.1)))); after = after })) 0

-- THEOREM. What a shape walks to its end is the text of a strict colour.
strict_of : {X : Type 0} (s : List ℕ) (tree : X → Functional) (d : (x : X) → AllInDomain (tree x)) (p : (x : X) → AllPlain (tree x))
    → ((v : Spaced X) × (s ≡ spaced (λ x. functional (tree x)) v)) → Strict s
unfolding spaced colour
strict_of s tree d p r = record { before = r.0.before; tree = function (tree r.0.value) (d r.0.value); after = r.0.after; house = p r.0.value; is = r.1 }

module _ (s : List ℕ) where
  pub rgb_whole_tree : walk 0 S.rgb_whole s ≡ Ok tt → Strict s
  rgb_whole_tree e =
      strict_of s (λ p. K.rgb p.0 (ints p.1)) (λ p. (p.1.0.1, (p.1.1.0.1, p.1.1.1.1))) (λ p. tt) (rgb_whole_is.from s (walk_parts s 0 S.rgb_whole e))

  pub rgb_percent_tree : walk 0 S.rgb_percent s ≡ Ok tt → Strict s
  rgb_percent_tree e =
      strict_of s (λ p. K.rgb p.0 (pers p.1)) (λ p. (p.1.0.1.1, (p.1.1.0.1.1, p.1.1.1.1.1))) (λ p. (p.1.0.1.0, (p.1.1.0.1.0, p.1.1.1.1.0)))
      (rgb_percent_is.from s (walk_parts s 0 S.rgb_percent e))

  pub hsl_tree : walk 0 S.hsl s ≡ Ok tt → Strict s
  hsl_tree e =
      strict_of s (λ p. K.hsl p.0 (hues p.1)) (λ p. (p.1.0.1.1, (p.1.1.0.1.1, p.1.1.1.1.1))) (λ p. (p.1.0.1.0, (p.1.1.0.1.0, p.1.1.1.1.0)))
      (hsl_plain.from s (walk_parts s 0 S.hsl e))

  pub rgba_whole_tree : walk 0 S.rgba_whole s ≡ Ok tt → Strict s
  rgba_whole_tree e =
      strict_of s (λ p. K.rgba p.0 (ints p.1.0) p.1.1.0) (λ p. ((p.1.0.0.1, (p.1.0.1.0.1, p.1.0.1.1.1)), p.1.1.1.1)) (λ p. (tt, p.1.1.1.0))
      (rgba_whole_is.from s (walk_parts s 0 S.rgba_whole e))

  pub rgba_percent_tree : walk 0 S.rgba_percent s ≡ Ok tt → Strict s
  rgba_percent_tree e =
      strict_of s (λ p. K.rgba p.0 (pers p.1.0) p.1.1.0) (λ p. ((p.1.0.0.1.1, (p.1.0.1.0.1.1, p.1.0.1.1.1.1)), p.1.1.1.1))
      (λ p. ((p.1.0.0.1.0, (p.1.0.1.0.1.0, p.1.0.1.1.1.0)), p.1.1.1.0)) (rgba_percent_is.from s (walk_parts s 0 S.rgba_percent e))

  pub hsla_tree : walk 0 S.hsla s ≡ Ok tt → Strict s
  hsla_tree e =
      strict_of s (λ p. K.hsla p.0 (hues p.1.0) p.1.1.0) (λ p. ((p.1.0.0.1.1, (p.1.0.1.0.1.1, p.1.0.1.1.1.1)), p.1.1.1.1))
      (λ p. ((p.1.0.0.1.0, (p.1.0.1.0.1.0, p.1.0.1.1.1.0)), p.1.1.1.0)) (hsla_alpha.from s (walk_parts s 0 S.hsla e))
