use mathlib.Core.List.{[], ◌∷◌}
use Rattle.names.specs.Keywords.{keywords}
use Rattle.fast_names.specs.Named.{named_number}
use Rattle.packed.specs.Numbers.{color_number}
use Rattle.fast_names.specs.Letters.{four, head, tail, found, of_length, of_long}
use Rattle.fast_names.proofs.Arms.{NoneOf, long_none}
use borrow.Author.Rules.{rules}
use Rattle.fast_names.proofs.letters.of_nine.Goals as goal

pub returns-in_default : goal.returns-in_default
unfolding of_long of_length found keywords head tail four named_number color_number
returns-in_default c =
    let u : NoneOf c.args.k (8316300737121514868 ∷ 8461246017619457139 ∷ 7310018830617635955 ∷ 7021788454465924211 ∷ 8461245987806080115 ∷ 8461246017553657714 ∷ 8606223180198276978 ∷ 7382930757790033264 ∷ 7306371758887297392 ∷ 7310016640083653231 ∷ 7021785155965119599 ∷ 8317992902746925421 ∷ 7018141365807507821 ∷ 7306371758887364972 ∷ 7956013861996816748 ∷ 7310018894841211244 ∷ 7021788518689499500 ∷ 7023754445479962988 ∷ 8461246052029655404 ∷ 7306371759039013228 ∷ 7310026509834808937 ∷ 8030602467310595943 ∷ 8245917690651828583 ∷ 7163382449243842918 ∷ 7737580445372670308 ∷ 7306371758988353892 ∷ 8386103206805989475 ∷ 8461246051979125091 ∷ 8029768024019072354 ∷ 8461245987521391713 ∷ []) = search rules in
    long_none 9 c.args.k c.args.l u tt
