use mathlib.Core.List.{[], ◌∷◌}
use Rattle.names.specs.Keywords.{keywords}
use Rattle.fast_names.specs.Named.{named_number}
use Rattle.packed.specs.Numbers.{color_number}
use Rattle.fast_names.specs.Letters.{four, head, tail, found, of_length, of_long}
use Rattle.fast_names.proofs.Arms.{NoneOf, long_none}
use borrow.Author.Rules.{rules}
use Rattle.fast_names.proofs.letters.of_ten.Goals as goal

pub returns-in_default : goal.returns-in_default
unfolding of_long of_length found keywords head tail four named_number color_number
returns-in_default c =
    let u : NoneOf c.args.k (8029200590253418615 ∷ 8030589359070536051 ∷ 7809930483616673648 ∷ 7527592476126765424 ∷ 7809925054860649837 ∷ 7310018894841211244 ∷ 8245918794357631340 ∷ 7595452113596934247 ∷ 7809930483665760100 ∷ 7813579835840815460 ∷ 7884784195970687332 ∷ 7521981625508454756 ∷ 7953764239782601060 ∷ 8459293319546103907 ∷ 7813579835740351586 ∷ 7598242643741864289 ∷ []) = search rules in
    long_none 10 c.args.k c.args.l u tt
