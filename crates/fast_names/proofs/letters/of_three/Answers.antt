use Rattle.names.specs.Keywords.{keywords}
use Rattle.fast_names.specs.Named.{named_number}
use Rattle.packed.specs.Numbers.{color_number}
use Rattle.fast_names.specs.Letters.{three, found, of_length, of_three}
use Rattle.fast_names.proofs.Arms.{three_none}
use borrow.Author.Rules.{rules}
use Rattle.fast_names.proofs.letters.of_three.Goals as goal

pub returns-in_default : goal.returns-in_default
unfolding of_three of_length found keywords three named_number color_number
returns-in_default c = three_none c.args.k (search rules) tt
